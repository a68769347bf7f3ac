pub mod Ring
pub mod OneSlot
pub mod CellSlots
pub mod Filled
pub mod OwnCells
pub mod Meant
