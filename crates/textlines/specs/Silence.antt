-- Lines that say nothing.
use Rattle.std.specs.Prelude.{ℕ, ◌==◌, Bool, ◌||◌, List, slice_index}
use Rattle.std.specs.List.{list_all}

-- a space or a tab
abbrev pub is_blank : ℕ → Bool
is_blank byte = (byte == 32) || (byte == 9)

abbrev pub is_comment : List ℕ → Bool
is_comment line = slice_index line 0 == 35

-- a line that starts with `#`, or has nothing but spaces and tabs
abbrev pub says_nothing : List ℕ → Bool
says_nothing line = is_comment line || list_all is_blank line
