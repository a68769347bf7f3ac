-- Each kind: its values from plain numbers, its neutral value and its join.
-- A length and extremes are made of any number: one within the width is kept, and one past it is brought in.
use Rattle.std.specs.Prelude.{ℕ, ◌+◌, ◌%◌, ◌^◌, ◌<◌, ℤ, bit_or}
use Rattle.std.proofs.Common.{arith}
use Rattle.std.specs.Int.{int_min, int_max}
use Rattle.joining.specs.Deviation.{largest, smallest, nearest, nearest_fits}
use Rattle.joining.specs.declared.kinds.Length.{Length}
use Rattle.joining.specs.declared.kinds.Bits.{Bits}
use Rattle.joining.specs.declared.kinds.Extremes.{Extremes}
use Rattle.joining.specs.declared.kinds.CoilRecord.{CoilRecord}

-- ---- length: added modulo 2 ^ 64

pub low_fits : (n : ℕ) → n % 2 ^ 64 < 2 ^ 64
low_fits n = omega arith

abbrev pub length_of : ℕ → Length
length_of n = record { run = n % 2 ^ 64; fits = low_fits n }

abbrev pub no_length : Length
no_length = length_of 0

abbrev pub joint_length : Length → Length → Length
joint_length x y = length_of ((x.run + y.run) % 2 ^ 64)

-- ---- bits: joined by a rule, as marks by inclusive or and toggles by exclusive or

abbrev pub bits_of : {R : Type 0} → ℕ → Bits R
bits_of n = record { bits = n; rule = record {} }

abbrev pub joint_bits : {R : Type 0} → (ℕ → ℕ → ℕ) → Bits R → Bits R → Bits R
joint_bits operation x y = bits_of (operation x.bits y.bits)

-- ---- extremes: the smaller and the larger

abbrev pub extremes_of : ℤ → ℤ → Extremes
extremes_of low high = record { thinnest = nearest low; thickest = nearest high; thinnest_fits = nearest_fits low; thickest_fits = nearest_fits high }

abbrev pub no_extremes : Extremes
no_extremes = extremes_of largest smallest

abbrev pub joint_extremes : Extremes → Extremes → Extremes
joint_extremes x y = extremes_of (int_min x.thinnest y.thinnest) (int_max x.thickest y.thickest)

-- ---- coil record: side by side

-- one reading: its deviation is both extremes
abbrev pub reading_of : ℕ → ℤ → ℕ → CoilRecord
reading_of length deviation marks = record { length = length_of length; extremes = extremes_of deviation deviation; marks = bits_of marks }

abbrev pub no_record : CoilRecord
no_record = record { length = no_length; extremes = no_extremes; marks = bits_of 0 }

abbrev pub joint_record : CoilRecord → CoilRecord → CoilRecord
joint_record x y = record { length = joint_length x.length y.length; extremes = joint_extremes x.extremes y.extremes; marks = joint_bits bit_or x.marks y.marks }
