-- Values of each kind as they are printed.
use Rattle.std.specs.Prelude.{ℕ, List, ◌++◌, codes, decimal}
use Rattle.std.specs.Fmt.{signed_decimal}
use Rattle.joining.specs.declared.kinds.Length.{Length}
use Rattle.joining.specs.declared.kinds.Bits.{Bits}
use Rattle.joining.specs.declared.kinds.Extremes.{Extremes}
use Rattle.joining.specs.declared.kinds.CoilRecord.{CoilRecord}

abbrev pub length_text : Length → List ℕ
length_text x = decimal x.run

abbrev pub bits_text : {R : Type 0} → Bits R → List ℕ
bits_text x = decimal x.bits

-- the smaller first
abbrev pub extremes_text : Extremes → List ℕ
extremes_text x = signed_decimal x.thinnest ++ (codes " " ++ signed_decimal x.thickest)

-- length, thinnest, thickest, marks
abbrev pub record_text : CoilRecord → List ℕ
record_text r = length_text r.length ++ (codes " " ++ (extremes_text r.extremes ++ (codes " " ++ bits_text r.marks)))
