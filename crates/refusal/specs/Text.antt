-- Refusals as they are printed.
use Rattle.std.specs.Prelude.{ℕ, List, ◌++◌, codes, decimal}
use Rattle.refusal.specs.declared.Refusal.{Refusal}
use Rattle.refusal.specs.Refusals.{number, place}

abbrev pub number_and_place : Refusal → List ℕ
number_and_place refusal = decimal (number refusal) ++ (codes " " ++ decimal (place refusal))
