-- The range of a deviation: the one place of the specification that has its width.
use Rattle.std.specs.Prelude.{ℕ, ◌-◌, ◌^◌, ◌<◌, ℤ, pos, negsuc}
use Rattle.std.proofs.Common.{arith}
use Rattle.std.specs.Int.Signed.{mag}
use Rattle.std.specs.Int.{saturate_to_bits}

-- a deviation has a sign and so many bits
abbrev pub bits : ℕ
bits = 15

abbrev pub InRange : ℤ → Type 0
InRange d = mag d < 2 ^ bits

abbrev pub largest : ℤ
largest = pos (2 ^ bits - 1)

abbrev pub smallest : ℤ
smallest = negsuc (2 ^ bits - 1)

-- the number in range that is nearest: a number in range itself
abbrev pub nearest : ℤ → ℤ
nearest d = saturate_to_bits bits d

pub nearest_fits : (d : ℤ) → InRange (nearest d)
nearest_fits (pos n) = omega arith
nearest_fits (negsuc n) = omega arith
