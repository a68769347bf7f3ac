-- Numbers are a commutative monoid under inclusive and under exclusive or.
use Rattle.std.specs.Prelude.{◌≡◌, ℕ, ◌/◌, ◌%◌, max, bit_or, bit_xor, refl}
use Rattle.std.proofs.Common.{arith}
use Rattle.std.proofs.Math.Arith.{bin_ind}
use Rattle.std.specs.Int.Bits.{or_step, xor_assoc}
use Rattle.std.proofs.lemmas.Nat.{or_comm, xor_comm}
use Rattle.joining.specs.Laws.{CommutativeMonoid}

-- the digits of an inclusive or
or_high : (a b : ℕ) → bit_or a b / 2 ≡ bit_or (a / 2) (b / 2)
or_high a b = omega (arith, or_step a b)

or_low : (a b : ℕ) → bit_or a b % 2 ≡ max (a % 2) (b % 2)
or_low a b = omega (arith, or_step a b)

or_assoc : (a b c : ℕ) → bit_or (bit_or a b) c ≡ bit_or a (bit_or b c)
or_assoc =
    bin_ind (λ (n : ℕ). (b c : ℕ) → bit_or (bit_or n b) c ≡ bit_or n (bit_or b c)) (λ b c. refl)
    (λ n ih b c.
    let high : bit_or (bit_or n b / 2) (c / 2) ≡ bit_or (n / 2) (bit_or b c / 2) = simp or_high (ih (b / 2) (c / 2)) in
    omega (arith, high, or_step (bit_or n b) c, or_step n (bit_or b c), or_low n b, or_low b c))

-- commuting by arithmetic from the lemma, so that a law that says less of it is refused where it is needed, and not here
pub or_laws : CommutativeMonoid 0 bit_or
or_laws = record { associative = or_assoc; commutative = λ x y. omega (arith, or_comm x y); neutral_left = λ x. refl }

pub xor_laws : CommutativeMonoid 0 bit_xor
xor_laws = record { associative = xor_assoc; commutative = λ x y. omega (arith, xor_comm x y); neutral_left = λ x. refl }
