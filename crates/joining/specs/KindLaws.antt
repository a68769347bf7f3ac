-- Each kind is a commutative monoid.
use Rattle.std.specs.Prelude.{◌≡◌, ℕ, Bool, true, false, cond, ℤ, int_lt}
use Rattle.std.proofs.Common.{ap, ap₂, ◌∙◌, arith}
use Rattle.std.specs.Int.{int_min, int_max}
use Rattle.std.proofs.lemmas.Int.{ints, clamps}
use Rattle.joining.specs.Deviation.{InRange, largest, smallest, nearest}
use Rattle.joining.specs.declared.kinds.Bits.{Bits}
use Rattle.joining.specs.Laws.{CommutativeMonoid}
use Rattle.joining.specs.Kinds.{no_length, joint_length, bits_of, joint_bits, extremes_of, no_extremes, joint_extremes, no_record, joint_record}
use Rattle.joining.specs.BitLaws.{or_laws}
use Rattle.joining.specs.Same.{same_length, same_extremes, nearest_itself}

pub length_laws : CommutativeMonoid no_length joint_length
length_laws = record {
  associative = λ x y z. same_length (joint_length (joint_length x y) z) (joint_length x (joint_length y z)) (omega arith);
  commutative = λ x y. same_length _ _ (omega arith);
  neutral_left = λ x. same_length (joint_length no_length x) x (omega arith);
}

pub bits_laws : {R : Type 0} {operation : ℕ → ℕ → ℕ} → CommutativeMonoid 0 operation → CommutativeMonoid {V = Bits R} (bits_of 0) (joint_bits operation)
bits_laws laws = record {
  associative = λ x y z. ap bits_of (laws.associative x.bits y.bits z.bits);
  commutative = λ x y. ap bits_of (laws.commutative x.bits y.bits);
  neutral_left = λ x. ap bits_of (laws.neutral_left x.bits);
}

-- of two numbers in range the chosen one is in range, so its own nearest
nearest_chosen : (t : Bool) (a b : ℤ) → InRange a → InRange b → nearest (cond t a b) ≡ cond t a b
nearest_chosen true a b p q = nearest_itself a p
nearest_chosen false a b p q = nearest_itself b q

min_assoc : (a b c : ℤ) → InRange a → InRange b → InRange c → int_min (nearest (int_min a b)) c ≡ int_min a (nearest (int_min b c))
min_assoc a b c p q r = simp (nearest_chosen (int_lt b a) b a q p, nearest_chosen (int_lt c b) c b r q) (omega (arith, ints, clamps))

max_assoc : (a b c : ℤ) → InRange a → InRange b → InRange c → int_max (nearest (int_max a b)) c ≡ int_max a (nearest (int_max b c))
max_assoc a b c p q r = simp (nearest_chosen (int_lt b a) a b p q, nearest_chosen (int_lt c b) b c q r) (omega (arith, ints, clamps))

pub extremes_laws : CommutativeMonoid no_extremes joint_extremes
extremes_laws = record {
  associative = λ x y z.
      ap₂ extremes_of
      (min_assoc x.thinnest y.thinnest z.thinnest x.thinnest_fits y.thinnest_fits z.thinnest_fits)
      (max_assoc x.thickest y.thickest z.thickest x.thickest_fits y.thickest_fits z.thickest_fits);
  commutative = λ x y. ap₂ extremes_of (omega (arith, ints, clamps)) (omega (arith, ints, clamps));
  neutral_left = λ x.
      let low : int_min largest x.thinnest ≡ x.thinnest = omega (arith, ints, clamps, x.thinnest_fits) in
      let high : int_max smallest x.thickest ≡ x.thickest = omega (arith, ints, clamps, x.thickest_fits) in
      same_extremes (joint_extremes no_extremes x) x (ap nearest low ∙ nearest_itself _ x.thinnest_fits) (ap nearest high ∙ nearest_itself _ x.thickest_fits);
}

pub record_laws : CommutativeMonoid no_record joint_record
record_laws = record {
  associative = λ x y z i. record {
    length = length_laws.associative x.length y.length z.length i;
    extremes = extremes_laws.associative x.extremes y.extremes z.extremes i;
    marks = (bits_laws or_laws).associative x.marks y.marks z.marks i;
  };
  commutative = λ x y i. record {
    length = length_laws.commutative x.length y.length i;
    extremes = extremes_laws.commutative x.extremes y.extremes i;
    marks = (bits_laws or_laws).commutative x.marks y.marks i;
  };
  neutral_left = λ x i. record {
    length = length_laws.neutral_left x.length i;
    extremes = extremes_laws.neutral_left x.extremes i;
    marks = (bits_laws or_laws).neutral_left x.marks i;
  };
}
