-- The highest of some temperatures, joined in any order.
use Rattle.std.specs.Prelude.{ℕ, max}
use Rattle.std.proofs.Common.{ap, arith}
use Rattle.joining.specs.Laws.{CommutativeMonoid}
use Rattle.calling.specs.declared.own_kind.Hottest.{Hottest}

abbrev pub hottest_of : ℕ → Hottest
hottest_of degrees = record { degrees = degrees }

-- the hotter of two
abbrev pub hotter : Hottest → Hottest → Hottest
hotter x y = hottest_of (max x.degrees y.degrees)

-- the three laws that every kind owes
pub hottest_laws : CommutativeMonoid (hottest_of 0) hotter
hottest_laws = record {
  associative = λ x y z. ap hottest_of (omega arith);
  commutative = λ x y. ap hottest_of (omega arith);
  neutral_left = λ x. ap hottest_of (omega arith);
}
