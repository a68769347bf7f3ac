-- What a commutative monoid is.
use Rattle.std.specs.Prelude.{◌≡◌}

-- three laws of a join and its neutral value
pub record CommutativeMonoid {V : Type 0} (neutral : V) (join : V → V → V) : Type 0 where
  pub associative : (x y z : V) → join (join x y) z ≡ join x (join y z)
  pub commutative : (x y : V) → join x y ≡ join y x
  pub neutral_left : (x : V) → join neutral x ≡ x
