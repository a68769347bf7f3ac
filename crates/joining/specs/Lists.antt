-- What a list of values comes to, and what follows from the laws for lists.
use Rattle.std.specs.Prelude.{◌≡◌, List, ◌∷◌, ◌++◌, fold}
use Rattle.std.specs.List.Sorted.{IsPermutation}
use Rattle.joining.specs.declared.Joining.{Ghosts}

-- the joining of a list: from the neutral value of J, each value joined in turn
abbrev pub joining_of : {V : Type 0} → Ghosts V → List V → V
joining_of J xs = fold J.joined J.neutral xs

pub record JoiningLaws {V : Type 0} (J : Ghosts V) : Type 0 where
  -- one list after another comes to the two joinings, joined
  pub append : (xs ys : List V) → joining_of J (xs ++ ys) ≡ J.joined (joining_of J xs) (joining_of J ys)
  -- one more value, at any place, is joined to the rest
  pub insert : (xs : List V) (x : V) (ys : List V) → joining_of J (xs ++ (x ∷ ys)) ≡ J.joined x (joining_of J (xs ++ ys))
  -- order does not matter
  pub shuffle : (xs ys : List V) → IsPermutation xs ys → joining_of J xs ≡ joining_of J ys
