-- What the three laws give of the joining of a list.
use Rattle.std.proofs.Common.{◌≡◌, ℕ, zero, suc, ◌+◌, ◌*◌, ◌<◌, ◌≢◌, List, [], ◌∷◌, ◌++◌, length, get_or, set, fold, sym, refl, ap, ◌∙◌, ⊎_elim, arith, length-set}
use Rattle.std.specs.List.Sorted.{IsPermutation}
use Rattle.std.specs.List.{swap}
use Rattle.std.proofs.lemmas.List.{set_comm, set-get_or, set-set}
use Rattle.std.proofs.lemmas.List.Sorted.{IsPermutation-keeps}
use Rattle.std.proofs.lemmas.List.Sums.{fold-append}
use Rattle.std.proofs.lemmas.Bool.{cases_eq}
use Rattle.joining.specs.Every.{cells_in_steps}
use Rattle.joining.specs.declared.Joining.{Ghosts}
use Rattle.joining.specs.Laws.{CommutativeMonoid}
use Rattle.joining.specs.Lists.{JoiningLaws, joining_of}
use Rattle.joining.proofs.Steps.{every_at, every_set, every_within}

module _ {V : Type 0} {J : Ghosts V} (laws : CommutativeMonoid J.neutral J.joined) where
  pub right : (x : V) → J.joined x J.neutral ≡ x
  right x = laws.commutative x J.neutral ∙ laws.neutral_left x

  pub left_comm : (x y z : V) → J.joined x (J.joined y z) ≡ J.joined y (J.joined x z)
  left_comm x y z = sym (laws.associative x y z) ∙ ap (λ v. J.joined v z) (laws.commutative x y) ∙ laws.associative y x z

  -- from any value, instead of neutral
  pub joining_onto : (x : V) (xs : List V) → fold J.joined x xs ≡ J.joined x (joining_of J xs)
  joining_onto x [] = sym (right x)
  joining_onto x (y ∷ ys) =
      joining_onto (J.joined x y) ys ∙ laws.associative x y (joining_of J ys)
      ∙ ap (J.joined x) (sym (joining_onto y ys) ∙ ap (λ v. fold J.joined v ys) (sym (laws.neutral_left y)))

  pub joining_cons : (x : V) (xs : List V) → joining_of J (x ∷ xs) ≡ J.joined x (joining_of J xs)
  joining_cons x xs = ap (λ v. fold J.joined v xs) (laws.neutral_left x) ∙ joining_onto x xs

  pub joining_append : (xs ys : List V) → joining_of J (xs ++ ys) ≡ J.joined (joining_of J xs) (joining_of J ys)
  joining_append xs ys = fold-append J.joined J.neutral xs ys ∙ joining_onto (joining_of J xs) ys

  pub joining_insert : (xs : List V) (x : V) (ys : List V) → joining_of J (xs ++ (x ∷ ys)) ≡ J.joined x (joining_of J (xs ++ ys))
  joining_insert xs x ys =
      joining_append xs (x ∷ ys) ∙ ap (J.joined (joining_of J xs)) (joining_cons x ys)
      ∙ left_comm (joining_of J xs) x (joining_of J ys)
      ∙ ap (J.joined x) (sym (joining_append xs ys))

  -- a value in the place of another is joined to the rest, which is the list with neutral there
  pub joining_set : (xs : List V) (i : ℕ) (x : V) → i < length xs → joining_of J (set xs i x) ≡ J.joined x (joining_of J (set xs i J.neutral))
  joining_set [] i x h = absurd (omega arith)
  joining_set (y ∷ ys) zero x h = joining_cons x ys ∙ ap (J.joined x) (sym (joining_cons J.neutral ys ∙ laws.neutral_left (joining_of J ys)))
  joining_set (y ∷ ys) (suc i) x h =
      joining_cons y (set ys i x) ∙ ap (J.joined y) (joining_set ys i x (omega arith))
      ∙ left_comm y x (joining_of J (set ys i J.neutral))
      ∙ ap (J.joined x) (sym (joining_cons y (set ys i J.neutral)))

  -- a value joined to one of a list is joined to the joining
  pub joining_grown : (xs : List V) (i : ℕ) (d x : V) → i < length xs → joining_of J (set xs i (J.joined (get_or xs i d) x)) ≡ J.joined (joining_of J xs) x
  joining_grown xs i d x h =
      let rest : V = joining_of J (set xs i J.neutral) in
      joining_set xs i (J.joined (get_or xs i d) x) h ∙ ap (λ v. J.joined v rest) (laws.commutative (get_or xs i d) x)
      ∙ laws.associative x (get_or xs i d) rest ∙ ap (J.joined x) (sym (joining_set xs i (get_or xs i d) h) ∙ ap (joining_of J) (set-get_or xs i d))
      ∙ laws.commutative x (joining_of J xs)

  -- two values at two places come out in either order
  two_set : (xs : List V) (i j : ℕ) (x y : V) → i ≢ j → i < length xs → j < length xs → joining_of J (set (set xs i x) j y) ≡ J.joined x (J.joined y (joining_of J (set (set xs i J.neutral) j J.neutral)))
  two_set xs i j x y ne p q =
      let all : List V → V = joining_of J in
      ap all (set_comm xs i j x y ne)
      ∙ joining_set (set xs j y) i x (omega (arith, length-set xs j y))
      ∙ ap (J.joined x)
      (ap all (sym (set_comm xs i j J.neutral y ne)) ∙ joining_set (set xs i J.neutral) j y (omega (arith, length-set xs i J.neutral)))

  exchange : (xs : List V) (i j : ℕ) → i < length xs → j < length xs → joining_of J (swap xs i j) ≡ joining_of J xs
  exchange [] i j p q = refl
  exchange (d ∷ ys) i j p q =
      let xs : List V = d ∷ ys in
      let all : List V → V = joining_of J in
      let x : V = get_or xs i d in
      let y : V = get_or xs j d in
      let rest : V = all (set (set xs i J.neutral) j J.neutral) in
      let back : set (set xs i x) j y ≡ xs = ap (λ l. set l j y) (set-get_or xs i d) ∙ set-get_or xs j d in
      ⊎_elim
      (λ (e : i ≡ j). ap (λ k. all (set (set xs i (get_or xs k d)) k x)) (sym e) ∙ ap all (set-set xs i x x ∙ set-get_or xs i d))
      (λ (ne : i ≢ j). two_set xs i j y x ne p q ∙ left_comm y x rest ∙ sym (two_set xs i j x y ne p q) ∙ ap all back)
      (cases_eq i j)

  pub joining_shuffle : (xs ys : List V) → IsPermutation xs ys → joining_of J xs ≡ joining_of J ys
  joining_shuffle xs ys s =
      IsPermutation-keeps xs (λ l. joining_of J xs ≡ joining_of J l) refl (λ l i j p q h. h ∙ sym (exchange l i j p q)) ys s

  -- a value joined to one of the cells in equal steps is joined to their joining
  pub joining_every_grown : (xs : List V) (start step k i : ℕ) (d x : V) → 0 < step → i ≡ start + k * step → i < length xs → joining_of J (cells_in_steps start step (set xs i (J.joined (get_or xs i d) x))) ≡ J.joined (joining_of J (cells_in_steps start step xs)) x
  joining_every_grown xs start step k i d x some e h =
      let all : List V → V = joining_of J in
      let cells : List V = cells_in_steps start step xs in
      ap all (every_set xs start step some k i (J.joined (get_or xs i d) x) e ∙ ap (λ v. set cells k (J.joined v x)) (sym (every_at xs start step some k i d e)))
      ∙ joining_grown cells k d x (every_within xs start step some k i e h)

  pub laws_follow : JoiningLaws J
  laws_follow = record { append = joining_append; insert = joining_insert; shuffle = joining_shuffle }
