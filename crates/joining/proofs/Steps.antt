-- The cells of a list in equal steps: one after the other, by their places, and after a write.
use Rattle.std.proofs.Common.{◌≡◌, ℕ, zero, suc, ◌+◌, ◌-◌, ◌*◌, ◌<◌, ◌≤◌, max, ◌≢◌, List, [], ◌∷◌, length, get_or, set, refl, ap, ◌∙◌, suc-mul, suc-add, zero-add, zero-mul, arith}
use Rattle.joining.specs.Every.{cells_after, cells_in_steps}

module _ {V : Type 0} where
  taken_more : (xs : List V) (i gap : ℕ) (d : V) → i < length xs → cells_after i gap xs ≡ get_or xs i d ∷ cells_after (i + suc gap) gap xs
  taken_more [] i gap d h = absurd (omega arith)
  taken_more (x ∷ xs) zero gap d h = rw zero-add refl
  taken_more (x ∷ xs) (suc i) gap d h = rw suc-add (taken_more xs i gap d (omega arith))

  taken_past : (xs : List V) (i gap : ℕ) → length xs ≤ i → cells_after i gap xs ≡ []
  taken_past [] i gap h = refl
  taken_past (x ∷ xs) zero gap h = absurd (omega arith)
  taken_past (x ∷ xs) (suc i) gap h = taken_past xs i gap (omega arith)

  -- the k-th that is taken is the cell at i, and a write to that cell is one to it
  taken_at : (xs : List V) (skip gap k i : ℕ) → i ≡ skip + k * suc gap → ((d : V) → get_or (cells_after skip gap xs) k d ≡ get_or xs i d) × ((v : V) → cells_after skip gap (set xs i v) ≡ set (cells_after skip gap xs) k v) × (i < length xs → k < length (cells_after skip gap xs))
  taken_at [] skip gap k i e = (λ d. refl, λ v. refl, λ h. absurd (omega arith))
  taken_at (x ∷ xs) zero gap zero zero e = (λ d. refl, λ v. refl, λ h. omega arith)
  taken_at (x ∷ xs) zero gap zero (suc i) e = absurd (omega (arith, zero-mul (suc gap)))
  taken_at (x ∷ xs) zero gap (suc k) zero e = absurd (omega (arith, suc-mul k (suc gap)))
  taken_at (x ∷ xs) zero gap (suc k) (suc i) e =
      let rest = taken_at xs gap gap k i (omega (arith, suc-mul k (suc gap))) in
      (rest.0, λ v. ap (λ ys. x ∷ ys) (rest.1 v), λ h. omega (arith, rest.2 (omega arith)))
  taken_at (x ∷ xs) (suc skip) gap k zero e = absurd (omega arith)
  taken_at (x ∷ xs) (suc skip) gap k (suc i) e =
      let rest = taken_at xs skip gap k i (omega arith) in
      (rest.0, rest.1, λ h. rest.2 (omega arith))

  taken_other : (xs : List V) (skip gap i : ℕ) (v : V) → ((k : ℕ) → i ≢ skip + k * suc gap) → cells_after skip gap (set xs i v) ≡ cells_after skip gap xs
  taken_other [] skip gap i v none = refl
  taken_other (x ∷ xs) zero gap zero v none = absurd (none 0 (omega (arith, zero-mul (suc gap))))
  taken_other (x ∷ xs) zero gap (suc i) v none = ap (λ ys. x ∷ ys) (taken_other xs gap gap i v (λ k e. none (suc k) (omega (arith, suc-mul k (suc gap)))))
  taken_other (x ∷ xs) (suc skip) gap zero v none = refl
  taken_other (x ∷ xs) (suc skip) gap (suc i) v none = taken_other xs skip gap i v (λ k e. none k (omega arith))

  -- the cell at i, and then those from i on by one stride
  pub every_more : (xs : List V) (i step stride : ℕ) (d : V) → stride ≡ max step 1 → i < length xs → cells_in_steps i step xs ≡ get_or xs i d ∷ cells_in_steps (i + stride) step xs
  every_more xs i step stride d e h =
      let on : i + suc (step - 1) ≡ i + stride = omega arith in
      taken_more xs i (step - 1) d h ∙ ap (λ k. get_or xs i d ∷ cells_after k (step - 1) xs) on

  pub every_past : (xs : List V) (i step : ℕ) → length xs ≤ i → cells_in_steps i step xs ≡ []
  every_past xs i step h = taken_past xs i (step - 1) h

  module _ (xs : List V) (start step : ℕ) (some : 0 < step) where
    stride : (k i : ℕ) → i ≡ start + k * step → i ≡ start + k * suc (step - 1)
    stride k i e =
        let same : step ≡ suc (step - 1) = omega arith in
        e ∙ ap (λ s. start + k * s) same

    pub every_at : (k i : ℕ) (d : V) → i ≡ start + k * step → get_or (cells_in_steps start step xs) k d ≡ get_or xs i d
    every_at k i d e = (taken_at xs start (step - 1) k i (stride k i e)).0 d

    pub every_set : (k i : ℕ) (v : V) → i ≡ start + k * step → cells_in_steps start step (set xs i v) ≡ set (cells_in_steps start step xs) k v
    every_set k i v e = (taken_at xs start (step - 1) k i (stride k i e)).1 v

    pub every_within : (k i : ℕ) → i ≡ start + k * step → i < length xs → k < length (cells_in_steps start step xs)
    every_within k i e h = (taken_at xs start (step - 1) k i (stride k i e)).2 h

    pub every_other : (i : ℕ) (v : V) → ((k : ℕ) → i ≢ start + k * step) → cells_in_steps start step (set xs i v) ≡ cells_in_steps start step xs
    every_other i v none =
        let same : suc (step - 1) ≡ step = omega arith in
        taken_other xs start (step - 1) i v (λ k e. none k (e ∙ ap (λ s. start + k * s) same))
