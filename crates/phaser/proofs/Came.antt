-- A station's view as a function of the calls still to come.
use Rattle.std.proofs.Common.{◌≡◌, ℕ, zero, suc, ◌-◌, true, ◌⊎◌, List, [], ◌∷◌, length, drop, Some, Option, sym, ap, ◌∙◌, subst, ap₂, subst₂, inl, inr, arith}
use Rattle.std.proofs.lemmas.List.{length-drop}
use Rattle.std.specs.List.{slice_get}
use Rattle.calls.specs.declared.views.View.{View}
use Rattle.calls.specs.declared.actions.Action.{Action}
use Rattle.phaser.specs.Histories.{entrant}
use Rattle.phaser.proofs.Entries.{has}
use Rattle.phaser.proofs.Effects.{own, entry}

-- with these calls of station k still to come, its seat is o: calls k is the whole list of k's accepted calls
pub data Came {V : Type 0} (calls : ℕ → List (Action V)) (first : ℕ) (start : View) : ℕ → List (Action V) → Option View → Type 0 where
  came_first : (k : ℕ) (rest : List (Action V)) (o : Option View) → k ≡ first → rest ≡ calls k → o ≡ Some start → Came calls first start k rest o
  came_own : (k : ℕ) (rest : List (Action V)) (o : Option View) (x : Action V) (w : View) → Came calls first start k (x ∷ rest) (Some w) → o ≡ own w x → Came calls first start k rest o
  came_in : (k : ℕ) (rest : List (Action V)) (o : Option View) (j : ℕ) (x : Action V) (left : List (Action V)) (w : View) →
      Came calls first start j (x ∷ left) (Some w) → has k (entrant x) ≡ true → rest ≡ calls k → o ≡ Some (entry w x) → Came calls first start k rest o

pub drop_step : {X : Type 0} (i : ℕ) (xs : List X) (y : X) (ys : List X) → y ∷ ys ≡ drop i xs → (ys ≡ drop (suc i) xs) × (slice_get xs i ≡ Some y)
drop_step zero [] y ys e = let z : ◌≡◌ {A = ℕ} 0 1 = cc in absurd (omega arith)
drop_step zero (x ∷ xs) y ys e = (let q : ys ≡ xs = cc in q, let q : x ≡ y = cc in ap Some q)
drop_step (suc i) [] y ys e = let z : ◌≡◌ {A = ℕ} 0 1 = cc in absurd (omega arith)
drop_step (suc i) (x ∷ xs) y ys e = drop_step i xs y ys e

module _ {V : Type 0} (calls : ℕ → List (Action V)) (first : ℕ) (start : View) where
  -- what is still to come is an end of the whole
  pub came_drop : {k : ℕ} {rest : List (Action V)} {o : Option View} → Came calls first start k rest o → (i : ℕ) × (rest ≡ drop i (calls k))
  came_drop (came_first k rest o e r q) = (0, r)
  came_drop (came_own k rest o x w c q) = let d = came_drop c in (suc d.0, (drop_step d.0 (calls k) x rest d.1).0)
  came_drop (came_in k rest o j x left w c b r q) = (0, r)

  -- a station with a view was the first or was brought in
  pub came_entered : {k : ℕ} {rest : List (Action V)} {o : Option View} → Came calls first start k rest o →
      (k ≡ first) ⊎ ((j i : ℕ) × (y : Action V) × (slice_get (calls j) i ≡ Some y) × (has k (entrant y) ≡ true))
  came_entered (came_first k rest o e r q) = inl e
  came_entered (came_own k rest o x w c q) = came_entered c
  came_entered (came_in k rest o j x left w c b r q) = let d = came_drop c in inr (j, d.0, x, (drop_step d.0 (calls j) x left d.1).1, b)

  -- two ends of one list that are as long are the same
  same_end : (k : ℕ) (x y : Action V) (rest : List (Action V)) (i l : ℕ) → x ∷ rest ≡ drop i (calls k) → y ∷ rest ≡ drop l (calls k) → x ≡ y
  same_end k x y rest i l e f =
      let a : suc (length rest) ≡ length (calls k) - i = ap length e ∙ length-drop i (calls k) in
      let b : suc (length rest) ≡ length (calls k) - l = ap length f ∙ length-drop l (calls k) in
      let q : i ≡ l = omega arith in
      let d : drop i (calls k) ≡ drop l (calls k) = ap (λ (n : ℕ). drop n (calls k)) q in
      cc

  too_long : (k : ℕ) (x : Action V) (rest : List (Action V)) (i : ℕ) → x ∷ rest ≡ drop i (calls k) → ¬ (rest ≡ calls k)
  too_long k x rest i e f =
      let a : suc (length rest) ≡ length (calls k) - i = ap length e ∙ length-drop i (calls k) in
      let b : length rest ≡ length (calls k) = ap length f in
      omega arith

  module _
      (not_first : (j i : ℕ) (y : Action V) → slice_get (calls j) i ≡ Some y → ¬ (has first (entrant y) ≡ true))
      (only-once : (k j₁ i₁ j₂ i₂ : ℕ) (y₁ y₂ : Action V) → slice_get (calls j₁) i₁ ≡ Some y₁ → slice_get (calls j₂) i₂ ≡ Some y₂ → has k (entrant y₁) ≡ true → has k (entrant y₂) ≡ true → (j₁ ≡ j₂) × (i₁ ≡ i₂))
    where
      first_not_in : {o : Option View} (k j : ℕ) (x : Action V) (left : List (Action V)) → k ≡ first → Came calls first start j (x ∷ left) o → ¬ (has k (entrant x) ≡ true)
      first_not_in k j x left e c b =
          let d = came_drop c in
          not_first j d.0 x (drop_step d.0 (calls j) x left d.1).1 (subst (λ (i : ℕ). has i (entrant x) ≡ true) e b)

      -- the call that brings k in is one: its caller, itself and what comes after it
      same_bringer : {o p : Option View} (k j i : ℕ) (x y : Action V) (ls rs : List (Action V)) → Came calls first start j (x ∷ ls) o → Came calls first start i (y ∷ rs) p →
          has k (entrant x) ≡ true → has k (entrant y) ≡ true → (j ≡ i) × (x ∷ ls ≡ y ∷ rs)
      same_bringer k j i x y ls rs c d bx by =
          let a = came_drop c in
          let b = came_drop d in
          let q = only-once k j a.0 i b.0 x y (drop_step a.0 (calls j) x ls a.1).1 (drop_step b.0 (calls i) y rs b.1).1 bx by in
          let e : drop a.0 (calls j) ≡ drop b.0 (calls i) = ap (λ (n : ℕ). drop n (calls j)) q.1 ∙ ap (λ (j : ℕ). drop b.0 (calls j)) q.0 in
          (q.0, a.1 ∙ e ∙ sym b.1)

      from_first : (k : ℕ) (rest : List (Action V)) (o : Option View) → k ≡ first → rest ≡ calls k → o ≡ Some start → (p : Option View) → Came calls first start k rest p → o ≡ p
      from_first k rest o e r q p (came_first k' rest' p' e' r' q') = q ∙ sym q'
      from_first k rest o e r q p (came_own k' rest' p' x w c q') = let d = came_drop c in absurd (too_long k x rest d.0 d.1 r)
      from_first k rest o e r q p (came_in k' rest' p' j x left w c b r' q') = absurd (first_not_in k j x left e c b)

      from_own : (k : ℕ) (rest : List (Action V)) (o : Option View) (x : Action V) (w : View) → Came calls first start k (x ∷ rest) (Some w) →
          ((p : Option View) → Came calls first start k (x ∷ rest) p → Some w ≡ p) → o ≡ own w x → (p : Option View) → Came calls first start k rest p → o ≡ p
      from_own k rest o x w c ih q p (came_first k' rest' p' e r q') = let d = came_drop c in absurd (too_long k x rest d.0 d.1 r)
      from_own k rest o x w c ih q p (came_own k' rest' p' y u c' q') =
          let a = came_drop c in
          let b = came_drop c' in
          let e : x ≡ y = same_end k x y rest a.0 b.0 a.1 b.1 in
          let f : Some w ≡ Some u = ih (Some u) (subst (λ (z : Action V). Came calls first start k (z ∷ rest) (Some u)) (sym e) c') in
          let g : w ≡ u = cc in
          q ∙ ap (λ (v : View). own v x) g ∙ ap (own u) e ∙ sym q'
      from_own k rest o x w c ih q p (came_in k' rest' p' j y left u c' b r q') = let d = came_drop c in absurd (too_long k x rest d.0 d.1 r)

      from_in : (k : ℕ) (rest : List (Action V)) (o : Option View) (j : ℕ) (x : Action V) (left : List (Action V)) (w : View) → Came calls first start j (x ∷ left) (Some w) →
          ((p : Option View) → Came calls first start j (x ∷ left) p → Some w ≡ p) → has k (entrant x) ≡ true → rest ≡ calls k → o ≡ Some (entry w x) → (p : Option View) → Came calls first start k rest p → o ≡ p
      from_in k rest o j x left w c ih b r q p (came_first k' rest' p' e r' q') = absurd (first_not_in k j x left e c b)
      from_in k rest o j x left w c ih b r q p (came_own k' rest' p' y u c' q') = let d = came_drop c' in absurd (too_long k y rest d.0 d.1 r)
      from_in k rest o j x left w c ih b r q p (came_in k' rest' p' i y more u c' b' r' q') =
          let s = same_bringer k j i x y left more c c' b b' in
          let f : Some w ≡ Some u = ih (Some u) (subst₂ (λ (l : ℕ) (xs : List (Action V)). Came calls first start l xs (Some u)) (sym s.0) (sym s.1) c') in
          let g : w ≡ u = cc in
          let l = s.1 in
          let e : x ≡ y = cc in
          q ∙ ap₂ (λ (v : View) (z : Action V). Some (entry v z)) g e ∙ sym q'

      -- the seat is a function of the calls still to come
      pub came_same : {k : ℕ} {rest : List (Action V)} {o : Option View} → Came calls first start k rest o → (p : Option View) → Came calls first start k rest p → o ≡ p
      came_same (came_first k rest o e r q) p d = from_first k rest o e r q p d
      came_same (came_own k rest o x w c q) p d = from_own k rest o x w c (came_same c) q p d
      came_same (came_in k rest o j x left w c b r q) p d = from_in k rest o j x left w c (came_same c) b r q p d
