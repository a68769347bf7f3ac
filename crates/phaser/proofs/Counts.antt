-- Boards that accept the same calls let the same numbers enter, each as often.
use Rattle.std.proofs.Common.{◌≡◌, ℕ, ◌+◌, ◌≤◌, Bool, true, false, cond, eqb, ◌≢◌, List, [], ◌∷◌, ◌++◌, fold, sym, refl, ap, ◌∙◌, ⊎_elim, arith}
use Rattle.std.proofs.lemmas.Bool.{cases_eq, eq-eqb, ne_eqb}
use Rattle.std.specs.List.{AllByRecursion}
use Rattle.calls.specs.declared.actions.Action.{Action}
use Rattle.phaser.specs.Histories.{AcceptedCall, actions_by, entrant, entrants}
use Rattle.phaser.specs.Law.{Once, SameCalls}
use Rattle.phaser.specs.Accounts.{Commuting}
use Rattle.phaser.proofs.Traces.{of_station, same_fold}
use Rattle.phaser.proofs.Entries.{actions, by_station, with_it}

abbrev one_if : Bool → ℕ
one_if b = cond b 1 0

-- how often k stands in the list
abbrev count : ℕ → List ℕ → ℕ
count k [] = 0
count k (y ∷ ys) = one_if (eqb y k) + count k ys

count_append : (k : ℕ) (xs ys : List ℕ) → count k (xs ++ ys) ≡ count k xs + count k ys
count_append k [] ys = omega arith
count_append k (x ∷ xs) ys = omega (arith, count_append k xs ys)

none_counted : (k : ℕ) (ys : List ℕ) → AllByRecursion (λ y. k ≢ y) ys → count k ys ≡ 0
none_counted k [] h = refl
none_counted k (y ∷ ys) h = omega (arith, none_counted k ys h.1, ap one_if (ne_eqb y k (λ e. h.0 (sym e))))

counted_none : (k : ℕ) (ys : List ℕ) → count k ys ≡ 0 → AllByRecursion (λ y. k ≢ y) ys
counted_none k [] h = tt
counted_none k (y ∷ ys) h =
    (λ e. let one = ap one_if (eq-eqb y k (sym e)) in omega arith, counted_none k ys (omega arith))

once_counted : (xs : List ℕ) → Once xs → (k : ℕ) → count k xs ≤ 1
once_counted [] h k = omega arith
once_counted (x ∷ xs) h k =
    ⊎_elim
    (λ (e : x ≡ k). omega (arith, ap one_if (eq-eqb x k e), ap (λ (n : ℕ). count n xs) (sym e), none_counted x xs h.0))
    (λ (ne : x ≢ k). omega (arith, ap one_if (ne_eqb x k ne), once_counted xs h.1 k))
    (cases_eq x k)

counted_once : (xs : List ℕ) → ((k : ℕ) → count k xs ≤ 1) → Once xs
counted_once [] h = tt
counted_once (x ∷ xs) h =
    let here = h x in
    let one = ap one_if (eq-eqb x x refl) in
    (counted_none x xs (omega arith), counted_once xs (λ k. let all = h k in omega arith))

module _ {V : Type 0} where
  -- the accepted calls, each with its station
  abbrev accepted_calls : List (AcceptedCall V) → List (ℕ × Action V)
  accepted_calls [] = []
  accepted_calls ((c, a) ∷ h) = (c.caller, c.action) ∷ accepted_calls h

  calls_of : (k : ℕ) (h : List (AcceptedCall V)) → of_station k (accepted_calls h) ≡ actions_by k h
  calls_of k [] = refl
  calls_of k ((c, a) ∷ h) = one_more (eqb c.caller k) (calls_of k h)
    where
      one_more : (b : Bool) → of_station k (accepted_calls h) ≡ actions_by k h → cond b (c.action ∷ []) [] ++ of_station k (accepted_calls h) ≡ actions (with_it b c a (by_station k h))
      one_more true e = ap (λ (xs : List (Action V)). c.action ∷ xs) e
      one_more false e = e

  abbrev entering : ℕ → ℕ → ℕ × Action V → ℕ
  entering k n e = n + count k (entrant e.1)

  entering_all : (k n : ℕ) (h : List (AcceptedCall V)) → fold (entering k) n (accepted_calls h) ≡ n + count k (entrants h)
  entering_all k n [] = omega arith
  entering_all k n ((c, a) ∷ h) = entering_all k (n + count k (entrant c.action)) h ∙ omega (arith, count_append k (entrant c.action) (entrants h))

  pub once_both : (j : ℕ) (g h : List (AcceptedCall V)) → SameCalls g h → Once (j ∷ entrants g) → Once (j ∷ entrants h)
  once_both j g h same once =
      counted_once (j ∷ entrants h)
      (λ k.
      let swap : Commuting (entering k) = λ a i l x y ne. omega arith in
      let alike = same_fold (entering k) swap (accepted_calls g) (accepted_calls h) (λ l. calls_of l g ∙ same l ∙ sym (calls_of l h)) 0 in
      let all = once_counted (j ∷ entrants g) once k in
      omega (arith, alike, entering_all k 0 g, entering_all k 0 h, all))
