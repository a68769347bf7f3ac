-- Who enters, and when: no number enters twice, so the call that brings a number in is the only one.
use Rattle.std.proofs.Common.{◌≢◌, ◌≡◌, ℕ, zero, suc, Bool, true, false, cond, ◌||◌, eqb, ◌⊎◌, List, [], ◌∷◌, ◌++◌, map, Some, sym, refl, ap, ◌∙◌, subst, inl, inr, ⊎_elim, filter}
use Rattle.std.proofs.lemmas.Bool.{cases_Bool, eq-eqb, eqb-true, or_cases, or_parts, false≢true}
use Rattle.std.specs.List.{slice_get, AllByRecursion}
use Rattle.calls.specs.declared.actions.Action.{Action}
use Rattle.calls.specs.declared.actions.Answer.{Answer}
use Rattle.phaser.specs.Histories.{AcceptedCall, actions_by, entrant, entrants}
use Rattle.phaser.specs.Law.{Once}
use Rattle.phaser.proofs.Seats.{none_some, true_false}
use Rattle.calls.specs.declared.actions.Call.{Call}

-- an accepted action of a station with its answer
abbrev pub Act : Type 0 → Type 0
Act V = Action V × Answer V

module _ {V : Type 0} where
  abbrev pub actions : List (Act V) → List (Action V)
  actions ds = map (λ d. d.0) ds

  abbrev pub by_station : ℕ → List (AcceptedCall V) → List (AcceptedCall V)
  by_station k h = filter (λ d. eqb d.0.caller k) h

  -- what a station did, with one call more if it is its own
  abbrev pub with_it : Bool → Call V → Answer V → List (AcceptedCall V) → List (Act V)
  with_it own c a h = map (λ d. (d.0.action, d.1)) (cond own ((c, a) ∷ h) h)

abbrev pub has : ℕ → List ℕ → Bool
has k [] = false
has k (y ∷ ys) = eqb y k || has k ys

pub has_append : (k : ℕ) (xs ys : List ℕ) → has k (xs ++ ys) ≡ (has k xs || has k ys)
has_append k [] ys = refl
has_append k (x ∷ xs) ys = ap (λ (b : Bool). eqb x k || b) (has_append k xs ys) ∙ regroup (eqb x k) (has k xs) (has k ys)
  where
    regroup : (a b c : Bool) → (a || (b || c)) ≡ ((a || b) || c)
    regroup true b c = refl
    regroup false b c = refl

-- a number that the list has is none that it lacks
pub all_has : (k : ℕ) (es : List ℕ) → AllByRecursion (λ y. k ≢ y) es → has k es ≢ true
all_has k [] a e = false≢true e
all_has k (y ∷ es) a e = ⊎_elim (λ t. a.0 (sym (eqb-true y k t))) (λ t. all_has k es a.1 t) (or_cases (eqb y k) (has k es) e)

pub all_front : (k : ℕ) (es fs : List ℕ) → AllByRecursion (λ y. k ≢ y) (es ++ fs) → AllByRecursion (λ y. k ≢ y) es
all_front k [] fs a = tt
all_front k (y ∷ es) fs a = (a.0, all_front k es fs a.1)

pub all_rest : (k : ℕ) (es fs : List ℕ) → AllByRecursion (λ y. k ≢ y) (es ++ fs) → AllByRecursion (λ y. k ≢ y) fs
all_rest k [] fs a = a
all_rest k (y ∷ es) fs a = all_rest k es fs a.1

once_rest : (es fs : List ℕ) → Once (es ++ fs) → Once fs
once_rest [] fs o = o
once_rest (x ∷ es) fs o = once_rest es fs o.1

-- what stands in front does not come again
once_has : (k : ℕ) (es fs : List ℕ) → Once (es ++ fs) → has k es ≡ true → AllByRecursion (λ y. k ≢ y) fs
once_has k [] fs o e = absurd (false≢true e)
once_has k (x ∷ es) fs o e =
    ⊎_elim
    (λ t. subst (λ (i : ℕ). AllByRecursion (λ y. i ≢ y) fs) (eqb-true x k t) (all_rest x es fs o.0))
    (λ t. once_has k es fs o.1 t)
    (or_cases (eqb x k) (has k es) e)

abbrev pub shift : Bool → ℕ → ℕ
shift true i = suc i
shift false i = i

-- a call in the list: the first one, or a later one
pub nth_call : {V : Type 0} (k : ℕ) (c : Call V) (a : Answer V) (h : List (AcceptedCall V)) (i : ℕ) (y : Action V) → slice_get (actions_by k ((c, a) ∷ h)) i ≡ Some y →
    ((c.caller ≡ k) × (i ≡ 0) × (c.action ≡ y)) ⊎ ((i' : ℕ) × (slice_get (actions_by k h) i' ≡ Some y) × (i ≡ shift (eqb c.caller k) i'))
nth_call k c a h i y e = go (eqb c.caller k) refl i e
  where
    go : (b : Bool) → eqb c.caller k ≡ b → (i : ℕ) → slice_get (actions (with_it b c a (by_station k h))) i ≡ Some y →
        ((c.caller ≡ k) × (i ≡ 0) × (c.action ≡ y)) ⊎ ((i' : ℕ) × (slice_get (actions_by k h) i' ≡ Some y) × (i ≡ shift b i'))
    go true q zero e = inl (eqb-true c.caller k q, refl, cc)
    go true q (suc i) e = inr (i, e, refl)
    go false q i e = inr (i, e, refl)

-- a number that no call of the history brings in
pub not_entered : {V : Type 0} (h : List (AcceptedCall V)) (k : ℕ) → AllByRecursion (λ y. k ≢ y) (entrants h) → (j i : ℕ) (y : Action V) → slice_get (actions_by j h) i ≡ Some y → ¬ (has k (entrant y) ≡ true)
not_entered [] k f j i y e b = none_some _ e
not_entered ((call, a) ∷ h) k f j i y e b =
    ⊎_elim
    (λ c. all_has k (entrant call.action) (all_front k (entrant call.action) (entrants h) f) (ap (λ (z : Action _). has k (entrant z)) c.2 ∙ b))
    (λ c. not_entered h k (all_rest k (entrant call.action) (entrants h) f) j c.0 y c.1 b)
    (nth_call j call a h i y e)

-- places that were shifted alike
shifted : (l j₁ j₂ i₁ i₂ n₁ n₂ : ℕ) → j₁ ≡ j₂ → n₁ ≡ n₂ → i₁ ≡ shift (eqb l j₁) n₁ → i₂ ≡ shift (eqb l j₂) n₂ → i₁ ≡ i₂
shifted l j₁ j₂ i₁ i₂ n₁ n₂ e f p q = p ∙ ap (λ (j : ℕ). shift (eqb l j) n₁) e ∙ ap (shift (eqb l j₂)) f ∙ sym q

-- the call that brings a number in is the only one
pub only : {V : Type 0} (h : List (AcceptedCall V)) → Once (entrants h) → (k j₁ i₁ j₂ i₂ : ℕ) (y₁ y₂ : Action V) →
    slice_get (actions_by j₁ h) i₁ ≡ Some y₁ → slice_get (actions_by j₂ h) i₂ ≡ Some y₂ → has k (entrant y₁) ≡ true → has k (entrant y₂) ≡ true → (j₁ ≡ j₂) × (i₁ ≡ i₂)
only [] o k j₁ i₁ j₂ i₂ y₁ y₂ e f b d = absurd (none_some _ e)
only ((call, a) ∷ h) o k j₁ i₁ j₂ i₂ y₁ y₂ e f b d =
    let tail : Once (entrants h) = once_rest (entrant call.action) (entrants h) o in
    let again : (j i : ℕ) (y z : Action _) → call.action ≡ z → has k (entrant z) ≡ true → slice_get (actions_by j h) i ≡ Some y → ¬ (has k (entrant y) ≡ true)
    = λ j i y z q bz r by. not_entered h k (once_has k (entrant call.action) (entrants h) o (ap (λ (z : Action _). has k (entrant z)) q ∙ bz)) j i y r by in
    ⊎_elim
    (λ c. ⊎_elim
    (λ p. (sym c.0 ∙ p.0, c.1 ∙ sym p.1))
    (λ p. absurd (again j₂ p.0 y₂ y₁ c.2 b p.1 d))
    (nth_call j₂ call a h i₂ y₂ f))
    (λ c. ⊎_elim
    (λ p. absurd (again j₁ c.0 y₁ y₂ p.2 d c.1 b))
    (λ p. let q = only h tail k j₁ c.0 j₂ p.0 y₁ y₂ c.1 p.1 b d in
    (q.0, shifted call.caller j₁ j₂ i₁ i₂ c.0 p.0 q.0 q.1 c.2 p.2))
    (nth_call j₂ call a h i₂ y₂ f))
    (nth_call j₁ call a h i₁ y₁ e)

-- each call of the history brings in a number that has not entered before, es having entered
abbrev pub Fresh : {V : Type 0} → List ℕ → List (AcceptedCall V) → Type 0
Fresh es [] = Unit {0}
Fresh es ((call, a) ∷ h) = ((k : ℕ) → has k (entrant call.action) ≡ true → has k es ≡ false) × Fresh (entrant call.action ++ es) h

-- who has entered at the end
abbrev pub entered : {V : Type 0} → List ℕ → List (AcceptedCall V) → List ℕ
entered es [] = es
entered es ((call, a) ∷ h) = entered (entrant call.action ++ es) h

pub fresh_once : {V : Type 0} (es : List ℕ) (h : List (AcceptedCall V)) → ((y : ℕ) → has y es ≡ true → AllByRecursion (λ z. y ≢ z) (entrants h)) → Once (entrants h) → Fresh es h
fresh_once es [] p o = tt
fresh_once es ((call, a) ∷ h) p o = (
  (λ k e. ⊎_elim (λ t. absurd (all_has k (entrant call.action) (all_front k (entrant call.action) (entrants h) (p k t)) e)) (λ f. f) (cases_Bool (has k es))),
  fresh_once (entrant call.action ++ es) h
      (λ y e. ⊎_elim (λ t. once_has y (entrant call.action) (entrants h) o t) (λ t. all_rest y (entrant call.action) (entrants h) (p y t)) (or_cases (has y (entrant call.action)) (has y es) (sym (has_append y (entrant call.action) es) ∙ e)))
      (once_rest (entrant call.action) (entrants h) o),
)

-- who has not entered at the end was brought in by no register, and was not there before
pub not_entered_end : {V : Type 0} (es : List ℕ) (h : List (AcceptedCall V)) (k : ℕ) → has k (entered es h) ≡ false → (has k es ≡ false) × AllByRecursion (λ y. k ≢ y) (entrants h)
not_entered_end es [] k e = (e, tt)
not_entered_end es ((call, a) ∷ h) k e =
    let q = not_entered_end (entrant call.action ++ es) h k e in
    let r = or_parts (has k (entrant call.action)) (has k es) (sym (has_append k (entrant call.action) es) ∙ q.0) in
    (r.1, both (entrant call.action) r.0 q.1)
  where
    both : (fs : List ℕ) → has k fs ≡ false → AllByRecursion (λ y. k ≢ y) (entrants h) → AllByRecursion (λ y. k ≢ y) (fs ++ entrants h)
    both [] e q = q
    both (y ∷ fs) e q = let r = or_parts (eqb y k) (has k fs) e in ((λ p. true_false (eqb y k) (eq-eqb y k (sym p)) r.0), both fs r.1 q)
