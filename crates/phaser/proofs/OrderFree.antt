-- Two boards that accept the same calls of each station answer alike and end alike, however the stations' calls interleave.
use Rattle.std.proofs.Common.{◌≢◌, ◌≡◌, ℕ, ◌<◌, ◌≤◌, true, false, eqb, ◌⊎◌, List, [], ◌∷◌, Some, None, Option, sym, refl, ap, ◌∙◌, subst, inl, inr, ⊎_elim, arith}
use mathlib.Core.Path.{fun_ext}
use Rattle.std.proofs.lemmas.Bool.{cases_Bool, eq-eqb, eqb-true, or_cases, or_left, false≢true}
use Rattle.std.specs.List.{slice_get, AllByRecursion}
use Rattle.refusal.specs.declared.limits.TheConstants.{STATIONS}
use Rattle.calls.specs.declared.Mode.{Mode}
use Rattle.calls.specs.declared.views.View.{View}
use Rattle.calls.specs.declared.actions.Action.{Action}
use Rattle.joining.specs.Laws.{CommutativeMonoid}
use Rattle.joining.specs.Lists.{joining_of}
use Rattle.phaser.specs.State.{State, seat, first_view, new_state}
use Rattle.phaser.specs.Rules.{PhaserState}
use Rattle.phaser.specs.Limits.{Shows}
use Rattle.phaser.specs.Steps.{answer_of}
use Rattle.phaser.specs.Histories.{AcceptedCall, answered_actions, actions_by, entrants, values_for, value_for}
use Rattle.phaser.specs.Law.{Once, SameCalls, SameAnswers}
use Rattle.phaser.proofs.Seats.{true_false, put_cases, made_seat}
use Rattle.phaser.proofs.Levels.{made_good}
use Rattle.phaser.proofs.Runs.{Recorded}
use Rattle.phaser.proofs.Complete.{totals_complete}
use Rattle.phaser.proofs.Entries.{has, not_entered, only, fresh_once, entered, not_entered_end}
use Rattle.phaser.proofs.Came.{Came, Came.came_first, came_entered, came_same}
use Rattle.phaser.proofs.Replay.{Tracked, Replay, replay}
use Rattle.phaser.proofs.Shown.{same_state}
use Rattle.phaser.proofs.Shares.{flat, SameShares, same_joining}
use Rattle.phaser.proofs.Counts.{once_both}
use Rattle.phaser.proofs.Ends.{ended}
use Rattle.phaser.proofs.Alike.{agree, first_below, brought_same}
use Rattle.std.proofs.lemmas.List.{map-id}
use Rattle.joining.specs.declared.Joining.{Ghosts}

module _ {V : Type 0} (J : Ghosts V) (j : ℕ) (mode : Mode) (limit : ℕ) (maker : j < STATIONS) where
  abbrev start_state : State V
  start_state = new_state J j mode limit

  seat_made : (k : ℕ) → ((k ≡ j) × (seat start_state k ≡ Some (first_view mode))) ⊎ ((k ≢ j) × (seat start_state k ≡ None))
  seat_made k =
      let at = made_seat J j mode limit maker k in
      ⊎_elim (λ c. inl (c.0, at ∙ c.1)) (λ c. inr (c.0, at ∙ c.1)) (put_cases (λ i. None) j (Some (first_view mode)) k)

  has_one : (k : ℕ) → has k (j ∷ []) ≡ true → k ≡ j
  has_one k e = ⊎_elim (λ t. sym (eqb-true j k t)) (λ t. absurd (false≢true t)) (or_cases (eqb j k) false e)

  tracked_made : (calls : ℕ → List (Action V)) (h : List (AcceptedCall V)) → ((k : ℕ) → actions_by k h ≡ calls k) → Tracked calls j (first_view mode) (j ∷ []) h start_state
  tracked_made calls h e = record {
    inside = λ k b. ⊎_elim (λ c. came_first k (actions_by k h) (seat start_state k) c.0 (e k) c.1) (λ c. absurd (c.0 (has_one k b))) (seat_made k);
    outside = λ k b. ⊎_elim (λ c. absurd (true_false (has k (j ∷ [])) (or_left (eqb j k) false (eq-eqb j k (sym c.0))) b)) (λ c. (c.1, e k)) (seat_made k);
  }

  replayed : (calls : ℕ → List (Action V)) (h : List (AcceptedCall V)) (t : State V) → ((k : ℕ) → actions_by k h ≡ calls k) → Once (j ∷ entrants h) → Recorded J j mode limit h t →
      Replay calls j (first_view mode) J (λ n. joining_of J (values_for n h)) (j ∷ []) h start_state t
  replayed calls h t e once hist =
      replay calls j (first_view mode) J (λ n. joining_of J (values_for n h)) 0 start_state h t (made_good J j mode limit maker) (j ∷ [])
      (tracked_made calls h e)
      (fresh_once (j ∷ []) h (λ y b. subst (λ (i : ℕ). AllByRecursion (λ z. i ≢ z) (entrants h)) (sym (has_one y b)) once.0) once.1)
      (totals_complete J j mode limit h t hist)
      hist.run

  -- who came to a seat has entered on a board that accepted these calls
  has_entered : (calls : ℕ → List (Action V)) (h : List (AcceptedCall V)) → ((k : ℕ) → actions_by k h ≡ calls k) → (k : ℕ) {rest : List (Action V)} {o : Option View} →
      Came calls j (first_view mode) k rest o → ¬ (has k (entered (j ∷ []) h) ≡ false)
  has_entered calls h e k c b =
      let q = not_entered_end (j ∷ []) h k b in
      ⊎_elim
      (λ f. true_false (has k (j ∷ [])) (or_left (eqb j k) false (eq-eqb j k (sym f))) q.0)
      (λ f. not_entered h k q.1 f.0 f.1 f.2 (ap (λ (xs : List (Action V)). slice_get xs f.1) (e f.0) ∙ f.3) f.4)
      (came_entered calls j (first_view mode) c)

-- two boards made alike that accept the same calls, no number entering twice
module _ {V : Type 0} (J : Ghosts V) (j : ℕ) (mode : Mode) (limit : ℕ) (h₁ h₂ : List (AcceptedCall V)) (t₁ t₂ : State V) (hist₁ : Recorded J j mode limit h₁ t₁) (hist₂ : Recorded J j mode limit h₂ t₂) (once₁ : Once (j ∷ entrants h₁)) (same : SameCalls h₁ h₂) where
  abbrev calls : ℕ → List (Action V)
  calls k = actions_by k h₁

  abbrev begins : View
  begins = first_view mode

  abbrev T₁ : ℕ → V
  T₁ n = joining_of J (values_for n h₁)

  abbrev T₂ : ℕ → V
  T₂ n = joining_of J (values_for n h₂)

  back : (k : ℕ) → actions_by k h₂ ≡ calls k
  back k = sym (same k)

  one : (k : ℕ) (rest : List (Action V)) (o p : Option View) → Came calls j begins k rest o → Came calls j begins k rest p → o ≡ p
  one k rest o p c d = came_same calls j begins (not_entered h₁ j once₁.0) (only h₁ once₁.1) c p d

  r₁ : Replay calls j begins J T₁ (j ∷ []) h₁ (new_state J j mode limit) t₁
  r₁ = replayed J j mode limit hist₁.maker calls h₁ t₁ (λ k. refl) once₁ hist₁

  r₂ : Replay calls j begins J T₂ (j ∷ []) h₂ (new_state J j mode limit) t₂
  r₂ = replayed J j mode limit hist₁.maker calls h₂ t₂ back (once_both j h₁ h₂ same once₁) hist₂

  pub shares : (n : ℕ) → SameShares n h₁ h₂
  shares n k = ap flat (agree calls j begins one (λ d. value_for n d.0 d.1) T₁ T₂ (brought_same T₁ T₂ n) k t₁.account.first t₂.account.first (answered_actions k h₁) (answered_actions k h₂) (r₁.each k) (r₂.each k) (same k))

  firsts : t₁.account.first ≡ t₂.account.first
  firsts =
      let low : t₁.account.first ≤ t₂.account.first = first_below calls j begins one T₂ t₁.account.first t₂.account.first (λ k. answered_actions k h₂) back r₂.each r₁.mover in
      let high : t₂.account.first ≤ t₁.account.first = first_below calls j begins one T₁ t₂.account.first t₁.account.first (λ k. answered_actions k h₁) (λ k. refl) r₁.each r₂.mover in
      omega arith

  seats : (k : ℕ) → seat t₁ k ≡ seat t₂ k
  seats k =
      ⊎_elim
      (λ b. ⊎_elim
      (λ c. one k [] (seat t₁ k) (seat t₂ k) (r₁.end.inside k b) (r₂.end.inside k c))
      (λ c. absurd (has_entered J j mode limit hist₁.maker calls h₂ back k (r₁.end.inside k b) c))
      (cases_Bool (has k (entered (j ∷ []) h₂))))
      (λ b. ⊎_elim
      (λ c. absurd (has_entered J j mode limit hist₁.maker calls h₁ (λ k. refl) k (r₂.end.inside k c) b))
      (λ c. (r₁.end.outside k b).0 ∙ sym (r₂.end.outside k c).0)
      (cases_Bool (has k (entered (j ∷ []) h₂))))
      (cases_Bool (has k (entered (j ∷ []) h₁)))

  pub order_free : CommutativeMonoid J.neutral J.joined → SameAnswers h₁ h₂ × (t₁ ≡ t₂)
  order_free laws =
      let totals : (n : ℕ) → T₁ n ≡ T₂ n = λ n. same_joining J laws n h₁ h₂ (shares n) in
      let answers : SameAnswers h₁ h₂
      = λ k. sym (map-id (answered_actions k h₁))
      ∙ agree calls j begins one (λ d. d) T₁ T₂ (λ w x. ap (λ (T : ℕ → V). (x, answer_of T w x)) (fun_ext totals)) k t₁.account.first t₂.account.first (answered_actions k h₁) (answered_actions k h₂) (r₁.each k) (r₂.each k) (same k)
      ∙ map-id (answered_actions k h₂) in
      let e₁ = ended J j mode limit h₁ t₁ hist₁ in
      let e₂ = ended J j mode limit h₂ t₂ hist₂ in
      let shown : PhaserState V = record { phaser = seat t₂; totals = T₂ } in
      let left : Shows J t₁ shown = record { seats = seats; totals = λ p k. e₁.sums p k ∙ totals p } in
      let right : Shows J t₂ shown = record { seats = λ k. refl; totals = e₂.sums } in (
        answers,
        same_state J t₁ t₂ shown left right (e₁.good.table ∙ sym e₂.good.table) (r₁.limit ∙ sym r₂.limit) firsts (e₁.good.window ∙ sym e₂.good.window),
      )
