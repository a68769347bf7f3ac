-- Where each view is a function of the calls still to come, what hangs on the view alone is the same on both boards.
use Rattle.std.proofs.Common.{◌≡◌, ℕ, zero, suc, ◌≤◌, true, ◌⊎◌, List, [], ◌∷◌, map, drop, Some, Option, sym, refl, ap, ◌∙◌, subst, ap₂, ⊎_elim, arith}
use Rattle.calls.specs.declared.views.View.{View}
use Rattle.calls.specs.declared.actions.Action.{Action}
use Rattle.calls.specs.declared.actions.Action.TheVariants.{Wait, Send}
use Rattle.phaser.specs.Limits.{is_sw}
use Rattle.phaser.specs.Steps.{answer_of}
use Rattle.phaser.specs.Histories.{value_for}
use Rattle.phaser.proofs.Came.{Came, came_drop}
use Rattle.phaser.proofs.Replay.{Replayed, Mover}
use Rattle.phaser.proofs.Entries.{Act, actions}

-- what a call brings does not hang on the totals
pub brought_same : {V : Type 0} (T U : ℕ → V) (n : ℕ) (w : View) (x : Action V) → value_for n x (answer_of T w x) ≡ value_for n x (answer_of U w x)
brought_same T U n w (Send x) = refl
brought_same T U n w _ = refl

-- an SW wait that made n the first kept pass, by a view that did not pass g
not_passed : (v w : View) (n g : ℕ) → v ≡ w → is_sw v.mode ≡ true → v.wp ≡ n → (is_sw w.mode ≡ true → w.wp ≤ g) → n ≤ g
not_passed v w n g e may reached bound =
    let le = bound (ap (λ (u : View). is_sw u.mode) (sym e) ∙ may) in
    let wp : v.wp ≡ w.wp = ap (λ (u : View). u.wp) e in
    omega arith

module _ {V : Type 0} (calls : ℕ → List (Action V)) (first : ℕ) (start : View)
    (same-seat : (k : ℕ) (rest : List (Action V)) (o p : Option View) → Came calls first start k rest o → Came calls first start k rest p → o ≡ p) where
  -- what hangs on the view alone is the same on both boards
  pub agree : {X : Type 0} (F : Act V → X) (T U : ℕ → V) → ((w : View) (x : Action V) → F (x, answer_of T w x) ≡ F (x, answer_of U w x)) →
      (k f g : ℕ) (ds es : List (Act V)) → Replayed calls first start T f k ds → Replayed calls first start U g k es → actions ds ≡ actions es → map F ds ≡ map F es
  agree F T U free k f g [] [] r q e = refl
  agree F T U free k f g [] ((x, a) ∷ es) r q e = let z : ◌≡◌ {A = ℕ} 0 1 = cc in absurd (omega arith)
  agree F T U free k f g ((x, a) ∷ ds) [] r q e = let z : ◌≡◌ {A = ℕ} 0 1 = cc in absurd (omega arith)
  agree F T U free k f g ((x, a) ∷ ds) ((y, b) ∷ es) r q e =
      let xy : x ≡ y = cc in
      let rest : actions ds ≡ actions es = cc in
      let v = r.0.0 in
      let w = q.0.0 in
      let c : Came calls first start k (x ∷ actions ds) (Some w) = subst (λ (zs : List (Action V)). Came calls first start k zs (Some w)) (sym e) q.0.1 in
      let vw : Some v ≡ Some w = same-seat k (x ∷ actions ds) (Some v) (Some w) r.0.1 c in
      let vw' : v ≡ w = cc in
      let here : F (x, a) ≡ F (y, b)
      = ap (λ c. F (x, c)) r.0.2 ∙ free v x ∙ ap₂ (λ (u : View) (z : Action V). F (z, answer_of U u z)) vw' xy ∙ sym (ap (λ c. F (y, c)) q.0.2) in
      ap₂ (λ (h : _) (t : List _). h ∷ t) here (agree F T U free k f g ds es r.1 q.1 rest)

  -- an SW wait among the replayed calls did not pass f
  waited_at : (T : ℕ → V) (f k : ℕ) (ds : List (Act V)) (i : ℕ) (rest : List (Action V)) → Replayed calls first start T f k ds → Wait ∷ rest ≡ drop i (actions ds) →
      (w : View) × Came calls first start k (Wait ∷ rest) (Some w) × (is_sw w.mode ≡ true → w.wp ≤ f)
  waited_at T f k [] zero rest r e = let z : ◌≡◌ {A = ℕ} 0 1 = cc in absurd (omega arith)
  waited_at T f k [] (suc i) rest r e = let z : ◌≡◌ {A = ℕ} 0 1 = cc in absurd (omega arith)
  waited_at T f k ((x, a) ∷ ds) zero rest r e =
      let q : x ≡ Wait = cc in
      (r.0.0, subst (λ (zs : List (Action V)). Came calls first start k zs (Some r.0.0)) (sym e) r.0.1, r.0.3 q)
  waited_at T f k ((x, a) ∷ ds) (suc i) rest r e = waited_at T f k ds i rest r.1 e

  pub first_below : (T : ℕ → V) (f g : ℕ) (done-of : ℕ → List (Act V)) → ((k : ℕ) → actions (done-of k) ≡ calls k) → ((k : ℕ) → Replayed calls first start T g k (done-of k)) →
      (f ≡ 0) ⊎ Mover calls first start f → f ≤ g
  first_below T f g done-of all each m =
      ⊎_elim
      (λ e. omega arith)
      (λ mv.
      let d = came_drop calls first start mv.came in
      let at = waited_at T g mv.station (done-of mv.station) d.0 mv.rest (each mv.station) (d.1 ∙ ap (drop d.0) (sym (all mv.station))) in
      let vw : Some mv.view ≡ Some at.0 = same-seat mv.station (Wait ∷ mv.rest) (Some mv.view) (Some at.0) mv.came at.1 in
      let vw' : mv.view ≡ at.0 = cc in
      not_passed mv.view at.0 f g vw' mv.may mv.reached at.2)
      m
