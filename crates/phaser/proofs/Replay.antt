-- A run, station by station: each answer is a function of the view that the station came to.
use Rattle.std.proofs.Common.{◌≢◌, ◌≡◌, ℕ, ◌≤◌, Bool, true, false, ◌⊎◌, List, [], ◌∷◌, ◌++◌, Some, None, Option, sym, refl, ap, ◌∙◌, subst, subst₂, inl, inr, ⊎_elim, arith}
use Rattle.std.proofs.lemmas.Bool.{cases_eq, cases_Bool, eq-eqb, ne_eqb, or_cases, or_parts}
use Rattle.joining.specs.declared.Joining.{Ghosts}
use Rattle.calls.specs.declared.views.View.{View}
use Rattle.calls.specs.declared.actions.Action.{Action}
use Rattle.calls.specs.declared.actions.Action.TheVariants.{Wait}
use Rattle.calls.specs.declared.actions.Answer.{Answer}
use Rattle.phaser.specs.State.{State, seat}
use Rattle.phaser.specs.Limits.{is_sw}
use Rattle.phaser.specs.Steps.{answer_of}
use Rattle.phaser.specs.Histories.{AcceptedCall, answered_actions, actions_by, entrant, EachTotal}
use Rattle.phaser.proofs.Seats.{none_some, true_false}
use Rattle.phaser.proofs.Levels.{Good, step_good}
use Rattle.phaser.proofs.Entries.{has, has_append, Fresh, entered, Act, actions, by_station, with_it}
use Rattle.phaser.proofs.Effects.{Effect, effect}
use Rattle.phaser.proofs.Came.{Came, Came.came_own, Came.came_in}
use Rattle.phaser.proofs.Runs.{Run}
use Rattle.calls.specs.declared.actions.Call.{Call}

pub done_own : {V : Type 0} (k : ℕ) (c : Call V) (a : Answer V) (h : List (AcceptedCall V)) → k ≡ c.caller → answered_actions k ((c, a) ∷ h) ≡ (c.action, a) ∷ answered_actions k h
done_own k c a h e = ap (λ (b : Bool). with_it b c a (by_station k h)) (eq-eqb c.caller k (sym e))

pub done_other : {V : Type 0} (k : ℕ) (c : Call V) (a : Answer V) (h : List (AcceptedCall V)) → (k ≢ c.caller) → answered_actions k ((c, a) ∷ h) ≡ answered_actions k h
done_other k c a h ne = ap (λ (b : Bool). with_it b c a (by_station k h)) (ne_eqb c.caller k (λ e. ne (sym e)))

module _ {V : Type 0} (calls : ℕ → List (Action V)) (first : ℕ) (start : View) where
  abbrev pub At : ℕ → List (Action V) → Option View → Type 0
  At k rest o = Came calls first start k rest o

  -- the seats of s, with the history h still to come and the numbers es entered
  pub record Tracked (es : List ℕ) (h : List (AcceptedCall V)) (s : State V) : Type 0 where
    pub inside : (k : ℕ) → has k es ≡ true → At k (actions_by k h) (seat s k)
    pub outside : (k : ℕ) → has k es ≡ false → (seat s k ≡ None) × (actions_by k h ≡ calls k)

  -- station k's accepted calls, each by the view that k came to; no SW wait passes the first kept pass f by more than one
  abbrev pub Replayed : (ℕ → V) → ℕ → ℕ → List (Act V) → Type 0
  Replayed T f k [] = Unit {0}
  Replayed T f k ((x, a) ∷ ds) = ((w : View) × At k (x ∷ actions ds) (Some w) × (a ≡ answer_of T w x) × (x ≡ Wait → is_sw w.mode ≡ true → w.wp ≤ f)) × Replayed T f k ds

  -- an SW wait that made n the first kept pass
  pub record Mover (n : ℕ) : Type 0 where
    pub station : ℕ
    pub rest : List (Action V)
    pub view : View
    pub came : At station (Wait ∷ rest) (Some view)
    pub may : is_sw view.mode ≡ true
    pub reached : view.wp ≡ n

  module _ (J : Ghosts V) where
    caller_came : (es : List ℕ) (c : Call V) (a : Answer V) (h : List (AcceptedCall V)) (s : State V) (v : View) → Tracked es ((c, a) ∷ h) s → seat s c.caller ≡ Some v → At c.caller (c.action ∷ actions_by c.caller h) (Some v)
    caller_came es c a h s v t e =
        ⊎_elim
        (λ b. subst₂ (λ (xs : List (Action V)) (o : Option View). At c.caller xs o) (ap actions (done_own c.caller c a h refl)) e (t.inside c.caller b))
        (λ b. absurd (none_some v (sym (t.outside c.caller b).0 ∙ e)))
        (cases_Bool (has c.caller es))

    track_step : (es : List ℕ) (c : Call V) (a : Answer V) (h : List (AcceptedCall V)) (s u : State V) → Tracked es ((c, a) ∷ h) s →
        ((k : ℕ) → has k (entrant c.action) ≡ true → has k es ≡ false) → Effect J s c.caller c.action a u → Tracked (entrant c.action ++ es) h u
    track_step es c a h s u t fresh sh =
        let j = c.caller in
        let x = c.action in
        let v = sh.view in
        let came = caller_came es c a h s v t sh.member in
        let same : (k : ℕ) → (k ≢ j) → actions_by k ((c, a) ∷ h) ≡ actions_by k h = λ k ne. ap actions (done_other k c a h ne) in
        let mine : (k : ℕ) → k ≡ j → At k (actions_by k h) (seat u k)
        = λ k e. subst (λ (i : ℕ). At i (actions_by i h) (seat u i)) (sym e) (came_own j (actions_by j h) (seat u j) x v came sh.seats.own_seat) in
        let brought : (k : ℕ) → has k (entrant x) ≡ true → At k (actions_by k h) (seat u k)
        = λ k e.
        let n = sh.seats.enters k e in
        came_in k (actions_by k h) (seat u k) j x (actions_by j h) v came e (sym (same k n.1) ∙ (t.outside k (fresh k e)).1) n.0 in
        let stays : (k : ℕ) → (k ≢ j) → has k (entrant x) ≡ false → has k es ≡ true → At k (actions_by k h) (seat u k)
        = λ k ne f b. subst₂ (λ (xs : List (Action V)) (o : Option View). At k xs o) (same k ne) (sym (sh.seats.others k ne f)) (t.inside k b) in
        record {
          inside = λ k b.
              ⊎_elim (λ e. mine k e)
              (λ ne. ⊎_elim (λ e. brought k e)
              (λ f. stays k ne f (⊎_elim (λ e. absurd (true_false (has k (entrant x)) e f)) (λ e. e) (or_cases (has k (entrant x)) (has k es) (sym (has_append k (entrant x) es) ∙ b))))
              (cases_Bool (has k (entrant x))))
              (cases_eq k j);
          outside = λ k b.
              let p = or_parts (has k (entrant x)) (has k es) (sym (has_append k (entrant x) es) ∙ b) in
              let o = t.outside k p.1 in
              let ne : k ≢ j = λ e. none_some v (sym o.0 ∙ ap (seat s) e ∙ sh.member) in
              (sh.seats.others k ne p.0 ∙ o.0, sym (same k ne) ∙ o.1);
        }

    pub record Replay (T : ℕ → V) (es : List ℕ) (h : List (AcceptedCall V)) (s t : State V) : Type 0 where
      pub end : Tracked (entered es h) [] t
      pub each : (k : ℕ) → Replayed T t.account.first k (answered_actions k h)
      pub limit : t.account.limit ≡ s.account.limit
      pub up : s.account.first ≤ t.account.first
      pub mover : (t.account.first ≡ s.account.first) ⊎ Mover t.account.first

    pub replay : (T : ℕ → V) (l : ℕ) (s : State V) (h : List (AcceptedCall V)) (t : State V) → Good l s → (es : List ℕ) → Tracked es h s → Fresh es h → EachTotal (λ n y. y ≡ T n) h →
        Run J s h t → Replay T es h s t
    replay T l s [] t g es tr fr tot r = record {
      end = subst (Tracked es []) r tr;
      each = λ k. tt;
      limit = ap (λ (u : State V). u.account.limit) (sym r);
      up = let q : s.account.first ≡ t.account.first = ap (λ (u : State V). u.account.first) r in omega arith;
      mover = inl (ap (λ (u : State V). u.account.first) (sym r));
    }
    replay T l s ((c, a) ∷ h) t g es tr fr tot r =
        let u = r.0 in
        let rose = step_good J l s g c.caller c.action a u r.1 in
        let sh = effect J l s g c.caller c.action a u r.1 in
        let v = sh.view in
        let rec = replay T rose.level u h t rose.good (entrant c.action ++ es) (track_step es c a h s u tr fr.0 sh) fr.1 tot.1 r.2 in
        let came = caller_came es c a h s v tr sh.member in
        let above = rec.up in
        record {
          end = rec.end;
          each = λ k.
              ⊎_elim
              (λ e. subst (λ (ds : List (Act V)). Replayed T t.account.first k ds) (sym (done_own k c a h e))
              ((v, subst (λ (i : ℕ). At i (c.action ∷ actions_by i h) (Some v)) (sym e) came, sh.says T tot.0, λ w m. let b = sh.firsts.bound w m in omega arith), rec.each k))
              (λ ne. subst (λ (ds : List (Act V)). Replayed T t.account.first k ds) (sym (done_other k c a h ne)) (rec.each k))
              (cases_eq k c.caller);
          limit = rec.limit ∙ r.1.limits.limit;
          up = let b = sh.firsts.up in omega arith;
          mover =
              ⊎_elim
              (λ e. ⊎_elim
              (λ f. inl (e ∙ f))
              (λ f. inr (record { station = c.caller; rest = actions_by c.caller h; view = v; came = subst (λ (y : Action V). At c.caller (y ∷ actions_by c.caller h) (Some v)) f.0 came; may = f.1; reached = f.2 ∙ sym e }))
              sh.firsts.moved)
              (λ m. inr m)
              rec.mover;
        }
