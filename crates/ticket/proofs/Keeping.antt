-- What a call on a ticket does to the truth of tickets.
use Rattle.std.proofs.Common.{◌≢◌, ◌≡◌, ℕ, ◌+◌, ◌<◌, true, not, length, get_or, set, is_some, Some, None, Option, Ok, Err, Result, sym, refl, ap, ◌∙◌, subst, ⊎_elim, arith}
use Rattle.std.proofs.lemmas.List.{length-set, get_or_past, get_or-set_same, get_or-set_other}
use Rattle.std.proofs.lemmas.Bool.{cases_lt, and_parts, ltb-true, lt-ltb, false≢true}
use Rattle.std.specs.Result.{IsOk, OnOk}
use Rattle.std.specs.Option.{IfSome}
use Rattle.refusal.specs.declared.Refusal.{Refusal}
use Rattle.refusal.specs.declared.limits.TheConstants.{STATIONS}
use Rattle.refusal.specs.Rules.{Verdict, verdict, EveryRuleHolds}
use Rattle.refusal.proofs.Verdicts.{accepted, unbroken}
use Rattle.joining.specs.declared.Joining.{Ghosts}
use Rattle.calls.specs.declared.Mode.{Mode}
use Rattle.calls.specs.declared.Mode.TheVariants as mode
use Rattle.calls.specs.declared.Verb.TheVariants as verb
use Rattle.calls.specs.declared.views.View.{View}
use Rattle.calls.specs.declared.actions.Action.{Action}
use Rattle.calls.specs.declared.actions.Action.TheVariants.{Register, Signal, Wait, Drop, Send, Result as AskResult, View as AskView}
use Rattle.calls.specs.declared.actions.Answer.{Answer}
use Rattle.calls.specs.Calls.{verb_in}
use Rattle.calls.specs.Tables.{allowed, admits}
use Rattle.accumulator.specs.Meaning.{answer_by, total_in}
use Rattle.accumulator.specs.LentCells.{CellChanges as Writing}
use Rattle.phaser.specs.State.{State, seat}
use Rattle.phaser.specs.Rules.{view_after_signal, view_after_wait, newcomer_view}
use Rattle.phaser.specs.Steps.{view_of, rules, answer_of, state_of, state_by, step}
use Rattle.phaser.proofs.Seats.{none_some}
use Rattle.phaser.proofs.Turns.{vacant}
use Rattle.board.specs.Board.{WholeBoard, board_step, as_answer}
use Rattle.ticket_kinds.specs.declared.Kind.{Kind}
use Rattle.ticket_kinds.specs.declared.Kind.TheVariants.{Open, Signed, SignOnly, WaitOnly}
use Rattle.ticket_kinds.specs.Kinds.{Tells, offers, newcomer_kind, after_signing, after_waiting}
use Rattle.ticket.specs.Truth.{Truthful, Keeps, next_ticket}
use Rattle.ticket.proofs.InTurn.{may_come}

-- ---- what a view's ticket says after one more count, and of a newcomer

signed_tells : (kind : Kind) (v : View) → offers kind verb.Signal ≡ true → Tells kind v → Tells (after_signing kind) (view_after_signal v)
signed_tells Open v e t = record { mode = t.mode; turn = ap (λ n. n + 1) t.turn }
signed_tells Signed v e t = absurd (false≢true e)
signed_tells SignOnly v e t = record { mode = t.mode; turn = tt }
signed_tells WaitOnly v e t = absurd (false≢true e)

observed_tells : (kind : Kind) (v : View) → offers kind verb.Wait ≡ true → Tells kind v → Tells (after_waiting kind) (view_after_wait v)
observed_tells Open v e t = absurd (false≢true e)
observed_tells Signed v e t = record { mode = t.mode; turn = t.turn }
observed_tells SignOnly v e t = absurd (false≢true e)
observed_tells WaitOnly v e t = record { mode = t.mode; turn = tt }

-- who may bring in an SW is one
newcomer_tells : (kind : Kind) (r : Mode) (v : View) → admits v.mode r ≡ true → Tells kind v → Tells (newcomer_kind kind r) (newcomer_view r v)
newcomer_tells Open mode.SignalWait v e t = record { mode = refl; turn = t.turn }
newcomer_tells Signed mode.SignalWait v e t = record { mode = refl; turn = t.turn }
newcomer_tells SignOnly mode.SignalWait v e t = absurd (false≢true (subst (λ m. admits m mode.SignalWait ≡ true) t.mode e))
newcomer_tells WaitOnly mode.SignalWait v e t = absurd (false≢true (subst (λ m. admits m mode.SignalWait ≡ true) t.mode e))
newcomer_tells Open mode.SignalOnly v e t = record { mode = refl; turn = tt }
newcomer_tells Signed mode.SignalOnly v e t = record { mode = refl; turn = tt }
newcomer_tells SignOnly mode.SignalOnly v e t = record { mode = refl; turn = tt }
newcomer_tells WaitOnly mode.SignalOnly v e t = record { mode = refl; turn = tt }
newcomer_tells Open mode.WaitOnly v e t = record { mode = refl; turn = tt }
newcomer_tells Signed mode.WaitOnly v e t = record { mode = refl; turn = tt }
newcomer_tells SignOnly mode.WaitOnly v e t = record { mode = refl; turn = tt }
newcomer_tells WaitOnly mode.WaitOnly v e t = record { mode = refl; turn = tt }

-- ---- what an accepted call leaves

pub moved_over : {V : Type 0} (s u : State V) (k : ℕ) (kind : Kind) → length u.members ≡ length s.members → seat u k ≡ seat s k → Truthful s k kind → Truthful u k kind
moved_over s u k kind n e h = record { table = n ∙ h.table; view = h.view; member = e ∙ h.member; tells = h.tells }

pub within : {V : Type 0} (s : State V) (j : ℕ) (v : View) → seat s j ≡ Some v → j < length s.members
within s j v e = ⊎_elim (λ lt. lt) (λ ge. absurd (none_some v (sym (get_or_past s.members j None ge) ∙ e))) (cases_lt j (length s.members))

module _ {V : Type 0} (J : Ghosts V) (s : State V) (j : ℕ) where
  abbrev pub me : View
  me = view_of (seat s j)

  abbrev pub after : Action V → State V
  after x = state_of J s j me x

  -- a call adds no seat
  pub as_long : (x : Action V) → length (after x).members ≡ length s.members
  as_long (Register o r) = length-set s.members o (Some (newcomer_view r me))
  as_long Signal = length-set s.members j (Some (view_after_signal me))
  as_long Wait = length-set s.members j (Some (view_after_wait me))
  as_long Drop = length-set s.members j None
  as_long (Send y) = refl
  as_long AskResult = refl
  as_long AskView = refl

  -- a write in another seat
  pub elsewhere : (i : ℕ) (o : Option View) (k : ℕ) → (k ≢ i) → get_or (set s.members i o) k None ≡ seat s k
  elsewhere i o k ne = get_or-set_other s.members i k o None ne

  no_member : (i : ℕ) → not (is_some (seat s i)) ≡ true → (k : ℕ) (kind : Kind) → Truthful s k kind → k ≢ i
  no_member i e k kind h q = none_some h.view (sym (vacant (seat s i) e) ∙ ap (seat s) (sym q) ∙ h.member)

  pub others : (x : Action V) → EveryRuleHolds (rules s j me x) → (k : ℕ) (kind : Kind) → (k ≢ j) → Truthful s k kind → Truthful (after x) k kind
  others (Register o r) e k kind ne h = moved_over s (after (Register o r)) k kind (as_long (Register o r)) (elsewhere o (Some (newcomer_view r me)) k (no_member o e.1.1.1.0 k kind h)) h
  others Signal e k kind ne h = moved_over s (after Signal) k kind (as_long Signal) (elsewhere j (Some (view_after_signal me)) k ne) h
  others Wait e k kind ne h = moved_over s (after Wait) k kind (as_long Wait) (elsewhere j (Some (view_after_wait me)) k ne) h
  others Drop e k kind ne h = moved_over s (after Drop) k kind (as_long Drop) (elsewhere j None k ne) h
  others (Send x) e k kind ne h = moved_over s (after (Send x)) k kind (as_long (Send x)) refl h
  others AskResult e k kind ne h = h
  others AskView e k kind ne h = h

  module _ (kind : Kind) (h : Truthful s j kind) where
    pub mine : Tells kind me
    mine = subst (Tells kind) (sym (ap view_of h.member)) h.tells

    -- the ticket's own seat after a write
    rewritten : (next : Kind) (v : View) (u : State V) → u.members ≡ set s.members j (Some v) → Tells next v → Truthful u j next
    rewritten next v u e t = record {
      table = ap length e ∙ length-set s.members j (Some v) ∙ h.table;
      view = v;
      member = ap (λ ms. get_or ms j None) e ∙ get_or-set_same s.members j (Some v) None (within s j h.view h.member);
      tells = t;
    }

    pub own : (x : Action V) → offers kind (verb_in x) ≡ true → EveryRuleHolds (rules s j me x) → IfSome (next_ticket kind x) (Truthful (after x) j)
    own (Register o r) f e = moved_over s (after (Register o r)) j kind (as_long (Register o r)) (elsewhere o (Some (newcomer_view r me)) j (no_member o e.1.1.1.0 j kind h)) h
    own Signal f e = rewritten (after_signing kind) (view_after_signal me) (after Signal) refl (signed_tells kind me f mine)
    own Wait f e = rewritten (after_waiting kind) (view_after_wait me) (after Wait) refl (observed_tells kind me f mine)
    own Drop f e = tt
    own (Send x) f e = moved_over s (after (Send x)) j kind (as_long (Send x)) refl h
    own AskResult f e = h
    own AskView f e = h

    -- a newcomer takes its seat
    pub enters : (o : ℕ) (r : Mode) → EveryRuleHolds (rules s j me (Register o r)) → Truthful (after (Register o r)) o (newcomer_kind kind r)
    enters o r e =
        let lt : o < STATIONS = ltb-true o STATIONS e.1.0 in
        let table = h.table in
        record {
          table = as_long (Register o r) ∙ table;
          view = newcomer_view r me;
          member = get_or-set_same s.members o (Some (newcomer_view r me)) None (omega arith);
          tells = newcomer_tells kind r me (and_parts (allowed verb.Register me.mode) (admits me.mode r) e.1.1.1.1.0).1 mine;
        }

  -- ---- one call

  module _ (kind : Kind) (x : Action V) (offered : offers kind (verb_in x) ≡ true) where
    kept_by : (w : Verdict) (a : Answer V) → w ≡ verdict (rules s j me x) → Keeps s j kind (next_ticket kind x) (answer_by w a) (state_by w (after x) s)
    kept_by (Ok done) a e = record {
      own = λ h. own kind h x offered (unbroken (rules s j me x) (sym e));
      others = others x (unbroken (rules s j me x) (sym e));
    }
    kept_by (Err refusal) a e = record {
      own = λ h. (h, may_come s j kind me (mine kind h) (ap is_some h.member) x offered refusal (sym e));
      others = λ k other ne h. h;
    }

    pub step_keeps : (r : Result (Answer V) Refusal) (t : State V) → (r, t) ≡ step J s j x → Keeps s j kind (next_ticket kind x) r t
    step_keeps r t e = subst (λ (p : Result (Answer V) Refusal × State V). Keeps s j kind (next_ticket kind x) p.0 p.1) (sym e) (kept_by (verdict (rules s j me x)) (answer_of (total_in J s.account) me x) refl)

  -- ---- who enters and who leaves

  module _ (kind : Kind) (h : Truthful s j kind) where
    entered_by : (o : ℕ) (m : Mode) (w : Verdict) (a : Answer V) → w ≡ verdict (rules s j me (Register o m)) → OnOk (answer_by w a) (Truthful (state_by w (after (Register o m)) s) o (newcomer_kind kind m))
    entered_by o m (Ok done) a e = enters kind h o m (unbroken (rules s j me (Register o m)) (sym e))
    entered_by o m (Err refusal) a e = tt

    pub step_enters : (o : ℕ) (m : Mode) (r : Result (Answer V) Refusal) (t : State V) → (r, t) ≡ step J s j (Register o m) → OnOk r (Truthful t o (newcomer_kind kind m))
    step_enters o m r t e =
        subst (λ (p : Result (Answer V) Refusal × State V). OnOk p.0 (Truthful p.1 o (newcomer_kind kind m))) (sym e)
        (entered_by o m (verdict (rules s j me (Register o m))) (answer_of (total_in J s.account) me (Register o m)) refl)

    -- a member may always leave
    drop_holds : EveryRuleHolds (rules s j me Drop)
    drop_holds = (lt-ltb j STATIONS (let lt = within s j h.view h.member in let table = h.table in omega arith), (ap is_some h.member, (any_drops me.mode, tt)))
      where
        any_drops : (m : Mode) → allowed verb.Drop m ≡ true
        any_drops mode.SignalWait = refl
        any_drops mode.SignalOnly = refl
        any_drops mode.WaitOnly = refl

    pub step_drops : (r : Result (Answer V) Refusal) (t : State V) → (r, t) ≡ step J s j Drop → IsOk r
    step_drops r t e =
        let w : verdict (rules s j me Drop) ≡ Ok tt = accepted (rules s j me Drop) drop_holds in
        subst IsOk (sym (ap (λ (p : Result (Answer V) Refusal × State V). p.0) e ∙ ap (λ (d : Verdict). answer_by d (answer_of (total_in J s.account) me Drop)) w)) refl

-- ---- the same of what the functions answer

-- every ticket may bring in others, and leave
pub may_register : (kind : Kind) → offers kind verb.Register ≡ true
may_register Open = refl
may_register Signed = refl
may_register SignOnly = refl
may_register WaitOnly = refl

pub may_drop : (kind : Kind) → offers kind verb.Drop ≡ true
may_drop Open = refl
may_drop Signed = refl
may_drop SignOnly = refl
may_drop WaitOnly = refl

as_answer_keeps : {V X : Type 0} (s : State V) (j : ℕ) (kind : Kind) (next : Option Kind) (t : State V) (f : X → Answer V) (r : Result X Refusal) → Keeps s j kind next (as_answer f r) t → Keeps s j kind next r t
as_answer_keeps s j kind next t f (Ok x) h = record { own = h.own; others = h.others }
as_answer_keeps s j kind next t f (Err refusal) h = record { own = h.own; others = h.others }

module _ {V : Type 0} (J : Ghosts V) (k : Writing V) (b : WholeBoard V) (j : ℕ) (kind : Kind) (u : WholeBoard V) where
  -- the state that is left of a board
  state_left : (x : Action V) (r : Result (Answer V) Refusal) → (r, u) ≡ board_step J k b j x → (r, u.state) ≡ step J b.state j x
  state_left x r e = ap (λ (q : Result (Answer V) Refusal × WholeBoard V). (q.0, q.1.state)) e

  pub keeps : {X : Type 0} (x : Action V) (next : Option Kind) → next ≡ next_ticket kind x → offers kind (verb_in x) ≡ true → (f : X → Answer V) (r : Result X Refusal) → (as_answer f r, u) ≡ board_step J k b j x → Keeps b.state j kind next r u.state
  keeps x next q offered f r e =
      subst (λ o. Keeps b.state j kind o r u.state) (sym q)
      (as_answer_keeps b.state j kind (next_ticket kind x) u.state f r (step_keeps J b.state j kind x offered (as_answer f r) u.state (state_left x (as_answer f r) e)))

  pub drops : {X : Type 0} (f : X → Answer V) (r : Result X Refusal) → (as_answer f r, u) ≡ board_step J k b j Drop → Truthful b.state j kind → IsOk r
  drops f (Ok x) e h = refl
  drops f (Err refusal) e h = step_drops J b.state j kind h (Err refusal) u.state (state_left Drop (Err refusal) e)

  pub brings : {X : Type 0} (o : ℕ) (m : Mode) (f : X → Answer V) (x : X) → (Ok (f x), u) ≡ board_step J k b j (Register o m) → Truthful b.state j kind → Truthful u.state o (newcomer_kind kind m)
  brings o m f x e h = step_enters J b.state j kind h o m (Ok (f x)) u.state (state_left (Register o m) (Ok (f x)) e)
