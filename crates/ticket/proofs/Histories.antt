-- On a board that is reached through its tickets alone each ticket tells the truth.
use Rattle.std.proofs.Common.{◌≡◌, ℕ, ◌<◌, List, [], ◌∷◌, length, is_some, Some, None, Option, Ok, Err, Result, replicate, true, ◌≢◌, IfSome, sym, refl, ap, ◌∙◌, subst, ⊎_elim, arith}
use Rattle.std.proofs.lemmas.List.{length-set, length-replicate, get_or-set_same}
use Rattle.std.specs.Option.{IsSome}
use Rattle.std.specs.List.{AllByRecursion}
use Rattle.refusal.specs.declared.Refusal.{Refusal}
use Rattle.refusal.specs.declared.limits.TheConstants.{STATIONS}
use Rattle.refusal.specs.Rules.{Verdict, verdict, EveryRuleHolds}
use Rattle.refusal.proofs.Verdicts.{unbroken}
use Rattle.joining.specs.declared.Joining.{Ghosts}
use Rattle.accumulator.specs.Meaning.{Meaning, answer_by, total_in}
use Rattle.calls.specs.Calls.{verb_in}
use Rattle.board.specs.Board.{new_state_on}
use Rattle.calls.specs.declared.Mode.{Mode}
use Rattle.calls.specs.declared.Mode.TheVariants.{SignalWait, SignalOnly, WaitOnly}
use Rattle.calls.specs.declared.views.View.{View}
use Rattle.calls.specs.declared.actions.Action.{Action}
use Rattle.calls.specs.declared.actions.Action.TheVariants.{Register, Signal, Wait, Drop, Send, Result as AskResult, View as AskView}
use Rattle.calls.specs.declared.actions.Answer.{Answer}
use Rattle.phaser.specs.State.{State, seat, first_view}
use Rattle.phaser.specs.Rules.{view_after_signal, view_after_wait, newcomer_view, put}
use Rattle.phaser.specs.Steps.{rules, answer_of, state_by}
use Rattle.phaser.specs.Histories.{refusals, history, final_state}
use Rattle.phaser.proofs.Seats.{none_some, put_cases, made_seat}
use Rattle.ticket_kinds.specs.declared.Kind.{Kind}
use Rattle.ticket.specs.Truth.{Truthful, MayCome, Tickets, AllTruthful, first_ticket, TicketCall, calls_of, final_tickets, tickets_after, tickets_by, OnTicket, TruthKept, OnTickets, TicketsTellTheTruth}
use Rattle.ticket_kinds.specs.Kinds.{Tells, offers, first_kind, newcomer_kind, after_signing, after_waiting}
use Rattle.ticket.proofs.InTurn.{may_come}
use Rattle.ticket.proofs.Keeping.{me, mine as tells_mine, as_long, within, after, elsewhere, own, enters, moved_over}

some_kind : (o : Option Kind) (kind : Kind) (P : Kind → Type 0) → o ≡ Some kind → IfSome o P → P kind
some_kind o kind P e h = subst (λ (q : Option Kind). IfSome q P) e h

one_kind : (k m : Kind) → Some k ≡ Some m → k ≡ m
one_kind k m e = cc

put_same : {Y : Type 0} (f : ℕ → Y) (t : ℕ) (y : Y) (k : ℕ) → k ≡ t → put f t y k ≡ y
put_same f t y k q = ⊎_elim (λ c. c.1) (λ c. absurd (c.0 q)) (put_cases f t y k)

first_tells : (m : Mode) → Tells (first_kind m) (first_view m)
first_tells SignalWait = record { mode = refl; turn = refl }
first_tells SignalOnly = record { mode = refl; turn = tt }
first_tells WaitOnly = record { mode = refl; turn = tt }

module _ {V : Type 0} (J : Ghosts V) where
  -- the tickets are true, and the table is full
  record Fair (s : State V) (out : Tickets) : Type 0 where
    pub all : AllTruthful s out
    pub table : length s.members ≡ STATIONS

  module _ (s : State V) (out : Tickets) (fair : Fair s out) (j : ℕ) (kind : Kind) (held : out j ≡ Some kind) where
    mine : Truthful s j kind
    mine = fair.all.tickets j kind held

    module _ (t : State V) (long : length t.members ≡ length s.members) (i : ℕ) (o : Option Kind) where
      -- where the seat and the ticket at place i are new, and the others stay
      all_by : ((k : ℕ) → k ≢ i → seat t k ≡ seat s k) → IfSome o (Truthful t i) → ((v : View) → seat t i ≡ Some v → IsSome o) → AllTruthful t (put out i o)
      all_by same new seated = record {
        tickets = λ k other e.
            ⊎_elim
            (λ q. subst (λ n. Truthful t n other) (sym q.0) (some_kind o other (Truthful t i) (sym q.1 ∙ e) new))
            (λ q. moved_over s t k other long (same k q.0) (fair.all.tickets k other (sym q.1 ∙ e)))
            (put_cases out i o k);
        members = λ k v e.
            ⊎_elim
            (λ q. subst IsSome (sym q.1) (seated v (ap (seat t) (sym q.0) ∙ e)))
            (λ q. subst IsSome (sym q.1) (fair.all.members k v (sym (same k q.0) ∙ e)))
            (put_cases out i o k);
      }

    -- what an accepted call leaves, and with what tickets
    all_after : (x : Action V) → offers kind (verb_in x) ≡ true → EveryRuleHolds (rules s j (me J s j) x) → AllTruthful (after J s j x) (tickets_after out j kind x)
    all_after (Register o r) f e =
        all_by (after J s j (Register o r)) (as_long J s j (Register o r)) o (Some (newcomer_kind kind r)) (elsewhere J s j o (Some (newcomer_view r (me J s j))))
        (enters J s j kind mine o r e) (λ v q. refl)
    all_after Signal f e =
        all_by (after J s j Signal) (as_long J s j Signal) j (Some (after_signing kind)) (elsewhere J s j j (Some (view_after_signal (me J s j)))) (own J s j kind mine Signal f e) (λ v q. refl)
    all_after Wait f e =
        all_by (after J s j Wait) (as_long J s j Wait) j (Some (after_waiting kind)) (elsewhere J s j j (Some (view_after_wait (me J s j)))) (own J s j kind mine Wait f e) (λ v q. refl)
    all_after Drop f e =
        all_by (after J s j Drop) (as_long J s j Drop) j None (elsewhere J s j j None) tt
        (λ v q. absurd (none_some v (sym (get_or-set_same s.members j None None (within s j mine.view mine.member)) ∙ q)))
    all_after (Send y) f e = all_by (after J s j (Send y)) (as_long J s j (Send y)) j (Some kind) (λ k ne. refl) (own J s j kind mine (Send y) f e) (λ v q. refl)
    all_after AskResult f e = all_by s refl j (Some kind) (λ k ne. refl) mine (λ v q. refl)
    all_after AskView f e = all_by s refl j (Some kind) (λ k ne. refl) mine (λ v q. refl)

  -- ---- all calls

  module _ (c : TicketCall V) (cs : List (TicketCall V)) (s : State V) (out : Tickets) (fair : Fair s out) (on : OnTicket out c) where
    abbrev j : ℕ
    j = c.call.caller

    abbrev x : Action V
    x = c.call.action

    abbrev next : Verdict → State V
    next w = state_by w (after J s j x) s

    abbrev answer : Verdict → Result (Answer V) Refusal
    answer w = answer_by w (answer_of (total_in J s.account) (me J s j) x)

    abbrev out_after : Verdict → Tickets
    out_after w = tickets_by (answer w) (tickets_after out j c.kind x) out

    kept_one : (w : Verdict) → verdict (rules s j (me J s j) x) ≡ w → (Fair (next w) (out_after w) → TruthKept J (next w) (out_after w) cs) →
        AllTruthful (final_state J (next w) (calls_of cs)) (final_tickets J (next w) (out_after w) cs)
        × AllByRecursion MayCome (refusals ((c.call, answer w) ∷ history J (next w) (calls_of cs)))
    kept_one (Ok done) e rest =
        let kept = rest (record {
          all = all_after s out fair j c.kind on.held x on.offered (unbroken (rules s j (me J s j) x) e);
          table = as_long J s j x ∙ fair.table;
        }) in (kept.truthful, kept.refusals)
    kept_one (Err refusal) e rest =
        let kept = rest fair in
        let mine = fair.all.tickets j c.kind on.held in
        let come = may_come s j c.kind (me J s j) (tells_mine J s j c.kind mine) (ap is_some mine.member) x on.offered refusal e in
        (kept.truthful, (come, kept.refusals))

  kept_all : (calls : List (TicketCall V)) (s : State V) (out : Tickets) → Fair s out → OnTickets J s out calls → TruthKept J s out calls
  kept_all [] s out fair on = record { truthful = fair.all; refusals = tt }
  kept_all (c ∷ cs) s out fair on =
      let w = verdict (rules s c.call.caller (me J s c.call.caller) c.call.action) in
      let kept = kept_one c cs s out fair on.0 w refl (λ f. kept_all cs (next c cs s out fair on.0 w) (out_after c cs s out fair on.0 w) f on.1) in
      record { truthful = kept.0; refusals = kept.1 }

  -- a board that its first member has just made
  module _ (first_member : ℕ) (mode : Mode) (account : Meaning V) (within_stations : first_member < STATIONS) where
    abbrev start : State V
    start = new_state_on first_member mode account

    first_seat : (k : ℕ) → seat start k ≡ put (λ i. None) first_member (Some (first_view mode)) k
    first_seat = made_seat J first_member mode 0 within_stations

    full : length start.members ≡ STATIONS
    full = length-set (replicate STATIONS None) first_member (Some (first_view mode)) ∙ length-replicate {A = Option View} STATIONS None

    all_first : AllTruthful start (first_ticket first_member mode)
    all_first = record {
      tickets = λ k kind e.
          ⊎_elim
          (λ q. record {
            table = full;
            view = first_view mode;
            member = first_seat k ∙ put_same (λ i. None) first_member (Some (first_view mode)) k q.0;
            tells = subst (λ m. Tells m (first_view mode)) (one_kind (first_kind mode) kind (sym q.1 ∙ e)) (first_tells mode);
          })
          (λ q. let z : ◌≡◌ {A = ℕ} 0 1 = let no : None ≡ Some kind = sym q.1 ∙ e in cc in absurd (omega arith))
          (put_cases (λ i. None) first_member (Some (first_kind mode)) k);
      members = λ k v e.
          ⊎_elim
          (λ q. subst IsSome (sym (put_same (λ i. None) first_member (Some (first_kind mode)) k q.0)) refl)
          (λ q. absurd (none_some v (sym q.1 ∙ sym (first_seat k) ∙ e)))
          (put_cases (λ i. None) first_member (Some (first_view mode)) k);
    }

    pub first_truthful : Truthful start first_member (first_kind mode)
    first_truthful = all_first.tickets first_member (first_kind mode) (put_same (λ i. None) first_member (Some (first_kind mode)) first_member refl)

    fair_first : Fair start (first_ticket first_member mode)
    fair_first = record { all = all_first; table = full }

  pub tickets_tell_the_truth_lem : TicketsTellTheTruth J
  tickets_tell_the_truth_lem k mode account lt calls on = kept_all calls (new_state_on k mode account) (first_ticket k mode) (fair_first k mode account lt) on
