-- What a call answers and leaves: its rules in the order in which they are tried, else its answer and the state after it.
use Rattle.std.specs.Prelude.{ℕ, ◌+◌, Bool, true, cond, not, ◌&&◌, ◌||◌, List, [], ◌∷◌, ◌++◌, is_some, Some, None, Ok, Err, Option, Result, ◌==◌, nat_le, nat_lt, slice_set}
use Rattle.std.specs.List.{list_all}
use Rattle.refusal.specs.declared.Refusal.{Refusal}
use Rattle.refusal.specs.declared.Refusal.TheVariants.{NoStation, NotMember, AlreadyMember, ModeDenied, OutOfTurn, PastLastPass, NotSigned, NothingObserved}
use Rattle.refusal.specs.declared.limits.TheConstants.{STATIONS, LAST_PASS}
use Rattle.refusal.specs.Rules.{Rule, rule, Verdict, verdict}
use Rattle.joining.specs.declared.Joining.{Ghosts}
use Rattle.calls.specs.declared.Mode.TheVariants.{WaitOnly}
use Rattle.calls.specs.declared.Verb.{Verb}
use Rattle.calls.specs.declared.Verb.TheVariants as verb
use Rattle.calls.specs.declared.views.View.{View}
use Rattle.calls.specs.declared.actions.Action.{Action}
use Rattle.calls.specs.declared.actions.Action.TheVariants.{Register, Signal, Wait, Drop, Send, Result as AskResult, View as AskView}
use Rattle.calls.specs.declared.actions.Answer.{Answer}
use Rattle.calls.specs.declared.actions.Answer.TheVariants.{Registered, Signaled, Observed, Dropped, Sent, Total, Viewed}
use Rattle.calls.specs.Tables.{allowed, admits}
use Rattle.calls.specs.Views.{signs}
use Rattle.accumulator.specs.Window.{add_rules, total_rules, move_on_rules}
use Rattle.accumulator.specs.Meaning.{answer_by, total_in, with_value, without_first}
use Rattle.phaser.specs.State.{State, seat, first_view}
use Rattle.phaser.specs.Rules.{view_after_signal, view_after_wait, newcomer_view}
use Rattle.phaser.specs.Limits.{is_sw, reaches}

-- a member's view; of a station that is no member nothing is asked
abbrev pub view_of : Option View → View
view_of None = first_view WaitOnly
view_of (Some v) = v

-- a signaler has signed pass n
abbrev pub has_signed : ℕ → Option View → Bool
has_signed n None = true
has_signed n (Some w) = not (signs w.mode) || nat_le n w.sp

abbrev pub all_signed : ℕ → List (Option View) → Bool
all_signed n seats = list_all (has_signed n) seats

-- ---- the rules of a call by station j with the view v, in the order in which they are tried

abbrev pub station_rule : ℕ → Rule
station_rule k = rule (nat_lt k STATIONS) (NoStation k)

abbrev pub mode_rule : ℕ → View → Verb → Rule
mode_rule j v verb = rule (allowed verb v.mode) (ModeDenied j)

-- an SW takes turns: it signs or sends unless it has signed a pass that it has not observed, and waits unless it has observed all that it signed
abbrev pub sign_turn : ℕ → View → Rule
sign_turn j v = rule (not (is_sw v.mode && v.sp == v.wp + 1)) (OutOfTurn j)

abbrev pub wait_turn : ℕ → View → Rule
wait_turn j v = rule (not (is_sw v.mode && v.sp == v.wp)) (OutOfTurn j)

abbrev pub pass_rule : ℕ → ℕ → Rule
pass_rule j pass = rule (nat_le pass LAST_PASS) (PastLastPass j)

-- a wait that reaches the lead needs a pass to move on to
abbrev pub moving_rules : ℕ → View → List Rule
moving_rules first v = cond (reaches first v) (move_on_rules first) []

module _ {V : Type 0} where
  abbrev pub member_rule : State V → ℕ → Rule
  member_rule s j = rule (is_some (seat s j)) (NotMember j)

  abbrev pub rules : State V → ℕ → View → Action V → List Rule
  rules s j v (Register other r) =
      station_rule j
      ∷ station_rule other
      ∷ member_rule s j
      ∷ rule (not (is_some (seat s other))) (AlreadyMember other)
      ∷ rule (allowed verb.Register v.mode && admits v.mode r) (ModeDenied j)
      ∷ []
  rules s j v Signal = station_rule j ∷ member_rule s j ∷ mode_rule j v verb.Signal ∷ sign_turn j v ∷ pass_rule j (v.sp + 1) ∷ []
  rules s j v Wait =
      station_rule j
      ∷ member_rule s j
      ∷ mode_rule j v verb.Wait
      ∷ wait_turn j v
      ∷ pass_rule j (v.wp + 1)
      ∷ (moving_rules s.account.first v ++ (rule (all_signed (v.wp + 1) s.members) (NotSigned j) ∷ []))
  rules s j v Drop = station_rule j ∷ member_rule s j ∷ mode_rule j v verb.Drop ∷ []
  rules s j v (Send x) =
      station_rule j
      ∷ member_rule s j
      ∷ mode_rule j v verb.Send
      ∷ sign_turn j v
      ∷ pass_rule j (v.sp + 1)
      ∷ add_rules s.account.limit s.account.first j (v.sp + 1)
  rules s j v AskResult =
      station_rule j
      ∷ member_rule s j
      ∷ mode_rule j v verb.Result
      ∷ rule (nat_lt 0 v.wp) (NothingObserved j)
      ∷ total_rules s.account.first v.wp
  rules s j v AskView = station_rule j ∷ member_rule s j ∷ mode_rule j v verb.View ∷ []

  -- ---- what an accepted call answers and leaves

  -- the totals of the passes being T
  abbrev pub answer_of : (ℕ → V) → View → Action V → Answer V
  answer_of T v (Register other r) = Registered v.sp v.wp
  answer_of T v Signal = Signaled (v.sp + 1)
  answer_of T v Wait = Observed (v.wp + 1)
  answer_of T v Drop = Dropped
  answer_of T v (Send x) = Sent (v.sp + 1)
  answer_of T v AskResult = Total v.wp (T v.wp)
  answer_of T v AskView = Viewed v

  -- s with another seat for station k
  abbrev pub with_seat : State V → ℕ → Option View → State V
  with_seat s k o = record { members = slice_set s.members k o; account = s.account }

  abbrev pub state_by : Verdict → State V → State V → State V
  state_by (Ok _) next s = next
  state_by (Err refusal) next s = s

  module _ (J : Ghosts V) where
    abbrev pub state_of : State V → ℕ → View → Action V → State V
    state_of s j v (Register other r) = with_seat s other (Some (newcomer_view r v))
    state_of s j v Signal = with_seat s j (Some (view_after_signal v))
    state_of s j v Wait = record { members = slice_set s.members j (Some (view_after_wait v)); account = cond (reaches s.account.first v) (without_first J s.account) s.account }
    state_of s j v Drop = with_seat s j None
    state_of s j v (Send x) = record { members = s.members; account = with_value J s.account (v.sp + 1) x }
    state_of s j v _ = s

    -- station j's action x at s: its answer or its refusal, and the state after it
    abbrev pub step : State V → ℕ → Action V → Result (Answer V) Refusal × State V
    step s j x =
        let v : View = view_of (seat s j) in
        let decision : Verdict = verdict (rules s j v x) in
        (answer_by decision (answer_of (total_in J s.account) v x), state_by decision (state_of s j v x) s)
