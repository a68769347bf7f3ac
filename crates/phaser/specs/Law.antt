-- The law of the record, over every history of a board and an accumulator just made.
use Rattle.std.specs.Prelude.{◌≡◌, ℕ, ◌<◌, ◌≢◌, List, [], ◌∷◌, ◌++◌, ◌-◌, fold, max, map, zip, Some, Result}
use Rattle.std.specs.List.{slice_get, AllByRecursion}
use Rattle.refusal.specs.declared.Refusal.{Refusal}
use Rattle.refusal.specs.declared.Refusal.TheVariants.{LastPassKept, NotKept}
use Rattle.refusal.specs.declared.limits.TheConstants.{STATIONS}
use Rattle.refusal.specs.Trace.{trace}
use Rattle.joining.specs.declared.Joining.{Ghosts}
use Rattle.joining.specs.Lists.{joining_of}
use Rattle.calls.specs.declared.Mode.{Mode}
use Rattle.calls.specs.declared.views.View.{View}
use Rattle.calls.specs.declared.actions.Call.{Call}
use Rattle.calls.specs.declared.actions.Answer.{Answer}
use Rattle.calls.specs.Views.{Before}
use Rattle.phaser.specs.State.{State, seat, new_state, SoundState}
use Rattle.phaser.specs.Agreement.{Agrees}
use Rattle.phaser.specs.Steps.{view_of}
use Rattle.phaser.specs.Histories.{Event, AcceptedCall, call_step, accepted_calls, history, final_state, refusals, views_read, values_for, EachTotal, answered_actions, actions_by, entrants, sw_passes}

-- no view read later happened before one read earlier
abbrev pub ReadInOrder : List View → Type 0
ReadInOrder vs = (i k : ℕ) (v w : View) → i < k → slice_get vs i ≡ Some v → slice_get vs k ≡ Some w → ¬ (Before w v)

-- happened-before, over the views read
pub record StrictOrder (vs : List View) : Type 0 where
  pub transitive : (i j k : ℕ) (u v w : View) → slice_get vs i ≡ Some u → slice_get vs j ≡ Some v → slice_get vs k ≡ Some w → Before u v → Before v w → Before u w
  pub irreflexive : (i : ℕ) (v : View) → slice_get vs i ≡ Some v → ¬ (Before v v)
  pub asymmetric : (i j : ℕ) (v w : View) → slice_get vs i ≡ Some v → slice_get vs j ≡ Some w → Before v w → ¬ (Before w v)

-- no number stands twice in the list
abbrev pub Once : List ℕ → Type 0
Once [] = Unit {0}
Once (x ∷ xs) = AllByRecursion (λ y. x ≢ y) xs × Once xs

-- a refusal other than the two that come in no history: of a pass that is not kept, and of a move on past the last pass
pub record Expected (r : Refusal) : Type 0 where
  pub kept : (pass : ℕ) → r ≢ NotKept pass
  pub moves : (first : ℕ) → r ≢ LastPassKept first

module _ {V : Type 0} where
  -- two histories accept the same calls, each station's in the same order
  abbrev pub SameCalls : List (AcceptedCall V) → List (AcceptedCall V) → Type 0
  SameCalls g h = (k : ℕ) → actions_by k g ≡ actions_by k h

  -- every accepted call gets the same answer in both, in the order of its station's accepted calls
  abbrev pub SameAnswers : List (AcceptedCall V) → List (AcceptedCall V) → Type 0
  SameAnswers g h = (k : ℕ) → answered_actions k g ≡ answered_actions k h

  -- two histories, which end in t and u, in which the same is accepted, no number entering twice, have the same answers and the same end
  abbrev pub OrderFree : ℕ → List (Event V) → State V → List (Event V) → State V → Type 0
  OrderFree first_member g t h u = Once (first_member ∷ entrants (accepted_calls g)) → SameCalls (accepted_calls g) (accepted_calls h) → SameAnswers (accepted_calls g) (accepted_calls h) × (t ≡ u)

  module _ (J : Ghosts V) where
    -- every total handed out for a pass is the joining of all values accepted for it in the whole history
    abbrev pub Complete : List (AcceptedCall V) → Type 0
    Complete h = EachTotal (λ pass total. total ≡ joining_of J (values_for pass h)) h

    -- each call finds a board, left by the calls before it, on which it is accepted just where the rule of the literature applies within the limits
    abbrev pub ByTheRules : State V → List (Event V) → Type 0
    ByTheRules start h =
        (earlier later : List (Event V)) (e : Event V) → h ≡ earlier ++ e ∷ later →
        Agrees J (final_state J start (map (λ d. d.0) earlier)) e.0.caller e.0.action

    -- what holds of a history that leads from a start, at which the first member is alone, to t
    pub record LawOfTheRecord (first_member : ℕ) (start : State V) (h : List (Event V)) (t : State V) : Type 0 where
      pub sound : SoundState t
      pub by_rules : ByTheRules start h
      pub in_order : ReadInOrder (views_read (accepted_calls h))
      pub causal : StrictOrder (views_read (accepted_calls h))
      pub complete : Complete (accepted_calls h)
      pub order_free : (others : List (Call V)) → OrderFree first_member h t (history J start others) (final_state J start others)
      pub expected : AllByRecursion Expected (refusals h)
      -- the first kept pass is one less than the largest pass that an accepted SW wait answered, and 0 where there is none
      pub moves : t.account.first ≡ fold max 0 (sw_passes (λ k. (view_of (seat start k)).mode) (accepted_calls h)) - 1

    -- ---- a board that is called more than once

    -- h is all that has happened to a board, now t, since its first member made it in a mode, on an accumulator of this limit just made
    pub record RecordOf (first_member : ℕ) (mode : Mode) (limit : ℕ) (h : List (Event V)) (t : State V) : Type 0 where
      pub maker : first_member < STATIONS
      pub calls : List (Call V)
      pub recorded : h ≡ history J (new_state J first_member mode limit) calls
      pub ends : t ≡ final_state J (new_state J first_member mode limit) calls

    -- more calls lead a board from s to t: what they are answered goes on its record, and the law holds of the whole
    abbrev pub RecordGoesOn : State V → List (Event V) → State V → Type 0
    RecordGoesOn s more t =
        (first_member : ℕ) (mode : Mode) (limit : ℕ) (h : List (Event V)) → RecordOf first_member mode limit h s →
        RecordOf first_member mode limit (h ++ more) t × LawOfTheRecord first_member (new_state J first_member mode limit) (h ++ more) t

    -- two boards made alike, however each was called: where the same is accepted they have answered alike and are the same
    abbrev pub RecordsAlike : Type 0
    RecordsAlike = (first_member : ℕ) (mode : Mode) (limit : ℕ) (g h : List (Event V)) (s t : State V) →
        RecordOf first_member mode limit g s → RecordOf first_member mode limit h t → OrderFree first_member g s h t

    -- of calls by the rules, by any callers with any arguments, on any board, made and called before in any way
    abbrev pub RecordsGoOn : Type 0
    RecordsGoOn = (s t : State V) (calls : List (Call V)) (answers : List (Result (Answer V) Refusal)) → (answers, t) ≡ trace (call_step J) s calls → RecordGoesOn s (zip calls answers) t
