-- Calls by the rules, on a board whose state is known.
use Rattle.std.proofs.Common.{◌≡◌, ℕ, List, Ok, Err, Result, IsOk, refl, sym, subst, ap, ◌∙◌}
use Rattle.refusal.specs.declared.Refusal.{Refusal}
use Rattle.refusal.specs.Trace.{trace}
use Rattle.refusal.proofs.Traces.{trace_seen}
use Rattle.joining.specs.declared.Joining.{Ghosts}
use Rattle.calls.specs.declared.actions.Action.{Action}
use Rattle.calls.specs.declared.actions.Answer.{Answer}
use Rattle.calls.specs.declared.actions.Call.{Call}
use Rattle.accumulator.specs.LentCells.{CellChanges}
use Rattle.phaser.specs.State.{State}
use Rattle.phaser.specs.Steps.{step}
use Rattle.phaser.specs.Histories.{call_step}
use Rattle.calls.specs.declared.actions.Answer.TheVariants.{Total}
use Rattle.board.specs.Board.{WholeBoard, board_step, board_call, as_answer}
use Rattle.ticket.specs.Calls.{by_number, without_ticket, ComesBack}

module _ {V : Type 0} (J : Ghosts V) (k : CellChanges V) where
  -- h' is the board after station j's action x on h, and r is what it was answered
  abbrev pub IsStep : WholeBoard V → ℕ → Action V → Result (Answer V) Refusal → WholeBoard V → Type 0
  IsStep h j x r h' = ◌≡◌ {A = Result (Answer V) Refusal × WholeBoard V} (r, h') (board_step J k h j x)

  -- the answer, and the state after it
  pub answered : (h h' : WholeBoard V) (s : State V) (r : Result (Answer V) Refusal) (j : ℕ) (x : Action V) → h.state ≡ s → IsStep h j x r h' → r ≡ (step J s j x).0
  answered h h' s r j x known made = ap (λ (p : Result (Answer V) Refusal × WholeBoard V). p.0) made ∙ ap (λ t. (step J t j x).0) known

  pub left : (h h' : WholeBoard V) (s : State V) (r : Result (Answer V) Refusal) (j : ℕ) (x : Action V) → h.state ≡ s → IsStep h j x r h' → h'.state ≡ (step J s j x).1
  left h h' s r j x known made = ap (λ (p : Result (Answer V) Refusal × WholeBoard V). p.1.state) made ∙ ap (λ t. (step J t j x).1) known

  -- what the rules accept is not refused
  pub accepted : (h h' : WholeBoard V) (s : State V) (r : Result (Answer V) Refusal) (j : ℕ) (x : Action V) → h.state ≡ s → IsStep h j x r h' → IsOk (step J s j x).0 → IsOk r
  accepted h h' s r j x known made ok = subst IsOk (sym (answered h h' s r j x known made)) ok

  -- the same of a caller i that is known to be j
  pub left_by : (h h' : WholeBoard V) (s : State V) (r : Result (Answer V) Refusal) (i j : ℕ) (x : Action V) → i ≡ j → h.state ≡ s → IsStep h i x r h' → h'.state ≡ (step J s j x).1
  left_by h h' s r i j x who known made = left h h' s r j x known (subst (λ n. IsStep h n x r h') who made)

  pub answered_by : (h h' : WholeBoard V) (s : State V) (r : Result (Answer V) Refusal) (i j : ℕ) (x : Action V) → i ≡ j → h.state ≡ s → IsStep h i x r h' → r ≡ (step J s j x).0
  answered_by h h' s r i j x who known made = answered h h' s r j x known (subst (λ n. IsStep h n x r h') who made)

  -- the answers to a list of calls
  pub played : (h h' : WholeBoard V) (s : State V) (calls : List (Call V)) (answers : List (Result (Answer V) Refusal)) → h.state ≡ s →
      ◌≡◌ {A = List (Result (Answer V) Refusal) × WholeBoard V} (answers, h') (trace (board_call J k) h calls) → answers ≡ (trace (call_step J) s calls).0
  played h h' s calls answers known made =
      ap (λ (p : List (Result (Answer V) Refusal) × WholeBoard V). p.0) made
      ∙ ap (λ (p : List (Result (Answer V) Refusal) × State V). p.0) (trace_seen (board_call J k) (call_step J) (λ (b : WholeBoard V). b.state) (λ b c. refl) h calls)
      ∙ ap (λ t. (trace (call_step J) t calls).0) known

module _ {V X : Type 0} (f : X → Answer V) where
  -- of a call's result, by what is answered
  pub not_refused : (r : Result X Refusal) (refusal : Refusal) → IsOk (as_answer f r) → r ≡ Err refusal → ⊥
  not_refused (Ok x) refusal ok was = cc
  not_refused (Err e) refusal ok was = cc

  pub is_accepted : {a : Answer V} (r : Result X Refusal) → as_answer f r ≡ Ok a → IsOk r
  is_accepted (Ok x) e = refl
  is_accepted (Err refusal) e = absurd (cc)

  -- the same of calls on tickets
  pub on_ticket : {a : Answer V} {T U : Type 0} (r : Result (X × T) (Refusal × U)) → as_answer f (without_ticket r) ≡ Ok a → IsOk r
  on_ticket (Ok x) e = refl
  on_ticket (Err refusal) e = absurd (cc)

  pub on_last_ticket : {a : Answer V} {U : Type 0} (r : Result X (Refusal × U)) → as_answer f (by_number r) ≡ Ok a → IsOk r
  on_last_ticket (Ok x) e = refl
  on_last_ticket (Err refusal) e = absurd (cc)

-- whose the next ticket is
pub next_number : {X : Type 0} (r : Result (X × ℕ) (Refusal × ℕ)) (station : ℕ) (a : X × ℕ) → ComesBack station r → r ≡ Ok a → a.1 ≡ station
next_number (Ok b) station a back was = let same : b ≡ a = cc in sym (ap (λ n. n.1) same) ∙ back
next_number (Err e) station a back was = absurd (cc)

-- the total that is answered
pub total_told : {V : Type 0} (r : Result (ℕ × V) Refusal) (pass : ℕ) (x : V) → as_answer (λ (t : ℕ × V). Total t.0 t.1) r ≡ Ok (Total pass x) → r ≡ Ok (pass, x)
total_told (Ok t) pass x e = let p : t.0 ≡ pass = cc in let q : t.1 ≡ x = cc in λ i. Ok (p i, q i)
total_told (Err r) pass x e = absurd (cc)
