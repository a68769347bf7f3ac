-- Who holds a waiter back.
use Rattle.std.specs.Prelude.{◌≡◌, ◌↔◌, ℕ, ◌+◌, ◌*◌, ◌/◌, ◌%◌, ◌^◌, Bool, false, cond, ◌&&◌, List, [], ◌∷◌, Some, None, Option, Result, count_ones, nat_lt, slice_index_or}
use Rattle.refusal.specs.declared.Refusal.{Refusal}
use Rattle.refusal.specs.Rules.{verdict}
use Rattle.calls.specs.declared.Verb.TheVariants as verb
use Rattle.calls.specs.declared.views.View.{View}
use Rattle.calls.specs.Views.{signs, Before}
use Rattle.accumulator.specs.Meaning.{answer_by}
use Rattle.phaser.specs.Rules.{Await}
use Rattle.phaser.specs.Steps.{view_of}
use Rattle.board.specs.Entry.{entry_rules}

-- a member that signs, and has not signed the pass after wp
abbrev pub holds_back : ℕ → Option View → Bool
holds_back wp None = false
holds_back wp (Some v) = signs v.mode && nat_lt v.sp (wp + 1)

-- the seats that hold back, as a set: the first in the lowest bit
abbrev pub holder_set : ℕ → List (Option View) → ℕ
holder_set wp [] = 0
holder_set wp (o ∷ os) = cond (holds_back wp o) 1 0 + 2 * holder_set wp os

-- bit k of a set is one
abbrev pub HasBit : ℕ → ℕ → Type 0
HasBit set k = set / 2 ^ k % 2 ≡ 1

-- a member at k, with a view that happened before w
pub record HappenedBefore (members : List (Option View)) (k : ℕ) (w : View) : Type 0 where
  pub view : View
  pub member : slice_index_or members k None ≡ Some view
  pub before : Before view w

-- the set of those that a waiter waits for, w being its view after its wait
pub record WaitsFor (members : List (Option View)) (w : View) (set : ℕ) : Type 0 where
  -- bit k is one just where the view at k happened before w
  pub each : (k : ℕ) → HasBit set k ↔ HappenedBefore members k w
  -- the set is empty just where every signaler has signed the pass of the wait
  pub none : (set ≡ 0) ↔ Await (λ k. slice_index_or members k None) w.wp

-- what a waiter is told, or why not: its set of holders, with the count of ones
abbrev pub holders_of : List (Option View) → ℕ → Result (ℕ × ℕ) Refusal
holders_of seats waiter =
    let set : ℕ = holder_set (view_of (slice_index_or seats waiter None)).wp seats in
    answer_by (verdict (entry_rules seats waiter verb.Wait)) (set, count_ones set)
