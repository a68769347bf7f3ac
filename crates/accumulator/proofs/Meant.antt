-- The lent cells decide nothing of what calls are answered and of what is meant after them.
use Rattle.std.proofs.Common.{◌≡◌, List, refl, sym, ap, ◌∙◌}
use Rattle.refusal.specs.Trace.{trace}
use Rattle.refusal.proofs.Traces.{trace_seen}
use Rattle.joining.specs.declared.Joining.{Ghosts}
use Rattle.accumulator.specs.declared.histories.Call.{Call}
use Rattle.accumulator.specs.Meaning.{Meaning}
use Rattle.accumulator.specs.LentCells.{CellChanges}
use Rattle.accumulator.specs.Calls.{CallAnswer, Account, meaning_step, account_step}

module _ {V : Type 0} (J : Ghosts V) where
  abbrev without_cells : List (CallAnswer V) × Account V → List (CallAnswer V) × Meaning V
  without_cells r = (r.0, r.1.meaning)

  meant : (k : CellChanges V) (a : Account V) (cs : List (Call V)) → without_cells (trace (account_step J k) a cs) ≡ trace (meaning_step J) a.meaning cs
  meant k = trace_seen (account_step J k) (meaning_step J) (λ (a : Account V). a.meaning) (λ a c. refl)

  -- calls on two accumulators that mean the same
  pub meant_alike : (k l : CellChanges V) (a b c d : Account V) (cs : List (Call V)) (xs ys : List (CallAnswer V)) →
      ◌≡◌ {A = List (CallAnswer V) × Account V} (xs, c) (trace (account_step J k) a cs) → ◌≡◌ {A = List (CallAnswer V) × Account V} (ys, d) (trace (account_step J l) b cs) →
      a.meaning ≡ b.meaning → (xs ≡ ys) × (c.meaning ≡ d.meaning)
  meant_alike k l a b c d cs xs ys left right same =
      let both : ◌≡◌ {A = List (CallAnswer V) × Meaning V} (xs, c.meaning) (ys, d.meaning) =
      ap without_cells left ∙ meant k a cs ∙ ap (λ m. trace (meaning_step J) m cs) same ∙ sym (meant l b cs) ∙ sym (ap without_cells right) in
      (ap (λ (r : List (CallAnswer V) × Meaning V). r.0) both, ap (λ (r : List (CallAnswer V) × Meaning V). r.1) both)
