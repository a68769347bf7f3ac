-- The totals of the kept passes by their slots.
use Rattle.std.specs.Prelude.{◌≡◌, ℕ, List, map, length}
use Rattle.std.specs.List.{range_with_len}
use Rattle.std.proofs.lemmas.List.FromFn.{length-map-range_with_len}
use Rattle.accumulator.specs.Window.{slot_of}
use Rattle.accumulator.specs.declared.TheConstants.{KEPT}
use Rattle.accumulator.specs.Meaning.{Meaning, Sound}
use Rattle.accumulator.specs.declared.window.Window.{Window}

module _ {V : Type 0} where
  unfoldable pub ring : (ℕ → V) → ℕ → List V
  ring slot first = map (λ pass. slot (slot_of pass)) (range_with_len first KEPT)

  pub length-ring : (slot : ℕ → V) (first : ℕ) → length (ring slot first) ≡ KEPT
  unfolding ring
  length-ring slot first = length-map-range_with_len (λ pass. slot (slot_of pass)) first KEPT

  -- what any accumulator means that has a total in each slot
  abbrev pub by_slots : ℕ → ℕ → (ℕ → V) → Meaning V
  by_slots limit first slot = record { limit = limit; first = first; totals = ring slot first }

  abbrev pub window_meaning : Window → (ℕ → V) → Meaning V
  window_meaning w slot = by_slots w.limit w.first slot

  pub window_meaning_sound : (w : Window) (slot : ℕ → V) → Sound (window_meaning w slot)
  window_meaning_sound w slot = record { some = w.some; most = w.most; early = w.early; full = length-ring slot w.first }
