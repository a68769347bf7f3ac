-- What a change of one slot does to the totals of the kept passes.
use Rattle.std.proofs.Common.{◌≡◌, ℕ, ◌+◌, ◌-◌, ◌<◌, ◌≤◌, ◌≢◌, List, [], ◌∷◌, ◌++◌, length, get_or, drop, set, sym, refl, ap, ◌∙◌, ⊎_elim, arith, length-append, length-drop, length-set}
use Rattle.std.proofs.lemmas.List.FromFn.{get_or-map-range_with_len}
use Rattle.std.proofs.lemmas.List.{same_lists, get_or-set_same, get_or-set_other, get_or-drop, get_or_append_left, get_or-append_right, get_or-replicate, length-replicate}
use Rattle.std.proofs.lemmas.Bool.{cases_eq, cases_lt}
use Rattle.joining.specs.declared.Joining.{Ghosts}
use Rattle.accumulator.specs.Window.{slot_of}
use Rattle.accumulator.specs.declared.TheConstants.{KEPT}
use Rattle.accumulator.specs.Meaning.{neutral_totals}
use Rattle.accumulator.specs.Ring.{ring, length-ring}

module _ {V : Type 0} where
  -- the total at a place, which is that of the pass so far from the first
  pub get_or-ring : (s : ℕ → V) (first k pass : ℕ) (d : V) → k < KEPT → first + k ≡ pass → get_or (ring s first) k d ≡ s (slot_of pass)
  unfolding ring
  get_or-ring s first k pass d h e = get_or-map-range_with_len (λ p. s (slot_of p)) first KEPT k pass d h e

  -- the slot of a kept pass changes
  pub ring_set : (s t : ℕ → V) (first pass : ℕ) (y : V) → first ≤ pass → pass < first + KEPT → t (slot_of pass) ≡ y → ((r : ℕ) → r < KEPT → r ≢ slot_of pass → t r ≡ s r) → ring t first ≡ set (ring s first) (pass - first) y
  ring_set s t first pass y low high here other =
      let at : ℕ = pass - first in
      let old : List V = ring s first in
      same_lists (ring t first) (set old at y) (length-ring t first ∙ sym (length-set old at y ∙ length-ring s first))
      (λ k d h.
      let in-ring : k < KEPT = omega (arith, length-ring t first) in
      let in-old : at < length old = omega (arith, length-ring s first) in
      ⊎_elim
      (λ (e : k ≡ at). get_or-ring t first k pass d in-ring (omega arith) ∙ here ∙ sym (ap (λ n. get_or (set old at y) n d) e ∙ get_or-set_same old at y d in-old))
      (λ (ne : k ≢ at).
      get_or-ring t first k (first + k) d in-ring refl ∙ other (slot_of (first + k)) (omega arith) (λ e. omega arith)
      ∙ sym (get_or-set_other old at k y d ne ∙ get_or-ring s first k (first + k) d in-ring refl))
      (cases_eq k at))

  -- the slot of the first kept pass becomes that of the newest
  pub ring_move : (s t : ℕ → V) (first : ℕ) (y : V) → t (slot_of first) ≡ y → ((r : ℕ) → r < KEPT → r ≢ slot_of first → t r ≡ s r) → ring t (first + 1) ≡ drop 1 (ring s first) ++ y ∷ []
  ring_move s t first y here other =
      let rest : List V = drop 1 (ring s first) in
      let few : length rest ≡ KEPT - 1 = length-drop 1 (ring s first) ∙ ap (λ n. n - 1) (length-ring s first) in
      same_lists (ring t (first + 1)) (rest ++ y ∷ []) (length-ring t (first + 1) ∙ sym (length-append rest (y ∷ []) ∙ ap (λ n. n + 1) few))
      (λ k d h.
      let in-ring : k < KEPT = omega (arith, length-ring t (first + 1)) in
      ⊎_elim
      (λ (lt : k < KEPT - 1).
      let pass : ℕ = first + 1 + k in
      get_or-ring t (first + 1) k pass d in-ring refl ∙ other (slot_of pass) (omega arith) (λ e. omega arith)
      ∙ sym (get_or_append_left rest (y ∷ []) d k (omega (arith, few)) ∙ get_or-drop 1 (ring s first) k d ∙ get_or-ring s first (1 + k) pass d (omega arith) (omega arith)))
      (λ (ge : KEPT - 1 ≤ k).
      let last : k - (KEPT - 1) ≡ 0 = omega arith in
      let same : slot_of (first + 1 + k) ≡ slot_of first = omega arith in
      get_or-ring t (first + 1) k (first + 1 + k) d in-ring refl ∙ ap t same ∙ here
      ∙ sym (get_or-append_right rest (y ∷ []) (KEPT - 1) k d few ge ∙ ap (λ n. get_or (y ∷ []) n d) last))
      (cases_lt k (KEPT - 1)))

  pub ring_neutral : (J : Ghosts V) (s : ℕ → V) (first : ℕ) → ((r : ℕ) → r < KEPT → s r ≡ J.neutral) → ring s first ≡ neutral_totals J
  unfolding neutral_totals
  ring_neutral J s first all =
      same_lists (ring s first) (neutral_totals J) (length-ring s first ∙ sym (length-replicate KEPT J.neutral))
      (λ k d h.
      let in-ring : k < KEPT = omega (arith, length-ring s first) in
      get_or-ring s first k (first + k) d in-ring refl ∙ all (slot_of (first + k)) (omega arith) ∙ sym (get_or-replicate KEPT k J.neutral d in-ring))
