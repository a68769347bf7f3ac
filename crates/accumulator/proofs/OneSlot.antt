-- What the calls come to where a change of one slot is all that they do.
use Rattle.std.proofs.Common.{◌≡◌, ℕ, ◌+◌, ◌-◌, ◌<◌, ◌≤◌, true, ltb, leb, set, Ok, Result, sym, ap, subst, ◌∙◌, arith}
use Rattle.std.proofs.lemmas.Bool.{and_parts, leb-true, ltb-true}
use Rattle.refusal.specs.declared.Refusal.{Refusal}
use Rattle.refusal.specs.Rules.{Verdict, verdict}
use Rattle.refusal.proofs.Verdicts.{unbroken}
use Rattle.joining.specs.declared.Joining.{Ghosts}
use Rattle.accumulator.specs.Window.{slot_of, keeps, add_rules, total_rules, move_on_rules}
use Rattle.accumulator.specs.declared.TheConstants.{KEPT}
use Rattle.accumulator.specs.Meaning.{Meaning, answer_by, outcome_by, add_outcome, move_on_outcome, with_value, without_first, total_in, total_answer, new_meaning}
use Rattle.accumulator.specs.Changed.{OneChanged}
use Rattle.accumulator.specs.Ring.{ring, by_slots}
use Rattle.accumulator.proofs.Ring.{get_or-ring, ring_set, ring_move, ring_neutral}

pub kept_parts : (first pass : ℕ) → keeps first pass ≡ true → (first ≤ pass) × (pass < first + KEPT)
kept_parts first pass e =
    let p = and_parts (leb first pass) (ltb pass (first + KEPT)) e in
    (leb-true first pass p.0, ltb-true pass (first + KEPT) p.1)

pub below_limit : (limit first station pass : ℕ) → Ok tt ≡ verdict (add_rules limit first station pass) → station < limit
below_limit limit first station pass ok = ltb-true station limit (unbroken (add_rules limit first station pass) (sym ok)).0

-- an add is accepted within the limit and the window
pub added_within : (limit first station pass : ℕ) → Ok tt ≡ verdict (add_rules limit first station pass) → (station < limit) × (first ≤ pass) × (pass < first + KEPT)
added_within limit first station pass ok =
    let p = kept_parts first pass (unbroken (add_rules limit first station pass) (sym ok)).1.0 in
    (below_limit limit first station pass ok, p.0, p.1)

module _ {V : Type 0} (J : Ghosts V) (s : ℕ → V) (limit first : ℕ) where
  total_is : (pass : ℕ) → keeps first pass ≡ true → total_in J (by_slots limit first s) pass ≡ s (slot_of pass)
  total_is pass e =
      let p = kept_parts first pass e in
      get_or-ring s first (pass - first) pass J.neutral (omega arith) (omega arith)

  pub slots_made : ((r : ℕ) → r < KEPT → s r ≡ J.neutral) → first ≡ 0 → by_slots limit first s ≡ new_meaning J limit
  slots_made all none = λ i. record { limit = limit; first = none i; totals = ring_neutral J s first all i }

  pub slot_told : (pass slot : ℕ) (x : V) → Ok tt ≡ verdict (total_rules first pass) → slot ≡ slot_of pass → x ≡ s slot → ◌≡◌ {A = Result V Refusal} (Ok x) (total_answer J (by_slots limit first s) pass)
  slot_told pass slot x ok is e =
      let allowed = unbroken (total_rules first pass) (sym ok) in
      let total : V = total_in J (by_slots limit first s) pass in
      ap (λ (v : V). Ok v) (e ∙ ap s is ∙ sym (total_is pass allowed.0)) ∙ ap (λ v. answer_by v total) ok

  -- the slots t after the call, which gave the slot another total
  module _ (t : ℕ → V) (slot : ℕ) where
    pub slot_added : (station pass : ℕ) (x : V) → Ok tt ≡ verdict (add_rules limit first station pass) → slot ≡ slot_of pass → OneChanged s t slot (J.joined (s slot) x) → ◌≡◌ {A = Verdict × Meaning V} (Ok tt, by_slots limit first t) (add_outcome J (by_slots limit first s) station pass x)
    slot_added station pass x ok is changed =
        let m : Meaning V = by_slots limit first s in
        let allowed = unbroken (add_rules limit first station pass) (sym ok) in
        let p = kept_parts first pass allowed.1.0 in
        let was : total_in J m pass ≡ s (slot_of pass) = total_is pass allowed.1.0 in
        let here : t (slot_of pass) ≡ J.joined (total_in J m pass) x = ap t (sym is) ∙ changed.here ∙ ap (λ v. J.joined v x) (ap s is ∙ sym was) in
        let totals : ring t first ≡ set (ring s first) (pass - first) (J.joined (total_in J m pass) x) = ring_set s t first pass _ p.0 p.1 here (λ r h ne. changed.other r h (λ e. ne (e ∙ is))) in
        let next : Meaning V = with_value J m pass x in
        let done : by_slots limit first t ≡ next = λ i. record { limit = limit; first = first; totals = totals i } in
        ap (λ (n : Meaning V). (Ok tt, n)) done ∙ ap (λ v. outcome_by v next m) ok

    pub slot_moved : (first' : ℕ) → first' ≡ first + 1 → Ok tt ≡ verdict (move_on_rules first) → slot ≡ slot_of first → OneChanged s t slot J.neutral → ◌≡◌ {A = Verdict × Meaning V} (Ok tt, by_slots limit first' t) (move_on_outcome J (by_slots limit first s))
    slot_moved first' up ok is changed =
        let m : Meaning V = by_slots limit first s in
        let next : Meaning V = without_first J m in
        let totals = ap (ring t) up ∙ ring_move s t first J.neutral (ap t (sym is) ∙ changed.here) (λ r h ne. changed.other r h (λ e. ne (e ∙ is))) in
        let done : by_slots limit first' t ≡ next = λ i. record { limit = limit; first = up i; totals = totals i } in
        ap (λ (n : Meaning V). (Ok tt, n)) done ∙ ap (λ v. outcome_by v next m) ok

-- the totals by the limit, which the move keeps
pub slots_moved : {V : Type 0} (J : Ghosts V) (before after : ℕ → ℕ → V) (limit limit' first first' slot : ℕ) → (Ok tt ≡ verdict (move_on_rules first)) × (limit' ≡ limit) × (first' ≡ first + 1) → slot ≡ slot_of first → OneChanged (before limit') (after limit') slot J.neutral → ◌≡◌ {A = Verdict × Meaning V} (Ok tt, by_slots limit' first' (after limit')) (move_on_outcome J (by_slots limit first (before limit)))
slots_moved J before after limit limit' first first' slot moved is =
    subst
    (λ (l : ℕ). OneChanged (before l) (after l) slot J.neutral → ◌≡◌ {A = Verdict × Meaning _} (Ok tt, by_slots l first' (after l)) (move_on_outcome J (by_slots limit first (before limit))))
    (sym moved.1) (slot_moved J (before limit) limit first (after limit) slot first' moved.2 moved.0 is)
