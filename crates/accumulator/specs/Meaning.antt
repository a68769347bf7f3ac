-- What an accumulator means, and what its calls answer and alter.
use Rattle.std.specs.Prelude.{◌≡◌, ℕ, ◌+◌, ◌-◌, ◌≤◌, List, [], ◌∷◌, ◌++◌, length, drop, replicate, Ok, Err, Result, slice_index_or, slice_set}
use Rattle.refusal.specs.declared.Refusal.{Refusal}
use Rattle.refusal.specs.declared.limits.TheConstants.{STATIONS, LAST_PASS}
use Rattle.refusal.specs.Rules.{Verdict, verdict}
use Rattle.joining.specs.declared.Joining.{Ghosts}
use Rattle.accumulator.specs.Window.{add_rules, total_rules, move_on_rules}
use Rattle.accumulator.specs.declared.TheConstants.{KEPT}

-- the stations below the limit may add; totals has those of the kept passes, from first on
pub record Meaning (V : Type 0) : Type 0 where
  pub limit : ℕ
  pub first : ℕ
  pub totals : List V

pub record Sound {V : Type 0} (m : Meaning V) : Type 0 where
  pub some : 1 ≤ m.limit
  pub most : m.limit ≤ STATIONS
  pub early : m.first ≤ LAST_PASS
  pub full : length m.totals ≡ KEPT

-- what a call answers where the verdict accepts it
abbrev pub answer_by : {X : Type 0} → Verdict → X → Result X Refusal
answer_by (Ok _) answer = Ok answer
answer_by (Err refusal) answer = Err refusal

module _ {V : Type 0} where
  -- what is meant after a call: a refusal alters nothing
  abbrev pub meaning_by : Verdict → Meaning V → Meaning V → Meaning V
  meaning_by (Ok _) next m = next
  meaning_by (Err refusal) next m = m

  -- a call that answers nothing but its verdict
  abbrev pub outcome_by : Verdict → Meaning V → Meaning V → Verdict × Meaning V
  outcome_by v next m = (v, meaning_by v next m)

  module _ (J : Ghosts V) where
    unfoldable pub neutral_totals : List V
    neutral_totals = replicate KEPT J.neutral

    -- just made: the first kept pass is 0, and each total is neutral
    abbrev pub new_meaning : ℕ → Meaning V
    new_meaning limit = record { limit = limit; first = 0; totals = neutral_totals }

    abbrev pub total_in : Meaning V → ℕ → V
    total_in m pass = slice_index_or m.totals (pass - m.first) J.neutral

    abbrev pub total_answer : Meaning V → ℕ → Result V Refusal
    total_answer m pass = answer_by (verdict (total_rules m.first pass)) (total_in m pass)

    -- the first kept pass is forgotten, and the newest has the neutral total
    abbrev pub without_first : Meaning V → Meaning V
    without_first m = record { limit = m.limit; first = m.first + 1; totals = drop 1 m.totals ++ J.neutral ∷ [] }

    abbrev pub move_on_outcome : Meaning V → Verdict × Meaning V
    move_on_outcome m = outcome_by (verdict (move_on_rules m.first)) (without_first m) m

    -- the value joined to the total of the pass
    abbrev pub with_value : Meaning V → ℕ → V → Meaning V
    with_value m pass x = record { limit = m.limit; first = m.first; totals = slice_set m.totals (pass - m.first) (J.joined (total_in m pass) x) }

    abbrev pub add_outcome : Meaning V → ℕ → ℕ → V → Verdict × Meaning V
    add_outcome m station pass x = outcome_by (verdict (add_rules m.limit m.first station pass)) (with_value m pass x) m
