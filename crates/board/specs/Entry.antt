-- How a board is made, and the parts of a call's rules that several calls share.
use Rattle.std.specs.Prelude.{ℕ, ◌+◌, List, [], ◌∷◌, replicate, is_some, Some, None, Option, Result, slice_index_or, slice_set}
use Rattle.refusal.specs.declared.Refusal.{Refusal}
use Rattle.refusal.specs.declared.Refusal.TheVariants.{NotMember}
use Rattle.refusal.specs.declared.limits.TheConstants.{STATIONS}
use Rattle.refusal.specs.Rules.{Rule, rule, verdict}
use Rattle.calls.specs.declared.Mode.{Mode}
use Rattle.calls.specs.declared.Verb.{Verb}
use Rattle.calls.specs.declared.views.View.{View}
use Rattle.accumulator.specs.Meaning.{answer_by}
use Rattle.phaser.specs.State.{first_view}
use Rattle.phaser.specs.Steps.{view_of, station_rule, mode_rule, sign_turn, wait_turn, pass_rule}

-- the rules of making a board by its first member
abbrev pub board_rules : ℕ → List Rule
board_rules first = station_rule first ∷ []

-- the caller is a station and a member, and its mode may make the call
abbrev pub entry_rules : List (Option View) → ℕ → Verb → List Rule
entry_rules seats j verb = station_rule j ∷ rule (is_some (slice_index_or seats j None)) (NotMember j) ∷ mode_rule j (view_of (slice_index_or seats j None)) verb ∷ []

-- the pass after those counted
abbrev pub next_pass : ℕ → ℕ → Result ℕ Refusal
next_pass count j = answer_by (verdict (pass_rule j (count + 1) ∷ [])) (count + 1)

-- the pass to sign or send for next, and the pass to observe next
abbrev pub sign_rules : View → ℕ → List Rule
sign_rules v j = sign_turn j v ∷ pass_rule j (v.sp + 1) ∷ []

abbrev pub pass_to_sign : View → ℕ → Result ℕ Refusal
pass_to_sign v j = answer_by (verdict (sign_rules v j)) (v.sp + 1)

abbrev pub wait_rules : View → ℕ → List Rule
wait_rules v j = wait_turn j v ∷ pass_rule j (v.wp + 1) ∷ []

abbrev pub pass_to_observe : View → ℕ → Result ℕ Refusal
pass_to_observe v j = answer_by (verdict (wait_rules v j)) (v.wp + 1)

-- the seats of a board just made
abbrev pub first_members : ℕ → Mode → List (Option View)
first_members first mode = slice_set (replicate STATIONS None) first (Some (first_view mode))
