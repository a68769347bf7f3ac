-- The limit and the kept passes, and what they refuse.
use Rattle.std.specs.Prelude.{ℕ, ◌+◌, ◌*◌, ◌%◌, Bool, ◌&&◌, List, [], ◌∷◌, nat_le, nat_lt}
use Rattle.refusal.specs.declared.limits.TheConstants.{STATIONS, LAST_PASS}
use Rattle.accumulator.specs.declared.TheConstants.{KEPT}
use Rattle.refusal.specs.Rules.{Rule, rule}
use Rattle.refusal.specs.declared.Refusal.TheVariants.{Limit, TooFewCells, LastPassKept, NoCell, NotKept}

-- the place of a pass among the kept ones, which stays while it is kept
abbrev pub slot_of : ℕ → ℕ
slot_of pass = pass % KEPT

-- the kept passes are first, first + 1 and so on
abbrev pub keeps : ℕ → ℕ → Bool
keeps first pass = nat_le first pass && nat_lt pass (first + KEPT)

-- ---- the rules of a making, in the order in which they are tried

abbrev pub limit_rule : ℕ → Rule
limit_rule limit = rule (nat_le 1 limit && nat_le limit STATIONS) (Limit limit)

abbrev pub eager_rules : ℕ → List Rule
eager_rules limit = limit_rule limit ∷ []

abbrev pub lazy_rules : ℕ → ℕ → List Rule
lazy_rules limit cells = limit_rule limit ∷ rule (nat_le (KEPT * limit) cells) (TooFewCells cells) ∷ []

-- ---- the rules of a call, in the order in which they are tried

abbrev pub total_rules : ℕ → ℕ → List Rule
total_rules first pass = rule (keeps first pass) (NotKept pass) ∷ []

abbrev pub add_rules : ℕ → ℕ → ℕ → ℕ → List Rule
add_rules limit first station pass = rule (nat_lt station limit) (NoCell station) ∷ total_rules first pass

abbrev pub move_on_rules : ℕ → List Rule
move_on_rules first = rule (nat_lt first LAST_PASS) (LastPassKept first) ∷ []
