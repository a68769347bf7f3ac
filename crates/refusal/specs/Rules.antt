-- Rules that are tried in turn: the first broken one gives the refusal.
use Rattle.std.specs.Prelude.{◌≡◌, ◌≤◌, Bool, true, cond, List, [], ◌∷◌, Ok, Err, Result, MatchResult}
use Rattle.std.specs.List.{AllByRecursion}
use Rattle.refusal.specs.declared.Refusal.{Refusal}
use Rattle.refusal.specs.Refusals.{number}

-- what must hold, and the refusal where it does not
pub record Rule : Type 0 where
  pub holds : Bool
  pub otherwise : Refusal

abbrev pub rule : Bool → Refusal → Rule
rule test refusal = record { holds = test; otherwise = refusal }

abbrev pub Verdict : Type 0
Verdict = Result (Unit {0}) Refusal

-- the refusal of the first broken rule
abbrev pub verdict : List Rule → Verdict
verdict [] = Ok tt
verdict (r ∷ rs) = cond r.holds (verdict rs) (Err r.otherwise)

abbrev pub EveryRuleHolds : List Rule → Type 0
EveryRuleHolds rules = AllByRecursion (λ r. r.holds ≡ true) rules

-- the rules decide the answer: where each holds it is accepted, and P holds of it; else it is the refusal of the first broken one
abbrev pub DecidedBy : {X : Type 0} → List Rule → Result X Refusal → (X → Type 0) → Type 0
DecidedBy rules answer P = MatchResult answer (λ x. (verdict rules ≡ Ok tt) × P x) (λ refusal. verdict rules ≡ Err refusal)

-- the numbers of the rules' refusals never fall
abbrev pub TriedUpward : List Rule → Type 0
TriedUpward [] = Unit {0}
TriedUpward (r ∷ []) = Unit {0}
TriedUpward (r ∷ (q ∷ rs)) = (number r.otherwise ≤ number q.otherwise) × TriedUpward (q ∷ rs)
