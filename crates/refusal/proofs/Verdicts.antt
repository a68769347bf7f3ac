-- The verdict of rules, part by part.
use Rattle.std.proofs.Common.{◌≡◌, ℕ, Bool, true, false, cond, List, [], ◌∷◌, ◌++◌, Ok, Err, sym, refl, ap, ◌∙◌, arith}
use Rattle.refusal.specs.declared.Refusal.{Refusal}
use Rattle.refusal.specs.Rules.{Rule, Verdict, verdict, EveryRuleHolds}

-- a verdict, and another one where the first accepts
abbrev pub then : Verdict → Verdict → Verdict
then (Ok u) v = v
then (Err refusal) v = Err refusal

-- the first verdict decides where it refuses, and the other where it accepts
pub stops : (v w whole : Verdict) (refusal : Refusal) → whole ≡ then v w → Err refusal ≡ v → Err refusal ≡ whole
stops v w whole refusal e r = ap (λ x. then x w) r ∙ sym e

pub passes : (v w whole : Verdict) (u : Unit {0}) → whole ≡ then v w → Ok u ≡ v → w ≡ whole
passes v w whole u e r = ap (λ x. then x w) r ∙ sym e

first : (b : Bool) (refusal : Refusal) (rest both more : Verdict) → both ≡ then rest more → cond b both (Err refusal) ≡ then (cond b rest (Err refusal)) more
first true refusal rest both more e = e
first false refusal rest both more e = refl

pub verdict_append : (xs ys : List Rule) → verdict (xs ++ ys) ≡ then (verdict xs) (verdict ys)
verdict_append [] ys = refl
verdict_append (r ∷ rs) ys = first r.holds r.otherwise (verdict rs) (verdict (rs ++ ys)) (verdict ys) (verdict_append rs ys)

pub accepted : (rules : List Rule) → EveryRuleHolds rules → verdict rules ≡ Ok tt
accepted [] h = refl
accepted (r ∷ rs) h = ap (λ b. cond b (verdict rs) (Err r.otherwise)) h.0 ∙ accepted rs h.1

held : (b : Bool) (refusal : Refusal) (rest : Verdict) → cond b rest (Err refusal) ≡ Ok tt → (b ≡ true) × (rest ≡ Ok tt)
held true refusal rest e = (refl, e)
held false refusal rest e = let bad : ◌≡◌ {A = ℕ} 0 1 = cc in absurd (omega arith)

pub unbroken : (rules : List Rule) → verdict rules ≡ Ok tt → EveryRuleHolds rules
unbroken [] e = tt
unbroken (r ∷ rs) e = let h = held r.holds r.otherwise (verdict rs) e in (h.0, unbroken rs h.1)

pub every_parts : (xs ys : List Rule) → EveryRuleHolds (xs ++ ys) → EveryRuleHolds xs × EveryRuleHolds ys
every_parts [] ys h = (tt, h)
every_parts (r ∷ rs) ys h = let p = every_parts rs ys h.1 in ((h.0, p.0), p.1)
