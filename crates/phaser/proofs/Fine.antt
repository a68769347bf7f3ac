-- Rules of which each holds or has a refusal of some sort: then so has their verdict.
use Rattle.std.proofs.Common.{◌≡◌, ℕ, Bool, true, false, cond, List, [], ◌∷◌, ◌++◌, Err, sym, refl, arith}
use Rattle.refusal.specs.declared.Refusal.{Refusal}
use Rattle.refusal.specs.Rules.{Rule, verdict, EveryRuleHolds}
use Rattle.phaser.proofs.Seats.{true_false}

module _ (P : Refusal → Type 0) where
  -- a rule that may be broken has a refusal of the sort
  abbrev pub Fine : List Rule → Type 0
  Fine [] = Unit {0}
  Fine (r ∷ rs) = (r.holds ≡ false → P r.otherwise) × (r.holds ≡ true → Fine rs)

  fine_first : (b : Bool) (q r : Refusal) (rs : List Rule) → (b ≡ false → P q) → (b ≡ true → verdict rs ≡ Err r → P r) → cond b (verdict rs) (Err q) ≡ Err r → P r
  fine_first true q r rs f more e = more refl e
  fine_first false q r rs f more e = let same : q ≡ r = cc in rw (sym same) (f refl)

  pub fine_verdict : (rs : List Rule) → Fine rs → (r : Refusal) → verdict rs ≡ Err r → P r
  fine_verdict [] f r e = let z : ◌≡◌ {A = ℕ} 0 1 = cc in absurd (omega arith)
  fine_verdict (q ∷ qs) f r e = fine_first q.holds q.otherwise r qs f.0 (λ h. fine_verdict qs (f.1 h) r) e

  -- rules that hold are fine
  pub held : (rs : List Rule) → EveryRuleHolds rs → Fine rs
  held [] h = tt
  held (r ∷ rs) h = (λ e. absurd (true_false r.holds h.0 e), λ e. held rs h.1)

  pub fine_append : (rs qs : List Rule) → Fine rs → Fine qs → Fine (rs ++ qs)
  fine_append [] qs f g = g
  fine_append (r ∷ rs) qs f g = (f.0, λ e. fine_append rs qs (f.1 e) g)
