-- What derived comparisons decide.
use Rattle.std.proofs.Common.{◌≡◌, Bool, true, ◌&&◌, Decides, Ok, Err, Result, eqb, ap, ◌∙◌, sym, rules}
use Rattle.std.specs.Ordering.{int_eq}
use Rattle.std.specs.Result.{result_eq}
use Rattle.std.proofs.lemmas.Bool.{and_parts, and_from, eqb-true, eq-eqb, false≢true}
use Rattle.std.proofs.lemmas.Bool.Decides.{Decides-int_eq}
use Rattle.refusal.specs.declared.Refusal.{Refusal}
use Rattle.refusal.specs.contracts.RefusalPartialEq.TheImpl.{eq-value}
use Rattle.joining.specs.declared.kinds.CoilRecord.{CoilRecord}
use Rattle.joining.specs.Same.{same_record}

-- the comparison of the parts, in their order
abbrev pub parts_same : CoilRecord → CoilRecord → Bool
parts_same a b =
    eqb a.length.run b.length.run
    && ((int_eq a.extremes.thinnest b.extremes.thinnest && int_eq a.extremes.thickest b.extremes.thickest) && eqb a.marks.bits b.marks.bits)

same_if_parts : (a b : CoilRecord) → parts_same a b ≡ true → a ≡ b
same_if_parts a b h =
    let p = and_parts (eqb a.length.run b.length.run) _ h in
    let q = and_parts (int_eq a.extremes.thinnest b.extremes.thinnest && int_eq a.extremes.thickest b.extremes.thickest) _ p.1 in
    let e = and_parts (int_eq a.extremes.thinnest b.extremes.thinnest) _ q.0 in
    same_record a b (eqb-true _ _ p.0)
    ((Decides-int_eq a.extremes.thinnest b.extremes.thinnest).0 e.0)
    ((Decides-int_eq a.extremes.thickest b.extremes.thickest).0 e.1)
    (eqb-true _ _ q.1)

parts_if_same : (a b : CoilRecord) → a ≡ b → parts_same a b ≡ true
parts_if_same a b e =
    and_from _ _ (eq-eqb _ _ (ap (λ (x : CoilRecord). x.length.run) e))
    (and_from _ _
    (and_from _ _
    ((Decides-int_eq a.extremes.thinnest b.extremes.thinnest).1 (ap (λ (x : CoilRecord). x.extremes.thinnest) e))
    ((Decides-int_eq a.extremes.thickest b.extremes.thickest).1 (ap (λ (x : CoilRecord). x.extremes.thickest) e)))
    (eq-eqb _ _ (ap (λ (x : CoilRecord). x.marks.bits) e)))

pub record_decides : (a b : CoilRecord) (r : Bool) → r ≡ parts_same a b → Decides r (a ≡ b)
record_decides a b r is = (λ t. same_if_parts a b (sym is ∙ t), λ e. is ∙ parts_if_same a b e)

pub refusal_decides : (a b : Refusal) → Decides (eq-value.it a b) (a ≡ b)
refusal_decides a b = search rules

-- results are compared by what each holds
pub result_decides : {T X : Type 0} {F : T → T → Bool} {G : X → X → Bool} → ((a b : T) → Decides (F a b) (a ≡ b)) → ((a b : X) → Decides (G a b) (a ≡ b)) → (a b : Result T X) → Decides (result_eq F G a b) (a ≡ b)
result_decides p q (Ok x) (Ok y) = (λ h. ap Ok ((p x y).0 h), λ e. (p x y).1 cc)
result_decides p q (Ok x) (Err y) = (λ h. absurd (false≢true h), λ e. absurd cc)
result_decides p q (Err x) (Ok y) = (λ h. absurd (false≢true h), λ e. absurd cc)
result_decides p q (Err x) (Err y) = (λ h. ap Err ((q x y).0 h), λ e. (q x y).1 cc)
