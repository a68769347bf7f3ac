-- The view in the answer of a view call.
use Rattle.std.proofs.Common.{◌≡◌, Ok, Err, Result, refl, ap, ◌∙◌}
use Rattle.refusal.specs.declared.Refusal.{Refusal}
use Rattle.refusal.specs.declared.Refusal.TheVariants.{LogSize}
use Rattle.refusal.specs.Rules.{Verdict}
use Rattle.calls.specs.declared.views.View.{View}
use Rattle.calls.specs.declared.actions.Answer.{Answer}
use Rattle.calls.specs.declared.actions.Answer.TheVariants.{Viewed}
use Rattle.accumulator.specs.Meaning.{answer_by}
use Rattle.board.specs.Board.{as_answer}

abbrev viewed : (V : Type 0) → View → Answer V
viewed V v = Viewed v

abbrev view_in : {V : Type 0} → Answer V → Result View Refusal
view_in (Viewed v) = Ok v
view_in _ = Err LogSize

abbrev seen_in : {V : Type 0} → Result (Answer V) Refusal → Result View Refusal
seen_in (Ok answer) = view_in answer
seen_in (Err refusal) = Err refusal

of_answer : (V : Type 0) (r : Result View Refusal) → r ≡ seen_in (as_answer (viewed V) r)
of_answer V (Ok v) = refl
of_answer V (Err refusal) = refl

of_verdict : (V : Type 0) (decision : Verdict) (v : View) → seen_in (answer_by decision (viewed V v)) ≡ answer_by decision v
of_verdict V (Ok u) v = refl
of_verdict V (Err refusal) v = refl

pub viewed_is : {V : Type 0} (r : Result View Refusal) (decision : Verdict) (v : View) → as_answer (viewed V) r ≡ answer_by decision (viewed V v) → r ≡ answer_by decision v
viewed_is {V = V} r decision v e = of_answer V r ∙ ap seen_in e ∙ of_verdict V decision v
