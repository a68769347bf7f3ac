use Rattle.std.proofs.Common.{◌≡◌, cond, List, ℕ, Bor, Some, None, Ok, Err, Result, sym, ap, ◌∙◌}
use Rattle.std.specs.Prelude.{option_map, MatchResult}
use Rattle.std.specs.Result.{result_ok}
use Rattle.std.specs.Str.{IsUtf8, is_utf8}
use Rattle.std.proofs.lemmas.Bool.{cond-true, cond-false, false_from_ne_true}
use Rattle.std.proofs.lemmas.Str.{is_utf8-from_IsUtf8, IsUtf8-from_is_utf8}
use Rattle.desk.proofs.hearing.text_of.Goals as goal

text_if : {E : Type 0} (line : List ℕ) (r : Result (Bor (List ℕ)) E) (P : E → Type 0) → MatchResult r (λ s. (s.now ≡ line) × IsUtf8 line) (λ e. (IsUtf8 line → ⊥) × P e)
    → option_map (λ text. text.now) (result_ok r) ≡ cond (is_utf8 line) (Some line) None
text_if line (Ok s) P h = ap Some h.0 ∙ sym (cond-true _ _ _ (is_utf8-from_IsUtf8 line h.1))
text_if line (Err e) P h = sym (cond-false _ _ _ (false_from_ne_true _ (λ is. h.0 (IsUtf8-from_is_utf8 line is))))

pub returns : goal.returns
returns c = ap (option_map (λ text. text.now)) c.ok.ensures.value ∙ text_if c.args.line.now c.from_utf8.result _ c.from_utf8.ensures.cases
