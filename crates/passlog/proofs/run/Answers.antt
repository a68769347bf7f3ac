use Rattle.std.proofs.Common.{◌≡◌, ℕ, ◌+◌, ◌<◌, false, cond, List, length, take, Some, None, Option, IfSome, Err, sym, ap, ◌∙◌, subst, ⊎_elim, arith}
use Rattle.std.proofs.lemmas.Bool.{cases_lt}
use Rattle.std.proofs.lemmas.Bool.Decides.{nat_tests}
use Rattle.std.proofs.lemmas.List.{take_all, length-take}
use Rattle.std.specs.Io.KnownBytes.{Appends}
use Rattle.refusal.specs.declared.Refusal.TheVariants.{LogSize}
use Rattle.refusal.specs.Rules.{verdict}
use Rattle.shiftlog.specs.declared.form.TheConstants.{MAX_LOG_LEN}
use Rattle.shiftlog.specs.Log.{size_fits, blocks, blocks_rules}
use Rattle.playlog.specs.Outcomes.{log_outcomes}
use Rattle.playlog.specs.Report.{refusal_text, verdict_text, report_text}
use Rattle.passlog.proofs.run.Goals as goal

too_long : (log : List ℕ) → MAX_LOG_LEN < length log → report_text log ≡ refusal_text LogSize
too_long log long =
    let unfit : size_fits log ≡ false = grind (arith, nat_tests) in
    ap (λ fits. verdict_text (cond fits (verdict (blocks_rules 0 (blocks log))) (Err LogSize)) (log_outcomes log)) unfit

-- one byte more than the longest log tells of all that it is too long
cut : (log : List ℕ) → report_text (take (MAX_LOG_LEN + 1) log) ≡ report_text log
cut log =
    ⊎_elim
    (λ (long : MAX_LOG_LEN < length log). too_long (take (MAX_LOG_LEN + 1) log) (omega (arith, length-take (MAX_LOG_LEN + 1) log)) ∙ sym (too_long log long))
    (λ short. ap report_text (take_all (MAX_LOG_LEN + 1) log (omega arith)))
    (cases_lt MAX_LOG_LEN (length log))

-- P holds of the report of what was read, and so of that of all
of_all : (P : List ℕ → Type 0) (known : Option (List ℕ)) (bytes text : List ℕ) → IfSome known (λ log. bytes ≡ take (MAX_LOG_LEN + 1) log) → text ≡ report_text bytes → P text → IfSome known (λ log. P (report_text log))
of_all P None bytes text read is h = read
of_all P (Some log) bytes text read is h = subst P (is ∙ ap report_text read ∙ cut log) h

pub returns : goal.returns
returns g c =
    let Written : List ℕ → Type 0 = Appends (g.W.Write.contents c.args.writer.now) (g.W.Write.contents c.write_bytes.new.writer) in
    let told : c.as_bytes.result.now ≡ report_text c.in_ok-bytes.bytes.items = c.as_bytes.ensures.value ∙ c.in_ok-text.ensures ∙ ap report_text c.as_slice.ensures.value in
    of_all Written (g.R.Read.remaining c.args.reader) _ _ c.in_ok-bytes.ensures told c.in_ok-write_bytes.ensures
