use Rattle.std.proofs.Common.{◌≡◌, ℕ, ◌+◌, ◌<◌, ◌≤◌, true, false, cond, nat_le, List, length, take, Some, None, Option, IfSome, Ok, Err, Result, IsErr, OnOk, sym, ap, ◌∙◌, subst, ⊎_elim, arith}
use Rattle.std.proofs.lemmas.Bool.{and_parts, cases_lt}
use Rattle.std.proofs.lemmas.Bool.Decides.{nat_tests}
use Rattle.std.proofs.lemmas.List.{take_all, length-take}
use Rattle.std.specs.Io.KnownBytes.{Appends, Keeps}
use Rattle.refusal.specs.declared.Refusal.TheVariants.{LogSize}
use Rattle.refusal.specs.Rules.{Verdict, verdict}
use Rattle.refusal.proofs.Verdicts.{unbroken}
use Rattle.shiftlog.specs.declared.form.TheConstants.{MAX_LOG_LEN}
use Rattle.shiftlog.specs.Log.{size_fits, blocks, blocks_rules, log_rules}
use Rattle.steptext.specs.Printed.{log_text}
use Rattle.steptext.specs.Said.{log_said}
use Rattle.logread.proofs.run.Goals as goal

too_long : (log : List ℕ) → MAX_LOG_LEN < length log → verdict (log_rules log) ≡ Err LogSize
too_long log long =
    let unfit : size_fits log ≡ false = grind (arith, nat_tests) in
    ap (λ fits. cond fits (verdict (blocks_rules 0 (blocks log))) (Err LogSize)) unfit

-- one byte more than the longest log tells of all that it is too long
cut : (log : List ℕ) → verdict (log_rules (take (MAX_LOG_LEN + 1) log)) ≡ verdict (log_rules log)
cut log =
    ⊎_elim
    (λ (long : MAX_LOG_LEN < length log). too_long (take (MAX_LOG_LEN + 1) log) (omega (arith, length-take (MAX_LOG_LEN + 1) log)) ∙ sym (too_long log long))
    (λ short. ap (λ bytes. verdict (log_rules bytes)) (take_all (MAX_LOG_LEN + 1) log (omega arith)))
    (cases_lt MAX_LOG_LEN (length log))

-- an accepted log was read whole
whole : (log : List ℕ) → verdict (log_rules log) ≡ Ok tt → take (MAX_LOG_LEN + 1) log ≡ log
whole log ok =
    let size : nat_le (length log) MAX_LOG_LEN ≡ true = (and_parts _ _ (unbroken (log_rules log) ok).0).0 in
    let few : length log ≤ MAX_LOG_LEN = grind (arith, nat_tests) in
    take_all (MAX_LOG_LEN + 1) log (omega arith)

-- what was read, as a list and as a slice, of the bytes that are known
module _ (items bytes : List ℕ) (same : bytes ≡ items) where
  -- P holds of an accepted log that was read, and so of all bytes
  of_all : {T E : Type 0} (P : List ℕ → Type 0) (known : Option (List ℕ)) (r : Result T E) → IfSome known (λ log. items ≡ take (MAX_LOG_LEN + 1) log) → OnOk r (verdict (log_rules bytes) ≡ Ok tt) → OnOk r (P bytes) → OnOk r (IfSome known P)
  of_all P known (Err e) read ok p = tt
  of_all P None (Ok x) read ok p = tt
  of_all P (Some log) (Ok x) read ok p =
      let is : bytes ≡ take (MAX_LOG_LEN + 1) log = same ∙ read in
      let accepted : verdict (log_rules log) ≡ Ok tt = sym (ap (λ b. verdict (log_rules b)) is ∙ cut log) ∙ ok in
      subst P (is ∙ whole log accepted) p

  kept : (K : Type 0) (known : Option (List ℕ)) → IfSome known (λ log. items ≡ take (MAX_LOG_LEN + 1) log) → (IsErr (verdict (log_rules bytes)) → K) → IfSome known (λ log. IsErr (verdict (log_rules log)) → K)
  kept K None read k = tt
  kept K (Some log) read k = λ e. k (subst (λ (v : Verdict). IsErr v) (sym (ap (λ b. verdict (log_rules b)) (same ∙ read) ∙ cut log)) e)

pub returns-clause-accepted : goal.returns-clause-accepted
returns-clause-accepted g c =
    let lines = c.write_lines.ensures in
    of_all _ _ c.as_slice.ensures.value (λ log. verdict (log_rules log) ≡ Ok tt) (g.R.Read.remaining c.args.reader) c.write_lines.result c.in_ok-bytes.ensures lines.accepted lines.accepted

pub returns-clause-written : goal.returns-clause-written
returns-clause-written g c =
    let lines = c.write_lines.ensures in
    of_all _ _ c.as_slice.ensures.value (λ log. Appends (g.W.Write.contents c.args.writer.now) (g.W.Write.contents c.write_lines.new.writer) (log_text log)) (g.R.Read.remaining c.args.reader) c.write_lines.result c.in_ok-bytes.ensures lines.accepted lines.written

pub returns-clause-said : goal.returns-clause-said
returns-clause-said g c =
    let lines = c.write_lines.ensures in
    of_all _ _ c.as_slice.ensures.value (λ log. log_said (log_text log) ≡ Some log) (g.R.Read.remaining c.args.reader) c.write_lines.result c.in_ok-bytes.ensures lines.accepted lines.said

pub returns-clause-refused : goal.returns-clause-refused
returns-clause-refused g c =
    kept _ _ c.as_slice.ensures.value (Keeps (g.W.Write.contents c.args.writer.now) (g.W.Write.contents c.write_lines.new.writer)) (g.R.Read.remaining c.args.reader) c.in_ok-bytes.ensures c.write_lines.ensures.kept
