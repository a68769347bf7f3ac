use Rattle.std.proofs.Common.{◌≡◌, ◌∙◌, true, false, map, string_bytes, sym, ap, subst}
use Rattle.std.proofs.lemmas.Bool.{false≢true}
use Rattle.clap.specs.Words.{App, app_of, takes, HasMatchesOf, kind_of}
use Rattle.clap.specs.Simple.{app_of_fields}
use Rattle.clap.specs.declared.error.kind.ErrorKind.{ErrorKind}
use Rattle.clap.specs.declared.error.kind.ErrorKind.TheVariants.{OutOfMemory, DisplayHelp, DisplayVersion}
use Rattle.commandline.specs.Versions.{versioned}
use Rattle.commandline.proofs.asked.Goals as goal

no_help : (kind : ErrorKind) → kind ≡ OutOfMemory → kind ≡ DisplayHelp → ⊥
no_help kind e h = let bad : OutOfMemory ≡ DisplayHelp = sym e ∙ h in cc

no_version : (kind : ErrorKind) → kind ≡ OutOfMemory → kind ≡ DisplayVersion → ⊥
no_version kind e h = let bad : OutOfMemory ≡ DisplayVersion = sym e ∙ h in cc

pub returns-in-Ok-clause-matches : goal.returns-in-Ok-clause-matches
returns-in-Ok-clause-matches g c =
    let P : App → Type 0 = λ app. HasMatchesOf app (map string_bytes c.args.words.now) c.in-Ok.matches in
    subst P (ap app_of_fields c.version.ensures) c.in-Ok.ensures.matches

pub returns-in_ok-print-in-Err-clause-right : goal.returns-in_ok-print-in-Err-clause-right
returns-in_ok-print-in-Err-clause-right g c right =
    let P : App → Type 0 = λ app. takes app (map string_bytes c.args.words.now) ≡ true in
    let memory : kind_of c.in-Err.other ≡ OutOfMemory = c.in-Err.ensures.passes (subst P (sym (ap app_of_fields c.version.ensures)) right) in
    let told : c.use_stderr.result ≡ true = c.use_stderr.ensures.1 (no_help _ memory, no_version _ memory) in
    absurd (false≢true (sym c.if-use_stderr.false ∙ told))
