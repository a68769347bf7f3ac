use Rattle.std.proofs.Common.{◌≡◌, ℕ, subst, arith}
use Rattle.std.specs.Fmt.{HasWritten}
use Rattle.refusal.specs.declared.limits.TheConstants.{STATIONS}
use Rattle.desk.specs.Texts.{stations_text}
use Rattle.desk.proofs.text.StationsDisplay.fmt.Goals as goal

pub returns-clause-writes : goal.returns-clause-writes
returns-clause-writes g c plain ok =
    let Written : ℕ → Type 0 = λ n. HasWritten g.W.Write.write_str_gives c.args.f.now (stations_text c.args.self.now.0 n) c.loop-k.f in
    let all : c.loop-k.k-counter ≡ STATIONS = omega arith in
    subst Written all (c.loop-k.invariant plain)
