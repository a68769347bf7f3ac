use Rattle.std.specs.Fmt.{HasWritten, IsPlainFormatter}
use Rattle.desk.specs.Texts.{stations_text}
use Rattle.desk.proofs.text.StationsDisplay.fmt.Given as goal

-- the stations so far
abbrev pub invariant-loop-k : goal.invariant-loop-k
invariant-loop-k g l = IsPlainFormatter l.initial.f → HasWritten g.W.Write.write_str_gives l.initial.f (stations_text l.self.0 l.k-counter) l.f
