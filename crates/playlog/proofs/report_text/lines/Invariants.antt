use Rattle.std.proofs.Common.{◌≡◌, take, string_bytes}
use Rattle.playlog.specs.Report.{lines_text}
use Rattle.playlog.proofs.report_text.lines.Given as goal

-- the lines of the outcomes so far
abbrev pub invariant-loop-outcome : goal.invariant-loop-outcome
invariant-loop-outcome l = string_bytes l.text ≡ lines_text (take l.outcome-index l.outcomes)
