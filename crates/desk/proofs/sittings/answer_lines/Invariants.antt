use Rattle.std.proofs.Common.{◌≤◌}
use Rattle.desk.proofs.Written.{Continues, to_write}
use Rattle.desk.proofs.sittings.answer_lines.Given as goal

-- what has been written, and what is still to be written
abbrev pub invariant-loop-i : goal.invariant-loop-i
invariant-loop-i g l =
    let all = to_write g.V.Joining g.A.Accumulator.changes g.V.Measured.part_of g.V.Measured.text in
    record {
      counted : l.answered ≤ l.i;
      written : Continues (g.W.Write.contents l.initial.answers) (g.W.Write.contents l.answers) (g.R.Read.remaining l.initial.reader) (g.R.Read.remaining l.reader)
          (all (record { answered = 0; board = l.initial.board })) (all (record { answered = l.answered; board = l.board }));
    }
