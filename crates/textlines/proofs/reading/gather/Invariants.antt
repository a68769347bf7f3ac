use Rattle.std.proofs.Common.{◌+◌, ◌-◌, ◌≤◌, length, vec_capacity}
use Rattle.std.specs.Io.KnownBytes.{Consumes}
use Rattle.textlines.specs.declared.TheConstants.{MAX_LINE_LEN}
use Rattle.textlines.proofs.FirstLine.{IsOneLine}
use Rattle.textlines.proofs.reading.gather.Given as goal

-- the line has what was taken so far, and room for as much as is read of a line
abbrev pub invariant-loop-reader : goal.invariant-loop-reader
invariant-loop-reader g l = record {
  taken : Consumes (g.R.Read.remaining l.initial.reader) (g.R.Read.remaining l.reader) l.line.items;
  one_line : IsOneLine l.line.items;
  room : MAX_LINE_LEN + 2 ≤ vec_capacity l.line;
}

abbrev pub decreases-loop-reader : goal.decreases-loop-reader
decreases-loop-reader g l = MAX_LINE_LEN + 2 - length l.line.items
