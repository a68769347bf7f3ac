use Rattle.std.proofs.Common.{◌≡◌, length}
use Rattle.std.specs.Io.KnownBytes.{Keeps}
use Rattle.textlines.proofs.bytes.next_byte.Given as goal

-- a read that was interrupted took nothing
abbrev pub invariant-loop : goal.invariant-loop
invariant-loop g l = (length l.byte ≡ 1) × Keeps (g.R.Read.remaining l.initial.reader) (g.R.Read.remaining l.reader)
