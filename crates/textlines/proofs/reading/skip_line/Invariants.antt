use Rattle.std.proofs.Common.{◌≡◌, IfSome, IsSomeAnd}
use Rattle.std.specs.Io.BufRead.{drop_through}
use Rattle.textlines.proofs.reading.skip_line.Given as goal

-- the next line is still the one that it was
abbrev pub invariant-loop : goal.invariant-loop
invariant-loop g l = IfSome (g.R.Read.remaining l.initial.reader) (λ text. IsSomeAnd (g.R.Read.remaining l.reader) (λ left. drop_through 10 left ≡ drop_through 10 text))
