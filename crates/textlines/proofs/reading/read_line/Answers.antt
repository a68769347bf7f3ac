use Rattle.std.proofs.Common.{◌≡◌, IfSome, length, take, ap, sym, subst, arith}
use Rattle.std.specs.Io.BufRead.{first_line}
use Rattle.textlines.specs.declared.TheConstants.{MAX_LINE_LEN}
use Rattle.textlines.specs.Lines.{next_line, MovesPast}
use Rattle.textlines.proofs.Stopped.{reads, kept_short}
use Rattle.textlines.proofs.reading.read_line.Goals as goal

pub returns-clause-kind : goal.returns-clause-kind
returns-clause-kind g c =
    let stopped = c.in_ok-stop.ensures in
    let read = reads c.in_ok-stop.stop c.gather.new.line.items _ _ stopped.given stopped.ended stopped.one_line stopped.long in
    subst (λ kind. IfSome (g.R.Read.remaining c.args.reader.now) (λ text. kind ≡ next_line text)) (sym c.finish.ensures.is) read.kind

pub returns-clause-bytes : goal.returns-clause-bytes
returns-clause-bytes g c =
    let stopped = c.in_ok-stop.ensures in
    let read = reads c.in_ok-stop.stop c.gather.new.line.items _ _ stopped.given stopped.ended stopped.one_line stopped.long in
    subst (λ bytes. IfSome (g.R.Read.remaining c.args.reader.now) (λ text. bytes ≡ take MAX_LINE_LEN (first_line text))) (sym c.finish.ensures.keeps) read.bytes

pub returns-clause-past : goal.returns-clause-past
returns-clause-past g c =
    let stopped = c.in_ok-stop.ensures in
    let read = reads c.in_ok-stop.stop c.gather.new.line.items _ _ stopped.given stopped.ended stopped.one_line stopped.long in
    subst (λ kind. MovesPast kind (g.R.Read.remaining c.args.reader.now) (g.R.Read.remaining c.gather.new.reader)) (sym c.finish.ensures.is) read.past

pub returns-clause-short : goal.returns-clause-short
returns-clause-short g c =
    let short = kept_short c.in_ok-stop.stop c.gather.new.line.items c.in_ok-stop.ensures.long in
    let size = ap length c.finish.ensures.keeps in
    let own = c.finish.new.line.ok.0 in
    omega arith
