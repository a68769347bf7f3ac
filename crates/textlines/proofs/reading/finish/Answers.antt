use Rattle.std.proofs.Common.{sym, take_all, rules}
use Rattle.textlines.specs.declared.TheConstants.{MAX_LINE_LEN}
use Rattle.textlines.proofs.reading.finish.Goals as goal

pub returns-in-TextEnd-2-clause-keeps : goal.returns-in-TextEnd-2-clause-keeps
returns-in-TextEnd-2-clause-keeps c = rw c.in-TextEnd-2.is (sym (take_all MAX_LINE_LEN c.args.line.now.items (search rules)))
