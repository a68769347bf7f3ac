use Rattle.std.proofs.Common.{rules}
use Rattle.steptext.proofs.Numbers.{deviation_is}
use Rattle.steptext.proofs.words.deviation.Goals as goal

pub returns : goal.returns
returns c = deviation_is c.args.word.now c.parse.result c.map_err.result c.parse.ensures.value.0 (search rules)
