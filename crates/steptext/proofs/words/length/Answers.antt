use Rattle.std.proofs.Common.{rules}
use Rattle.steptext.specs.declared.expectations.Expected.TheVariants.{Length}
use Rattle.steptext.proofs.Numbers.{number_is}
use Rattle.steptext.proofs.words.length.Goals as goal

pub returns : goal.returns
returns c = number_is 32 c.args.word.now c.parse.result c.map_err.result Length c.parse.ensures.value.0 (search rules)
