use Rattle.std.proofs.Common.{rules}
use Rattle.steptext.specs.declared.expectations.Expected.TheVariants.{Marks}
use Rattle.steptext.proofs.Numbers.{number_is}
use Rattle.steptext.proofs.words.marks.Goals as goal

pub returns : goal.returns
returns c = number_is 16 c.args.word.now c.parse.result c.map_err.result Marks c.parse.ensures.value.0 (search rules)
