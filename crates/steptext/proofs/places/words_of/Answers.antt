use Rattle.std.proofs.lemmas.Iterator.Splits.{YieldsList-from_str_split}
use Rattle.std.proofs.lemmas.Iterator.Consumers.{map_from_collect}
use Rattle.std.proofs.Common.{arith}
use Rattle.steptext.proofs.places.words_of.Goals as goal

pub returns : goal.returns
returns c =
    let parted = YieldsList-from_str_split 32 c.args.line.now (omega arith) c.split.ensures.text c.split.ensures.has_more c.split.ensures.pattern in
    map_from_collect _ c.collect.ensures.ran parted
