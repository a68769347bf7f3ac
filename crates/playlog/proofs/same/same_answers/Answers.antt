use Rattle.std.proofs.Common.{rules}
use Rattle.std.proofs.lemmas.Slice.Eq.{slice_eq-Decides}
use Rattle.playlog.proofs.Compared.{record_decides, refusal_decides, result_decides}
use Rattle.playlog.proofs.same.same_answers.Goals as goal

pub returns : goal.returns
returns c =
    slice_eq-Decides (result_decides (λ a b. search (rules, record_decides)) refusal_decides) c.args.left.now c.args.right.now c.eq.result c.eq.ensures
