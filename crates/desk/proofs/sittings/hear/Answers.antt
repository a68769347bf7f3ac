use Rattle.std.proofs.Common.{ap, ◌∙◌}
use Rattle.desk.specs.Heard.{heard_in}
use Rattle.desk.proofs.NextLine.{heard_whole}
use Rattle.desk.proofs.sittings.hear.Goals as goal

pub returns-in_ok-heard_of-in-Whole : goal.returns-in_ok-heard_of-in-Whole
returns-in_ok-heard_of-in-Whole g c =
    let read = c.in_ok-read_line.ensures in
    heard_whole _ _ _ _ _ c.in-Whole.is read.kind read.bytes read.past (c.in_ok-heard_of-in-Whole.ensures ∙ ap heard_in c.as_slice.ensures.value)
