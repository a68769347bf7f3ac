use Rattle.std.proofs.Common.{ap, ◌∙◌}
use Rattle.std.proofs.lemmas.List.{get_or-replicate}
use Rattle.accumulator.specs.declared.TheConstants.{KEPT}
use Rattle.accumulator.specs.Meaning.{new_meaning}
use Rattle.accumulator.proofs.OneSlot.{slots_made}
use Rattle.accumulator.proofs.running_totals.Eager+V.new.Goals as goal

pub returns : goal.returns
returns g c =
    let J = g.V.Joining in
    let window = c.new.result in
    slots_made J _ window.limit window.first (λ r h. get_or-replicate KEPT r c.neutral.result J.neutral h ∙ c.neutral.ensures) c.new.ensures.first
    ∙ ap (new_meaning J) c.new.ensures.limit
