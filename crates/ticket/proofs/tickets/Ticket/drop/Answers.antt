use Rattle.std.proofs.Common.{None, refl, rules}
use Rattle.std.specs.Bool.{⊤}
use Rattle.calls.specs.declared.actions.Action.TheVariants.{Drop}
use Rattle.calls.specs.declared.actions.Answer.TheVariants.{Dropped}
use Rattle.ticket.specs.Calls.{by_number}
use Rattle.ticket.proofs.Keeping.{keeps, drops, may_drop}
use Rattle.ticket.proofs.tickets.Ticket.drop.Goals as goal
use Rattle.ticket.proofs.tickets.Ticket.drop.Goals.{in-Ok, in-Err}

pub returns-clause-result : goal.returns-clause-result
returns-clause-result g c = elim c.match-drop.branch [ in-Ok w ↦ search rules | in-Err w ↦ search rules ]

pub returns-clause-ends : goal.returns-clause-ends
returns-clause-ends g c h =
    let ok = drops g.A.Value.Joining g.A.Accumulator.changes c.args.board.now c.args.self g.K.TicketKind.kind c.drop.new.self {X = ⊤} (λ _. Dropped) (by_number c.match-drop.result) (returns-clause-result g c) h in
    elim c.match-drop.branch [ in-Ok w ↦ search (rules, ok) | in-Err w ↦ search (rules, ok) ]

pub returns-clause-keeps : goal.returns-clause-keeps
returns-clause-keeps g c =
    let kind = g.K.TicketKind.kind in
    keeps g.A.Value.Joining g.A.Accumulator.changes c.args.board.now c.args.self kind c.drop.new.self {X = ⊤} Drop None refl (may_drop kind) (λ _. Dropped) (by_number c.match-drop.result) (returns-clause-result g c)
