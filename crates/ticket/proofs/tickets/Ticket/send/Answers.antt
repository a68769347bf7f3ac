use Rattle.std.proofs.Common.{Some, refl, rules}
use Rattle.calls.specs.declared.actions.Action.TheVariants.{Send}
use Rattle.calls.specs.declared.actions.Answer.TheVariants.{Sent}
use Rattle.ticket.proofs.Keeping.{keeps}
use Rattle.ticket.proofs.tickets.Ticket.send.Goals as goal

pub returns-clause-keeps : goal.returns-clause-keeps
returns-clause-keeps g c =
    let J = g.A.Value.Joining in
    let writes = g.A.Accumulator.changes in
    let kind = g.K.TicketKind.kind in
    keeps J writes c.args.board.now c.args.self.now kind c.send.new.self (Send c.args.value) (Some kind) refl g.met.K.MaySend.offered Sent c.send.result (search rules)
