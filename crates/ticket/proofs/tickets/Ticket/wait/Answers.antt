use Rattle.std.proofs.Common.{Some, ap, ◌∙◌}
use Rattle.calls.specs.declared.actions.Action.TheVariants.{Wait}
use Rattle.calls.specs.declared.actions.Answer.TheVariants.{Observed}
use Rattle.board.specs.Board.{board_step, as_answer}
use Rattle.ticket.specs.Calls.{without_ticket}
use Rattle.ticket.proofs.Keeping.{keeps}
use Rattle.ticket.proofs.tickets.Ticket.wait.Goals as goal

pub returns-clause-result : goal.returns-clause-result
returns-clause-result g c =
    let J = g.A.Value.Joining in
    let writes = g.A.Accumulator.changes in
    ap (λ r. (as_answer Observed r, c.wait-answer.new.self)) c.hand_over.ensures.answer
    ∙ c.wait-answer.ensures
    ∙ ap (λ b. board_step J writes b c.station.result Wait) c.board.view_is
    ∙ ap (λ k. board_step J writes c.args.board.now k Wait) c.station.ensures

pub returns-clause-keeps : goal.returns-clause-keeps
returns-clause-keeps g c =
    let J = g.A.Value.Joining in
    let writes = g.A.Accumulator.changes in
    let law = g.met.K.MayWait in
    keeps J writes c.args.board.now c.args.self g.K.TicketKind.kind c.wait-answer.new.self Wait (Some g.K.Next.TicketKind.kind) (ap Some law.next) law.offered Observed (without_ticket c.hand_over.result) (returns-clause-result g c)
