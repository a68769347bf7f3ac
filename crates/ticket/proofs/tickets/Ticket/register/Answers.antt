use Rattle.std.proofs.Common.{ℕ, Ok, Some, refl, rules}
use Rattle.calls.specs.declared.actions.Action.TheVariants.{Register}
use Rattle.calls.specs.declared.actions.Answer.TheVariants.{Registered}
use Rattle.ticket.proofs.Keeping.{keeps, brings, may_register}
use Rattle.ticket.proofs.tickets.Ticket.register.Goals as goal

pub returns-in_err-sp-clause-keeps : goal.returns-in_err-sp-clause-keeps
returns-in_err-sp-clause-keeps g c =
    let J = g.A.Value.Joining in
    let writes = g.A.Accumulator.changes in
    let kind = g.K.TicketKind.kind in
    keeps J writes c.args.board.now c.args.self.now kind c.register.new.self (Register c.args.other c.args.mode) (Some kind) refl (may_register kind) (λ p. Registered p.0 p.1) c.from_residual.result (search rules)

pub returns-clause-keeps : goal.returns-clause-keeps
returns-clause-keeps g c =
    let J = g.A.Value.Joining in
    let writes = g.A.Accumulator.changes in
    let kind = g.K.TicketKind.kind in
    keeps J writes c.args.board.now c.args.self.now kind c.register.new.self (Register c.args.other c.args.mode) (Some kind) refl (may_register kind) (λ p. Registered p.0 p.1) (Ok (c.in_ok-sp.sp, c.in_ok-sp.wp, c.new-ticket.result)) (search rules)

pub returns-clause-enters : goal.returns-clause-enters
returns-clause-enters g c =
    let J = g.A.Value.Joining in
    let writes = g.A.Accumulator.changes in
    brings J writes c.args.board.now c.args.self.now g.K.TicketKind.kind c.register.new.self c.args.other c.args.mode (λ (p : ℕ × ℕ). Registered p.0 p.1) (c.in_ok-sp.sp, c.in_ok-sp.wp) (search rules)
