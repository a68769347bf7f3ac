use Rattle.std.proofs.Common.{Ok, sym, ap, ◌∙◌}
use Rattle.std.proofs.lemmas.Result.{IfOk-at_ok}
use Rattle.calls.specs.declared.Mode.TheVariants.{SignalWait}
use Rattle.calls.specs.declared.actions.Action.TheVariants.{Register, Signal, Wait, Drop, Send, Result as AskResult}
use Rattle.calls.specs.declared.actions.Answer.TheVariants.{Signaled, Observed, Total, Dropped}
use Rattle.accumulator.specs.Meaning.{neutral_totals}
use Rattle.board.specs.Board.{WholeBoard, new_state_on}
use Rattle.ticket_kinds.specs.declared.Kind.TheVariants.{Open}
use Rattle.ticket.specs.Calls.{IsTicket}
use Rattle.calling.proofs.Stepped.{left_by, answered_by, is_accepted, on_ticket, on_last_ticket, next_number, total_told}
use Rattle.calling.proofs.on_tickets.pass_on.Goals as goal

-- each ticket's number and the board are known from call to call
pub unwrap-other-requires : goal.unwrap-other-requires
unwrap-other-requires g c =
    let J = g.A.Value.Joining in
    let k = g.A.Accumulator.changes in
    let zero = c.open-zero.ensures ∙ c.new-board.ensures.ticket.for_station in
    let other = c.open-other.ensures ∙ (IfOk-at_ok (λ t. IsTicket Open 1 t.2) c.unwrap-ticket.ensures c.register.ensures.ticket).for_station in
    let made = ap (λ (b : WholeBoard _). b.state) c.new-board.ensures.board ∙ ap (new_state_on 0 SignalWait) c.requires in
    let s1 = left_by J k _ _ _ _ _ 0 (Register 1 SignalWait) zero made c.register.ensures.result in
    let s2 = left_by J k _ _ _ _ _ 0 (Send c.args.one) zero s1 c.send.ensures.result in
    let s3 = left_by J k _ _ _ _ _ 1 (Send c.args.two) other s2 c.send-2.ensures.result in
    let s4 = left_by J k _ _ _ _ _ 0 Signal zero s3 c.sign.ensures.result in
    on_ticket Signaled c.sign-2.result (answered_by J k _ _ _ _ _ 1 Signal other s4 c.sign-2.ensures.result)

pub unwrap-zero-requires-2 : goal.unwrap-zero-requires-2
unwrap-zero-requires-2 g c =
    let J = g.A.Value.Joining in
    let k = g.A.Accumulator.changes in
    let zero = c.open-zero.ensures ∙ c.new-board.ensures.ticket.for_station in
    let other = c.open-other.ensures ∙ (IfOk-at_ok (λ t. IsTicket Open 1 t.2) c.unwrap-ticket.ensures c.register.ensures.ticket).for_station in
    let made = ap (λ (b : WholeBoard _). b.state) c.new-board.ensures.board ∙ ap (new_state_on 0 SignalWait) c.requires in
    let s1 = left_by J k _ _ _ _ _ 0 (Register 1 SignalWait) zero made c.register.ensures.result in
    let s2 = left_by J k _ _ _ _ _ 0 (Send c.args.one) zero s1 c.send.ensures.result in
    let s3 = left_by J k _ _ _ _ _ 1 (Send c.args.two) other s2 c.send-2.ensures.result in
    let s4 = left_by J k _ _ _ _ _ 0 Signal zero s3 c.sign.ensures.result in
    let s5 = left_by J k _ _ _ _ _ 1 Signal other s4 c.sign-2.ensures.result in
    let zero2 = next_number c.sign.result _ _ c.sign.ensures.ticket c.unwrap-zero.ensures ∙ zero in
    on_ticket Observed c.wait.result (answered_by J k _ _ _ _ _ 0 Wait zero2 s5 c.wait.ensures.result)

pub unwrap-other-requires-2 : goal.unwrap-other-requires-2
unwrap-other-requires-2 g c =
    let J = g.A.Value.Joining in
    let k = g.A.Accumulator.changes in
    let zero = c.open-zero.ensures ∙ c.new-board.ensures.ticket.for_station in
    let other = c.open-other.ensures ∙ (IfOk-at_ok (λ t. IsTicket Open 1 t.2) c.unwrap-ticket.ensures c.register.ensures.ticket).for_station in
    let made = ap (λ (b : WholeBoard _). b.state) c.new-board.ensures.board ∙ ap (new_state_on 0 SignalWait) c.requires in
    let s1 = left_by J k _ _ _ _ _ 0 (Register 1 SignalWait) zero made c.register.ensures.result in
    let s2 = left_by J k _ _ _ _ _ 0 (Send c.args.one) zero s1 c.send.ensures.result in
    let s3 = left_by J k _ _ _ _ _ 1 (Send c.args.two) other s2 c.send-2.ensures.result in
    let s4 = left_by J k _ _ _ _ _ 0 Signal zero s3 c.sign.ensures.result in
    let s5 = left_by J k _ _ _ _ _ 1 Signal other s4 c.sign-2.ensures.result in
    let zero2 = next_number c.sign.result _ _ c.sign.ensures.ticket c.unwrap-zero.ensures ∙ zero in
    let s6 = left_by J k _ _ _ _ _ 0 Wait zero2 s5 c.wait.ensures.result in
    let other2 = next_number c.sign-2.result _ _ c.sign-2.ensures.ticket c.unwrap-other.ensures ∙ other in
    on_ticket Observed c.wait-2.result (answered_by J k _ _ _ _ _ 1 Wait other2 s6 c.wait-2.ensures.result)

pub unwrap-total-requires : goal.unwrap-total-requires
unwrap-total-requires g c =
    let J = g.A.Value.Joining in
    let k = g.A.Accumulator.changes in
    let zero = c.open-zero.ensures ∙ c.new-board.ensures.ticket.for_station in
    let other = c.open-other.ensures ∙ (IfOk-at_ok (λ t. IsTicket Open 1 t.2) c.unwrap-ticket.ensures c.register.ensures.ticket).for_station in
    let made = ap (λ (b : WholeBoard _). b.state) c.new-board.ensures.board ∙ ap (new_state_on 0 SignalWait) c.requires in
    let s1 = left_by J k _ _ _ _ _ 0 (Register 1 SignalWait) zero made c.register.ensures.result in
    let s2 = left_by J k _ _ _ _ _ 0 (Send c.args.one) zero s1 c.send.ensures.result in
    let s3 = left_by J k _ _ _ _ _ 1 (Send c.args.two) other s2 c.send-2.ensures.result in
    let s4 = left_by J k _ _ _ _ _ 0 Signal zero s3 c.sign.ensures.result in
    let s5 = left_by J k _ _ _ _ _ 1 Signal other s4 c.sign-2.ensures.result in
    let zero2 = next_number c.sign.result _ _ c.sign.ensures.ticket c.unwrap-zero.ensures ∙ zero in
    let s6 = left_by J k _ _ _ _ _ 0 Wait zero2 s5 c.wait.ensures.result in
    let other2 = next_number c.sign-2.result _ _ c.sign-2.ensures.ticket c.unwrap-other.ensures ∙ other in
    let s7 = left_by J k _ _ _ _ _ 1 Wait other2 s6 c.wait-2.ensures.result in
    let zero3 = next_number c.wait.result _ _ c.wait.ensures.ticket c.unwrap-zero-2.ensures ∙ zero2 in
    is_accepted (λ t. Total t.0 t.1) c.result.result (answered_by J k _ _ _ _ _ 0 AskResult zero3 s7 c.result.ensures.result)

pub unwrap-requires-4 : goal.unwrap-requires-4
unwrap-requires-4 g c =
    let J = g.A.Value.Joining in
    let k = g.A.Accumulator.changes in
    let zero = c.open-zero.ensures ∙ c.new-board.ensures.ticket.for_station in
    let other = c.open-other.ensures ∙ (IfOk-at_ok (λ t. IsTicket Open 1 t.2) c.unwrap-ticket.ensures c.register.ensures.ticket).for_station in
    let made = ap (λ (b : WholeBoard _). b.state) c.new-board.ensures.board ∙ ap (new_state_on 0 SignalWait) c.requires in
    let s1 = left_by J k _ _ _ _ _ 0 (Register 1 SignalWait) zero made c.register.ensures.result in
    let s2 = left_by J k _ _ _ _ _ 0 (Send c.args.one) zero s1 c.send.ensures.result in
    let s3 = left_by J k _ _ _ _ _ 1 (Send c.args.two) other s2 c.send-2.ensures.result in
    let s4 = left_by J k _ _ _ _ _ 0 Signal zero s3 c.sign.ensures.result in
    let s5 = left_by J k _ _ _ _ _ 1 Signal other s4 c.sign-2.ensures.result in
    let zero2 = next_number c.sign.result _ _ c.sign.ensures.ticket c.unwrap-zero.ensures ∙ zero in
    let s6 = left_by J k _ _ _ _ _ 0 Wait zero2 s5 c.wait.ensures.result in
    let other2 = next_number c.sign-2.result _ _ c.sign-2.ensures.ticket c.unwrap-other.ensures ∙ other in
    let s7 = left_by J k _ _ _ _ _ 1 Wait other2 s6 c.wait-2.ensures.result in
    let zero3 = next_number c.wait.result _ _ c.wait.ensures.ticket c.unwrap-zero-2.ensures ∙ zero2 in
    let s8 = left_by J k _ _ _ _ _ 0 Drop zero3 s7 c.drop.ensures.result in
    let other3 = next_number c.wait-2.result _ _ c.wait-2.ensures.ticket c.unwrap-other-2.ensures ∙ other2 in
    on_last_ticket (λ _. Dropped) c.drop-2.result (answered_by J k _ _ _ _ _ 1 Drop other3 s8 c.drop-2.ensures.result)

pub returns : goal.returns
unfolding neutral_totals
returns g c =
    let J = g.A.Value.Joining in
    let k = g.A.Accumulator.changes in
    let zero = c.open-zero.ensures ∙ c.new-board.ensures.ticket.for_station in
    let other = c.open-other.ensures ∙ (IfOk-at_ok (λ t. IsTicket Open 1 t.2) c.unwrap-ticket.ensures c.register.ensures.ticket).for_station in
    let made = ap (λ (b : WholeBoard _). b.state) c.new-board.ensures.board ∙ ap (new_state_on 0 SignalWait) c.requires in
    let s1 = left_by J k _ _ _ _ _ 0 (Register 1 SignalWait) zero made c.register.ensures.result in
    let s2 = left_by J k _ _ _ _ _ 0 (Send c.args.one) zero s1 c.send.ensures.result in
    let s3 = left_by J k _ _ _ _ _ 1 (Send c.args.two) other s2 c.send-2.ensures.result in
    let s4 = left_by J k _ _ _ _ _ 0 Signal zero s3 c.sign.ensures.result in
    let s5 = left_by J k _ _ _ _ _ 1 Signal other s4 c.sign-2.ensures.result in
    let zero2 = next_number c.sign.result _ _ c.sign.ensures.ticket c.unwrap-zero.ensures ∙ zero in
    let s6 = left_by J k _ _ _ _ _ 0 Wait zero2 s5 c.wait.ensures.result in
    let other2 = next_number c.sign-2.result _ _ c.sign-2.ensures.ticket c.unwrap-other.ensures ∙ other in
    let s7 = left_by J k _ _ _ _ _ 1 Wait other2 s6 c.wait-2.ensures.result in
    let zero3 = next_number c.wait.result _ _ c.wait.ensures.ticket c.unwrap-zero-2.ensures ∙ zero2 in
    let told = total_told c.result.result 1 _ (answered_by J k _ _ _ _ _ 0 AskResult zero3 s7 c.result.ensures.result) in
    let same = sym c.unwrap-total.ensures ∙ told ∙ ap (λ x. Ok (1, J.joined x c.args.two)) (g.met.A.Value.Joining.laws.neutral_left c.args.one) in
    cc same
