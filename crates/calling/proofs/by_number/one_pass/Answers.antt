use Rattle.std.proofs.Common.{Ok, refl, ap, ◌∙◌}
use Rattle.calls.specs.declared.Mode.TheVariants.{SignalWait}
use Rattle.calls.specs.declared.actions.Action.TheVariants.{Register, Signal, Wait, Send, Result as AskResult}
use Rattle.calls.specs.declared.actions.Answer.TheVariants.{Observed}
use Rattle.accumulator.specs.Meaning.{neutral_totals}
use Rattle.board.specs.Board.{WholeBoard, new_state_on}
use Rattle.calling.proofs.Stepped.{answered, left, accepted, not_refused, total_told}
use Rattle.calling.proofs.by_number.one_pass.Goals as goal

-- the board is known from call to call
pub returns-in_err-wait : goal.returns-in_err-wait
returns-in_err-wait g c fresh =
    let J = g.A.Value.Joining in
    let k = g.A.Accumulator.changes in
    let made = ap (λ (b : WholeBoard _). b.state) c.new-board.ensures.state ∙ ap (new_state_on 0 SignalWait) fresh in
    let s1 = left J k _ _ _ _ 0 (Register 1 SignalWait) made c.register.ensures in
    let s2 = left J k _ _ _ _ 0 (Send c.args.one) s1 c.send.ensures in
    let s3 = left J k _ _ _ _ 1 (Send c.args.two) s2 c.send-2.ensures in
    let s4 = left J k _ _ _ _ 0 Signal s3 c.signal.ensures in
    let s5 = left J k _ _ _ _ 1 Signal s4 c.signal-2.ensures in
    absurd (not_refused Observed c.wait.result _ (accepted J k _ _ _ _ 0 Wait s5 c.wait.ensures refl) c.in_err-wait.was)

pub returns-in_err-wait-2 : goal.returns-in_err-wait-2
returns-in_err-wait-2 g c fresh =
    let J = g.A.Value.Joining in
    let k = g.A.Accumulator.changes in
    let made = ap (λ (b : WholeBoard _). b.state) c.new-board.ensures.state ∙ ap (new_state_on 0 SignalWait) fresh in
    let s1 = left J k _ _ _ _ 0 (Register 1 SignalWait) made c.register.ensures in
    let s2 = left J k _ _ _ _ 0 (Send c.args.one) s1 c.send.ensures in
    let s3 = left J k _ _ _ _ 1 (Send c.args.two) s2 c.send-2.ensures in
    let s4 = left J k _ _ _ _ 0 Signal s3 c.signal.ensures in
    let s5 = left J k _ _ _ _ 1 Signal s4 c.signal-2.ensures in
    let s6 = left J k _ _ _ _ 0 Wait s5 c.wait.ensures in
    absurd (not_refused Observed c.wait-2.result _ (accepted J k _ _ _ _ 1 Wait s6 c.wait-2.ensures refl) c.in_err-wait-2.was)

pub returns : goal.returns
unfolding neutral_totals
returns g c fresh =
    let J = g.A.Value.Joining in
    let k = g.A.Accumulator.changes in
    let made = ap (λ (b : WholeBoard _). b.state) c.new-board.ensures.state ∙ ap (new_state_on 0 SignalWait) fresh in
    let s1 = left J k _ _ _ _ 0 (Register 1 SignalWait) made c.register.ensures in
    let s2 = left J k _ _ _ _ 0 (Send c.args.one) s1 c.send.ensures in
    let s3 = left J k _ _ _ _ 1 (Send c.args.two) s2 c.send-2.ensures in
    let s4 = left J k _ _ _ _ 0 Signal s3 c.signal.ensures in
    let s5 = left J k _ _ _ _ 1 Signal s4 c.signal-2.ensures in
    let s6 = left J k _ _ _ _ 0 Wait s5 c.wait.ensures in
    let s7 = left J k _ _ _ _ 1 Wait s6 c.wait-2.ensures in
    total_told c.result.result 1 _ (answered J k _ _ _ _ 0 AskResult s7 c.result.ensures)
    ∙ ap (λ x. Ok (1, J.joined x c.args.two)) (g.met.A.Value.Joining.laws.neutral_left c.args.one)
