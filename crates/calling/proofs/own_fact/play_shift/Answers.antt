use Rattle.std.proofs.Common.{[], zip, ap}
use Rattle.joining.specs.Lists.{joining_of}
use Rattle.calls.specs.declared.Mode.TheVariants.{SignalWait}
use Rattle.phaser.specs.Histories.{accepted_calls, call_step, values_for}
use Rattle.board.specs.Board.{WholeBoard, new_state_on}
use Rattle.calling.proofs.OneTotal.{one_total, at_ok, both_at_ok}
use Rattle.calling.proofs.Stepped.{played}
use Rattle.calling.proofs.own_fact.play_shift.Goals as goal

-- the law that `play` promises, of the record that the making began
pub returns : goal.returns
returns g c =
    let J = g.A.Value.Joining in
    let changes = g.A.Accumulator.changes in
    let calls = c.args.calls.now in
    let start = new_state_on 0 SignalWait (g.A.Accumulator.meaning c.args.accumulator) in
    let made = ap (λ (b : WholeBoard _). b.state) c.new-board.ensures.state in
    record {
      answers = at_ok c.play.result _ _ _ c.play.ensures.result (λ v e. played J changes _ _ start calls v.items made e);
      one_total = λ limit fresh.
          both_at_ok c.play.result _ _ _ _ c.play.ensures.result c.play.ensures.law
          (λ v e law.
          let whole = law 0 SignalWait limit [] (c.new-board.ensures.record limit fresh) in
          one_total (call_step J) start calls v.items (λ pass. joining_of J (values_for pass (accepted_calls (zip calls v.items)))) (played J changes _ _ start calls v.items made e) whole.1.complete);
    }
