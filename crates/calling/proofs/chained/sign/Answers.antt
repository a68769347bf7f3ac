use Rattle.std.proofs.Common.{[], ◌∷◌}
use Rattle.calls.specs.declared.actions.Action.TheVariants.{Signal}
use Rattle.calls.specs.declared.actions.Answer.TheVariants.{Signaled}
use Rattle.board.specs.Board.{as_answer}
use Rattle.calling.proofs.chained.sign.Goals as goal

pub returns : goal.returns
returns g c =
    let made = c.signal.ensures in
    c.records_go_on.ensures.go_on c.args.board.now.state c.signal.new.self.state (record { caller = c.args.caller; action = Signal } ∷ []) (as_answer Signaled c.signal.result ∷ []) (λ i. ((made i).0 ∷ [], (made i).1.state))
