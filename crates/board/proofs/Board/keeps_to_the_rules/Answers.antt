use Rattle.std.proofs.Common.{subst}
use Rattle.phaser.specs.State.{State, SoundState, SoundSeats}
use Rattle.phaser.proofs.Agree.{counted, rules_agree_lem}
use Rattle.board.specs.declared.Board.TheInside.{Inside}
use Rattle.board.specs.Board.{WholeBoard}
use Rattle.board.proofs.Board.keeps_to_the_rules.Goals as goal

-- the views are sound by the table's type, and the totals are as many as are kept by the accumulator's law
pub returns : goal.returns
returns g c =
    let b = c.self.inside in
    let seats = subst (λ (i : Inside g.row.A.Denot g.row.A-Value.Denot). SoundSeats i.members) c.self-inside.view_is c.self-inside.invariant in
    let s : State g.row.A-Value.Denot = record { members = b.members; account = g.A.Accumulator.meaning b.accumulator } in
    let inside : SoundState s = record { seats = seats; window = (g.A.Accumulator.sound b.accumulator).full } in
    let sound = subst (λ (h : WholeBoard g.row.A-Value.Denot). SoundState h.state) c.self.view_is inside in
    record { sound = sound; agrees = λ j x. rules_agree_lem g.A.Value.Joining c.args.self.now.state (counted c.args.self.now.state sound) j x }
