use Rattle.std.proofs.Common.{◌≡◌, None, Some, rules}
use Rattle.std.specs.Prelude.{slice_index_or}
use Rattle.board.proofs.members.Members.enter.Goals as goal

pub returns-clause-sound : goal.returns-clause-sound
returns-clause-sound c =
    let taken : slice_index_or c.self.inside.seats c.in_ok-station.station.number None ≡ Some c.in_ok-view.view = search rules in
    c.self.invariant.views c.in_ok-station.station.number c.in_ok-view.view taken
