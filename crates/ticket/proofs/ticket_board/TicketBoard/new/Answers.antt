use Rattle.std.proofs.Common.{sym, subst}
use Rattle.std.proofs.lemmas.Bool.{ltb-true}
use Rattle.refusal.specs.declared.limits.TheConstants.{STATIONS}
use Rattle.refusal.proofs.Verdicts.{unbroken}
use Rattle.board.specs.Board.{WholeBoard}
use Rattle.board.specs.Entry.{board_rules}
use Rattle.ticket_kinds.specs.Kinds.{first_kind}
use Rattle.ticket.specs.Truth.{Truthful}
use Rattle.ticket.proofs.Histories.{first_truthful}
use Rattle.ticket.proofs.ticket_board.TicketBoard.new.Goals as goal

pub returns-clause-truth : goal.returns-clause-truth
returns-clause-truth g c =
    let J = g.A.Value.Joining in
    let first = c.args.first in
    let station = ltb-true first STATIONS (unbroken (board_rules first) c.requires).0 in
    subst (λ (b : WholeBoard _). Truthful b.state first (first_kind c.args.mode)) (sym c.new-board.ensures.state) (first_truthful J first c.args.mode (g.A.Accumulator.meaning c.args.accumulator) station)
