use Rattle.std.proofs.Common.{◌≡◌, true, sym, subst, rules}
use Rattle.calls.specs.declared.Verb.TheVariants.{Wait}
use Rattle.calls.specs.Views.{waits}
use Rattle.refusal.proofs.Verdicts.{unbroken}
use Rattle.phaser.specs.State.{State, seat}
use Rattle.phaser.specs.Rules.{view_after_wait}
use Rattle.phaser.specs.Steps.{view_of}
use Rattle.board.specs.Entry.{entry_rules}
use Rattle.board.specs.Holders.{holder_set, WaitsFor}
use Rattle.board.proofs.Holding.{waits_for}
use Rattle.board.proofs.Board.holders.Goals as goal

pub returns-clause-who : goal.returns-clause-who
returns-clause-who g c =
    let s = c.args.self.now.state in
    let m = view_of (seat s c.args.waiter) in
    let set : c.held_by-set.result ≡ holder_set m.wp s.members = search rules in
    let decided = c.in_ok-member.ensures.decided in
    let waiter : waits m.mode ≡ true = search rules in
    subst (λ n. WaitsFor s.members (view_after_wait m) n) (sym set) (waits_for m waiter s.members)
