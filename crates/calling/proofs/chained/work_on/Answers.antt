use Rattle.std.proofs.Common.{[], ◌∷◌, ◌++◌, zip, ◌∙◌, subst, append_assoc}
use Rattle.phaser.specs.State.{new_state}
use Rattle.phaser.specs.Histories.{Event}
use Rattle.phaser.specs.Law.{LawOfTheRecord, RecordOf}
use Rattle.calling.proofs.chained.work_on.Goals as goal

-- each call and each list hands its record to the next
pub returns : goal.returns
returns g c first_member mode limit h r =
    let J = g.A.Value.Joining in
    let m = zip c.args.morning.now c.in_ok-first.first.items in
    let n : Event g.row.A-Value.Denot = (c.args.noon, c.call-answer.result) in
    let e = zip c.args.evening.now c.in_ok-last.last.items in
    let t = c.play-2.new.board.state in
    let a = c.in_ok-first.ensures.law first_member mode limit h r in
    let b = c.call-answer.ensures.law first_member mode limit (h ++ m) a.0 in
    let d = c.in_ok-last.ensures.law first_member mode limit ((h ++ m) ++ n ∷ []) b.0 in
    subst (λ k. RecordOf J first_member mode limit k t × LawOfTheRecord J first_member (new_state J first_member mode limit) k t)
    (append_assoc (h ++ m) (n ∷ []) e ∙ append_assoc h m (n ∷ e)) d
