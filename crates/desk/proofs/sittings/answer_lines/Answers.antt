use Rattle.std.proofs.Common.{◌+◌, [], Some, sym, ap, ◌∙◌, subst, arith}
use Rattle.std.specs.Io.KnownBytes.{Appends}
use Rattle.desk.specs.declared.hearing.Heard.TheVariants.{Nothing, Asked, Wrong}
use Rattle.desk.specs.Answers.{request_step}
use Rattle.desk.specs.Texts.{told_line}
use Rattle.desk.proofs.Written.{Appends-none, ends, by_no_line, one_more}
use Rattle.desk.proofs.sittings.answer_lines.Goals as goal
use Rattle.desk.proofs.sittings.answer_lines.Goals.{in-Nothing, in-Asked+in_ok-tell-in-Asked, in-Wrong+in_ok-complain-in-Wrong}

pub returns-in_default : goal.returns-in_default
returns-in_default g c =
    let J = g.V.Joining in
    let changes = g.A.Accumulator.changes in
    let part_of = g.V.Measured.part_of in
    let text = g.V.Measured.text in
    ends _ _ _ _ _ _ c.loop-i.invariant.written (by_no_line J changes part_of text _ _ _ _ c.in_default.is c.in_ok-heard.ensures)

pub loop-i-preserved : goal.loop-i-preserved
loop-i-preserved g c =
    let J = g.V.Joining in
    let changes = g.A.Accumulator.changes in
    let part_of = g.V.Measured.part_of in
    let text = g.V.Measured.text in
    let now = g.W.Write.contents c.loop-i.answers in
    let same = Appends-none now in
    elim c.match-heard.branch [
      | in-Nothing w ↦ record {
        counted = omega arith;
        written = one_more J changes part_of text _ now _ _ _ _ _ _ _ _ Nothing c.loop-i.invariant.written (c.in-Some.is ∙ ap Some w.in-Nothing.is) c.in_ok-heard.ensures
            (subst (λ a. Appends now (g.W.Write.contents a) []) (sym w.answers-is) same)
            (λ i. record { answered = w.answered-is i; board = w.board-is i });
      }
      | in-Asked+in_ok-tell-in-Asked w ↦ record {
        counted = omega arith;
        written = one_more J changes part_of text _ now _ _ _ _ _ _ _ _ (Asked w.in-Asked.request) c.loop-i.invariant.written (c.in-Some.is ∙ ap Some w.in-Asked.is) c.in_ok-heard.ensures
            (subst (λ a. Appends now (g.W.Write.contents a) (told_line text (c.loop-i.answered + 1) w.in-Asked.request (request_step J changes part_of c.loop-i.board w.in-Asked.request).0)) (sym w.answers-is) w.in_ok-tell-in-Asked.ensures.written)
            (λ i. record { answered = w.answered-is i; board = (w.board-is ∙ w.in_ok-tell-in-Asked.ensures.board) i });
      }
      | in-Wrong+in_ok-complain-in-Wrong w ↦ record {
        counted = omega arith;
        written = one_more J changes part_of text _ now _ _ _ _ _ _ _ _ (Wrong w.in-Wrong.mismatch) c.loop-i.invariant.written (c.in-Some.is ∙ ap Some w.in-Wrong.is) c.in_ok-heard.ensures
            (subst (λ a. Appends now (g.W.Write.contents a) []) (sym w.answers-is) same)
            (λ i. record { answered = w.answered-is i; board = w.board-is i });
      }
    ]
