use Rattle.std.proofs.Common.{◌≡◌, ◌≤◌, length, drop, vec_items, vec_len, vec_capacity}
use Rattle.refusal.specs.Trace.{trace}
use Rattle.refusal.proofs.Traces.{after}
use Rattle.accumulator.specs.Calls.{account_of, account_step}
use Rattle.accumulator.proofs.histories.play.Given as goal

-- what is left, played after what is done, is the whole
abbrev pub invariant-loop-call : goal.invariant-loop-call
invariant-loop-call g l =
    let A = g.A.Accumulator in
    let step = account_step g.A.Value.Joining A.changes in
    (after (vec_items l.answers) (trace step (account_of A.meaning A.cells l.accumulator) (drop l.call-index l.calls)) ≡ trace step (account_of A.meaning A.cells l.initial.accumulator) l.calls)
    × (vec_len l.answers ≡ l.call-index)
    × (length l.calls ≤ vec_capacity l.answers)
