use Rattle.std.proofs.Common.{ℕ, ◌+◌, ◌*◌, ◌≤◌, List, [], ◌∷◌, refl, lit≤, is_some, arith}
use Rattle.refusal.specs.declared.Refusal.TheVariants.{BadRecord, NotZero}
use Rattle.refusal.specs.Refusals.{number}
use Rattle.refusal.specs.Rules.{Rule, rule, TriedUpward}
use Rattle.shiftlog.specs.Record.{record_step}
use Rattle.shiftlog.specs.Bytes.{chunks, zeros}
use Rattle.shiftlog.specs.declared.form.TheConstants.{FULL_COUNT, RECORD_LEN}
use Rattle.shiftlog.specs.Block.{counted_part, reserved_bytes, record_rules}
use Rattle.accumulator.specs.Meaning.{neutral_totals}
use Rattle.worked.proofs.examples_hold.Goals as goal

-- a record is looked at after all that has no greater number
upward_to_records : (q : Rule) → number q.otherwise ≤ 8 → (at : ℕ) (records : List (List ℕ)) → TriedUpward (q ∷ record_rules at records)
upward_to_records q e at [] = tt
upward_to_records q e at (r ∷ rs) = (e, upward_to_records (rule (is_some (record_step r)) (BadRecord at)) (lit≤ tt) (at + 1) rs)

pub returns : goal.returns
unfolding neutral_totals
returns c = record {
  turns = refl;
  newcomer = refl;
  waiter = refl;
  totals = refl;
  on_tickets = (
    record { held = refl; offered = refl },
    (record { held = refl; offered = refl }, (record { held = refl; offered = refl }, (record { held = refl; offered = refl }, tt))),
  );
  signed_newcomer = refl;
  open_again = refl;
  ended = refl;
  nothing_yet = refl;
  first_before = record { signaler = refl; less = lit≤ tt; waiter = refl };
  not_second_before = λ before. absurd (omega (arith, before.less));
  six_cells = refl;
  five_cells = refl;
  no_cell = refl;
  check = refl;
  refused = refl;
  upward = λ place last block. (
    lit≤ tt,
    (lit≤ tt, (lit≤ tt, upward_to_records (rule (zeros (reserved_bytes block)) (NotZero place)) (lit≤ tt) (FULL_COUNT * place + 1) (chunks RECORD_LEN (counted_part block)))),
  );
  limits = (refl, refl, refl, refl);
  form = (refl, refl, refl, refl, refl);
  reading = refl;
}
