use Rattle.std.proofs.Common.{lit≤}
use Rattle.phaser.proofs.Places.{places_due, tried_upward}
use Rattle.phaser.proofs.refusals_in_order.Goals as goal

pub returns : goal.returns
returns g c = record {
  places = places_due g.V.Joining;
  calls = tried_upward;
  makings = λ limit cells. (tt, (lit≤ tt, tt));
  adds = λ limit first station pass. (lit≤ tt, tt);
}
