use Rattle.phaser.proofs.Law.{record_goes_on, records_alike}
use Rattle.phaser.proofs.records_go_on.Goals as goal

pub returns : goal.returns
returns g c = record {
  go_on = record_goes_on g.V.Joining g.met.V.Joining.laws;
  alike = records_alike g.V.Joining g.met.V.Joining.laws;
}
