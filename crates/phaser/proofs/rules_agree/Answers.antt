use Rattle.phaser.proofs.Agree.{rules_agree_lem}
use Rattle.phaser.proofs.rules_agree.Goals as goal

pub returns : goal.returns
returns g c = rules_agree_lem g.V.Joining
