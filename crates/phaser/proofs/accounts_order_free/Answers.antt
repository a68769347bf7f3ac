use Rattle.phaser.proofs.Law.{accounts_order_free_lem}
use Rattle.phaser.proofs.accounts_order_free.Goals as goal

pub returns : goal.returns
returns g c = accounts_order_free_lem g.V.Joining g.row.A.Denot
