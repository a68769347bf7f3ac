use Rattle.ticket.proofs.Histories.{tickets_tell_the_truth_lem}
use Rattle.ticket.proofs.law.tickets_tell_the_truth.Goals as goal

pub returns : goal.returns
returns g c = tickets_tell_the_truth_lem g.V.Joining
