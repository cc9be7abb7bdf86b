use Rattle.abs_run.proofs.Listing.{lists_are_served}
use Rattle.abs_run.proofs.laws.lists_are_served.Goals as goal

pub returns : goal.returns
returns c = lists_are_served
