-- `power` meets its contract. Assumes nothing.
use Rattle.boxes.proofs.Powers.{double}
use Rattle.boxes.proofs.middle.power.Goals as goal

pub returns : goal.returns
returns c = double c.args.s c.requires
