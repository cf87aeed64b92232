-- `cuts_in` meets its contract: the s of each direction stands in its column. Assumes nothing.
use Rattle.boxes.specs.Boxes.{direction}
use Rattle.slots.proofs.Looking.{cuts_column}
use Rattle.slots.proofs.looks.Slot.cuts_in.Goals as goal

pub count_at-requires : goal.count_at-requires
count_at-requires c = let s = c.args.self.now in rw c.of.ensures (cuts_column s.fits (direction c.args.r))
