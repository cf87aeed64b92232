-- `can_cut` meets its contract: the test of the part from 6 on, by the limit of the direction's degree. Assumes nothing.
use Rattle.whole.proofs.Machine.{back}
use Rattle.slots.proofs.Tests.{within_rest}
use Rattle.slots.proofs.Looking.{slot_long}
use Rattle.slots.proofs.looks.Slot.can_cut.Goals as goal

pub returns : goal.returns
returns c =
    let s = c.args.self.now in
    within_rest s.values.now 6 (slot_long s.fits) (rw (back c.limit_of-limit.type_inv, c.limit_of-limit.ensures, c.along.ensures.degree) at c.all_within.ensures)
