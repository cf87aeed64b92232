-- `all_within` meets its contract: the test of the part that is the whole. Assumes nothing.
use native.Mathlib.Omega.{arith}
use mir.Facts.{to_z-of_z}
use Rattle.slots.proofs.Tests.{within_rest}
use Rattle.slots.proofs.numbers.all_within.Goals as goal

pub returns : goal.returns
returns c = within_rest c.args.part.now 0 (omega arith) (rw (to_z-of_z c.ranges.bound) at c.all_within.ensures)
