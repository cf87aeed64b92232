-- `pow2` meets its contract: a power of two below 2 ^ 62 fits, as the machine's shift and cast give it. Assumes nothing.
use borrow.Author.Rules.{rules}
use native.Mathlib.Nat.{lt_trans}
use lib.Pow.{pow-lt}
use lib.Dec.{lit<, lit≤}
use mir.Syntax.{w64}
use mir.Facts.{to_z_pos}
use Rattle.whole.proofs.Sizes.{below_le, pow_below, fits_64}
use Rattle.whole.proofs.Machine.{one_shl}
use Rattle.whole.proofs.pow2.Goals as goal

-- `pow2` meets its contract: a power of two below 2 ^ 62 fits, as the machine's shift and cast give it. Assumes nothing.

pub overflow_shl-p : goal.overflow_shl-p
overflow_shl-p c = search rules

pub overflow_cast-result : goal.overflow_cast-result
overflow_cast-result c = rw (one_shl c.args.e c.requires) (fits_64 (below_le (lit≤ tt) (pow_below c.args.e c.requires)))

pub returns : goal.returns
returns c = rw (one_shl c.args.e c.requires) (to_z_pos w64 (lt_trans (pow-lt c.requires) (lit< tt)))
