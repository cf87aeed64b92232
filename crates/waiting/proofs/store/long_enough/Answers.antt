-- `long_enough` meets its contract. Assumes nothing.
use native.Mathlib.Omega.{arith}
use Rattle.system.proofs.Heads.{slots_high}
use Rattle.waiting.proofs.Slotting.{needed_is}
use Rattle.waiting.proofs.store.long_enough.Goals as goal

pub overflow_mul-result : goal.overflow_mul-result
overflow_mul-result c =
    let h = c.args.h in
    omega (arith, needed_is h.head c.depth.ensures c.width.ensures, slots_high h.head h.limits)
