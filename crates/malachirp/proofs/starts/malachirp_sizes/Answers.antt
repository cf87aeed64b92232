-- `malachirp_sizes` meets its contract: within limits the store's length fits. Assumes nothing.
use native.Mathlib.Omega.{arith}
use Rattle.system.proofs.Heads.{slots_high}
use Rattle.waiting.proofs.Slotting.{needed_is}
use Rattle.malachirp.proofs.starts.malachirp_sizes.Goals as goal

pub overflow_mul-needed : goal.overflow_mul-needed
overflow_mul-needed c =
    let h = c.from-h.result in
    omega (arith, needed_is h c.depth.ensures c.width.ensures, slots_high h c.in-Ok.ensures.within)
