-- `start` meets its contract: a store that passes is long enough. Assumes nothing.
use Rattle.waiting.proofs.Starting.{start_passes}
use Rattle.waiting.proofs.start.start.Goals as goal

pub fill-requires : goal.fill-requires
fill-requires c =
    let s = c.args in let e = c.in_ok-system.ensures in
    rw e.1 (start_passes s.h s.coefficients.now s.store.now e.0).long
