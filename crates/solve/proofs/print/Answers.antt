-- What `print` writes are the bytes at the front of the text. Assumes nothing.
use Rattle.solve.proofs.Front.{front_there}
use Rattle.solve.proofs.print.Goals as goal

pub slice_bounds-text-end : goal.slice_bounds-text-end
slice_bounds-text-end c = front_there _ _ _ _ c.tell-n.ensures.0 c.tell-n.ensures.1
