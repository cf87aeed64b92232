-- `Head::width` meets its contract: of bytes, the sum fits. Assumes nothing.
use native.Mathlib.Omega.{arith}
use Rattle.bernstein.specs.Places.{size}
use Rattle.system.proofs.Sizes.{product_high, size_of_bytes}
use Rattle.system.specs.Heads.{places, degrees}
use Rattle.system.proofs.head.Head.width.Goals as goal

pub overflow_add-result : goal.overflow_add-result
unfolding places
overflow_add-result c =
    let h = c.args.self in
    let s = size_of_bytes (degrees h) (omega arith) (omega arith) (omega arith) in
    omega (arith, product_high h.m (size (degrees h)) 255 16777216 (omega arith) (omega arith), c.places.ensures)
