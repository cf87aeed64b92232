-- `Head::places` meets its contract: of bytes, the product fits. Assumes nothing.
use native.Mathlib.Omega.{arith}
use Rattle.system.proofs.Sizes.{product_high, size_of_bytes}
use Rattle.system.specs.Heads.{degrees}
use Rattle.system.proofs.head.Head.places.Goals as goal

pub overflow_mul-result : goal.overflow_mul-result
overflow_mul-result c =
    let h = c.args.self in
    let s = size_of_bytes (degrees h) (omega arith) (omega arith) (omega arith) in
    omega (arith, product_high c.from.result c.size.result 255 16777216 (omega arith) (omega arith))
