-- `polynomials::put_polynomial` meets its contract: header, number and terms make the record. Assumes nothing.
use mathlib.Core.Path.{◌≡◌, ap}
use Prim.Native.Nat.{◌+◌}
use native.Mathlib.Omega.{arith}
use lib.ListN.{length}
use Rattle.file.specs.Layout.{layout}
use Rattle.writing.proofs.Joining.{record_put}
use Rattle.writing.proofs.polynomials.put_polynomial.Goals as goal

pub returns : goal.returns
returns c =
    let a = c.args in
    let t : c.put-terms.result ≡ a.at + 5 = omega (arith, c.put-terms.ensures.0, c.put-number.ensures.0, ap length c.header.ensures) in
    record_put (layout a.h) a.k a.xs.now a.target.now a.at c.requires.0 c.count.result c.count.ensures.0
    c.put-number.new.target (rw c.header.ensures at c.put-number.ensures.1)
    c.put-terms.new.target (rw (c.put-number.ensures.0, c.header.ensures) at c.put-terms.ensures.1)
    c.put_terms.result c.put_terms.new.target (rw t at c.put_terms.ensures.0) (rw t at c.put_terms.ensures.1)
