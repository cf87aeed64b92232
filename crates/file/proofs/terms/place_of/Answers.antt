-- `terms::place_of` meets its contract: of bytes, the place is a small number. Assumes nothing.
use native.Mathlib.Omega.{arith}
use borrow.Author.Rules.{rules}
use Rattle.system.specs.Heads.{degrees}
use Rattle.file.specs.Terms.{exponents}
use Rattle.file.proofs.Layouts.{place_of_bytes}
use Rattle.file.proofs.terms.place_of.Goals as goal

pub returns : goal.returns
returns c =
    let k = c.type_inv.bytes in (
      c.place.ensures,
      rw c.place.ensures (place_of_bytes (degrees c.args.h) (exponents c.args.bytes.now) (search rules) (search rules) (omega (arith, k 0)) (omega (arith, k 1)) (omega (arith, k 2))),
    )
