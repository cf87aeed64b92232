-- `over` meets its contract: the quotient is exact. Assumes nothing.
use mathlib.Core.Path.{ap, ◌∙◌}
use Prim.Native.Nat.{ℕ, ◌^◌}
use native.Mathlib.Numerals.{add-one}
use native.Mathlib.Omega.{arith}
use Rattle.boxes.proofs.Middles.{quotient_is}
use Rattle.boxes.proofs.middle.over.Goals as goal

pub returns : goal.returns
returns c =
    let z = c in
    rw (c.from.ensures, c.from-2.ensures)
    (quotient_is z.args.m c.power.result z.args.s (omega arith) (omega (arith, z.requires.0)) z.requires.1
    (c.power.ensures ∙ ap (λ (k : ℕ). 2 ^ k) (add-one z.args.s)))
