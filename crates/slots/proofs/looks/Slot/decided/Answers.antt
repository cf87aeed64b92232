-- `decided` meets its contract: polynomials 1 to p are mixed, and the side of the next one answers or goes on. Assumes nothing.
use mathlib.Core.Path.{sym, ap, ◌∙◌}
use native.Mathlib.Omega.{arith}
use Prim.Native.Nat.{ℕ}
use Rattle.system.proofs.Heads.{size_low}
use Rattle.slots.specs.Slots.{numbers}
use Rattle.slots.specs.Rules.{decided}
use Rattle.slots.proofs.Looking.{slot_length, part_fits, deciding_end, deciding_on, turn}
use Rattle.slots.proofs.looks.Slot.decided.Goals as goal

pub side_of-requires : goal.side_of-requires
side_of-requires c =
    let s = c.args.self.now in
    rw (c.from.ensures, c.size-size.ensures) (omega (arith, size_low s.head), part_fits s.values.now _ s.head.m c.loop-p.p (slot_length s.fits) (omega arith))

pub returns-in-Some : goal.returns-in-Some
returns-in-Some c = let s = c.args.self.now in
    sym (turn c.loop-p.invariant (rw c.size-size.ensures (slot_length s.fits)) (omega arith) (rw c.from.ensures) (rw c.in-Some.is at c.side_of.ensures))
    ∙ ap (λ (z : ℕ). decided s.head.m z 1 (numbers s.values.now)) c.size-size.ensures

pub loop-p-preserved : goal.loop-p-preserved
loop-p-preserved c =
    let s = c.args.self.now in
    deciding_on c.loop-p.invariant (rw c.size-size.ensures (slot_length s.fits)) (omega arith) (rw c.from.ensures) c.in_default.ensures

pub returns : goal.returns
returns c =
    let s = c.args.self.now in
    deciding_end c.loop-p.invariant (omega arith) ∙ ap (λ (z : ℕ). decided s.head.m z 1 (numbers s.values.now)) c.size-size.ensures
