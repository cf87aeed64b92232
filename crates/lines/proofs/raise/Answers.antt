-- `raise` meets its contract: a loop of rows, from row 1 on. Assumes nothing.
use mathlib.Core.Logic.{inl}
use native.Mathlib.Omega.{arith}
use Rattle.lines.proofs.Turns.{start, end}
use Rattle.lines.proofs.Passes.{raised_none, raise_row, raise_turn}
use Rattle.lines.proofs.raise.Goals as goal

pub loop-i-init : goal.loop-i-init
loop-i-init g c = start (λ b i h d. raised_none b i d)

pub scale_row-requires : goal.scale_row-requires
scale_row-requires g c = let r = raise_row c.requires.1 (omega arith) c.loop-i.invariant c.requires.2 in (omega arith, r.fits, r)

pub loop-i-preserved : goal.loop-i-preserved
loop-i-preserved g c = raise_turn c.requires.1 (omega arith) c.loop-i.invariant c.scale_row.ensures

pub returns : goal.returns
returns g c = end (λ i h. inl (omega arith)) c.loop-i.invariant
