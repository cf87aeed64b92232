-- `wide` meets its contract: two lines more at a turn, and at the end one more if the count is odd. Assumes nothing.
use Prim.Native.Nat.{◌*◌}
use Rattle.lines.specs.Lines.{Under, LinesCut}
use Rattle.lines.proofs.wide.Given as goal

abbrev pub invariant-loop-pair : goal.invariant-loop-pair
invariant-loop-pair g l = LinesCut (Under (2 * l.pair)) l.up l.lo l.inner g.row.N l.initial.s l.s
