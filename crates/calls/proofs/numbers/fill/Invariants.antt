-- `numbers::fill` is safe and ends: a part is never longer than the block. Assumes nothing.
use Rattle.std.proofs.Common.{◌≡◌}
use Rattle.calls.proofs.numbers.fill.Given as goal

abbrev pub invariant-loop-part : goal.invariant-loop-part
invariant-loop-part g l = l.part-iterator.size ≡ 512
