-- What the loop of `counts::count` keeps: with those that are still to be counted, n is the whole. Assumes nothing.
use Prim.Native.Nat.{◌+◌}
use mathlib.Core.Path.{◌≡◌}
use lib.ListN.{drop}
use Rattle.writing.specs.Counts.{count}
use Rattle.writing.proofs.counts.count.Given as goal

abbrev pub invariant-loop-x : goal.invariant-loop-x
invariant-loop-x l = l.n + count (drop l.x-index l.xs) ≡ count l.xs
