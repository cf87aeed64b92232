-- `counts::count` meets its contract: each coefficient that is not zero is one more. Assumes nothing.
use mathlib.Core.Path.{◌≡◌}
use native.Mathlib.Omega.{arith}
use borrow.Author.Rules.{rules}
use lib.IntN.{pos}
use lib.ListN.{get_or}
use Rattle.whole.proofs.Machine.{back}
use Rattle.writing.specs.Counts.{count}
use Rattle.writing.proofs.Counting.{next_counted, all_counted, count_le}
use Rattle.writing.proofs.counts.count.Goals as goal
use Rattle.writing.proofs.counts.count.Goals.{then-not-is_zero, else-not-is_zero}

pub loop-x-init : goal.loop-x-init
loop-x-init c = omega arith

pub overflow_add-n : goal.overflow_add-n
overflow_add-n c =
    let xs = c.args.xs.now in let l = c.loop-x in
    let e = next_counted xs l.x-index l.n c.loop-x-test.true l.invariant in
    let i = rw (back {a = get_or xs l.x-index (pos 0)} (search rules)) at c.if-not-is_zero.ensures in
    omega (arith, rw (← i) at e, count_le xs)

pub loop-x-preserved : goal.loop-x-preserved
loop-x-preserved c =
    let xs = c.args.xs.now in let l = c.loop-x in
    let e = next_counted xs l.x-index l.n c.loop-x-test.true l.invariant in
    let i = rw (back {a = get_or xs l.x-index (pos 0)} (search rules)) at c.is_zero.ensures in
    elim c.if-not-is_zero.branch [
      | then-not-is_zero w ↦ omega (arith, w.n-is, rw (← i, w.if-not-is_zero.true) at e)
      | else-not-is_zero w ↦ omega (arith, w.n-is, rw (← i, w.if-not-is_zero.false) at e)
    ]

pub returns : goal.returns
returns c =
    let xs = c.args.xs.now in let l = c.loop-x in
    let e : l.n ≡ count xs = all_counted xs l.x-index l.n c.loop-x-test.false l.invariant in
    (e, omega (arith, e, count_le xs))
