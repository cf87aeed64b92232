-- `check` meets its contract: where the counts are allowed, the waiting slots stand in the store. Assumes nothing.
use mathlib.Core.Path.{sym, ◌∙◌}
use borrow.Author.Tests.{leb-true}
use lib.ListN.{length}
use Rattle.waiting.specs.States.{needed}
use Rattle.waiting.proofs.Judging.{counts_inside}
use Rattle.waiting.proofs.state.check.Goals as goal

pub slots_ok-requires : goal.slots_ok-requires
slots_ok-requires c =
    let s = c.args in let e = c.in_ok-limited.ensures.1 in
    let long = leb-true (needed c.in_ok-limited.limited.head) (length s.store.now) (sym c.long_enough.ensures ∙ c.if-not-long_enough.false) in
    rw e (counts_inside s.h s.s s.store.now (sym c.counts_ok.ensures ∙ c.if-counts_ok.true) (rw e at long))
