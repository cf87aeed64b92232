-- `slot_ok` meets its contract: spans that are allowed are few, so that their sum fits. Assumes nothing.
use mathlib.Core.Path.{sym, ◌∙◌}
use native.Mathlib.Omega.{arith}
use Rattle.waiting.proofs.Judging.{spans_few}
use Rattle.waiting.proofs.store.slot_ok.Goals as goal

pub overflow_add-cuts : goal.overflow_add-cuts
overflow_add-cuts c =
    let few = spans_few c.args.h.head c.args.slot.now c.args.h.limits (sym c.spans_ok.ensures ∙ c.if-not-spans_ok.false) in
    omega (arith, c.count.ensures, c.count-2.ensures)

pub overflow_add-cuts-2 : goal.overflow_add-cuts-2
overflow_add-cuts-2 c =
    let few = spans_few c.args.h.head c.args.slot.now c.args.h.limits (sym c.spans_ok.ensures ∙ c.if-not-spans_ok.false) in
    omega (arith, c.count.ensures, c.count-2.ensures, c.count-3.ensures)
