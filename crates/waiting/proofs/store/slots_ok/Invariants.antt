-- `slots_ok` meets its contract. Assumes nothing.
use mathlib.Core.Bool.{true}
use mathlib.Core.Path.{◌≡◌}
use Rattle.waiting.specs.States.{slots_ok}
use Rattle.waiting.proofs.store.slots_ok.Given as goal

abbrev pub invariant-loop-p : goal.invariant-loop-p
invariant-loop-p l = slots_ok l.h.head l.p l.store ≡ true
