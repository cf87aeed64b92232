-- `weigh` meets its contract: one weighted coefficient more at each turn. Assumes nothing.
use Rattle.slots.proofs.Weighing.{Weighing}
use Rattle.slots.proofs.starts.Startable.weigh.Given as goal

abbrev pub invariant-loop-x : goal.invariant-loop-x
invariant-loop-x l = Weighing l.self.head l.self.coefficients.now l.initial.slot l.slot l.x
