-- `decided` meets its contract: polynomials 1 to p are mixed, and the side of the next one answers or goes on. Assumes nothing.
use Rattle.slots.proofs.Looking.{Deciding}
use Rattle.slots.proofs.looks.Slot.decided.Given as goal

abbrev pub invariant-loop-p : goal.invariant-loop-p
invariant-loop-p l = Deciding l.self.values.now l.size l.self.head.m l.p
