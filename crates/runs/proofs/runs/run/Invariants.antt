-- `run` meets its contract. Assumes nothing.
use Prim.Native.Nat.{◌+◌}
use lib.ListN.{length}
use Rattle.waiting.specs.Cells.{boxed}
use Rattle.waiting.specs.Runs.{went}
use Rattle.waiting.proofs.Driving.{turns_left}
use Rattle.runs.proofs.Going.{Going, start}
use Rattle.runs.proofs.runs.run.Given as goal

abbrev pub invariant-loop-c : goal.invariant-loop-c
invariant-loop-c g l =
    let i = l.initial in
    Going g.met.E.ListItem.laws l.fn.h i.list (length i.store)
    (went (boxed l.fn.h) (l.fn.budget + 1) (start g.met.E.ListItem.laws l.fn.h l.fn.s l.fn.budget i.list i.store)) l.list l.store l.c

abbrev pub decreases-loop-c : goal.decreases-loop-c
decreases-loop-c g l = turns_left l.c
