-- `weight_at` meets its contract: the weights of the index of p, one in each direction. Assumes nothing.
use native.Mathlib.Omega.{arith}
use Rattle.bernstein.specs.Three.{first, second, third}
use Rattle.bernstein.proofs.Indices.{index_upto}
use Rattle.system.specs.Heads.{degrees}
use Rattle.slots.proofs.starts.Startable.weight_at.Goals as goal

pub overflow_add-entries2 : goal.overflow_add-entries2
overflow_add-entries2 c = omega (arith, c.args.self.now.limits.degrees_high.small second)

pub overflow_add-entries3 : goal.overflow_add-entries3
overflow_add-entries3 c = omega (arith, c.args.self.now.limits.degrees_high.small third)

pub weight_of-a-requires : goal.weight_of-a-requires
weight_of-a-requires c =
    let s = c.args.self.now in rw (c.from-entries3.ensures, c.from-entries2.ensures) (s.limits.degrees_high.small first, (index_upto (degrees s.head) c.args.p c.requires).upto first)

pub weight_of-b-requires : goal.weight_of-b-requires
weight_of-b-requires c =
    let s = c.args.self.now in rw (c.from-entries3.ensures, c.from-entries2.ensures) (s.limits.degrees_high.small second, (index_upto (degrees s.head) c.args.p c.requires).upto second)

pub weight_of-c-requires : goal.weight_of-c-requires
weight_of-c-requires c =
    let s = c.args.self.now in rw c.from-entries3.ensures (s.limits.degrees_high.small third, (index_upto (degrees s.head) c.args.p c.requires).upto third)
