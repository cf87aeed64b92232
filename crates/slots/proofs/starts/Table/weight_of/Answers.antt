-- `weight_of` meets its contract: the table has the weights. Assumes nothing.
use Rattle.slots.proofs.Weighing.{weight_high}
use Rattle.slots.proofs.starts.Table.weight_of.Goals as goal

pub returns : goal.returns
returns c =
    let s = c.args in let e = s.self.now.weighs.weighs s.n s.i c.requires.0 c.requires.1 in
    rw c.from.ensures (e, rw e (weight_high s.n s.i c.requires.0 c.requires.1))
