-- `spread` meets its contract: the steps along all lines of the blocks. Assumes nothing.
use Rattle.boxes.specs.Boxes.{direction}
use Rattle.slots.proofs.Spreading.{spread_ready, spread_made}
use Rattle.slots.proofs.starts.Startable.spread.Goals as goal

pub spread_blocks-requires : goal.spread_blocks-requires
spread_blocks-requires c =
    let s = c.args.self.now in let e = c.along-along.ensures in
    spread_ready s.head (direction c.args.r) e.blocks e.stride e.degree s.limits c.requires.0 c.requires.1

pub returns : goal.returns
returns c = let e = c.along-along.ensures in spread_made c.args.self.now.head (direction c.args.r) e.blocks e.stride e.degree c.requires.0 c.spread_blocks.ensures
