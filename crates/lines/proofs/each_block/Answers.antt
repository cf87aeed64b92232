-- `each_block` meets its contract: one block more at a turn. Assumes nothing.
use native.Mathlib.Omega.{arith}
use Prim.Native.Nat.{◌+◌, ◌*◌}
use Rattle.whole.specs.Half.{lower, upper}
use Rattle.bernstein.proofs.Lines.{half_cong}
use Rattle.lines.specs.Lines.{InBlocks}
use Rattle.lines.proofs.Rooms.{block_fits, half_ready, half_worked, at_count}
use Rattle.lines.proofs.Together.{no_block, next_block, more_blocks}
use Rattle.lines.proofs.each_block.Goals as goal

pub overflow_mul-size : goal.overflow_mul-size
overflow_mul-size g c = omega (arith, block_fits c.requires c.requires.some upper)

pub overflow_mul-d : goal.overflow_mul-d
overflow_mul-d g c = omega (arith, block_fits {o = c.loop-o.o} c.requires (omega arith) upper)

pub overflow_add-up : goal.overflow_add-up
overflow_add-up g c = omega (arith, block_fits {o = c.loop-o.o} c.requires (omega arith) upper)

pub overflow_add-lo : goal.overflow_add-lo
overflow_add-lo g c = omega (arith, block_fits {o = c.loop-o.o} c.requires (omega arith) lower)

pub loop-o-init : goal.loop-o-init
loop-o-init g c = no_block

pub wide-requires : goal.wide-requires
wide-requires g c =
    half_ready c.args.up c.args.lo (c.loop-o.o * ((g.row.N + 1) * c.args.inner)) (next_block (omega arith) c.requires c.loop-o.invariant)

pub loop-o-preserved : goal.loop-o-preserved
loop-o-preserved g c =
    more_blocks (omega arith) c.requires c.loop-o.invariant (λ h b e same j l. half_cong g.row.N b e same h j l)
    (half_worked c.args.up c.args.lo (c.loop-o.o * ((g.row.N + 1) * c.args.inner)) c.wide.ensures)

pub returns : goal.returns
returns g c = at_count (InBlocks ((g.row.N + 1) * c.args.inner) c.args.inner) (omega arith) c.loop-o.invariant
