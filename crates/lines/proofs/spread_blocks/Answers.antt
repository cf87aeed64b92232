-- `spread_blocks` meets its contract: one block more at a turn. Assumes nothing.
use native.Mathlib.Omega.{arith}
use Prim.Native.Nat.{◌+◌, ◌*◌}
use Rattle.bernstein.proofs.Lines.{after_cong}
use Rattle.lines.specs.Lines.{InBlocks, only}
use Rattle.lines.proofs.Rooms.{block_fits, at_count}
use Rattle.lines.proofs.Together.{no_block, next_block, more_blocks}
use Rattle.lines.proofs.spread_blocks.Goals as goal

pub overflow_mul-size : goal.overflow_mul-size
overflow_mul-size c = omega (arith, block_fits c.requires c.requires.some only)

pub loop-o-init : goal.loop-o-init
loop-o-init c = no_block

pub overflow_mul-o : goal.overflow_mul-o
overflow_mul-o c = omega (arith, block_fits {o = c.loop-o.o} c.requires (omega arith) only)

pub overflow_add-first : goal.overflow_add-first
overflow_add-first c = omega (arith, block_fits {o = c.loop-o.o} c.requires (omega arith) only)

pub spread_block-requires : goal.spread_block-requires
spread_block-requires c = next_block (omega arith) c.requires c.loop-o.invariant

pub loop-o-preserved : goal.loop-o-preserved
loop-o-preserved c =
    more_blocks (omega arith) c.requires c.loop-o.invariant (λ h b e same. after_cong c.args.n b e same c.args.n) c.spread_block.ensures

pub returns : goal.returns
returns c = at_count (InBlocks ((c.args.n + 1) * c.args.inner) c.args.inner) (omega arith) c.loop-o.invariant
