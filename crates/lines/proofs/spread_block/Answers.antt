-- `spread_block` meets its contract: one line more at a turn. Assumes nothing.
use native.Mathlib.Omega.{arith}
use Rattle.bernstein.proofs.Lines.{after_cong}
use Rattle.lines.specs.Lines.{Under}
use Rattle.lines.proofs.Rooms.{at_count}
use Rattle.lines.proofs.Together.{no_line, next_lines, more_lines}
use Rattle.lines.proofs.spread_block.Goals as goal

pub loop-q-init : goal.loop-q-init
loop-q-init c = no_line

pub spread-requires : goal.spread-requires
spread-requires c = next_lines 1 (omega arith) c.requires c.loop-q.invariant

pub loop-q-preserved : goal.loop-q-preserved
loop-q-preserved c =
    more_lines 1 (omega arith) c.requires c.loop-q.invariant (λ h b e same. after_cong c.args.n b e same c.args.n) c.spread.ensures

pub returns : goal.returns
returns c = at_count Under (omega arith) c.loop-q.invariant
