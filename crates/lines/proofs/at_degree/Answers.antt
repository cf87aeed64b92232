-- `at_degree` meets its contract: where the entries of a line are neighbours that of `each_line`, else that of `each_block`. Assumes nothing.
use native.Mathlib.Omega.{arith}
use Rattle.lines.proofs.Rooms.{lines_at, lines_cut_at}
use Rattle.lines.proofs.at_degree.Goals as goal

pub each_line-requires : goal.each_line-requires
each_line-requires g c = lines_at 1 (omega arith) c.requires

pub returns-then-inner-eq1 : goal.returns-then-inner-eq1
returns-then-inner-eq1 g c = lines_cut_at 1 (omega arith) c.each_line.ensures
