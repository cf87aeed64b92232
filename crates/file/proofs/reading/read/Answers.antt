-- `reading::read` meets its contract: what is in order can be filled in. Assumes nothing.
use mathlib.Core.Path.{sym, ◌∙◌}
use native.Mathlib.Omega.{arith}
use Rattle.file.proofs.Answering.{in_file}
use Rattle.file.proofs.reading.read.Goals as goal

pub fill-requires : goal.fill-requires
fill-requires c = (rw c.head_at-h.ensures (in_file c.args.file.now (sym c.check.ensures.says ∙ c.in_ok-check.was)).in_order, omega arith)
