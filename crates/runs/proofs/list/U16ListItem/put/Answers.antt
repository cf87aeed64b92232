-- `put` of numbers meets its contract. Assumes nothing.
use native.Mathlib.Numerals.{unary_clauses}
use native.Mathlib.Omega.{arith}
use Rattle.runs.proofs.Lists.{written, unwritten}
use Rattle.runs.proofs.list.U16ListItem.put.Goals as goal

pub returns-then-to-list : goal.returns-then-to-list
returns-then-to-list c =
    let s = c in
    rw (c.into.ensures, c.into-then-to-list.ensures, c.into-then-to-list-2.ensures, c.into-then-to-list-3.ensures)
    (simp unary_clauses (written s.args.list.now s.args.to s.args.kept (omega arith)))

pub returns-else-to-list : goal.returns-else-to-list
returns-else-to-list c = let s = c in unwritten s.args.list.now s.args.to s.args.kept (omega arith)
