-- `put_answer` meets its contract: the first line, and a line for each kept box. Assumes nothing.
use Prim.Native.Nat.{◌/◌}
use native.Mathlib.Omega.{arith}
use lib.ListN.{length, take, length-append}
use Rattle.runs.specs.Lists.{listed}
use Rattle.desk.specs.Lines.{stop_line, kept_lines}
use Rattle.desk.proofs.Putting.{puts_then}
use Rattle.desk.proofs.Sizes.{lines_short}
use Rattle.desk.proofs.printing.put_answer.Goals as goal

pub put_records-requires : goal.put_records-requires
put_records-requires c =
    let s = c.in-Ok.s in
    let xs = c.args.list.now in
    let room = rw c.in-Ok.is at c.requires in
    let short = lines_short s.state.kept (length xs / 7) xs (λ i. omega (arith, c.type_inv.list i)) in
    omega (arith, c.put_stop.ensures.short, c.put_stop.ensures.put.at, c.put_stop.ensures.put.long)

pub returns-in-Ok : goal.returns-in-Ok
returns-in-Ok c =
    let s = c.in-Ok.s in
    let n = s.state in
    let xs = c.args.list.now in
    let first = stop_line s.word n.visits n.dropped n.kept n.waiting in
    let lines = kept_lines (take n.kept (listed xs)) in
    let room = rw c.in-Ok.is at c.requires in
    let short = lines_short s.state.kept (length xs / 7) xs (λ i. omega (arith, c.type_inv.list i)) in
    rw c.in-Ok.is
    (puts_then first lines (omega (arith, length-append first lines, c.put_stop.ensures.short)) c.put_stop.ensures.put (λ _. c.put_records.ensures))
