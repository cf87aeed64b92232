-- `writing::write` meets its contract: where all tests pass, what is put is the file. Assumes nothing.
use mathlib.Core.Path.{ap}
use native.Mathlib.Omega.{arith}
use lib.ListN.{length}
use Rattle.writing.proofs.Answering.{all_passed, its_ready, its_records, its_length, write_fine}
use Rattle.writing.proofs.Joining.{file_parts}
use Rattle.writing.proofs.write.Goals as goal

pub put_polynomials-last-requires : goal.put_polynomials-last-requires
put_polynomials-last-requires c =
    let h = c.args.h in
    let xs = c.args.coefficients.now in
    let p = all_passed h xs c.check.ensures.is c.in_ok-check.was c.places-n.ensures (omega arith) c.all_in_range.ensures c.if-not-all_in_range.false in
    (rw (its_records p) (omega (arith, file_parts h xs, its_length p _ _ c.from.ensures c.count.ensures.0)), its_ready p)

pub put-requires-2 : goal.put-requires-2
put-requires-2 c =
    let h = c.args.h in
    let xs = c.args.coefficients.now in
    let p = all_passed h xs c.check.ensures.is c.in_ok-check.was c.places-n.ensures (omega arith) c.all_in_range.ensures c.if-not-all_in_range.false in
    let last = rw (its_records p) at c.put_polynomials-last.ensures.0 in
    omega (arith, file_parts h xs, its_length p _ _ c.from.ensures c.count.ensures.0, last, ap length c.header.ensures)

pub returns : goal.returns
returns c =
    let h = c.args.h in
    let xs = c.args.coefficients.now in
    let p = all_passed h xs c.check.ensures.is c.in_ok-check.was c.places-n.ensures (omega arith) c.all_in_range.ensures c.if-not-all_in_range.false in
    let last = c.put_polynomials-last in
    write_fine p c.args.out.now _ (its_length p _ _ c.from.ensures c.count.ensures.0) (omega arith)
    c.put.new.target last.new.target c.put-2.new.target last.result
    (rw c.head_record.ensures at c.put.ensures.1) (rw (its_records p) at last.ensures.0)
    (rw (its_records p) at last.ensures.1) (rw c.header.ensures at c.put-2.ensures.1)
