-- `put_number` meets its contract, by recursion on the number: the last two digits go behind those of a hundredth. Assumes nothing.
use mathlib.Core.Path.{ap, sym, ◌∙◌}
use Prim.Native.Nat.{◌+◌, ◌%◌, ◌≤◌, ◌<◌}
use native.Mathlib.Omega.{arith}
use lib.ListN.{length}
use Rattle.file.specs.Bytes.{over}
use Rattle.desk.proofs.Decimals.{decimal_two, one_put, pairs_length, last_fits, last_put}
use Rattle.desk.proofs.text.+put_number.Goals as goal

pub bounds-t-at : goal.bounds-t-at
bounds-t-at t c = let a = c.args in omega (arith, (one_put a.t.now a.at a.n c.requires c.if-n-lt10.true).0)

pub returns-then-n-lt10 : goal.returns-then-n-lt10
returns-then-n-lt10 t c = let a = c.args in one_put a.t.now a.at a.n c.requires c.if-n-lt10.true

pub put_pair-requires : goal.put_pair-requires
put_pair-requires t c =
    let n = c.args.n in
    let e = ap length (decimal_two n c.if-n-lt10.false c.if-n-lt100.true) in
    (omega (arith, c.requires, e), c.if-n-lt100.true)

pub returns-then-n-lt100 : goal.returns-then-n-lt100
returns-then-n-lt100 t c =
    let a = c.args in
    let d = decimal_two a.n c.if-n-lt10.false c.if-n-lt100.true in
    let p = c.put_pair.ensures in
    (p.0 ∙ sym (ap (λ ds. a.at + length ds) d), p.1 ∙ sym (ap (over a.t.now a.at) d))

pub put_number-front-requires : goal.put_number-front-requires
put_number-front-requires t c =
    let a = c.args in
    let h : 100 ≤ a.n = c.if-n-lt100.false in
    (omega (arith, c.decreases), omega (arith, c.requires, pairs_length a.t.now a.at a.n c.requires h))

pub put_pair-requires-2 : goal.put_pair-requires-2
put_pair-requires-2 t c =
    let a = c.args in
    let p = c.put_number-front in
    (last_fits a.t.now a.at a.n c.requires c.if-n-lt100.false p.result p.new.t p.ensures.0 p.ensures.1, omega arith)

pub returns : goal.returns
returns t c =
    let a = c.args in
    let p = c.put_number-front in
    let q = c.put_pair-2 in
    let e = last_put a.t.now a.at a.n c.requires c.if-n-lt100.false p.result p.new.t p.ensures.0 p.ensures.1 q.new.t q.ensures.1 in
    (q.ensures.0 ∙ e.0, e.1)
