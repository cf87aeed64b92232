-- `lines` meets its contract: a stage for each entry, then the powers of two. Assumes nothing.
use native.Mathlib.Omega.{arith}
use Prim.Native.Nat.{◌≤◌}
use Rattle.whole.specs.Half.{lower}
use Rattle.lines.proofs.Rows.{row_le}
use Rattle.lines.proofs.Stages.{no_stage, block, entries_below, sums_below, foot_row, stage, raised_below, all_stages}
use Rattle.lines.proofs.lines.Goals as goal

pub sums-requires : goal.sums-requires
sums-requires g c =
    let a = c in let s = a in let t = a.loop-j.invariant in
    let m : a.loop-j.j ≤ g.row.N = omega arith in
    (block s.requires a.loop-j.j m t.size, entries_below s.requires m t, sums_below s.requires m t)

pub overflow_mul-j : goal.overflow_mul-j
overflow_mul-j g c =
    let a = c in let s = a in let m : a.loop-j.j ≤ g.row.N = omega arith in
    omega (arith, row_le s.args.inner m, s.requires.room.fits lower)

pub overflow_add-lo : goal.overflow_add-lo
overflow_add-lo g c =
    let a = c in let s = a in let m : a.loop-j.j ≤ g.row.N = omega arith in
    omega (arith, row_le s.args.inner m, s.requires.room.fits lower)

pub scale_row-requires : goal.scale_row-requires
scale_row-requires g c =
    let a = c in let s = a in let t = a.loop-j.invariant in
    let m : a.loop-j.j ≤ g.row.N = omega arith in let b = c.sums.ensures in
    (omega (arith, s.requires.degree), omega (arith, row_le s.args.inner m, s.requires.room.fits lower, t.size, b.size), foot_row s.requires m t b)

pub loop-j-preserved : goal.loop-j-preserved
loop-j-preserved g c =
    let a = c in let s = a in
    stage s.requires (omega arith) a.loop-j.invariant c.sums.ensures c.scale_row.ensures

pub raise-requires : goal.raise-requires
raise-requires g c =
    let a = c in let s = a in
    (s.requires.degree, block s.requires g.row.N (omega arith) a.loop-j.invariant.size, raised_below s.requires (omega arith) a.loop-j.invariant)

pub returns : goal.returns
returns g c =
    let a = c in let s = a in
    all_stages s.requires (omega arith) a.loop-j.invariant c.raise.ensures

pub loop-j-init : goal.loop-j-init
loop-j-init g c = no_stage
