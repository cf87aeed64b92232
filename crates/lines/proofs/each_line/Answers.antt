-- `each_line` meets its contract: one line more at a turn. Assumes nothing.
use mathlib.Core.Path.{◌≡◌, ap, subst, subst⁻¹}
use native.Mathlib.Nat.{mul-one}
use native.Mathlib.Omega.{arith}
use Prim.Native.Nat.{ℕ, ◌+◌, ◌*◌}
use Rattle.whole.specs.Half.{lower, upper}
use Rattle.bernstein.proofs.Lines.{half_cong}
use Rattle.lines.specs.Lines.{Worked, InBlocks, Under, half_at, halves}
use Rattle.lines.specs.Inside.{Ready}
use Rattle.lines.proofs.Rooms.{block_fits, half_ready, half_worked, at_count}
use Rattle.lines.proofs.Together.{no_block, next_block, more_blocks}
use Rattle.lines.proofs.each_line.Goals as goal

pub overflow_mul-d : goal.overflow_mul-d
overflow_mul-d g c = omega (arith, block_fits {o = c.loop-o.o} c.requires (omega arith) upper)

pub overflow_add-up : goal.overflow_add-up
overflow_add-up g c = omega (arith, block_fits {o = c.loop-o.o} c.requires (omega arith) upper)

pub overflow_add-lo : goal.overflow_add-lo
overflow_add-lo g c = omega (arith, block_fits {o = c.loop-o.o} c.requires (omega arith) lower)

pub loop-o-init : goal.loop-o-init
loop-o-init g c = no_block

-- a block of one line
one_line : (o n : ℕ) → o * ((n + 1) * 1) ≡ o * (n + 1)
one_line o n = ap (λ x. o * x) (mul-one (n + 1))

pub lines-requires : goal.lines-requires
lines-requires g c =
    let d : ℕ = c.loop-o.o * (g.row.N + 1) in
    half_ready c.args.up c.args.lo d (subst (λ (x : ℕ). Ready (λ h. half_at c.args.up c.args.lo h + x) upper 1 1 g.row.N c.loop-o.s)
    (one_line c.loop-o.o g.row.N) (next_block (omega arith) c.requires c.loop-o.invariant))

pub loop-o-preserved : goal.loop-o-preserved
loop-o-preserved g c =
    let d : ℕ = c.loop-o.o * (g.row.N + 1) in
    more_blocks (omega arith) c.requires c.loop-o.invariant (λ h b e same j l. half_cong g.row.N b e same h j l)
    (subst⁻¹ (λ (x : ℕ). Worked (halves g.row.N) (λ h. half_at c.args.up c.args.lo h + x) upper (Under 1) 1 g.row.N c.loop-o.s c.lines.new.s)
    (one_line c.loop-o.o g.row.N) (half_worked c.args.up c.args.lo d c.lines.ensures))

pub returns : goal.returns
returns g c = at_count (InBlocks ((g.row.N + 1) * 1) 1) (omega arith) c.loop-o.invariant
