-- `wide` meets its contract: two lines more at a turn, and at the end one more if the count is odd. Assumes nothing.
use mathlib.Core.Path.{◌≡◌}
use native.Mathlib.Omega.{arith}
use Prim.Native.Nat.{◌+◌, ◌*◌, ◌-◌}
use Rattle.whole.specs.Half.{lower, upper}
use Rattle.bernstein.proofs.Lines.{half_cong}
use Rattle.lines.specs.Lines.{Under}
use Rattle.lines.proofs.Rooms.{half_ready, half_worked, at_count}
use Rattle.lines.proofs.Together.{no_line, next_lines, more_lines}
use Rattle.lines.proofs.wide.Goals as goal

pub loop-pair-init : goal.loop-pair-init
loop-pair-init g c = no_line

pub lines-requires : goal.lines-requires
lines-requires g c = half_ready c.args.up c.args.lo (2 * c.loop-pair.pair) (next_lines 2 (omega arith) c.requires c.loop-pair.invariant)

pub loop-pair-preserved : goal.loop-pair-preserved
loop-pair-preserved g c =
    at_count Under (let e : 2 * c.loop-pair.pair + 2 ≡ 2 * (c.loop-pair.pair + 1) = omega arith in e)
    (more_lines 2 (omega arith) c.requires c.loop-pair.invariant (λ h b e same j l. half_cong g.row.N b e same h j l)
    (half_worked c.args.up c.args.lo (2 * c.loop-pair.pair) c.lines.ensures))

pub overflow_add-up : goal.overflow_add-up
overflow_add-up g c = omega (arith, c.requires.room.fits upper)

pub overflow_add-lo : goal.overflow_add-lo
overflow_add-lo g c = omega (arith, c.requires.room.fits lower)

pub overflow_add-up-then-inner-eq1 : goal.overflow_add-up-then-inner-eq1
overflow_add-up-then-inner-eq1 g c = omega (arith, c.requires.room.fits upper)

pub overflow_add-lo-then-inner-eq1 : goal.overflow_add-lo-then-inner-eq1
overflow_add-lo-then-inner-eq1 g c = omega (arith, c.requires.room.fits lower)

pub lines-requires-then-inner-eq1 : goal.lines-requires-then-inner-eq1
lines-requires-then-inner-eq1 g c =
    half_ready c.args.up c.args.lo (c.args.inner - 1)
    (next_lines 1 (omega arith) c.requires (at_count Under (let e : 2 * c.loop-pair.pair ≡ c.args.inner - 1 = omega arith in e) c.loop-pair.invariant))

pub returns-then-inner-eq1 : goal.returns-then-inner-eq1
returns-then-inner-eq1 g c =
    at_count Under (let e : c.args.inner - 1 + 1 ≡ c.args.inner = omega arith in e)
    (more_lines 1 (omega arith) c.requires (at_count Under (let e : 2 * c.loop-pair.pair ≡ c.args.inner - 1 = omega arith in e) c.loop-pair.invariant)
    (λ h b e same j l. half_cong g.row.N b e same h j l) (half_worked c.args.up c.args.lo (c.args.inner - 1) c.lines-then-inner-eq1.ensures))

pub returns-else-inner-eq1 : goal.returns-else-inner-eq1
returns-else-inner-eq1 g c = at_count Under (omega arith) c.loop-pair.invariant
