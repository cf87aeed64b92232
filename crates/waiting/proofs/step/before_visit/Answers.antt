-- `before_visit` meets its contract. Assumes nothing.
use Prim.Native.Nat.{◌≤◌}
use mathlib.Core.Path.{refl}
use native.Mathlib.Omega.{arith}
use borrow.Author.Tests.{eq-eqb, ne_eqb}
use Rattle.waiting.specs.Steps.{due}
use Rattle.waiting.proofs.Turning.{top_inside, top_fits}
use Rattle.waiting.proofs.step.before_visit.Goals as goal

pub returns-then-s-eq0 : goal.returns-then-s-eq0
unfolding due
returns-then-s-eq0 c = rw (eq-eqb _ 0 c.if-s-eq0.true) refl

pub returns-then-c-eq0 : goal.returns-then-c-eq0
unfolding due
returns-then-c-eq0 c = rw (ne_eqb _ 0 c.if-s-eq0.false, eq-eqb _ 0 c.if-c-eq0.true) refl

pub look_at-requires : goal.look_at-requires
look_at-requires c =
    let s = c in
    let l : 1 ≤ s.args.c.state.waiting = omega (arith, c.if-s-eq0.false) in
    (top_inside s.args.h s.args.store.now s.args.c s.requires l, top_fits s.args.h s.args.store.now s.args.c s.requires l)

pub returns : goal.returns
unfolding due
returns c =
    let b = c in
    rw (ne_eqb _ 0 b.if-s-eq0.false, ne_eqb _ 0 b.if-c-eq0.false, ← c.look_at.ensures) c.for_room.ensures
