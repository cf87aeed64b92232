-- `slots_ok` meets its contract. Assumes nothing.
use mathlib.Core.Path.{refl, sym, ap, ◌∙◌}
use Prim.Native.Nat.{ℕ}
use native.Mathlib.Numerals.{add-one}
use native.Mathlib.Omega.{arith}
use Rattle.system.specs.Heads.{width}
use Rattle.waiting.specs.States.{slots_ok}
use Rattle.waiting.proofs.Slotting.{slot_in}
use Rattle.waiting.proofs.Judging.{slots_stop}
use Rattle.waiting.proofs.store.slots_ok.Goals as goal

pub loop-p-init : goal.loop-p-init
unfolding slots_ok
loop-p-init c = refl

pub slot_at-requires : goal.slot_at-requires
slot_at-requires c = let s = c in omega (arith, slot_in c.loop-p.p s.args.waiting (width s.args.h.head) (omega arith), s.requires)

pub returns-then-not-slot_ok : goal.returns-then-not-slot_ok
returns-then-not-slot_ok c =
    let s = c in
    sym (slots_stop s.args.h.head s.args.waiting c.loop-p.p s.args.store.now (omega arith) (rw c.slot_at.ensures at (sym c.slot_ok.ensures ∙ c.if-not-slot_ok.true)))

pub loop-p-preserved : goal.loop-p-preserved
unfolding slots_ok
loop-p-preserved c =
    let s = c in
    let p = c.loop-p.p in
    ap (λ (i : ℕ). slots_ok s.args.h.head i s.args.store.now) (add-one p)
    ∙ rw (c.loop-p.invariant, rw c.slot_at.ensures at (sym c.slot_ok.ensures ∙ c.if-not-slot_ok.false)) refl
