-- `cut_at` meets its contract. Assumes nothing.
use mathlib.Core.List.{◌++◌, List}
use Prim.Native.Nat.{ℕ, ◌*◌}
use mathlib.Core.Path.{ap, ◌∙◌}
use native.Mathlib.Omega.{arith}
use lib.IntN.{ℤ}
use Rattle.whole.specs.Half.{lower, upper}
use Rattle.system.specs.Heads.{width}
use Rattle.boxes.specs.Boxes.{direction}
use Rattle.slots.specs.Slots.{half_slot}
use Rattle.slots.proofs.Builds.{half_slot_length}
use Rattle.search.specs.Lent.{slot}
use Rattle.waiting.proofs.Slotting.{two_first, two_back}
use Rattle.waiting.proofs.store.cut_at.Goals as goal

pub returns : goal.returns
returns c =
    let s = c in
    let w = c.width-w in
    let h = s.args.h in
    let r = s.args.r in
    let a = ap (λ (i : ℕ). s.args.p * i) w.ensures in
    let e = two_first s.args.p a w.ensures s.args.store.now in
    two_back s.args.p a w.ensures s.args.store.now (half_slot h upper (direction r) (slot (width h) s.args.p s.args.store.now))
    (half_slot h lower (direction r) (slot (width h) s.args.p s.args.store.now)) c.cut.new.two
    (c.cut.ensures ∙ ap (λ (l : List ℤ). half_slot h upper (direction r) l ++ half_slot h lower (direction r) l) e)
    (half_slot_length h upper (direction r) _) (half_slot_length h lower (direction r) _) (omega (arith, s.requires.0, a, w.ensures))
