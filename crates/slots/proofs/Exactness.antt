-- The slot of a start holds exact numbers, and the halves of a slot of exact numbers hold exact numbers: the frame's laws, slot by slot. Assumes nothing.
use mathlib.Core.List.{List}
use Prim.Native.Nat.{ℕ}
use lib.IntN.{ℤ}
use Rattle.whole.specs.Half.{Half}
use Rattle.bernstein.specs.Three.{Direction}
use Rattle.bernstein.specs.Numbers.{Patch, unit, half_box}
use Rattle.bernstein.specs.Frames.{Lawful}
use Rattle.system.specs.declared.head.Head.{Head}
use Rattle.system.specs.Heads.{frame}
use Rattle.slots.specs.Slots.{box_in, polynomial, numbers, ExactSlot, half_slot, unit_slot}
use Rattle.slots.proofs.Builds.{in_turn_filled}

module _ (h : Head) (L : Lawful (frame h)) where
  pub unit_exact : (cs : List ℤ) → ExactSlot h (polynomial h cs) (unit_slot h cs)
  unfolding unit_slot
  unit_exact cs =
      let p : ℕ → Patch = λ t. (frame h).start (polynomial h cs t) in
      record { exact_slot = λ t l. L.exact_same unit (polynomial h cs t) (p t) _ (L.start_exact (polynomial h cs t)) (in_turn_filled h L p t l) }

  pub half_exact : (a : ℕ → Patch) (l : List ℤ) → ExactSlot h a l → (e : Half) (r : Direction) → ExactSlot h a (half_slot h e r l)
  unfolding half_slot
  half_exact a l x e r =
      let p : ℕ → Patch = λ t. (frame h).half e r (polynomial h (numbers l) t) in
      record {
        exact_slot = λ t m. L.exact_same (half_box e r (box_in l)) (a t) (p t) _ (L.cut_exact (box_in l) (a t) _ (x.exact_slot t m) e r)
            (in_turn_filled h L p t m);
      }
