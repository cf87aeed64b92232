-- A slot of the store, lent as a part from a to a + w, is `slot`; given back it is a `put` of the lent machine, and two slots given back at once are two.
-- a, w: where slot p starts and how wide it is, as code has computed them. Assumes nothing.
use mathlib.Core.Path.{◌≡◌, refl, sym, ap, ◌∙◌}
use mathlib.Core.List.{List, ◌++◌, append_assoc}
use Prim.Native.Nat.{ℕ, suc, ◌+◌, ◌-◌, ◌*◌, ◌≤◌, ◌<◌}
use native.Mathlib.Omega.{arith}
use native.Mathlib.Nat.{mul-le-mul_right}
use native.Mathlib.Numerals.{add-one}
use lib.IntN.{ℤ, pos}
use lib.Signed.{le_z}
use mir.Syntax.{w64}
use mir.Val.{SFits, to_z, of_z}
use mir.Facts.{to_z-of_z}
use borrow.Author.Tests.{not-true, not-false}
use mathlib.Core.Bool.{Bool, true, false, not}
use borrow.Rule.Slice.PartMut.{put_mid}
use lib.ListN.{length, take, drop, length-append, length-take, length-drop}
use lib.Seq.{take_all, drop-drop, take_at, drop_at, length-take-le, take-take}
use Rattle.bernstein.specs.Three.{Direction}
use Rattle.system.specs.declared.head.Head.{Head}
use Rattle.system.specs.Heads.{depth, width}
use Rattle.slots.specs.Slots.{at, column, SpanFits, SlotFits}
use Rattle.search.specs.Lent.{put, slot}
use Rattle.waiting.specs.States.{needed}

module _ {A : Type 0} (a w : ℕ) (st x y : List A) (lx : length x ≡ w) (ly : length y ≡ w) (fits : a + w + w ≤ length st) where
  put_two : take a st ++ ((x ++ y) ++ drop (w + w) (drop a st)) ≡ put (a + w) y (put a x st)
  put_two =
      let la : length (take a st) ≡ a = length-take-le a st (omega arith) in
      let lh : length (take a st ++ x) ≡ a + w = length-append (take a st) x ∙ omega arith in
      let whole : put a x st ≡ (take a st ++ x) ++ drop (a + length x) st = sym (append_assoc (take a st) x (drop (a + length x) st)) in
      let low : take (a + w) (put a x st) ≡ take a st ++ x = ap (take (a + w)) whole ∙ take_at (take a st ++ x) (drop (a + length x) st) (a + w) lh in
      let high : drop (a + w + length y) (put a x st) ≡ drop (w + w) (drop a st)
      = sym (drop-drop (length y) (a + w) (put a x st)) ∙ ap (drop (length y)) (ap (drop (a + w)) whole ∙ drop_at (take a st ++ x) (drop (a + length x) st) (a + w) lh)
      ∙ drop-drop (length y) (a + length x) st ∙ sym (drop-drop (w + w) a st ∙ ap (λ (i : ℕ). drop i st) (let q : a + (w + w) ≡ a + length x + length y = omega arith in q)) in
      sym (rw (low, high) (append_assoc (take a st) x (y ++ drop (w + w) (drop a st)) ∙ ap (λ (r : List A). take a st ++ r) (sym (append_assoc x y (drop (w + w) (drop a st))))))

module _ {A : Type 0} {W a w : ℕ} (p : ℕ) (ea : a ≡ p * W) (ew : w ≡ W) (st : List A) where
  pub slot_is : take (a + w - a) (drop a st) ≡ slot W p st
  slot_is = let z : a + w - a ≡ W = omega arith in rw (z, ea) refl

  pub slot_long : a + w ≤ length st → length (take (a + w - a) (drop a st)) ≡ W
  slot_long h = simp (length-take, length-drop) (omega arith)

  pub slot_back : (x y : List A) → y ≡ x → length x ≡ W → put_mid a (a + w - a) st y ≡ put (p * W) x st
  slot_back x y e l = let z : a + w - a ≡ length x = omega arith in rw (e, z, ea, drop-drop (length x) (p * W) st) refl

  pub two_first : take W (take (a + w + w - a) (drop a st)) ≡ slot W p st
  two_first = take-take W (a + w + w - a) (drop a st) (omega arith) ∙ ap (λ (i : ℕ). take W (drop i st)) ea

  pub two_length : a + w + w ≤ length st → length (take (a + w + w - a) (drop a st)) ≡ W + W
  two_length h = simp (length-take, length-drop) (omega arith)

  pub two_back : (x x' y : List A) → y ≡ x ++ x' → length x ≡ W → length x' ≡ W → a + w + w ≤ length st
      → put_mid a (a + w + w - a) st y ≡ put (suc p * W) x' (put (p * W) x st)
  two_back x x' y e l l' h =
      let z : a + w + w - a ≡ W + W = omega arith in
      let n : suc p * W ≡ p * W + W = omega arith in
      rw (e, z, ea, n) (put_two (p * W) W st x x' l l' (omega arith))

-- slot p of n
pub slot_in : (p n W : ℕ) → p < n → p * W + W ≤ n * W
slot_in p n W l = omega (arith, mul-le-mul_right W (let q : suc p ≤ n = l in q))

-- ---- the spans of a slot are within ten cuts
pub within_ten : {h : Head} {l : List ℤ} → SlotFits h l → (r : Direction) → SpanFits 10 (at l (column r)) (at l (column r + 1))
within_ten f r =
    let s = f.spans r in
    record { s_low = s.s_low; s_high = omega (arith, s.s_high, f.limits.depths_high r); k_low = s.k_low; k_high = s.k_high }

-- ---- sizes as code computes them
pub needed_is : (h : Head) {d w : ℕ} → d ≡ depth h → w ≡ width h → (d + 1) * w ≡ needed h
needed_is h {d} {w} e f = rw (e, f, add-one (depth h)) refl

-- the numbers of a slot, lent as the part from 6 on
pub rest_is : (l : List ℤ) → take (length l - 6) (drop 6 l) ≡ drop 6 l
rest_is l = take_all (length l - 6) (drop 6 l) (simp length-drop (omega arith))

-- ---- what a branch on `!r` tells of the test that r is
pub passed : {r b : Bool} → r ≡ b → not r ≡ false → b ≡ true
passed {r} e t = sym e ∙ not-false r t

pub failed : {r b : Bool} → r ≡ b → not r ≡ true → b ≡ false
failed {r} e t = sym e ∙ not-true r t

-- the test `0 <= x` of a signed number, as a branch tells it
pub low_no : {x : ℤ} → SFits w64 x → not (le_z (pos 0) (to_z w64 (of_z w64 x))) ≡ true → le_z (pos 0) x ≡ false
low_no f t = failed (ap (le_z (pos 0)) (to_z-of_z f)) t

pub low_yes : {x : ℤ} → SFits w64 x → not (le_z (pos 0) (to_z w64 (of_z w64 x))) ≡ false → le_z (pos 0) x ≡ true
low_yes f t = passed (ap (le_z (pos 0)) (to_z-of_z f)) t
