-- The store before the lines of a box are cut: the box of the slot by value, its six numbers written, and where both halves' boxes and the numbers stand then.
-- Assumes nothing.
use mathlib.Core.Path.{◌≡◌, refl, sym, ◌∙◌, ap, ap₂, subst}
use mathlib.Core.List.{List, [], ◌∷◌, ◌++◌}
use Prim.Native.Nat.{ℕ, ◌+◌, ◌-◌, ◌≤◌, ◌<◌}
use native.Mathlib.Omega.{arith}
use native.Mathlib.Nat as NatL
use lib.Pow.{pow_mono}
use lib.IntN.{ℤ, pos, nat_abs}
use lib.ListN.{length, set, take, drop, length-append, length-take, length-drop, get_or-append}
use lib.Seq.{get_or-take, get_or-drop, get_or-append-add, length-take-le}
use Rattle.whole.specs.Half.{Half, lower, upper}
use Rattle.bernstein.specs.Three.{Direction, first, second, third, ◌!◌}
use Rattle.bernstein.specs.Numbers
use Rattle.bernstein.specs.Numbers.{half_box}
use borrow.Rule.Slice.PartMut.{put_mid}
use Rattle.system.specs.declared.head.Head.{Head}
use Rattle.boxes.specs.declared.half.Box.{Box}
use Rattle.boxes.specs.Boxes.{as_box, from_box}
use Rattle.system.specs.Heads.{depths, places, width}
use Rattle.slots.specs.Slots.{at, column, span_in, box_in, box_numbers, numbers, SpanFits, SlotFits}

-- ---- the six numbers of a box
pub put_six : (l : List ℤ) → 6 ≤ length l → {a b c d e f a' b' c' d' e' f' : ℤ} → a ≡ a' → b ≡ b' → c ≡ c' → d ≡ d' → e ≡ e' → f ≡ f'
    → set (set (set (set (set (set l 0 a) 1 b) 2 c) 3 d) 4 e) 5 f ≡ a' ∷ b' ∷ c' ∷ d' ∷ e' ∷ f' ∷ drop 6 l
put_six [] h p q r s t u = absurd (omega arith)
put_six (_ ∷ []) h p q r s t u = absurd (omega arith)
put_six (_ ∷ _ ∷ []) h p q r s t u = absurd (omega arith)
put_six (_ ∷ _ ∷ _ ∷ []) h p q r s t u = absurd (omega arith)
put_six (_ ∷ _ ∷ _ ∷ _ ∷ []) h p q r s t u = absurd (omega arith)
put_six (_ ∷ _ ∷ _ ∷ _ ∷ _ ∷ []) h p q r s t u = absurd (omega arith)
put_six (_ ∷ _ ∷ _ ∷ _ ∷ _ ∷ _ ∷ l) h p q r s t u = cc (p, q, r, s, t, u)

pub position_high : {s k : ℤ} → SpanFits 10 s k → nat_abs k < 1024
position_high f = NatL.lt_of_lt_of_le f.k_high (pow_mono f.s_high)

-- ---- the box of the slot at the front
column_low : (q : Direction) → column q + 1 < 6
column_low first = omega arith
column_low second = omega arith
column_low third = omega arith

pub box_at : (l : List ℤ) (q : Direction) → box_in l ! q ≡ span_in q l
box_at l first = refl
box_at l second = refl
box_at l third = refl

module _ (h : Head) (two : List ℤ) (f : SlotFits h (take (width h) two)) where
  front_at : (i : ℕ) → i < 6 → at (take (width h) two) i ≡ at two i
  front_at i b = get_or-take (width h) two i (pos 0) (omega arith)

  pub front_spans : (q : Direction) → SpanFits 10 (at two (column q)) (at two (column q + 1))
  front_spans q =
      let s = f.spans q in
      let a : SpanFits 10 (at (take (width h) two) (column q)) (at (take (width h) two) (column q + 1)) = record {
        s_low = s.s_low;
        s_high = NatL.le_trans s.s_high (f.limits.depths_high q);
        k_low = s.k_low;
        k_high = s.k_high;
      } in
      let c = column_low q in
      subst (λ (z : ℤ). SpanFits 10 z (at two (column q + 1))) (front_at (column q) (omega arith))
      (subst (λ (z : ℤ). SpanFits 10 (at (take (width h) two) (column q)) z) (front_at (column q + 1) c) a)

  pub front_box : box_in (take (width h) two) ≡ box_in two
  front_box = rw (front_at 0 (omega arith), front_at 1 (omega arith), front_at 2 (omega arith), front_at 3 (omega arith), front_at 4 (omega arith), front_at 5 (omega arith)) refl

  -- a direction below its depth can be cut once more
  pub front_cuts : (q : Direction) → (box_in (take (width h) two) ! q).cuts < depths h ! q → ((box_in (take (width h) two) ! q).cuts < 10) × ((box_in (take (width h) two) ! q).position < 1024)
  front_cuts q l = (NatL.lt_of_lt_of_le l (f.limits.depths_high q), rw (box_at (take (width h) two) q) (rw (front_at (column q + 1) (column_low q)) (position_high (front_spans q))))

-- ---- the store before the cut of its lines: the six numbers of the upper half, the numbers of the box, and the six numbers of the lower half in the slot after it
pub record Laid (h : Head) (r : Direction) (l store : List ℤ) : Type 0 where
  pub long : length store ≡ width h + width h
  pub front : (i : ℕ) → i < 6 → at store i ≡ at (box_numbers (half_box upper r (box_in l))) i
  pub inside : (y : ℕ) → y < places h → at store (6 + y) ≡ at (numbers l) y
  pub back : (i : ℕ) → i < 6 → at store (width h + i) ≡ at (box_numbers (half_box lower r (box_in l))) i

-- the store as the code lays it: the part from w on came back as last
module _ (h : Head) (r : Direction) (two : List ℤ) (long : length two ≡ width h + width h) {last store : List ℤ} {up lo : Numbers.Box}
    (upper_is : up ≡ half_box upper r (box_in (take (width h) two))) (lower_is : lo ≡ half_box lower r (box_in (take (width h) two)))
    (last-is : last ≡ box_numbers lo ++ numbers (take (length two - width h) (drop (width h) two)))
    (store_is : store ≡ box_numbers up ++ numbers (put_mid (width h) (length two - width h) two last)) where
  abbrev one : List ℤ
  one = put_mid (width h) (length two - width h) two last

  abbrev rest : List ℤ
  rest = numbers (take (length two - width h) (drop (width h) two)) ++ drop (length two - width h) (drop (width h) two)

  one_is : one ≡ take (width h) two ++ (box_numbers lo ++ rest)
  one_is = ap (λ (x : List ℤ). take (width h) two ++ (x ++ drop (length two - width h) (drop (width h) two))) last-is

  front_length : length (take (width h) two) ≡ width h
  front_length = length-take-le (width h) two (omega arith)

  one_length : length one ≡ width h + width h
  one_length = ap length one_is ∙ length-append (take (width h) two) (box_numbers lo ++ rest) ∙ ap₂ ◌+◌ front_length (length-append (box_numbers lo) rest ∙ six_more)
    where
      six_more : 6 + length rest ≡ width h
      six_more = simp (length-append, length-drop, length-take) (omega arith)

  behind : (y : ℕ) → at store (6 + y) ≡ at one (6 + y)
  behind y = ap (λ (x : List ℤ). at x (6 + y)) store_is ∙ get_or-append-add (box_numbers up) (drop 6 one) y (pos 0) ∙ get_or-drop 6 one y (pos 0)

  pub laid : Laid h r (take (width h) two) store
  laid = record {
    long = ap length store_is ∙ length-append (box_numbers up) (drop 6 one) ∙ store_length;
    front = λ i b. ap (λ (x : List ℤ). at x i) store_is ∙ get_or-append (box_numbers up) (drop 6 one) (pos 0) i b ∙ ap (λ (x : Numbers.Box). at (box_numbers x) i) upper_is;
    inside = λ y b.
        behind y ∙ ap (λ (x : List ℤ). at x (6 + y)) one_is ∙ get_or-append (take (width h) two) (box_numbers lo ++ rest) (pos 0) (6 + y) (omega (arith, front_length))
        ∙ sym (get_or-drop 6 (take (width h) two) y (pos 0));
    back = λ i b.
        let z : width h + i ≡ 6 + (places h + i) = omega arith in
        let y : 6 + (places h + i) ≡ length (take (width h) two) + i = omega (arith, front_length) in
        ap (at store) z ∙ behind (places h + i) ∙ ap₂ at one_is y ∙ get_or-append-add (take (width h) two) (box_numbers lo ++ rest) i (pos 0)
        ∙ get_or-append (box_numbers lo) rest (pos 0) i b ∙ ap (λ (x : Numbers.Box). at (box_numbers x) i) lower_is;
  }
    where
      store_length : 6 + length (drop 6 one) ≡ width h + width h
      store_length = simp length-drop (omega (arith, one_length))

-- a half by value
pub half_value : (e : Half) (r : Direction) {b c : Box} {a : Numbers.Box} → c ≡ from_box (half_box e r (as_box b)) → b ≡ from_box a → as_box c ≡ half_box e r a
half_value e r p q = ap as_box p ∙ ap (λ (x : Box). half_box e r (as_box x)) q
