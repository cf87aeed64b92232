-- Lists built place by place: their lengths and their numbers; the numbers of m patches in turn, polynomial by polynomial. Assumes nothing.
use mathlib.Core.Path.{◌≡◌, refl, ◌∙◌, ap, ap₂}
use mathlib.Core.List.{List}
use Prim.Native.Nat.{ℕ, zero, suc, ◌+◌, ◌*◌, ◌/◌, ◌%◌, ◌≤◌, ◌<◌}
use native.Mathlib.Omega.{arith}
use native.Mathlib.Nat as NatL
use lib.IntN.{ℤ}
use lib.ListN.{length, length-append}
use Rattle.whole.specs.Half.{Half}
use Rattle.bernstein.specs.Three.{Direction}
use Rattle.bernstein.specs.Numbers.{Patch, Index, unit, half_box}
use Rattle.bernstein.specs.Frames.{Lawful}
use Rattle.system.specs.declared.head.Head.{Head}
use Rattle.system.specs.Heads.{frame, places, width}
use Rattle.slots.specs.Slots.{at, build, in_turn, polynomial, numbers, box_numbers, box_in, half_numbers, half_slot, start_numbers, unit_slot}

pub build_length : (n : ℕ) (f : ℕ → ℤ) → length (build n f) ≡ n
unfolding build
build_length zero f = refl
build_length (suc n) f = ap suc (build_length n (λ i. f (suc i)))

pub build_at : (n : ℕ) (f : ℕ → ℤ) (i : ℕ) → i < n → at (build n f) i ≡ f i
unfolding build
build_at zero f i h = absurd (NatL.not-suc-le-zero h)
build_at (suc n) f zero h = refl
build_at (suc n) f (suc i) h = build_at n (λ j. f (suc j)) i (omega arith)

-- ---- place y of row x, in rows of s places
pub row_lt : (x m s y : ℕ) → x < m → y < s → x * s + y < m * s
row_lt x m s y h k = let a : suc x * s ≤ m * s = NatL.mul-le-mul_right s h in omega arith

row_of : (s x y : ℕ) → y < s → (x * s + y) / s ≡ x
row_of s x y h = let some : 0 < s = omega arith in NatL.mul-add-div_right some x y ∙ rw (NatL.div-eq_of_lt h) (NatL.add-zero x)

rest_of : (s x y : ℕ) → y < s → (x * s + y) % s ≡ y
rest_of s x y h = NatL.mul-add-mod_self_right x s y ∙ NatL.mod-eq_of_lt h

pub in_turn_length : (h : Head) (p : ℕ → Patch) → length (in_turn h p) ≡ places h
unfolding in_turn
in_turn_length h p = build_length (places h) _

-- polynomial t of the numbers in turn is patch t
pub in_turn_filled : (h : Head) → Lawful (frame h) → (p : ℕ → Patch) (t : ℕ) → t < h.m
    → (j : Index) → (frame h).Inside j → polynomial h (in_turn h p) t j ≡ p t j
unfolding in_turn places
in_turn_filled h L p t l j u =
    let F = frame h in
    let b : (frame h).place j < (frame h).size = L.place_below j u in
    build_at (h.m * F.size) (λ x. p (x / F.size) (F.index (x % F.size))) (t * F.size + F.place j) (row_lt t h.m F.size (F.place j) l b)
    ∙ ap₂ (λ (x y : ℕ). p x (F.index y)) (row_of F.size t (F.place j) b) (rest_of F.size t (F.place j) b)
    ∙ ap (p t) (L.index_place j u)

-- and what holds of every number holds of every number of polynomial t
pub number_of : (h : Head) → Lawful (frame h) → (xs : List ℤ) (t : ℕ) → t < h.m → (P : ℤ → Type 0) → ((i : ℕ) → i < places h → P (at xs i))
    → (j : Index) → (frame h).Inside j → P (polynomial h xs t j)
unfolding places
number_of h L xs t l P f j u = f (t * (frame h).size + (frame h).place j) (row_lt t h.m (frame h).size ((frame h).place j) l (L.place_below j u))

pub half_slot_length : (h : Head) (e : Half) (r : Direction) (l : List ℤ) → length (half_slot h e r l) ≡ width h
unfolding half_slot
half_slot_length h e r l = length-append (box_numbers (half_box e r (box_in l))) (half_numbers h e r (numbers l)) ∙ ap (λ (x : ℕ). 6 + x) (in_turn_length h _)

pub unit_slot_length : (h : Head) (cs : List ℤ) → length (unit_slot h cs) ≡ width h
unfolding unit_slot
unit_slot_length h cs = length-append (box_numbers unit) (start_numbers h cs) ∙ ap (λ (x : ℕ). 6 + x) (in_turn_length h _)
