-- The half of a box: when it is refused, and that a child is bernstein's half-box and allowed again. Assumes nothing.
use Rattle.std.specs.Prelude.{Ok}
use mathlib.Core.Path.{◌≡◌, refl, sym, ap}
use mathlib.Core.Bool.{Bool, true, false, ◌&&◌, cond}
use Prim.Native.Nat.{ℕ, ◌^◌, ◌≤◌, ◌<◌}
use native.Mathlib.Nat.{lt_of_lt_of_le, pow-succ'}
use native.Mathlib.Omega.{arith}
use borrow.Author.Tests.{ltb-true}
use lib.Dec.{ltb}
use lib.Pow.{pow_mono}
use Rattle.whole.specs.Half.{Half, lower, upper}
use Rattle.bernstein.specs.Three
use Rattle.bernstein.specs.Three.{◌!◌, replace, first, second, third}
use Rattle.bernstein.specs.Numbers
use Rattle.bernstein.specs.Numbers.{Span, span, half_span, half_box}
use Rattle.boxes.specs.declared.half.Box.{Box}
use Rattle.boxes.specs.Claims.{BoxAllowed, ChildHalf}
use Rattle.system.specs.Directions.{direction_number, direction_at, between}
use Rattle.boxes.specs.Boxes.{as_box, from_box, box_ok, Allowed, refused, half_in, half_of}
use Rattle.system.proofs.Says.{Says, le_says, lt_says, and_says, each_says, says_as, and_left}

-- ---- allowed boxes
pub box_says : (b : Box) → Says (box_ok b) (Allowed (as_box b))
unfolding box_ok
box_says b =
    says_as (each_says (λ r. and_says (le_says (as_box b ! r).cuts 10) (lt_says (as_box b ! r).position (2 ^ (as_box b ! r).cuts))))
    (λ t. record { cuts_high = λ r. (t r).0; position_high = λ r. (t r).1 })
    (λ k r. (k.cuts_high r, k.position_high r))

pub box_allowed : BoxAllowed
box_allowed b = ((box_says b).fact, (box_says b).passes)

pub position_small : (c : Numbers.Box) → Allowed c → (r : Three.Direction) → (c ! r).position < 1024
position_small c k r = lt_of_lt_of_le (k.position_high r) (pow_mono (k.cuts_high r))

pub part_within : (b : Box) → box_ok b ≡ true → (r : Three.Direction) → ((as_box b ! r).cuts ≤ 10) × ((as_box b ! r).position < 1024)
part_within b t r = let k = (box_says b).fact t in (k.cuts_high r, position_small (as_box b) k r)

-- ---- which answer a half is, of a direction by its number
pub at_number : (r : Three.Direction) → direction_at (direction_number r) ≡ r
at_number first = refl
at_number second = refl
at_number third = refl

pub half_in_direction : (h : Half) (b : Box) (r : Three.Direction) → box_ok b ≡ true → half_of h b (direction_number r) ≡ half_in h b r
unfolding half_of
half_in_direction h b first p = rw p refl
half_in_direction h b second p = rw p refl
half_in_direction h b third p = rw p refl

-- ---- a child is bernstein's half of the box, and is allowed again
child_of : (t u : Bool) (x y : Box) → cond t (cond u (Ok x) refused) refused ≡ Ok y → (t ≡ true) × (u ≡ true) × (x ≡ y)
child_of true true x y e = (refl, refl, cc)
child_of true false x y e = let z : ◌≡◌ {A = ℕ} 0 1 = cc in absurd (omega arith)
child_of false u x y e = let z : ◌≡◌ {A = ℕ} 0 1 = cc in absurd (omega arith)

half_cases : (h : Half) (b c : Box) (d : ℕ) → half_of h b d ≡ Ok c
    → (box_ok b && between 1 3 d ≡ true) × (ltb (as_box b ! direction_at d).cuts 10 ≡ true) × (from_box (half_box h (direction_at d) (as_box b)) ≡ c)
unfolding half_of half_in
half_cases h b c d e =
    child_of (box_ok b && between 1 3 d) (ltb (as_box b ! direction_at d).cuts 10) (from_box (half_box h (direction_at d) (as_box b))) c e

child_is : (h : Half) (b c : Box) (d : ℕ) → half_of h b d ≡ Ok c → as_box c ≡ half_box h (direction_at d) (as_box b)
child_is h b c d e = ap as_box (sym (half_cases h b c d e).2)

-- what holds of the new span and of every old one holds of the box with it
each_replaced : (P : Span → Type 0) (r q : Three.Direction) (s : Span) (c : Numbers.Box) → P s → ((x : Three.Direction) → P (c ! x)) → P (replace r s c ! q)
each_replaced P first first s c p f = p
each_replaced P first second s c p f = f second
each_replaced P first third s c p f = f third
each_replaced P second first s c p f = f first
each_replaced P second second s c p f = p
each_replaced P second third s c p f = f third
each_replaced P third first s c p f = f first
each_replaced P third second s c p f = f second
each_replaced P third third s c p f = p

half_position : (h : Half) (i : Span) → i.position < 2 ^ i.cuts → (half_span h i).position < 2 ^ (half_span h i).cuts
half_position lower i p = rw (pow-succ' 2 i.cuts) (omega arith)
half_position upper i p = rw (pow-succ' 2 i.cuts) (omega arith)

half_cuts : (h : Half) (i : Span) → i.cuts < 10 → (half_span h i).cuts ≤ 10
half_cuts lower i p = p
half_cuts upper i p = p

pub half_allowed : (h : Half) (r : Three.Direction) (c : Numbers.Box) → Allowed c → (c ! r).cuts < 10 → Allowed (half_box h r c)
half_allowed h r c k l = record {
  cuts_high = λ q. each_replaced (λ i. i.cuts ≤ 10) r q (half_span h (c ! r)) c (half_cuts h (c ! r) l) k.cuts_high;
  position_high = λ q. each_replaced (λ i. i.position < 2 ^ i.cuts) r q (half_span h (c ! r)) c (half_position h (c ! r) (k.position_high r)) k.position_high;
}

child_allowed : (h : Half) (b c : Box) (d : ℕ) → half_of h b d ≡ Ok c → Allowed (as_box c)
child_allowed h b c d e =
    let k = half_cases h b c d e in
    rw (child_is h b c d e)
    (half_allowed h (direction_at d) (as_box b) ((box_says b).fact (and_left (box_ok b) (between 1 3 d) k.0)) (ltb-true (as_box b ! direction_at d).cuts 10 k.1))

pub child_half : ChildHalf
child_half h b c d e = (child_is h b c d e, child_allowed h b c d e)
