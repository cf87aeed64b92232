-- A slot of the waiting store as a list (01, "Runs"): s1,k1,s2,k2,s3,k3, then the polynomials' numbers in turn; its box, its halves, and the slot of a start.
-- Definitions only.
use Rattle.std.specs.Prelude.{◌≡◌, List, [], ◌∷◌, ◌++◌, ℕ, zero, suc, ◌+◌, ◌*◌, ◌/◌, ◌%◌, ◌^◌, ◌≤◌, ◌<◌, ℤ, pos, nat_abs, length, get_or, drop, ◌≤ℤ◌}
use Rattle.whole.specs.Half.{Half}
use Rattle.bernstein.specs.Three.{Direction, first, second, third, three, ◌!◌}
use Rattle.bernstein.specs.Numbers.{Patch, Span, span, Box, unit, half_box}
use Rattle.system.specs.declared.head.Head.{Head}
use Rattle.system.specs.Heads.{depths, frame, places, width, Limits}

-- number i of a list
abbrev pub at : List ℤ → ℕ → ℤ
at l i = get_or l i (pos 0)

-- ---- the box of a slot
-- where the s of direction r stands; its k stands next to it
abbrev pub column : Direction → ℕ
column first = 0
column second = 2
column third = 4

abbrev pub span_in : Direction → List ℤ → Span
span_in r l = span (nat_abs (at l (column r))) (nat_abs (at l (column r + 1)))

abbrev pub box_in : List ℤ → Box
box_in l = three (span_in first l) (span_in second l) (span_in third l)

-- the six numbers of a box
abbrev pub box_numbers : Box → List ℤ
box_numbers b =
    pos b.x₁.cuts ∷ pos b.x₁.position ∷ pos b.x₂.cuts ∷ pos b.x₂.position ∷ pos b.x₃.cuts ∷ pos b.x₃.position ∷ []

-- ---- the numbers of a slot
abbrev pub numbers : List ℤ → List ℤ
numbers l = drop 6 l

-- f 0, .., f (n - 1)
unfoldable pub build : ℕ → (ℕ → ℤ) → List ℤ
build zero f = []
build (suc n) f = f 0 ∷ build n (λ i. f (suc i))

-- the patch of polynomial t, counted from 0, in numbers that stand in turn
abbrev pub polynomial : Head → List ℤ → ℕ → Patch
polynomial h xs t j = at xs (t * (frame h).size + (frame h).place j)

-- the numbers of m patches in turn
unfoldable pub in_turn : Head → (ℕ → Patch) → List ℤ
in_turn h p = build (places h) (λ x. p (x / (frame h).size) ((frame h).index (x % (frame h).size)))

-- every stored number is exact: polynomial t, with the coefficients a t, on the box of the slot
pub record ExactSlot (h : Head) (a : ℕ → Patch) (l : List ℤ) : Type 0 where
  pub exact_slot : (t : ℕ) → t < h.m → (frame h).Exact (box_in l) (a t) (polynomial h (numbers l) t)

-- ---- the halves of a slot in direction r: those of its box, and those of every polynomial's patch
abbrev pub half_numbers : Head → Half → Direction → List ℤ → List ℤ
half_numbers h e r xs = in_turn h (λ t. (frame h).half e r (polynomial h xs t))

unfoldable pub half_slot : Head → Half → Direction → List ℤ → List ℤ
half_slot h e r l = box_numbers (half_box e r (box_in l)) ++ half_numbers h e r (numbers l)

-- ---- the start: the unit box, and formula (2) times the scale of every polynomial
abbrev pub start_numbers : Head → List ℤ → List ℤ
start_numbers h cs = in_turn h (λ t. (frame h).start (polynomial h cs t))

unfoldable pub unit_slot : Head → List ℤ → List ℤ
unit_slot h cs = box_numbers unit ++ start_numbers h cs

-- ---- what a call that looks at a slot, or cuts it, is given: a state that was checked has only such slots
pub record SpanFits (g : ℕ) (s k : ℤ) : Type 0 where
  pub s_low : pos 0 ≤ℤ s
  pub s_high : nat_abs s ≤ g
  pub k_low : pos 0 ≤ℤ k
  pub k_high : nat_abs k < 2 ^ nat_abs s

pub record SlotFits (h : Head) (l : List ℤ) : Type 0 where
  pub limits : Limits h
  pub long : length l ≡ width h
  pub spans : (r : Direction) → SpanFits (depths h ! r) (at l (column r)) (at l (column r + 1))
