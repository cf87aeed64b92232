-- Work on all lines of a direction, seen from the numbers in turn: what `work` makes of every line of the blocks is what it makes of every line of every
-- polynomial's patch. One law for the cut and for the steps of the start. Assumes nothing.
use mathlib.Core.Path.{◌≡◌, sym, ◌∙◌, ap}
use mathlib.Core.List.{List}
use Prim.Native.Nat.{ℕ, zero, suc, ◌+◌, ◌*◌, ◌/◌, ◌%◌, ◌≤◌, ◌<◌}
use native.Mathlib.Omega.{arith}
use native.Mathlib.Nat as NatL
use lib.IntN.{ℤ}
use Rattle.bernstein.specs.Three.{Direction, ◌!◌, replace, Upto}
use Rattle.bernstein.specs.Numbers.{Index, line}
use Rattle.bernstein.specs.Places.{place, size, index, stride, blocks}
use Rattle.bernstein.proofs.Blocks.{block, offset, line_start, size_blocks, block_below, offset_below, line_place}
use Rattle.bernstein.proofs.Indices.{place_index, index_upto}
use Rattle.bernstein.proofs.Places.{place_below, place_steps}
use Rattle.bernstein.proofs.Nested.{upto_replace}
use Rattle.system.specs.declared.head.Head.{Head}
use Rattle.system.specs.Heads.{degrees, places, Limits}
use Rattle.system.proofs.Heads.{size_low, places_low}
use Rattle.lines.specs.Lines.{Line, along, InBlocks, Worked}
use Rattle.slots.specs.Slots.{at, polynomial, in_turn}
use Rattle.slots.proofs.Builds.{build_at, row_lt}

-- the blocks of all polynomials are all their places
pub all_blocks : (h : Head) (r : Direction) → h.m * blocks (degrees h) r * ((degrees h ! r + 1) * stride (degrees h) r) ≡ places h
unfolding places
all_blocks h r = NatL.mul_assoc h.m (blocks (degrees h) r) _ ∙ ap (λ (x : ℕ). h.m * x) (sym (size_blocks (degrees h) r))

pub blocks_low : (h : Head) → Limits h → (r : Direction) → 1 ≤ h.m * blocks (degrees h) r
blocks_low h k r = from (h.m * blocks (degrees h) r) (all_blocks h r)
  where
    from : (o : ℕ) → o * ((degrees h ! r + 1) * stride (degrees h) r) ≡ places h → 1 ≤ o
    from zero e = absurd (omega (arith, e, NatL.zero-mul ((degrees h ! r + 1) * stride (degrees h) r), places_low h k))
    from (suc o) e = omega arith

-- ---- place x of the numbers in turn: polynomial t, and the index j in it
module _ (h : Head) (x : ℕ) (below : x < places h) where
  abbrev which : ℕ
  which = x / size (degrees h)

  abbrev where_in : Index
  where_in = index (degrees h) (x % size (degrees h))

  rest_below : x % size (degrees h) < size (degrees h)
  rest_below = NatL.mod-lt x (size_low h)

  pub where_upto : Upto where_in (degrees h)
  where_upto = index_upto (degrees h) (x % size (degrees h)) rest_below

  pub which_below : which < h.m
  unfolding places
  which_below = (NatL.div-lt_iff_lt-mul (size_low h)).1 below

  pub place_in : x ≡ which * size (degrees h) + place (degrees h) where_in
  place_in = sym (NatL.div-add-mod' x (size (degrees h))) ∙ ap (λ (y : ℕ). which * size (degrees h) + y) (sym (place_index (degrees h) (x % size (degrees h))))

-- a place of polynomial t is one of all places
pub in_places : (h : Head) (t : ℕ) → t < h.m → (j : Index) → Upto j (degrees h) → t * size (degrees h) + place (degrees h) j < places h
unfolding places
in_places h t l j u = row_lt t h.m (size (degrees h)) (place (degrees h) j) l (place_below (degrees h) j u)

module _ {H : Type 0} (work : H → Line → Line) (h : Head) (r : Direction)
    (cong : (e : H) (b c : Line) → ((i : ℕ) → i ≤ degrees h ! r → b i ≡ c i) → (j : ℕ) → j ≤ degrees h ! r → work e b j ≡ work e c j)
    (base : H → ℕ) (from : H) (old new : List ℤ)
    (done : Worked work base from (InBlocks ((degrees h ! r + 1) * stride (degrees h) r) (stride (degrees h) r) (h.m * blocks (degrees h) r)) (stride (degrees h) r) (degrees h ! r) old new)
    (xs : List ℤ) (holds : (y : ℕ) → y < places h → at old (base from + y) ≡ at xs y) where
  -- the line of index j of polynomial t among the blocks
  start_of : ℕ → Index → ℕ
  start_of t j = t * size (degrees h) + line_start (degrees h) r j

  in_blocks : (t : ℕ) → t < h.m → (j : Index) → Upto j (degrees h) → InBlocks ((degrees h ! r + 1) * stride (degrees h) r) (stride (degrees h) r) (h.m * blocks (degrees h) r) (start_of t j)
  unfolding start_of
  in_blocks t l j u = record {
    block = t * blocks (degrees h) r + block (degrees h) r j;
    line = offset (degrees h) r j;
    which = row_lt t h.m (blocks (degrees h) r) (block (degrees h) r j) l (block_below (degrees h) r j u);
    inside = offset_below (degrees h) r j u;
    is = rw (size_blocks (degrees h) r) (omega (arith, NatL.mul_assoc t (blocks (degrees h) r) ((degrees h ! r + 1) * stride (degrees h) r)));
  }

  -- an entry of that line
  entry_at : (t : ℕ) → t < h.m → (j : Index) → Upto j (degrees h) → (i : ℕ) → i ≤ degrees h ! r
      → along old (base from + start_of t j) (stride (degrees h) r) i ≡ line r (polynomial h xs t) j i
  unfolding start_of
  entry_at t l j u i k =
      let e : base from + start_of t j + i * stride (degrees h) r ≡ base from + (t * size (degrees h) + place (degrees h) (replace r i j)) = omega (arith, line_place (degrees h) r j i) in
      ap (at old) e ∙ holds (t * size (degrees h) + place (degrees h) (replace r i j)) (in_places h t l (replace r i j) (upto_replace r i k u))

  pub worked_at : (e : H) (x : ℕ) → x < places h → at new (base e + x) ≡ at (in_turn h (λ t j. work e (line r (polynomial h xs t) j) (j ! r))) x
  unfolding in_turn start_of
  worked_at e x b =
      let t = x / size (degrees h) in
      let j = index (degrees h) (x % size (degrees h)) in
      let u = where_upto h x b in
      let l = which_below h x b in
      let z : base e + x ≡ base e + start_of t j + j ! r * stride (degrees h) r = omega (arith, place_in h x b, place_steps (degrees h) r j, line_place (degrees h) r j 0) in
      ap (at new) z
      ∙ done.entries e (start_of t j) (j ! r) (in_blocks t l j u) (u.upto r)
      ∙ cong e _ _ (λ i k. entry_at t l j u i k) (j ! r) (u.upto r)
      ∙ sym (build_at (places h) _ x b)
