-- Flat places: each below S, none twice, a stride apart along a direction; and what a store has to hold so that exact numbers stay exact at the start and at a cut.
-- Assumes nothing.
use mathlib.Core.Path.{◌≡◌, sym, ◌∙◌, ap}
use mathlib.Core.List.{List}
use Prim.Native.Nat.{ℕ, ◌+◌, ◌*◌, suc, ◌≤◌, ◌<◌}
use native.Mathlib.Omega.{arith}
use native.Mathlib.Nat as NatL
use lib.IntN.{ℤ, pos}
use lib.ListN.{get_or}
use Rattle.whole.specs.Half.{Half}
use Rattle.bernstein.specs.Three.{Direction, first, second, third, ◌!◌, replace, Upto}
use Rattle.bernstein.specs.Numbers.{Degrees, Index, Patch, Box, Exact, line, half_patch}
use Rattle.bernstein.specs.Places.{place, size, index, patch}
use Rattle.bernstein.specs.Claims.{PlaceBelow, PlaceOnce, PlaceSteps}
use Rattle.bernstein.proofs.Indices.{index_place}
use Rattle.bernstein.proofs.Lines.{half_cong}
use Rattle.bernstein.proofs.Nested.{upto_replace}

-- ---- a row of d + 1 places
pub row_below : (c d i j : ℕ) → i < c → j ≤ d → i * (d + 1) + j < c * (d + 1)
row_below c d i j h l = let a : suc i * (d + 1) ≤ c * (d + 1) = NatL.mul-le-mul_right (d + 1) h in omega arith

pub place_below : PlaceBelow
unfolding place size
place_below n j u =
    row_below _ n.x₃ _ j.x₃
    (row_below _ n.x₂ j.x₁ j.x₂ (omega (arith, u.upto first)) (u.upto second)) (u.upto third)

pub place_once : PlaceOnce
place_once n i j u v e = sym (index_place n i u) ∙ ap (index n) e ∙ index_place n j v

pub place_steps : PlaceSteps
unfolding place
place_steps n first j = omega arith
place_steps n second j = omega arith
place_steps n third j = omega arith

-- ---- only the numbers up to the degrees count
pub exact_same : {n : Degrees} {b : Box} {a p q : Patch} → Exact n b a p → ((j : Index) → Upto j n → q j ≡ p j) → Exact n b a q
exact_same e h = record { exact = λ j u. h j u ∙ e.exact j u }

pub half_same : (h : Half) {n : Degrees} (r : Direction) {p q : Patch} → ((j : Index) → Upto j n → p j ≡ q j) → (j : Index) → Upto j n → half_patch h n r p j ≡ half_patch h n r q j
half_same h {n} r {p} {q} e j u = half_cong (n ! r) (line r p j) (line r q j) (λ i l. e (replace r i j) (upto_replace r i l u)) h (j ! r) (u.upto r)

-- a fact of all numbers of a part of the store is one of all numbers of the patch there
pub patch_all : (P : ℤ → Type 0) (n : Degrees) (l : List ℤ) (base : ℕ) → ((x : ℕ) → x < size n → P (get_or l (base + x) (pos 0))) → (j : Index) → Upto j n → P (patch n l base j)
patch_all P n l base h j u = h (place n j) (place_below n j u)
