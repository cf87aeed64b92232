-- The lines of a direction among the flat places, whatever the direction: blocks side by side, each of n + 1 rows of stride neighbouring places; a line takes one place
-- of each row. So the halves of a patch in a store are those of its lines. Assumes nothing.
use mathlib.Core.Path.{◌≡◌, ap, fun_ext}
use mathlib.Core.List.{List}
use Prim.Native.Nat.{ℕ, ◌+◌, ◌*◌, ◌<◌}
use native.Mathlib.Omega.{arith}
use lib.IntN.{ℤ, pos}
use lib.ListN.{get_or}
use Rattle.whole.specs.Half.{Half}
use Rattle.bernstein.specs.Three.{Direction, first, second, third, ◌!◌, replace, Upto}
use Rattle.bernstein.specs.Numbers.{Degrees, Index, half_line, half_patch}
use Rattle.bernstein.specs.Places.{place, size, stride, patch, blocks}
use Rattle.bernstein.proofs.Places.{row_below}

-- in which block an index lies, and in which of its lines
abbrev pub block : Degrees → Direction → Index → ℕ
block n first j = 0
block n second j = j.x₁
block n third j = j.x₁ * (n.x₂ + 1) + j.x₂

abbrev pub offset : Degrees → Direction → Index → ℕ
offset n first j = j.x₂ * (n.x₃ + 1) + j.x₃
offset n second j = j.x₃
offset n third j = 0

-- where the line of j begins
abbrev pub line_start : Degrees → Direction → Index → ℕ
line_start n r j = block n r j * ((n ! r + 1) * stride n r) + offset n r j

pub size_blocks : (n : Degrees) (r : Direction) → size n ≡ blocks n r * ((n ! r + 1) * stride n r)
unfolding size
size_blocks n first = omega arith
size_blocks n second = omega arith
size_blocks n third = omega arith

pub block_below : (n : Degrees) (r : Direction) (j : Index) → Upto j n → block n r j < blocks n r
block_below n first j u = omega arith
block_below n second j u = omega (arith, u.upto first)
block_below n third j u = row_below _ _ j.x₁ j.x₂ (omega (arith, u.upto first)) (u.upto second)

pub offset_below : (n : Degrees) (r : Direction) (j : Index) → Upto j n → offset n r j < stride n r
offset_below n first j u = row_below _ _ j.x₂ j.x₃ (omega (arith, u.upto second)) (u.upto third)
offset_below n second j u = omega (arith, u.upto third)
offset_below n third j u = omega arith

pub line_place : (n : Degrees) (r : Direction) (j : Index) (i : ℕ) → place n (replace r i j) ≡ line_start n r j + i * stride n r
unfolding place
line_place n first j i = omega arith
line_place n second j i = omega arith
line_place n third j i = omega arith

pub patch_half : (h : Half) (n : Degrees) (r : Direction) (l : List ℤ) (base : ℕ) (j : Index)
    → half_patch h n r (patch n l base) j ≡ half_line h (n ! r) (λ i. get_or l (base + (line_start n r j + i * stride n r)) (pos 0)) (j ! r)
patch_half h n r l base j = ap (λ b. half_line h (n ! r) b (j ! r)) (fun_ext λ i. ap (λ (x : ℕ). get_or l (base + x) (pos 0)) (line_place n r j i))
