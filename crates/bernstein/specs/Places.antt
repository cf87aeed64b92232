-- Flat places (01, "The system"): term (i1, i2, i3) has place (i1 (n2 + 1) + i2) (n3 + 1) + i3 of S places; a patch in a store of numbers. Definitions only.
use Rattle.std.specs.Prelude.{List, ℕ, ◌+◌, ◌*◌, ◌/◌, ◌%◌, ℤ, pos, get_or}
use Rattle.bernstein.specs.Three.{Direction, first, second, third, three}
use Rattle.bernstein.specs.Numbers.{Degrees, Index, Patch}

unfoldable pub place : Degrees → Index → ℕ
place n j = (j.x₁ * (n.x₂ + 1) + j.x₂) * (n.x₃ + 1) + j.x₃

-- S
unfoldable pub size : Degrees → ℕ
size n = (n.x₁ + 1) * (n.x₂ + 1) * (n.x₃ + 1)

-- the index that has place p
abbrev pub index : Degrees → ℕ → Index
index n p = three (p / (n.x₃ + 1) / (n.x₂ + 1)) (p / (n.x₃ + 1) % (n.x₂ + 1)) (p % (n.x₃ + 1))

-- how far apart neighbours in a direction stand
abbrev pub stride : Degrees → Direction → ℕ
stride n first = (n.x₂ + 1) * (n.x₃ + 1)
stride n second = n.x₃ + 1
stride n third = 1

-- the lines of a direction lie in that many blocks, side by side
abbrev pub blocks : Degrees → Direction → ℕ
blocks n first = 1
blocks n second = n.x₁ + 1
blocks n third = (n.x₁ + 1) * (n.x₂ + 1)

-- the patch that stands in the store l from place base on
abbrev pub patch : Degrees → List ℤ → ℕ → Patch
patch n l base j = get_or l (base + place n j) (pos 0)
