-- Products of bytes, as the code of a head makes them. Assumes nothing.
use Prim.Native.Nat.{ℕ, ◌+◌, ◌*◌, ◌≤◌}
use native.Mathlib.Nat.{mul-le-mul}
use native.Mathlib.Omega.{arith}
use Rattle.bernstein.specs.Numbers.{Degrees}
use Rattle.bernstein.specs.Places.{size}

-- a product, its bounds multiplied out
pub product_high : (a b A B : ℕ) → a ≤ A → b ≤ B → a * b ≤ A * B
product_high a b A B p q = mul-le-mul p q

-- a digit more, to the base 256
pub packed_high : (a b d A : ℕ) → a ≤ A → b ≤ 256 → d ≤ 255 → a * b + d ≤ A * 256 + 255
packed_high a b d A p q r = let h = product_high a b A 256 p q in omega arith

pub size_of_bytes : (n : Degrees) → n.x₁ ≤ 255 → n.x₂ ≤ 255 → n.x₃ ≤ 255 → size n ≤ 16777216
unfolding size
size_of_bytes n p q r =
    product_high ((n.x₁ + 1) * (n.x₂ + 1)) (n.x₃ + 1) 65536 256 (product_high (n.x₁ + 1) (n.x₂ + 1) 256 256 (omega arith) (omega arith)) (omega arith)
