-- What a layout has to keep, and that a head's layout keeps it; and the place of exponents that are bytes is a small number. Assumes nothing.
use mathlib.Core.Path.{◌≡◌}
use mathlib.Core.Bool.{true}
use Prim.Native.Nat.{ℕ, ◌+◌, ◌*◌, ◌≤◌, ◌<◌}
use native.Mathlib.Omega.{arith}
use native.Mathlib.Nat.{mul-le-mul}
use Rattle.bernstein.specs.Three.{Direction, ◌!◌}
use Rattle.bernstein.specs.Numbers.{Degrees, Index}
use Rattle.bernstein.specs.Places.{place, index}
use Rattle.bernstein.proofs.Indices.{place_index, index_place, index_upto}
use Rattle.bernstein.proofs.Places.{place_below}
use Rattle.system.specs.Heads.{degrees}
use Rattle.system.proofs.Says.{Says, le_says, each_says}
use Rattle.system.specs.declared.head.Head.{Head}
use Rattle.file.specs.Layout.{Layout, layout}

pub record Lawful (L : Layout) : Type 0 where
  pub below : (j : Index) → L.within j ≡ true → L.place j < L.size
  pub index_of : (j : Index) → L.within j ≡ true → L.index (L.place j) ≡ j
  pub within_at : (p : ℕ) → p < L.size → L.within (L.index p) ≡ true
  pub place_at : (p : ℕ) → L.place (L.index p) ≡ p

-- ---- a head's layout
module _ (h : Head) where
  within_says : (j : Index) → Says ((layout h).within j) ((r : Direction) → j ! r ≤ degrees h ! r)
  within_says j = each_says (λ r. le_says (j ! r) (degrees h ! r))

  pub lawful : Lawful (layout h)
  lawful =
      record {
        below = λ j e. place_below (degrees h) j (record { upto = (within_says j).fact e });
        index_of = λ j e. index_place (degrees h) j (record { upto = (within_says j).fact e });
        within_at = λ p l. (within_says (index (degrees h) p)).passes (index_upto (degrees h) p l).upto;
        place_at = place_index (degrees h);
      }

-- ---- bytes
packed : (i b j A : ℕ) → i ≤ A → b < 256 → j < 256 → i * (b + 1) + j ≤ A * 256 + 255
packed i b j A p q r = let h : i * (b + 1) ≤ A * 256 = mul-le-mul p (let z : b + 1 ≤ 256 = omega arith in z) in omega arith

pub place_of_bytes : (n : Degrees) (j : Index) → n.x₂ < 256 → n.x₃ < 256 → j.x₁ < 256 → j.x₂ < 256 → j.x₃ < 256 → place n j < 16777216
unfolding place
place_of_bytes n j n2 n3 j1 j2 j3 =
    let two : j.x₁ * (n.x₂ + 1) + j.x₂ ≤ 65535 = packed j.x₁ n.x₂ j.x₂ 255 (omega arith) n2 j2 in
    let three : (j.x₁ * (n.x₂ + 1) + j.x₂) * (n.x₃ + 1) + j.x₃ ≤ 16777215 = packed (j.x₁ * (n.x₂ + 1) + j.x₂) n.x₃ j.x₃ 65535 two n3 j3 in
    omega arith
