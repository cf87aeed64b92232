-- 01's starred examples A, B and C as one statement over one list, computed from the definitions; and formula (2) at degree 4 with its fractions. Assumes nothing.
use mathlib.Core.Path.{◌≡◌, refl}
use mathlib.Core.List.{List, [], ◌∷◌}
use Prim.Native.Nat.{ℕ, zero, suc, ◌+◌, ◌*◌, ◌/◌, ◌%◌}
use lib.IntN.{ℤ, pos, negsuc, ◌+ℤ◌, ◌*ℤ◌}
use Rattle.whole.specs.Half.{Half, lower, upper}
use Rattle.whole.specs.Sums.{sum_to, choose}
use Rattle.whole.proofs.Quote.{ring, reads}
use Rattle.bernstein.specs.Three.{three, first, second, sum_upto}
use Rattle.bernstein.specs.Numbers.{Degrees, Patch, unit, half_box, scale, weight, moved, formula, after, half_line, half_patch}
use Rattle.bernstein.specs.Places.{place, stride, patch}

-- ---- the numbers of a patch in the order of their places
abbrev pub listed : ℕ → (ℕ → ℤ) → List ℤ
listed zero f = []
listed (suc n) f = f 0 ∷ listed n (λ i. f (suc i))

abbrev pub numbers : Degrees → Patch → List ℤ
numbers n p = listed ((n.x₁ + 1) * (n.x₂ + 1) * (n.x₃ + 1)) (λ x. p (three (x / stride n first) (x / stride n second % (n.x₂ + 1)) (x % (n.x₃ + 1))))

-- ---- an example: degrees, coefficients by place, and the starting numbers, or those of a half in the first direction
pub data Example : Type 0 where
  start : Degrees → List ℤ → List ℤ → Example
  half : Half → Degrees → List ℤ → List ℤ → Example

-- A half is computed twice: by the cut, and by formula (2) on the half of the box.
abbrev pub Holds : Example → Type 0
Holds (start n a x) = numbers n (formula n (patch n a 0)) ≡ x
Holds (half h n a x) = (numbers n (half_patch h n first (formula n (patch n a 0))) ≡ x) × (numbers n (formula n (moved n (half_box h first unit) (patch n a 0))) ≡ x)

abbrev pub AllHold : List Example → Type 0
AllHold [] = Unit {0}
AllHold (e ∷ l) = Holds e × AllHold l

-- x - x²
abbrev bump : List ℤ
bump = pos 0 ∷ pos 1 ∷ negsuc 0 ∷ []

-- ★A at degree 2, ★B at degree 4, ★C: x² + y² - 1 and x - y at degrees 2, 2
abbrev pub starred : List Example
starred =
    start (three 2 0 0) bump (pos 0 ∷ pos 1 ∷ pos 0 ∷ [])
    ∷ half lower (three 2 0 0) bump (pos 0 ∷ pos 2 ∷ pos 2 ∷ [])
    ∷ half upper (three 2 0 0) bump (pos 2 ∷ pos 2 ∷ pos 0 ∷ [])
    ∷ start (three 4 0 0) bump (pos 0 ∷ pos 3 ∷ pos 4 ∷ pos 3 ∷ pos 0 ∷ [])
    ∷ half lower (three 4 0 0) bump (pos 0 ∷ pos 24 ∷ pos 40 ∷ pos 48 ∷ pos 48 ∷ [])
    ∷ half upper (three 4 0 0) bump (pos 48 ∷ pos 48 ∷ pos 40 ∷ pos 24 ∷ pos 0 ∷ [])
    ∷ start (three 2 2 0) (negsuc 0 ∷ pos 0 ∷ pos 1 ∷ pos 0 ∷ pos 0 ∷ pos 0 ∷ pos 1 ∷ []) (negsuc 3 ∷ negsuc 3 ∷ pos 0 ∷ negsuc 3 ∷ negsuc 3 ∷ pos 0 ∷ pos 0 ∷ pos 0 ∷ pos 4 ∷ [])
    ∷ start (three 2 2 0) (pos 0 ∷ negsuc 0 ∷ pos 0 ∷ pos 1 ∷ []) (pos 0 ∷ negsuc 1 ∷ negsuc 3 ∷ pos 2 ∷ pos 0 ∷ negsuc 1 ∷ pos 4 ∷ pos 2 ∷ pos 0 ∷ [])
    ∷ []

pub starred_hold : AllHold starred
unfolding formula moved weight scale choose sum_to sum_upto place half_line after
starred_hold = (refl, ((refl, refl), ((refl, refl), (refl, ((refl, refl), ((refl, refl), (refl, (refl, tt))))))))

-- ---- formula (2) at degree 4: 12 times a₀ + C(2,1)/C(4,1) a₁ + C(2,2)/C(4,2) a₂, that is a₀ + a₁ / 2 + a₂ / 6
four_middle : (a : Patch) → formula (three 4 0 0) a (three 2 0 0) ≡ pos 12 *ℤ a (three 0 0 0) +ℤ pos 6 *ℤ a (three 1 0 0) +ℤ pos 2 *ℤ a (three 2 0 0)
unfolding formula weight scale choose sum_to sum_upto
four_middle a = ring (a (three 0 0 0) ∷ a (three 1 0 0) ∷ a (three 2 0 0) ∷ []) (search reads depth 20) tt
