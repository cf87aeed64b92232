-- Every place below S has one index, and every index up to the degrees one place: `index` and `place` undo each other. Assumes nothing.
use mathlib.Core.Path.{◌≡◌, ◌∙◌, ap}
use Prim.Native.Nat.{ℕ, ◌+◌, ◌*◌, ◌/◌, ◌%◌, ◌≤◌, ◌<◌}
use native.Mathlib.Omega.{arith}
use native.Mathlib.Nat.{mul-add-div_right, div-eq_of_lt, mul-add-mod_self_right, mod-eq_of_lt, div-lt_iff_lt-mul, div-add-mod', mod-lt, add-zero}
use Rattle.bernstein.specs.Three.{Direction, first, second, third, three, Upto, ◌!◌}
use Rattle.bernstein.specs.Numbers.{Degrees, Index}
use Rattle.bernstein.specs.Places.{place, size, index}
use Rattle.bernstein.specs.Claims.{IndexOfPlace, PlaceOfIndex}

-- ---- rows of d + 1 places
module _ (d : ℕ) where
  some : 0 < d + 1
  some = omega arith

  pub row_of : (i j : ℕ) → j ≤ d → (i * (d + 1) + j) / (d + 1) ≡ i
  row_of i j h = let b : j < d + 1 = omega arith in mul-add-div_right some i j ∙ rw (div-eq_of_lt b) (add-zero i)

  pub rest_of : (i j : ℕ) → j ≤ d → (i * (d + 1) + j) % (d + 1) ≡ j
  rest_of i j h = mul-add-mod_self_right i (d + 1) j ∙ mod-eq_of_lt (let b : j < d + 1 = omega arith in b)

  pub rest_below : (p : ℕ) → p % (d + 1) ≤ d
  rest_below p = omega (arith, mod-lt p some)

  pub row_below : (c p : ℕ) → p < c * (d + 1) → p / (d + 1) < c
  row_below c p h = (div-lt_iff_lt-mul some).1 h

module _ (n : Degrees) where
  pub place_index : (p : ℕ) → place n (index n p) ≡ p
  unfolding place
  place_index p = ap (λ (x : ℕ). x * (n.x₃ + 1) + p % (n.x₃ + 1)) (div-add-mod' (p / (n.x₃ + 1)) (n.x₂ + 1)) ∙ div-add-mod' p (n.x₃ + 1)

  pub index_place : (j : Index) → Upto j n → index n (place n j) ≡ j
  unfolding place
  index_place j u =
      let row : place n j / (n.x₃ + 1) ≡ j.x₁ * (n.x₂ + 1) + j.x₂ = row_of n.x₃ (j.x₁ * (n.x₂ + 1) + j.x₂) j.x₃ (u.upto third) in
      let e₁ : place n j / (n.x₃ + 1) / (n.x₂ + 1) ≡ j.x₁ = rw row (row_of n.x₂ j.x₁ j.x₂ (u.upto second)) in
      let e₂ : place n j / (n.x₃ + 1) % (n.x₂ + 1) ≡ j.x₂ = rw row (rest_of n.x₂ j.x₁ j.x₂ (u.upto second)) in
      let e₃ : place n j % (n.x₃ + 1) ≡ j.x₃ = rest_of n.x₃ (j.x₁ * (n.x₂ + 1) + j.x₂) j.x₃ (u.upto third) in
      same e₁ e₂ e₃
    where
      same : {a b c a' b' c' : ℕ} → a ≡ a' → b ≡ b' → c ≡ c' → three a b c ≡ three a' b' c'
      same e f g = cc (e, f, g)

  pub index_upto : (p : ℕ) → p < size n → Upto (index n p) n
  unfolding size
  index_upto p h = record { upto = by }
    where
      by : (r : Direction) → index n p ! r ≤ n ! r
      by first = omega (arith, row_below n.x₂ (n.x₁ + 1) (p / (n.x₃ + 1)) (row_below n.x₃ ((n.x₁ + 1) * (n.x₂ + 1)) p h))
      by second = rest_below n.x₂ (p / (n.x₃ + 1))
      by third = rest_below n.x₃ p

pub index_of_place : IndexOfPlace
index_of_place n j u = index_place n j u

pub place_of_index : PlaceOfIndex
place_of_index n p h = (index_upto n p h, place_index n p)
