-- The three directions, a value for each of them, and multi-indices as 004's section 2 writes them: J ≤ N, I with another entry in direction r,
-- the sum over I ≤ N, and the product over the directions. Definitions only.
use Rattle.std.specs.Prelude.{ℕ, suc, ◌≤◌, ℤ, ◌*ℤ◌}
use Rattle.whole.specs.Sums.{sum_to}

pub data Direction : Type 0 where
  first second third : Direction

pub record Three (A : Type 0) : Type 0 where
  pub x₁ : A
  pub x₂ : A
  pub x₃ : A

abbrev pub three : {A : Type 0} → A → A → A → Three A
three a b c = record { x₁ = a; x₂ = b; x₃ = c }

-- v ! r: what v has in direction r
infixl 90 ◌!◌
abbrev pub ◌!◌ : {A : Type 0} → Three A → Direction → A
v ! first = v.x₁
v ! second = v.x₂
v ! third = v.x₃

-- v with a in direction r
abbrev pub replace : {A : Type 0} → Direction → A → Three A → Three A
replace first a v = three a v.x₂ v.x₃
replace second a v = three v.x₁ a v.x₃
replace third a v = three v.x₁ v.x₂ a

-- J ≤ N, in each direction
pub record Upto (j n : Three ℕ) : Type 0 where
  pub upto : (r : Direction) → j ! r ≤ n ! r

-- the sum over all I ≤ N
unfoldable pub sum_upto : Three ℕ → (Three ℕ → ℤ) → ℤ
sum_upto n f = sum_to (suc n.x₁) (λ i₁. sum_to (suc n.x₂) (λ i₂. sum_to (suc n.x₃) (λ i₃. f (three i₁ i₂ i₃))))

-- the product over the directions
abbrev pub product : (Direction → ℤ) → ℤ
product f = f first *ℤ f second *ℤ f third
