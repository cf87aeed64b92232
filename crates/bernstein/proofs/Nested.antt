-- Three directions said once: a linear map for each, nested. Any direction may be taken as the outermost; weights, sums and maps of maps may be taken direction by
-- direction, so that a fact of one direction holds in three. Assumes nothing.
use mathlib.Core.Path.{◌≡◌, refl, sym, ◌∙◌, ap, fun_ext}
use Prim.Native.Nat.{ℕ, suc, ◌≤◌}
use native.Mathlib.Omega.{arith}
use lib.IntN.{ℤ, ◌*ℤ◌}
use Rattle.whole.proofs.Ring.{*ℤ-assoc}
use Rattle.whole.proofs.Sums.{sum_cong}
use Rattle.bernstein.specs.Three.{Direction, first, second, third, Three, three, ◌!◌, replace, Upto, sum_upto, product}
use Rattle.bernstein.specs.Numbers.{Degrees, Patch}
use Rattle.bernstein.proofs.Functionals.{Line, Linear, Functional, linear_times, comb, sums_linear}

-- ---- what holds in each direction, with another value in one
module _ {A : Type 0} (P : Direction → A → Type 0) where
  pub replaced : (r : Direction) (a : A) (v : Three A) → P r a → ((x : Direction) → P x (v ! x)) → (x : Direction) → P x (replace r a v ! x)
  replaced first a v p h = elim [ first ↦ p | second ↦ h second | third ↦ h third ]
  replaced second a v p h = elim [ first ↦ h first | second ↦ p | third ↦ h third ]
  replaced third a v p h = elim [ first ↦ h first | second ↦ h second | third ↦ p ]

  pub put_back : (r : Direction) (a : A) (v : Three A) → (P r a → P r (v ! r)) → ((x : Direction) → P x (replace r a v ! x)) → (x : Direction) → P x (v ! x)
  put_back first a v f h = elim [ first ↦ f (h first) | second ↦ h second | third ↦ h third ]
  put_back second a v f h = elim [ first ↦ h first | second ↦ f (h second) | third ↦ h third ]
  put_back third a v f h = elim [ first ↦ h first | second ↦ h second | third ↦ f (h third) ]

  pub in_each : {a b c : A} → P first a → P second b → P third c → (x : Direction) → P x (three a b c ! x)
  in_each p q r = elim [ first ↦ p | second ↦ q | third ↦ r ]

pub upto_three : {n : Three ℕ} {i₁ i₂ i₃ : ℕ} → i₁ ≤ n.x₁ → i₂ ≤ n.x₂ → i₃ ≤ n.x₃ → Upto (three i₁ i₂ i₃) n
upto_three {n} a b c = record { upto = in_each (λ x y. y ≤ n ! x) a b c }

pub upto_replace : {n j : Three ℕ} (r : Direction) (i : ℕ) → i ≤ n ! r → Upto j n → Upto (replace r i j) n
upto_replace {n} {j} r i l u = record { upto = replaced (λ x y. y ≤ n ! x) r i j l u.upto }

pub sum_upto_cong : (n : Three ℕ) (f g : Patch) → ((i : Three ℕ) → Upto i n → f i ≡ g i) → sum_upto n f ≡ sum_upto n g
unfolding sum_upto
sum_upto_cong n f g h = sum_cong _ _ _ (λ i₁ l₁. sum_cong _ _ _ (λ i₂ l₂. sum_cong _ _ _ (λ i₃ l₃.
    h (three i₁ i₂ i₃) (upto_three (omega arith) (omega arith) (omega arith)))))

-- ---- a map for each direction, the first outermost
abbrev pub Map : Type 0
Map = Line → ℤ

abbrev pub nested : (Direction → Map) → Patch → ℤ
nested L g = L first (λ i₁. L second (λ i₂. L third (λ i₃. g (three i₁ i₂ i₃))))

-- all directions but r, with i there
abbrev pub inner : Direction → (Direction → Map) → Patch → Line
inner first L g i = L second (λ i₂. L third (λ i₃. g (three i i₂ i₃)))
inner second L g i = L first (λ i₁. L third (λ i₃. g (three i₁ i i₃)))
inner third L g i = L first (λ i₁. L second (λ i₂. g (three i₁ i₂ i)))

-- the map of direction r, made by F of another value a there, comes out
pub out : {A : Type 0} (F : Direction → A → Map) (v : Three A) → ((x : Direction) → Linear (F x (v ! x))) → (r : Direction) (a : A) → Functional (F r a)
    → (g : Patch) → nested (λ x. F x (replace r a v ! x)) g ≡ F r a (inner r (λ x. F x (v ! x)) g)
out F v l first a m g = refl
out F v l second a m g = m.passes _ (l first) _
out F v l third a m g =
    ap (F first v.x₁) (fun_ext λ i₁. m.passes _ (l second) (λ i₂ i₃. g (three i₁ i₂ i₃))) ∙ m.passes _ (l first) (λ i₁ i₃. F second v.x₂ (λ i₂. g (three i₁ i₂ i₃)))

-- equal maps
pub nested_cong : {L M : Direction → Map} → ((r : Direction) (f : Line) → L r f ≡ M r f) → (g : Patch) → nested L g ≡ nested M g
nested_cong {L} {M} h g =
    ap (L first) (fun_ext λ i₁. ap (L second) (fun_ext λ i₂. h third (λ i₃. g (three i₁ i₂ i₃))) ∙ h second _) ∙ h first _

module _ {L : Direction → Map} (l : (r : Direction) → Linear (L r)) where
  pub nested_times : (c : ℤ) (g : Patch) → nested L (λ i. c *ℤ g i) ≡ c *ℤ nested L g
  nested_times c g = ap (L first) (fun_ext λ i₁. ap (L second) (fun_ext λ i₂. linear_times (l third) c _) ∙ linear_times (l second) c _) ∙ linear_times (l first) c _

  -- weights that are a product go to their directions
  pub nested_weights : (α : Direction → Line) (g : Patch) → nested L (λ i. product (λ r. α r (i ! r)) *ℤ g i) ≡ nested (λ r f. L r (λ i. α r i *ℤ f i)) g
  nested_weights α g =
      ap (L first) (fun_ext λ i₁.
      ap (L second) (fun_ext λ i₂. ap (L third) (fun_ext λ i₃. *ℤ-assoc (α first i₁ *ℤ α second i₂) _ _) ∙ linear_times (l third) (α first i₁ *ℤ α second i₂) _ ∙ *ℤ-assoc (α first i₁) _ _)
      ∙ linear_times (l second) (α first i₁) _)

  -- and a factor for each direction comes out as their product
  pub nested_product : (c : Direction → ℤ) (g : Patch) → nested (λ r f. c r *ℤ L r f) g ≡ product c *ℤ nested L g
  nested_product c g = nested_cong (λ r f. sym (linear_times (l r) (c r) f)) g ∙ sym (nested_weights (λ r i. c r) g) ∙ nested_times (product c) g

-- a sum over I ≤ N with a product for its coefficient
pub sum_nested : (n : Degrees) (α : Direction → Line) (g : Patch) → sum_upto n (λ i. product (λ r. α r (i ! r)) *ℤ g i) ≡ nested (λ r. comb (suc (n ! r)) (α r)) g
unfolding sum_upto
sum_nested n α g = nested_weights (λ r. sums_linear (suc (n ! r))) α g

-- ---- maps of maps: what they come to in each direction they come to in three
module _ {A : Direction → Map} {B : Direction → ℕ → Map} (a : (r : Direction) → Functional (A r)) (b : (r : Direction) (t : ℕ) → Linear (B r t)) where
  fubini : (g : Patch) → nested (λ r f. A r (λ t. B r t f)) g ≡ nested A (λ t. nested (λ r. B r (t ! r)) g)
  fubini g = ap (A first) (fun_ext λ t₁.
      ap (B first t₁) (fun_ext λ i₁. ap (A second) (fun_ext λ t₂. (a third).passes _ (b second t₂) (λ i₂ t₃. B third t₃ (λ i₃. g (three i₁ i₂ i₃)))))
      ∙ (a second).passes _ (b first t₁) _ ∙ ap (A second) (fun_ext λ t₂. (a third).passes _ (b first t₁) _))

  pub lift : {C : Direction → Map} → ((r : Direction) (f : Line) → A r (λ t. B r t f) ≡ C r f) → (g : Patch) → nested A (λ t. nested (λ r. B r (t ! r)) g) ≡ nested C g
  lift h g = sym (fubini g) ∙ nested_cong h g
