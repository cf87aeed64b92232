-- Linear maps from lines of numbers to numbers: those that pass through every linear map taken in another place. An entry, a sum, a multiple, a map of maps and a
-- weighted sum of the first m entries are such. The numbers of a line, its values and the paper's sums are made of these. Assumes nothing.
use mathlib.Core.Path.{◌≡◌, refl, ◌∙◌, ap, ap₂, fun_ext}
use mathlib.Core.List.{[], ◌∷◌}
use Prim.Native.Nat.{ℕ, zero, suc}
use lib.IntN.{ℤ, pos, ◌+ℤ◌, ◌*ℤ◌}
use Rattle.whole.proofs.Quote.{ring, reads}
use Rattle.whole.specs.Sums.{sum_to}

-- a line of numbers
abbrev pub Line : Type 0
Line = ℕ → ℤ

-- it keeps sums and multiples
pub record Linear (L : Line → ℤ) : Type 0 where
  pub sums : (v u : ℤ) (f g : Line) → L (λ i. v *ℤ f i +ℤ u *ℤ g i) ≡ v *ℤ L f +ℤ u *ℤ L g

-- and in a table of numbers it may be taken before or after any other such map of the other index
pub record Functional (L : Line → ℤ) : Type 0 where
  pub linear : Linear L
  pub passes : (M : Line → ℤ) → Linear M → (g : ℕ → Line) → M (λ i. L (g i)) ≡ L (λ x. M (λ i. g i x))

module _ {L : Line → ℤ} (l : Linear L) where
  pub linear_times : (c : ℤ) (f : Line) → L (λ i. c *ℤ f i) ≡ c *ℤ L f
  linear_times c f =
      ap L (fun_ext λ i. ring (c ∷ f i ∷ []) (search reads depth 20) tt) ∙ l.sums c (pos 0) f f ∙ ring (c ∷ L f ∷ []) (search reads depth 20) tt

  pub linear_plus : (f g : Line) → L (λ i. f i +ℤ g i) ≡ L f +ℤ L g
  linear_plus f g =
      ap L (fun_ext λ i. ring (f i ∷ g i ∷ []) (search reads depth 20) tt) ∙ l.sums (pos 1) (pos 1) f g ∙ ring (L f ∷ L g ∷ []) (search reads depth 20) tt

  pub linear_none : L (λ i. pos 0) ≡ pos 0
  linear_none = l.sums (pos 0) (pos 0) (λ i. pos 0) (λ i. pos 0) ∙ ring (L (λ i. pos 0) ∷ []) (search reads depth 20) tt

-- ---- how they are made
pub none : Functional (λ f. pos 0)
none = record { linear = record { sums = λ v u f g. ring (v ∷ u ∷ []) (search reads depth 20) tt }; passes = λ M m g. linear_none m }

pub entry : (t : ℕ) → Functional (λ f. f t)
entry t = record { linear = record { sums = λ v u f g. refl }; passes = λ M m g. refl }

pub plus : {L K : Line → ℤ} → Functional L → Functional K → Functional (λ f. L f +ℤ K f)
plus {L} {K} l k = record {
  linear = record {
    sums = λ v u f g.
        ap₂ ◌+ℤ◌ (l.linear.sums v u f g) (k.linear.sums v u f g) ∙ ring (v ∷ u ∷ L f ∷ L g ∷ K f ∷ K g ∷ []) (search reads depth 20) tt;
  };
  passes = λ M m g. linear_plus m _ _ ∙ ap₂ ◌+ℤ◌ (l.passes M m g) (k.passes M m g);
}

pub times : (c : ℤ) {L : Line → ℤ} → Functional L → Functional (λ f. c *ℤ L f)
times c {L} l = record {
  linear = record { sums = λ v u f g. ap (λ z. c *ℤ z) (l.linear.sums v u f g) ∙ ring (c ∷ v ∷ u ∷ L f ∷ L g ∷ []) (search reads depth 20) tt };
  passes = λ M m g. linear_times m c _ ∙ ap (λ z. c *ℤ z) (l.passes M m g);
}

-- one of what others give, a map for each entry
pub through : {L : Line → ℤ} {K : ℕ → Line → ℤ} → Functional L → ((t : ℕ) → Functional (K t)) → Functional (λ f. L (λ t. K t f))
through {L} {K} l k = record {
  linear = record { sums = λ v u f g. ap L (fun_ext λ t. (k t).linear.sums v u f g) ∙ l.linear.sums v u (λ t. K t f) (λ t. K t g) };
  passes = λ M m g. l.passes M m _ ∙ ap L (fun_ext λ t. (k t).passes M m g);
}

-- the sum of the first m entries, each with its weight
abbrev pub comb : ℕ → Line → Line → ℤ
comb m α f = sum_to m (λ i. α i *ℤ f i)

pub combs : (m : ℕ) (α : Line) → Functional (comb m α)
unfolding sum_to
combs zero α = none
combs (suc m) α = plus (combs m α) (times (α m) (entry m))

pub sums_linear : (m : ℕ) → Linear (sum_to m)
unfolding sum_to
sums_linear zero = none.linear
sums_linear (suc m) = record {
  sums = λ v u f g.
      ap (λ z. z +ℤ (v *ℤ f m +ℤ u *ℤ g m)) ((sums_linear m).sums v u f g)
      ∙ ring (v ∷ u ∷ sum_to m f ∷ sum_to m g ∷ f m ∷ g m ∷ []) (search reads depth 20) tt;
}
