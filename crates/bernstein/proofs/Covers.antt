-- A point of a box lies in its lower or in its upper half, and a point of a half in the box: by one direction, in which the span's edges are compared. Assumes nothing.
use mathlib.Core.Path.{◌≡◌, refl, sym, ◌∙◌, ap, subst₂}
use mathlib.Core.Logic.{◌⊎◌, inl, inr, ◌↔◌}
use mathlib.Core.List.{[], ◌∷◌}
use Prim.Native.Nat.{suc, ◌^◌}
use native.Mathlib.Omega.{arith}
use lib.IntN.{ℤ, pos, ◌+ℤ◌, ◌*ℤ◌}
use lib.Signed.{◌≤ℤ◌, ◌<ℤ◌}
use Rattle.whole.specs.Half.{Half, lower, upper}
use Rattle.whole.proofs.Quote.{ring, reads}
use Rattle.whole.proofs.Order.{≤ℤ-or-<ℤ, <ℤ-≤ℤ, ≡-≤ℤ, ≤ℤ-intro, +ℤ-mono}
use Rattle.whole.proofs.Lin.{≤⇒, ≤⇐}
use Rattle.bernstein.specs.Three.{◌!◌}
use Rattle.bernstein.specs.Numbers.{Span, half_span, half_box}
use Rattle.bernstein.specs.Points.{Inside, Within}
use Rattle.bernstein.specs.Claims.{EndsInside, HalvesCover, HalvesInside}
use Rattle.bernstein.proofs.Lines.{grid, low, high, high_is}
use Rattle.bernstein.proofs.Nested.{replaced, put_back}

-- ---- a point lies between two edges, with A for 2^s X and B for k q: of the span B and B + q, of a half, in twice the grid, an edge and q more
abbrev Between : ℤ → ℤ → ℤ → Type 0
Between lo mid hi = (lo ≤ℤ mid) × (mid ≤ℤ hi)

abbrev edge : Half → ℤ → ℤ → ℤ
edge lower B q = B +ℤ B
edge upper B q = B +ℤ B +ℤ q

abbrev InHalf : Half → ℤ → ℤ → ℤ → Type 0
InHalf h A B q = Between (edge h B q) (A +ℤ A) (edge h B q +ℤ q)

either : (A B q : ℤ) → Between B A (B +ℤ q) → InHalf lower A B q ⊎ InHalf upper A B q
either A B q w = go (≤ℤ-or-<ℤ (A +ℤ A) (B +ℤ B +ℤ q))
  where
    go : ((A +ℤ A) ≤ℤ (B +ℤ B +ℤ q)) ⊎ ((B +ℤ B +ℤ q) <ℤ (A +ℤ A)) → InHalf lower A B q ⊎ InHalf upper A B q
    go (inl h) = inl (+ℤ-mono w.0 w.0, h)
    go (inr h) = inr (<ℤ-≤ℤ h, ≤⇐ (A ∷ B ∷ q ∷ []) (search reads depth 20) (omega (arith, ≤⇒ (A ∷ B ∷ q ∷ []) (search reads depth 20) w.1)))

-- (that q is not negative follows: a half's edges are q apart)
back : (h : Half) (A B q : ℤ) → InHalf h A B q → Between B A (B +ℤ q)
back lower A B q w =
    let x = ≤⇒ (A ∷ B ∷ q ∷ []) (search reads depth 20) w.0 in
    let y = ≤⇒ (A ∷ B ∷ q ∷ []) (search reads depth 20) w.1 in
    (≤⇐ (A ∷ B ∷ q ∷ []) (search reads depth 20) (omega arith), ≤⇐ (A ∷ B ∷ q ∷ []) (search reads depth 20) (omega arith))
back upper A B q w =
    let x = ≤⇒ (A ∷ B ∷ q ∷ []) (search reads depth 20) w.0 in
    let y = ≤⇒ (A ∷ B ∷ q ∷ []) (search reads depth 20) w.1 in
    (≤⇐ (A ∷ B ∷ q ∷ []) (search reads depth 20) (omega arith), ≤⇐ (A ∷ B ∷ q ∷ []) (search reads depth 20) (omega arith))

-- ---- the edges of a span and of its halves
high_edge : (i : Span) (q : ℤ) → high i *ℤ q ≡ low i *ℤ q +ℤ q
high_edge i q = ap (λ z. z *ℤ q) (high_is i) ∙ ring (low i ∷ q ∷ []) (search reads depth 20) tt

module _ (i : Span) (X q : ℤ) where
  twice_grid : pos (2 ^ suc i.cuts) *ℤ X ≡ grid i *ℤ X +ℤ grid i *ℤ X
  twice_grid = ap (λ z. z *ℤ X) (let e : pos (2 ^ suc i.cuts) ≡ grid i +ℤ grid i = ap pos (omega arith) in e) ∙ ring (grid i ∷ X ∷ []) (search reads depth 20) tt

  twice_low : low (half_span lower i) *ℤ q ≡ low i *ℤ q +ℤ low i *ℤ q
  twice_low = ring (low i ∷ q ∷ []) (search reads depth 20) tt

  edges : (j : Span) {A B : ℤ} → grid j *ℤ X ≡ A → low j *ℤ q ≡ B → Inside j X q ↔ Between B A (B +ℤ q)
  edges j e f = (
    λ w. (subst₂ ◌≤ℤ◌ f e w.above, subst₂ ◌≤ℤ◌ e (high_edge j q ∙ ap (λ z. z +ℤ q) f) w.below),
    λ w. record { above = subst₂ ◌≤ℤ◌ (sym f) (sym e) w.0; below = subst₂ ◌≤ℤ◌ (sym e) (sym (high_edge j q ∙ ap (λ z. z +ℤ q) f)) w.1 },
  )

  in_half : (h : Half) → Inside (half_span h i) X q ↔ InHalf h (grid i *ℤ X) (low i *ℤ q) q
  in_half lower = edges (half_span lower i) twice_grid twice_low
  in_half upper = edges (half_span upper i) twice_grid (high_edge (half_span lower i) q ∙ ap (λ z. z +ℤ q) twice_low)

  pub span_cover : Inside i X q → Inside (half_span lower i) X q ⊎ Inside (half_span upper i) X q
  span_cover w = go (either (grid i *ℤ X) (low i *ℤ q) q ((edges i refl refl).0 w))
    where
      go : InHalf lower (grid i *ℤ X) (low i *ℤ q) q ⊎ InHalf upper (grid i *ℤ X) (low i *ℤ q) q → Inside (half_span lower i) X q ⊎ Inside (half_span upper i) X q
      go (inl h) = inl ((in_half lower).1 h)
      go (inr h) = inr ((in_half upper).1 h)

  pub span_inside : (h : Half) → Inside (half_span h i) X q → Inside i X q
  span_inside h w = (edges i refl refl).1 (back h (grid i *ℤ X) (low i *ℤ q) q ((in_half h).0 w))

-- ---- both ends, over q = 2^s
pub ends_inside : EndsInside
ends_inside i = (
  (edges i (low i) (grid i) i (around (low i)) refl).1 (≡-≤ℤ refl, ≤ℤ-intro (2 ^ i.cuts) refl),
  (edges i (high i) (grid i) i (around (high i) ∙ high_edge i (grid i)) refl).1 (≤ℤ-intro (2 ^ i.cuts) refl, ≡-≤ℤ refl),
)
  where
    around : (z : ℤ) → grid i *ℤ z ≡ z *ℤ grid i
    around z = ring (grid i ∷ z ∷ []) (search reads depth 20) tt

-- ---- in three directions
pub halves_cover : HalvesCover
halves_cover r b X q w = go (span_cover (b ! r) (X ! r) q (w.within r))
  where
    half : (h : Half) → Inside (half_span h (b ! r)) (X ! r) q → Within (half_box h r b) X q
    half h i = record { within = replaced (λ x s. Inside s (X ! x) q) r _ b i w.within }

    go : Inside (half_span lower (b ! r)) (X ! r) q ⊎ Inside (half_span upper (b ! r)) (X ! r) q → Within (half_box lower r b) X q ⊎ Within (half_box upper r b) X q
    go (inl i) = inl (half lower i)
    go (inr i) = inr (half upper i)

pub halves_inside : HalvesInside
halves_inside h r b X q w = record { within = put_back (λ x s. Inside s (X ! x) q) r _ b (span_inside (b ! r) (X ! r) q h) w.within }
