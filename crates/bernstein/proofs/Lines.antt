-- A line of numbers cut in two by sums of neighbours, for every degree: the law of one step, de Casteljau over any values that split, the exact numbers of a line on
-- a span, and that the halves of exact numbers are the exact numbers of the halves. Assumes nothing.
use mathlib.Core.Path.{◌≡◌, refl, sym, ◌∙◌, ap, ap₂, fun_ext}
use Prim.Native.Nat.{ℕ, zero, suc, ◌*◌, ◌-◌, ◌^◌, ◌≤◌, ◌<◌, min}
use native.Mathlib.Omega.{arith}
use lib.Dec.{ltb, ltb→lt, nltb→le}
use lib.IntN.{ℤ, pos, ◌+ℤ◌, ◌*ℤ◌}
use Rattle.whole.specs.Half.{Half, lower, upper}
use Rattle.whole.proofs.Order.{cond_ind}
use Rattle.whole.proofs.Parts.{by_lt}
use Rattle.bernstein.specs.Numbers.{Span, half_span, after, half_line}
use Rattle.bernstein.proofs.Functionals.{Line, Functional, linear_times, through}
use Rattle.bernstein.proofs.Steps.{steps, step_functional, steps_scale, Splits, blends→splits, blends, steps_at, pow_pos}

-- ---- one step
pub after_same : (b : Line) (k j : ℕ) → j ≤ k → after b (suc k) j ≡ after b k j
unfolding after
after_same b k j h = cond_ind (ltb k j) _ _ (λ z. z ≡ after b k j) (λ t. absurd (omega (arith, ltb→lt))) (λ t. refl)

pub after_sum : (b : Line) (k j : ℕ) → k < j → after b (suc k) j ≡ after b k (j - 1) +ℤ after b k j
unfolding after
after_sum b k j h = cond_ind (ltb k j) _ _ (λ z. z ≡ after b k (j - 1) +ℤ after b k j) (λ t. refl) (λ t. absurd (omega (arith, nltb→le)))

-- only the entries up to n count
module _ (n : ℕ) (b e : Line) (same : (j : ℕ) → j ≤ n → b j ≡ e j) where
  pub after_cong : (k j : ℕ) → j ≤ n → after b k j ≡ after e k j
  unfolding after
  after_cong zero j l = same j l
  after_cong (suc k) j l = let l' : j - 1 ≤ n = omega arith in rw (after_cong k (j - 1) l', after_cong k j l) refl

  pub half_cong : (h : Half) (j : ℕ) → j ≤ n → half_line h n b j ≡ half_line h n e j
  unfolding half_line
  half_cong lower j l = rw after_cong refl
  half_cong upper j l = let m : n ≤ n = omega arith in rw after_cong refl

-- ---- de Casteljau over any values that split: entry j after k steps
module _ (W : ℕ → ℕ → ℕ → ℤ) (s : Splits W) (n : ℕ) (b : Line) (starts : (j : ℕ) → j ≤ n → b j ≡ W 0 (n - j) j) where
  at : {c c' p p' q q' : ℕ} → c ≡ c' → p ≡ p' → q ≡ q' → W c p q ≡ W c' p' q'
  at x y z = λ i. W (x i) (y i) (z i)

  pub casteljau : (k j : ℕ) → j ≤ n → after b k j ≡ W (min k j) (n - j) (j - k)
  unfolding after
  casteljau zero j h = starts j h ∙ at (omega arith) refl (omega arith)
  casteljau (suc k) j h = go (casteljau k (j - 1) (omega arith)) (casteljau k j h)
    where
      go : after b k (j - 1) ≡ W (min k (j - 1)) (n - (j - 1)) (j - 1 - k) → after b k j ≡ W (min k j) (n - j) (j - k) → after b (suc k) j ≡ W (min (suc k) j) (n - j) (j - suc k)
      go e f = by_lt k j
          (λ l. after_sum b k j l ∙ ap₂ ◌+ℤ◌ (e ∙ at (omega arith) (omega arith) (omega arith)) (f ∙ at (omega arith) (omega arith) (omega arith))
          ∙ sym (s.split k (n - j) (j - suc k)) ∙ at (omega arith) refl refl)
          (λ l. after_same b k j l ∙ f ∙ at (omega arith) refl (omega arith))

-- ---- the numbers of a line
-- a span is from low / grid to high / grid
abbrev pub grid : Span → ℤ
grid i = pos (2 ^ i.cuts)

abbrev pub low : Span → ℤ
low i = pos i.position

abbrev pub high : Span → ℤ
high i = pos (suc i.position)

pub high_is : (i : Span) → high i ≡ low i +ℤ pos 1
high_is i = ap pos (omega arith)

-- Number j of degree n on a span: n - j steps for the lower end and j for the upper. (Exactness: that it is the scaled Bernstein coefficient.)
unfoldable pub number : ℕ → Span → ℕ → Line → ℤ
number n i j g = steps (grid i) (low i) (n - j) (steps (grid i) (high i) j g) 0

pub number_functional : (n : ℕ) (i : Span) (j : ℕ) → Functional (number n i j)
unfolding number
number_functional n i j = through (step_functional (grid i) (low i) (n - j) 0) (step_functional (grid i) (high i) j)

-- twice the steps
steps_twice : (s d : ℕ) {e : ℕ} → e ≡ 2 * d → (n : ℕ) (g : Line) (t : ℕ) → steps (pos (2 ^ suc s)) (pos e) n g t ≡ pos (2 ^ n) *ℤ steps (pos (2 ^ s)) (pos d) n g t
steps_twice s d e n g t =
    ap (λ f. f t) (steps_at (ap pos (omega arith)) (ap pos e) n g)
    ∙ steps_scale (pos 2) _ (pos d) n g t ∙ ap (λ z. z *ℤ steps (pos (2 ^ s)) (pos d) n g t) (pow_pos 2 n)

-- ---- the halves of exact numbers are the exact numbers of the halves
module _ (n : ℕ) (i : Span) (g b : Line) (exact : (j : ℕ) → j ≤ n → b j ≡ number n i j g) where
  -- the middle, where the upper half begins
  abbrev mid : Span
  mid = half_span upper i

  -- m steps for the middle, p for the lower end, q for the upper end
  mixed : ℕ → ℕ → ℕ → ℤ
  mixed m p q = steps (grid i) (low i) p (steps (grid mid) (low mid) m (steps (grid i) (high i) q g)) 0

  entries : (c j x y z : ℕ) → j ≤ n → min c j ≡ x → n - j ≡ y → j - c ≡ z → after b c j ≡ mixed x y z
  unfolding mixed number steps
  entries c j x y z l least rest left =
      casteljau mixed (blends→splits (blends (pos 1) (pos 1) _ (low i) _ _ finer (ap pos (omega arith)) g 0)) n b exact c j l ∙ (λ t. mixed (least t) (rest t) (left t))
    where
      finer : pos 1 *ℤ grid i +ℤ pos 1 *ℤ grid i ≡ pos (2 ^ suc i.cuts)
      finer = ap pos (omega arith)

  pub half_exact : (h : Half) (j : ℕ) → j ≤ n → half_line h n b j ≡ number n (half_span h i) j g
  unfolding half_line number mixed steps
  half_exact lower j l =
      ap (λ z. pos (2 ^ (n - j)) *ℤ z) (entries n j j (n - j) 0 l (omega arith) refl (omega arith))
      ∙ sym (steps_twice i.cuts i.position refl (n - j) _ 0)
  half_exact upper j l =
      ap (λ z. pos (2 ^ j) *ℤ z) (entries (n - j) n (n - j) 0 j (omega arith) (omega arith) (omega arith) (omega arith))
      ∙ sym (linear_times (step_functional (grid mid) (low mid) (n - j) 0).linear (pos (2 ^ j)) _)
      ∙ ap (λ h. steps (grid mid) (low mid) (n - j) h 0) (fun_ext λ t. sym (steps_twice i.cuts (suc i.position) (omega arith) j g t))
