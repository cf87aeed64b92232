-- 01, "The numbers of a box", and 004's sections 2.1 and 2.2, in whole numbers: the scale, the polynomial moved to a box, formula (2), the numbers stored,
-- a box and its halves, the cut of a line and of all lines of a direction, and what can be cut. Definitions only.
use Rattle.std.specs.Prelude.{◌≡◌, cond, [], ◌∷◌, ℕ, zero, suc, ◌*◌, ◌-◌, ◌/◌, ◌^◌, ◌≤◌, ltb, ℤ, pos, ◌+ℤ◌, ◌*ℤ◌, get_or}
use Rattle.whole.specs.Half.{Half, lower, upper}
use Rattle.whole.specs.Size.{Below}
use Rattle.whole.specs.Sums.{choose}
use Rattle.bernstein.specs.Three.{Direction, Three, three, ◌!◌, replace, Upto, sum_upto, product}

-- ---- the system
-- n1, n2, n3: at most 6 each
abbrev pub Degrees : Type 0
Degrees = Three ℕ

pub record Small (n : Degrees) : Type 0 where
  pub small : (r : Direction) → n ! r ≤ 6

-- i1, i2, i3: the exponents of a term, or the place of a number
abbrev pub Index : Type 0
Index = Three ℕ

-- a number for each index: the coefficients of a polynomial, or the numbers of a box (004 calls these a patch)
abbrev pub Patch : Type 0
Patch = Index → ℤ

-- ---- a box: in each direction a count of cuts s and a position k; the closed interval from k / 2^s to (k + 1) / 2^s
pub record Span : Type 0 where
  pub cuts : ℕ
  pub position : ℕ

abbrev pub span : ℕ → ℕ → Span
span s k = record { cuts = s; position = k }

abbrev pub Box : Type 0
Box = Three Span

abbrev pub unit : Box
unit = three (span 0 0) (span 0 0) (span 0 0)

-- the lower half, s + 1 with 2 k, and the upper half, s + 1 with 2 k + 1
abbrev pub half_span : Half → Span → Span
half_span lower i = span (suc i.cuts) (2 * i.position)
half_span upper i = span (suc i.cuts) (suc (2 * i.position))

abbrev pub half_box : Half → Direction → Box → Box
half_box h r b = replace r (half_span h (b ! r)) b

-- ---- the scale: by degree, the least common multiple of C(n, 0) .. C(n, n)
unfoldable pub scale : ℕ → ℕ
scale n = get_or (1 ∷ 1 ∷ 2 ∷ 3 ∷ 12 ∷ 10 ∷ 60 ∷ []) n 1

-- scale / C(n, i), which is whole
unfoldable pub weight : ℕ → ℕ → ℕ
weight n i = scale n / choose n i

-- ---- the stored numbers
-- what x^i, with (k + y) / 2^s put for x and times 2^(n s), gives to y^t
abbrev pub part : ℕ → Span → ℕ → ℕ → ℕ
part n i e t = choose e t * i.position ^ (e - t) * 2 ^ (i.cuts * (n - e))

-- The polynomial with (k + y) / 2^s put for each variable, times 2^(n1 s1 + n2 s2 + n3 s3): its coefficient at T.
unfoldable pub moved : Degrees → Box → Patch → Patch
moved n b a t = sum_upto n (λ i. product (λ r. pos (part (n ! r) (b ! r) (i ! r) (t ! r))) *ℤ a i)

-- Formula (2) of 004 times the scale: the sum over T ≤ J of C(J, T) · scale / C(N, T) · c_T.
unfoldable pub formula : Degrees → Patch → Patch
formula n c j = sum_upto j (λ t. product (λ r. pos (choose (j ! r) (t ! r) * weight (n ! r) (t ! r))) *ℤ c t)

-- p holds the stored numbers of the polynomial a on the box b: scale times 2^(n1 s1 + n2 s2 + n3 s3) times the exact coefficients.
pub record Exact (n : Degrees) (b : Box) (a p : Patch) : Type 0 where
  pub exact : (j : Index) → Upto j n → p j ≡ formula n (moved n b a) j

-- ---- the cut of a line b_0 .. b_n
-- Entry j after k steps. At step k + 1 each entry j ≥ k + 1 is replaced by the sum of the entry before it and itself, old values both.
unfoldable pub after : (ℕ → ℤ) → ℕ → ℕ → ℤ
after b zero j = b j
after b (suc k) j = cond (ltb k j) (after b k (j - 1) +ℤ after b k j) (after b k j)

-- Lower half: entry j after the last step, times 2^(n - j). Upper half: entry n - k is the last entry after step k, times 2^(n - k); j is n - k.
unfoldable pub half_line : Half → ℕ → (ℕ → ℤ) → ℕ → ℤ
half_line lower n b j = pos (2 ^ (n - j)) *ℤ after b n j
half_line upper n b j = pos (2 ^ j) *ℤ after b (n - j) n

-- the line of p through j in direction r, and the cut of every such line
abbrev pub line : Direction → Patch → Index → ℕ → ℤ
line r p j i = p (replace r i j)

abbrev pub half_patch : Half → Degrees → Direction → Patch → Patch
half_patch h n r p j = half_line h (n ! r) (line r p j) (j ! r)

-- ---- how a start makes its numbers: the coefficients times their weights, then all steps along all lines of each direction
abbrev pub weighted : Degrees → Patch → Patch
weighted n a i = product (λ r. pos (weight (n ! r) (i ! r))) *ℤ a i

abbrev pub spread : Degrees → Direction → Patch → Patch
spread n r p j = after (line r p j) (n ! r) (j ! r)

-- a polynomial's part in "can be cut in direction r": every number is at most 2^(62 - n) - 1 in size
pub record Cuttable (n : Degrees) (r : Direction) (p : Patch) : Type 0 where
  pub cuttable : (j : Index) → Upto j n → Below (2 ^ (62 - n ! r)) (p j)

-- at most M = 2^62 - 1 in size
pub record Stored (n : Degrees) (p : Patch) : Type 0 where
  pub stored : (j : Index) → Upto j n → Below (2 ^ 62) (p j)
