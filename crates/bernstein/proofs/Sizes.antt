-- Sizes: a cut of degree n makes numbers at most 2^n times as great, after each step and in both halves; so what can be cut has halves that fit. Assumes nothing.
use mathlib.Core.Path.{◌≡◌, refl}
use Prim.Native.Nat.{ℕ, zero, suc, ◌+◌, ◌*◌, ◌-◌, ◌^◌, ◌≤◌, ◌<◌, min}
use native.Mathlib.Omega.{arith}
use native.Mathlib.Nat as NatL
use lib.Pow.{pow-add, pow_pos, pow_mono}
use lib.IntN.{pos, nat_abs, ◌*ℤ◌}
use Rattle.whole.specs.Half.{Half, lower, upper}
use Rattle.whole.specs.Size.{Below}
use Rattle.whole.proofs.Sizes.{nat_abs-+, nat_abs-*}
use Rattle.whole.proofs.Parts.{by_lt}
use Rattle.bernstein.specs.Three.{Direction, ◌!◌, replace, Upto}
use Rattle.bernstein.specs.Numbers.{Degrees, Index, Patch, after, half_line, line}
use Rattle.bernstein.specs.Claims.{CutFits}
use Rattle.bernstein.proofs.Functionals.{Line}
use Rattle.bernstein.proofs.Lines.{after_sum, after_same}
use Rattle.bernstein.proofs.Nested.{upto_replace}

module _ (n B : ℕ) (b : Line) (small : (j : ℕ) → j ≤ n → nat_abs (b j) ≤ B) where
  pub after_size : (k j : ℕ) → j ≤ n → nat_abs (after b k j) ≤ 2 ^ min k j * B
  unfolding after
  after_size zero j l = let e : min 0 j ≡ 0 = omega arith in rw e (omega (arith, small j l))
  after_size (suc k) j l = by_lt k j
      (λ m. let e : min k (j - 1) ≡ k = omega arith in let f : min k j ≡ k = omega arith in let g : min (suc k) j ≡ suc k = omega arith in
      rw (after_sum b k j m, g, NatL.pow-succ' 2 k)
      (omega (arith, nat_abs-+ (after b k (j - 1)) (after b k j), rw e at (after_size k (j - 1) (omega arith)), rw f at (after_size k j l))))
      (λ m. let e : min (suc k) j ≡ min k j = omega arith in rw (after_same b k j m, e) (after_size k j l))

  -- a power of two and the steps make 2^n
  times : (e k j : ℕ) → j ≤ n → e + min k j ≡ n → nat_abs (pos (2 ^ e) *ℤ after b k j) ≤ 2 ^ n * B
  times e k j l q = rw (nat_abs-* _ _, ← q, pow-add 2 e _, NatL.mul_assoc (2 ^ e) _ B) (NatL.mul-le-mul_left (2 ^ e) (after_size k j l))

  pub half_size : (h : Half) (j : ℕ) → j ≤ n → nat_abs (half_line h n b j) ≤ 2 ^ n * B
  unfolding half_line
  half_size lower j l = times (n - j) n j l (omega arith)
  half_size upper j l = times j (n - j) n (omega arith) (omega arith)

-- along any direction of a patch
pub line_size : (n : Degrees) (B : ℕ) (p : Patch) → ((i : Index) → Upto i n → nat_abs (p i) ≤ B) → (r : Direction) (k : ℕ) (j : Index) → Upto j n → nat_abs (after (line r p j) k (j ! r)) ≤ 2 ^ (n ! r) * B
line_size n B p h r k j u =
    NatL.le_trans (after_size (n ! r) B _ (λ i l. h (replace r i j) (upto_replace r i l u)) k (j ! r) (u.upto r))
    (NatL.mul-le-mul_right B (let m : min k (j ! r) ≤ n ! r = omega (arith, u.upto r) in pow_mono m))

-- ---- a line that can be cut
pub two_room : (n : ℕ) → n ≤ 62 → 2 ^ n * 2 ^ (62 - n) ≡ 2 ^ 62
two_room n h = let e : n + (62 - n) ≡ 62 = omega arith in rw (← pow-add 2 n (62 - n), e) refl

module _ (n : ℕ) (h62 : n ≤ 62) (b : Line) (small : (j : ℕ) → j ≤ n → Below (2 ^ (62 - n)) (b j)) where
  within : (j : ℕ) → j ≤ n → nat_abs (b j) ≤ 2 ^ (62 - n) - 1
  within j l = omega (arith, (small j l).below)

  room : {x : ℕ} → x ≤ 2 ^ n * (2 ^ (62 - n) - 1) → x < 2 ^ 62
  room h = omega (arith, two_room n h62, pow_pos n, NatL.mul-sub (2 ^ n) (2 ^ (62 - n)) 1)

  pub half_below : (h : Half) (j : ℕ) → j ≤ n → Below (2 ^ 62) (half_line h n b j)
  half_below h j l = record { below = room (half_size n _ b within h j l) }

  pub after_below : (k j : ℕ) → j ≤ n → Below (2 ^ 62) (after b k j)
  after_below k j l = record {
    below = room (NatL.le_trans (after_size n _ b within k j l) (NatL.mul-le-mul_right _ (let m : min k j ≤ n = omega arith in pow_mono m)));
  }

pub cut_fits : CutFits
cut_fits n m h r p c = record {
  stored = λ j u. half_below (n ! r) (omega (arith, m.small r)) (line r p j) (λ i l. c.cuttable (replace r i j) (upto_replace r i l u)) h (j ! r) (u.upto r);
}
