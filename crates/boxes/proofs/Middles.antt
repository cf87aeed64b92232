-- An odd whole number over a power of two is exact as a double, and no other double has that value. Assumes nothing.
use mathlib.Core.Path.{◌≡◌, refl, sym, ap, ◌∙◌}
use mathlib.Core.Bool.{Bool, true, false, ◌&&◌}
use Prim.Native.Nat.{ℕ, zero, suc, ◌+◌, ◌-◌, ◌*◌, ◌%◌, ◌^◌, ◌≤◌, ◌<◌}
use native.Mathlib.Nat.{mul-one, mul_comm, mul_assoc, mul_left_comm, mul-pos, zero-mul, zero-lt-suc, le_of_lt, lt_of_lt_of_le, sub-add_cancel, pow-succ'}
use native.Mathlib.Omega.{arith}
use lib.Dec.{T, eqb, ltb, leb, eqb→eq, eqb-suc-zero}
use lib.IntN.{ℤ, pos, negsuc}
use lib.Pow.{pow_pos, pow-add, pow_mono, shl_lt}
use lib.Ieee.{Float, nan, inf, fin, binary64, up, down, round, div, of_int, fits}
use lib.Ieee.Exact.{HasValue, round_exact}
use lib.Ieee.Back.{round_whole}
use lib.Ieee.Scale.{round_same}
use lib.Ieee.Fits.{up_pos, down_pos, round-fits, and_l}
use Rattle.boxes.specs.Middles.{over_power, Exactly}
use Rattle.boxes.specs.Claims.{DoublesExact, DoublesOnce}

-- ---- the values of specs/Middles are exact
over_power_exactly : (m s : ℕ) → Exactly (over_power m s) m (suc s)
over_power_exactly m s = (refl, ap (λ (x : ℕ). x * 2 ^ suc s) (mul-one m))

pub doubles_exact : DoublesExact
doubles_exact i = (over_power_exactly (2 * i.position + 1) i.cuts, over_power_exactly 1 i.cuts)

-- ---- and no other double has their value
odd_even : (m t : ℕ) → m % 2 ≡ 1 → m ≡ 2 * t → ⊥
odd_even m t o h = omega arith

doubled : (m a : ℕ) → m * 2 ^ suc a ≡ 2 * (m * 2 ^ a)
doubled m a = ap (λ (x : ℕ). m * x) (pow-succ' 2 a) ∙ mul_left_comm m 2 (2 ^ a)

halved : (x y : ℕ) → 2 * x ≡ 2 * y → x ≡ y
halved x y h = omega arith

odd_powers : (m n a b : ℕ) → m % 2 ≡ 1 → n % 2 ≡ 1 → m * 2 ^ a ≡ n * 2 ^ b → (m ≡ n) × (a ≡ b)
odd_powers m n zero zero o p h = (sym (mul-one m) ∙ h ∙ mul-one n, refl)
odd_powers m n zero (suc b) o p h = absurd (odd_even m (n * 2 ^ b) o (sym (mul-one m) ∙ h ∙ doubled n b))
odd_powers m n (suc a) zero o p h = absurd (odd_even n (m * 2 ^ a) p (sym (mul-one n) ∙ sym h ∙ doubled m a))
odd_powers m n (suc a) (suc b) o p h =
    let r = odd_powers m n a b o p (halved (m * 2 ^ a) (n * 2 ^ b) (sym (doubled m a) ∙ h ∙ doubled n b)) in (r.0, ap suc r.1)

-- a double's whole number is odd, unless it is 0
fits_odd : (s : Bool) (m : ℕ) (e : ℤ) → T (fits binary64 (fin s (suc m) e)) → suc m % 2 ≡ 1
unfolding fits
fits_odd s m e t =
    let a = eqb (suc m % 2) 1 in
    let b = ltb (suc m) (2 ^ 53) in
    let c = leb (down e) (2 ^ 1074) in
    eqb→eq (suc m % 2) 1 (and_l a b (and_l (a && b) c (and_l (a && b && c) (ltb (suc m * up e) (2 ^ 1024 * down e)) t)))

not_zero : (x y : ℕ) → 0 < y → x ≡ 0 → x ≡ y → ⊥
not_zero x y p q r = omega arith

odd_pos : (a : ℕ) → a % 2 ≡ 1 → 0 < a
odd_pos a o = omega arith

pub doubles_once : DoublesOnce
doubles_once nan a s f o v = absurd v
doubles_once (inf t) a s f o v = absurd v
doubles_once (fin t zero e) a s f o v =
    absurd (not_zero (0 * up e * 2 ^ suc s) (a * down e) (mul-pos (odd_pos a o) (down_pos e)) (ap (λ (x : ℕ). x * 2 ^ suc s) (zero-mul (up e)) ∙ zero-mul (2 ^ suc s)) v.1)
doubles_once (fin t (suc m) (pos j)) a s f o v =
    let r = odd_powers (suc m) a (j + suc s) 0 (fits_odd t m (pos j) f) o (ap (λ (x : ℕ). suc m * x) (pow-add 2 j (suc s)) ∙ sym (mul_assoc (suc m) (2 ^ j) (2 ^ suc s)) ∙ v.1) in
    absurd (omega (arith, r.1))
doubles_once (fin t (suc m) (negsuc j)) a s f o v =
    let r = odd_powers (suc m) a (suc s) (suc j) (fits_odd t m (negsuc j) f) o (ap (λ (x : ℕ). x * 2 ^ suc s) (sym (mul-one (suc m))) ∙ v.1) in
    let e : j ≡ s = omega (arith, r.1) in
    λ i. fin (v.0 i) (r.0 i) (negsuc (e i))

-- ---- the code's quotient
-- M = m · up e and N = n · up d are a and 2^t over the denominators E and D
cross : (M E N D a t : ℕ) → M * 1 ≡ a * E → N * 1 ≡ 2 ^ t * D → M * D * 2 ^ t ≡ a * (N * E)
cross M E N D a t x y =
    let x' : M ≡ a * E = sym (mul-one M) ∙ x in
    let y' : N ≡ 2 ^ t * D = sym (mul-one N) ∙ y in
    rw (x', y') (simp (mul_assoc, mul_comm, mul_left_comm))

differ : true ≡ false → ⊥
differ z = let y : ◌≡◌ {A = ℕ} 0 1 = cc in omega arith

-- of two doubles that are whole numbers, the second a power of two
quotient : (x y : Float) (a t : ℕ) → HasValue x false a 1 → HasValue y false (2 ^ t) 1 → div binary64 x y ≡ round binary64 false a (2 ^ t)
unfolding div
quotient nan y a t v w = absurd v
quotient (inf s) y a t v w = absurd v
quotient (fin s m e) nan a t v w = absurd w
quotient (fin s m e) (inf u) a t v w = absurd w
quotient (fin true m e) (fin u n d) a t v w = absurd (differ v.0)
quotient (fin false m e) (fin true n d) a t v w = absurd (differ w.0)
quotient (fin false m e) (fin false zero d) a t v w =
    absurd (not_zero (0 * up d * 1) (2 ^ t * down d) (mul-pos (pow_pos t) (down_pos d)) (mul-one (0 * up d) ∙ zero-mul (up d)) w.1)
quotient (fin false m e) (fin false (suc n) d) a t v w =
    rw (eqb-suc-zero n)
    (round_same binary64 false (m * up e * down d) (suc n * up d * down e) a (2 ^ t) (mul-pos (mul-pos (zero-lt-suc n) (up_pos d)) (down_pos e)) (pow_pos t)
    (cross (m * up e) (down e) (suc n * up d) (down d) a t v.1 w.1))

-- a whole number up to 2^53, cast
cast_exact : (n : ℕ) → n ≤ 2 ^ 53 → HasValue (of_int binary64 (pos n)) false n 1
unfolding of_int
cast_exact n h = round_whole binary64 false n h

fine : (a t : ℕ) → a < 2 ^ 53 → a * 2 ^ (1074 - t) < 2 ^ (1074 + 1024)
fine a t h = lt_of_lt_of_le (shl_lt 53 (1074 - t) h) (pow_mono (wide t))
  where
    wide : (t : ℕ) → 53 + (1074 - t) ≤ 1074 + 1024
    wide t = omega arith

shifted : (a t : ℕ) → t ≤ 1074 → a * 2 ^ 1074 ≡ a * 2 ^ (1074 - t) * 2 ^ t
shifted a t h = ap (λ (x : ℕ). a * x) (ap (λ (k : ℕ). 2 ^ k) (sym (sub-add_cancel h)) ∙ pow-add 2 (1074 - t) t) ∙ sym (mul_assoc a (2 ^ (1074 - t)) (2 ^ t))

rounded : (a s : ℕ) → a < 2 ^ 53 → suc s ≤ 1074 → a % 2 ≡ 1 → round binary64 false a (2 ^ suc s) ≡ over_power a s
rounded a s h l o =
    doubles_once (round binary64 false a (2 ^ suc s)) a s (round-fits binary64 false a (2 ^ suc s)) o
    (value (round binary64 false a (2 ^ suc s)) (round_exact binary64 false a (2 ^ suc s) a (1074 - suc s) (pow_pos (suc s)) h (fine a (suc s) h) (shifted a (suc s) l)))
  where
    value : (x : Float) → HasValue x false a (2 ^ suc s) → Exactly x a (suc s)
    value nan v = v
    value (inf t) v = v
    value (fin t m e) v = v

pub quotient_is : (a b s : ℕ) → a < 2 ^ 53 → s ≤ 52 → a % 2 ≡ 1 → b ≡ 2 ^ suc s → div binary64 (of_int binary64 (pos a)) (of_int binary64 (pos b)) ≡ over_power a s
quotient_is a b s h l o e =
    rw e
    (quotient (of_int binary64 (pos a)) (of_int binary64 (pos (2 ^ suc s))) a (suc s) (cast_exact a (le_of_lt h)) (cast_exact (2 ^ suc s) (pow_mono (up_one l)))
    ∙ rounded a s h (low_enough l) o)
  where
    up_one : s ≤ 52 → suc s ≤ 53
    up_one p = omega arith

    low_enough : s ≤ 52 → suc s ≤ 1074
    low_enough p = omega arith
