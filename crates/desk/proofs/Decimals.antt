-- The decimal digits of a number: the last one behind those of a tenth, how many there are, and that a number is printed so. Assumes nothing.
use mathlib.Core.Path.{◌≡◌, refl, sym, ap, subst, ◌∙◌}
use mathlib.Core.Bool.{Bool, true, false}
use mathlib.Core.List.{List, [], ◌∷◌, ◌++◌, append_assoc}
use mathlib.Core.Logic.{◌⊎◌, inl, inr, ⊎_elim}
use Prim.Native.Nat.{ℕ, zero, suc, ◌+◌, ◌-◌, ◌*◌, ◌/◌, ◌%◌, ◌^◌, ◌≤◌, ◌<◌}
use native.Mathlib.Omega.{arith}
use native.Mathlib.Nat.{pow-suc}
use borrow.Author.Tests.{lt-ltb, le-ltb, ltb-true, ltb-false}
use lib.Dec.{ltb}
use lib.ListN.{length, get_or, set, length-append, get_or-append}
use Rattle.std.specs.Fmt.{decimal as printed}
use Rattle.std.proofs.lemmas.Fmt.{decimal_from_appends, length-decimal-le_succ}
use Rattle.file.specs.Bytes.{over}
use Rattle.file.proofs.Putting.{put1, over_over, over_length}
use Rattle.desk.specs.Text.{digit, digits, decimal, value, SaysBack, OnlyDigits, NoLeadingZero, AsFew}

one_or_more : (n : ℕ) → (n < 10) ⊎ (10 ≤ n)
one_or_more n = from (ltb n 10) refl
  where
    from : (b : Bool) → ltb n 10 ≡ b → (n < 10) ⊎ (10 ≤ n)
    from true e = inl (ltb-true n 10 e)
    from false e = inr (ltb-false n 10 e)

-- one digit
digits_one : (more n : ℕ) → n < 10 → digits more n ≡ digit n
unfolding digits
digits_one zero n h = refl
digits_one (suc more) n h = rw (lt-ltb n 10 h, digits) refl

digits_more : (more n : ℕ) → 10 ≤ n → digits (suc more) n ≡ digits more (n / 10) ++ digit (n % 10)
unfolding digits
digits_more more n h = rw (le-ltb n 10 h, digits) refl

-- room for more digits than there are changes nothing
digits_same : (f g n : ℕ) → n ≤ f → n ≤ g → digits f n ≡ digits g n
digits_same zero g n p q = let h : n < 10 = omega arith in digits_one zero n h ∙ sym (digits_one g n h)
digits_same (suc f) zero n p q = let h : n < 10 = omega arith in digits_one (suc f) n h ∙ sym (digits_one zero n h)
digits_same (suc f) (suc g) n p q =
    ⊎_elim (λ (h : n < 10). digits_one (suc f) n h ∙ sym (digits_one (suc g) n h))
    (λ (h : 10 ≤ n). digits_more f n h ∙ ap (λ (ds : List ℕ). ds ++ digit (n % 10)) (digits_same f g (n / 10) (omega arith) (omega arith)) ∙ sym (digits_more g n h))
    (one_or_more n)

pub decimal_one : (n : ℕ) → n < 10 → decimal n ≡ digit n
unfolding decimal
decimal_one n h = digits_one n n h

pub decimal_more : (n : ℕ) → 10 ≤ n → decimal n ≡ decimal (n / 10) ++ digit (n % 10)
unfolding decimal
decimal_more zero h = absurd (omega arith)
decimal_more (suc k) h =
    digits_more k (suc k) h
    ∙ ap (λ (ds : List ℕ). ds ++ digit (suc k % 10)) (digits_same k (suc k / 10) (suc k / 10) (omega arith) (omega arith))

pub decimal_length : (n : ℕ) → 10 ≤ n → length (decimal n) ≡ length (decimal (n / 10)) + 1
decimal_length n h = ap length (decimal_more n h) ∙ length-append (decimal (n / 10)) (digit (n % 10))

-- a number below 10^(k+1) has at most k + 1 digits
pub as_few : AsFew
as_few zero n h = let e : length (decimal n) ≡ 1 = ap length (decimal_one n (omega arith)) in omega arith
as_few (suc k) n h =
    ⊎_elim (λ (s : n < 10). let e : length (decimal n) ≡ 1 = ap length (decimal_one n s) in omega arith)
    (λ (m : 10 ≤ n). let i : length (decimal (n / 10)) ≤ suc k = as_few k (n / 10) (omega (arith, pow-suc 10 (suc k))) in omega (arith, decimal_length n m))
    (one_or_more n)

-- ---- read back
value_last : (v : ℕ) (ds : List ℕ) (d : ℕ) → value v (ds ++ (d ∷ [])) ≡ 10 * value v ds + (d - 48)
unfolding value
value_last v [] d = refl
value_last v (e ∷ ds) d = value_last (10 * v + (e - 48)) ds d

value_one : (n : ℕ) → value 0 (digit n) ≡ n
unfolding value
value_one n = omega arith

value_decimal : (f n : ℕ) → n ≤ f → value 0 (decimal n) ≡ n
value_decimal zero n p = ap (value 0) (decimal_one n (omega arith)) ∙ value_one n
value_decimal (suc f) n p =
    ⊎_elim (λ (h : n < 10). ap (value 0) (decimal_one n h) ∙ value_one n)
    (λ (h : 10 ≤ n).
    let r : value 0 (decimal (n / 10)) ≡ n / 10 = value_decimal f (n / 10) (omega arith) in
    ap (value 0) (decimal_more n h) ∙ value_last 0 (decimal (n / 10)) (48 + n % 10) ∙ omega arith)
    (one_or_more n)

pub says_back : SaysBack
says_back n = value_decimal n n (omega arith)

-- ---- each is a digit
abbrev IsDigit : ℕ → Type 0
IsDigit d = (48 ≤ d) × (d ≤ 57)

pub record Digits (ds : List ℕ) : Type 0 where
  pub each : (i : ℕ) → i < length ds → IsDigit (get_or ds i 0)

one_digit : (d : ℕ) → d < 10 → Digits (digit d)
one_digit d h = record { each = at }
  where
    at : (i : ℕ) → i < 1 → IsDigit (get_or (digit d) i 0)
    at zero l = (omega arith, omega arith)
    at (suc i) l = absurd (omega arith)

behind : (ds : List ℕ) (d : ℕ) → d < 10 → Digits ds → Digits (ds ++ digit d)
behind [] d h g = one_digit d h
behind (e ∷ ds) d h g = record { each = at (behind ds d h (record { each = λ k b. g.each (suc k) (omega arith) })) }
  where
    at : Digits (ds ++ digit d) → (i : ℕ) → i < length (e ∷ (ds ++ digit d)) → IsDigit (get_or (e ∷ (ds ++ digit d)) i 0)
    at w zero l = g.each 0 (omega arith)
    at w (suc i) l = w.each i (omega arith)

decimal_digits : (f n : ℕ) → n ≤ f → Digits (decimal n)
decimal_digits zero n p = subst Digits (sym (decimal_one n (omega arith))) (one_digit n (omega arith))
decimal_digits (suc f) n p =
    ⊎_elim (λ (h : n < 10). subst Digits (sym (decimal_one n h)) (one_digit n h))
    (λ (h : 10 ≤ n). subst Digits (sym (decimal_more n h)) (behind (decimal (n / 10)) (n % 10) (omega arith) (decimal_digits f (n / 10) (omega arith))))
    (one_or_more n)

pub only_digits : OnlyDigits
only_digits n i l = (decimal_digits n n (omega arith)).each i l

-- ---- the first
some_digit : (n : ℕ) → 0 < length (decimal n)
some_digit n =
    ⊎_elim (λ (h : n < 10). let e : length (decimal n) ≡ 1 = ap length (decimal_one n h) in omega arith)
    (λ (h : 10 ≤ n). omega (arith, decimal_length n h))
    (one_or_more n)

first_digit : (f n : ℕ) → n ≤ f → 0 < n → 48 < get_or (decimal n) 0 0
first_digit zero n p q = absurd (omega arith)
first_digit (suc f) n p q =
    ⊎_elim (λ (h : n < 10). let e : get_or (decimal n) 0 0 ≡ 48 + n = ap (λ (ds : List ℕ). get_or ds 0 0) (decimal_one n h) in omega arith)
    (λ (h : 10 ≤ n).
    let e : get_or (decimal n) 0 0 ≡ get_or (decimal (n / 10)) 0 0
    = ap (λ (ds : List ℕ). get_or ds 0 0) (decimal_more n h) ∙ get_or-append (decimal (n / 10)) (digit (n % 10)) 0 0 (some_digit (n / 10)) in
    omega (arith, e, first_digit f (n / 10) (omega arith) (omega arith)))
    (one_or_more n)

pub no_leading_zero : NoLeadingZero
no_leading_zero n h = first_digit n n (omega arith) h

-- ---- a number of 64 bits is printed so
pub decimal_same : (n : ℕ) → n < 2 ^ 64 → printed n ≡ decimal n
unfolding decimal
decimal_same n h =
    let short = length-decimal-le_succ n h in
    sym (decimal_from_appends digits (record { one = λ k m l. digits_one (suc k) m l; more = digits_more }) (suc n) n h (omega (arith, short)))
    ∙ digits_same (suc n) n n (omega arith) (omega arith)

-- ---- two digits at a time
abbrev pub pair : ℕ → List ℕ
pair n = (48 + n / 10) ∷ (48 + n % 10) ∷ []

pub decimal_two : (n : ℕ) → 10 ≤ n → n < 100 → decimal n ≡ pair n
decimal_two n h l = decimal_more n h ∙ ap (λ (ds : List ℕ). ds ++ digit (n % 10)) (decimal_one (n / 10) (omega arith))

pub decimal_pairs : (n : ℕ) → 100 ≤ n → decimal n ≡ decimal (n / 100) ++ pair (n % 100)
decimal_pairs n h =
    let q : n / 10 / 10 ≡ n / 100 = omega arith in
    let d : n / 10 % 10 ≡ n % 100 / 10 = omega arith in
    let e : n % 10 ≡ n % 100 % 10 = omega arith in
    decimal_more n (omega arith)
    ∙ ap (λ (ds : List ℕ). ds ++ digit (n % 10)) (decimal_more (n / 10) (omega arith))
    ∙ append_assoc (decimal (n / 10 / 10)) (digit (n / 10 % 10)) (digit (n % 10))
    ∙ rw (q, d, e) refl

-- ---- put into a target
module _ (t : List ℕ) (at n : ℕ) (fit : at + length (decimal n) ≤ length t) where
  pub one_put : n < 10 → (at + 1 ≡ at + length (decimal n)) × (set t at (48 + n) ≡ over t at (decimal n))
  one_put h = let e : decimal n ≡ digit n = decimal_one n h in
      let l : length (decimal n) ≡ 1 = ap length e in
      (omega arith, put1 t at (48 + n) (omega arith) ∙ ap (over t at) (sym e))

  module _ (h : 100 ≤ n) where
    pub pairs_length : length (decimal n) ≡ length (decimal (n / 100)) + 2
    pairs_length = ap length (decimal_pairs n h) ∙ length-append (decimal (n / 100)) (pair (n % 100))

    module _ (o : ℕ) (t' : List ℕ) (eo : o ≡ at + length (decimal (n / 100))) (et : t' ≡ over t at (decimal (n / 100))) where
      same : length t' ≡ length t
      same = ap length et ∙ over_length t at (decimal (n / 100)) (omega (arith, pairs_length))

      pub last_fits : o + 2 ≤ length t'
      last_fits = omega (arith, same, pairs_length)

      pub last_put : (u : List ℕ) → u ≡ over t' o (pair (n % 100)) → (o + 2 ≡ at + length (decimal n)) × (u ≡ over t at (decimal n))
      last_put u p = (
        omega (arith, pairs_length),
        p
            ∙ rw (et, eo) (over_over t at (decimal (n / 100)) (pair (n % 100)) (omega (arith, pairs_length)))
            ∙ ap (over t at) (sym (decimal_pairs n h)),
      )
