-- Numbers to bytes and back: reading what was written gives the number, writing what was read gives the bytes. Assumes nothing.
use mathlib.Core.Path.{◌≡◌, refl, sym, ap, ◌∙◌}
use mathlib.Core.List.{List, [], ◌∷◌}
use Prim.Native.Nat.{ℕ, zero, suc, ◌+◌, ◌-◌, ◌*◌, ◌^◌, ◌/◌, ◌%◌, ◌≤◌, ◌<◌}
use native.Mathlib.Omega.{arith}
use borrow.Author.Tests.{lt-ltb, le-ltb}
use lib.IntN.{ℤ, pos, negsuc, neg_ℤ}
use lib.ListN.{length, take, drop}
use lib.Seq.{take-suc, get_or-drop}
use mir.Syntax.{w32}
use mir.Val.{to_z, of_z}
use mir.Facts.{to_z_pos, to_z-neg, of_z-to_z}
use Rattle.std.specs.Int.{to_le_bytes}
use Rattle.whole.specs.Size.{Below}
use Rattle.whole.proofs.Parts.{by_lt}
use Rattle.file.specs.Bytes.{byte, Bytes, AnyBytes, word16, word32, signed32, unsigned32, four_bytes, bytes16, bytes32}

-- ---- past the end stands a 0
byte_below : (s : List ℕ) → ((i : ℕ) → i < length s → byte s i < 256) → (i : ℕ) → byte s i < 256
byte_below [] h i = omega arith
byte_below (x ∷ s) h zero = h 0 (omega arith)
byte_below (x ∷ s) h (suc i) = byte_below s (λ k l. h (suc k) (omega arith)) i

pub any_bytes : AnyBytes
any_bytes s h = record { at = byte_below s h }

-- ---- two bytes
pub word16_bytes : (n : ℕ) → n % 256 + 256 * (n / 256) ≡ n
word16_bytes n = omega arith

pub bytes_word16 : (a b : ℕ) → a < 256 → bytes16 (a + 256 * b) ≡ a ∷ b ∷ []
bytes_word16 a b h =
    let e : (a + 256 * b) % 256 ≡ a = omega arith in
    let f : (a + 256 * b) / 256 ≡ b = omega arith in
    rw (e, f) refl

-- a number below 256 in two bytes
pub word16_small : (s : List ℕ) (i n : ℕ) → Bytes s → word16 s i ≡ n → n < 256 → (byte s i ≡ n) × (byte s (i + 1) ≡ 0)
word16_small s i n b e h = (omega (arith, b.at i), omega (arith, b.at i))

-- ---- the sign of four bytes
pub signed_low : (u : ℕ) → u < 2147483648 → pos u ≡ signed32 u
unfolding signed32
signed_low u h = rw (lt-ltb u 2147483648 h) refl

pub signed_high : (u : ℕ) → 2147483648 ≤ u → neg_ℤ (pos (4294967296 - u)) ≡ signed32 u
unfolding signed32
signed_high u h = rw (le-ltb u 2147483648 h) refl

-- what the machine makes of 32 bits
pub signed_bits : (u n : ℕ) → u ≡ n → n < 4294967296 → to_z w32 u ≡ signed32 n
signed_bits u n e h = rw e (by_lt n 2147483648 (λ p. to_z_pos w32 p ∙ signed_low n p) (λ q.
    let k : 4294967296 - n ≡ suc (4294967295 - n) = omega arith in
    let m : 4294967296 - suc (4294967295 - n) ≡ n = omega arith in
    (rw m at (to_z-neg w32 (4294967295 - n) (omega arith))) ∙ (rw k at (signed_high n q))))

pub signed_back : (x : ℤ) → Below 2147483648 x → signed32 (unsigned32 x) ≡ x
unfolding unsigned32
signed_back (pos n) b = sym (signed_low n (omega arith))
signed_back (negsuc n) b = sym (signed_high (4294967295 - n) (omega arith)) ∙ (let e : 4294967296 - (4294967295 - n) ≡ suc n = omega arith in rw e refl)

negated : (n : ℕ) → 0 < n → n ≤ 2147483648 → unsigned32 (neg_ℤ (pos n)) ≡ 4294967296 - n
unfolding unsigned32
negated zero p q = absurd (let z : ⊥ = omega arith in z)
negated (suc n) p q = omega arith

pub unsigned_back : (u : ℕ) → u < 4294967296 → unsigned32 (signed32 u) ≡ u
unfolding unsigned32
unsigned_back u h =
    by_lt u 2147483648 (λ p. ap unsigned32 (sym (signed_low u p)))
    (λ q. ap unsigned32 (sym (signed_high u q)) ∙ negated (4294967296 - u) (omega arith) (omega arith) ∙ (let e : 4294967296 - (4294967296 - u) ≡ u = omega arith in e))

-- ---- four bytes
pub word32_bytes : (u : ℕ) → u % 256 + 256 * (u / 256 % 256) + 65536 * (u / 256 / 256 % 256) + 16777216 * (u / 256 / 256 / 256) ≡ u
word32_bytes u = omega arith

bytes_word32 : (a b c d : ℕ) → a < 256 → b < 256 → c < 256 → d < 256 → four_bytes (a + 256 * b + 65536 * c + 16777216 * d) ≡ a ∷ b ∷ c ∷ d ∷ []
bytes_word32 a b c d ha hb hc hd =
    let e0 : (a + 256 * b + 65536 * c + 16777216 * d) % 256 ≡ a = omega arith in
    let f1 : (a + 256 * b + 65536 * c + 16777216 * d) / 256 ≡ b + 256 * c + 65536 * d = omega arith in
    let e1 : (b + 256 * c + 65536 * d) % 256 ≡ b = omega arith in
    let f2 : (b + 256 * c + 65536 * d) / 256 ≡ c + 256 * d = omega arith in
    let e2 : (c + 256 * d) % 256 ≡ c = omega arith in
    let e3 : (c + 256 * d) / 256 ≡ d = omega arith in
    rw (f1, f2, e0, e1, e2, e3) refl

-- four bytes, read and written
pub bytes32_back : (r : List ℕ) (i : ℕ) → Bytes r → bytes32 (signed32 (word32 r i)) ≡ byte r i ∷ byte r (i + 1) ∷ byte r (i + 2) ∷ byte r (i + 3) ∷ []
bytes32_back r i b =
    rw (unsigned_back (word32 r i) (omega (arith, b.at i, b.at (i + 1), b.at (i + 2), b.at (i + 3))))
    (bytes_word32 (byte r i) (byte r (i + 1)) (byte r (i + 2)) (byte r (i + 3)) (b.at i) (b.at (i + 1)) (b.at (i + 2)) (b.at (i + 3)))

-- a number, written and read
pub value_back : (x : ℤ) → Below 2147483648 x → (let u = unsigned32 x in signed32 (u % 256 + 256 * (u / 256 % 256) + 65536 * (u / 256 / 256 % 256) + 16777216 * (u / 256 / 256 / 256))) ≡ x
value_back x b = rw (word32_bytes (unsigned32 x)) (signed_back x b)

pub unsigned_fits : (x : ℤ) → Below 2147483648 x → unsigned32 x < 4294967296
unfolding unsigned32
unsigned_fits (pos n) b = omega (arith, b.below)
unsigned_fits (negsuc n) b = omega arith

-- the machine's four bytes of a signed number
pub machine_bits : (x y : ℤ) → Below 2147483648 x → y ≡ x → of_z w32 (to_z w32 (of_z w32 y)) ≡ unsigned32 x
unfolding unsigned32
machine_bits (pos n) y b e = rw e (of_z-to_z {w = w32} {n = n} (record { fits = omega (arith, b.below) }))
machine_bits (negsuc n) y b e = rw e (of_z-to_z {w = w32} {n = 4294967296 - suc n} (record { fits = omega (arith, b.below) }) ∙ omega arith)

pub machine_bytes : (n u : ℕ) → n ≡ u → u < 4294967296 → to_le_bytes w32 n ≡ four_bytes u
machine_bytes n u e h =
    let f : u / 256 ^ 1 ≡ u / 256 = omega arith in
    let g : u / 256 ^ 2 ≡ u / 256 / 256 = omega arith in
    let k : u / 256 ^ 3 % 256 ≡ u / 256 / 256 / 256 = omega arith in
    rw (e, f, g, k) refl

-- ---- bytes further on
pub byte_drop : (s : List ℕ) (at i : ℕ) → byte (drop at s) i ≡ byte s (at + i)
byte_drop s at i = get_or-drop at s i 0

pub bytes_drop : (n : ℕ) {s : List ℕ} → Bytes s → Bytes (drop n s)
bytes_drop n {s} b = record { at = λ i. rw (byte_drop s n i) (b.at (n + i)) }

-- ---- the first elements of a list, one by one
pub take4 : (r : List ℕ) → 4 ≤ length r → take 4 r ≡ byte r 0 ∷ byte r 1 ∷ byte r 2 ∷ byte r 3 ∷ []
take4 r h = rw (take-suc r 3 0 (omega arith), take-suc r 2 0 (omega arith), take-suc r 1 0 (omega arith), take-suc r 0 0 (omega arith)) refl

pub take5 : (r : List ℕ) → 5 ≤ length r → take 5 r ≡ byte r 0 ∷ byte r 1 ∷ byte r 2 ∷ byte r 3 ∷ byte r 4 ∷ []
take5 r h = rw (take-suc r 4 0 (omega arith), take4 r (omega arith)) refl

pub take7 : (r : List ℕ) → 7 ≤ length r → take 7 r ≡ byte r 0 ∷ byte r 1 ∷ byte r 2 ∷ byte r 3 ∷ byte r 4 ∷ byte r 5 ∷ byte r 6 ∷ []
take7 r h = rw (take-suc r 6 0 (omega arith), take-suc r 5 0 (omega arith), take5 r (omega arith)) refl

pub take12 : (r : List ℕ) → 12 ≤ length r
    → take 12 r ≡ byte r 0 ∷ byte r 1 ∷ byte r 2 ∷ byte r 3 ∷ byte r 4 ∷ byte r 5 ∷ byte r 6 ∷ byte r 7 ∷ byte r 8 ∷ byte r 9 ∷ byte r 10 ∷ byte r 11 ∷ []
take12 r h = rw (take-suc r 11 0 (omega arith), take-suc r 10 0 (omega arith), take-suc r 9 0 (omega arith), take-suc r 8 0 (omega arith), take-suc r 7 0 (omega arith), take7 r (omega arith)) refl
