-- Bytes and the numbers that they make (01, "The system file": little-endian; a coefficient is signed, of 32 bits), and bytes put into a target.
-- Definitions, and the statement that every list of bytes is one.
use Rattle.std.specs.Prelude.{cond, List, [], ◌∷◌, ◌++◌, ℕ, ◌+◌, ◌-◌, ◌*◌, ◌/◌, ◌%◌, ◌<◌, ltb, ℤ, pos, negsuc, neg_ℤ, get_or, length, take, drop}

abbrev pub byte : List ℕ → ℕ → ℕ
byte s i = get_or s i 0

-- every element is a byte: so it is in a lent slice of bytes
pub record Bytes (s : List ℕ) : Type 0 where
  pub at : (i : ℕ) → byte s i < 256

abbrev pub AnyBytes : Type 0
AnyBytes = (s : List ℕ) → ((i : ℕ) → i < length s → byte s i < 256) → Bytes s

-- ---- from bytes to numbers: what the two, the four bytes from i on say
abbrev pub word16 : List ℕ → ℕ → ℕ
word16 s i = byte s i + 256 * byte s (i + 1)

abbrev pub word32 : List ℕ → ℕ → ℕ
word32 s i = byte s i + 256 * byte s (i + 1) + 65536 * byte s (i + 2) + 16777216 * byte s (i + 3)

-- two's complement
unfoldable pub signed32 : ℕ → ℤ
signed32 u = cond (ltb u 2147483648) (pos u) (neg_ℤ (pos (4294967296 - u)))

-- ---- from numbers to bytes
abbrev pub bytes16 : ℕ → List ℕ
bytes16 n = n % 256 ∷ n / 256 ∷ []

unfoldable pub unsigned32 : ℤ → ℕ
unsigned32 (pos n) = n
unsigned32 (negsuc n) = 4294967295 - n

abbrev pub four_bytes : ℕ → List ℕ
four_bytes u = u % 256 ∷ u / 256 % 256 ∷ u / 256 / 256 % 256 ∷ u / 256 / 256 / 256 ∷ []

abbrev pub bytes32 : ℤ → List ℕ
bytes32 x = four_bytes (unsigned32 x)

-- ---- the target t with bs from place at on
unfoldable pub over : List ℕ → ℕ → List ℕ → List ℕ
over t at bs = take at t ++ (bs ++ drop (at + length bs) t)
