-- What the private functions promise and ask: rows of w neighbouring numbers, and the work of each loop on w neighbouring lines. The public contracts do not
-- mention any of it. Definitions only.
use Rattle.std.specs.Prelude.{◌≡◌, Bool, true, false, cond, List, ℕ, zero, suc, ◌+◌, ◌*◌, ◌-◌, ◌^◌, ◌≤◌, ◌<◌, ltb, ℤ, pos, ◌+ℤ◌, ◌*ℤ◌, length}
use Rattle.whole.specs.Size.{Below}
use Rattle.lines.specs.Lines.{at, Line, along, Room}

-- ---- the work of the loops
-- step k + 1: each entry after k is the sum of the one before it and itself, old values both
unfoldable pub stepped : ℕ → Line → Line
stepped k b j = cond (ltb k j) (b (j - 1) +ℤ b j) (b j)

-- entry k times 2 ^ k
abbrev pub raised : Line → Line
raised b k = pos (2 ^ k) *ℤ b k

-- the sum of entries j - d to j, from entry j on; and that sum at each entry up to j
unfoldable pub sum_down : Line → ℕ → ℕ → ℤ
sum_down b j zero = b j
sum_down b j (suc d) = b (j - suc d) +ℤ sum_down b j d

abbrev pub summed : ℕ → Line → Line
summed j b i = sum_down b j (j - i)

-- ---- a row: w neighbouring numbers from a on are v 0, .., v (w - 1), and the other places hold what they held
pub record RowPut (a w : ℕ) (v : ℕ → ℤ) (old new : List ℤ) : Type 0 where
  pub size : length new ≡ length old
  pub put : (f : ℕ) → f < w → at new (a + f) ≡ v f
  pub kept : (p : ℕ) → ((f : ℕ) → f < w → p ≡ a + f → ⊥) → at new p ≡ at old p

-- ---- r says of a test that is made of each number whether all were answered true; E z b says that z can be answered b
pub record AllAnswer (E : ℤ → Bool → Type 0) (l : List ℤ) (r : Bool) : Type 0 where
  pub every : r ≡ true → (k : ℕ) → k < length l → E (at l k) true
  pub one : r ≡ false → (k : ℕ) × (k < length l) × E (at l k) false

-- ---- what is asked
-- w neighbouring lines of degree n at base from, which can be cut
pub record Ready {H : Type 0} (base : H → ℕ) (from : H) (w inner n : ℕ) (l : List ℤ) : Type 0 where
  pub degree : n ≤ 6
  pub apart : w ≤ inner
  pub room : Room base (w + n * inner) l
  pub small : (f i : ℕ) → f < w → i ≤ n → Below (2 ^ (62 - n)) (at l (base from + f + i * inner))

-- w numbers from a on
pub record Row (m : ℕ) (w a : ℕ) (f : ℤ → ℤ) (l : List ℤ) : Type 0 where
  pub fits : a + w ≤ length l
  pub small : (g : ℕ) → g < w → Below m (f (at l (a + g)))

-- w lines of degree n at first
pub record Block (w first inner n : ℕ) (l : List ℤ) : Type 0 where
  pub apart : w ≤ inner
  pub fits : first + (w + n * inner) ≤ length l

abbrev pub EntriesBelow : (w first inner n : ℕ) → List ℤ → Type 0
EntriesBelow w first inner n l = (f i : ℕ) → f < w → i ≤ n → Below (2 ^ 62) (at l (first + f + i * inner))

abbrev pub SumsBelow : (w first inner j : ℕ) → List ℤ → Type 0
SumsBelow w first inner j l = (f d : ℕ) → f < w → d ≤ j → Below (2 ^ 62) (sum_down (along l (first + f) inner) j d)

abbrev pub RaisedBelow : (w first inner n : ℕ) → List ℤ → Type 0
RaisedBelow w first inner n l = (f k : ℕ) → f < w → k ≤ n → Below (2 ^ 63) (pos (2 ^ k) *ℤ at l (first + f + k * inner))
