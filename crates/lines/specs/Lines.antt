-- Lines of numbers in a flat store, what work on some of them leaves in it (01, "The numbers of a box": a box is cut along all lines of one direction), and what
-- that work needs. One record, `Worked`, says it of the cut, of the steps of the start, and of each loop on the way. Definitions only.
use Rattle.std.specs.Prelude.{◌≡◌, List, ℕ, ◌+◌, ◌*◌, ◌-◌, ◌^◌, ◌≤◌, ◌<◌, ℤ, pos, length, get_or}
use Rattle.whole.specs.Half.{Half, lower, upper}
use Rattle.whole.specs.Size.{Below}
use Rattle.bernstein.specs.Numbers.{after, half_line}

-- number p of the store l
abbrev pub at : List ℤ → ℕ → ℤ
at l p = get_or l p (pos 0)

abbrev pub Line : Type 0
Line = ℕ → ℤ

-- the line that starts at place first, its entries inner places apart
abbrev pub along : List ℤ → ℕ → ℕ → Line
along l first inner i = at l (first + i * inner)

-- p is none of the first n + 1 places of the lines that start at first + f, where f is in F
abbrev pub Off : (ℕ → Type 0) → ℕ → ℕ → ℕ → ℕ → Type 0
Off F first inner n p = (f j : ℕ) → F f → j ≤ n → p ≡ first + f + j * inner → ⊥

-- The lines of degree n that start at base from + f, where f is in F, are worked on: for each h what `work h` makes of such a line stands at base h + f,
-- and every place that is not written so holds what it held.
pub record Worked {H : Type 0} (work : H → Line → Line) (base : H → ℕ) (from : H) (F : ℕ → Type 0) (inner n : ℕ) (old new : List ℤ) : Type 0 where
  pub size : length new ≡ length old
  pub entries : (h : H) (f j : ℕ) → F f → j ≤ n → at new (base h + f + j * inner) ≡ work h (along old (base from + f) inner) j
  pub kept : (p : ℕ) → ((h : H) → Off F (base h) inner n p) → at new p ≡ at old p

-- ---- which lines: w neighbours, or all lines of o blocks that stand side by side, each of size numbers
abbrev pub Under : ℕ → ℕ → Type 0
Under w f = f < w

pub record InBlocks (size inner o f : ℕ) : Type 0 where
  pub block : ℕ
  pub line : ℕ
  pub which : block < o
  pub inside : line < inner
  pub is : f ≡ block * size + line

-- ---- which work
-- the cut: the upper half takes the line's place, at up, and the lower half goes to lo
abbrev pub half_at : ℕ → ℕ → Half → ℕ
half_at up lo lower = lo
half_at up lo upper = up

abbrev pub halves : ℕ → Half → Line → Line
halves n h b j = half_line h n b j

abbrev pub LinesCut : (ℕ → Type 0) → (up lo inner n : ℕ) → (old new : List ℤ) → Type 0
LinesCut F up lo inner n old new = Worked (halves n) (half_at up lo) upper F inner n old new

-- work in place: the line's own place is the only one
abbrev pub only : Unit {0}
only = tt

abbrev pub InPlace : (Line → Line) → (ℕ → Type 0) → (first inner n : ℕ) → (old new : List ℤ) → Type 0
InPlace work F first inner n old new = Worked (λ h. work) (λ h. first) only F inner n old new

-- all n steps along each line
abbrev pub LinesSpread : (ℕ → Type 0) → (first inner n : ℕ) → (old new : List ℤ) → Type 0
LinesSpread F first inner n old new = InPlace (λ b. after b n) F first inner n old new

-- ---- what it needs: room in the store, and numbers small enough (01, "A box can be cut in direction r if every number is at most 2^(62-n_r) - 1 in size")
-- The parts of size numbers that start at base h lie in the store l, and no two of them share a place.
pub record Room {H : Type 0} (base : H → ℕ) (size : ℕ) (l : List ℤ) : Type 0 where
  pub fits : (h : H) → base h + size ≤ length l
  pub once : (h k : H) (x y : ℕ) → x < size → y < size → base h + x ≡ base k + y → h ≡ k

-- outer blocks side by side, each of n + 1 rows of inner neighbouring numbers
pub record ReadyBlocks {H : Type 0} (base : H → ℕ) (from : H) (outer inner n : ℕ) (l : List ℤ) : Type 0 where
  pub degree : n ≤ 6
  pub some : 1 ≤ outer
  pub room : Room base (outer * ((n + 1) * inner)) l
  pub small : (x : ℕ) → x < outer * ((n + 1) * inner) → Below (2 ^ (62 - n)) (at l (base from + x))
