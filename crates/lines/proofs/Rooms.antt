-- Room for lines: what a gap and a length give, a part of the room, the halves' places further on, a store's places outside it; and what was asked or done at one
-- number, said at another that is equal to it. Assumes nothing.
use mathlib.Core.Path.{◌≡◌, refl, ap, subst, subst⁻¹, fun_ext}
use mathlib.Core.Logic.{◌⊎◌, ⊎_elim}
use mathlib.Core.List.{List}
use Prim.Native.Nat.{ℕ, ◌+◌, ◌*◌, ◌≤◌, ◌<◌}
use native.Mathlib.Omega.{arith}
use lib.IntN.{ℤ}
use lib.ListN.{length}
use Rattle.whole.specs.Half.{Half, lower, upper}
use Rattle.lines.specs.Lines.{Line, Off, Worked, InBlocks, LinesCut, half_at, halves, Room, ReadyBlocks}
use Rattle.lines.specs.Inside.{Ready}
use Rattle.lines.proofs.Rows.{row_le, row_lt}

pub cut_room : {up lo size : ℕ} {l : List ℤ} → up + size ≤ lo → lo + size ≤ length l → Room (half_at up lo) size l
cut_room {up} {lo} {size} {l} gap fits = record { fits = fit; once = one }
  where
    fit : (h : Half) → half_at up lo h + size ≤ length l
    fit lower = fits
    fit upper = omega arith

    one : (h k : Half) (x y : ℕ) → x < size → y < size → half_at up lo h + x ≡ half_at up lo k + y → h ≡ k
    one lower lower x y a b e = refl
    one lower upper x y a b e = absurd (omega arith)
    one upper lower x y a b e = absurd (omega arith)
    one upper upper x y a b e = refl

pub only_room : {first size : ℕ} {l : List ℤ} → first + size ≤ length l → Room {H = Unit {0}} (λ h. first) size l
only_room fits = record { fits = λ h. fits; once = λ h k x y a b e. refl }

-- where two places of the parts are one, so are their distances from the parts' starts
pub one_place : {H : Type 0} {base : H → ℕ} {size : ℕ} {l : List ℤ} → Room base size l → (h k : H) (x y : ℕ) → x < size → y < size → base h + x ≡ base k + y → x ≡ y
one_place {base} r h k x y a b e = let z : base h ≡ base k = ap base (r.once h k x y a b e) in omega arith

-- a part of the room
pub less_room : {H : Type 0} {base : H → ℕ} (d : ℕ) {size rest : ℕ} {l m : List ℤ} → d + rest ≤ size → length m ≡ length l → Room base size l → Room (λ h. base h + d) rest m
less_room d h e r = record {
  fits = λ k. omega (arith, r.fits k);
  once = λ k k' x y a b z. r.once k k' (d + x) (d + y) (omega arith) (omega arith) (omega arith);
}

pub block_fits : {H : Type 0} {base : H → ℕ} {from : H} {outer inner n o : ℕ} {l : List ℤ} → ReadyBlocks base from outer inner n l → o ≤ outer → (h : H)
    → base h + o * ((n + 1) * inner) ≤ length l
block_fits {inner} {n} y m h = omega (arith, row_le ((n + 1) * inner) m, y.room.fits h)

-- a place outside the blocks is on no line of theirs
pub off_blocks : {first inner n outer : ℕ} (p : ℕ) → (p < first) ⊎ (first + outer * ((n + 1) * inner) ≤ p) → Off (InBlocks ((n + 1) * inner) inner outer) first inner n p
off_blocks {first} {inner} {n} p out f j b h z =
    ⊎_elim (λ q. omega arith) (λ q. omega (arith, b.is, row_lt ((n + 1) * inner) b.which, row_le inner h, b.inside)) out

-- ---- the halves' places, d further on
half_shift : (up lo d : ℕ) → (λ h. half_at up lo h + d) ≡ half_at (up + d) (lo + d)
half_shift up lo d = fun_ext by
  where
    by : (h : Half) → half_at up lo h + d ≡ half_at (up + d) (lo + d) h
    by lower = refl
    by upper = refl

pub half_ready : (up lo d : ℕ) {w inner n : ℕ} {l : List ℤ} → Ready (λ h. half_at up lo h + d) upper w inner n l → Ready (half_at (up + d) (lo + d)) upper w inner n l
half_ready up lo d {w} {inner} {n} {l} y = subst (λ b. Ready b upper w inner n l) (half_shift up lo d) y

pub half_worked : (up lo d : ℕ) {F : ℕ → Type 0} {inner n : ℕ} {old new : List ℤ} → LinesCut F (up + d) (lo + d) inner n old new → Worked (halves n) (λ h. half_at up lo h + d) upper F inner n old new
half_worked up lo d {F} {inner} {n} {old} {new} c = subst⁻¹ (λ b. Worked (halves n) b upper F inner n old new) (half_shift up lo d) c

-- ---- where the entries of a line are neighbours, and at a degree that a test has found
pub lines_at : {up lo outer inner n : ℕ} {l : List ℤ} (k : ℕ) → inner ≡ k → ReadyBlocks (half_at up lo) upper outer inner n l
    → ReadyBlocks (half_at up lo) upper outer k n l
lines_at {up} {lo} {outer} {inner} {n} {l} k e y = subst (λ (x : ℕ). ReadyBlocks (half_at up lo) upper outer x n l) e y

pub lines_cut_at : {up lo outer inner n : ℕ} {old new : List ℤ} (k : ℕ) → inner ≡ k → LinesCut (InBlocks ((n + 1) * k) k outer) up lo k n old new
    → LinesCut (InBlocks ((n + 1) * inner) inner outer) up lo inner n old new
lines_cut_at {up} {lo} {outer} {inner} {n} {old} {new} k e c =
    subst⁻¹ (λ (x : ℕ). LinesCut (InBlocks ((n + 1) * x) x outer) up lo x n old new) e c

pub blocks_at : {up lo outer inner n : ℕ} {l : List ℤ} (k : ℕ) → n ≡ k → ReadyBlocks (half_at up lo) upper outer inner n l
    → ReadyBlocks (half_at up lo) upper outer inner k l
blocks_at {up} {lo} {outer} {inner} {n} {l} k e y = subst (λ (x : ℕ). ReadyBlocks (half_at up lo) upper outer inner x l) e y

pub blocks_cut_at : {up lo outer inner n : ℕ} {old new : List ℤ} (k : ℕ) → n ≡ k → LinesCut (InBlocks ((k + 1) * inner) inner outer) up lo inner k old new
    → LinesCut (InBlocks ((n + 1) * inner) inner outer) up lo inner n old new
blocks_cut_at {up} {lo} {outer} {inner} {n} {old} {new} k e c =
    subst⁻¹ (λ (x : ℕ). LinesCut (InBlocks ((x + 1) * inner) inner outer) up lo inner x old new) e c

-- a count that is another
pub at_count : {H : Type 0} {base : H → ℕ} {from : H} {inner n : ℕ} {work : H → Line → Line} {old new : List ℤ} (G : ℕ → ℕ → Type 0) {q r : ℕ} → q ≡ r
    → Worked work base from (G q) inner n old new → Worked work base from (G r) inner n old new
at_count {base} {from} {inner} {n} {work} {old} {new} G e c = subst (λ (x : ℕ). Worked work base from (G x) inner n old new) e c
