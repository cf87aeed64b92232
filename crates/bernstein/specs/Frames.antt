-- What the layers above know of a cell of a system (01, "The numbers of a box"): how many numbers a polynomial has and where they stand, when they are
-- exact, the start, the cut, and the points of a cell. Boxes are the first case. Definitions, the laws that slots, visits, runs and the demands rely on
-- (`Lawful`), and the statement that boxes keep them.
--
--     Frame           a kind of cell                      boxes n         boxes, of degrees n
--     Lawful F        the laws of a frame                 BoxesLawful     for degrees to 6 and at most 64 numbers boxes keep them
use Rattle.std.specs.Prelude.{◌≡◌, ◌⊎◌, ℕ, ◌-◌, ◌^◌, ◌≤◌, ◌<◌, ℤ, pos, nat_abs, ◌<ℤ◌}
use Rattle.whole.specs.Half.{Half, lower, upper}
use Rattle.whole.specs.Size.{Below}
use Rattle.bernstein.specs.Three.{Direction, Three, ◌!◌, Upto}
use Rattle.bernstein.specs.Numbers.{Degrees, Small, Index, Patch, Box, unit, half_box, formula, half_patch}
use Rattle.bernstein.specs.Numbers
use Rattle.bernstein.specs.Points.{Within, Sign, Has}
use Rattle.bernstein.specs.Points
use Rattle.bernstein.specs.Places

pub record Frame : Type 1 where
  -- S; which indices have a number; the place of each, and the index at a place
  pub size : ℕ
  pub Inside : Index → Type 0
  pub place : Index → ℕ
  pub index : ℕ → Index
  -- the degree of the lines that a cut in a direction cuts
  pub degree : Direction → ℕ
  -- p holds the stored numbers of the polynomial a on the cell b
  pub Exact : Box → (a p : Patch) → Type 0
  -- the numbers of the whole cell, and those of a half
  pub start : Patch → Patch
  pub half : Half → Direction → Patch → Patch
  -- the point X / q lies in the closed cell; the value there, multiplied out
  pub Lies : Box → (X : Three ℤ) (q : ℤ) → Type 0
  pub value : (X : Three ℤ) (q : ℤ) → Patch → ℤ

abbrev pub boxes : Degrees → Frame
boxes n = record {
  size = Places.size n;
  Inside = λ j. Upto j n;
  place = Places.place n;
  index = Places.index n;
  degree = λ r. n ! r;
  Exact = Numbers.Exact n;
  start = formula n;
  half = λ h r. half_patch h n r;
  Lies = Within;
  value = λ X q a. Points.value n X q a;
}

pub record Lawful (F : Frame) : Type 0 where
  -- every index that has a number has a place of its own, and every place has an index
  pub size_low : 1 ≤ F.size
  pub place_below : (j : Index) → F.Inside j → F.place j < F.size
  pub index_place : (j : Index) → F.Inside j → F.index (F.place j) ≡ j
  pub index_inside : (p : ℕ) → p < F.size → F.Inside (F.index p)
  -- only numbers inside count; the start is exact, and the halves of exact numbers are the exact numbers of the halves
  pub exact_same : (b : Box) (a p q : Patch) → F.Exact b a p → ((j : Index) → F.Inside j → q j ≡ p j) → F.Exact b a q
  pub start_exact : (a : Patch) → F.Exact unit a (F.start a)
  pub cut_exact : (b : Box) (a p : Patch) → F.Exact b a p → (h : Half) (r : Direction) → F.Exact (half_box h r b) a (F.half h r p)
  -- the start fits, and so do the halves of a cell that can be cut
  pub start_fits : (a : Patch) → ((j : Index) → F.Inside j → nat_abs (a j) ≤ 1000000000) → (j : Index) → F.Inside j → Below (2 ^ 62) (F.start a j)
  pub cut_fits : (h : Half) (r : Direction) (p : Patch) → ((j : Index) → F.Inside j → Below (2 ^ (62 - F.degree r)) (p j))
      → (j : Index) → F.Inside j → Below (2 ^ 62) (F.half h r p j)
  -- numbers of one strict sign give it to the value at every point of the cell; a point of a cell lies in a half, a point of a half in the cell
  pub sign_holds : (b : Box) (a p : Patch) → F.Exact b a p → (s : Sign) → ((j : Index) → F.Inside j → Has s (p j))
      → (X : Three ℤ) (q : ℤ) → pos 0 <ℤ q → F.Lies b X q → Has s (F.value X q a)
  pub halves_cover : (r : Direction) (b : Box) (X : Three ℤ) (q : ℤ) → F.Lies b X q → F.Lies (half_box lower r b) X q ⊎ F.Lies (half_box upper r b) X q
  pub halves_inside : (h : Half) (r : Direction) (b : Box) (X : Three ℤ) (q : ℤ) → F.Lies (half_box h r b) X q → F.Lies b X q

abbrev pub BoxesLawful : Type 0
BoxesLawful = (n : Degrees) → Small n → Places.size n ≤ 64 → Lawful (boxes n)
