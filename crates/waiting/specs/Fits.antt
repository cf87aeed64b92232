-- What holds of every slot that a run from a start reaches: its length, exact numbers within M, cuts within the depths; rational points, common zeros of the
-- polynomials, and a point in a box (01, "The numbers of a box"). Definitions, and the statements that every such point and every such zero is one.
use Rattle.std.specs.Prelude.{◌≡◌, List, ℕ, ◌^◌, ◌≤◌, ◌<◌, ℤ, pos, length, ◌<ℤ◌}
use Rattle.bernstein.specs.Three.{Direction, Three, ◌!◌}
use Rattle.whole.specs.Size.{Below}
use Rattle.bernstein.specs.Numbers.{Index, Box}
use Rattle.system.specs.declared.head.Head.{Head}
use Rattle.system.specs.Heads.{depths, frame, width}
use Rattle.slots.specs.Slots.{box_in, numbers, polynomial, ExactSlot}

-- of a slot, in a run of the system with the head h and the coefficients cs
pub record Fit (h : Head) (cs l : List ℤ) : Type 0 where
  pub long : length l ≡ width h
  pub exact : ExactSlot h (polynomial h cs) l
  pub stored : (t : ℕ) → t < h.m → (j : Index) → (frame h).Inside j → Below (2 ^ 62) (polynomial h (numbers l) t j)
  pub cuts_high : (r : Direction) → (box_in l ! r).cuts ≤ depths h ! r
  pub position_high : (r : Direction) → (box_in l ! r).position < 2 ^ (box_in l ! r).cuts

-- one whole numerator per direction over a common whole q above 0
pub record Point : Type 0 where
  pub numerators : Three ℤ
  pub q : ℤ
  pub above_zero : pos 0 <ℤ q

abbrev pub LiesIn : Head → Point → Box → Type 0
LiesIn h x b = (frame h).Lies b x.numerators x.q

-- all polynomials are zero there
pub record CommonZero (h : Head) (cs : List ℤ) (x : Point) : Type 0 where
  pub zeros : (t : ℕ) → t < h.m → (frame h).value x.numerators x.q (polynomial h cs t) ≡ pos 0

-- any numerators and any q above 0 are a point, and where all polynomials are zero is a common zero
abbrev pub AnyPoint : Type 0
AnyPoint = (X : Three ℤ) (q : ℤ) → pos 0 <ℤ q → (x : Point) × (x.numerators ≡ X) × (x.q ≡ q)

abbrev pub AnyZero : Type 0
AnyZero = (h : Head) (cs : List ℤ) (x : Point) → ((t : ℕ) → t < h.m → (frame h).value x.numerators x.q (polynomial h cs t) ≡ pos 0) → CommonZero h cs x

-- every rational point of b lies in c
abbrev pub InsideBox : Head → Box → Box → Type 0
InsideBox h b c = (x : Point) → LiesIn h x b → LiesIn h x c
