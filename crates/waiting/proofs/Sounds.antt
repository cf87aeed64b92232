-- The search over boxes is sound: a dropped box holds no common zero, a point of a box that is cut lies in a half, and a half lies inside its box.
-- So `search`'s claims hold of it. Assumes nothing.
use mathlib.Core.Path.{◌≡◌, subst}
use mathlib.Core.Logic.{◌⊎◌, inl, inr}
use mathlib.Core.List.{List}
use Prim.Native.Nat.{ℕ, ◌≤◌}
use native.Mathlib.Omega.{arith}
use lib.IntN.{ℤ, pos}
use lib.ListN.{length, length-drop}
use lib.Signed.{<ℤ_irrefl}
use Rattle.whole.specs.Half.{Half, lower, upper}
use Rattle.bernstein.specs.Numbers.{half_box}
use Rattle.bernstein.specs.Points.{Has}
use Rattle.system.specs.declared.head.Head.{Head}
use Rattle.boxes.specs.declared.half.Direction.{Direction}
use Rattle.whole.specs.declared.Sign.{Sign}
use Rattle.whole.specs.declared.Sign.TheVariants.{Above, Below}
use Rattle.system.specs.Heads.{frame, places, Limits}
use Rattle.system.proofs.Heads.{lawful}
use Rattle.boxes.specs.Boxes.{direction}
use Rattle.slots.specs.Slots.{box_in, numbers, polynomial, half_slot}
use Rattle.slots.specs.Rules.{looked}
use Rattle.slots.proofs.Decided.{DroppedBy, dropped_by, sign}
use Rattle.search.specs.Search.{is_dropped}
use Rattle.search.specs.Claims.{Passes, Sound, Nests}
use Rattle.slots.proofs.Chosen.{cut_in}
use Rattle.search.specs.Lent.{slots}
use Rattle.waiting.specs.Cells.{as_look, cells}
use Rattle.waiting.specs.Fits.{Fit, Point, LiesIn, CommonZero, InsideBox}
use Rattle.waiting.proofs.Measures.{outcome_is}
use Rattle.waiting.proofs.Fitting.{half_fit}

module _ (h : Head) (m : Limits h) (cs : List ℤ) where
  pub passes : Passes (slots (cells h)) (Fit h cs)
  passes l r e half f = let c = cut_in h l r (outcome_is (looked h l) e) in half_fit h m cs l f (direction r) c.below c.can half

  -- the polynomial that is named, with its sign
  pub drop_signs : (l : List ℤ) (p : ℕ) (s : Sign) → as_look (looked h l) ≡ is_dropped (p, s) → Fit h cs l → DroppedBy h l p s
  drop_signs l p s e f = dropped_by h (lawful h m) l p s (let b : places h ≤ length (numbers l) = simp length-drop (omega (arith, f.long)) in b) (outcome_is (looked h l) e)

  -- has it at every point of the box
  pub sign_at : (l : List ℤ) (p : ℕ) (s : Sign) → (d : DroppedBy h l p s) → Fit h cs l → (x : Point) → LiesIn h x (box_in l)
      → Has (sign s) ((frame h).value x.numerators x.q (polynomial h cs d.which))
  sign_at l p s d f x i =
      let t = d.which in
      (lawful h m).sign_holds (box_in l) (polynomial h cs t) (polynomial h (numbers l) t) (f.exact.exact_slot t d.below) (sign s) d.signs x.numerators x.q x.above_zero i

  pub sound : Sound (slots (cells h)) (Fit h cs) Point (CommonZero h cs) (LiesIn h)
  unfolding half_slot
  sound = record {
    passes = passes;
    never = λ l d e f x z i.
        let by = drop_signs l d.0 d.1 e f in
        unsigned d.1 (subst (Has (sign d.1)) (z.zeros by.which by.below) (sign_at l d.0 d.1 by f x i));
    halves = λ l r e f x i. either l r x ((lawful h m).halves_cover (direction r) (box_in l) x.numerators x.q i);
  }
    where
      -- zero has neither sign
      unsigned : (s : Sign) → Has (sign s) (pos 0) → ⊥
      unsigned Above k = <ℤ_irrefl k
      unsigned Below k = <ℤ_irrefl k

      either : (l : List ℤ) (r : Direction) (x : Point) → LiesIn h x (half_box lower (direction r) (box_in l)) ⊎ LiesIn h x (half_box upper (direction r) (box_in l))
          → (e : Half) × LiesIn h x (box_in (half_slot h e (direction r) l))
      either l r x (inl i) = (lower, i)
      either l r x (inr i) = (upper, i)

  pub nests : Nests (slots (cells h)) (Fit h cs) (InsideBox h)
  unfolding half_slot
  nests = record {
    passes = passes;
    itself = λ b x i. i;
    through = λ b c d u v x i. v x (u x i);
    inside = λ l r e half f x i. (lawful h m).halves_inside half (direction r) (box_in l) x.numerators x.q i;
  }
