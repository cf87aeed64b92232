-- What the rules say of a slot: the steps 1 to 4 of 01's "One visit". Definitions only.
use Rattle.std.specs.Prelude.{Bool, true, cond, ◌&&◌, List, [], ◌∷◌, ℕ, zero, suc, ◌-◌, ◌^◌, ltb, leb, ℤ, pos, nat_abs, take, drop, Option, Some, None}
use Rattle.std.specs.Int.Signed.{lt_z}
use Rattle.bernstein.specs.Three
use Rattle.bernstein.specs.Three.{◌!◌}
use Rattle.system.specs.declared.head.Head.{Head}
use Rattle.boxes.specs.declared.half.Direction.{Direction}
use Rattle.whole.specs.declared.Sign.{Sign}
use Rattle.whole.specs.declared.Sign.TheVariants.{Above, Below}
use Rattle.boxes.specs.declared.visit.Outcome.{Outcome}
use Rattle.system.specs.Heads.{depths, frame}
use Rattle.boxes.specs.Boxes.{direction}
use Rattle.slots.specs.Slots.{box_in, numbers}

-- ---- tests of numbers
unfoldable pub every : (ℤ → Bool) → List ℤ → Bool
every f [] = true
every f (x ∷ xs) = f x && every f xs

-- strictly: zero is neither
abbrev pub has : Sign → ℤ → Bool
has Above x = lt_z (pos 0) x
has Below x = lt_z x (pos 0)

-- at most b in size
abbrev pub within : ℕ → ℤ → Bool
within b x = leb (nat_abs x) b

-- ---- 1. the lowest polynomial with all numbers above zero or all below
-- polynomial p has the numbers xs; `else` is what the later ones say
abbrev pub signed : ℕ → List ℤ → Option (ℕ × Sign) → Option (ℕ × Sign)
signed p xs else = cond (every (has Above) xs) (Some (p, Above)) (cond (every (has Below) xs) (Some (p, Below)) else)

-- `count` polynomials from number p on, each with `size` of the numbers xs
unfoldable pub decided : (count size p : ℕ) → List ℤ → Option (ℕ × Sign)
decided zero size p xs = None
decided (suc count) size p xs = signed p (take size xs) (decided count size (suc p) (drop size xs))

-- ---- 2, 3. the direction with the fewest cuts among those below their depth, ties to the lowest
abbrev pub cuts_in : List ℤ → Direction → ℕ
cuts_in l r = (box_in l ! direction r).cuts

abbrev pub below_depth : Head → List ℤ → Direction → Bool
below_depth h l r = ltb (cuts_in l r) (depths h ! direction r)

-- r takes the place of what was chosen before it, if it may be cut and has fewer cuts
abbrev pub better : Head → List ℤ → Option Direction → Direction → Option Direction
better h l None r = cond (below_depth h l r) (Some r) None
better h l (Some q) r = cond (below_depth h l r && ltb (cuts_in l r) (cuts_in l q)) (Some r) (Some q)

unfoldable pub chosen : Head → List ℤ → Option Direction
chosen h l = better h l (better h l (better h l None Direction.First) Direction.Second) Direction.Third

-- every stored number of every polynomial is at most 2^(62-n) - 1 in size
abbrev pub limit : ℕ → ℕ
limit n = 2 ^ (62 - n) - 1

abbrev pub can_cut : Head → Three.Direction → List ℤ → Bool
can_cut h r l = every (within (limit ((frame h).degree r))) (numbers l)

-- ---- the steps in order, by what is read of a slot: what its numbers decide, and along which directions it is able to be cut
abbrev pub able : Head → List ℤ → Direction → Bool
able h l r = can_cut h (direction r) l

abbrev pub by_choice : (Direction → Bool) → Option Direction → Outcome
by_choice can None = Outcome.Kept 1
by_choice can (Some r) = cond (can r) (Outcome.Cut r) (Outcome.Kept 2)

abbrev pub looked_by : Head → List ℤ → Option (ℕ × Sign) → (Direction → Bool) → Outcome
looked_by h l (Some (p, s)) can = Outcome.Dropped p s
looked_by h l None can = by_choice can (chosen h l)

unfoldable pub looked : Head → List ℤ → Outcome
looked h l = looked_by h l (decided h.m (frame h).size 1 (numbers l)) (able h l)
