-- The rules of a visit (01, "One visit") as facts about the numbers of a slot, and the statement that what `look` promises is these facts: `looked` computes an
-- outcome, `Says` is what 01 says of it. Statements; the proof is in proofs/Rules.
use Rattle.std.specs.Prelude.{◌≡◌, List, ◌⊎◌, ℕ, ◌+◌, ◌*◌, ◌-◌, ◌^◌, ◌≤◌, ◌<◌, ℤ, nat_abs, length}
use Rattle.bernstein.specs.Three.{◌!◌}
use Rattle.bernstein.specs.Points.{Has}
use Rattle.system.specs.declared.head.Head.{Head}
use Rattle.boxes.specs.declared.half.Direction.{Direction}
use Rattle.whole.specs.declared.Sign.{Sign}
use Rattle.boxes.specs.Boxes.{direction}
use Rattle.system.specs.Directions.{direction_number}
use Rattle.system.specs.Heads.{depths, frame, places, width}
use Rattle.boxes.specs.Visits.{sign}
use Rattle.slots.specs.Slots.{at, box_in, numbers}
use Rattle.slots.specs.Rules.{looked}
use Rattle.search.specs.Search.{Look, is_dropped, is_kept, is_cut}
use Rattle.waiting.specs.Cells.{as_look}

module _ (h : Head) (l : List ℤ) where
  -- s and g of direction r
  abbrev pub cuts : Direction → ℕ
  cuts r = (box_in l ! direction r).cuts

  abbrev pub most : Direction → ℕ
  most r = depths h ! direction r

  -- polynomial t, counted from 0, has all stored numbers above zero, or all below; zero is neither
  pub record OneSided (t : ℕ) (s : Sign) : Type 0 where
    pub has : (i : ℕ) → i < (frame h).size → Has (sign s) (at (numbers l) (t * (frame h).size + i))

  -- none of the polynomials below t has
  abbrev pub MixedBelow : ℕ → Type 0
  MixedBelow t = (u : ℕ) → u < t → (s : Sign) → OneSided u s → ⊥

  -- "1. Dropped, if some polynomial has ..": the lowest such polynomial, numbered from 1, with its sign
  pub record DropDue (p : ℕ) (s : Sign) : Type 0 where
    pub which : ℕ
    pub is_one : which < h.m
    pub number : p ≡ 1 + which
    pub decides : OneSided which s
    pub lowest : MixedBelow which

  -- "2. .. if every direction has s = g"
  abbrev pub AtDepth : Type 0
  AtDepth = (r : Direction) → cuts r ≡ most r

  -- "3. The direction is the one with the fewest cuts among those with s < g, ties to the lowest"
  pub record DirectionDue (r : Direction) : Type 0 where
    pub below : cuts r < most r
    pub fewest : (q : Direction) → cuts q < most q → (cuts r < cuts q) ⊎ ((cuts r ≡ cuts q) × (direction_number (direction r) ≤ direction_number (direction q)))

  -- "every stored number of every polynomial is at most 2^(62-n) - 1 in size"
  abbrev pub CanBeCut : Direction → Type 0
  CanBeCut r = (i : ℕ) → i < places h → nat_abs (at (numbers l) i) ≤ 2 ^ (62 - (frame h).degree (direction r)) - 1

  -- dropped; kept, with mark 1 or with mark 2; "4. Otherwise cut"
  abbrev pub Says : Look (ℕ × Sign) Direction → Type 0
  Says (is_dropped d) = DropDue d.0 d.1
  Says (is_kept mark) = MixedBelow h.m × (((mark ≡ 1) × AtDepth) ⊎ ((mark ≡ 2) × ((r : Direction) × DirectionDue r × (CanBeCut r → ⊥))))
  Says (is_cut r) = MixedBelow h.m × DirectionDue r × CanBeCut r

-- of every slot that is whole and no deeper than its depths
abbrev pub RulesMean : Type 0
RulesMean = (h : Head) (l : List ℤ) → length l ≡ width h → ((r : Direction) → cuts h l r ≤ most h l r) → Says h l (as_look (looked h l))

-- and of no slot two outcomes
abbrev pub RulesDecide : Type 0
RulesDecide = (h : Head) (l : List ℤ) (v w : Look (ℕ × Sign) Direction) → Says h l v → Says h l w → v ≡ w
