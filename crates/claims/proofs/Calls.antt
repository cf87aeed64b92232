-- What the search over the boxes of a system keeps (`keeps`): fit slots, no zero lost, and a state that the check lets through. So it holds of lent memory
-- whenever a call begins (`good`): search's induction over the calls. Assumes nothing.
use Rattle.std.specs.Prelude.{Ok}
use mathlib.Core.Path.{◌≡◌, ap, ◌∙◌}
use mathlib.Core.List.{List, map}
use Prim.Native.Nat.{ℕ, suc, ◌+◌, ◌*◌, ◌-◌, ◌^◌, ◌≤◌}
use native.Mathlib.Omega.{arith}
use lib.Pow.{pow_pos, pow_mono}
use lib.IntN.{ℤ}
use lib.ListN.{length-map}
use Rattle.whole.specs.Half.{Half, lower, upper}
use Rattle.bernstein.specs.Numbers.{unit}
use Rattle.system.specs.declared.head.Head.{Head}
use Rattle.system.specs.Heads.{depth, Limits}
use Rattle.boxes.specs.Boxes.{direction}
use Rattle.system.proofs.Heads.{depth_high}
use Rattle.slots.specs.Slots.{unit_slot, half_slot, box_in}
use Rattle.search.specs.Lists.{sum}
use Rattle.search.specs.Search.{is_dropped, is_kept, is_cut, States, start, become}
use Rattle.search.specs.Claims.{Sound}
use Rattle.search.specs.Lent.{slots}
use Rattle.search.proofs.Search.{Closed}
use Rattle.search.proofs.Calls.{Invariant, Good, Root, good as any_good}
use Rattle.waiting.specs.Cells.{cells, left}
use Rattle.waiting.specs.Fits.{Fit, Point, LiesIn, CommonZero}
use Rattle.waiting.specs.Starts.{start_check, fresh_store}
use Rattle.waiting.proofs.Measures.{halves_wide, measured}
use Rattle.waiting.specs.States.{memory_of, state_of, judged}
use Rattle.waiting.specs.Runs.{forget}
use Rattle.waiting.proofs.Judging.{judged_allowed}
use Rattle.waiting.proofs.Keeping.{KeptIn, allowed_in}
use Rattle.waiting.proofs.Standing.{Stands, stands_closed, unit_allowed}
use Rattle.waiting.proofs.Starting.{start_passes, fresh_held, fresh_length, start_fit}
use Rattle.waiting.proofs.Sounds.{sound}
use Rattle.claims.specs.Calls.{Memory, Begun}

-- ---- what the check of a state asks: slots that the rules allow, and counts that can't pass 2^31 - 1
-- the visits that a box can take
abbrev pub effort : Head → List ℤ → ℕ
effort h l = 2 ^ suc (left h l) - 1

pub record Passable (h : Head) (s : States (slots (cells h))) : Type 0 where
  pub stands : Stands h s
  -- the visits made, and those that the waiting boxes can still take
  pub few : s.visits + sum (effort h) s.waiting ≤ 2 ^ suc (depth h) - 1

pub passable_closed : (h : Head) → Limits h → Closed (slots (cells h)) (λ z s. Passable h s)
unfolding become
passable_closed h m z n s (is_dropped x) e u p = record { stands = stands_closed h m z n s (is_dropped x) e u p.stands; few = omega (arith, pow_pos (left h n), p.few) }
passable_closed h m z n s (is_kept k) e u p = record { stands = stands_closed h m z n s (is_kept k) e u p.stands; few = omega (arith, pow_pos (left h n), p.few) }
passable_closed h m z n s (is_cut r) e u p =
    let halves : (d : Half) → 2 ^ suc (left h n) ≡ 2 * 2 ^ suc (left h (half_slot h d (direction r) n)) = λ d. ap (λ (i : ℕ). 2 ^ suc i) (measured h n r e d) ∙ omega arith in
    record {
      stands = stands_closed h m z n s (is_cut r) e u p.stands;
      few = omega (arith, halves lower, halves upper, pow_pos (suc (left h (half_slot h lower (direction r) n))), p.few);
    }

-- ---- what is kept
-- a common zero of the unit box
abbrev pub ZeroIn : (h : Head) (cs : List ℤ) → Point → Type 0
ZeroIn h cs x = LiesIn h x unit × CommonZero h cs x

pub zeros_sound : (h : Head) → Limits h → (cs : List ℤ) → Sound (slots (cells h)) (Fit h cs) Point (ZeroIn h cs) (LiesIn h)
zeros_sound h m cs = let s = sound h m cs in record { passes = s.passes; never = λ n d e f x z i. s.never n d e f x z.1 i; halves = s.halves }

abbrev pub keeps : (h : Head) → Limits h → (cs : List ℤ) → Invariant (cells h)
keeps h m cs = record {
  left = left h;
  depth = depth h;
  Fit = Fit h cs;
  Also = Passable h;
  Point = Point;
  Zero = ZeroIn h cs;
  In = LiesIn h;
  halves_wide = halves_wide h;
  measured = measured h;
  sound = zeros_sound h m cs;
  closed = passable_closed h m;
}

-- ---- a fresh start
unit_left : (h : Head) (cs : List ℤ) → left h (unit_slot h cs) ≤ depth h
unfolding unit_slot
unit_left h cs = omega arith

unit_holds : (h : Head) (cs : List ℤ) (x : Point) → LiesIn h x unit → LiesIn h x (box_in (unit_slot h cs))
unfolding unit_slot
unit_holds h cs x i = i

start_passable : (h : Head) (cs st : List ℤ) → start_check h cs st ≡ Ok tt → Passable h (start (slots (cells h)) (unit_slot h cs))
unfolding unit_slot
start_passable h cs st e =
    let a = start_passes h cs st e in
    let most : 2 ^ suc (left h (unit_slot h cs)) ≤ 2 ^ suc (depth h) = pow_mono (omega (arith, unit_left h cs)) in
    record { stands = record { allowed = (unit_allowed h a.limits cs a.in_range, tt); dropped_high = omega arith }; few = omega (arith, most) }

-- ---- of a system that `start` accepts
module _ (h : Head) (cs st : List ℤ) (e : start_check h cs st ≡ Ok tt) where
  abbrev pub kept_up : Invariant (cells h)
  kept_up = keeps h (start_passes h cs st e).limits cs

  pub root : Root (cells h) kept_up (unit_slot h cs) (fresh_store h cs st)
  root =
      let a = start_passes h cs st e in
      record {
        held_is = λ list. fresh_held h cs st list;
        long = omega (arith, a.long, fresh_length h cs st a.long);
        left_low = unit_left h cs;
        fit = start_fit h cs st e;
        all_in = λ x z. unit_holds h cs x z.0;
        also = start_passable h cs st e;
      }

  -- ---- whenever a call begins
  pub good : (f : Memory) → Begun h cs st f → Good (cells h) kept_up f
  good f b = any_good (cells h) kept_up (unit_slot h cs) (fresh_store h cs st) root f b

-- the check lets it through
pub good_judged : (h : Head) (m : Limits h) (cs : List ℤ) (f : Memory) → Good (cells h) (keeps h m cs) f
    → judged h (state_of f) f.store (map forget f.list) ≡ Ok tt
good_judged h m cs f g =
    let most : 2 ^ suc (depth h) ≤ 2 ^ 31 = pow_mono {j = 31} (omega (arith, depth_high h m)) in
    let k : KeptIn h (memory_of f.store f.list (state_of f)) = record { enough = g.enough; stands = g.also.stands } in
    (judged_allowed h (state_of f) f.store (map forget f.list)).1
    (m, g.enough.store_fits, rw (length-map f.list forget) (allowed_in h (state_of f) f.store f.list k (omega (arith, g.also.few, most))))
