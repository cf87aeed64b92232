-- What is due before a visit, taken apart; that it is the turn of the lent machine; and what a visit that is due may rely on. Assumes nothing.
use Rattle.std.specs.Prelude.{Result, Ok, Err}
use mathlib.Core.Path.{◌≡◌, refl, sym, ap, ◌∙◌}
use mathlib.Core.Bool.{Bool, true, false, cond}
use mathlib.Core.Logic.{◌≢◌}
use mathlib.Core.List.{List}
use Prim.Native.Nat.{ℕ, zero, suc, ◌+◌, ◌*◌, ◌-◌, ◌≤◌, ◌<◌}
use native.Mathlib.Omega.{arith}
use native.Mathlib.Nat.{mul-le-mul_right}
use borrow.Author.Tests.{leb-true, leb-false, eqb-true, eqb-false}
use lib.Dec.{leb, eqb}
use lib.IntN.{ℤ}
use lib.ListN.{length, length-take, length-drop}
use Rattle.whole.specs.Half.{lower}
use Rattle.bernstein.specs.Three.{◌!◌}
use Rattle.system.specs.declared.head.Head.{Head}
use Rattle.boxes.specs.declared.half.Direction.{Direction}
use Rattle.boxes.specs.declared.visit.Outcome.{Outcome}
use Rattle.boxes.specs.declared.visit.Word.{Word}
use Rattle.system.specs.Heads.{depth, depths, width}
use Rattle.boxes.specs.Boxes.{direction}
use Rattle.slots.specs.Slots.{box_in, SlotFits}
use Rattle.slots.specs.Rules.{can_cut}
use Rattle.slots.proofs.Chosen.{cut_in}
use Rattle.search.specs.Machine.{Turn, nothing, no_room, go}
use Rattle.search.specs.Search.{turn_look, turn_top}
use Rattle.search.specs.Lent.{stack, slots}
use Rattle.waiting.specs.Cells.{as_look, Boxed, cells_of, boxed}
use Rattle.waiting.specs.States.{SlotAllowed, MayCut}
use Rattle.waiting.specs.Steps.{top, for_room, due, Ready, MayVisit}
use Rattle.waiting.specs.declared.cursor.Cursor.{Cursor}
use Rattle.waiting.proofs.Measures.{half_left}
use Rattle.waiting.proofs.Standing.{slot_left}

-- ---- what is due, taken apart
module _ {A : Type 0} (K : Boxed A) (st : List A) (c : Cursor) where
  pub record FullOf (mark : ℕ) : Type 0 where
    pub waits : 1 ≤ c.state.waiting
    pub budget : 1 ≤ c.left
    pub full : c.room ≤ c.state.kept
    pub is_look : K.says (top K st c.state) ≡ Outcome.Kept mark

  pub record Visits (o : Outcome) : Type 0 where
    pub waits : 1 ≤ c.state.waiting
    pub budget : 1 ≤ c.left
    pub is_look : K.says (top K st c.state) ≡ o
    pub has_room : (mark : ℕ) → o ≡ Outcome.Kept mark → c.state.kept < c.room

  abbrev pub SaysDue : Result Outcome Word → Type 0
  SaysDue (Err Word.Finished) = c.state.waiting ≡ 0
  SaysDue (Err Word.Spent) = (1 ≤ c.state.waiting) × (c.left ≡ 0)
  SaysDue (Err Word.Full) = (mark : ℕ) × FullOf mark
  SaysDue (Ok o) = Visits o

  pub due_says : SaysDue (due K st c)
  unfolding due
  due_says = waits (eqb c.state.waiting 0) refl
    where
      kept_or_not : (w : 1 ≤ c.state.waiting) (b : 1 ≤ c.left) (mark : ℕ) → K.says (top K st c.state) ≡ Outcome.Kept mark → (t : Bool) → leb c.room c.state.kept ≡ t
          → SaysDue (cond t (Err Word.Full) (Ok (Outcome.Kept mark)))
      kept_or_not w b mark e true f = (mark, record { waits = w; budget = b; full = leb-true c.room c.state.kept f; is_look = e })
      kept_or_not w b mark e false f = record { waits = w; budget = b; is_look = e; has_room = λ m q. leb-false c.room c.state.kept f }

      by_look : 1 ≤ c.state.waiting → 1 ≤ c.left → (o : Outcome) → K.says (top K st c.state) ≡ o → SaysDue (for_room c.state.kept c.room o)
      by_look w b (Outcome.Dropped p s) e = record { waits = w; budget = b; is_look = e; has_room = λ m q. let z : ◌≡◌ {A = ℕ} 0 1 = cc in absurd (omega arith) }
      by_look w b (Outcome.Kept mark) e = kept_or_not w b mark e (leb c.room c.state.kept) refl
      by_look w b (Outcome.Cut r) e = record { waits = w; budget = b; is_look = e; has_room = λ m q. let z : ◌≡◌ {A = ℕ} 0 1 = cc in absurd (omega arith) }

      left_some : 1 ≤ c.state.waiting → (t : Bool) → eqb c.left 0 ≡ t → SaysDue (cond t (Err Word.Spent) (for_room c.state.kept c.room (K.says (top K st c.state))))
      left_some w true e = (w, eqb-true c.left 0 e)
      left_some w false e = let n = eqb-false c.left 0 e in by_look w (omega arith) (K.says (top K st c.state)) refl

      waits : (t : Bool) → eqb c.state.waiting 0 ≡ t
          → SaysDue (cond t (Err Word.Finished) (cond (eqb c.left 0) (Err Word.Spent) (for_room c.state.kept c.room (K.says (top K st c.state)))))
      waits true e = eqb-true c.state.waiting 0 e
      waits false e = let n = eqb-false c.state.waiting 0 e in left_some (omega arith) (eqb c.left 0) refl

  -- ---- the turn of the lent machine
  abbrev pub turn_now : Turn
  turn_now = turn_top (slots (cells_of K)) (c.room - c.state.kept) (stack K.width c.state.waiting st)

  pub turn_none : c.state.waiting ≡ 0 → turn_now ≡ nothing
  unfolding stack turn_top
  turn_none e = rw e

  pub turn_some : 1 ≤ c.state.waiting → turn_now ≡ turn_look (c.room - c.state.kept) (as_look (K.says (top K st c.state)))
  unfolding stack turn_top
  turn_some l =
      let e : c.state.waiting ≡ suc (c.state.waiting - 1) = omega arith in
      ap (λ (i : ℕ). turn_top (slots (cells_of K)) (c.room - c.state.kept) (stack K.width i st)) e

  look_waits : (a : ℕ) (o : Outcome) → turn_look a (as_look o) ≢ nothing
  unfolding turn_look
  look_waits a (Outcome.Dropped p s) e = let z : ◌≡◌ {A = ℕ} 0 1 = cc in omega arith
  look_waits zero (Outcome.Kept m) e = let z : ◌≡◌ {A = ℕ} 0 1 = cc in omega arith
  look_waits (suc a) (Outcome.Kept m) e = let z : ◌≡◌ {A = ℕ} 0 1 = cc in omega arith
  look_waits a (Outcome.Cut r) e = let z : ◌≡◌ {A = ℕ} 0 1 = cc in omega arith

  pub turn_waits : 1 ≤ c.state.waiting → turn_now ≢ nothing
  turn_waits l e = look_waits (c.room - c.state.kept) (K.says (top K st c.state)) (sym (turn_some l) ∙ e)

  look_go : (a : ℕ) (o : Outcome) → ((mark : ℕ) → o ≡ Outcome.Kept mark → 0 < a) → turn_look a (as_look o) ≡ go
  unfolding turn_look
  look_go a (Outcome.Dropped p s) f = refl
  look_go zero (Outcome.Kept m) f = absurd (let l = f m refl in omega arith)
  look_go (suc a) (Outcome.Kept m) f = refl
  look_go a (Outcome.Cut r) f = refl

  look_full : (a mark : ℕ) → a ≡ 0 → turn_look a (as_look (Outcome.Kept mark)) ≡ no_room
  unfolding turn_look
  look_full a mark e = rw e

  pub turn_full : (mark : ℕ) → FullOf mark → turn_now ≡ no_room
  turn_full mark f = turn_some f.waits ∙ ap (λ (o : Outcome). turn_look (c.room - c.state.kept) (as_look o)) f.is_look ∙ look_full (c.room - c.state.kept) mark (omega (arith, f.full))

  pub turn_go : (o : Outcome) → Visits o → turn_now ≡ go
  turn_go o v =
      turn_some v.waits ∙ ap (λ (o : Outcome). turn_look (c.room - c.state.kept) (as_look o)) v.is_look
      ∙ look_go (c.room - c.state.kept) o (λ mark e. omega (arith, v.has_room mark e))

-- ---- what a visit relies on
module _ (h : Head) (st : List ℤ) (c : Cursor) (r : Ready h st c) where
  module _ (w : 1 ≤ c.state.waiting) where
    pub top_allowed : SlotAllowed h (c.state.waiting - 1) (top (boxed h) st c.state)
    top_allowed = r.slots (c.state.waiting - 1) (omega arith)

    slots_inside : (n : ℕ) → n ≤ suc (depth h) → n * width h ≤ length st
    slots_inside n l = omega (arith, mul-le-mul_right (width h) l, r.long)

    pub top_inside : (c.state.waiting - 1) * width h + width h ≤ length st
    top_inside =
        let n : suc (c.state.waiting - 1) ≤ suc (depth h) = omega (arith, slot_left h (c.state.waiting - 1) (top (boxed h) st c.state) top_allowed) in
        omega (arith, slots_inside (suc (c.state.waiting - 1)) n)

    pub top_fits : SlotFits h (top (boxed h) st c.state)
    top_fits = record { limits = r.limits; long = simp (length-take, length-drop) (omega (arith, top_inside)); spans = top_allowed.spans }

  -- in a direction below its depth in which the top box can be cut
  pub may_cut : 1 ≤ c.state.waiting → (d : Direction) → (box_in (top (boxed h) st c.state) ! direction d).cuts < depths h ! direction d
      → can_cut h (direction d) (top (boxed h) st c.state) ≡ true
      → ((c.state.waiting - 1) * width h + width h + width h ≤ length st) × MayCut h d (top (boxed h) st c.state)
  may_cut w d below can =
      let l = top (boxed h) st c.state in
      let n : suc (suc (c.state.waiting - 1)) ≤ suc (depth h)
      = omega (arith, slot_left h (c.state.waiting - 1) l (top_allowed w), half_left h l lower (direction d) below) in
      (omega (arith, slots_inside w (suc (suc (c.state.waiting - 1))) n), record { fits = top_fits w; below = below; can = can })

  pub may_visit : (o : Outcome) → Visits (boxed h) st c o → MayVisit h st c o
  may_visit o v = record {
    ready = r;
    waits = v.waits;
    budget = v.budget;
    inside = top_inside v.waits;
    fits = top_fits v.waits;
    has_room = v.has_room;
    has_slot = λ d e. let i = cut_in h (top (boxed h) st c.state) d (v.is_look ∙ e) in may_cut v.waits d i.below i.can;
  }
