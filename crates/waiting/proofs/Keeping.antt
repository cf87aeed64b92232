-- A step keeps what it is given (`ready_next`), a state that passes the check and a fresh start may be run with any 32-bit budget and any list, and every
-- stop of a run is allowed again. Assumes nothing.
use Rattle.std.specs.Prelude.{Result, Ok, Err}
use mathlib.Core.Path.{◌≡◌, refl, sym, ap, subst, ◌∙◌}
use mathlib.Core.Bool.{Bool, true, cond}
use mathlib.Core.List.{List, []}
use Prim.Native.Nat.{ℕ, suc, ◌^◌, ◌≤◌, ◌<◌}
use native.Mathlib.Omega.{arith}
use lib.IntN.{ℤ}
use lib.ListN.{length, replicate, length-replicate}
use Rattle.bernstein.specs.Numbers.{Box, unit}
use Rattle.system.specs.declared.head.Head.{Head}
use Rattle.boxes.specs.declared.visit.Word.{Word}
use Rattle.boxes.specs.declared.visit.Outcome.{Outcome}
use Rattle.system.specs.Heads.{depth, width, Limits}
use Rattle.search.specs.Machine.{go, drive}
use Rattle.search.specs.Search.{Entry, entry, States, visit, run}
use Rattle.search.specs.Lent.{stack, slots, Lent, lent, held, Enough, Holds, lent_become}
use Rattle.search.proofs.Search.{visit_keeps, run_keeps}
use Rattle.search.proofs.Lent.{lent_simulates, lent_runs, stacked_length}
use Rattle.search.proofs.Slots.{stack_length}
use Rattle.waiting.specs.Cells.{boxed, cells, left}
use Rattle.waiting.specs.States.{needed, Allowed, judged}
use Rattle.waiting.specs.States.{memory_of, state_of}
use Rattle.waiting.specs.Steps.{begun, due, visited, moved, goes, by_due, next, Ready}
use Rattle.waiting.specs.Runs.{StopsAllowed}
use Rattle.waiting.specs.declared.state.State.{State}
use Rattle.waiting.specs.declared.cursor.Kept.{Kept}
use Rattle.waiting.specs.declared.cursor.Cursor.{Cursor}
use Rattle.waiting.proofs.Measures.{halves_wide, measured}
use Rattle.waiting.proofs.Judging.{AllAllowed, judged_allowed}
use Rattle.waiting.proofs.Standing.{to_stack, from_stack, stacked, Stands, stands_closed}
use Rattle.waiting.proofs.Turning.{Visits, SaysDue, due_says, turn_go}
use Rattle.waiting.proofs.Driving.{turn_is, then, visit_is, turns_left}

-- ---- lent memory that an allowed state stands in
module _ (h : Head) where
  pub record KeptIn (f : Lent ℤ Box) : Type 0 where
    pub enough : Enough (cells h) (left h) (depth h) (length f.list) f
    pub stands : Stands h (held (cells h) f)

  -- of the state alone
  pub kept_in : (s : State) (st : List ℤ) (list : List (Entry Box)) → needed h ≤ length st → s.kept ≤ length list → s.dropped ≤ s.visits → AllAllowed h s.waiting st
      → KeptIn (memory_of st list s)
  kept_in s st list long kept dropped f =
      let a = to_stack h st s.waiting f in
      record {
        enough = record { stacked = stacked h (stack (width h) s.waiting st) a; store_fits = long; kept_fits = kept; room_is = refl };
        stands = record { allowed = a; dropped_high = dropped };
      }

  -- what `Holds` says of another memory, with the room of the first
  held_in : (room : ℕ) (f : Lent ℤ Box) (t : States (slots (cells h))) → Holds (cells h) (left h) (depth h) room f t → Stands h t → (length f.list ≡ room) × KeptIn f
  held_in room f t q s =
      let e : length f.list ≡ room = sym q.0.room_is in (
        e,
        record {
          enough = record { stacked = q.0.stacked; store_fits = q.0.store_fits; kept_fits = q.0.kept_fits; room_is = refl };
          stands = subst (Stands h) (sym q.1) s;
        },
      )

  module _ (m : Limits h) (f : Lent ℤ Box) (k : KeptIn f) where
    pub visit_in : (lent (cells h)).turn (length f.list) f ≡ go → (length ((lent (cells h)).visit f).list ≡ length f.list) × KeptIn ((lent (cells h)).visit f)
    visit_in t =
        held_in (length f.list) ((lent (cells h)).visit f) (visit (slots (cells h)) (held (cells h) f))
        ((lent_simulates (cells h) (left h) (halves_wide h) (measured h) (depth h) (length f.list)).visits f (held (cells h) f) (k.enough, refl) t)
        (visit_keeps (slots (cells h)) (λ z s. Stands h s) (stands_closed h m) [] (held (cells h) f) k.stands)

    pub drive_in : (b : ℕ) → (length (drive (lent (cells h)) b (length f.list) f).state.list ≡ length f.list) × KeptIn (drive (lent (cells h)) b (length f.list) f).state
    drive_in b =
        held_in (length f.list) (drive (lent (cells h)) b (length f.list) f).state (run (slots (cells h)) b (length f.list) (held (cells h) f)).state
        (lent_runs ℤ (cells h) (left h) (halves_wide h) (measured h) (depth h) (length f.list) b f k.enough).state
        (run_keeps (slots (cells h)) (λ z s. Stands h s) (stands_closed h m) b (length f.list) [] (held (cells h) f) k.stands)

  -- as the rules say it
  module _ (s : State) (st : List ℤ) (list : List (Entry Box)) (k : KeptIn (memory_of st list s)) where
    pub all_allowed : AllAllowed h s.waiting st
    all_allowed = from_stack h st s.waiting k.stands.allowed

    pub allowed_in : s.visits ≤ 2147483647 → Allowed h s st (length list)
    allowed_in v = record {
      waiting_high = subst (λ (n : ℕ). n ≤ suc (depth h)) (stack_length (width h) s.waiting st) (stacked_length (left h) (depth h) (stack (width h) s.waiting st) k.enough.stacked);
      kept_high = k.enough.kept_fits;
      dropped_high = k.stands.dropped_high;
      visits_high = v;
      slots = all_allowed;
    }

-- ---- every stop of a run
pub stops_allowed : StopsAllowed
stops_allowed h s st list m long a b =
    let q = drive_in h m (memory_of st list s) (kept_in h s st list long a.kept_high a.dropped_high a.slots) b in
    let f = (drive (lent (cells h)) b (length list) (memory_of st list s)).state in
    record { long = q.1.enough.store_fits; places = q.0; allowed = λ v. subst (Allowed h (state_of f) f.store) q.0 (allowed_in h (state_of f) f.store f.list q.1 v) }

-- ---- one step
moved_visits : (h : Head) (st : List ℤ) (c : Cursor) (o : Outcome) → (moved (boxed h) st c o).cursor.state.visits ≡ suc c.state.visits
unfolding visited lent_become
moved_visits h st c (Outcome.Dropped p s) = refl
moved_visits h st c (Outcome.Kept mark) = refl
moved_visits h st c (Outcome.Cut r) = refl

module _ (h : Head) (st : List ℤ) (c : Cursor) (r : Ready h st c) where
  -- any list of that length shows what a visit does to the store
  ready_moved : (o : Outcome) → Visits (boxed h) st c o → Ready h (moved (boxed h) st c o).store (moved (boxed h) st c o).cursor
  ready_moved o v =
      let list : List (Entry Box) = replicate c.room (entry unit 0 0) in
      let e : c.room ≡ length list = sym (length-replicate c.room (entry unit 0 0)) in
      let k : KeptIn h (memory_of st list c.state) = kept_in h c.state st list r.long (omega (arith, r.kept_high)) r.dropped_high r.slots in
      let t : (lent (cells h)).turn (length list) (memory_of st list c.state) ≡ go
      = ap (λ (i : ℕ). (lent (cells h)).turn i (memory_of st list c.state)) (sym e) ∙ turn_is (boxed h) list st c e r.kept_high ∙ turn_go (boxed h) st c o v in
      let q : (length (then (boxed h) list st c e r.kept_high o) ≡ length list) × KeptIn h (memory_of (moved (boxed h) st c o).store (then (boxed h) list st c e r.kept_high o) (moved (boxed h) st c o).cursor.state)
      = subst (λ (f : Lent ℤ Box). (length f.list ≡ length list) × KeptIn h f) (visit_is (boxed h) list st c e r.kept_high o v) (visit_in h r.limits (memory_of st list c.state) k t) in
      record {
        limits = r.limits;
        long = q.1.enough.store_fits;
        slots = all_allowed h (moved (boxed h) st c o).cursor.state (moved (boxed h) st c o).store (then (boxed h) list st c e r.kept_high o) q.1;
        kept_high = omega (arith, q.1.enough.kept_fits, q.0);
        room_fits = r.room_fits;
        dropped_high = q.1.stands.dropped_high;
        visits_fit = omega (arith, moved_visits h st c o, r.visits_fit, v.budget);
      }

  ready_by : (d : Result Outcome Word) → SaysDue (boxed h) st c d → Ready h (by_due (boxed h) st c d).store (by_due (boxed h) st c d).cursor
  ready_by (Err w) s = record { limits = r.limits; long = r.long; slots = r.slots; kept_high = r.kept_high; room_fits = r.room_fits; dropped_high = r.dropped_high; visits_fit = r.visits_fit }
  ready_by (Ok o) s = ready_moved o s

  -- The invariant of a driver's loop.
  pub ready_next : Ready h (next (boxed h) st c).store (next (boxed h) st c).cursor
  unfolding next
  ready_next = ready_by (due (boxed h) st c) (due_says (boxed h) st c)

  -- its measure: what is left of the budget, and the turn that stops
  fewer_by : (d : Result Outcome Word) → SaysDue (boxed h) st c d → turns_left (by_due (boxed h) st c d).cursor < suc c.left
  fewer_by (Err w) s = omega arith
  fewer_by (Ok o) s = omega (arith, s.budget)

  pub next_fewer : goes c ≡ true → turns_left (next (boxed h) st c).cursor < turns_left c
  unfolding next
  next_fewer e =
      let n : turns_left c ≡ suc c.left = ap (λ (b : Bool). cond b (suc c.left) 0) e in
      subst (λ (i : ℕ). turns_left (next (boxed h) st c).cursor < i) (sym n) (fewer_by (due (boxed h) st c) (due_says (boxed h) st c))

-- a state that passes the check may be run with any 32-bit budget and any list
pub judged_ready : (h : Head) (s : State) (st : List ℤ) (list : List Kept) (budget : ℕ) → length list < 2 ^ 64 → budget < 2 ^ 32 → judged h s st list ≡ Ok tt
    → Ready h st (begun s budget (length list))
judged_ready h s st list budget r b e =
    let k = (judged_allowed h s st list).0 e in
    record {
      limits = k.0;
      long = k.1;
      slots = k.2.slots;
      kept_high = k.2.kept_high;
      room_fits = r;
      dropped_high = k.2.dropped_high;
      visits_fit = omega (arith, k.2.visits_high);
    }
