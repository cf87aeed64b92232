-- A driver's loop over `step` is `drive` of the lent machine (`run_drives`). Assumes nothing.
use Rattle.std.specs.Prelude.{Result, Ok, Err}
use mathlib.Core.Path.{◌≡◌, refl, sym, ap, subst, ◌∙◌}
use mathlib.Core.Bool.{Bool, true, false, cond}
use mathlib.Core.List.{List, [], ◌∷◌, map}
use Prim.Native.Nat.{ℕ, zero, suc, ◌-◌, ◌≤◌}
use native.Mathlib.Omega.{arith}
use lib.ListN.{length, set, length-set}
use Rattle.bernstein.specs.Numbers.{Box}
use Rattle.boxes.specs.declared.visit.Outcome.{Outcome}
use Rattle.boxes.specs.declared.visit.Word.{Word}
use Rattle.boxes.specs.declared.visit.Word.TheVariants.{Finished, Spent, Full}
use Rattle.search.specs.Machine.{Answer, finished, spent, full, Turn, nothing, no_room, go, stop, drive}
use Rattle.search.specs.Search.{Entry, entry}
use Rattle.search.specs.Lent.{Lent, lent, lent_top, lent_become}
use Rattle.search.proofs.Machine.{drive_nothing, drive_spent, drive_full, drive_go}
use Rattle.search.proofs.Lent.{lent_turn}
use Rattle.waiting.specs.Cells.{as_look, Boxed, cells_of}
use Rattle.waiting.specs.States.{memory_of}
use Rattle.waiting.specs.Steps.{Next, top, goes, halted, due, visited, moved, by_due, next, visit_of, seen}
use Rattle.waiting.specs.Runs.{Way, way, stored, turned, went, forget, remember, word_of, Ends, OneTurn, TurnTurns, RunDrives}
use Rattle.waiting.specs.declared.state.State.{State}
use Rattle.waiting.specs.declared.cursor.Kept.{Kept}
use Rattle.waiting.specs.declared.cursor.Cursor.{Cursor}
use Rattle.waiting.proofs.Turning.{Visits, SaysDue, due_says, turn_none, turn_waits, turn_full, turn_go}

-- ---- lists
map_set : {A B : Type 0} (f : A → B) (l : List A) (i : ℕ) (a : A) → map f (set l i a) ≡ set (map f l) i (f a)
map_set f [] i a = refl
map_set f (x ∷ l) zero a = refl
map_set f (x ∷ l) (suc i) a = ap (λ (t : List _). f x ∷ t) (map_set f l i a)

-- ---- the driver
went_halted : {A : Type 0} (K : Boxed A) (f : ℕ) (w : Way A) → goes w.cursor ≡ false → went K f w ≡ w
unfolding went
went_halted K zero w e = refl
went_halted K (suc f) w e = ap (λ (b : Bool). elim b [ true ↦ went K f (turned K w) | false ↦ w ]) e

went_turn : {A : Type 0} (K : Boxed A) (f : ℕ) (w : Way A) → goes w.cursor ≡ true → went K (suc f) w ≡ went K f (turned K w)
unfolding went
went_turn K f w e = ap (λ (b : Bool). elim b [ true ↦ went K f (turned K w) | false ↦ w ]) e

pub next_by : {A : Type 0} (K : Boxed A) (st : List A) (c : Cursor) (d : Result Outcome Word) → due K st c ≡ d → next K st c ≡ by_due K st c d
unfolding next
next_by K st c d e = ap (by_due K st c) e

-- what is left of the budget, and the turn that stops
abbrev pub turns_left : Cursor → ℕ
turns_left c = cond (goes c) (suc c.left) 0

-- One turn of a loop that goes on as long as the cursor says so: what it is to reach stays the same.
pub went_on : {A : Type 0} (K : Boxed A) (w : Way A) → goes w.cursor ≡ true → went K (turns_left w.cursor) w ≡ went K (turns_left (turned K w).cursor) (turned K w)
went_on {A = A} K w g =
    ap (λ (b : Bool). went K (cond b (suc w.cursor.left) 0) w) g ∙ went_turn K w.cursor.left w g ∙ same (due K w.store w.cursor) refl (due_says K w.store w.cursor)
  where
    same : (d : Result Outcome Word) → due K w.store w.cursor ≡ d → SaysDue K w.store w.cursor d → went K w.cursor.left (turned K w) ≡ went K (turns_left (turned K w).cursor) (turned K w)
    same (Err v) e s =
        let f : goes (turned K w).cursor ≡ false = ap (λ (n : Next A). goes n.cursor) (next_by K w.store w.cursor (Err v) e) in
        went_halted K w.cursor.left (turned K w) f ∙ sym (went_halted K (turns_left (turned K w).cursor) (turned K w) f)
    same (Ok o) e s =
        let f : turns_left (turned K w).cursor ≡ suc (w.cursor.left - 1) = ap (λ (n : Next A). turns_left n.cursor) (next_by K w.store w.cursor (Ok o) e) in
        let n : suc (w.cursor.left - 1) ≡ w.cursor.left = omega (arith, s.budget) in
        ap (λ (i : ℕ). went K i (turned K w)) (sym (f ∙ n))

pub went_off : {A : Type 0} (K : Boxed A) (w : Way A) → goes w.cursor ≡ false → went K (turns_left w.cursor) w ≡ w
went_off K w e = went_halted K (turns_left w.cursor) w e

-- ---- any list of records is one of entries
pub remembered : (list : List Kept) → map forget (map remember list) ≡ list
remembered [] = refl
remembered (k ∷ list) = ap (λ (l : List Kept). k ∷ l) (remembered list)

-- ---- the list after a visit
abbrev pub after : {A : Type 0} → Boxed A → List (Entry Box) → State → List A → Outcome → List (Entry Box)
after K list s l (Outcome.Dropped p g) = list
after K list s l (Outcome.Kept mark) = set list s.kept (entry (K.box l) mark (suc s.visits))
after K list s l (Outcome.Cut r) = list

module _ {A : Type 0} (K : Boxed A) (list : List (Entry Box)) (st : List A) (c : Cursor) (room : c.room ≡ length list) (fits : c.state.kept ≤ c.room) where
  abbrev here : Way A
  here = way (map forget list) st c

  abbrev pub machine : Lent A Box
  machine = memory_of st list c.state

  pub turn_is : (lent (cells_of K)).turn c.room machine ≡ Rattle.waiting.proofs.Turning.turn_now K st c
  turn_is = lent_turn (cells_of K) c.room machine (omega arith)

  -- ---- a visit: of which the rules say o
  abbrev pub then : Outcome → List (Entry Box)
  then o = after K list c.state (top K st c.state) o

  become_is : (o : Outcome) → lent_become (cells_of K) (c.state.waiting - 1) machine (as_look o) ≡ memory_of (moved K st c o).store (then o) (moved K st c o).cursor.state
  unfolding visited lent_become
  become_is (Outcome.Dropped p g) = refl
  become_is (Outcome.Kept mark) = refl
  become_is (Outcome.Cut r) = refl

  stored_is : (o : Outcome) → stored (map forget list) (moved K st c o) ≡ way (map forget (then o)) (moved K st c o).store (moved K st c o).cursor
  stored_is (Outcome.Dropped p g) = refl
  stored_is (Outcome.Kept mark) =
      ap (λ (xs : List Kept). way xs (moved K st c (Outcome.Kept mark)).store (moved K st c (Outcome.Kept mark)).cursor)
      (sym (map_set forget list c.state.kept (entry (K.box (top K st c.state)) mark (suc c.state.visits))))
  stored_is (Outcome.Cut r) = refl

  pub then_length : (o : Outcome) → length (then o) ≡ length list
  then_length (Outcome.Dropped p g) = refl
  then_length (Outcome.Kept mark) = simp length-set
  then_length (Outcome.Cut r) = refl

  then_kept : (o : Outcome) → Visits K st c o → (moved K st c o).cursor.state.kept ≤ c.room
  unfolding visited lent_become
  then_kept (Outcome.Dropped p g) v = fits
  then_kept (Outcome.Kept mark) v = v.has_room mark refl
  then_kept (Outcome.Cut r) v = fits

  pub visit_is : (o : Outcome) → Visits K st c o → (lent (cells_of K)).visit machine ≡ memory_of (moved K st c o).store (then o) (moved K st c o).cursor.state
  unfolding lent_top
  visit_is o v =
      let e : c.state.waiting ≡ suc (c.state.waiting - 1) = omega (arith, v.waits) in
      ap (λ (i : ℕ). lent_top (cells_of K) i machine) e
      ∙ ap (λ (x : Outcome). lent_become (cells_of K) (c.state.waiting - 1) machine (as_look x)) v.is_look ∙ become_is o

  -- ---- a stop: nothing has moved
  turned_stop : (w : Word) → due K st c ≡ Err w → turned K here ≡ way (map forget list) st (halted c w)
  turned_stop w e = ap (stored (map forget list)) (next_by K st c (Err w) e)

  stops : (b : ℕ) (a : Answer) → goes c ≡ true → due K st c ≡ Err (word_of a) → drive (lent (cells_of K)) b c.room machine ≡ stop machine a
      → Ends (went K (suc b) here) (drive (lent (cells_of K)) b c.room machine)
  stops b a g e d =
      let t : went K (suc b) here ≡ way (map forget list) st (halted c (word_of a))
      = went_turn K b here g ∙ ap (went K b) (turned_stop (word_of a) e) ∙ went_halted K b (way (map forget list) st (halted c (word_of a))) refl in
      rw (t, d) (record { store = refl; list = refl; state = refl; word = refl })

  -- ---- a turn: the driver and the machine go on together
  turned_visit : (o : Outcome) → due K st c ≡ Ok o → turned K here ≡ way (map forget (then o)) (moved K st c o).store (moved K st c o).cursor
  turned_visit o e = ap (stored (map forget list)) (next_by K st c (Ok o) e) ∙ stored_is o

-- ---- one turn
pub turn_turns : TurnTurns
turn_turns A K list st c b r k = from (due K st c) refl (due_says K st c)
  where
    at : (t : Turn) → Rattle.waiting.proofs.Turning.turn_now K st c ≡ t → OneTurn K list st c t → OneTurn K list st c ((lent (cells_of K)).turn c.room (memory_of st list c.state))
    at t e q = subst (OneTurn K list st c) (sym (turn_is K list st c r k ∙ e)) q

    from : (d : Result Outcome Word) → due K st c ≡ d → SaysDue K st c d → OneTurn K list st c ((lent (cells_of K)).turn c.room (memory_of st list c.state))
    from (Err Finished) d s = at nothing (turn_none K st c s) (turned_stop K list st c r k Finished d)
    from (Err Spent) d s = absurd (omega (arith, s.1))
    from (Err Full) d s = at no_room (turn_full K st c s.0 s.1) (turned_stop K list st c r k Full d)
    from (Ok o) d s = at go (turn_go K st c o s) (
      rw (turned_visit K list st c r k o d, visit_is K list st c r k o s) (record { store = refl; list = refl; state = refl; goes = refl }),
      ap (seen K st c) d ∙ ap (λ (o : Outcome). Ok (visit_of K (top K st c.state) o)) (sym s.is_look),
    )

-- ---- by the budget
abbrev Drives : {A : Type 0} → Boxed A → ℕ → Type 0
Drives {A} K b = (list : List (Entry Box)) (st : List A) (c : Cursor) → goes c ≡ true → c.left ≡ b → c.room ≡ length list → c.state.kept ≤ c.room
    → Ends (went K (suc b) (way (map forget list) st c)) (drive (lent (cells_of K)) b c.room (memory_of st list c.state))

drives_zero : {A : Type 0} (K : Boxed A) → Drives K 0
drives_zero K list st c g e r k = from (due K st c) refl (due_says K st c)
  where
    from : (d : Result Outcome Word) → due K st c ≡ d → SaysDue K st c d → Ends (went K 1 (way (map forget list) st c)) (drive (lent (cells_of K)) 0 c.room (memory_of st list c.state))
    from (Err Finished) d s = stops K list st c r k 0 finished g d (drive_nothing (lent (cells_of K)) c.room (memory_of st list c.state) 0 (turn_is K list st c r k ∙ turn_none K st c s))
    from (Err Spent) d s = stops K list st c r k 0 spent g d (drive_spent (lent (cells_of K)) c.room (memory_of st list c.state) (λ q. turn_waits K st c s.0 (sym (turn_is K list st c r k) ∙ q)))
    from (Err Full) d s = absurd (omega (arith, s.1.budget))
    from (Ok o) d s = absurd (omega (arith, s.budget))

drives_suc : {A : Type 0} (K : Boxed A) (b : ℕ) → Drives K b → Drives K (suc b)
drives_suc K b drives list st c g e r k = from (due K st c) refl (due_says K st c)
  where
    from : (d : Result Outcome Word) → due K st c ≡ d → SaysDue K st c d → Ends (went K (suc (suc b)) (way (map forget list) st c)) (drive (lent (cells_of K)) (suc b) c.room (memory_of st list c.state))
    from (Err Finished) d s = stops K list st c r k (suc b) finished g d (drive_nothing (lent (cells_of K)) c.room (memory_of st list c.state) (suc b) (turn_is K list st c r k ∙ turn_none K st c s))
    from (Err Spent) d s = absurd (omega (arith, s.1))
    from (Err Full) d s = stops K list st c r k (suc b) full g d (drive_full (lent (cells_of K)) c.room (memory_of st list c.state) b (turn_is K list st c r k ∙ turn_full K st c s.0 s.1))
    from (Ok o) d s =
        let ih = drives (then K list st c r k o) (moved K st c o).store (moved K st c o).cursor refl (omega (arith, e)) (r ∙ sym (then_length K list st c r k o)) (then_kept K list st c r k o s) in
        rw (
          went_turn K (suc b) (way (map forget list) st c) g,
          turned_visit K list st c r k o d,
          drive_go (lent (cells_of K)) c.room (memory_of st list c.state) b (turn_is K list st c r k ∙ turn_go K st c o s),
          visit_is K list st c r k o s,
        ) ih

drives : {A : Type 0} (K : Boxed A) (b : ℕ) → Drives K b
drives K zero = drives_zero K
drives K (suc b) = drives_suc K b (drives K b)

pub run_drives : RunDrives
run_drives A K list st c g r k = drives K c.left list st c g refl r k
