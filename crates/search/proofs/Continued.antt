-- A continued run in lent memory ends, slot by slot, where one fresh call with all the visits and the last list ends. Assumes nothing.
use mathlib.Core.Path.{◌≡◌, refl, ap, subst, ◌∙◌}
use lib.ListN.{length}
use Prim.Native.Nat.{ℕ, ◌-◌, ◌≤◌}
use native.Mathlib.Omega.{arith}
use Rattle.search.specs.Machine.{Machine, drive, Called, first, again}
use Rattle.search.specs.Search.{Visit, visit, turn, due}
use Rattle.search.specs.Lent.{Slots, slots, Lent, held, lent_top, lent, used, LentCalled, lent_first, lent_again, LentContinued}
use Rattle.search.proofs.Machine.{Simulates, drive_in_step, Counting, drive_called}
use Rattle.search.proofs.Search.{turn_wider, search_counts}
use Rattle.search.proofs.Lent.{same_notes, state_of, joined, Uses, uses_top}

module _ {A : Type 0} (K : Slots A) where
  -- The machine on what is in use: its list grows, so no length of a list matters to it.
  abbrev growing : Machine
  growing = record {
    State = Lent A K.Place;
    Note = Visit (slots K);
    turn = λ room u. turn (slots K) room (state_of K u.waiting u);
    visit = λ u. joined K (lent_top K u.waiting u) (visit (slots K) (state_of K u.waiting u));
    note = λ u. due (slots K) (state_of K u.waiting u).waiting;
  }

  abbrev growing_counts : Counting growing
  growing_counts = record {
    visits = λ u. u.visits;
    counts = λ room u e. (search_counts (slots K)).counts room (state_of K u.waiting u) e;
    wider = λ room room' u h e. turn_wider (slots K) room room' (state_of K u.waiting u) h e;
  }

  uses : (p room : ℕ) → room ≤ p → Simulates (lent K) growing room (Uses K p) (λ y z. y ≡ z)
  uses p room h = record {
    turns = λ f u r. ap (growing.turn room) r.in_use;
    visits = λ f u r e. subst (λ (x : Lent A K.Place). Uses K p ((lent K).visit f) (growing.visit x)) r.in_use
        (uses_top K p room f.waiting f h r.places r.fits (ap (growing.turn room) r.in_use ∙ e));
    notes = λ f u r. same_notes (slots K) (held K f) (state_of K u.waiting u) (ap (λ (x : Lent A K.Place). state_of K x.waiting x) r.in_use);
  }

  uses_run : (room b : ℕ) (f : Lent A K.Place) → room ≤ length f.list → f.kept ≤ length f.list → Uses K (length f.list) (drive (lent K) b room f).state (drive growing b room (used f)).state
  uses_run room b f h k = (drive_in_step (uses (length f.list) room h) b f (used f) (record { in_use = refl; places = refl; fits = k })).state

  module _ (f : Lent A K.Place) (ff : f.kept ≤ length f.list) where
    called : {g : Lent A K.Place} → LentCalled K f g → Called growing (used f) (length g.list) (used g) × (g.kept ≤ length g.list) × (length f.list ≤ length g.list)
    called (lent_first b) =
        let r = uses_run (length f.list) b f (omega arith) ff in
        (rw (r.places, r.in_use) (first b (length f.list)), rw r.places r.fits, rw r.places (omega arith))
    called (lent_again {g = g} before next e h b) =
        let k : next.kept ≤ length next.list = omega (arith, (called before).1, ap (λ (u : Lent A K.Place). u.kept) e) in
        let r = uses_run (length next.list) b next (omega arith) k in
        (rw (r.places, r.in_use, ← e) (again (called before).0 b (length next.list) h), rw r.places r.fits, rw r.places (omega (arith, (called before).2)))

pub lent_continued : LentContinued
lent_continued A K f g ff c fresh e l =
    let k : fresh.kept ≤ length fresh.list = omega (arith, (called K f ff c).2, ap (λ (u : Lent A K.Place). u.kept) e) in
    (uses_run K (length fresh.list) (g.visits - f.visits) fresh (omega arith) k).in_use ∙ rw (← e, l) (drive_called (growing_counts K) (called K f ff c).0)
