-- Two searches whose cells look alike run in step. Assumes nothing.
use mathlib.Core.Path.{◌≡◌, refl, ap}
use mathlib.Core.List.{List, [], ◌∷◌}
use Prim.Native.Nat.{ℕ, zero, suc}
use Rattle.whole.specs.Half.{lower, upper}
use Rattle.search.specs.Lists.{Both}
use Rattle.search.specs.Search.{Look, Search, Entry, States, state, become, visit, turn_look, turn, turn_top, due, searching}
use Rattle.search.specs.Lockstep.{Alike, both_dropped, both_kept, both_cut, Link, Mimics, SameEntry, SameVisit, InStep, AlikeRunAlike}
use Rattle.search.proofs.Lists.{both_length, both_append, both_path}
use Rattle.search.proofs.Machine.{Simulates, drive_in_step}

alike_turn : {D D' C C' : Type 0} {Drops : D → D' → Type 0} {Cuts : C → C' → Type 0} {l : Look D C} {l' : Look D' C'} (a : ℕ)
    → Alike Drops Cuts l l' → turn_look a l ≡ turn_look a l'
unfolding turn_look
alike_turn a (both_dropped h) = refl
alike_turn zero both_kept = refl
alike_turn (suc a) both_kept = refl
alike_turn a (both_cut h) = refl

module _ (S T : Search) (L : Link S T) (M : Mimics S T L) where
  step_become : (n : S.Node) (m : T.Node) (s : States S) (t : States T) → L.Nodes n m → InStep S T L s t
      → (l : Look S.Drop S.Cut) (l' : Look T.Drop T.Cut) → S.look n ≡ l → Alike L.Drops L.Cuts l l' → InStep S T L (become S n s l) (become T m t l')
  unfolding become
  step_become n m s t r p _ _ e (both_dropped h) = record { waiting = p.waiting; kept = p.kept; visits = ap suc p.visits; dropped = ap suc p.dropped }
  step_become n m s t r p _ _ e both_kept = record {
    waiting = p.waiting;
    kept = both_append (SameEntry L.Places) s.kept t.kept _ _ p.kept (record { place = M.places n m r; mark = refl; visit = ap suc p.visits }, tt);
    visits = ap suc p.visits;
    dropped = p.dropped;
  }
  step_become n m s t r p _ _ e (both_cut {c = c} {d = d} h) =
      record { waiting = (M.halves n m r c d h e lower, (M.halves n m r c d h e upper, p.waiting)); kept = p.kept; visits = ap suc p.visits; dropped = p.dropped }

  -- What is said of two states in step, by their waiting lists.
  pub record Steps (room : ℕ) (s : States S) (t : States T) : Type 0 where
    pub turns : turn S room s ≡ turn T room t
    pub visits : InStep S T L (visit S s) (visit T t)
    pub notes : Both (SameVisit S T L) (due S s.waiting) (due T t.waiting)

  steps : (room : ℕ) (s : States S) (t : States T) → InStep S T L s t → Steps room s t
  unfolding turn turn_top visit due
  steps room s t p = top s.waiting t.waiting p.waiting
    where
      top : (w : List S.Node) (w' : List T.Node) → Both L.Nodes w w' → Steps room (state w s.kept s.visits s.dropped) (state w' t.kept t.visits t.dropped)
      top [] [] b = record { turns = refl; visits = record { waiting = tt; kept = p.kept; visits = p.visits; dropped = p.dropped }; notes = tt }
      top [] (m ∷ w') b = elim b [ ]
      top (n ∷ w) [] b = elim b [ ]
      top (n ∷ w) (m ∷ w') b = record {
        turns = rw (both_length (SameEntry L.Places) s.kept t.kept p.kept) (alike_turn _ (M.looks n m b.0));
        visits = step_become n m (state w s.kept s.visits s.dropped) (state w' t.kept t.visits t.dropped) b.0
            (record { waiting = b.1; kept = p.kept; visits = p.visits; dropped = p.dropped }) (S.look n) (T.look m) refl (M.looks n m b.0);
        notes = (record { node = b.0; what = M.looks n m b.0 }, tt);
      }

pub alike_run_alike : AlikeRunAlike
alike_run_alike S T L M b room s t p = drive_in_step simulates b s t p
  where
    simulates : Simulates (searching S) (searching T) room (InStep S T L) (SameVisit S T L)
    simulates = record {
      turns = λ s t p. (steps S T L M room s t p).turns;
      visits = λ s t p f. (steps S T L M room s t p).visits;
      notes = λ s t p. (steps S T L M room s t p).notes;
    }

-- Where related places are equal, entries in step are equal lists.
pub same_entries : {Place : Type 0} (k l : List (Entry Place)) → Both (SameEntry (λ p q. p ≡ q)) k l → k ≡ l
same_entries k l b = both_path (SameEntry (λ p q. p ≡ q)) (λ e f h i. record { place = h.place i; mark = h.mark i; visit = h.visit i }) k l b
