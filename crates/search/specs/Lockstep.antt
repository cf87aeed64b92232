-- Two searches whose cells look alike: they run in step, with the same answers and counts and related lists.
-- What is related (`Link`), when cells look alike (`Mimics`), states in step (`InStep`), and the claim, whose proof is in `proofs/`.
use Rattle.std.specs.Prelude.{◌≡◌, ℕ}
use Rattle.whole.specs.Half.{Half}
use Rattle.search.specs.Lists.{Both}
use Rattle.search.specs.Machine.{BothStop}
use Rattle.search.specs.Search.{Look, is_dropped, is_kept, is_cut, Search, Entry, States, Visit, run, log}

-- The same is said of two cells; by what they are dropped or cut is related.
pub data Alike {D D' C C' : Type 0} (Drops : D → D' → Type 0) (Cuts : C → C' → Type 0) : Look D C → Look D' C' → Type 0 where
  both_dropped : {x : D} {y : D'} → Drops x y → Alike Drops Cuts (is_dropped x) (is_dropped y)
  both_kept : {mark : ℕ} → Alike Drops Cuts (is_kept mark) (is_kept mark)
  both_cut : {c : C} {d : C'} → Cuts c d → Alike Drops Cuts (is_cut c) (is_cut d)

-- What is related between the two searches: cells, places, and by what a cell is dropped or cut.
pub record Link (S T : Search) : Type 1 where
  pub Nodes : S.Node → T.Node → Type 0
  pub Places : S.Place → T.Place → Type 0
  pub Drops : S.Drop → T.Drop → Type 0
  pub Cuts : S.Cut → T.Cut → Type 0

-- Related cells have related places, look alike, and have related halves if they are cut.
pub record Mimics (S T : Search) (L : Link S T) : Type 0 where
  pub places : (n : S.Node) (m : T.Node) → L.Nodes n m → L.Places (S.place n) (T.place m)
  pub looks : (n : S.Node) (m : T.Node) → L.Nodes n m → Alike L.Drops L.Cuts (S.look n) (T.look m)
  pub halves : (n : S.Node) (m : T.Node) → L.Nodes n m → (c : S.Cut) (d : T.Cut) → L.Cuts c d → S.look n ≡ is_cut c → (h : Half) → L.Nodes (S.half h c n) (T.half h d m)

pub record SameEntry {P Q : Type 0} (Places : P → Q → Type 0) (e : Entry P) (f : Entry Q) : Type 0 where
  pub place : Places e.place f.place
  pub mark : e.mark ≡ f.mark
  pub visit : e.visit ≡ f.visit

pub record SameVisit (S T : Search) (L : Link S T) (y : Visit S) (z : Visit T) : Type 0 where
  pub node : L.Nodes y.node z.node
  pub what : Alike L.Drops L.Cuts y.what z.what

pub record InStep (S T : Search) (L : Link S T) (s : States S) (t : States T) : Type 0 where
  pub waiting : Both L.Nodes s.waiting t.waiting
  pub kept : Both (SameEntry L.Places) s.kept t.kept
  pub visits : s.visits ≡ t.visits
  pub dropped : s.dropped ≡ t.dropped

-- Searches whose cells look alike run in step: the same answer and counts, related lists, and logs related visit by visit.
abbrev pub AlikeRunAlike : Type 1
AlikeRunAlike = (S T : Search) (L : Link S T) → Mimics S T L → (budget room : ℕ) (s : States S) (t : States T) → InStep S T L s t
    → BothStop (InStep S T L) (SameVisit S T L) (run S budget room s) (log S budget room s) (run T budget room t) (log T budget room t)
