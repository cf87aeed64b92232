-- What is shown of the counts of every search: they are those of the visits made, how long a search can take, volumes, and the visit numbers of
-- the kept list. Each claim is a type; `proofs/` has its proof under the same name.
use Rattle.std.specs.Prelude.{◌≡◌, List, [], ◌∷◌, length, ℕ, suc, ◌+◌, ◌-◌, ◌*◌, ◌^◌, ◌≤◌, ◌<◌}
use Rattle.search.specs.Lists.{sum}
use Rattle.search.specs.Machine.{finished}
use Rattle.search.specs.Search.{Look, is_dropped, is_kept, is_cut, Search, Entry, States, Log, start, run, log}
use Rattle.search.specs.Claims.{AtCut}

-- One of three numbers, by what became of a cell.
abbrev pub by_kind : {Drop Cut : Type 0} → (drop keep cut : ℕ) → Look Drop Cut → ℕ
by_kind a b c (is_dropped _) = a
by_kind a b c (is_kept _) = b
by_kind a b c (is_cut _) = c

-- Over a log: the sum of one of three numbers for each visit.
unfoldable pub tally : (S : Search) (drop keep cut : S.Node → ℕ) → Log S → ℕ
tally S a b c h = sum (λ z. by_kind (a z.node) (b z.node) (c z.node) z.what) h

module _ (S : Search) where
  abbrev pub drops : Log S → ℕ
  drops h = tally S (λ n. 1) (λ n. 0) (λ n. 0) h

  abbrev pub keeps : Log S → ℕ
  keeps h = tally S (λ n. 0) (λ n. 1) (λ n. 0) h

  abbrev pub cuts : Log S → ℕ
  cuts h = tally S (λ n. 0) (λ n. 0) (λ n. 1) h

-- What the visits `h` did to the counts, from the state `s` to the state `t`.
pub record Counted (S : Search) (s : States S) (h : Log S) (t : States S) : Type 0 where
  pub visits : t.visits ≡ s.visits + (drops S h + keeps S h + cuts S h)
  pub dropped : t.dropped ≡ s.dropped + drops S h
  pub kept : length t.kept ≡ length s.kept + keeps S h
  pub waiting : length t.waiting + drops S h + keeps S h ≡ length s.waiting + cuts S h

-- At every stop the counts are those of the visits made. From a start: visits = drops + keeps + cuts, and waiting + drops + keeps = cuts + 1.
abbrev pub CountsAddUp : Type 1
CountsAddUp = (S : Search) (budget room : ℕ) (s : States S) → Counted S s (log S budget room s) (run S budget room s).state

-- For a fresh start that finishes: visits are twice the cuts plus one, and drops and keeps together are the cuts plus one.
abbrev pub FinishedCounts : Type 1
FinishedCounts = (S : Search) (root : S.Node) (budget room : ℕ) → (run S budget room (start S root)).answer ≡ finished
    → let h : Log S = log S budget room (start S root) in
    ((run S budget room (start S root)).state.visits ≡ cuts S h * 2 + 1) × (drops S h + keeps S h ≡ cuts S h + 1)

-- `left n`: the cuts that are still possible in the cell n. Each half has one fewer.
abbrev pub Measured : (S : Search) → (S.Node → ℕ) → Type 0
Measured S left = AtCut S (λ n m. left n ≡ suc (left m))

-- A budget of 2 ^ (left + 1) - 1 and a list of 2 ^ left places always end finished.
abbrev pub AlwaysFinishes : Type 1
AlwaysFinishes = (S : Search) (left : S.Node → ℕ) → Measured S left → (root : S.Node) (budget room : ℕ)
    → 2 ^ suc (left root) - 1 ≤ budget → 2 ^ left root ≤ room → (run S budget room (start S root)).answer ≡ finished

-- The volume of a cell, in units of the smallest; and the volume that visits settled, by dropping and by keeping.
module _ (S : Search) (left : S.Node → ℕ) where
  abbrev pub volume : S.Node → ℕ
  volume n = 2 ^ left n

  abbrev pub settled : Log S → ℕ
  settled h = tally S volume volume (λ n. 0) h

-- At every stop the dropped and kept volumes, summed over the visits made, and that of the waiting cells come to what waited before. From a fresh start
-- that is the root's, 2 ^ left.
abbrev pub VolumesAddUp : Type 1
VolumesAddUp = (S : Search) (left : S.Node → ℕ) → Measured S left → (budget room : ℕ) (s : States S)
    → settled S left (log S budget room s) + sum (volume S left) (run S budget room s).state.waiting ≡ sum (volume S left) s.waiting

-- The visit numbers of `k` rise strictly, from above `low`, and none passes `high`.
abbrev pub Rising : {Place : Type 0} → ℕ → List (Entry Place) → ℕ → Type 0
Rising low [] high = low ≤ high
Rising low (e ∷ k) high = (low < e.visit) × Rising e.visit k high

-- Along the kept list the visit numbers rise strictly, and none passes the visits made.
abbrev pub VisitNumbersRise : Type 1
VisitNumbersRise = (S : Search) (budget room : ℕ) (s : States S) → Rising 0 s.kept s.visits
    → Rising 0 (run S budget room s).state.kept (run S budget room s).state.visits
