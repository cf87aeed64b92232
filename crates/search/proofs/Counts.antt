-- The counts at every stop, how long a search can take, volumes, and visit numbers that rise. Assumes nothing.
use mathlib.Core.Path.{◌≡◌, refl, ap, ◌∙◌}
use mathlib.Core.Logic.{◌≢◌}
use mathlib.Core.List.{List, [], ◌∷◌, ◌++◌}
use lib.ListN.{length, length-append}
use lib.Pow.{pow_pos}
use Prim.Native.Nat.{ℕ, suc, ◌+◌, ◌-◌, ◌^◌, ◌≤◌, ◌<◌}
use native.Mathlib.Omega.{arith}
use Rattle.whole.specs.Half.{Half, lower, upper}
use Rattle.search.specs.Lists.{sum}
use Rattle.search.specs.Machine.{Answer, finished, spent, full}
use Rattle.search.specs.Search.{Look, is_dropped, is_kept, is_cut, Search, Entry, States, Log, entry, seen, start, become, run, log}
use Rattle.search.specs.Claims.{Means}
use Rattle.search.specs.Counts.{by_kind, tally, drops, keeps, cuts, Counted, CountsAddUp, FinishedCounts, Measured, AlwaysFinishes, volume, settled, VolumesAddUp, Rising, VisitNumbersRise}
use Rattle.search.proofs.Lists.{sum_snoc}
use Rattle.search.proofs.Search.{Closed, run_keeps}
use Rattle.search.proofs.Claims.{answer_means}

module _ (S : Search) where
  -- One visit more.
  tally_snoc : (a b c : S.Node → ℕ) (h : Log S) (n : S.Node) (l : Look S.Drop S.Cut) → tally S a b c (h ++ (seen n l ∷ [])) ≡ tally S a b c h + by_kind (a n) (b n) (c n) l
  unfolding tally
  tally_snoc a b c h n l = sum_snoc (λ z. by_kind (a z.node) (b z.node) (c z.node) z.what) h (seen n l)

  one_more : (h : Log S) (n : S.Node) (l : Look S.Drop S.Cut) → (drops S (h ++ (seen n l ∷ [])) ≡ drops S h + by_kind 1 0 0 l)
      × (keeps S (h ++ (seen n l ∷ [])) ≡ keeps S h + by_kind 0 1 0 l) × (cuts S (h ++ (seen n l ∷ [])) ≡ cuts S h + by_kind 0 0 1 l)
  one_more h n l = (tally_snoc _ _ _ h n l, tally_snoc _ _ _ h n l, tally_snoc _ _ _ h n l)

  longer : (n : S.Node) (m : ℕ) (t : States S) → length (t.kept ++ (entry (S.place n) m (suc t.visits) ∷ [])) ≡ suc (length t.kept)
  longer n m t = omega (arith, length-append t.kept (entry (S.place n) m (suc t.visits) ∷ []))

  counted_closed : (s : States S) → Closed S (Counted S s)
  unfolding become
  counted_closed s h n t (is_dropped x) e u p = omega (arith, one_more h n (is_dropped x))
  counted_closed s h n t (is_kept m) e u p = omega (arith, one_more h n (is_kept m), longer n m t)
  counted_closed s h n t (is_cut c) e u p = omega (arith, one_more h n (is_cut c))

pub counts_add_up : CountsAddUp
unfolding tally
counts_add_up S b room s = run_keeps S (Counted S s) (counted_closed S s) b room [] s (omega arith)

pub finished_counts : FinishedCounts
finished_counts S root b room e =
    let c : Counted S (start S root) (log S b room (start S root)) (run S b room (start S root)).state = counts_add_up S b room (start S root) in
    let m : Means S b room (start S root) (run S b room (start S root)).state finished = rw e at (answer_means S b room (start S root)) in
    let l : length (run S b room (start S root)).state.waiting ≡ 0 = rw m.1 in
    omega arith

module _ (S : Search) (left : S.Node → ℕ) (M : Measured S left) where
  -- The visits that a cell can take.
  abbrev effort : S.Node → ℕ
  effort n = 2 ^ suc (left n) - 1

  halved : (n : S.Node) (c : S.Cut) → S.look n ≡ is_cut c → (h : Half) → (volume S left n ≡ volume S left (S.half h c n) + volume S left (S.half h c n)) × (0 < volume S left (S.half h c n))
  halved n c e h = (ap (λ (i : ℕ). 2 ^ i) (M n c e h) ∙ omega arith, pow_pos (left (S.half h c n)))

  -- From `s` to `t` by the visits `h`: the visits made and those that the waiting cells can still take, the places of the list likewise, and the volume.
  pub record Taken (s : States S) (h : Log S) (t : States S) : Type 0 where
    pub efforts : t.visits + sum effort t.waiting ≤ s.visits + sum effort s.waiting
    pub places : length t.kept + sum (volume S left) t.waiting ≤ length s.kept + sum (volume S left) s.waiting
    pub volumes : settled S left h + sum (volume S left) t.waiting ≡ sum (volume S left) s.waiting

  settles : (h : Log S) (n : S.Node) (l : Look S.Drop S.Cut) → settled S left (h ++ (seen n l ∷ [])) ≡ settled S left h + by_kind (volume S left n) (volume S left n) 0 l
  settles h n l = tally_snoc S (volume S left) (volume S left) (λ n. 0) h n l

  taken_closed : (s : States S) → Closed S (Taken s)
  unfolding become
  taken_closed s h n t (is_dropped x) e u p = omega (arith, pow_pos (left n), settles h n (is_dropped x))
  taken_closed s h n t (is_kept m) e u p = omega (arith, pow_pos (left n), settles h n (is_kept m), longer S n m t)
  taken_closed s h n t (is_cut c) e u p = omega (arith, halved n c e lower, halved n c e upper, settles h n (is_cut c))

  taken : (b room : ℕ) (s : States S) → Taken s (log S b room s) (run S b room s).state
  unfolding tally
  taken b room s = run_keeps S (Taken s) (taken_closed s) b room [] s (omega arith)

  some_left : (w : List S.Node) → w ≢ [] → (0 < sum effort w) × (0 < sum (volume S left) w)
  some_left [] h = absurd (h refl)
  some_left (n ∷ w) h = omega (arith, pow_pos (left n))

  -- From any state: enough visits and enough places for what waits.
  pub run_finishes : (b room : ℕ) (s : States S) → sum effort s.waiting ≤ b → length s.kept + sum (volume S left) s.waiting ≤ room → (run S b room s).answer ≡ finished
  run_finishes b room s hb hr = from (run S b room s).state (taken b room s) (run S b room s).answer (answer_means S b room s)
    where
      from : (t : States S) → Taken s (log S b room s) t → (a : Answer) → Means S b room s t a → a ≡ finished
      from t k finished m = refl
      from t k spent m = absurd (omega (arith, m.0, some_left t.waiting m.1))
      from t k full m = absurd (omega (arith, m.1.no_room, some_left t.waiting (λ e. let z : ◌≡◌ {A = ℕ} 0 1 = cc m.1.top in omega arith)))

pub always_finishes : AlwaysFinishes
always_finishes S left M root b room hb hr = run_finishes S left M b room (start S root) (omega arith) (omega arith)

pub volumes_add_up : VolumesAddUp
volumes_add_up S left M b room s = (taken S left M b room s).volumes

module _ {Place : Type 0} where
  rising_up : (low : ℕ) (k : List (Entry Place)) (high : ℕ) → Rising low k high → Rising low k (suc high)
  rising_up low [] high r = omega arith
  rising_up low (e ∷ k) high r = (r.0, rising_up e.visit k high r.1)

  rising_snoc : (low : ℕ) (k : List (Entry Place)) (high : ℕ) (p : Place) (m : ℕ) → Rising low k high → Rising low (k ++ (entry p m (suc high) ∷ [])) (suc high)
  rising_snoc low [] high p m r = omega arith
  rising_snoc low (e ∷ k) high p m r = (r.0, rising_snoc e.visit k high p m r.1)

rising_closed : (S : Search) → Closed S (λ h s. Rising 0 s.kept s.visits)
unfolding become
rising_closed S h n s (is_dropped x) e u p = rising_up 0 s.kept s.visits p
rising_closed S h n s (is_kept m) e u p = rising_snoc 0 s.kept s.visits (S.place n) m p
rising_closed S h n s (is_cut c) e u p = rising_up 0 s.kept s.visits p

pub visit_numbers_rise : VisitNumbersRise
visit_numbers_rise S b room s r = run_keeps S (λ h s. Rising 0 s.kept s.visits) (rising_closed S) b room [] s r
