-- What holds of lent memory whenever a call begins, whatever a cell is: it is long enough, the waiting cells are fit, every zero is held. By induction over
-- the calls. So the demands hold of every call: they are stated in `claims` for the cells of a system. Assumes nothing.
--
--     Invariant K          what there is to keep           Good f          f keeps it
--     good_after           a call leaves it                good_next       and so does a longer list
--     good_start           a start has it                  good            whenever a call begins
use mathlib.Core.Path.{◌≡◌, refl, sym, ap, ◌∙◌, subst}
use mathlib.Core.Logic.{inl, inr}
use mathlib.Core.List.{List, []}
use Prim.Native.Nat.{ℕ, suc, ◌*◌, ◌-◌, ◌≤◌}
use native.Mathlib.Omega.{arith}
use native.Mathlib.Nat as NatL
use lib.ListN.{length}
use lib.Seq.{take-take}
use Rattle.search.specs.Lists.{All, Any}
use Rattle.search.specs.Machine.{Answer, finished, spent, full, BothStop}
use Rattle.search.specs.Search.{Entry, States, state, start, run, log}
use Rattle.search.specs.Claims.{Sound, KeptBy, SeenBy, Fitting, Held, Means, Nests, Further}
use Rattle.search.specs.Counts.{Measured, Counted}
use Rattle.search.specs.Lent.{Slots, slots, Lent, memory, held, stack, used, Stacked, Enough, Holds, HalvesWide}
use Rattle.search.specs.Lent.{called, visits_made, Begun, at_start, continued, LentCalled, lent_first, lent_again}
use Rattle.search.proofs.Lists.{both_path}
use Rattle.search.proofs.Search.{Closed, run_keeps}
use Rattle.search.proofs.Claims.{no_zero_lost, cutting_keeps, kept_by, answer_means, longer_goes_on}
use Rattle.search.proofs.Counts.{counts_add_up}
use Rattle.search.proofs.Slots.{stack_length}
use Rattle.search.proofs.Lent.{lent_runs, stacked_length}
use Rattle.search.proofs.Continued.{lent_continued}

pub record Invariant {A : Type 0} (K : Slots A) : Type 1 where
  -- the cuts that a cell has left, and how many the root may have
  pub left : List A → ℕ
  pub depth : ℕ
  -- what cutting keeps of a cell, and what visits keep of the whole
  pub Fit : List A → Type 0
  pub Also : States (slots K) → Type 0
  -- what must not be lost
  pub Point : Type 0
  pub Zero : Point → Type 0
  pub In : Point → K.Place → Type 0
  pub halves_wide : HalvesWide K
  pub measured : Measured (slots K) left
  pub sound : Sound (slots K) Fit Point Zero In
  pub closed : Closed (slots K) (λ z s. Also s)

module _ {A : Type 0} (K : Slots A) (I : Invariant K) where
  pub record Good (f : Lent A K.Place) : Type 0 where
    pub enough : Enough K I.left I.depth (length f.list) f
    pub waiting : All I.Fit (held K f).waiting
    pub kept : All (KeptBy (slots K) I.Fit) (held K f).kept
    pub zeros : (x : I.Point) → I.Zero x → Held (slots K) I.In x (held K f)
    pub also : I.Also (held K f)

  -- ---- what a call leaves
  module _ (f : Lent A K.Place) (g : Good f) (budget : ℕ) where
    -- lent memory and search in step
    pub both : BothStop (Holds K I.left I.depth (length f.list)) (λ y z. y ≡ z) (called K budget f) (visits_made K budget f)
        (run (slots K) budget (length f.list) (held K f)) (log (slots K) budget (length f.list) (held K f))
    both = lent_runs A K I.left I.halves_wide I.measured I.depth (length f.list) budget f g.enough

    pub holds : held K (called K budget f).state ≡ (run (slots K) budget (length f.list) (held K f)).state
    holds = both.state.1

    pub visits_are : visits_made K budget f ≡ log (slots K) budget (length f.list) (held K f)
    visits_are = both_path (λ y z. y ≡ z) (λ y z e. e) _ _ both.log

    pub fitting : Fitting (slots K) I.Fit (KeptBy (slots K) I.Fit) (log (slots K) budget (length f.list) (held K f))
        (run (slots K) budget (length f.list) (held K f)).state
    fitting = cutting_keeps (slots K) I.Fit (KeptBy (slots K) I.Fit) (kept_by (slots K) I.Fit I.sound.passes)
        budget (length f.list) (held K f) g.waiting g.kept

    pub good_after : Good (called K budget f).state
    good_after =
        let e = both.state.0 in
        let s = sym holds in
        record {
          enough = record { stacked = e.stacked; store_fits = e.store_fits; kept_fits = e.kept_fits; room_is = refl };
          waiting = subst (λ (s : States (slots K)). All I.Fit s.waiting) s fitting.waiting;
          kept = subst (λ (s : States (slots K)). All (KeptBy (slots K) I.Fit) s.kept) s fitting.kept;
          zeros = λ x z. subst (λ (s : States (slots K)). Held (slots K) I.In x s) s
              (no_zero_lost (slots K) I.Fit I.Point I.Zero I.In I.sound x z budget (length f.list) (held K f) g.waiting (g.zeros x z));
          also = subst I.Also s (run_keeps (slots K) (λ z s. I.Also s) I.closed budget (length f.list) [] (held K f) g.also);
        }

    -- ---- the demands of one call
    pub seen_by : All (SeenBy (slots K) I.Fit) (visits_made K budget f)
    seen_by = subst (All (SeenBy (slots K) I.Fit)) (sym visits_are) fitting.visited

    pub counted : Counted (slots K) (held K f) (visits_made K budget f) (held K (called K budget f).state)
    counted = rw (visits_are, holds) (counts_add_up (slots K) budget (length f.list) (held K f))

    pub means : Means (slots K) budget (length f.list) (held K f) (held K (called K budget f).state) (called K budget f).answer
    means = rw (holds, both.answer) (answer_means (slots K) budget (length f.list) (held K f))

    pub whole : (called K budget f).answer ≡ finished → (x : I.Point) → I.Zero x → Any (λ e. I.In x e.place) (held K (called K budget f).state).kept
    whole a x z = from (called K budget f).answer a means (good_after.zeros x z)
      where
        t : States (slots K)
        t = held K (called K budget f).state

        kept : t.waiting ≡ [] → Held (slots K) I.In x t → Any (λ (k : Entry K.Place). I.In x k.place) t.kept
        kept w (inl n) = absurd (subst (λ (l : List (List A)). Any (λ (n : List A). I.In x (K.place n)) l) w n)
        kept w (inr k) = k

        from : (w : Answer) → w ≡ finished → Means (slots K) budget (length f.list) (held K f) t w → Held (slots K) I.In x t
            → Any (λ (k : Entry K.Place). I.In x k.place) t.kept
        from finished q m k = kept m.1 k
        from spent q m k = let z : ◌≡◌ {A = ℕ} 0 1 = cc in absurd (omega arith)
        from full q m k = let z : ◌≡◌ {A = ℕ} 0 1 = cc in absurd (omega arith)

    pub slots_enough : (called K budget f).state.waiting ≤ suc I.depth
    slots_enough =
        let s = (called K budget f).state in
        omega (
          arith,
          stacked_length I.left I.depth (stack K.width s.waiting s.store) good_after.enough.stacked,
          stack_length K.width s.waiting s.store,
        )

  -- of two runs, the longer one goes on from the shorter one
  pub longer : (Within : K.Place → K.Place → Type 0) → Nests (slots K) I.Fit Within → (f f' : Lent A K.Place) → Good f → Good f' → held K f ≡ held K f'
      → (budget budget' : ℕ) → budget ≤ budget' → length f.list ≤ length f'.list
      → Further (slots K) Within (held K (called K budget f).state) (held K (called K budget' f').state)
  longer Within n f f' g g' e budget budget' k k' =
      rw (holds f g budget, holds f' g' budget', ← e) (longer_goes_on (slots K) I.Fit Within n budget budget' _ _ (held K f) g.waiting k k')

  -- ---- the stores as a call left them, and a list that is no shorter
  used_held : (f : Lent A K.Place) → held K (used f) ≡ held K f
  used_held f = ap (λ (k : List (Entry K.Place)). state (stack K.width f.waiting f.store) k f.visits f.dropped)
      (take-take f.kept f.kept f.list (NatL.le_refl f.kept))

  pub good_next : (f next : Lent A K.Place) → Good f → used f ≡ used next → length f.list ≤ length next.list → Good next
  good_next f next g e l =
      let same : held K f ≡ held K next = sym (used_held f) ∙ ap (held K) e ∙ used_held next in
      let kept : f.kept ≡ next.kept = ap (λ (u : Lent A K.Place). u.kept) e in
      let store : f.store ≡ next.store = ap (λ (u : Lent A K.Place). u.store) e in
      record {
        enough = record {
          stacked = subst (λ (s : States (slots K)). Stacked I.left I.depth s.waiting) same g.enough.stacked;
          store_fits = subst (λ (s : List A). suc I.depth * K.width ≤ length s) store g.enough.store_fits;
          kept_fits = omega (arith, kept, g.enough.kept_fits);
          room_is = refl;
        };
        waiting = subst (λ (s : States (slots K)). All I.Fit s.waiting) same g.waiting;
        kept = subst (λ (s : States (slots K)). All (KeptBy (slots K) I.Fit) s.kept) same g.kept;
        zeros = λ x z. subst (λ (s : States (slots K)). Held (slots K) I.In x s) same (g.zeros x z);
        also = subst I.Also same g.also;
      }

  -- ---- a start: the root alone waits
  pub record Root (root store : List A) : Type 0 where
    pub held_is : (list : List (Entry K.Place)) → held K (memory store list 1 0 0 0) ≡ start (slots K) root
    pub long : suc I.depth * K.width ≤ length store
    pub left_low : I.left root ≤ I.depth
    pub fit : I.Fit root
    pub all_in : (x : I.Point) → I.Zero x → I.In x (K.place root)
    pub also : I.Also (start (slots K) root)

  module _ (root store : List A) (r : Root root store) where
    pub good_start : (list : List (Entry K.Place)) → Good (memory store list 1 0 0 0)
    good_start list =
        let same = sym (r.held_is list) in
        record {
          enough = record {
            stacked = subst (λ (s : States (slots K)). Stacked I.left I.depth s.waiting) same (omega (arith, r.left_low), tt);
            store_fits = r.long;
            kept_fits = omega arith;
            room_is = refl;
          };
          waiting = subst (λ (s : States (slots K)). All I.Fit s.waiting) same (r.fit, tt);
          kept = tt;
          zeros = λ x z. subst (λ (s : States (slots K)). Held (slots K) I.In x s) same (inl (inl (r.all_in x z)));
          also = subst I.Also same r.also;
        }

    -- ---- whenever a call begins
    pub good : (f : Lent A K.Place) → Begun K store f → Good f
    good _ (at_start list) = good_start list
    good _ (continued {f} b budget next u l) =
        let g = good f b in
        good_next (called K budget f).state next (good_after f g budget) u (omega (arith, (both f g budget).state.0.room_is))

    -- the calls since the start
    calls : (f : Lent A K.Place) → Begun K store f → (budget : ℕ)
        → (list : List (Entry K.Place)) × LentCalled K (memory store list 1 0 0 0) (called K budget f).state
    calls _ (at_start list) budget = (list, lent_first budget)
    calls _ (continued {f} b before next u l) budget =
        let c = calls f b before in
        let r = (both f (good f b) before).state.0.room_is in
        (c.0, lent_again c.1 next u (omega (arith, r)) budget)

    -- a continued run ends where one fresh call ends
    pub continues : (f : Lent A K.Place) → Begun K store f → (budget : ℕ) (list : List (Entry K.Place)) → length list ≡ length f.list
        → used (called K (called K budget f).state.visits (memory store list 1 0 0 0)).state ≡ used (called K budget f).state
    continues f b budget list k =
        let c = calls f b budget in
        let r = (both f (good f b) budget).state.0.room_is in
        let v : (called K budget f).state.visits - 0 ≡ (called K budget f).state.visits = omega arith in
        subst (λ (v : ℕ). used (called K v (memory store list 1 0 0 0)).state ≡ used (called K budget f).state) v
        (lent_continued A K (memory store c.0 1 0 0 0) (called K budget f).state (omega arith) c.1 (memory store list 1 0 0 0) refl (omega (arith, r)))
