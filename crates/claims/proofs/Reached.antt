-- Every state that a caller reaches is one of lent memory whenever a call begins, and the check lets it through: by induction over the caller's calls.
-- Assumes nothing.
use Rattle.std.specs.Prelude.{Result, Ok, Err, ⊤}
use mathlib.Core.Path.{◌≡◌, refl, sym, ap, ap₂, subst, ◌∙◌}
use mathlib.Core.List.{List, [], ◌∷◌, map, ◌++◌}
use mathlib.Core.Logic.{◌⊎◌, inl, inr}
use Prim.Native.Nat.{ℕ, zero, suc, ◌≤◌, ◌<◌}
use native.Mathlib.Omega.{arith}
use lib.IntN.{ℤ}
use lib.ListN.{length, take, drop, length-map}
use lib.Seq.{take-append-le, take-take, length-take-le}
use Rattle.bernstein.specs.Numbers.{Box}
use Rattle.system.specs.declared.head.Head.{Head}
use Rattle.system.specs.declared.refusal.Refused.{Refused}
use Rattle.boxes.specs.Boxes.{as_box}
use Rattle.system.specs.Heads.{width}
use Rattle.slots.specs.Slots.{box_in}
use Rattle.search.specs.Lists.{Any}
use Rattle.search.specs.Search.{Entry}
use Rattle.search.specs.Claims.{Held}
use Rattle.search.specs.Lent.{slot, stack, slots, memory, used, lent, at_start, continued}
use Rattle.search.proofs.Calls.{Good, both}
use Rattle.waiting.specs.declared.state.State.{State}
use Rattle.waiting.specs.declared.cursor.Kept.{Kept}
use Rattle.waiting.specs.Cells.{cells}
use Rattle.waiting.specs.Fits.{Fit, Point, LiesIn}
use Rattle.waiting.specs.States.{SlotAllowed, judged}
use Rattle.waiting.specs.Starts.{start_check, start_answer, start_store}
use Rattle.waiting.specs.States.{state_of}
use Rattle.waiting.specs.Runs.{forget, remember}
use Rattle.waiting.proofs.Driving.{remembered}
use Rattle.waiting.proofs.Starting.{start_passes}
use Rattle.runs.specs.declared.runs.Stop.{Stop}
use Rattle.runs.specs.declared.visits.Seen.{Seen}
use Rattle.runs.specs.declared.visits.Answer as Visit
use Rattle.runs.specs.Runs.{run_of}
use Rattle.runs.specs.Visits.{visit_of}
use Rattle.runs.specs.Tables.{box_of}
use Rattle.claims.specs.Calls.{Memory, fresh, called, Begun, boxes_of}
use Rattle.claims.specs.Caller.{Gives}
use Rattle.claims.specs.Reached.{by_start, by_run, by_visit, with_longer, Shows, StandsFor, ReachedIsBegun, NeverRefused, ReachedExact, ReachedHolds}
use Rattle.claims.proofs.Calls.{kept_up, good, good_judged}
use Rattle.claims.proofs.Demands.{waiting_exact, no_zero_lost}
use Rattle.claims.proofs.Caller.{run_is_a_call, visit_is_a_run, no_budget}

-- records that begin as those of some entries are those of entries that begin with them
same_records : (k : ℕ) (es : List (Entry Box)) (next : List Kept) → take k (map forget es) ≡ take k next → map forget (take k es ++ map remember (drop k next)) ≡ next
same_records zero es next q = remembered next
same_records (suc k) [] [] q = refl
same_records (suc k) [] (x ∷ next) q = let z : ◌≡◌ {A = ℕ} 0 1 = cc q in absurd (omega arith)
same_records (suc k) (e ∷ es) [] q = let z : ◌≡◌ {A = ℕ} 0 1 = cc q in absurd (omega arith)
same_records (suc k) (e ∷ es) (x ∷ next) q =
    let first : forget e ≡ x = cc q in
    let rest : take k (map forget es) ≡ take k next = cc q in
    ap₂ (λ (y : Kept) (l : List Kept). y ∷ l) first (same_records k es next rest)

module _ (h : Head) (cs st : List ℤ) where
  -- ---- a start
  started : (s : State) (list : List Kept) (v : Result ⊤ Refused) → start_check h cs st ≡ v → start_answer v ≡ Ok s → StandsFor h cs st s list (start_store h cs st v)
  started s list (Ok u) e a = record {
    accepted = e;
    memory = fresh h cs st (map remember list);
    begun = at_start (map remember list);
    shows = record { state = cc a; list_is = remembered list; store_is = refl };
  }
  started s list (Err x) e a = let z : ◌≡◌ {A = ℕ} 0 1 = cc a in absurd (omega arith)

  -- ---- a call from lent memory f, whenever a call begins
  module _ (e : start_check h cs st ≡ Ok tt) (f : Memory) (b : Begun h cs st f) where
    shown_good : Good (cells h) (kept_up h cs st e) f
    shown_good = good h cs st e f b

    pub passes : judged h (state_of f) f.store (map forget f.list) ≡ Ok tt
    passes = good_judged h (start_passes h cs st e).limits cs f shown_good

    module _ (budget : ℕ) where
      abbrev after : Memory
      after = (called h budget f).state

      begun_after : Begun h cs st after
      begun_after = continued b budget after refl (omega (arith, (both (cells h) (kept_up h cs st e) f shown_good budget).state.0.room_is))

      gives : Gives (run_of h (state_of f) budget (map forget f.list) f.store) h budget f
      gives = run_is_a_call h (state_of f) budget f.list f.store passes

    ran : (budget : ℕ) (r : Stop) → (run_of h (state_of f) budget (map forget f.list) f.store).answer ≡ Ok r
        → StandsFor h cs st r.state (run_of h (state_of f) budget (map forget f.list) f.store).end.list (run_of h (state_of f) budget (map forget f.list) f.store).end.store
    ran budget r q = record {
      accepted = e;
      memory = after budget;
      begun = begun_after budget;
      shows = record {
        state = let z : state_of (after budget) ≡ r.state = cc (sym (gives budget).answer ∙ q) in z;
        list_is = sym (gives budget).leaves.list;
        store_is = sym (gives budget).leaves.store;
      };
    }

    -- a visit does what a run with a budget of one does
    visited : (v : Seen) → (visit_of h (state_of f) (map forget f.list) f.store).answer ≡ Ok (Visit.Answer.Saw v)
        → StandsFor h cs st v.state (visit_of h (state_of f) (map forget f.list) f.store).end.list (visit_of h (state_of f) (map forget f.list) f.store).end.store
    visited v q =
        let x = visit_is_a_run h (state_of f) (map forget f.list) f.store in
        let same : v.state ≡ state_of (after 1) = rw (q, (gives 1).answer) at x.answers in
        record {
          accepted = e;
          memory = after 1;
          begun = begun_after 1;
          shows = record { state = sym same; list_is = sym (x.list ∙ (gives 1).leaves.list); store_is = sym (x.store ∙ (gives 1).leaves.store) };
        }

    -- a longer list that begins with the same records: the entries of the kept ones, and any others
    lengthened : (next : List Kept) → take f.kept (map forget f.list) ≡ take f.kept next → length (map forget f.list) ≤ length next → StandsFor h cs st (state_of f) next f.store
    lengthened next q l = record {
      accepted = e;
      memory = longer;
      begun = continued b 0 longer (ap used (no_budget (lent (cells h)) (length f.list) f) ∙ same) (omega (arith, long));
      shows = record { state = refl; list_is = listed; store_is = refl };
    }
      where
        list : List (Entry Box)
        list = take f.kept f.list ++ map remember (drop f.kept next)

        longer : Memory
        longer = memory f.store list f.waiting f.kept f.visits f.dropped

        listed : map forget list ≡ next
        listed = same_records f.kept f.list next q

        long : length f.list ≤ length list
        long = omega (arith, l, length-map f.list forget, length-map list forget, ap length listed)

        kept_taken : length (take f.kept f.list) ≡ f.kept
        kept_taken = length-take-le f.kept f.list shown_good.enough.kept_fits

        begins : take f.kept list ≡ take f.kept f.list
        begins = take-append-le f.kept (take f.kept f.list) (map remember (drop f.kept next)) (omega (arith, kept_taken)) ∙ take-take f.kept f.kept f.list (omega arith)

        same : used f ≡ used longer
        same = ap (λ (l : List (Entry Box)). memory f.store l f.waiting f.kept f.visits f.dropped) (sym begins)

-- ---- along the caller's calls
pub as_shown : (P : State → List Kept → List ℤ → Type 0) (f : Memory) (s : State) (list : List Kept) (store : List ℤ) → Shows f s list store
    → P (state_of f) (map forget f.list) f.store → P s list store
as_shown P f s list store w p = subst (λ (x : State). P x list store) w.state
    (subst (λ (l : List Kept). P (state_of f) l store) w.list_is (subst (λ (k : List ℤ). P (state_of f) (map forget f.list) k) w.store_is p))

pub reached_is_begun : ReachedIsBegun
reached_is_begun h cs st _ _ _ (by_start s list e) = started h cs st s list (start_check h cs st) refl e
reached_is_begun h cs st _ _ _ (by_run {s} {list} {store} p budget r e) =
    let t = reached_is_begun h cs st s list store p in
    as_shown (λ s l k. (r : Stop) → (run_of h s budget l k).answer ≡ Ok r → StandsFor h cs st r.state (run_of h s budget l k).end.list (run_of h s budget l k).end.store)
    t.memory s list store t.shows (ran h cs st t.accepted t.memory t.begun budget) r e
reached_is_begun h cs st _ _ _ (by_visit {s} {list} {store} p v e) =
    let t = reached_is_begun h cs st s list store p in
    as_shown (λ s l k. (v : Seen) → (visit_of h s l k).answer ≡ Ok (Visit.Answer.Saw v) → StandsFor h cs st v.state (visit_of h s l k).end.list (visit_of h s l k).end.store)
    t.memory s list store t.shows (visited h cs st t.accepted t.memory t.begun) v e
reached_is_begun h cs st _ _ _ (with_longer {s} {list} {store} p next e l) =
    let t = reached_is_begun h cs st s list store p in
    as_shown (λ s l k. (n : List Kept) → take s.kept l ≡ take s.kept n → length l ≤ length n → StandsFor h cs st s n k)
    t.memory s list store t.shows (lengthened h cs st t.accepted t.memory t.begun) next e l

pub never_refused : NeverRefused
never_refused h cs st s list store p =
    let t = reached_is_begun h cs st s list store p in
    as_shown (λ s l k. judged h s k l ≡ Ok tt) t.memory s list store t.shows (passes h cs st t.accepted t.memory t.begun)

-- ---- demands 2 and 3 of what a call left: a call with no budget leaves it so
pub reached_exact : ReachedExact
reached_exact h cs st s list store p =
    let t = reached_is_begun h cs st s list store p in
    as_shown (λ s l k. (p : ℕ) → p < s.waiting → Fit h cs (slot (width h) p k) × SlotAllowed h p (slot (width h) p k)) t.memory s list store t.shows
    (subst (λ (f : Memory). (p : ℕ) → p < f.waiting → Fit h cs (slot (width h) p f.store) × SlotAllowed h p (slot (width h) p f.store))
    (no_budget (lent (cells h)) (length t.memory.list) t.memory) (waiting_exact h cs st t.accepted t.memory t.begun 0))

pub take_map : {A B : Type 0} (f : A → B) (k : ℕ) (l : List A) → take k (map f l) ≡ map f (take k l)
take_map f zero l = refl
take_map f (suc k) [] = refl
take_map f (suc k) (x ∷ l) = ap (λ (m : List _). f x ∷ m) (take_map f k l)

-- in the box of an entry, and of its record
pub in_record : (h : Head) (x : Point) (es : List (Entry Box)) → Any (λ e. LiesIn h x e.place) es → Any (λ k. LiesIn h x (as_box (box_of k))) (map forget es)
in_record h x (e ∷ es) (inl i) = inl i
in_record h x (e ∷ es) (inr a) = inr (in_record h x es a)
in_record h x [] x'' = elim x'' [ ]

pub reached_holds : ReachedHolds
reached_holds h cs st s list store p x i z =
    let t = reached_is_begun h cs st s list store p in
    as_shown (λ s l k. Any (λ n. LiesIn h x (box_in n)) (stack (width h) s.waiting k) ⊎ Any (λ r. LiesIn h x (as_box (box_of r))) (take s.kept l)) t.memory s list store t.shows
    (told t.memory (subst (λ (f : Memory). Held (slots (cells h)) (LiesIn h) x (boxes_of h f)) (no_budget (lent (cells h)) (length t.memory.list) t.memory)
    (no_zero_lost h cs st t.accepted t.memory t.begun 0 x i z)))
  where
    told : (f : Memory) → Held (slots (cells h)) (LiesIn h) x (boxes_of h f)
        → Any (λ n. LiesIn h x (box_in n)) (stack (width h) f.waiting f.store) ⊎ Any (λ r. LiesIn h x (as_box (box_of r))) (take f.kept (map forget f.list))
    told f (inl a) = inl a
    told f (inr a) = inr (rw (take_map forget f.kept f.list) (in_record h x (take f.kept f.list) a))
