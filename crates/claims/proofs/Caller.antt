-- The caller's `run` is one call of the lent machine and its `visit` one visit, or a refusal that changes nothing. Assumes nothing.
use Rattle.std.specs.Prelude.{Some, unwrap_or, Result, Ok, Err, ⊤}
use mathlib.Core.Path.{◌≡◌, refl, sym, ap, subst, ◌∙◌}
use mathlib.Core.List.{List, map}
use Prim.Native.Nat.{ℕ, suc, ◌≤◌}
use native.Mathlib.Numerals.{add-one}
use native.Mathlib.Omega.{arith}
use lib.IntN.{ℤ}
use lib.ListN.{length, length-map}
use Rattle.bernstein.specs.Numbers.{Box}
use Rattle.system.specs.declared.head.Head.{Head}
use Rattle.system.specs.declared.refusal.Refused.{Refused}
use Rattle.boxes.specs.declared.visit.Visit as Visit
use Rattle.boxes.specs.declared.visit.Outcome.{Outcome}
use Rattle.boxes.specs.declared.visit.Word.{Word}
use Rattle.search.specs.Machine.{Machine, Turn, nothing, no_room, go, Stop, stop, finished, full, drive}
use Rattle.search.specs.Search.{Entry}
use Rattle.search.specs.Lent.{lent}
use Rattle.search.proofs.Machine.{drive_nothing, drive_spent, drive_full, drive_go, go_waits, no_room_waits}
use Rattle.runs.specs.declared.visits.Answer.{Answer}
use Rattle.runs.specs.Runs.{Run, run_of}
use Rattle.runs.specs.Visits.{One, told, visit_of}
use Rattle.waiting.specs.declared.state.State.{State}
use Rattle.waiting.specs.declared.cursor.Kept.{Kept}
use Rattle.waiting.specs.declared.cursor.Cursor.{Cursor}
use Rattle.waiting.specs.Cells.{boxed, cells}
use Rattle.waiting.specs.States.{judged}
use Rattle.waiting.specs.States.{memory_of, state_of}
use Rattle.waiting.specs.Steps.{begun, halted, due, by_due, next, seen}
use Rattle.waiting.specs.Runs.{Way, way, turned, went, forget, remember, Ends, OneTurn}
use Rattle.waiting.proofs.Judging.{judged_allowed}
use Rattle.waiting.proofs.Driving.{run_drives, turn_turns, remembered}
use Rattle.claims.specs.Calls.{Memory, called}
use Rattle.claims.specs.Caller.{Leaves, Gives, RunIsACall, Tells, VisitIsAVisit, SameEffects, VisitIsARun, RefusalChangesNothing}

-- those kept are there
kept_there : (h : Head) (s : State) (list : List (Entry Box)) (st : List ℤ) → judged h s st (map forget list) ≡ Ok tt → s.kept ≤ length list
kept_there h s list st e = omega (arith, ((judged_allowed h s st (map forget list)).0 e).2.kept_high, length-map list forget)

pub run_is_a_call : RunIsACall
run_is_a_call h s budget list st e =
    let c = begun s budget (length list) in
    let d : Ends (went (boxed h) (suc budget) (way (map forget list) st c)) (called h budget (memory_of st list s)) = run_drives ℤ (boxed h) list st c refl refl (kept_there h s list st e) in
    rw (e, length-map list forget, add-one budget)
    (record { answer = (λ i. Ok (record { word = unwrap_or (d.word i) Word.Spent; state = d.state i })); leaves = record { list = d.list; store = d.store } })

-- ---- a visit
-- where a step leaves a word, it made no visit
stop_seen : (h : Head) (st : List ℤ) (c : Cursor) (w : Word) (d : Result Outcome Word) → (by_due (boxed h) st c d).cursor.word ≡ Some w → seen (boxed h) st c d ≡ Err w
stop_seen h st c w (Err v) e = ap Err (cc e)
stop_seen h st c w (Ok o) e = let z : ◌≡◌ {A = ℕ} 0 1 = cc e in absurd (omega arith)

module _ (h : Head) (s : State) (list : List (Entry Box)) (st : List ℤ) where
  abbrev before : Cursor
  before = begun s 1 (length list)

  abbrev after : Way ℤ
  after = turned (boxed h) (way (map forget list) st before)

  abbrev found : Result Visit.Visit Word
  found = seen (boxed h) st before (due (boxed h) st before)

  -- nothing was moved
  stopped : (w : Word) → after ≡ way (map forget list) st (halted before w)
      → (◌≡◌ {A = Result Answer Refused} (Ok (told after.cursor.state found)) (Ok (Answer.Stopped w))) × Leaves after (memory_of st list s)
  unfolding next
  stopped w q = (
    ap (λ (x : Result Visit.Visit Word). Ok (told after.cursor.state x)) (stop_seen h st before w (due (boxed h) st before) (ap (λ (v : Way ℤ). v.cursor.word) q)),
    record { list = ap (λ (v : Way ℤ). v.list) q; store = ap (λ (v : Way ℤ). v.store) q },
  )

  tells : (t : Turn) → OneTurn (boxed h) list st before t → Tells (record { answer = Ok (told after.cursor.state found); end = after }) h (memory_of st list s) t
  tells nothing q = stopped Word.Finished q
  tells no_room q = stopped Word.Full q
  tells go q = (
    (λ i. Ok (told (q.0.state i) (q.1 i))),
    record { list = q.0.list; store = q.0.store },
  )

pub visit_is_a_visit : VisitIsAVisit
visit_is_a_visit h s list st e =
    let t = turn_turns ℤ (boxed h) list st (begun s 1 (length list)) (omega arith) refl (kept_there h s list st e) in
    rw (e, length-map list forget) (tells h s list st ((lent (cells h)).turn (length list) (memory_of st list s)) t)

-- ---- refusals
pub refusal_changes_nothing : RefusalChangesNothing
unfolding went
refusal_changes_nothing h s list st x e = rw e (λ budget. rw (add-one budget) (refl, record { list_stays = refl; store_stays = refl }), (refl, record { list_stays = refl; store_stays = refl }))

-- ---- a visit is a run with a budget of one: both are what the lent machine does
-- with no budget nothing moves
pub no_budget : (M : Machine) (room : ℕ) (s : M.State) → (drive M 0 room s).state ≡ s
no_budget M room s = from (M.turn room s) refl
  where
    from : (t : Turn) → M.turn room s ≡ t → (drive M 0 room s).state ≡ s
    from nothing e = ap (λ (x : Stop M.State). x.state) (drive_nothing M room s 0 e)
    from no_room e = ap (λ (x : Stop M.State). x.state) (drive_spent M room s (no_room_waits e))
    from go e = ap (λ (x : Stop M.State). x.state) (drive_spent M room s (go_waits e))

-- from what each of them is
pub same_effects : (h : Head) (s : State) (f : Memory) (v : One) (r : Run) → s ≡ state_of f → (t : Turn) → (lent (cells h)).turn (length f.list) f ≡ t → Tells v h f t → Gives r h 1 f → SameEffects s v r
same_effects h s f v r k nothing e q g =
    let d : called h 1 f ≡ stop f finished = drive_nothing (lent (cells h)) (length f.list) f 1 e in
    record { answers = rw (q.0, g.answer, d) (refl, k); list = q.1.list ∙ rw (g.leaves.list, d); store = q.1.store ∙ rw (g.leaves.store, d) }
same_effects h s f v r k no_room e q g =
    let d : called h 1 f ≡ stop f full = drive_full (lent (cells h)) (length f.list) f 0 e in
    record { answers = rw (q.0, g.answer, d) (refl, k); list = q.1.list ∙ rw (g.leaves.list, d); store = q.1.store ∙ rw (g.leaves.store, d) }
same_effects h s f v r k go e q g =
    let d : (called h 1 f).state ≡ (lent (cells h)).visit f = ap (λ (x : Stop Memory). x.state) (drive_go (lent (cells h)) (length f.list) f 0 e) ∙ no_budget (lent (cells h)) (length f.list) ((lent (cells h)).visit f) in
    record { answers = rw (q.0, g.answer, d) refl; list = q.1.list ∙ rw (g.leaves.list, d); store = q.1.store ∙ rw (g.leaves.store, d) }

pub visit_is_a_run : VisitIsARun
visit_is_a_run h s list st = from (judged h s st list) refl
  where
    entries : (k : List (Entry Box)) → judged h s st (map forget k) ≡ Ok tt → SameEffects s (visit_of h s (map forget k) st) (run_of h s 1 (map forget k) st)
    entries k e = same_effects h s (memory_of st k s) _ _ refl ((lent (cells h)).turn (length k) (memory_of st k s)) refl (visit_is_a_visit h s k st e) (run_is_a_call h s 1 k st e)

    from : (v : Result ⊤ Refused) → judged h s st list ≡ v → SameEffects s (visit_of h s list st) (run_of h s 1 list st)
    from (Ok u) e =
        subst (λ (l : List Kept). SameEffects s (visit_of h s l st) (run_of h s 1 l st)) (remembered list)
        (entries (map remember list) (ap (judged h s st) (remembered list) ∙ e))
    from (Err x) e =
        let q = refusal_changes_nothing h s list st x e in
        record {
          answers = rw ((q.0 1).0, q.1.0) refl;
          list = q.1.1.list_stays ∙ sym (q.0 1).1.list_stays;
          store = q.1.1.store_stays ∙ sym (q.0 1).1.store_stays;
        }
