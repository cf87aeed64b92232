-- The demands in what the caller holds: each from the demand on lent memory, through what the caller's calls give (Caller, Reached). Assumes nothing.
use Rattle.std.specs.Prelude.{Ok}
use mathlib.Core.Path.{◌≡◌, refl, sym, ap, subst, ◌∙◌}
use mathlib.Core.List.{List, [], ◌∷◌, map}
use mathlib.Core.Logic.{inl, inr}
use Prim.Native.Nat.{ℕ, zero, suc, ◌-◌, ◌≤◌}
use native.Mathlib.Omega.{arith}
use lib.IntN.{ℤ}
use lib.ListN.{length, take, length-map, length-append}
use lib.Seq.{take-append-le, take-take, length-take-le}
use Rattle.bernstein.specs.Numbers.{Box}
use Rattle.system.specs.declared.head.Head.{Head}
use Rattle.whole.specs.declared.Sign.{Sign}
use Rattle.boxes.specs.declared.visit.Visit.{Visit}
use Rattle.boxes.specs.declared.visit.Outcome.{Outcome}
use Rattle.boxes.specs.Boxes.{as_box}
use Rattle.system.specs.Heads.{width}
use Rattle.slots.specs.Slots.{box_in}
use Rattle.slots.specs.Rules.{looked}
use Rattle.search.specs.Lists.{All, Any}
use Rattle.search.specs.Machine.{Turn, nothing, no_room, go}
use Rattle.search.specs.Search.{Entry, turn as any_turn, turn_top, seen as node_Seen}
use Rattle.search.specs.Claims.{Held, Further}
use Rattle.search.specs.Lent.{stack, slots, held, memory, used, lent, at_start}
use Rattle.search.proofs.Machine.{go_waits}
use Rattle.search.proofs.Calls.{good_after}
use Rattle.waiting.specs.declared.state.State.{State}
use Rattle.waiting.specs.declared.cursor.Kept.{Kept}
use Rattle.waiting.specs.Cells.{as_look, boxed, cells}
use Rattle.waiting.specs.Fits.{Fit, InsideBox}
use Rattle.waiting.specs.States.{state_of}
use Rattle.waiting.specs.Starts.{start_check, fresh_store, fresh_state}
use Rattle.waiting.specs.Steps.{top, visit_of as seen_in}
use Rattle.waiting.specs.Runs.{forget, remember, word_of}
use Rattle.waiting.proofs.Driving.{remembered}
use Rattle.waiting.proofs.Starting.{start_passes}
use Rattle.runs.specs.declared.runs.Stop.{Stop}
use Rattle.runs.specs.declared.visits.Seen.{Seen}
use Rattle.runs.specs.declared.visits.Answer as ToldAnswer
use Rattle.runs.specs.Runs.{Run}
use Rattle.runs.specs.Visits.{visit_of}
use Rattle.runs.specs.Tables.{box_of}
use Rattle.claims.specs.Calls.{Memory, fresh, called, Begun, boxes_of}
use Rattle.claims.specs.Caller.{Gives, Tells}
use Rattle.claims.specs.Demands.{OneSign}
use Rattle.claims.specs.Told.{first_run, EndsSo, ReachedContinued, LiesAmong, GoesOn, RunsGoOn, VisitTellsSign}
use Rattle.claims.proofs.Calls.{kept_up, good, good_judged}
use Rattle.claims.proofs.Demands.{all_map, slot_of, one_sign, continued, longer_goes_on}
use Rattle.claims.proofs.Caller.{run_is_a_call, visit_is_a_visit, no_budget}
use Rattle.claims.proofs.Reached.{take_map, as_shown, passes, reached_is_begun}

-- ---- one call from a fresh start
module _ (h : Head) (cs st : List ℤ) (e : start_check h cs st ≡ Ok tt) where
  first_gives : (budget : ℕ) (es : List (Entry Box)) → Gives (first_run h cs st budget (map forget es)) h budget (fresh h cs st es)
  first_gives budget es =
      rw e (run_is_a_call h fresh_state budget es (fresh_store h cs st) (good_judged h (start_passes h cs st e).limits cs (fresh h cs st es) (good h cs st e _ (at_start es))))

  module _ (f : Memory) (b : Begun h cs st f) (es : List (Entry Box)) (k : length es ≡ length f.list) where
    abbrev again : Memory
    again = (called h f.visits (fresh h cs st es)).state

    same : used again ≡ used f
    same = subst (λ (m : Memory). used (called h m.visits (fresh h cs st es)).state ≡ used m) (no_budget (lent (cells h)) (length f.list) f) (continued h cs st e f b 0 es k)

    first_ends : EndsSo (first_run h cs st f.visits (map forget es)) (state_of f) (map forget f.list) f.store
    first_ends =
        let g = first_gives f.visits es in
        let w = word_of (called h f.visits (fresh h cs st es)).answer in
        let n : f.kept ≡ again.kept = sym (ap (λ (u : Memory). u.kept) same) in
        record {
          word = w;
          answer = g.answer ∙ ap (λ (u : Memory). Ok (record { word = w; state = state_of u })) same;
          store_is = g.leaves.store ∙ ap (λ (u : Memory). u.store) same;
          kept_are = ap (take f.kept) g.leaves.list ∙ ap (λ (i : ℕ). take i (map forget again.list)) n ∙ take_map forget again.kept again.list
              ∙ ap (λ (u : Memory). map forget u.list) same ∙ sym (take_map forget f.kept f.list);
        }

pub reached_continued : ReachedContinued
reached_continued h cs st s list store p list' k =
    let t = reached_is_begun h cs st s list store p in
    as_shown (λ s l m. length list' ≡ length l → EndsSo (first_run h cs st s.visits list') s l m) t.memory s list store t.shows
    (λ k. subst (λ (l : List Kept). EndsSo (first_run h cs st t.memory.visits l) (state_of t.memory) (map forget t.memory.list) t.memory.store) (remembered list')
    (first_ends h cs st t.accepted t.memory t.begun (map remember list') (length-map list' remember ∙ k ∙ length-map t.memory.list forget))) k

-- ---- of two fresh calls, the longer one goes on
-- of the boxes of entries, and of their records
any_record : (P : Box → Type 0) (es : List (Entry Box)) → Any (λ e. P e.place) es → Any (λ k. P (as_box (box_of k))) (map forget es)
any_record P (e ∷ es) (inl i) = inl i
any_record P (e ∷ es) (inr a) = inr (any_record P es a)
any_record P [] x' = elim x' [ ]

all_record : (P : Box → Type 0) (es : List (Entry Box)) → All (λ e. P e.place) es → All (λ k. P (as_box (box_of k))) (map forget es)
all_record P [] a = tt
all_record P (e ∷ es) a = (a.0, all_record P es a.1)

module _ (h : Head) (f g : Memory) (fits : f.kept ≤ length f.list) (fits' : g.kept ≤ length g.list) (further : Further (slots (cells h)) (InsideBox h) (boxes_of h f) (boxes_of h g)) where
  among : (b : Box) → Held (slots (cells h)) (InsideBox h) b (boxes_of h f) → LiesAmong h b (state_of f) (map forget f.list) f.store
  among b (inl a) = inl a
  among b (inr a) = inr (rw (take_map forget f.kept f.list) (any_record (InsideBox h b) (take f.kept f.list) a))

  more : f.kept ≤ g.kept
  more = omega (
    arith,
    ap length further.begins,
    length-append (take f.kept f.list) further.besides,
    length-take-le f.kept f.list fits,
    length-take-le g.kept g.list fits',
  )

  begins : take f.kept g.list ≡ take f.kept f.list
  begins =
      sym (take-take f.kept g.kept g.list more) ∙ ap (take f.kept) further.begins
      ∙ take-append-le f.kept (take f.kept f.list) further.besides (omega (arith, length-take-le f.kept f.list fits)) ∙ take-take f.kept f.kept f.list (omega arith)

  goes_on : GoesOn h (state_of f) (map forget f.list) f.store (state_of g) (map forget g.list) g.store
  goes_on = record {
    more = more;
    begins = take_map forget f.kept g.list ∙ ap (map forget) begins ∙ sym (take_map forget f.kept f.list);
    waiting_in = all_map _ _ (λ l. among (box_in l)) (stack (width h) g.waiting g.store) further.waiting_in;
    kept_in = rw (take_map forget g.kept g.list) (all_record (λ b. LiesAmong h b (state_of f) (map forget f.list) f.store) (take g.kept g.list)
        (all_map _ _ (λ e. among e.place) (take g.kept g.list) further.kept_in));
  }

-- what holds where the lent machine stops holds of what the caller is given
as_given : (P : State → List Kept → List ℤ → Type 0) {x : Run} {h : Head} {budget : ℕ} {f : Memory} → Gives x h budget f → (r : Stop) → x.answer ≡ Ok r
    → P (state_of (called h budget f).state) (map forget (called h budget f).state.list) (called h budget f).state.store → P r.state x.end.list x.end.store
as_given P {x} {h} {budget} {f} g r q p =
    let s : state_of (called h budget f).state ≡ r.state = cc (sym g.answer ∙ q) in
    subst (λ (k : State). P k x.end.list x.end.store) s
    (subst (λ (l : List Kept). P (state_of (called h budget f).state) l x.end.store) (sym g.leaves.list)
    (subst (P (state_of (called h budget f).state) (map forget (called h budget f).state.list)) (sym g.leaves.store) p))

pub runs_go_on : RunsGoOn
runs_go_on h cs st st' e e' budget budget' list list' k k' =
    subst (λ (l : List Kept). Two l list') (remembered list) (subst (Two (map forget (map remember list))) (remembered list') two)
  where
    Two : List Kept → List Kept → Type 0
    Two l l' = (r r' : Stop) → (first_run h cs st budget l).answer ≡ Ok r → (first_run h cs st' budget' l').answer ≡ Ok r'
        → GoesOn h r.state (first_run h cs st budget l).end.list (first_run h cs st budget l).end.store r'.state (first_run h cs st' budget' l').end.list (first_run h cs st' budget' l').end.store

    es : List (Entry Box)
    es = map remember list

    es' : List (Entry Box)
    es' = map remember list'

    longer : length es ≤ length es'
    longer = omega (arith, k', length-map list remember, length-map list' remember)

    two : Two (map forget es) (map forget es')
    two r r' q q' =
        let f = (called h budget (fresh h cs st es)).state in
        let f' = (called h budget' (fresh h cs st' es')).state in
        let a = good_after (cells h) (kept_up h cs st e) (fresh h cs st es) (good h cs st e _ (at_start es)) budget in
        let a' = good_after (cells h) (kept_up h cs st' e') (fresh h cs st' es') (good h cs st' e' _ (at_start es')) budget' in
        as_given (λ s l m. GoesOn h s l m r'.state (first_run h cs st' budget' (map forget es')).end.list (first_run h cs st' budget' (map forget es')).end.store) (first_gives h cs st e budget es) r q
        (as_given (GoesOn h (state_of f) (map forget f.list) f.store) (first_gives h cs st' e' budget' es') r' q'
        (goes_on h f f' a.enough.kept_fits a'.enough.kept_fits (longer_goes_on h cs st st' e e' es es' budget budget' k longer)))

-- ---- the sign that a visit tells
module _ (h : Head) (cs st : List ℤ) (e : start_check h cs st ≡ Ok tt) (f : Memory) (b : Begun h cs st f) where
  top_fit : (lent (cells h)).turn (length f.list) f ≡ go → Fit h cs (top (boxed h) f.store (state_of f))
  unfolding stack any_turn turn_top
  top_fit t = from f.waiting refl
    where
      from : (n : ℕ) → f.waiting ≡ n → Fit h cs (top (boxed h) f.store (state_of f))
      from zero w = absurd (go_waits t (ap (λ (i : ℕ). any_turn (slots (cells h)) (length f.list) (held (cells h) (memory f.store f.list i f.kept f.visits f.dropped))) w))
      from (suc n) w = slot_of (Fit h cs) (width h) f.waiting f.store (good h cs st e f b).waiting (f.waiting - 1) (omega arith)

  told_sign : (t : Turn) → (lent (cells h)).turn (length f.list) f ≡ t → Tells (visit_of h (state_of f) (map forget f.list) f.store) h f t
      → (v : Seen) → (visit_of h (state_of f) (map forget f.list) f.store).answer ≡ Ok (ToldAnswer.Answer.Saw v) → (p : ℕ) (g : Sign) → v.visit.what ≡ Outcome.Dropped p g
      → OneSign h cs (as_box v.visit.at) p g
  told_sign nothing t q v a p g w = let z : ◌≡◌ {A = ℕ} 0 1 = cc (sym q.0 ∙ a) in absurd (omega arith)
  told_sign no_room t q v a p g w = let z : ◌≡◌ {A = ℕ} 0 1 = cc (sym q.0 ∙ a) in absurd (omega arith)
  told_sign go t q v a p g w =
      let l = top (boxed h) f.store (state_of f) in
      let same : seen_in (boxed h) (top (boxed h) f.store (state_of f)) (looked h (top (boxed h) f.store (state_of f))) ≡ v.visit = cc (sym q.0 ∙ a) in
      subst (λ (u : Visit). OneSign h cs (as_box u.at) p g) same
      (one_sign h (start_passes h cs st e).limits cs (node_Seen l (as_look (looked h l))) (record { fit = top_fit t; looked = refl }) p g
      (ap as_look (ap (λ (u : Visit). u.what) same ∙ w)))

pub visit_tells_sign : VisitTellsSign
visit_tells_sign h cs st s list store p v a q g w =
    let t = reached_is_begun h cs st s list store p in
    let f = t.memory in
    as_shown (λ s l m. (v : Seen) → (visit_of h s l m).answer ≡ Ok (ToldAnswer.Answer.Saw v) → (p : ℕ) (g : Sign) → v.visit.what ≡ Outcome.Dropped p g → OneSign h cs (as_box v.visit.at) p g) f s list store t.shows
    (told_sign h cs st t.accepted f t.begun ((lent (cells h)).turn (length f.list) f) refl
    (visit_is_a_visit h (state_of f) f.list f.store (passes h cs st t.accepted f t.begun))) v a q g w
