-- The demands, proved: each is what `search` shows of every call, whatever a cell is, at what the boxes of a system keep (Calls). Assumes nothing.
use mathlib.Core.Path.{◌≡◌, sym, ◌∙◌, subst}
use mathlib.Core.List.{List, [], ◌∷◌}
use Prim.Native.Nat.{ℕ, zero, suc, ◌<◌}
use native.Mathlib.Omega.{arith}
use lib.IntN.{ℤ}
use Rattle.waiting.specs.Starts.{fresh_store}
use Rattle.waiting.proofs.Starting.{start_passes, fresh_held}
use Rattle.system.specs.declared.head.Head.{Head}
use Rattle.whole.specs.declared.Sign.{Sign}
use Rattle.boxes.specs.declared.half.Direction.{Direction}
use Rattle.boxes.specs.Boxes.{direction}
use Rattle.system.specs.Heads.{width, Limits}
use Rattle.slots.specs.Slots.{box_in, unit_slot}
use Rattle.slots.specs.Rules.{looked}
use Rattle.search.specs.Lists.{All}
use Rattle.search.specs.Search.{Look, Visit, is_dropped, is_kept}
use Rattle.search.specs.Claims.{SeenBy, KeptBy}
use Rattle.search.specs.Lent.{slots, slot, stack, at_start}
use Rattle.search.proofs.Calls.{Good, both, holds, visits_are, good_after, seen_by, counted, means, whole, slots_enough as any_enough, longer, continues}
use Rattle.whole.proofs.Parts.{by_lt}
use Rattle.waiting.specs.Cells.{as_look, cells}
use Rattle.waiting.specs.Fits.{Fit, InsideBox}
use Rattle.waiting.proofs.Standing.{from_stack}
use Rattle.waiting.proofs.Sounds.{drop_signs, sign_at, nests}
use Rattle.claims.specs.Calls.{Memory, fresh, called, visits_made, boxes_of}
use Rattle.claims.specs.Demands.{WaitingExact, SeenRightly, VisitsByTheRules, KeptRightly, KeptByTheRules, StartsAsTheSearch, RunsAsTheSearch, CountsOfVisits, NoZeroLost, OneSign, DroppedOneSign, LongerGoesOn, AnswersMean, FinishedIsWhole, SlotsEnough, Continued}
use Rattle.claims.specs.Rules.{Says}
use Rattle.claims.proofs.Rules.{rules_mean}
use Rattle.claims.proofs.Calls.{kept_up, root, good}

-- ---- 2
-- what holds of every waiting cell holds of every slot below the count
pub slot_of : (P : List ℤ → Type 0) (w c : ℕ) (st : List ℤ) → All P (stack w c st) → (p : ℕ) → p < c → P (slot w p st)
unfolding stack
slot_of P w zero st a p h = absurd (omega arith)
slot_of P w (suc c) st a p h =
    by_lt p c (λ l. slot_of P w c st a.1 p l) (λ l. let e : c ≡ p = omega arith in subst (λ (k : ℕ). P (slot w k st)) e a.0)

pub all_map : {A : Type 0} (P Q : A → Type 0) → ((x : A) → P x → Q x) → (l : List A) → All P l → All Q l
all_map P Q f [] a = tt
all_map P Q f (x ∷ l) a = (f x a.0, all_map P Q f l a.1)

pub waiting_exact : WaitingExact
waiting_exact h cs st e f b budget p l =
    let s = (called h budget f).state in
    let g = good_after (cells h) (kept_up h cs st e) f (good h cs st e f b) budget in
    (slot_of (Fit h cs) (width h) s.waiting s.store g.waiting p l, from_stack h s.store s.waiting g.also.stands.allowed p l)

-- the computed outcome is 01's
says : (h : Head) (cs l : List ℤ) → Fit h cs l → (w : Look (ℕ × Sign) Direction) → as_look (looked h l) ≡ w → Says h l w
says h cs l f w e = subst (Says h l) e (rules_mean h l f.long (λ r. f.cuts_high (direction r)))

pub visits_by_the_rules : VisitsByTheRules
visits_by_the_rules h cs st e f b budget =
    all_map (SeenBy (slots (cells h)) (Fit h cs)) (SeenRightly h cs) (λ v k. record { fit = k.fit; says = says h cs v.node k.fit v.what k.looked })
    (visits_made h budget f) (seen_by (cells h) (kept_up h cs st e) f (good h cs st e f b) budget)

pub kept_by_the_rules : KeptByTheRules
kept_by_the_rules h cs st e f b budget =
    all_map (KeptBy (slots (cells h)) (Fit h cs)) (KeptRightly h cs)
    (λ k y. record { node = y.node; fit = y.fit; says = says h cs y.node y.fit (is_kept k.mark) y.looked; placed = y.placed })
    (boxes_of h (called h budget f).state).kept (good_after (cells h) (kept_up h cs st e) f (good h cs st e f b) budget).kept

pub starts_as_the_search : StartsAsTheSearch
starts_as_the_search h cs st list = fresh_held h cs st list

pub runs_as_the_search : RunsAsTheSearch
runs_as_the_search h cs st e f b budget =
    let I = kept_up h cs st e in let g = good h cs st e f b in
    ((both (cells h) I f g budget).answer, holds (cells h) I f g budget, visits_are (cells h) I f g budget)

pub counts_of_visits : CountsOfVisits
counts_of_visits h cs st e f b budget = counted (cells h) (kept_up h cs st e) f (good h cs st e f b) budget

-- ---- 3
pub no_zero_lost : NoZeroLost
no_zero_lost h cs st e f b budget x i z = (good_after (cells h) (kept_up h cs st e) f (good h cs st e f b) budget).zeros x (i, z)

pub one_sign : (h : Head) → Limits h → (cs : List ℤ) (v : Visit (slots (cells h))) → SeenBy (slots (cells h)) (Fit h cs) v → (p : ℕ) (s : Sign) → v.what ≡ is_dropped (p, s) → OneSign h cs (box_in v.node) p s
one_sign h m cs v k p s e =
    let d = drop_signs h m cs v.node p s (k.looked ∙ e) k.fit in
    record { which = d.which; below = d.below; named = d.number; signs = sign_at h m cs v.node p s d k.fit }

pub dropped_one_sign : DroppedOneSign
dropped_one_sign h cs st e f b budget =
    all_map (SeenBy (slots (cells h)) (Fit h cs)) (λ v. (p : ℕ) (s : Sign) → v.what ≡ is_dropped (p, s) → OneSign h cs (box_in v.node) p s) (λ v k. one_sign h (start_passes h cs st e).limits cs v k)
    (visits_made h budget f) (seen_by (cells h) (kept_up h cs st e) f (good h cs st e f b) budget)

pub longer_goes_on : LongerGoesOn
longer_goes_on h cs st st' e e' list list' budget budget' k k' =
    longer (cells h) (kept_up h cs st e) (InsideBox h) (nests h (start_passes h cs st e).limits cs) (fresh h cs st list) (fresh h cs st' list')
    (good h cs st e _ (at_start list)) (same (good h cs st' e' _ (at_start list')))
    (fresh_held h cs st list ∙ sym (fresh_held h cs st' list')) budget budget' k k'
  where
    -- two starts of one system keep the same
    same : {f : Memory} → Good (cells h) (kept_up h cs st' e') f → Good (cells h) (kept_up h cs st e) f
    same g = record { enough = g.enough; waiting = g.waiting; kept = g.kept; zeros = g.zeros; also = g.also }

-- ---- 4
pub answers_mean : AnswersMean
answers_mean h cs st e f b budget = means (cells h) (kept_up h cs st e) f (good h cs st e f b) budget

pub finished_is_whole : FinishedIsWhole
finished_is_whole h cs st e f b budget a x i z = whole (cells h) (kept_up h cs st e) f (good h cs st e f b) budget a x (i, z)

pub slots_enough : SlotsEnough
slots_enough h cs st e f b budget = any_enough (cells h) (kept_up h cs st e) f (good h cs st e f b) budget

pub continued : Continued
continued h cs st e f b budget list k = continues (cells h) (kept_up h cs st e) (unit_slot h cs) (fresh_store h cs st) (root h cs st e) f b budget list k
