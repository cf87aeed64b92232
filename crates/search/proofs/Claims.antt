-- No zero is lost, what cutting keeps holds of every cell, what an answer means, continued runs, of two runs the longer one, and a finished run's walk.
-- Assumes nothing.
use mathlib.Core.Path.{◌≡◌, refl}
use mathlib.Core.Logic.{inl, inr}
use mathlib.Core.List.{List, [], ◌∷◌, ◌++◌, append-nil, append_assoc}
use Prim.Native.Nat.{ℕ, suc, ◌+◌, ◌≤◌}
use native.Mathlib.Omega.{arith}
use Rattle.whole.specs.Half.{Half, lower, upper}
use Rattle.search.specs.Lists.{All, Any}
use Rattle.search.specs.Machine.{Stop, Answer, finished, spent, full}
use Rattle.search.specs.Search.{Look, is_dropped, is_kept, is_cut, Search, Entry, States, Log, entry, seen, start, become, searching, run, log}
use Rattle.search.specs.Claims.{Passes, Sound, Held, NoZeroLost, Inherits, KeptBy, SeenBy, CuttingKeeps, Means, AnswerMeans}
use Rattle.search.specs.Claims.{ContinuedState, ContinuedAnswer, Nests, Further, LongerGoesOn, Walk, walk_dropped, walk_kept, walk_cut, FinishedWalks}
use Rattle.search.proofs.Lists.{all_snoc, any_snoc, any_map, all_self}
use Rattle.search.proofs.Machine.{Ran, ran, Says, drive_continues, drive_called, drive_goes_on}
use Rattle.search.proofs.Search.{Closed, run_keeps, turn_says, none_waits, some_waits, search_counts, ClosedFor, run_keeps_fit}

module _ {S : Search} {Fit : S.Node → Type 0} {Point : Type 0} {Zero : Point → Type 0} {In : Point → S.Place → Type 0}
    (G : Sound S Fit Point Zero In) (x : Point) (z : Zero x) where
  in_half : (n : S.Node) (c : S.Cut) (w : List S.Node) (h : Half) → In x (S.place (S.half h c n)) → Any (λ m. In x (S.place m)) (S.half lower c n ∷ S.half upper c n ∷ w)
  in_half n c w lower i = inl i
  in_half n c w upper i = inr (inl i)

  held_closed : ClosedFor S Fit (λ h s. Held S In x s)
  unfolding become
  held_closed h n s (is_dropped y) e f (inl (inl i)) = absurd (G.never n y e f x z i)
  held_closed h n s (is_dropped y) e f (inl (inr a)) = inl a
  held_closed h n s (is_dropped y) e f (inr a) = inr a
  held_closed h n s (is_kept m) e f (inl (inl i)) = inr (any_snoc (λ e. In x e.place) s.kept _ (inr i))
  held_closed h n s (is_kept m) e f (inl (inr a)) = inl a
  held_closed h n s (is_kept m) e f (inr a) = inr (any_snoc (λ e. In x e.place) s.kept _ (inl a))
  held_closed h n s (is_cut c) e f (inl (inl i)) = let j = G.halves n c e f x i in inl (in_half n c s.waiting j.0 j.1)
  held_closed h n s (is_cut c) e f (inl (inr a)) = inl (inr (inr a))
  held_closed h n s (is_cut c) e f (inr a) = inr a

pub no_zero_lost : NoZeroLost
no_zero_lost S Fit Point Zero In G x z b room s f a = (run_keeps_fit S Fit G.passes (λ h s. Held S In x s) (held_closed G x z) b room s f a).1

module _ {S : Search} {Fit : S.Node → Type 0} {Good : Entry S.Place → Type 0} (I : Inherits S Fit Good) where
  saw : (h : Log S) (n : S.Node) (l : Look S.Drop S.Cut) → S.look n ≡ l → Fit n → All (SeenBy S Fit) h → All (SeenBy S Fit) (h ++ (seen n l ∷ []))
  saw h n l e f a = all_snoc (SeenBy S Fit) h _ a (record { fit = f; looked = e })

  good_closed : ClosedFor S Fit (λ h s. All Good s.kept × All (SeenBy S Fit) h)
  unfolding become
  good_closed h n s (is_dropped x) e f p = (p.0, saw h n (is_dropped x) e f p.1)
  good_closed h n s (is_kept m) e f p = (all_snoc Good s.kept _ p.0 (I.keeps n m _ e f), saw h n (is_kept m) e f p.1)
  good_closed h n s (is_cut c) e f p = (p.0, saw h n (is_cut c) e f p.1)

pub cutting_keeps : CuttingKeeps
cutting_keeps S Fit Good I b room s f g =
    let r = run_keeps_fit S Fit I.passes (λ h s. All Good s.kept × All (SeenBy S Fit) h) (good_closed I) b room s f (g, tt) in
    record { waiting = r.0; kept = r.1.0; visited = r.1.1 }

pub kept_by : (S : Search) (Fit : S.Node → Type 0) → Passes S Fit → Inherits S Fit (KeptBy S Fit)
kept_by S Fit F = record { passes = F; keeps = λ n m v e f. record { node = n; fit = f; looked = e; placed = refl } }

pub answer_means : AnswerMeans
answer_means S b room s = from (run S b room s) (ran (search_counts S) b room s)
  where
    means : (t : States S) (n : ℕ) → n ≤ b → t.visits ≡ s.visits + n → (a : Answer) → Says (searching S) b room n t a → Means S b room s t a
    means t n h v finished p = (omega arith, none_waits S room t p)
    means t n h v spent p = (omega (arith, p.0), some_waits S room t p.1)
    means t n h v full p = (omega (arith, p.0), rw p.1 at (turn_says S room t))

    from : (r : Stop (States S)) → Ran (search_counts S) b room s r → Means S b room s r.state r.answer
    from r q = means r.state q.number q.within q.counted r.answer q.says

pub continued_answer : ContinuedAnswer
continued_answer S b b' r r' s h = drive_continues (search_counts S) b b' r r' s h

pub continued_state : ContinuedState
continued_state S s t room called = drive_called (search_counts S) called

module _ {S : Search} {Fit : S.Node → Type 0} {Within : S.Place → S.Place → Type 0} (N : Nests S Fit Within) (s : States S) where
  held_through : (p q : S.Place) → Within p q → Held S Within q s → Held S Within p s
  held_through p q i (inl a) = inl (any_map (λ n. Within q (S.place n)) (λ n. Within p (S.place n)) (λ n j. N.through p q (S.place n) i j) s.waiting a)
  held_through p q i (inr a) = inr (any_map (λ e. Within q e.place) (λ e. Within p e.place) (λ e j. N.through p q e.place i j) s.kept a)

  further_self : Further S Within s s
  further_self = record {
    besides = [];
    begins = rw append-nil;
    waiting_in = all_self (λ n. Held S Within (S.place n) s) (λ n m. Within (S.place n) (S.place m)) (λ n. N.itself (S.place n)) s.waiting (λ n a. inl a);
    kept_in = all_self (λ e. Held S Within e.place s) (λ e f. Within e.place f.place) (λ e. N.itself e.place) s.kept (λ e a. inr a);
  }

  further_closed : ClosedFor S Fit (λ h t. Further S Within s t)
  unfolding become
  further_closed h n t (is_dropped x) e f p = record { besides = p.besides; begins = p.begins; waiting_in = p.waiting_in.1; kept_in = p.kept_in }
  further_closed h n t (is_kept m) e f p = record {
    besides = p.besides ++ (entry (S.place n) m (suc t.visits) ∷ []);
    begins = rw p.begins (append_assoc s.kept p.besides _);
    waiting_in = p.waiting_in.1;
    kept_in = all_snoc (λ f. Held S Within f.place s) t.kept _ p.kept_in p.waiting_in.0;
  }
  further_closed h n t (is_cut c) e f p =
      let half : (h : Half) → Held S Within (S.place (S.half h c n)) s = λ h. held_through _ _ (N.inside n c e h f) p.waiting_in.0 in
      record { besides = p.besides; begins = p.begins; waiting_in = (half lower, (half upper, p.waiting_in.1)); kept_in = p.kept_in }

pub longer_goes_on : LongerGoesOn
longer_goes_on S Fit Within N b b' r r' s f hb hr =
    let t : States S = (run S b r s).state in
    let fits : All Fit t.waiting = (run_keeps_fit S Fit N.passes (λ h u. Unit {0}) (λ h n s l e f p. tt) b r s f tt).0 in
    rw (drive_goes_on (search_counts S) b b' r r' s hb hr)
    (run_keeps_fit S Fit N.passes (λ h u. Further S Within t u) (further_closed N t) _ r' t fits (further_self N t)).1

-- The walks of waiting cells, one after the other.
data Walks (S : Search) : List S.Node → Log S → Type 0 where
  no_walk : Walks S [] []
  one_walk : {n : S.Node} {w : List S.Node} {h g : Log S} → Walk S n h → Walks S w g → Walks S (n ∷ w) (h ++ g)

-- What was visited, and then the walks of what waits, is the walk of the root.
walks_closed : (S : Search) (root : S.Node) → Closed S (λ h s. (l : Log S) → Walks S s.waiting l → Walk S root (h ++ l))
unfolding become
walks_closed S root h n s (is_dropped x) e u p l ws = rw append_assoc (p _ (one_walk (walk_dropped e) ws))
walks_closed S root h n s (is_kept m) e u p l ws = rw append_assoc (p _ (one_walk (walk_kept e) ws))
walks_closed S root h n s (is_cut c) e u p _ (one_walk a (one_walk b r)) = simp append_assoc (simp append_assoc at (p _ (one_walk (walk_cut e a b) r)))

pub finished_walks : FinishedWalks
finished_walks S root b room e =
    let m : Means S b room (start S root) (run S b room (start S root)).state finished = rw e at (answer_means S b room (start S root)) in
    let all : (l : Log S) → Walks S (run S b room (start S root)).state.waiting l → Walk S root (log S b room (start S root) ++ l)
    = run_keeps S (λ h s. (l : Log S) → Walks S s.waiting l → Walk S root (h ++ l)) (walks_closed S root) b room [] (start S root) one in
    rw append-nil at (all [] (rw m.1 no_walk))
  where
    one : (l : Log S) → Walks S (root ∷ []) l → Walk S root l
    one _ (one_walk a no_walk) = rw append-nil a
