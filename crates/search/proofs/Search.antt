-- One visit of a search, as equations: what the rules say of the top cell decides the turn and the visit. And the one induction over the states of
-- a search (`run_keeps`): what every visit preserves holds wherever a run stops. Assumes nothing.
use mathlib.Core.Path.{◌≡◌, refl, ap}
use mathlib.Core.Logic.{◌≢◌}
use mathlib.Core.List.{List, [], ◌∷◌, ◌++◌, append-nil, append_assoc}
use lib.ListN.{length}
use Prim.Native.Nat.{ℕ, zero, suc, ◌-◌, ◌≤◌, ◌<◌}
use native.Mathlib.Omega.{arith}
use Rattle.whole.specs.Half.{lower, upper}
use Rattle.search.specs.Lists.{All}
use Rattle.search.specs.Machine.{Turn, nothing, no_room, go}
use Rattle.search.specs.Search.{Look, is_dropped, is_kept, is_cut, Search, States, Log, state, with_top, seen, become, visit, turn_look, turn, turn_top, due, searching, run, log}
use Rattle.search.specs.Claims.{Passes, TopKept}
use Rattle.search.proofs.Machine.{drive_cases, Counting}

module _ (S : Search) (n : S.Node) (s : States S) (l : Look S.Drop S.Cut) (e : S.look n ≡ l) where
  pub turn_of : (room : ℕ) → turn S room (with_top n s) ≡ turn_look (room - length s.kept) l
  unfolding turn turn_top
  turn_of room = rw e

  pub visit_of : visit S (with_top n s) ≡ become S n s l
  unfolding visit
  visit_of = rw e

-- The two cases of a state: nothing waits, or a cell is on top.
pub on_top : (S : Search) (Q : States S → Type 0) → ((s : States S) → Q (state [] s.kept s.visits s.dropped)) → ((n : S.Node) (s : States S) → Q (with_top n s))
    → (s : States S) → Q s
on_top S Q none some s = from s.waiting
  where
    from : (w : List S.Node) → Q (state w s.kept s.visits s.dropped)
    from [] = none s
    from (n ∷ w) = some n (state w s.kept s.visits s.dropped)

-- What the turn says of a state.
abbrev pub TurnSays : (S : Search) (room : ℕ) → States S → Turn → Type 0
TurnSays S room s nothing = s.waiting ≡ []
TurnSays S room s no_room = TopKept S room s
TurnSays S room s go = (visit S s).visits ≡ suc s.visits

pub turn_says : (S : Search) (room : ℕ) (s : States S) → TurnSays S room s (turn S room s)
unfolding turn turn_top turn_look become
turn_says S room = on_top S (λ s. TurnSays S room s (turn S room s)) (λ s. refl) (λ n s. from n s (room - length s.kept) refl (S.look n) refl)
  where
    from : (n : S.Node) (s : States S) (a : ℕ) → room - length s.kept ≡ a → (l : Look S.Drop S.Cut) → S.look n ≡ l → TurnSays S room (with_top n s) (turn_look a l)
    from n s a f (is_dropped x) e = ap (λ (t : States S). t.visits) (visit_of S n s (is_dropped x) e)
    from n s zero f (is_kept m) e = record { node = n; under = s.waiting; mark = m; top = refl; looked = e; no_room = omega arith }
    from n s (suc a) f (is_kept m) e = ap (λ (t : States S). t.visits) (visit_of S n s (is_kept m) e)
    from n s a f (is_cut c) e = ap (λ (t : States S). t.visits) (visit_of S n s (is_cut c) e)

pub none_waits : (S : Search) (room : ℕ) (s : States S) → turn S room s ≡ nothing → s.waiting ≡ []
none_waits S room s e = rw e at (turn_says S room s)

pub some_waits : (S : Search) (room : ℕ) (s : States S) → turn S room s ≢ nothing → s.waiting ≢ []
unfolding turn turn_top
some_waits S room = on_top S (λ s. turn S room s ≢ nothing → s.waiting ≢ []) (λ s h e. h refl) (λ n s h e. let z : ◌≡◌ {A = ℕ} 0 1 = cc in omega arith)

module _ {Drop Cut : Type 0} where
  look_wider : (a b : ℕ) (l : Look Drop Cut) → a ≤ b → turn_look a l ≡ go → turn_look b l ≡ go
  unfolding turn_look
  look_wider a b (is_dropped x) h e = refl
  look_wider zero b (is_kept m) h e = cc
  look_wider (suc a) zero (is_kept m) h e = absurd (omega arith)
  look_wider (suc a) (suc b) (is_kept m) h e = refl
  look_wider a b (is_cut c) h e = refl

  pub kept_go : (a m : ℕ) (l : Look Drop Cut) → l ≡ is_kept m → turn_look a l ≡ go → 0 < a
  unfolding turn_look
  kept_go zero m l f e = let z : ◌≡◌ {A = ℕ} 0 1 = cc (rw f at e) in omega arith
  kept_go (suc a) m l f e = omega arith

-- What may go on at a room may go on at a larger one.
pub turn_wider : (S : Search) (room room' : ℕ) (s : States S) → room ≤ room' → turn S room s ≡ go → turn S room' s ≡ go
unfolding turn turn_top
turn_wider S room room' s h = on_top S (λ s. turn S room s ≡ go → turn S room' s ≡ go) (λ s e. e) (λ n s e. look_wider _ _ (S.look n) (omega arith) e) s

abbrev pub search_counts : (S : Search) → Counting (searching S)
search_counts S = record { visits = λ s. s.visits; counts = λ room s e. rw e at (turn_says S room s); wider = turn_wider S }

-- `P h s`, of the visits made `h` and the state `s`, is preserved when the fit top cell `n` becomes what the rules say; and when any top cell does.
abbrev pub ClosedFor : (S : Search) → (S.Node → Type 0) → (Log S → States S → Type 0) → Type 0
ClosedFor S Fit P = (h : Log S) (n : S.Node) (s : States S) (l : Look S.Drop S.Cut) → S.look n ≡ l → Fit n → P h (with_top n s) → P (h ++ (seen n l ∷ [])) (become S n s l)

abbrev pub Closed : (S : Search) → (Log S → States S → Type 0) → Type 0
Closed S P = ClosedFor S (λ n. Unit {0}) P

module _ (S : Search) (P : Log S → States S → Type 0) (C : Closed S P) where
  pub visit_keeps : (h : Log S) (s : States S) → P h s → P (h ++ due S s.waiting) (visit S s)
  unfolding visit due
  visit_keeps h = on_top S (λ s. P h s → P (h ++ due S s.waiting) (visit S s)) (λ s p. rw append-nil p) (λ n s p. C h n s (S.look n) refl tt p)

  -- Of the history `h` before the run, and the log of the run.
  pub run_keeps : (b room : ℕ) (h : Log S) (s : States S) → P h s → P (h ++ log S b room s) (run S b room s).state
  run_keeps b room h s p = drive_cases (searching S) room (λ b s r l. (h : Log S) → P h s → P (h ++ l) r.state) (record {
    finishes = λ b s e h p. rw append-nil p;
    spends = λ s e h p. rw append-nil p;
    fills = λ b s e h p. rw append-nil p;
    goes = λ b s r l e ih h p. rw (← append_assoc) (ih (h ++ due S s.waiting) (visit_keeps h s p));
  }) b s h p

-- Where every waiting cell is fit, every cell that is visited is.
module _ (S : Search) (Fit : S.Node → Type 0) (F : Passes S Fit) (P : Log S → States S → Type 0) (C : ClosedFor S Fit P) where
  fit_closed : Closed S (λ h s. All Fit s.waiting × P h s)
  unfolding become
  fit_closed h n s (is_dropped x) e u p = (p.0.1, C h n s (is_dropped x) e p.0.0 p.1)
  fit_closed h n s (is_kept m) e u p = (p.0.1, C h n s (is_kept m) e p.0.0 p.1)
  fit_closed h n s (is_cut c) e u p = ((F n c e lower p.0.0, (F n c e upper p.0.0, p.0.1)), C h n s (is_cut c) e p.0.0 p.1)

  pub run_keeps_fit : (b room : ℕ) (s : States S) → All Fit s.waiting → P [] s → All Fit (run S b room s).state.waiting × P (log S b room s) (run S b room s).state
  run_keeps_fit b room s f p = run_keeps S (λ h s. All Fit s.waiting × P h s) fit_closed b room [] s (f, p)
