-- The rules of a run, each as an equation (what a proof about code that runs a search cites); the one induction over runs (`drive_cases`); runs of
-- two machines in step (`drive_in_step`); continued and longer runs of a machine that counts its visits. Assumes nothing.
use mathlib.Core.Path.{◌≡◌, refl, ap, ◌∙◌}
use mathlib.Core.Logic.{◌≢◌}
use mathlib.Core.List.{List, [], ◌++◌}
use Prim.Native.Nat.{ℕ, zero, suc, ◌+◌, ◌-◌, ◌≤◌, ◌<◌}
use native.Mathlib.Nat.{zero-add, suc-add}
use native.Mathlib.Omega.{arith}
use Rattle.search.specs.Lists.{Both}
use Rattle.search.specs.Machine.{Answer, Stop, stop, finished, spent, full, Turn, nothing, no_room, go, Machine, drive, trace, Called, first, again, BothStop}
use Rattle.search.proofs.Lists.{both_append}

module _ {t : Turn} where
  pub go_waits : t ≡ go → t ≢ nothing
  go_waits e n = let z : ◌≡◌ {A = ℕ} 0 1 = cc in omega arith

  pub no_room_waits : t ≡ no_room → t ≢ nothing
  no_room_waits e n = let z : ◌≡◌ {A = ℕ} 0 1 = cc in omega arith

module _ (M : Machine) (room : ℕ) (s : M.State) where
  pub drive_nothing : (b : ℕ) → M.turn room s ≡ nothing → drive M b room s ≡ stop s finished
  unfolding drive
  drive_nothing zero e = rw (e, drive)
  drive_nothing (suc b) e = rw (e, drive)

  pub drive_spent : M.turn room s ≢ nothing → drive M zero room s ≡ stop s spent
  unfolding drive
  drive_spent h = from (M.turn room s) refl
    where
      from : (t : Turn) → M.turn room s ≡ t → drive M zero room s ≡ stop s spent
      from nothing e = absurd (h e)
      from no_room e = rw (e, drive)
      from go e = rw (e, drive)

  pub drive_full : (b : ℕ) → M.turn room s ≡ no_room → drive M (suc b) room s ≡ stop s full
  unfolding drive
  drive_full b e = rw (e, drive)

  pub drive_go : (b : ℕ) → M.turn room s ≡ go → drive M (suc b) room s ≡ drive M b room (M.visit s)
  unfolding drive
  drive_go b e = rw (e, drive)

  trace_nothing : (b : ℕ) → M.turn room s ≡ nothing → trace M b room s ≡ []
  unfolding trace
  trace_nothing zero e = refl
  trace_nothing (suc b) e = rw (e, trace)

-- `Q b s r h`: with the budget b from the state s, of the stop r and the log h.
pub record DriveCases (M : Machine) (room : ℕ) (Q : ℕ → M.State → Stop M.State → List M.Note → Type 0) : Type 0 where
  pub finishes : (b : ℕ) (s : M.State) → M.turn room s ≡ nothing → Q b s (stop s finished) []
  pub spends : (s : M.State) → M.turn room s ≢ nothing → Q zero s (stop s spent) []
  pub fills : (b : ℕ) (s : M.State) → M.turn room s ≡ no_room → Q (suc b) s (stop s full) []
  pub goes : (b : ℕ) (s : M.State) (r : Stop M.State) (h : List M.Note) → M.turn room s ≡ go → Q b (M.visit s) r h → Q (suc b) s r (M.note s ++ h)

pub drive_cases : (M : Machine) (room : ℕ) (Q : ℕ → M.State → Stop M.State → List M.Note → Type 0)
    → DriveCases M room Q → (b : ℕ) (s : M.State) → Q b s (drive M b room s) (trace M b room s)
unfolding drive trace
drive_cases M room Q C zero s = from (M.turn room s) refl
  where
    from : (t : Turn) → M.turn room s ≡ t → Q zero s (drive M zero room s) []
    from nothing e = rw (e, drive) (C.finishes zero s e)
    from no_room e = rw (e, drive) (C.spends s (no_room_waits e))
    from go e = rw (e, drive) (C.spends s (go_waits e))
drive_cases M room Q C (suc b) s = from (M.turn room s) refl (drive_cases M room Q C b (M.visit s))
  where
    from : (t : Turn) → M.turn room s ≡ t → Q b (M.visit s) (drive M b room (M.visit s)) (trace M b room (M.visit s))
        → Q (suc b) s (drive M (suc b) room s) (trace M (suc b) room s)
    from nothing e q = rw (e, drive, trace) (C.finishes (suc b) s e)
    from no_room e q = rw (e, drive, trace) (C.fills b s e)
    from go e q = rw (e, drive, trace) (C.goes b s (drive M b room (M.visit s)) (trace M b room (M.visit s)) e q)

-- Related states are at the same turn, and a visit relates them again and leaves related notes.
pub record Simulates (M N : Machine) (room : ℕ) (R : M.State → N.State → Type 0) (Q : M.Note → N.Note → Type 0) : Type 0 where
  pub turns : (s : M.State) (t : N.State) → R s t → M.turn room s ≡ N.turn room t
  pub visits : (s : M.State) (t : N.State) → R s t → N.turn room t ≡ go → R (M.visit s) (N.visit t)
  pub notes : (s : M.State) (t : N.State) → R s t → Both Q (M.note s) (N.note t)

pub drive_in_step : {M N : Machine} {room : ℕ} {R : M.State → N.State → Type 0} {Q : M.Note → N.Note → Type 0} → Simulates M N room R Q
    → (b : ℕ) (s : M.State) (t : N.State) → R s t → BothStop R Q (drive M b room s) (trace M b room s) (drive N b room t) (trace N b room t)
unfolding drive trace
drive_in_step {M} {N} {room} {R} {Q} C b s t p = drive_cases N room (λ b t q g. (s : M.State) → R s t → BothStop R Q (drive M b room s) (trace M b room s) q g) (record {
  finishes = λ b t f s p. rw (drive_nothing M room s b (C.turns s t p ∙ f), trace_nothing M room s b (C.turns s t p ∙ f)) (record { answer = refl; state = p; log = tt });
  spends = λ t f s p. rw (drive_spent M room s (rw (C.turns s t p) f)) (record { answer = refl; state = p; log = tt });
  fills = λ b t f s p. rw (C.turns s t p ∙ f, drive, trace) (record { answer = refl; state = p; log = tt });
  goes = λ b t q g f ih s p.
      let i : BothStop R Q (drive M b room (M.visit s)) (trace M b room (M.visit s)) q g = ih (M.visit s) (C.visits s t p f) in
      rw (C.turns s t p ∙ f, drive, trace)
      (record { answer = i.answer; state = i.state; log = both_append Q (M.note s) (N.note t) _ _ (C.notes s t p) i.log });
}) b t s p

-- The machine counts its visits, and what may go on at a room may go on at a larger one.
pub record Counting (M : Machine) : Type 0 where
  pub visits : M.State → ℕ
  pub counts : (room : ℕ) (s : M.State) → M.turn room s ≡ go → visits (M.visit s) ≡ suc (visits s)
  pub wider : (room room' : ℕ) (s : M.State) → room ≤ room' → M.turn room s ≡ go → M.turn room' s ≡ go

-- What an answer says of the state `t` that a run stopped in, after `number` visits of its budget.
abbrev pub Says : (M : Machine) (budget room number : ℕ) → M.State → Answer → Type 0
Says M b room number t finished = M.turn room t ≡ nothing
Says M b room number t spent = (number ≡ b) × (M.turn room t ≢ nothing)
Says M b room number t full = (number < b) × (M.turn room t ≡ no_room)

module _ {M : Machine} (C : Counting M) where
  -- What a run with the budget b from s made, that stopped in r: so many visits, after which a run with at least the room goes on from r.
  pub record Ran (b room : ℕ) (s : M.State) (r : Stop M.State) : Type 0 where
    pub number : ℕ
    pub within : number ≤ b
    pub counted : C.visits r.state ≡ C.visits s + number
    pub onward : (b' room' : ℕ) → room ≤ room' → drive M (number + b') room' s ≡ drive M b' room' r.state
    pub says : Says M b room number r.state r.answer

  pub ran : (b room : ℕ) (s : M.State) → Ran b room s (drive M b room s)
  ran b room s = drive_cases M room (λ b s r h. Ran b room s r) (record {
    finishes = λ b s e. none b s finished e;
    spends = λ s e. none 0 s spent (refl, e);
    fills = λ b s e. none (suc b) s full (omega arith, e);
    goes = λ b s r h e q. record {
      number = suc q.number;
      within = omega (arith, q.within);
      counted = omega (arith, q.counted, C.counts room s e);
      onward = λ b' room' h. rw suc-add (drive_go M room' s (q.number + b') (C.wider room room' s h e) ∙ q.onward b' room' h);
      says = later b q.number r.state r.answer q.says;
    };
  }) b s
    where
      later : (b n : ℕ) (t : M.State) (a : Answer) → Says M b room n t a → Says M (suc b) room (suc n) t a
      later b n t finished p = p
      later b n t spent p = (ap suc p.0, p.1)
      later b n t full p = (omega (arith, p.0), p.1)

      none : (b : ℕ) (s : M.State) (a : Answer) → Says M b room 0 s a → Ran b room s (stop s a)
      none b s a p = record { number = 0; within = omega arith; counted = omega arith; onward = λ b' room' h. rw zero-add; says = p }

  -- The visits that a run made.
  abbrev pub visits_made : (b room : ℕ) → M.State → ℕ
  visits_made b room s = C.visits (drive M b room s).state - C.visits s

  -- The continued run, answer and all, is the one run whose budget has the visits made besides.
  pub drive_continues : (b b' r r' : ℕ) (s : M.State) → r ≤ r' → drive M (visits_made b r s + b') r' s ≡ drive M b' r' (drive M b r s).state
  drive_continues b b' r r' s h =
      let n : visits_made b r s ≡ (ran b r s).number = omega (arith, (ran b r s).counted) in
      rw n ((ran b r s).onward b' r' h)

  -- A budget of just the visits made leads to the same state.
  pub drive_visits : (b room : ℕ) (s : M.State) → (drive M (visits_made b room s) room s).state ≡ (drive M b room s).state
  drive_visits b room s =
      let n : visits_made b room s ≡ visits_made b room s + 0 = omega arith in
      rw n (rw (drive_continues b 0 room room s (omega arith)) (zero_stays (drive M b room s).state))
    where
      zero_stays : (t : M.State) → (drive M 0 room t).state ≡ t
      zero_stays t = drive_cases M room (λ b s r h. b ≡ 0 → r.state ≡ s)
          (record { finishes = λ b s e z. refl; spends = λ s e z. refl; fills = λ b s e z. refl; goes = λ b s r h e q z. absurd (omega arith) }) 0 t refl

  -- Calls that continue one another end where one run with all the visits and the last room ends.
  pub drive_called : {s t : M.State} {room : ℕ} → Called M s room t → (drive M (C.visits t - C.visits s) room s).state ≡ t
  drive_called {s} (first b room) = drive_visits b room s
  drive_called {s} (again {before = r} {t = t} called b room h) =
      rw (← drive_called called) (rw (drive_continues (C.visits t - C.visits s) b r room s h) at (drive_visits (visits_made (C.visits t - C.visits s) r s + b) room s))

  -- A run with at least the budget and the room is the shorter run, gone on with.
  pub drive_goes_on : (b b' r r' : ℕ) (s : M.State) → b ≤ b' → r ≤ r' → drive M b' r' s ≡ drive M (b' - visits_made b r s) r' (drive M b r s).state
  drive_goes_on b b' r r' s hb hr =
      let n : b' ≡ visits_made b r s + (b' - visits_made b r s) = omega (arith, (ran b r s).within, (ran b r s).counted) in
      ap (λ (c : ℕ). drive M c r' s) n ∙ drive_continues b (b' - visits_made b r s) r r' s hr
