-- A run that is refused, and a visit that is refused or stops, leave the store and the numbers of the list as they were. Assumes nothing.
use Rattle.std.specs.Prelude.{Result, Ok, Err, ⊤}
use Prim.Native.Nat.{ℕ, ◌+◌}
use mathlib.Core.Path.{◌≡◌, refl, sym, ◌∙◌, ap}
use mathlib.Core.List.{List}
use native.Mathlib.Numerals.{add-one}
use native.Mathlib.Omega.{arith}
use lib.IntN.{ℤ}
use lib.ListN.{length}
use Rattle.system.specs.declared.refusal.Refused.{Refused}
use Rattle.system.specs.declared.head.Head.{Head}
use Rattle.boxes.specs.declared.visit.Outcome.{Outcome}
use Rattle.boxes.specs.declared.visit.Word.{Word}
use Rattle.waiting.specs.declared.state.State.{State}
use Rattle.waiting.specs.States.{judged}
use Rattle.waiting.specs.Cells.{boxed}
use Rattle.waiting.specs.Steps.{begun, due, next}
use Rattle.waiting.specs.Runs.{Way, went}
use Rattle.runs.specs.declared.runs.Stop.{Stop}
use Rattle.runs.specs.declared.visits.Answer as OfVisit
use Rattle.runs.specs.declared.visits.Answer.TheVariants.{Saw, Stopped}
use Rattle.runs.specs.Runs.{answered, set_out, run_of}
use Rattle.runs.specs.Visits.{visit_of}
use Rattle.runs.specs.Lists.{listed, relisted}
use Rattle.runs.specs.Listings.{same_listed}

-- the store and the list at a way's end are those that were there
abbrev pub Same : List ℕ → List ℤ → Way ℤ → Type 0
Same xs st w = (w.store ≡ st) × (relisted xs w.list ≡ xs)

-- a visit was not made: it was refused, or it stopped
abbrev pub Unmade : Result OfVisit.Answer Refused → Type 0
Unmade (Ok (Saw v)) = ⊥
Unmade (Ok (Stopped w)) = Unit {0}
Unmade (Err x) = Unit {0}

module _ (h : Head) (s : State) (xs : List ℕ) (st : List ℤ) where
  abbrev verdict : Result ⊤ Refused
  verdict = judged h s st (listed xs)

  -- whatever the budget is, and the budget that was refused
  pub run_refused : (asked budget : ℕ) (x : Refused) → (run_of h s asked (listed xs) st).answer ≡ Err x
      → Same xs st (run_of h s asked (listed xs) st).end × ((run_of h s budget (listed xs) st).answer ≡ Err x) × Same xs st (run_of h s budget (listed xs) st).end
  unfolding went
  run_refused asked budget x e = from verdict refl
    where
      from : (v : Result ⊤ Refused) → verdict ≡ v
          → Same xs st (run_of h s asked (listed xs) st).end × ((run_of h s budget (listed xs) st).answer ≡ Err x) × Same xs st (run_of h s budget (listed xs) st).end
      from (Ok u) p = let z : ◌≡◌ {A = ℕ} 0 1 = cc in absurd (omega arith)
      from (Err y) p =
          let q : ◌≡◌ {A = Result Stop Refused} (Err y) (Err x) = sym (ap (λ (v : Result ⊤ Refused). answered v (went (boxed h) (asked + 1) (set_out h s asked (listed xs) st)).cursor) p) ∙ e in
          rw (p, add-one asked, add-one budget) ((refl, same_listed xs), q, (refl, same_listed xs))

  pub visit_unmade : (a : Result OfVisit.Answer Refused) → (visit_of h s (listed xs) st).answer ≡ a → Unmade a → Same xs st (visit_of h s (listed xs) st).end
  unfolding next
  visit_unmade a e u = from verdict refl
    where
      unmade : Unmade (visit_of h s (listed xs) st).answer
      unmade = rw e u

      by : (d : Result Outcome Word) → verdict ≡ Ok tt → due (boxed h) st (begun s 1 (length (listed xs))) ≡ d → Same xs st (visit_of h s (listed xs) st).end
      by (Err w) p q = rw (p, q) (refl, same_listed xs)
      by (Ok o) p q = absurd (rw (p, q) at unmade)

      from : (v : Result ⊤ Refused) → verdict ≡ v → Same xs st (visit_of h s (listed xs) st).end
      from (Ok u) p = by (due (boxed h) st (begun s 1 (length (listed xs)))) p refl
      from (Err x) p = rw p (refl, same_listed xs)
