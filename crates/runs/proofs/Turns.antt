-- What the loop of a run keeps, from its start to its end: f turns from w end where the whole run ends, f are enough, and the next step may be made.
-- Assumes nothing.
use Rattle.std.specs.Prelude.{Option, Some, None, Result, Ok, Err, ⊤}
use mathlib.Core.Path.{◌≡◌, refl, sym, ◌∙◌, ap}
use mathlib.Core.Bool.{Bool, true, false, not}
use mathlib.Core.List.{List}
use Prim.Native.Nat.{ℕ, zero, suc, ◌+◌, ◌^◌, ◌<◌}
use native.Mathlib.Nat.{lt-suc_self, not-suc-le-zero}
use native.Mathlib.Omega.{arith}
use lib.ListN.{length, length-set}
use lib.IntN.{ℤ}
use lib.Dec.{T as Holds}
use Rattle.system.specs.declared.head.Head.{Head}
use Rattle.system.specs.declared.refusal.Refused.{Refused}
use Rattle.boxes.specs.declared.visit.Outcome.{Outcome}
use Rattle.boxes.specs.declared.visit.Word.{Word}
use Rattle.waiting.specs.declared.cursor.Kept.{Kept}
use Rattle.waiting.specs.declared.cursor.Cursor.{Cursor}
use Rattle.waiting.specs.declared.state.State.{State}
use Rattle.waiting.specs.States.{judged}
use Rattle.waiting.specs.Cells.{boxed}
use Rattle.waiting.specs.Steps.{Ready, put_in, goes, begun, due, by_due, next}
use Rattle.waiting.specs.Runs.{Way, turned, went}
use Rattle.waiting.proofs.Keeping.{ready_next, judged_ready}
use Rattle.waiting.proofs.Turning.{SaysDue, due_says}
use Rattle.runs.specs.Runs.{opened, set_out, run_of}

-- a record that is put in its place makes a list no longer
pub length_put_in : (list : List Kept) (p : Option (ℕ × Kept)) → length (put_in list p) ≡ length list
length_put_in list None = refl
length_put_in list (Some p) = length-set list p.0 p.1

pub record Good (h : Head) (n m : ℕ) (end : Way ℤ) (f : ℕ) (w : Way ℤ) : Type 0 where
  pub same : went (boxed h) f w ≡ end
  pub enough : Holds (goes w.cursor) → w.cursor.left < f
  pub ready : Holds (goes w.cursor) → Ready h w.store w.cursor
  pub listed : length w.list ≡ n
  pub stored : length w.store ≡ m

abbrev pub less : ℕ → ℕ
less zero = zero
less (suc f) = f

-- a turn and the turns after it; no turn
went_on : (h : Head) (f : ℕ) (w : Way ℤ) (go : Bool) → goes w.cursor ≡ go → Holds go → went (boxed h) (suc f) w ≡ went (boxed h) f (turned (boxed h) w)
unfolding went
went_on h f w true e p = ap (λ (t : Bool). elim t [ true ↦ went (boxed h) f (turned (boxed h) w) | false ↦ w ]) e
went_on h f w false e p = absurd p

pub went_off : (h : Head) (f : ℕ) (w : Way ℤ) (go : Bool) → goes w.cursor ≡ go → Holds (not go) → went (boxed h) f w ≡ w
unfolding went
went_off h f w true e p = absurd p
went_off h zero w false e p = refl
went_off h (suc f) w false e p = ap (λ (t : Bool). elim t [ true ↦ went (boxed h) f (turned (boxed h) w) | false ↦ w ]) e

-- a step that goes on has used a visit of the budget
left_by : (h : Head) (st : List ℤ) (c : Cursor) (d : Result Outcome Word) → SaysDue (boxed h) st c d → Holds (goes (by_due (boxed h) st c d).cursor) → (by_due (boxed h) st c d).cursor.left < c.left
left_by h st c (Err w) s p = absurd p
left_by h st c (Ok o) s p = omega (arith, s.budget)

left_falls : (h : Head) (st : List ℤ) (c : Cursor) → Holds (goes (next (boxed h) st c).cursor) → (next (boxed h) st c).cursor.left < c.left
unfolding next
left_falls h st c p = left_by h st c (due (boxed h) st c) (due_says (boxed h) st c) p

module _ (h : Head) (n m : ℕ) (end : Way ℤ) where
  pub turns : (f : ℕ) (w : Way ℤ) → Good h n m end f w → Holds (goes w.cursor) → length (next (boxed h) w.store w.cursor).store ≡ m → Good h n m end (less f) (turned (boxed h) w)
  turns zero w k p e = absurd (not-suc-le-zero (k.enough p))
  turns (suc f) w k p e = record {
    same = sym (went_on h f w (goes w.cursor) refl p) ∙ k.same;
    enough = λ q. fewer (left_falls h w.store w.cursor q) (k.enough p);
    ready = λ _. ready_next h w.store w.cursor (k.ready p);
    listed = length_put_in w.list (next (boxed h) w.store w.cursor).cursor.put ∙ k.listed;
    stored = e;
  }
    where
      fewer : {a b : ℕ} → a < b → b < suc f → a < f
      fewer p q = omega arith

  pub falls : (f : ℕ) (w : Way ℤ) → Good h n m end f w → Holds (goes w.cursor) → less f < f
  falls zero w k p = absurd (not-suc-le-zero (k.enough p))
  falls (suc f) w k p = lt-suc_self f

  pub ends : (f : ℕ) (w : Way ℤ) → Good h n m end f w → Holds (not (goes w.cursor)) → w ≡ end
  ends f w k p = sym (went_off h f w (goes w.cursor) refl p) ∙ k.same

pub starts : (h : Head) (s : State) (budget : ℕ) (list : List Kept) (st : List ℤ) → length list < 2 ^ 64 → budget < 2 ^ 32
    → Good h (length list) (length st) (run_of h s budget list st).end (budget + 1) (set_out h s budget list st)
starts h s budget list st room_fits budget-fits =
    record { same = refl; enough = enough_for (judged h s st list); ready = ready_for (judged h s st list) refl; listed = refl; stored = refl }
  where
    enough_for : (v : Result ⊤ Refused) → Holds (goes (opened v (begun s budget (length list)))) → (opened v (begun s budget (length list))).left < budget + 1
    enough_for (Ok u) p = omega arith
    enough_for (Err x) p = absurd p

    ready_for : (v : Result ⊤ Refused) → judged h s st list ≡ v → Holds (goes (opened v (begun s budget (length list)))) → Ready h st (opened v (begun s budget (length list)))
    ready_for (Ok u) e p = judged_ready h s st list budget room_fits budget-fits e
    ready_for (Err x) e p = absurd p
