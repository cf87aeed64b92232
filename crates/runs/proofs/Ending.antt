-- The numbers after a run and after a visit say exactly its records, as a run keeps the length of the list. Assumes nothing.
use Rattle.std.specs.Prelude.{Result, Ok, Err, ⊤}
use Prim.Native.Nat.{ℕ, zero, suc, ◌+◌}
use mathlib.Core.Path.{◌≡◌, refl, ◌∙◌, ap}
use mathlib.Core.Bool.{Bool, true, false, cond}
use mathlib.Core.List.{List}
use lib.IntN.{ℤ}
use lib.ListN.{length}
use Rattle.system.specs.declared.head.Head.{Head}
use Rattle.system.specs.declared.refusal.Refused.{Refused}
use Rattle.waiting.specs.declared.cursor.Kept.{Kept}
use Rattle.waiting.specs.declared.cursor.Cursor.{Cursor}
use Rattle.waiting.specs.States.{judged}
use Rattle.waiting.specs.Cells.{boxed}
use Rattle.waiting.specs.Steps.{goes, begun, next}
use Rattle.waiting.specs.Runs.{Way, turned, went}
use Rattle.runs.specs.Runs.{set_out, run_of}
use Rattle.runs.specs.Visits.{one, visit_of}
use Rattle.runs.specs.Lists.{listed, ListedBack}
use Rattle.runs.specs.Ends.{RunListed, VisitListed}
use Rattle.runs.specs.Listings.{number_laws}
use Rattle.runs.proofs.Turns.{length_put_in}

pub listed_back : ListedBack
listed_back = number_laws.read_back

turned_length : (h : Head) (w : Way ℤ) → length (turned (boxed h) w).list ≡ length w.list
turned_length h w = length_put_in w.list (next (boxed h) w.store w.cursor).cursor.put

either_length : (n : ℕ) (v w : Way ℤ) (go : Bool) → length v.list ≡ n → length w.list ≡ n → length (cond go v w).list ≡ n
either_length n v w true e f = e
either_length n v w false e f = f

went_by : (h : Head) (f : ℕ) (w : Way ℤ) (go : Bool) → goes w.cursor ≡ go → went (boxed h) (suc f) w ≡ cond go (went (boxed h) f (turned (boxed h) w)) w
unfolding went
went_by h f w true e = ap (λ (b : Bool). elim b [ true ↦ went (boxed h) f (turned (boxed h) w) | false ↦ w ]) e
went_by h f w false e = ap (λ (b : Bool). elim b [ true ↦ went (boxed h) f (turned (boxed h) w) | false ↦ w ]) e

went_length : (h : Head) (f : ℕ) (w : Way ℤ) → length (went (boxed h) f w).list ≡ length w.list
unfolding went
went_length h zero w = refl
went_length h (suc f) w =
    ap (λ (v : Way ℤ). length v.list) (went_by h f w (goes w.cursor) refl)
    ∙ either_length (length w.list) (went (boxed h) f (turned (boxed h) w)) w (goes w.cursor) (went_length h f (turned (boxed h) w) ∙ turned_length h w) refl

pub run_listed : RunListed
run_listed h s budget xs st = listed_back xs (run_of h s budget (listed xs) st).end.list (went_length h (budget + 1) (set_out h s budget (listed xs) st))

one_length : (h : Head) (list : List Kept) (st : List ℤ) (c : Cursor) (v : Result ⊤ Refused) → length (one h list st c v).end.list ≡ length list
one_length h list st c (Ok u) = turned_length h (record { list = list; store = st; cursor = c })
one_length h list st c (Err x) = refl

pub visit_listed : VisitListed
visit_listed h s xs st = listed_back xs (visit_of h s (listed xs) st).end.list (one_length h (listed xs) st (begun s 1 (length (listed xs))) (judged h s st (listed xs)))
