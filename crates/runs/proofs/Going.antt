-- What the loop of `run` keeps, from its start to its end: the list has the records with which the run of the definitions goes on. Assumes nothing.
use Rattle.std.specs.Prelude.{Option, Some, Result, Ok, Err, ⊤}
use Prim.Native.Nat.{ℕ, ◌+◌, ◌^◌, ◌<◌}
use mathlib.Core.Path.{◌≡◌, refl, sym, ◌∙◌, ap, subst}
use mathlib.Core.Bool.{Bool, true, false, not}
use mathlib.Core.List.{List}
use lib.Dec.{T as Holds, leb}
use lib.IntN.{ℤ}
use lib.ListN.{length}
use Rattle.system.specs.declared.head.Head.{Head}
use Rattle.system.specs.declared.refusal.Refused.{Refused}
use Rattle.boxes.specs.declared.visit.Word.{Word}
use Rattle.waiting.specs.declared.cursor.Kept.{Kept}
use Rattle.waiting.specs.declared.cursor.Cursor.{Cursor}
use Rattle.waiting.specs.declared.state.State.{State}
use Rattle.waiting.specs.Cells.{boxed}
use Rattle.waiting.specs.States.{judged, judged_by}
use Rattle.waiting.specs.Steps.{Ready, put_in, goes, begun, halted, next}
use Rattle.waiting.specs.Runs.{Way, way, turned, went}
use Rattle.waiting.proofs.Driving.{turns_left}
use Rattle.waiting.proofs.Judging.{judged_by_number}
use Rattle.waiting.proofs.Keeping.{next_fewer}
use Rattle.runs.specs.declared.runs.Stop.{Stop}
use Rattle.runs.specs.Lists.{Listing}
use Rattle.runs.specs.Runs.{opened, answered, set_out, run_of}
use Rattle.runs.proofs.Turns.{Good, length_put_in, less, went_off, starts, turns, ends}

-- ---- how a call begins: what `check` says of the number of records is what is judged of them
pub verdict_of : (h : Head) (s : State) (st : List ℤ) (list : List Kept) {n : ℕ} {v : Result ⊤ Refused} → n ≡ length list → v ≡ judged_by h s st (leb s.kept n) → v ≡ judged h s st list
verdict_of h s st list e f = f ∙ ap (λ (n : ℕ). judged_by h s st (leb s.kept n)) e ∙ judged_by_number h s st list

module _ {L : Type 0} {records : L → List Kept} {with_records : L → List Kept → L} (laws : Listing records with_records) where
  -- a record is stored in a list as it is in its records
  pub put_on : (xs list list' : L) (ks : List Kept) (p : Option (ℕ × Kept)) → length ks ≡ length (records xs) → list ≡ with_records xs ks
      → list' ≡ with_records list (put_in (records list) p) → list' ≡ with_records xs (put_in ks p)
  put_on xs list list' ks p l e q =
      q ∙ ap (λ (zs : L). with_records zs (put_in (records zs) p)) e ∙ ap (λ (js : List Kept). with_records (with_records xs ks) (put_in js p)) (laws.read_back xs ks l)
      ∙ laws.last_counts xs ks (put_in ks p) l (length_put_in ks p)

  -- ---- a turn
  pub record Going (h : Head) (xs : L) (m : ℕ) (end : Way ℤ) (list : L) (st : List ℤ) (c : Cursor) : Type 0 where
    pub fuel : ℕ
    pub ks : List Kept
    pub good : Good h (length (records xs)) m end fuel (way ks st c)
    pub same : list ≡ with_records xs ks

  module _ {h : Head} {xs : L} {m : ℕ} {end : Way ℤ} {list : L} {st : List ℤ} {c : Cursor} (g : Going h xs m end list st c) where
    pub may_step : goes c ≡ true → Ready h st c
    may_step t = g.good.ready (subst Holds (sym t) tt)

    pub fewer : goes c ≡ true → (c' : Cursor) → c' ≡ (next (boxed h) st c).cursor → turns_left c' < turns_left c
    fewer t c' e = subst (λ (d : Cursor). turns_left d < turns_left c) (sym e) (next_fewer h st c (may_step t) t)

    pub goes_on : goes c ≡ true → (list' : L) (st' : List ℤ) (c' : Cursor) → length st' ≡ m → c' ≡ (next (boxed h) st c).cursor → st' ≡ (next (boxed h) st c).store
        → list' ≡ with_records list (put_in (records list) c'.put) → Going h xs m end list' st' c'
    goes_on t list' st' c' l e d p =
        let n : ℕ = length (records xs) in
        let w : Way ℤ = way g.ks st c in
        let f : way (put_in g.ks c'.put) st' c' ≡ turned (boxed h) w = λ i. way (put_in g.ks (e i).put) (d i) (e i) in
        record {
          fuel = less g.fuel;
          ks = put_in g.ks c'.put;
          good = subst (Good h n m end (less g.fuel)) (sym f) (turns h n m end g.fuel w g.good (subst Holds (sym t) tt) (sym (ap length d) ∙ l));
          same = put_on xs list list' g.ks c'.put g.good.listed g.same p;
        }

    pub halts : goes c ≡ false → way g.ks st c ≡ end
    halts t = ends h (length (records xs)) m end g.fuel (way g.ks st c) g.good (subst (λ (b : Bool). Holds (not b)) (sym t) tt)

  -- ---- a call
  module _ (h : Head) (s : State) (budget : ℕ) (xs : L) (st : List ℤ) where
    -- what `run` promises
    abbrev pub Promised : Result Stop Refused → L → List ℤ → Type 0
    Promised r list' st' =
        (r ≡ (run_of h s budget (records xs) st).answer)
        × ((list' ≡ with_records xs (run_of h s budget (records xs) st).end.list) × (st' ≡ (run_of h s budget (records xs) st).end.store))

    abbrev pub start : Way ℤ
    start = way (records xs) st (begun s budget (length (records xs)))

    sets_out : judged h s st (records xs) ≡ Ok tt → set_out h s budget (records xs) st ≡ start
    sets_out e = ap (λ (v : Result ⊤ Refused). way (records xs) st (opened v (begun s budget (length (records xs))))) e

    pub going : {n : ℕ} {c : Cursor} → n ≡ length (records xs) → c ≡ begun s budget n → n < 2 ^ 64 → budget < 2 ^ 32 → judged h s st (records xs) ≡ Ok tt
        → Going h xs (length st) (went (boxed h) (budget + 1) start) xs st c
    going r b room_fits budget_fits e =
        let same_start : start ≡ way (records xs) st _ = ap (way (records xs) st) (sym (b ∙ ap (begun s budget) r)) in
        record {
          fuel = budget + 1;
          ks = records xs;
          good = subst (λ (w : Way ℤ). Good h (length (records xs)) (length st) (went (boxed h) (budget + 1) start) (budget + 1) w) same_start
              (subst (λ (w : Way ℤ). Good h (length (records xs)) (length st) (went (boxed h) (budget + 1) w) (budget + 1) w) (sets_out e)
              (starts h s budget (records xs) st (rw (← r) room_fits) budget_fits));
          same = sym (laws.unchanged xs);
        }

    pub stopped : judged h s st (records xs) ≡ Ok tt → {list : L} {st' : List ℤ} {c : Cursor} {w : Word}
        → Going h xs (length st) (went (boxed h) (budget + 1) start) list st' c → c.word ≡ Some w → Promised (Ok (record { word = w; state = c.state })) list st'
    stopped v {c = c} {w} g t =
        let e : way g.ks _ c ≡ (run_of h s budget (records xs) st).end = halts g (rw t refl) ∙ ap (went (boxed h) (budget + 1)) (sym (sets_out v)) in (
          rw (← t_word t) refl ∙ (λ i. answered (sym v i) (e i).cursor),
          (g.same ∙ ap (λ (w : Way ℤ). with_records xs w.list) e, ap (λ (w : Way ℤ). w.store) e),
        )
      where
        t_word : c.word ≡ Some w → Ok (record { word = w; state = c.state }) ≡ answered (Ok tt) c
        t_word q = rw q refl

    pub refused : {x : Refused} → judged h s st (records xs) ≡ Err x → Promised (Err x) xs st
    refused {x} e =
        let w : Way ℤ = set_out h s budget (records xs) st in
        let o : w ≡ way (records xs) st (halted (begun s budget (length (records xs))) Word.Spent)
        = ap (λ (v : Result ⊤ Refused). way (records xs) st (opened v (begun s budget (length (records xs))))) e in
        let q : went (boxed h) (budget + 1) w ≡ w = went_off h (budget + 1) w false (ap (λ (w : Way ℤ). goes w.cursor) o) tt in (
          ap (λ (v : Result ⊤ Refused). answered v (went (boxed h) (budget + 1) w).cursor) (sym e),
          (
            sym (ap (λ (v : Way ℤ). with_records xs v.list) (q ∙ o) ∙ laws.unchanged xs),
            sym (ap (λ (v : Way ℤ). v.store) (q ∙ o)),
          ),
        )
