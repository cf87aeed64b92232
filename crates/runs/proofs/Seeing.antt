-- One visit: what `visit` leaves is what the definition says, by what is judged of the state. Assumes nothing.
use Rattle.std.specs.Prelude.{Result, Ok, Err, ⊤}
use Prim.Native.Nat.{ℕ, ◌^◌, ◌<◌}
use mathlib.Core.Path.{◌≡◌, refl, sym, ◌∙◌, ap, subst}
use mathlib.Core.List.{List}
use native.Mathlib.Omega.{arith}
use lib.IntN.{ℤ}
use lib.ListN.{length}
use Rattle.system.specs.declared.head.Head.{Head}
use Rattle.system.specs.declared.refusal.Refused.{Refused}
use Rattle.boxes.specs.declared.visit.Visit.{Visit}
use Rattle.boxes.specs.declared.visit.Word.{Word}
use Rattle.waiting.specs.declared.cursor.Kept.{Kept}
use Rattle.waiting.specs.declared.cursor.Cursor.{Cursor}
use Rattle.waiting.specs.declared.state.State.{State}
use Rattle.waiting.specs.Cells.{boxed}
use Rattle.waiting.specs.States.{judged}
use Rattle.waiting.specs.Steps.{Ready, put_in, begun, halted, due, next, seen}
use Rattle.waiting.proofs.Keeping.{judged_ready}
use Rattle.runs.specs.declared.visits.Answer.{Answer}
use Rattle.runs.specs.Lists.{Listing}
use Rattle.runs.specs.Visits.{told, one, visit_of}

module _ {L : Type 0} {records : L → List Kept} {with_records : L → List Kept → L} (laws : Listing records with_records)
    (h : Head) (s : State) (xs : L) (st : List ℤ) where
  -- what `visit` promises
  abbrev pub Promised : Result Answer Refused → L → List ℤ → Type 0
  Promised r list' st' =
      (r ≡ (visit_of h s (records xs) st).answer)
      × ((list' ≡ with_records xs (visit_of h s (records xs) st).end.list) × (st' ≡ (visit_of h s (records xs) st).end.store))

  visits : {v : Result ⊤ Refused} → judged h s st (records xs) ≡ v → visit_of h s (records xs) st ≡ one h (records xs) st (begun s 1 (length (records xs))) v
  visits e = ap (one h (records xs) st (begun s 1 (length (records xs)))) e

  pub refused : {x : Refused} → judged h s st (records xs) ≡ Err x → Promised (Err x) xs st
  refused e = rw (visits e) (refl, (sym (laws.unchanged xs), refl))

  -- a refused visit ends as a refused run does: with its cursor halted
  pub halts : {x : Refused} → judged h s st (records xs) ≡ Err x → (visit_of h s (records xs) st).end.cursor ≡ halted (begun s 1 (length (records xs))) Word.Spent
  halts e = rw (visits e) refl

  module _ {n : ℕ} {c : Cursor} (r : n ≡ length (records xs)) (b : c ≡ begun s 1 n) (v : judged h s st (records xs) ≡ Ok tt) where
    begins : c ≡ begun s 1 (length (records xs))
    begins = b ∙ ap (begun s 1) r

    pub may_see : n < 2 ^ 64 → Ready h st c
    may_see room_fits = subst (Ready h st) (sym begins) (judged_ready h s st (records xs) 1 (rw (← r) room_fits) (omega arith) v)

    pub saw : {list' : L} {st' : List ℤ} {d : Cursor} {seen_there : Result Visit Word} → d ≡ (next (boxed h) st c).cursor → seen_there ≡ seen (boxed h) st c (due (boxed h) st c)
        → st' ≡ (next (boxed h) st c).store → list' ≡ with_records xs (put_in (records xs) d.put) → Promised (Ok (told d.state seen_there)) list' st'
    saw e k f p =
        rw (visits v) (
          (λ i. Ok (told (e i).state (k i))) ∙ (λ i. Ok (told (next (boxed h) st (begins i)).cursor.state (seen (boxed h) st (begins i) (due (boxed h) st (begins i))))),
          (
            p ∙ (λ i. with_records xs (put_in (records xs) (e i).put)) ∙ (λ i. with_records xs (put_in (records xs) (next (boxed h) st (begins i)).cursor.put)),
            f ∙ (λ i. (next (boxed h) st (begins i)).store),
          ),
        )
