-- What is found after each call, by the call's answer: a start, a file read. Assumes nothing.
use Rattle.runs.specs.declared.runs.Stop.{Stop}
use Rattle.std.specs.Prelude.{Result, Ok, Err}
use Prim.Native.Nat.{ℕ}
use mathlib.Core.Path.{◌≡◌, refl, sym, ap, ◌∙◌}
use mathlib.Core.List.{List}
use lib.IntN.{ℤ}
use Rattle.system.specs.declared.head.Head.{Head}
use Rattle.system.specs.declared.refusal.Refused.{Refused}
use Rattle.file.specs.Reading.{reads}
use Rattle.waiting.specs.Starts.{start_check, start_answer, start_store}
use Rattle.waiting.specs.declared.state.State.{State}
use Rattle.runs.specs.Runs.{run_of}
use Rattle.runs.specs.Lists.{listed, relisted}
use Rattle.runs.specs.Listings.{same_listed}
use Rattle.desk.specs.Report.{Found, refused, run_found, started_found, system_found, read_found, file_found}

-- the answer and the list's numbers are those of what is found
abbrev pub Leaves : Found → (xs : List ℕ) → Result Stop Refused → (ys : List ℕ) → Type 0
Leaves f xs a ys = (a ≡ f.answer) × (ys ≡ relisted xs f.kept)

moved : (f g : Found) → f ≡ g → (xs : List ℕ) (a : Result Stop Refused) (ys : List ℕ) → Leaves f xs a ys → Leaves g xs a ys
moved f g e xs a ys l = rw e at l

stays : (x : Refused) (xs : List ℕ) → Leaves (refused x xs) xs (Err x) xs
stays x xs = (refl, sym (same_listed xs))

module _ (b : ℕ) (h : Head) (cs st : List ℤ) (xs : List ℕ) (r : Result State Refused) (er : r ≡ start_answer (start_check h cs st)) where
  -- from the state that a start gives, or its refusal
  pub found_begun : (s : State) (st' : List ℤ) → st' ≡ start_store h cs st (start_check h cs st) → r ≡ Ok s → run_found b h s st' xs ≡ system_found b h cs st xs
  unfolding system_found
  found_begun s st' est e =
      ap (λ (z : List ℤ). run_found b h s z xs) est ∙ ap (λ (z : Result State Refused). started_found b h z (start_store h cs st (start_check h cs st)) xs) (sym e ∙ er)

  found_unbegun : (x : Refused) → r ≡ Err x → refused x xs ≡ system_found b h cs st xs
  unfolding system_found
  found_unbegun x e = ap (λ (z : Result State Refused). started_found b h z (start_store h cs st (start_check h cs st)) xs) (sym e ∙ er)

  pub after_start : (s : State) (st' : List ℤ) (a : Result Stop Refused) (ys : List ℕ) → st' ≡ start_store h cs st (start_check h cs st) → r ≡ Ok s
      → a ≡ (run_of h s b (listed xs) st').answer → ys ≡ relisted xs (run_of h s b (listed xs) st').end.list → Leaves (system_found b h cs st xs) xs a ys
  unfolding run_found
  after_start s st' a ys est e ea ey = moved (run_found b h s st' xs) (system_found b h cs st xs) (found_begun s st' est e) xs a ys (ea, ey)

  pub not_started : (x : Refused) → r ≡ Err x → Leaves (system_found b h cs st xs) xs (Err x) xs
  not_started x e = moved (refused x xs) (system_found b h cs st xs) (found_unbegun x e) xs (Err x) xs (stays x xs)

module _ (b : ℕ) (file : List ℕ) (cs st : List ℤ) (xs : List ℕ) (r : Result Head Refused) (er : r ≡ (reads file cs).0) where
  -- from the system that a file says, or its refusal
  pub found_read : (h : Head) (cs' : List ℤ) → cs' ≡ (reads file cs).1 → r ≡ Ok h → system_found b h cs' st xs ≡ file_found b file cs st xs
  unfolding file_found
  found_read h cs' ecs e = ap (λ (z : List ℤ). system_found b h z st xs) ecs ∙ ap (λ (z : Result Head Refused). read_found b z (reads file cs).1 st xs) (sym e ∙ er)

  pub found_unread : (x : Refused) → r ≡ Err x → refused x xs ≡ file_found b file cs st xs
  unfolding file_found
  found_unread x e = ap (λ (z : Result Head Refused). read_found b z (reads file cs).1 st xs) (sym e ∙ er)

  pub after_read : (h : Head) (cs' : List ℤ) (a : Result Stop Refused) (ys : List ℕ) → cs' ≡ (reads file cs).1 → r ≡ Ok h → Leaves (system_found b h cs' st xs) xs a ys
      → Leaves (file_found b file cs st xs) xs a ys
  after_read h cs' a ys ecs e l = moved (system_found b h cs' st xs) (file_found b file cs st xs) (found_read h cs' ecs e) xs a ys l

  pub not_read : (x : Refused) → r ≡ Err x → Leaves (file_found b file cs st xs) xs (Err x) xs
  not_read x e = moved (refused x xs) (file_found b file cs st xs) (found_unread x e) xs (Err x) xs (stays x xs)
