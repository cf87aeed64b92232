-- Laws of slots in a flat store: what is written stands there, and the cells in the slots below are settled by the numbers below. Assumes nothing.
use mathlib.Core.Path.{◌≡◌, refl, sym, ap, subst, ◌∙◌}
use mathlib.Core.List.{List, ◌∷◌, ◌++◌, append_cancel_left}
use lib.ListN.{length, take, drop, length-append, length-take, length-drop}
use lib.Seq.{take_at, drop_at, take-take, take-add}
use Prim.Native.Nat.{ℕ, zero, suc, ◌+◌, ◌*◌, ◌≤◌}
use native.Mathlib.Nat.{suc-mul}
use native.Mathlib.Omega.{arith}
use Rattle.search.specs.Lent.{put, slot, stack}

module _ {A : Type 0} (at : ℕ) (x st : List A) (fits : at + length x ≤ length st) where
  take_length_at : length (take at st) ≡ at
  take_length_at = simp length-take (omega arith)

  pub put_length : length (put at x st) ≡ length st
  put_length = simp (length-append, length-take, length-drop) (omega arith)

  pub take_put : take at (put at x st) ≡ take at st
  take_put = take_at (take at st) (x ++ drop (at + length x) st) at take_length_at

  pub put_there : take (length x) (drop at (put at x st)) ≡ x
  put_there = rw (drop_at (take at st) (x ++ drop (at + length x) st) at take_length_at) (take_at x (drop (at + length x) st) (length x) refl)

module _ {A : Type 0} (w : ℕ) where
  pub stack_suc : (c : ℕ) (st : List A) → stack w (suc c) st ≡ slot w c st ∷ stack w c st
  unfolding stack
  stack_suc c st = refl

  pub stack_length : (c : ℕ) (st : List A) → length (stack w c st) ≡ c
  unfolding stack
  stack_length zero st = refl
  stack_length (suc c) st = ap suc (stack_length c st)

  -- Equal numbers below slot c + 1 are equal numbers below slot c, and in it.
  pub below_take : (c : ℕ) (st st' : List A) → take (suc c * w) st ≡ take (suc c * w) st' → take (c * w) st ≡ take (c * w) st'
  below_take c st st' h =
      let le : c * w ≤ suc c * w = omega arith in
      sym (take-take (c * w) (suc c * w) st le) ∙ ap (take (c * w)) h ∙ take-take (c * w) (suc c * w) st' le

  pub slot_take : (c : ℕ) (st st' : List A) → take (suc c * w) st ≡ take (suc c * w) st' → slot w c st ≡ slot w c st'
  slot_take c st st' h =
      append_cancel_left (take (c * w) st) (slot w c st) (slot w c st')
      (sym (take-add (c * w) w st) ∙ rw suc-mul at h ∙ take-add (c * w) w st' ∙ ap (λ (p : List A). p ++ slot w c st') (sym (below_take c st st' h)))

  -- What is written above slot c changes no cell below it.
  pub stack_frame : (c : ℕ) (st st' : List A) → take (c * w) st ≡ take (c * w) st' → stack w c st ≡ stack w c st'
  unfolding stack
  stack_frame zero st st' h = refl
  stack_frame (suc c) st st' h = cc (slot_take c st st' h, stack_frame c st st' (below_take c st st' h))

-- A slot written: the cells below stay, the slot holds what was written.
module _ {A : Type 0} (w c : ℕ) (x st : List A) (e : length x ≡ w) (fits : suc c * w ≤ length st) where
  room_there : c * w + length x ≤ length st
  room_there = omega arith

  pub slot_length : length (put (c * w) x st) ≡ length st
  slot_length = put_length (c * w) x st room_there

  pub slot_below : take (c * w) (put (c * w) x st) ≡ take (c * w) st
  slot_below = take_put (c * w) x st room_there

  pub slot_there : slot w c (put (c * w) x st) ≡ x
  slot_there = subst (λ (i : ℕ). take i (drop (c * w) (put (c * w) x st)) ≡ x) e (put_there (c * w) x st room_there)

  pub stack_below : stack w c (put (c * w) x st) ≡ stack w c st
  stack_below = stack_frame w c (put (c * w) x st) st slot_below

  pub stack_there : stack w (suc c) (put (c * w) x st) ≡ x ∷ stack w c st
  stack_there = stack_suc w c (put (c * w) x st) ∙ cc (slot_there, stack_below)
