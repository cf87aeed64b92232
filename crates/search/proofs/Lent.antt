-- The search in lent memory runs in step with the search, and depth + 1 slots are enough. Assumes nothing.
use mathlib.Core.Path.{◌≡◌, refl, sym, ap, subst, ◌∙◌}
use mathlib.Core.List.{List, [], ◌∷◌}
use lib.ListN.{length, take, replicate, length-take, length-drop, length-set, length-replicate}
use lib.Seq.{take-suc-set}
use Prim.Native.Nat.{ℕ, zero, suc, ◌+◌, ◌-◌, ◌*◌, ◌≤◌, ◌<◌}
use native.Mathlib.Nat.{mul-le-mul_right}
use native.Mathlib.Omega.{arith}
use Rattle.whole.specs.Half.{Half, lower, upper}
use Rattle.search.specs.Lists.{Both}
use Rattle.search.specs.Machine.{go}
use Rattle.search.specs.Search.{Look, is_dropped, is_kept, is_cut, Search, States, state, entry, become, visit, turn, turn_top, due, searching, run}
use Rattle.search.specs.Counts.{Measured}
use Rattle.search.specs.Lent.{slot, stack, Slots, slots, Lent, memory, held, in_slot, given_up, lent_become, lent_top, lent, used, Stacked, SlotsEnough, Enough, Holds, LentRuns, HalvesWide}
use Rattle.search.proofs.Lists.{both_self}
use Rattle.search.proofs.Machine.{Simulates, drive_in_step, go_waits}
use Rattle.search.proofs.Search.{kept_go, Closed, visit_keeps, run_keeps}
use Rattle.search.proofs.Slots.{stack_length, slot_length, stack_below, stack_there}

pub stacked_length : {Node : Type 0} (left : Node → ℕ) (depth : ℕ) (w : List Node) → Stacked left depth w → length w ≤ suc depth
stacked_length left depth [] h = omega arith
stacked_length left depth (n ∷ rest) h = omega (arith, h.0)

module _ (S : Search) (left : S.Node → ℕ) (M : Measured S left) (depth : ℕ) where
  stacked_closed : Closed S (λ h s. Stacked left depth s.waiting)
  unfolding become
  stacked_closed h n s (is_dropped x) e u p = p.1
  stacked_closed h n s (is_kept m) e u p = p.1
  stacked_closed h n s (is_cut c) e u p = (omega (arith, p.0, M n c e lower), (omega (arith, p.0, M n c e upper), p.1))

  pub visit_stacks : (s : States S) → Stacked left depth s.waiting → Stacked left depth (visit S s).waiting
  visit_stacks s h = visit_keeps S (λ h s. Stacked left depth s.waiting) stacked_closed [] s h

pub slots_enough : SlotsEnough
slots_enough S left M depth b room s h =
    let p : Stacked left depth (run S b room s).state.waiting = run_keeps S (λ h s. Stacked left depth s.waiting) (stacked_closed S left M depth) b room [] s h in
    (p, stacked_length left depth (run S b room s).state.waiting p)

-- Equal states have the same visit due.
pub same_notes : (S : Search) (s t : States S) → s ≡ t → Both (λ y z. y ≡ z) (due S s.waiting) (due S t.waiting)
same_notes S s t e = rw e (both_self (λ y z. y ≡ z) (λ y. refl) (due S t.waiting))

module _ {A : Type 0} (K : Slots A) where
  -- The state of the search that memory with no free place holds in its slots below c.
  abbrev pub state_of : ℕ → Lent A K.Place → States (slots K)
  state_of c u = state (stack K.width c u.store) u.list u.visits u.dropped

  -- The store of `g`, with the list and the counts of `t`.
  abbrev pub joined : Lent A K.Place → States (slots K) → Lent A K.Place
  joined g t = memory g.store t.kept g.waiting g.kept t.visits t.dropped

  -- The turn by the counts and the slots alone, as code has it.
  pub lent_turn : (room : ℕ) (f : Lent A K.Place) → f.kept ≤ length f.list → (lent K).turn room f ≡ turn_top (slots K) (room - f.kept) (stack K.width f.waiting f.store)
  unfolding turn
  lent_turn room f h = let n : length (take f.kept f.list) ≡ f.kept = simp length-take (omega arith) in rw n

  -- The list has p places, and this is in use.
  pub record Uses (p : ℕ) (f u : Lent A K.Place) : Type 0 where
    pub in_use : used f ≡ u
    pub places : length f.list ≡ p
    pub fits : f.kept ≤ p

  -- A visit makes of the list and the counts what a visit of the search makes of them.
  pub uses_top : (p room c : ℕ) (f : Lent A K.Place) → room ≤ p → length f.list ≡ p → f.kept ≤ p → turn (slots K) room (state_of c (used f)) ≡ go
      → Uses p (lent_top K c f) (joined (lent_top K c (used f)) (visit (slots K) (state_of c (used f))))
  unfolding lent_top stack visit turn turn_top lent_become become
  uses_top p room zero f h l k e = absurd (go_waits e refl)
  uses_top p room (suc i) f h l k e = from (K.look top) refl
    where
      top : List A
      top = slot K.width i f.store

      from : (look : Look K.Drop K.Cut) → K.look top ≡ look → Uses p (lent_become K i f look) (joined (lent_become K i (used f) look) (become (slots K) top (state_of i (used f)) look))
      from (is_dropped x) q = record { in_use = refl; places = l; fits = k }
      from (is_kept m) q =
          let n : length (take f.kept f.list) ≡ f.kept = simp length-take (omega arith) in
          let b : f.kept < length f.list = omega (arith, kept_go (room - length (take f.kept f.list)) m (K.look top) q e) in
          record { in_use = rw (take-suc-set f.list f.kept (entry (K.place top) m (suc f.visits)) b); places = simp length-set l; fits = omega arith }
      from (is_cut c) q = record { in_use = refl; places = l; fits = k }

module _ {A : Type 0} (K : Slots A) (left : List A → ℕ) (W : HalvesWide K) (M : Measured (slots K) left) (depth : ℕ) where
  -- A visit makes of the slots what a visit of the search makes of the waiting cells, and the store stays as long as it is.
  stack_top : (c : ℕ) (f : Lent A K.Place) → f.waiting ≡ c → Stacked left depth (stack K.width c f.store) → suc depth * K.width ≤ length f.store
      → (stack K.width (lent_top K c f).waiting (lent_top K c f).store ≡ (visit (slots K) (state_of K c (used f))).waiting) × (length (lent_top K c f).store ≡ length f.store)
  unfolding lent_top stack visit lent_become become
  stack_top zero f z st sf = (rw z, refl)
  stack_top (suc p) f z st sf =
      let high : left (slot K.width p f.store) + p ≤ depth = omega (arith, st.0, stack_length K.width p f.store) in
      let low : suc p ≤ suc depth = omega arith in
      from high (omega (arith, mul-le-mul_right K.width low)) (K.look (slot K.width p f.store)) refl
    where
      w : ℕ
      w = K.width

      top : List A
      top = slot w p f.store

      blank : suc p * w ≤ length f.store → (stack w p (given_up K p f.store) ≡ stack w p f.store) × (length (given_up K p f.store) ≡ length f.store)
      blank below =
          let e : length (replicate w K.blank) ≡ w = length-replicate w K.blank in
          (stack_below w p (replicate w K.blank) f.store e below, slot_length w p (replicate w K.blank) f.store e below)

      half_fits : suc p * w ≤ length f.store → (h : Half) (c : K.Cut) → length (K.half h c top) ≡ w
      half_fits below h c = W h c top (simp (length-take, length-drop) (omega arith))

      from : left top + p ≤ depth → suc p * w ≤ length f.store → (look : Look K.Drop K.Cut) → K.look top ≡ look
          → (stack w (lent_become K p f look).waiting (lent_become K p f look).store ≡ (become (slots K) top (state_of K p (used f)) look).waiting)
          × (length (lent_become K p f look).store ≡ length f.store)
      from high below (is_dropped x) e = blank below
      from high below (is_kept m) e = blank below
      from high below (is_cut c) e =
          let more : suc (suc p) ≤ suc depth = omega (arith, M top c e lower) in
          let same : length (in_slot K p (K.half upper c top) f.store) ≡ length f.store = slot_length w p (K.half upper c top) f.store (half_fits below upper c) below in
          let above : suc (suc p) * w ≤ length (in_slot K p (K.half upper c top) f.store) = omega (arith, mul-le-mul_right w more) in
          let lo : length (K.half lower c top) ≡ w = half_fits below lower c in (
            stack_there w (suc p) (K.half lower c top) (in_slot K p (K.half upper c top) f.store) lo above
                ∙ ap (λ (l : List (List A)). K.half lower c top ∷ l) (stack_there w p (K.half upper c top) f.store (half_fits below upper c) below),
            slot_length w (suc p) (K.half lower c top) (in_slot K p (K.half upper c top) f.store) lo above ∙ same,
          )

  module _ (room : ℕ) where
    pub lent_simulates : Simulates (lent K) (searching (slots K)) room (Holds K left depth room) (λ y z. y ≡ z)
    lent_simulates = record {
      turns = λ f s r. ap (turn (slots K) room) r.1;
      visits = λ f s r t. subst (λ (x : States (slots K)). Holds K left depth room ((lent K).visit f) (visit (slots K) x)) r.1 (holds f r.0 (ap (turn (slots K) room) r.1 ∙ t));
      notes = λ f s r. same_notes (slots K) (held K f) s r.1;
    }
      where
        holds : (f : Lent A K.Place) → Enough K left depth room f → turn (slots K) room (held K f) ≡ go → Holds K left depth room ((lent K).visit f) (visit (slots K) (held K f))
        holds f h t =
            let u : Uses K room ((lent K).visit f) (joined K (lent_top K f.waiting (used f)) (visit (slots K) (held K f)))
            = uses_top K room room f.waiting f (omega arith) (sym h.room_is) (omega (arith, h.kept_fits, h.room_is)) t in
            let s = stack_top f.waiting f refl h.stacked h.store_fits in (
              record {
                stacked = rw s.0 (visit_stacks (slots K) left M depth (held K f) h.stacked);
                store_fits = rw s.1 h.store_fits;
                kept_fits = omega (arith, u.places, u.fits);
                room_is = sym u.places;
              },
              λ i. state (s.0 i) (u.in_use i).list (u.in_use i).visits (u.in_use i).dropped,
            )

    -- What a loop's invariant needs: enough before a visit that may be made is enough after it.
    pub enough_visit : (f : Lent A K.Place) → Enough K left depth room f → (lent K).turn room f ≡ go → Enough K left depth room ((lent K).visit f)
    enough_visit f h t = (lent_simulates.visits f (held K f) (h, refl) t).0

pub lent_runs : LentRuns
lent_runs A K left W M depth room b f h = drive_in_step (lent_simulates K left W M depth room) b f (held K f) (h, refl)
