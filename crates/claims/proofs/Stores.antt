-- What calls leave alone: the slots above the waiting ones are zero, and what stands behind all slots, past the kept count, or was kept before stays as it was.
-- By induction over the visits of a call, and over the calls. Assumes nothing.
use Rattle.std.specs.Prelude.{Ok}
use mathlib.Core.Path.{◌≡◌, refl, sym, ap, subst, ◌∙◌}
use mathlib.Core.List.{List, ◌++◌, append_assoc}
use Prim.Native.Nat.{ℕ, zero, suc, ◌+◌, ◌*◌, ◌-◌, ◌≤◌}
use native.Mathlib.Omega.{arith}
use native.Mathlib.Nat.{mul-le-mul_right}
use lib.IntN.{ℤ, pos}
use lib.ListN.{length, take, drop, replicate, length-replicate, length-take, replicate-append-replicate}
use lib.Seq.{drop_at, drop-drop, drop-set-lt, take-set-le}
use Rattle.whole.specs.Half.{Half, lower, upper}
use Rattle.bernstein.specs.Numbers.{Box}
use Rattle.system.specs.declared.head.Head.{Head}
use Rattle.boxes.specs.declared.half.Direction.{Direction}
use Rattle.whole.specs.declared.Sign.{Sign}
use Rattle.boxes.specs.Boxes.{direction}
use Rattle.system.specs.Heads.{depth, width, Limits}
use Rattle.slots.specs.Slots.{half_slot, unit_slot}
use Rattle.slots.proofs.Builds.{half_slot_length, unit_slot_length}
use Rattle.search.specs.Machine.{go}
use Rattle.search.specs.Search.{Look, is_dropped, is_kept, is_cut, Entry}
use Rattle.search.specs.Lent.{put, slot, stack, in_slot, given_up, lent, lent_become, lent_top, at_start, continued}
use Rattle.search.proofs.Machine.{drive_cases}
use Rattle.search.proofs.Lent.{stacked_length}
use Rattle.search.proofs.Slots.{stack_length, put_length}
use Rattle.waiting.specs.Cells.{cells, left}
use Rattle.waiting.specs.States.{needed}
use Rattle.waiting.specs.Starts.{start_check, fresh_store}
use Rattle.waiting.proofs.Keeping.{KeptIn, visit_in}
use Rattle.waiting.proofs.Starting.{start_passes}
use Rattle.claims.specs.Calls.{Memory, called, Begun}
use Rattle.claims.specs.Demands.{ListStays, StoreBeyond, ListBeyond}
use Rattle.claims.proofs.Calls.{good}

-- ---- numbers written over a store
module _ (at : ℕ) (x st : List ℤ) (fits : at + length x ≤ length st) where
  drop_put : drop at (put at x st) ≡ x ++ drop (at + length x) st
  drop_put = drop_at (take at st) (x ++ drop (at + length x) st) at (simp length-take (omega arith))

  drop_past : drop (at + length x) (put at x st) ≡ drop (at + length x) st
  drop_past = sym (drop-drop (length x) at (put at x st)) ∙ ap (drop (length x)) drop_put ∙ drop_at x (drop (at + length x) st) (length x) refl

abbrev zeros : ℕ → List ℤ
zeros n = replicate n (pos 0)

module _ (h : Head) where
  -- R stands behind all slots
  abbrev Beyond : List ℤ → (waiting : ℕ) (store : List ℤ) → Type 0
  Beyond R c st = drop (c * width h) st ≡ zeros ((suc (depth h) - c) * width h) ++ R

  -- the zeros of k slots, where k is one more than n
  more : (k n : ℕ) → k ≡ suc n → zeros (k * width h) ≡ zeros (width h) ++ zeros (n * width h)
  more k n e = let f : k * width h ≡ width h + n * width h = rw e (omega arith) in ap zeros f ∙ sym (replicate-append-replicate (width h) (n * width h) (pos 0))

  module _ (R : List ℤ) (p : ℕ) (st : List ℤ) (long : suc (depth h) * width h ≤ length st) (b : Beyond R (suc p) st) where
    inside : (n : ℕ) → n ≤ suc (depth h) → n * width h ≤ length st
    inside n l = omega (arith, mul-le-mul_right (width h) l, long)

    -- where slot c ends
    ends : (c : ℕ) (x : List ℤ) → length x ≡ width h → c * width h + length x ≡ suc c * width h
    ends c x e = omega (arith, e)

    given : p ≤ depth h → Beyond R p (given_up (cells h) p st)
    given l =
        let at = ends p (zeros (width h)) (length-replicate (width h) (pos 0)) in
        let n = suc (depth h) - suc p in
        drop_put (p * width h) (zeros (width h)) st (omega (arith, at, inside (suc p) (omega arith)))
        ∙ ap (λ (k : ℕ). zeros (width h) ++ drop k st) at ∙ ap (λ (y : List ℤ). zeros (width h) ++ y) b
        ∙ sym (append_assoc (zeros (width h)) (zeros (n * width h)) R)
        ∙ ap (λ (y : List ℤ). y ++ R) (sym (more (suc (depth h) - p) n (omega arith)))

    divided : suc p ≤ depth h → (lo up : List ℤ) → length lo ≡ width h → length up ≡ width h → Beyond R (suc (suc p)) (in_slot (cells h) (suc p) lo (in_slot (cells h) p up st))
    divided l lo up e f =
        let under : List ℤ = in_slot (cells h) p up st in
        let first : p * width h + length up ≤ length st = omega (arith, ends p up f, inside (suc p) (omega arith)) in
        let second : suc p * width h + length lo ≤ length under = omega (arith, ends (suc p) lo e, inside (suc (suc p)) (omega arith), put_length (p * width h) up st first) in
        let n = suc (depth h) - suc (suc p) in
        let w : suc (suc p) * width h ≡ suc p * width h + width h = omega arith in
        ap (λ (k : ℕ). drop k (in_slot (cells h) (suc p) lo under)) (sym (ends (suc p) lo e)) ∙ drop_past (suc p * width h) lo under second
        ∙ ap (λ (k : ℕ). drop k under) (ends (suc p) lo e ∙ w) ∙ sym (drop-drop (width h) (suc p * width h) under)
        ∙ ap (drop (width h)) (ap (λ (k : ℕ). drop k under) (sym (ends p up f)) ∙ drop_past (p * width h) up st first ∙ ap (λ (k : ℕ). drop k st) (ends p up f) ∙ b
        ∙ ap (λ (y : List ℤ). y ++ R) (more (suc (depth h) - suc p) n (omega arith)) ∙ append_assoc (zeros (width h)) (zeros (n * width h)) R)
        ∙ drop_at (zeros (width h)) (zeros (n * width h) ++ R) (width h) (length-replicate (width h) (pos 0))

  -- ---- one visit, one call
  -- from the memory f on: the store beyond the waiting slots, and the list
  pub record Left (R : List ℤ) (f g : Memory) : Type 0 where
    pub beyond : Beyond R g.waiting g.store
    pub stays : ListStays f g
    pub rises : f.kept ≤ g.kept

  module _ (R : List ℤ) (f : Memory) where
    become_leaves : (p : ℕ) (g : Memory) (o : Look (ℕ × Sign) Direction) → g.waiting ≡ suc p → (lent_become (cells h) p g o).waiting ≤ suc (depth h) → suc p ≤ suc (depth h)
        → suc (depth h) * width h ≤ length g.store → Left R f g → Left R f (lent_become (cells h) p g o)
    unfolding lent_become
    become_leaves p g (is_dropped d) e w k long x = record { beyond = given R p g.store long (subst (λ (c : ℕ). Beyond R c g.store) e x.beyond) (omega arith); stays = record { past = x.stays.past; before = x.stays.before }; rises = x.rises }
    become_leaves p g (is_kept mark) e w k long x = record {
      beyond = given R p g.store long (subst (λ (c : ℕ). Beyond R c g.store) e x.beyond) (omega arith);
      stays = record {
        past = drop-set-lt (suc g.kept) g.list g.kept _ (omega arith) ∙ next g.list ∙ ap (drop 1) x.stays.past ∙ sym (next f.list);
        before = take-set-le f.kept g.list g.kept _ x.rises ∙ x.stays.before;
      };
      rises = omega (arith, x.rises);
    }
      where
        next : (l : List (Entry Box)) → drop (suc g.kept) l ≡ drop 1 (drop g.kept l)
        next l = let n : suc g.kept ≡ g.kept + 1 = omega arith in ap (λ (k : ℕ). drop k l) n ∙ sym (drop-drop 1 g.kept l)
    become_leaves p g (is_cut r) e w k long x = record {
      beyond = divided R p g.store long (subst (λ (c : ℕ). Beyond R c g.store) e x.beyond) (omega arith) (half lower) (half upper)
          (half_slot_length h lower (direction r) (slot (width h) p g.store)) (half_slot_length h upper (direction r) (slot (width h) p g.store));
      stays = record { past = x.stays.past; before = x.stays.before };
      rises = x.rises;
    }
      where
        half : Half → List ℤ
        half e = half_slot h e (direction r) (slot (width h) p g.store)

    module _ (m : Limits h) where
      waiting_high : (g : Memory) → KeptIn h g → g.waiting ≤ suc (depth h)
      waiting_high g k = omega (arith, stacked_length (left h) (depth h) (stack (width h) g.waiting g.store) k.enough.stacked, stack_length (width h) g.waiting g.store)

      visit_leaves : (g : Memory) → KeptIn h g → (lent (cells h)).turn (length g.list) g ≡ go → Left R f g → Left R f ((lent (cells h)).visit g)
      unfolding lent_top
      visit_leaves g k t x = from g.waiting refl
        where
          from : (c : ℕ) → g.waiting ≡ c → Left R f (lent_top (cells h) c g)
          from zero e = x
          from (suc p) e =
              let w : (lent_top (cells h) (suc p) g).waiting ≤ suc (depth h)
              = subst (λ (c : ℕ). (lent_top (cells h) c g).waiting ≤ suc (depth h)) e (waiting_high ((lent (cells h)).visit g) (visit_in h m g k t).1) in
              become_leaves p g ((cells h).look (slot (width h) p g.store)) e w (omega (arith, e, waiting_high g k)) k.enough.store_fits x

      pub call_leaves : (budget : ℕ) (g : Memory) → KeptIn h g → Left R f g → Left R f (called h budget g).state
      call_leaves budget g k x = drive_cases (lent (cells h)) (length g.list) (λ b s r l. KeptIn h s → length s.list ≡ length g.list → Left R f s → Left R f r.state) (record {
        finishes = λ b s e k n x. x;
        spends = λ s e k n x. x;
        fills = λ b s e k n x. x;
        goes = λ b s r l e ih k n x.
            let t : (lent (cells h)).turn (length s.list) s ≡ go = rw n e in
            let v = visit_in h m s k t in
            ih v.1 (v.0 ∙ n) (visit_leaves s k t x);
      }) budget g k refl x

-- ---- from a start on
module _ (h : Head) (cs st : List ℤ) (e : start_check h cs st ≡ Ok tt) where
  abbrev R : List ℤ
  R = drop (needed h) st

  kept_in : (f : Memory) → Begun h cs st f → KeptIn h f
  kept_in f b = let g = good h cs st e f b in record { enough = g.enough; stands = g.also.stands }

  -- a call, where the store is as it should be
  leaves : (f : Memory) → Begun h cs st f → Beyond h R f.waiting f.store → (budget : ℕ) → Left h R f (called h budget f).state
  leaves f b x budget =
      call_leaves h R f (start_passes h cs st e).limits budget f (kept_in f b) (record { beyond = x; stays = record { past = refl; before = refl }; rises = omega arith })

  started : Beyond h R 1 (fresh_store h cs st)
  unfolding fresh_store
  started =
      let n : suc (depth h) - 1 ≡ depth h = omega arith in
      drop_at (unit_slot h cs) (zeros (depth h * width h) ++ R) (1 * width h) (omega (arith, unit_slot_length h cs)) ∙ ap (λ (k : ℕ). zeros (k * width h) ++ R) (sym n)

  beyond : (f : Memory) → Begun h cs st f → Beyond h R f.waiting f.store
  beyond _ (at_start list) = started
  beyond _ (continued {f} b budget next u l) =
      let x = (leaves f b (beyond f b) budget).beyond in
      subst (λ (w : Memory). Beyond h R w.waiting w.store) u x

pub store_beyond : StoreBeyond
store_beyond h cs st e f b budget = (leaves h cs st e f b (beyond h cs st e f b) budget).beyond

pub list_beyond : ListBeyond
list_beyond h cs st e f b budget = (leaves h cs st e f b (beyond h cs st e f b) budget).stays
