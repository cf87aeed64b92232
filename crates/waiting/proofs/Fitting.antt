-- The slot of a start is fit, and so are both halves of a fit slot, cut where it may be cut: exact numbers within M, cuts within the depths. Assumes nothing.
use mathlib.Core.Path.{◌≡◌, sym, subst}
use mathlib.Core.Bool.{true}
use mathlib.Core.List.{List}
use Prim.Native.Nat.{ℕ, ◌-◌, ◌^◌, ◌≤◌, ◌<◌}
use native.Mathlib.Omega.{arith}
use native.Mathlib.Nat as NatL
use lib.Dec.{T, leb→le}
use lib.IntN.{ℤ, pos, nat_abs}
use lib.ListN.{length, get_or-eq_default}
use lib.Pow.{pow_pos}
use Rattle.whole.specs.Half.{Half, lower, upper}
use Rattle.whole.specs.Size.{Below}
use Rattle.whole.proofs.Parts.{by_lt}
use Rattle.bernstein.specs.Three
use Rattle.bernstein.specs.Three.{first, second, third, ◌!◌}
use Rattle.bernstein.specs.Numbers.{Index, Patch, Box, Span, half_span, half_box}
use Rattle.bernstein.specs.Frames.{Lawful}
use Rattle.bernstein.proofs.Nested.{replaced}
use Rattle.system.specs.declared.head.Head.{Head}
use Rattle.system.specs.Heads.{depths, frame, places, Limits}
use Rattle.system.proofs.Heads.{lawful}
use Rattle.slots.specs.Slots.{at, box_in, numbers, polynomial, in_turn, half_slot, unit_slot}
use Rattle.slots.specs.Rules.{every, within, limit, can_cut}
use Rattle.slots.proofs.Builds.{half_slot_length, unit_slot_length, in_turn_filled, number_of}
use Rattle.slots.proofs.Decided.{every_at}
use Rattle.slots.proofs.Exactness.{unit_exact, half_exact}
use Rattle.waiting.specs.Fits.{Fit}

-- ---- numbers within a bound, polynomial by polynomial; past the end of xs the numbers are 0
pub every_within : (h : Head) → Lawful (frame h) → (xs : List ℤ) (t : ℕ) → t < h.m → (b : ℕ) → every (within b) xs ≡ true
    → (j : Index) → (frame h).Inside j → nat_abs (polynomial h xs t j) ≤ b
every_within h L xs t l b e = number_of h L xs t l (λ z. nat_abs z ≤ b) (λ i k. by_lt i (length xs) (there i) (past i))
  where
    there : (i : ℕ) → i < length xs → nat_abs (at xs i) ≤ b
    there i m = leb→le (nat_abs (at xs i)) b (subst T (sym (every_at (within b) xs e i m)) tt)

    past : (i : ℕ) → length xs ≤ i → nat_abs (at xs i) ≤ b
    past i m = rw (get_or-eq_default xs (pos 0) m) (omega arith)

-- every number is within M
abbrev pub AllStored : Head → Patch → Type 0
AllStored h p = (j : Index) → (frame h).Inside j → Below (2 ^ 62) (p j)

in_turn_stored : (h : Head) → Lawful (frame h) → (p : ℕ → Patch) (t : ℕ) → t < h.m → AllStored h (p t) → AllStored h (polynomial h (in_turn h p) t)
in_turn_stored h L p t l s j u = subst (Below (2 ^ 62)) (sym (in_turn_filled h L p t l j u)) (s j u)

-- ---- a span within its depth
half_span_fits : (e : Half) (i : Span) (g : ℕ) → i.cuts < g → i.position < 2 ^ i.cuts → ((half_span e i).cuts ≤ g) × ((half_span e i).position < 2 ^ (half_span e i).cuts)
half_span_fits lower i g c p = (c, omega (arith, NatL.pow-succ' 2 i.cuts))
half_span_fits upper i g c p = (c, omega (arith, NatL.pow-succ' 2 i.cuts))

-- ---- the start
pub start_stored : (h : Head) → Limits h → (cs : List ℤ) → ((i : ℕ) → i < places h → nat_abs (at cs i) ≤ 1000000000)
    → (t : ℕ) → t < h.m → AllStored h ((frame h).start (polynomial h cs t))
start_stored h m cs small t l = (lawful h m).start_fits (polynomial h cs t) (number_of h (lawful h m) cs t l (λ z. nat_abs z ≤ 1000000000) small)

pub unit_fit : (h : Head) → Limits h → (cs : List ℤ) → ((i : ℕ) → i < places h → nat_abs (at cs i) ≤ 1000000000) → Fit h cs (unit_slot h cs)
unfolding unit_slot
unit_fit h m cs small = record {
  long = unit_slot_length h cs;
  exact = unit_exact h (lawful h m) cs;
  stored = λ t l. in_turn_stored h (lawful h m) (λ t. (frame h).start (polynomial h cs t)) t l (start_stored h m cs small t l);
  cuts_high = elim [ first ↦ omega arith | second ↦ omega arith | third ↦ omega arith ];
  position_high = elim [ first ↦ omega arith | second ↦ omega arith | third ↦ omega arith ];
}

-- ---- the halves
-- the box of a half is within the depths
pub half_spans : (h : Head) (e : Half) (d : Three.Direction) (b : Box) → (b ! d).cuts < depths h ! d
    → ((r : Three.Direction) → ((b ! r).cuts ≤ depths h ! r) × ((b ! r).position < 2 ^ (b ! r).cuts))
    → (r : Three.Direction) → ((half_box e d b ! r).cuts ≤ depths h ! r) × ((half_box e d b ! r).position < 2 ^ (half_box e d b ! r).cuts)
half_spans h e d b c f =
    replaced (λ r i. (i.cuts ≤ depths h ! r) × (i.position < 2 ^ i.cuts)) d (half_span e (b ! d)) b (half_span_fits e (b ! d) (depths h ! d) c (f d).1) f

-- and its numbers are within M
pub half_stored : (h : Head) → Limits h → (l : List ℤ) (e : Half) (d : Three.Direction) → can_cut h d l ≡ true
    → (t : ℕ) → t < h.m → AllStored h ((frame h).half e d (polynomial h (numbers l) t))
half_stored h m l e d c t k = (lawful h m).cut_fits e d (polynomial h (numbers l) t)
    (λ j u. record { below = omega (arith, pow_pos (62 - (frame h).degree d), every_within h (lawful h m) (numbers l) t k (limit ((frame h).degree d)) c j u) })

-- in a direction below its depth in which the box can be cut
pub half_fit : (h : Head) → Limits h → (cs l : List ℤ) → Fit h cs l → (d : Three.Direction) → (box_in l ! d).cuts < depths h ! d → can_cut h d l ≡ true
    → (e : Half) → Fit h cs (half_slot h e d l)
unfolding half_slot
half_fit h m cs l f d below can e =
    let spans = half_spans h e d (box_in l) below (λ r. (f.cuts_high r, f.position_high r)) in
    record {
      long = half_slot_length h e d l;
      exact = half_exact h (lawful h m) (polynomial h cs) l f.exact e d;
      stored = λ t k. in_turn_stored h (lawful h m) (λ t. (frame h).half e d (polynomial h (numbers l) t)) t k (half_stored h m l e d can t k);
      cuts_high = λ r. (spans r).0;
      position_high = λ r. (spans r).1;
    }
