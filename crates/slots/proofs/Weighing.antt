-- The first stage of a start: the table of weights by one computed test, the numbers of a slot written anew, and the coefficients times their weights. Assumes nothing.
use mathlib.Core.Path.{◌≡◌, sym, ◌∙◌, ap, ap₂}
use mathlib.Core.List.{List, [], ◌∷◌, ◌++◌}
use Prim.Native.Nat.{ℕ, suc, ◌+◌, ◌*◌, ◌-◌, ◌%◌, ◌^◌, ◌≤◌, ◌<◌}
use native.Mathlib.Omega.{arith}
use native.Mathlib.Nat as NatL
use lib.Dec.{T, eqb, eqb→eq}
use lib.IntN.{ℤ, pos, nat_abs, ◌*ℤ◌}
use lib.ListN.{length, get_or, set, take, length-append, length-set, get_or-append}
use lib.Seq.{ext_get_or, get_or-take, get_or-append-add, length-take-le}
use Rattle.whole.specs.Size.{Below}
use Rattle.whole.specs.Sums.{choose}
use Rattle.whole.proofs.Choose.{choose_self}
use Rattle.whole.proofs.Parts.{by_lt, set_case}
use Rattle.whole.proofs.Sizes.{nat_abs-*}
use Rattle.bernstein.specs.Numbers.{Patch, scale, weight, weighted}
use Rattle.bernstein.specs.Places.{size, index}
use Rattle.bernstein.proofs.Tests.{all, all_at}
use Rattle.bernstein.proofs.Starts.{factor_le}
use Rattle.system.specs.declared.head.Head.{Head}
use Rattle.system.specs.Heads.{degrees, places, width}
use Rattle.slots.specs.Slots.{at, polynomial, in_turn}
use Rattle.slots.specs.Inside.{Weights}
use Rattle.slots.proofs.Builds.{build_at, in_turn_length}
use Rattle.slots.proofs.Working.{place_in}

-- ---- the weights
abbrev table : List (List ℕ)
table =
    (1 ∷ 0 ∷ 0 ∷ 0 ∷ 0 ∷ 0 ∷ 0 ∷ []) ∷ (1 ∷ 1 ∷ 0 ∷ 0 ∷ 0 ∷ 0 ∷ 0 ∷ []) ∷ (2 ∷ 1 ∷ 2 ∷ 0 ∷ 0 ∷ 0 ∷ 0 ∷ []) ∷ (3 ∷ 1 ∷ 1 ∷ 3 ∷ 0 ∷ 0 ∷ 0 ∷ [])
    ∷ (12 ∷ 3 ∷ 2 ∷ 3 ∷ 12 ∷ 0 ∷ 0 ∷ []) ∷ (10 ∷ 2 ∷ 1 ∷ 1 ∷ 2 ∷ 10 ∷ 0 ∷ []) ∷ (60 ∷ 10 ∷ 4 ∷ 3 ∷ 4 ∷ 10 ∷ 60 ∷ []) ∷ []

abbrev entry : ℕ → ℕ → ℕ
entry n i = get_or (get_or table n []) i 0

tested : T (all (λ n. all (λ i. eqb (entry n i) (weight n i)) (suc n)) 7)
unfolding weight scale choose
tested = tt

table_is : (n i : ℕ) → n ≤ 6 → i ≤ n → get_or (get_or table n []) i 0 ≡ weight n i
table_is n i h k =
    eqb→eq (entry n i) (weight n i)
    (all_at (λ i. eqb (entry n i) (weight n i)) (suc n) i (all_at (λ n. all (λ i. eqb (entry n i) (weight n i)) (suc n)) 7 n tested (omega arith)) (omega arith))

pub table_weighs : Weights table
table_weighs = record { weighs = table_is }

pub weight_high : (n i : ℕ) → n ≤ 6 → i ≤ n → weight n i ≤ 60
weight_high n i h k = omega (arith, rw (choose_self i) at (factor_le n i i h k (NatL.le_refl i)))

pub times_below : (w : ℕ) (x : ℤ) → w ≤ 216000 → nat_abs x ≤ 1000000000 → Below (2 ^ 63) (pos w *ℤ x)
times_below w x p q = record { below = rw (nat_abs-* (pos w) x) (omega (arith, NatL.mul-le-mul p q)) }

-- ---- the numbers of a slot, written anew behind its box
pub rebuilt : (h : Head) (p : ℕ → Patch) (old new : List ℤ) → length old ≡ width h → length new ≡ width h → ((i : ℕ) → i < 6 → at new i ≡ at old i)
    → ((x : ℕ) → x < places h → at new (6 + x) ≡ at (in_turn h p) x) → new ≡ take 6 old ++ in_turn h p
rebuilt h p old new lo ln box made = ext_get_or (pos 0) new (take 6 old ++ in_turn h p) (ln ∙ sym (length-append (take 6 old) (in_turn h p) ∙ ap₂ ◌+◌ six (in_turn_length h p))) (λ i b. by_lt i 6
    (λ q. box i q ∙ sym (get_or-append (take 6 old) (in_turn h p) (pos 0) i (omega (arith, six)) ∙ get_or-take 6 old i (pos 0) q))
    (λ q.
    let z : i ≡ 6 + (i - 6) = omega arith in
    let y : 6 + (i - 6) ≡ length (take 6 old) + (i - 6) = omega (arith, six) in
    ap (at new) z ∙ made (i - 6) (omega (arith, ln)) ∙ sym (ap (at (take 6 old ++ in_turn h p)) (z ∙ y) ∙ get_or-append-add (take 6 old) (in_turn h p) (i - 6) (pos 0))))
  where
    six : length (take 6 old) ≡ 6
    six = length-take-le 6 old (omega arith)

-- ---- weighing: x numbers are written
module _ (h : Head) (cs : List ℤ) where
  abbrev heavy : ℕ → Patch
  heavy t = weighted (degrees h) (polynomial h cs t)

  pub record Weighing (old new : List ℤ) (x : ℕ) : Type 0 where
    pub inside : x ≤ places h
    pub long : length new ≡ length old
    pub box : (i : ℕ) → i < 6 → at new i ≡ at old i
    pub made : (y : ℕ) → y < x → at new (6 + y) ≡ at (in_turn h heavy) y

  -- the next number
  abbrev weight_in : ℕ → ℕ
  weight_in p = weight h.n1 (index (degrees h) p).x₁ * weight h.n2 (index (degrees h) p).x₂ * weight h.n3 (index (degrees h) p).x₃

  pub heavy_made : (x : ℕ) → x < places h → {v y : ℤ} {w z : ℕ} → z ≡ size (degrees h) → w ≡ weight_in (x % z) → y ≡ at cs x → v ≡ pos w *ℤ y → v ≡ at (in_turn h heavy) x
  unfolding in_turn
  heavy_made x b ez ew ey e =
      e ∙ rw (ew, ey, ez) (ap (λ (p : ℕ). pos (weight_in (x % size (degrees h))) *ℤ at cs p) (place_in h x b) ∙ sym (build_at (places h) _ x b))

  pub weighing_on : {old new : List ℤ} {x : ℕ} {v : ℤ} → length old ≡ width h → Weighing old new x → x < places h → v ≡ at (in_turn h heavy) x → Weighing old (set new (6 + x) v) (x + 1)
  weighing_on {old} {new} {x} {v} l w b e = record {
    inside = omega arith;
    long = length-set new (6 + x) v ∙ w.long;
    box = λ i q. set_case (λ (z : ℤ). z ≡ at old i) new (6 + x) i v (pos 0) room (λ f. absurd (omega arith)) (λ f. w.box i q);
    made = λ y q.
        set_case (λ (z : ℤ). z ≡ at (in_turn h heavy) y) new (6 + x) (6 + y) v (pos 0) room (λ f. let g : x ≡ y = omega arith in e ∙ ap (at (in_turn h heavy)) g)
        (λ f. w.made y (let g : y < x = omega arith in g));
  }
    where
      room : 6 + x < length new
      room = omega (arith, w.long)

  pub weighing_end : {old new : List ℤ} {x : ℕ} → length old ≡ width h → Weighing old new x → places h ≤ x → new ≡ take 6 old ++ in_turn h heavy
  weighing_end {old} {new} l w b = rebuilt h heavy old new l (w.long ∙ l) w.box (λ y q. w.made y (omega arith))
