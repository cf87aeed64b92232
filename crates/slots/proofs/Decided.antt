-- What the sign test says: a polynomial that decides has all its numbers of that strict sign. Assumes nothing.
use Rattle.std.specs.Prelude.{Option, Some, None}
use mathlib.Core.Path.{ap, ◌≡◌, refl, sym, ◌∙◌, subst}
use mathlib.Core.Bool.{Bool, true, false, cond, ◌&&◌}
use mathlib.Core.List.{List, [], ◌∷◌}
use mathlib.Core.Logic.{◌⊎◌, inl, inr}
use Prim.Native.Nat.{ℕ, zero, suc, ◌+◌, ◌*◌, ◌≤◌, ◌<◌}
use native.Mathlib.Omega.{arith}
use native.Mathlib.Nat as NatL
use lib.Dec.{T}
use lib.IntN.{ℤ, pos}
use lib.ListN.{length, take, drop, length-take, length-drop}
use lib.Seq.{get_or-take, get_or-drop, drop-drop}
use Rattle.bernstein.specs.Numbers.{Index}
use Rattle.bernstein.specs.Points.{Has}
use Rattle.bernstein.specs.Points
use Rattle.bernstein.specs.Frames.{Lawful}
use Rattle.system.specs.declared.head.Head.{Head}
use Rattle.boxes.specs.declared.half.Direction.{Direction}
use Rattle.whole.specs.declared.Sign.{Sign}
use Rattle.whole.specs.declared.Sign.TheVariants.{Above, Below}
use Rattle.boxes.specs.declared.visit.Outcome.{Outcome}
use Rattle.system.specs.Heads.{frame, places}
use Rattle.slots.specs.Slots.{at, polynomial, numbers}
use Rattle.slots.specs.Rules.{every, has, signed, decided, by_choice, chosen, able, looked_by, looked}

-- ---- every
and_both : (a b : Bool) → (a && b) ≡ true → (a ≡ true) × (b ≡ true)
and_both true b e = (refl, e)
and_both false b e = absurd (subst T (sym e) tt)

pub every_at : (f : ℤ → Bool) (xs : List ℤ) → every f xs ≡ true → (i : ℕ) → i < length xs → f (at xs i) ≡ true
unfolding every
every_at f [] e i h = absurd (NatL.not-suc-le-zero h)
every_at f (x ∷ xs) e zero h = (and_both (f x) (every f xs) e).0
every_at f (x ∷ xs) e (suc i) h = every_at f xs (and_both (f x) (every f xs) e).1 i (omega arith)

-- ---- the polynomial that decides
pub record Decides (count size : ℕ) (xs : List ℤ) (p q : ℕ) (s : Sign) : Type 0 where
  pub which : ℕ
  pub below : which < count
  pub number : q ≡ p + which
  pub signs : every (has s) (take size (drop (which * size) xs)) ≡ true

-- polynomial p, with its sign
abbrev pub by : ℕ → Sign → Option (ℕ × Sign)
by p s = Some (p, s)

number_in : Option (ℕ × Sign) → ℕ
number_in None = 0
number_in (Some x) = x.0

sign_in : Option (ℕ × Sign) → Sign
sign_in None = Above
sign_in (Some x) = x.1

same_by : {p q : ℕ} {r s : Sign} → by p r ≡ by q s → (p ≡ q) × (r ≡ s)
unfolding number_in sign_in
same_by e = (ap number_in e, ap sign_in e)

signed_by : (p : ℕ) (xs : List ℤ) (else : Option (ℕ × Sign)) (q : ℕ) (s : Sign) → signed p xs else ≡ by q s
    → ((q ≡ p) × (every (has s) xs ≡ true)) ⊎ (else ≡ by q s)
signed_by p xs else q s e = from (every (has Above) xs) (every (has Below) xs) refl refl e
  where
    one : (r : Sign) → every (has r) xs ≡ true → by p r ≡ by q s → ((q ≡ p) × (every (has s) xs ≡ true)) ⊎ (else ≡ by q s)
    one r f g = let b = same_by g in inl (sym b.0, subst (λ (x : Sign). every (has x) xs ≡ true) b.1 f)

    from : (a b : Bool) → every (has Above) xs ≡ a → every (has Below) xs ≡ b → cond a (by p Above) (cond b (by p Below) else) ≡ by q s
        → ((q ≡ p) × (every (has s) xs ≡ true)) ⊎ (else ≡ by q s)
    from true b f g e = one Above f e
    from false true f g e = one Below g e
    from false false f g e = inr e

pub decided_by : (count size p : ℕ) (xs : List ℤ) (q : ℕ) (s : Sign) → decided count size p xs ≡ by q s → Decides count size xs p q s
unfolding decided
decided_by zero size p xs q s e = let z : ◌≡◌ {A = ℕ} 0 1 = cc in absurd (omega arith)
decided_by (suc count) size p xs q s e = from (λ f. decided_by count size (suc p) (drop size xs) q s f) (signed_by p (take size xs) (decided count size (suc p) (drop size xs)) q s e)
  where
    none : 0 * size ≡ 0
    none = NatL.zero-mul size

    more : (w : ℕ) → size + w * size ≡ suc w * size
    more w = omega arith

    from : (decided count size (suc p) (drop size xs) ≡ by q s → Decides count size (drop size xs) (suc p) q s)
        → ((q ≡ p) × (every (has s) (take size xs) ≡ true)) ⊎ (decided count size (suc p) (drop size xs) ≡ by q s) → Decides (suc count) size xs p q s
    from ih (inl f) = record { which = 0; below = omega arith; number = omega (arith, f.0); signs = rw none f.1 }
    from ih (inr f) =
        let d = ih f in
        record {
          which = suc d.which;
          below = omega (arith, d.below);
          number = omega (arith, d.number);
          signs = rw (← more d.which, ← drop-drop (d.which * size) size xs) d.signs;
        }

-- ---- as a fact about a patch
abbrev pub sign : Sign → Points.Sign
sign Above = Points.above
sign Below = Points.below

has_sign : (s : Sign) (z : ℤ) → has s z ≡ true → Has (sign s) z
has_sign Above z e = record { lt = subst T (sym e) tt }
has_sign Below z e = record { lt = subst T (sym e) tt }

pub signed_patch : (h : Head) → Lawful (frame h) → (xs : List ℤ) (t : ℕ) (s : Sign) → places h ≤ length xs → t < h.m
    → every (has s) (take (frame h).size (drop (t * (frame h).size) xs)) ≡ true → (j : Index) → (frame h).Inside j → Has (sign s) (polynomial h xs t j)
unfolding places
signed_patch h L xs t s long l e j u =
    let S = (frame h).size in
    let i = (frame h).place j in
    let b : (frame h).place j < (frame h).size = L.place_below j u in
    let a : suc t * (frame h).size ≤ h.m * (frame h).size = NatL.mul-le-mul_right (frame h).size l in
    let ys = drop (t * S) xs in
    let c : length (take (frame h).size (drop (t * (frame h).size) xs)) ≡ (frame h).size = simp (length-take, length-drop) (omega arith) in
    has_sign s (at xs (t * S + i)) (subst (λ (z : ℤ). has s z ≡ true) (get_or-take S ys i (pos 0) b ∙ get_or-drop (t * S) xs i (pos 0))
    (every_at (has s) (take S ys) e i (rw c b)))

-- ---- the outcome of a visit
pub record DroppedBy (h : Head) (l : List ℤ) (q : ℕ) (s : Sign) : Type 0 where
  pub which : ℕ
  pub below : which < h.m
  pub number : q ≡ 1 + which
  pub signs : (j : Index) → (frame h).Inside j → Has (sign s) (polynomial h (numbers l) which j)

pub by_drop : (h : Head) (l : List ℤ) (able : Direction → Bool) (d : Option (ℕ × Sign)) (q : ℕ) (s : Sign) → looked_by h l d able ≡ Outcome.Dropped q s → d ≡ by q s
by_drop h l able (Some (p, r)) q s e = cc
by_drop h l able None q s e = absurd (by_choice_not (chosen h l) e)
  where
    kept_or_cut : (b : Bool) (r : Direction) → cond b (Outcome.Cut r) (Outcome.Kept 2) ≡ Outcome.Dropped q s → ⊥
    kept_or_cut true r e = let z : ◌≡◌ {A = ℕ} 0 1 = cc in omega arith
    kept_or_cut false r e = let z : ◌≡◌ {A = ℕ} 0 1 = cc in omega arith

    by_choice_not : (c : Option Direction) → by_choice able c ≡ Outcome.Dropped q s → ⊥
    by_choice_not None e = let z : ◌≡◌ {A = ℕ} 0 1 = cc in omega arith
    by_choice_not (Some r) e = kept_or_cut (able r) r e

pub dropped_by : (h : Head) → Lawful (frame h) → (l : List ℤ) (q : ℕ) (s : Sign) → places h ≤ length (numbers l) → looked h l ≡ Outcome.Dropped q s → DroppedBy h l q s
unfolding looked
dropped_by h L l q s long e =
    let d = decided_by h.m (frame h).size 1 (numbers l) q s (by_drop h l (able h l) (decided h.m (frame h).size 1 (numbers l)) q s e) in
    record { which = d.which; below = d.below; number = d.number; signs = signed_patch h L (numbers l) d.which s long d.below d.signs }
