-- Tests of all numbers of a list or of a part of it, as the rules say them: `every` is true where each number is so; what the side of a part says of the rule of
-- signs. Assumes nothing.
use Rattle.std.specs.Prelude.{Option, Some, None}
use mathlib.Core.Path.{◌≡◌, refl, sym, ◌∙◌, ap, ap₂, subst}
use mathlib.Core.Bool.{Bool, true, false, cond}
use mathlib.Core.Logic.{◌↔◌}
use mathlib.Core.List.{List, [], ◌∷◌}
use Prim.Native.Nat.{ℕ, suc, ◌+◌, ◌-◌, ◌≤◌, ◌<◌}
use native.Mathlib.Omega.{arith}
use borrow.Author.Tests.{leb-true, le-leb}
use lib.IntN.{ℤ, pos, nat_abs}
use lib.ListN.{length, take, drop, length-take, length-drop}
use lib.Seq.{get_or-take, get_or-drop, take_all}
use Rattle.bernstein.specs.Points.{Has}
use Rattle.whole.specs.declared.Sign.{Sign}
use Rattle.whole.specs.declared.Sign.TheVariants.{Above, Below}
use Rattle.lines.specs.Sides.{Each, AtMost, side, SideIs}
use Rattle.lines.proofs.Parts.{iff-<}
use Rattle.slots.specs.Slots.{at}
use Rattle.slots.specs.Rules.{every, has, within, signed}
use Rattle.slots.proofs.Decided.{every_at, sign}

-- two answers to one question
pub same_answer : (a b : Bool) {P : Type 0} → (a ≡ true) ↔ P → (b ≡ true) ↔ P → a ≡ b
same_answer true b e f = sym (f.1 (e.0 refl))
same_answer false true e f = e.1 (f.0 refl)
same_answer false false e f = refl

-- ---- every
pub every_of : (f : ℤ → Bool) (xs : List ℤ) → ((i : ℕ) → i < length xs → f (at xs i) ≡ true) → every f xs ≡ true
unfolding every
every_of f [] h = refl
every_of f (x ∷ xs) h = let a : f x ≡ true = h 0 (omega arith) in rw (a, every_of f xs (λ i k. h (suc i) (omega arith))) refl

-- a part of k numbers
pub part_says : {f : ℤ → Bool} {P : ℤ → Type 0} → ((z : ℤ) → (f z ≡ true) ↔ P z) → (l : List ℤ) (start k : ℕ) {stop : ℕ} → stop ≡ start + k → stop ≤ length l
    → (every f (take k (drop start l)) ≡ true) ↔ Each P l start stop
part_says {f} {P} iff l start k {stop} e fits = (
  λ t. record {
    each = λ i p q.
        let b : i - start < k = omega arith in
        let z : start + (i - start) ≡ i = omega arith in
        (iff (at l i)).0 (subst (λ (y : ℤ). f y ≡ true) (place (i - start) b ∙ ap (at l) z) (every_at f (take k (drop start l)) t (i - start) (rw long b)));
  },
  λ h. every_of f (take k (drop start l)) (λ i q.
      let b : i < k = rw long at q in
      subst (λ (y : ℤ). f y ≡ true) (sym (place i b)) ((iff (at l (start + i))).1 (h.each (start + i) (omega arith) (omega arith)))),
)
  where
    long : length (take k (drop start l)) ≡ k
    long = simp (length-take, length-drop) (omega arith)

    place : (i : ℕ) → i < k → at (take k (drop start l)) i ≡ at l (start + i)
    place i b = get_or-take k (drop start l) i (pos 0) b ∙ get_or-drop start l i (pos 0)

pub within_says : (b : ℕ) (z : ℤ) → (within b z ≡ true) ↔ AtMost b z
within_says b z = (λ e. leb-true (nat_abs z) b e, λ h. le-leb (nat_abs z) b h)

has_says : (s : Sign) (z : ℤ) → (has s z ≡ true) ↔ Has (sign s) z
has_says Above z = iff-< (pos 0) z
has_says Below z = iff-< z (pos 0)

-- an answer of `all_within` is the rules' test of the list from start on
pub within_rest : {b : ℕ} {r : Bool} (l : List ℤ) (start : ℕ) → start ≤ length l → (r ≡ true) ↔ Each (AtMost b) l start (length l) → r ≡ every (within b) (drop start l)
within_rest {b} {r} l start h a =
    same_answer r (every (within b) (take (length l - start) (drop start l))) a (part_says (within_says b) l start (length l - start) (omega arith) (omega arith))
    ∙ ap (every (within b)) (take_all (length l - start) (drop start l) (simp length-drop (omega arith)))

-- ---- the rule of signs, by the side of the polynomial's part
abbrev pub by_side : Option Sign → ℕ → Option (ℕ × Sign) → Option (ℕ × Sign)
by_side (Some s) p else = Some (p, s)
by_side None p else = else

tells : Option Sign → Sign → Bool
tells (Some Above) Above = true
tells (Some Above) Below = false
tells (Some Below) Above = false
tells (Some Below) Below = true
tells None s = false

no_other : {A : Type 0} → ◌≡◌ {A = ℕ} 0 1 → A
no_other z = absurd (omega arith)

tells_side : (r : Option Sign) (s : Sign) → (tells r s ≡ true) ↔ (r ≡ Some (side (sign s)))
unfolding tells
tells_side (Some Above) Above = (λ e. refl, λ e. refl)
tells_side (Some Above) Below = (λ e. no_other (cc), λ e. no_other (cc))
tells_side (Some Below) Above = (λ e. no_other (cc), λ e. no_other (cc))
tells_side (Some Below) Below = (λ e. refl, λ e. refl)
tells_side None Above = (λ e. no_other (cc), λ e. no_other (cc))
tells_side None Below = (λ e. no_other (cc), λ e. no_other (cc))

pub signed_side : (l : List ℤ) (start size : ℕ) {stop : ℕ} {r : Option Sign} → stop ≡ start + size → stop ≤ length l → SideIs l start stop r → (p : ℕ) (else : Option (ℕ × Sign))
    → signed p (take size (drop start l)) else ≡ by_side r p else
unfolding tells
signed_side l start size {stop} {r} e fits i p else = ap₂ (λ (a b : Bool). cond a (Some (p, Above)) (cond b (Some (p, Below)) else)) (told Above) (told Below) ∙ chosen r
  where
    told : (s : Sign) → every (has s) (take size (drop start l)) ≡ tells r s
    told s = same_answer (every (has s) (take size (drop start l))) (tells r s) (part_says (has_says s) l start size e fits) (joined (tells_side r s) (i.is (sign s)))
      where
        joined : {A B C : Type 0} → A ↔ B → B ↔ C → A ↔ C
        joined f g = (λ a. g.0 (f.0 a), λ c. f.1 (g.1 c))

    chosen : (r : Option Sign) → cond (tells r Above) (Some (p, Above)) (cond (tells r Below) (Some (p, Below)) else) ≡ by_side r p else
    chosen (Some Above) = refl
    chosen (Some Below) = refl
    chosen None = refl
