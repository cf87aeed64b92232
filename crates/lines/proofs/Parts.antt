-- What a test of each number of a part says of the part, and what the first number and one such test say of the part's sign. Assumes nothing.
use mathlib.Core.Path.{◌≡◌, refl, sym, ap, subst, ◌∙◌}
use mathlib.Core.Bool.{Bool, true, false}
use mathlib.Core.Logic.{◌↔◌}
use mathlib.Core.List.{List}
use Prim.Native.Nat.{ℕ, zero, suc, ◌+◌, ◌-◌, ◌≤◌, ◌<◌}
use native.Mathlib.Omega.{arith}
use lib.Dec.{T, ltb→lt, lt→ltb}
use lib.IntN.{ℤ, pos, negsuc}
use lib.ListN.{length, get_or}
use Rattle.std.proofs.Common.{rules}
use Rattle.std.proofs.lemmas.List.{places}
use Rattle.std.specs.List.{between}
use lib.Signed.{lt_z, ◌<ℤ◌}
use Rattle.whole.proofs.Machine.{iff_yes, iff_no, lt_z_true}
use Rattle.bernstein.specs.Points.{Sign, above, below, Has}
use Rattle.lines.specs.Inside.{AllAnswer}
use Rattle.lines.specs.Sides.{Each, side, SideIs}
use Rattle.whole.specs.Side.{side_of}
use Rattle.whole.specs.declared.Sign as Whole
use Rattle.std.specs.Bool.{then_some}
use Rattle.std.specs.Prelude.{Option, Some}

-- ---- a test that answered b
true_of : (b : Bool) → T b → b ≡ true
true_of true t = refl
true_of false t = absurd t

pub iff-< : (a b : ℤ) → (lt_z a b ≡ true) ↔ (a <ℤ b)
iff-< a b = (lt_z_true, λ p. true_of (lt_z a b) p.lt)

pub failed : {P : Type 0} {b : Bool} → (b ≡ true) ↔ P → b ≡ false → P → ⊥
failed e f p = let t = e.1 p in cc

-- ---- a part with no number
pub empty : {P : ℤ → Type 0} {l : List ℤ} {start stop : ℕ} → stop ≤ start → Each P l start stop
empty h = record { each = λ i p q. absurd (omega arith) }

-- ---- a test of each number of the part, of which each answer is known to say whether the number is so
module _ {P : ℤ → Type 0} {E : ℤ → Bool → Type 0} {l : List ℤ} {start stop : ℕ} where
  pub tested : {b : Bool} → start ≤ stop → stop ≤ length l → AllAnswer E (between start stop l) b → ((z : ℤ) → E z true → P z)
      → ((z : ℤ) → E z false → (false ≡ true) ↔ P z) → (b ≡ true) ↔ Each P l start stop
  tested {b} m fits t so not = by b t
    where
      long : length (between start stop l) ≡ stop - start
      long = search (rules, places)

      here : (k : ℕ) → k < stop - start → get_or (between start stop l) k (pos 0) ≡ get_or l (start + k) (pos 0)
      here k h = search (rules, places)

      by : (b : Bool) → AllAnswer E (between start stop l) b → (b ≡ true) ↔ Each P l start stop
      by true t = iff_yes (record {
        each = λ i p q. let h : i - start < stop - start = omega arith in let e : start + (i - start) ≡ i = omega arith in
            subst (λ (x : ℕ). P (get_or l x (pos 0))) e (subst P (here (i - start) h) (so _ (t.every refl (i - start) (omega (arith, long)))));
      })
      by false t =
          let w = t.one refl in let q : w.0 < stop - start = omega (arith, long, w.1) in
          iff_no (λ e. failed (not _ w.2) refl (subst P (sym (here w.0 q)) (e.each (start + w.0) (omega arith) (omega arith))))

-- ---- the side
pub not_both : (z : ℤ) → Has above z → Has below z → ⊥
not_both (pos n) p q = let h : n < 0 = ltb→lt n 0 q.lt in omega arith
not_both (negsuc n) p q = p.lt

-- a number of which `whole::side_of` told the sign
pub told : (s : Sign) {z x : ℤ} {r : Option Whole.Sign} {v : Whole.Sign} → r ≡ side_of z → r ≡ Some v → v ≡ side s → z ≡ x → Has s x
told s {z} e e' e'' same = subst (Has s) same (by s z (sym e ∙ e' ∙ ap Some e''))
  where
    by : (s : Sign) (z : ℤ) → side_of z ≡ Some (side s) → Has s z
    by above (pos zero) q = absurd cc
    by above (pos (suc n)) q = record { lt = lt→ltb 0 (suc n) (omega arith) }
    by above (negsuc n) q = absurd cc
    by below (pos zero) q = absurd cc
    by below (pos (suc n)) q = absurd cc
    by below (negsuc n) q = record { lt = tt }

-- the first number has a sign, so it is the only one that all can have
pub sided : {l : List ℤ} {start stop : ℕ} (s : Sign) {b : Bool} → start < stop → Has s (get_or l start (pos 0)) → (b ≡ true) ↔ Each (Has s) l start stop
    → SideIs l start stop (then_some b (side s))
sided {l} {start} {stop} s {b} some h e = record { is = by s b h e }
  where
    by : (s : Sign) (b : Bool) → Has s (get_or l start (pos 0)) → (b ≡ true) ↔ Each (Has s) l start stop
        → (t : Sign) → (then_some b (side s) ≡ Some (side t)) ↔ Each (Has t) l start stop
    by above true h e above = (λ q. e.0 refl, λ f. refl)
    by above true h e below = (λ q. absurd cc, λ f. absurd (not_both _ h (f.each start (omega arith) some)))
    by above false h e above = (λ q. absurd cc, λ f. absurd (failed e refl f))
    by above false h e below = (λ q. absurd cc, λ f. absurd (not_both _ h (f.each start (omega arith) some)))
    by below true h e above = (λ q. absurd cc, λ f. absurd (not_both _ (f.each start (omega arith) some) h))
    by below true h e below = (λ q. e.0 refl, λ f. refl)
    by below false h e above = (λ q. absurd cc, λ f. absurd (not_both _ (f.each start (omega arith) some) h))
    by below false h e below = (λ q. absurd cc, λ f. absurd (failed e refl f))
