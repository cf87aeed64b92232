-- What is put, one piece behind another. Assumes nothing.
use mathlib.Core.Path.{◌≡◌, refl, sym, ap, subst, ◌∙◌}
use mathlib.Core.List.{List, [], ◌++◌}
use Prim.Native.Nat.{ℕ, ◌+◌, ◌-◌}
use native.Mathlib.Omega.{arith}
use lib.ListN.{length, take, length-append}
use borrow.Rule.Slice.PartMut.{put_mid, Post-is}
use Rattle.file.specs.Bytes.{over}
use Rattle.file.proofs.Putting.{over_none, over_over}
use Rattle.desk.specs.declared.text.Text.{Text}
use Rattle.desk.specs.Puts.{Fits, Puts}

-- a piece copied into the part of the bytes from at on
pub copied : (t : List ℕ) (at : ℕ) (w : List ℕ) → put_mid at (at + length w - at) t w ≡ over t at w
unfolding over
copied t at w = ap (λ (z : List ℕ). take at t ++ (w ++ z)) (Post-is at (at + length w) t (omega arith))

pub puts_none : (t : Text) → Fits t [] → Puts t t []
puts_none t f = record { same = refl; long = refl; at = omega arith; now = sym (over_none t.bytes.now t.at (omega arith)) }

-- two pieces are one
pub puts_then : {a b c : Text} (x y : List ℕ) → Fits a (x ++ y) → Puts a b x → (Fits b y → Puts b c y) → Puts a c (x ++ y)
puts_then {a} {b} {c} x y f p next =
    let l = length-append x y in
    let q = next (omega (arith, l, p.at, p.long)) in
    record {
      same = q.same ∙ p.same;
      long = q.long ∙ p.long;
      at = omega (arith, l, p.at, q.at);
      now = q.now ∙ rw (p.now, p.at) (over_over a.bytes.now a.at x y (omega (arith, l)));
    }

-- what is left to put of W, which fits, makes W of what was put
pub record Left (begin : Text) (W : List ℕ) (now : Text) (todo : List ℕ) : Type 0 where
  pub fits : Fits now todo
  pub ends : {end : Text} → Puts now end todo → Puts begin end W

pub left_all : (t : Text) (W : List ℕ) → Fits t W → Left t W t W
left_all t W f = record { fits = f; ends = λ p. p }

pub left_as : {b t : Text} {W x y : List ℕ} → x ≡ y → Left b W t x → Left b W t y
left_as {b} {t} {W} e l = subst (Left b W t) e l

module _ {b t : Text} {W : List ℕ} (x y : List ℕ) (l : Left b W t (x ++ y)) where
  pub left_fits : Fits t x
  left_fits = omega (arith, l.fits, length-append x y)

  pub left_next : {t' : Text} → Puts t t' x → Left b W t' y
  left_next p = record { fits = omega (arith, l.fits, length-append x y, p.at, p.long); ends = λ q. l.ends (puts_then x y l.fits p (λ _. q)) }
