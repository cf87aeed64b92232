-- What the direction rule says: a direction that is chosen is below its depth; and a box is cut only in the direction chosen, if it can be cut. Assumes nothing.
use Rattle.whole.specs.declared.Sign.{Sign}
use Rattle.std.specs.Prelude.{Option, Some, None}
use mathlib.Core.Path.{◌≡◌, refl, sym, subst}
use mathlib.Core.Bool.{Bool, true, false, cond, ◌&&◌}
use mathlib.Core.List.{List}
use Prim.Native.Nat.{ℕ, ◌<◌}
use native.Mathlib.Omega.{arith}
use lib.Dec.{T, ltb, ltb→lt}
use lib.IntN.{ℤ}
use Rattle.bernstein.specs.Three.{◌!◌}
use Rattle.system.specs.declared.head.Head.{Head}
use Rattle.boxes.specs.declared.half.Direction.{Direction}
use Rattle.boxes.specs.declared.visit.Outcome.{Outcome}
use Rattle.system.specs.Heads.{depths, frame}
use Rattle.boxes.specs.Boxes.{direction}
use Rattle.slots.specs.Slots.{numbers}
use Rattle.slots.specs.Rules.{cuts_in, below_depth, better, chosen, decided, able, by_choice, looked_by, looked}

-- what a choice promises of its direction
abbrev Fits : (Direction → Type 0) → Option Direction → Type 0
Fits P None = Unit {0}
Fits P (Some r) = P r

module _ (h : Head) (l : List ℤ) where
  better_fits : (c : Option Direction) (r : Direction) → Fits (λ q. below_depth h l q ≡ true) c → Fits (λ q. below_depth h l q ≡ true) (better h l c r)
  better_fits None r f = from (below_depth h l r) refl
    where
      from : (b : Bool) → below_depth h l r ≡ b → Fits (λ q. below_depth h l q ≡ true) (cond b (Some r) None)
      from true e = e
      from false e = tt
  better_fits (Some q) r f = from (below_depth h l r) (ltb (cuts_in l r) (cuts_in l q)) refl
    where
      from : (b c : Bool) → below_depth h l r ≡ b → Fits (λ q. below_depth h l q ≡ true) (cond (b && c) (Some r) (Some q))
      from true true e = e
      from true false e = f
      from false c e = f

  chosen_fits : Fits (λ q. below_depth h l q ≡ true) (chosen h l)
  unfolding chosen
  chosen_fits =
      better_fits (better h l (better h l None Direction.First) Direction.Second) Direction.Third
      (better_fits (better h l None Direction.First) Direction.Second (better_fits None Direction.First tt))

  -- ---- a box that is cut, by any decision and where it is able to be cut
  pub record CutIn (able : Direction → Bool) (r : Direction) : Type 0 where
    pub chose : chosen h l ≡ Some r
    pub below : cuts_in l r < depths h ! direction r
    pub can : able r ≡ true

  module _ (able : Direction → Bool) (r : Direction) where
    by_cut : (c : Option Direction) → chosen h l ≡ c → by_choice able c ≡ Outcome.Cut r → CutIn able r
    by_cut None f e = let z : ◌≡◌ {A = ℕ} 0 1 = cc in absurd (omega arith)
    by_cut (Some q) f e = from (able q) refl e
      where
        told : (q : Direction) → chosen h l ≡ Some q → below_depth h l q ≡ true
        told q f = subst (Fits (λ q. below_depth h l q ≡ true)) f chosen_fits

        from : (b : Bool) → able q ≡ b → cond b (Outcome.Cut q) (Outcome.Kept 2) ≡ Outcome.Cut r → CutIn able r
        from false g e = let z : ◌≡◌ {A = ℕ} 0 1 = cc in absurd (omega arith)
        from true g e =
            let same : q ≡ r = cc in
            subst (CutIn able) same (record { chose = f; below = ltb→lt (cuts_in l q) (depths h ! direction q) (subst T (sym (told q f)) tt); can = g })

    pub cut_by : (d : Option (ℕ × Sign)) → looked_by h l d able ≡ Outcome.Cut r → CutIn able r
    cut_by (Some (p, s)) e = let z : ◌≡◌ {A = ℕ} 0 1 = cc in absurd (omega arith)
    cut_by None e = by_cut (chosen h l) refl e

  pub cut_in : (r : Direction) → looked h l ≡ Outcome.Cut r → CutIn (able h l) r
  unfolding looked
  cut_in r e = cut_by (able h l) r (decided h.m (frame h).size 1 (numbers l)) e
