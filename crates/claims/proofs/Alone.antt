-- No slot has two outcomes: the facts that 01 states leave no choice. Assumes nothing.
use mathlib.Core.Path.{◌≡◌, refl, sym, ap, ap₂, subst, ◌∙◌}
use mathlib.Core.List.{List}
use mathlib.Core.Logic.{◌⊎◌, inl, inr}
use Prim.Native.Nat.{ℕ, ◌+◌, ◌*◌, ◌≤◌, ◌<◌}
use native.Mathlib.Omega.{arith}
use lib.IntN.{ℤ}
use Rattle.whole.proofs.Parts.{by_lt}
use Rattle.whole.proofs.Order.{<ℤ-trans}
use Rattle.bernstein.specs.Points.{Has}
use Rattle.bernstein.specs.Places.{size}
use Rattle.system.specs.declared.head.Head.{Head}
use Rattle.boxes.specs.declared.half.Direction.{Direction}
use Rattle.whole.specs.declared.Sign.{Sign}
use Rattle.whole.specs.declared.Sign.TheVariants.{Above, Below}
use Rattle.system.specs.Heads.{degrees}
use Rattle.boxes.specs.Visits.{sign}
use Rattle.system.proofs.Heads.{size_low}
use Rattle.slots.specs.Slots.{at, numbers}
use Rattle.search.specs.Search.{is_dropped, is_kept, is_cut}
use Rattle.claims.specs.Rules.{cuts, OneSided, DropDue, AtDepth, DirectionDue, CanBeCut, Says, RulesDecide}
use Rattle.claims.proofs.Rules.{number, number_once}

-- ---- the facts leave no choice
module _ (h : Head) (l : List ℤ) where
  two_signs : (t : ℕ) (s r : Sign) → OneSided h l t s → OneSided h l t r → s ≡ r
  two_signs t s r a b = from s r (a.has 0 (size_low h)) (b.has 0 (size_low h))
    where
      from : (s r : Sign) → Has (sign s) (at (numbers l) (t * size (degrees h) + 0)) → Has (sign r) (at (numbers l) (t * size (degrees h) + 0)) → s ≡ r
      from Above Above p q = refl
      from Above Below p q = absurd (<ℤ-trans p q).lt
      from Below Above p q = absurd (<ℤ-trans q p).lt
      from Below Below p q = refl

  one_direction : (r q : Direction) → DirectionDue h l r → DirectionDue h l q → r ≡ q
  one_direction r q a b = from (a.fewest q b.below) (b.fewest r a.below)
    where
      from : (cuts h l r < cuts h l q) ⊎ ((cuts h l r ≡ cuts h l q) × (number r ≤ number q)) → (cuts h l q < cuts h l r) ⊎ ((cuts h l q ≡ cuts h l r) × (number q ≤ number r)) → r ≡ q
      from (inl x) (inl y) = absurd (omega arith)
      from (inl x) (inr y) = absurd (omega (arith, y.0))
      from (inr x) (inl y) = absurd (omega (arith, x.0))
      from (inr x) (inr y) = number_once r q (omega (arith, x.1, y.1))

  deeper : AtDepth h l → (r : Direction) → DirectionDue h l r → ⊥
  deeper a r d = omega (arith, a r, d.below)

  -- a box that is kept is not cut
  not_cut : (m : ℕ) (r : Direction) → Says h l (is_kept m) → Says h l (is_cut r) → ⊥
  not_cut m r (x, inl a) c = deeper a.1 r c.1
  not_cut m r (x, inr a) c = a.1.2 (subst (CanBeCut h l) (one_direction r a.1.0 c.1 a.1.1) c.2)

  one_mark : (m n : ℕ) → Says h l (is_kept m) → Says h l (is_kept n) → m ≡ n
  one_mark m n (x, inl a) (y, inl b) = a.0 ∙ sym b.0
  one_mark m n (x, inl a) (y, inr b) = absurd (deeper a.1 b.1.0 b.1.1)
  one_mark m n (x, inr a) (y, inl b) = absurd (deeper b.1 a.1.0 a.1.1)
  one_mark m n (x, inr a) (y, inr b) = a.0 ∙ sym b.0

  one_drop : (p q : ℕ) (s r : Sign) → DropDue h l p s → DropDue h l q r → (p ≡ q) × (s ≡ r)
  one_drop p q s r a b =
      let same : a.which ≡ b.which
      = by_lt a.which b.which (λ c. absurd (b.lowest a.which c s a.decides)) (λ c. by_lt b.which a.which (λ d. absurd (a.lowest b.which d r b.decides)) (λ d. omega arith)) in
      (omega (arith, same, a.number, b.number), two_signs b.which s r (subst (λ (t : ℕ). OneSided h l t s) same a.decides) b.decides)

pub rules_decide : RulesDecide
rules_decide h l (is_dropped d) (is_dropped e) a b = let x = one_drop h l d.0 e.0 d.1 e.1 a b in ap₂ (λ (p : ℕ) (s : Sign). is_dropped (p, s)) x.0 x.1
rules_decide h l (is_dropped d) (is_kept m) a b = absurd (b.0 a.which a.is_one d.1 a.decides)
rules_decide h l (is_dropped d) (is_cut r) a b = absurd (b.0 a.which a.is_one d.1 a.decides)
rules_decide h l (is_kept m) (is_dropped e) a b = absurd (a.0 b.which b.is_one e.1 b.decides)
rules_decide h l (is_kept m) (is_kept n) a b = ap is_kept (one_mark h l m n a b)
rules_decide h l (is_kept m) (is_cut r) a b = absurd (not_cut h l m r a b)
rules_decide h l (is_cut r) (is_dropped e) a b = absurd (a.0 b.which b.is_one e.1 b.decides)
rules_decide h l (is_cut r) (is_kept n) a b = absurd (not_cut h l n r b a)
rules_decide h l (is_cut r) (is_cut q) a b = ap is_cut (one_direction h l r q a.1 b.1)
