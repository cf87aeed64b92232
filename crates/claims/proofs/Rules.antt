-- The outcome that the rules compute is the one that 01 states: which direction is due, what can be cut, and the steps in order. Assumes nothing.
use Rattle.whole.specs.declared.Sign.{Sign}
use Rattle.std.specs.Prelude.{Option, Some, None}
use mathlib.Core.Path.{◌≡◌, refl, subst}
use mathlib.Core.Bool.{Bool, true, false, cond, ◌&&◌}
use mathlib.Core.List.{List}
use mathlib.Core.Logic.{◌⊎◌, inl, inr}
use Prim.Native.Nat.{ℕ, suc, ◌≤◌, ◌<◌}
use native.Mathlib.Omega.{arith}
use native.Mathlib.Nat as NatL
use borrow.Author.Tests.{ltb-true, ltb-false}
use lib.Dec.{ltb}
use lib.IntN.{ℤ}
use lib.ListN.{length}
use Rattle.whole.proofs.Parts.{by_lt}
use Rattle.bernstein.specs.Three.{◌!◌}
use Rattle.bernstein.specs.Places.{size}
use Rattle.system.specs.declared.head.Head.{Head}
use Rattle.boxes.specs.declared.half.Direction.{Direction}
use Rattle.boxes.specs.declared.half.Direction.TheVariants.{First, Second, Third}
use Rattle.boxes.specs.declared.visit.Outcome.{Outcome}
use Rattle.boxes.specs.Boxes.{direction}
use Rattle.system.specs.Directions.{direction_number}
use Rattle.system.specs.Heads.{degrees, width}
use Rattle.slots.specs.Slots.{numbers}
use Rattle.slots.specs.Rules.{decided, better, chosen, limit, can_cut, able, by_choice, looked_by, looked}
use Rattle.waiting.specs.Cells.{as_look}
use Rattle.waiting.proofs.Judging.{every_says}
use Rattle.claims.specs.Rules.{cuts, most, MixedBelow, DirectionDue, CanBeCut, Says, RulesMean}
use Rattle.claims.proofs.Signs.{Told, tell, whole, one_sided, mixed}

-- ---- the number of a direction
abbrev pub number : Direction → ℕ
number r = direction_number (direction r)

pub number_once : (q r : Direction) → number q ≡ number r → q ≡ r
number_once First First e = refl
number_once First Second e = absurd (omega arith)
number_once First Third e = absurd (omega arith)
number_once Second First e = absurd (omega arith)
number_once Second Second e = refl
number_once Second Third e = absurd (omega arith)
number_once Third First e = absurd (omega arith)
number_once Third Second e = absurd (omega arith)
number_once Third Third e = refl

module _ (h : Head) (l : List ℤ) (long : length l ≡ width h) where
  -- ---- 3. the direction
  abbrev Before : Direction → Direction → Type 0
  Before r q = (cuts h l r < cuts h l q) ⊎ ((cuts h l r ≡ cuts h l q) × (number r ≤ number q))

  -- of the directions up to number k
  pub record BestOne (k : ℕ) (r : Direction) : Type 0 where
    pub seen : number r ≤ k
    pub below : cuts h l r < most h l r
    pub before : (q : Direction) → number q ≤ k → cuts h l q < most h l q → Before r q

  abbrev Best : ℕ → Option Direction → Type 0
  Best k None = (q : Direction) → number q ≤ k → most h l q ≤ cuts h l q
  Best k (Some r) = BestOne k r

  -- direction r comes next
  module _ (k : ℕ) (r : Direction) (next : number r ≡ suc k) where
    up_to : (P : Direction → Type 0) → P r → ((q : Direction) → number q ≤ k → P q) → (q : Direction) → number q ≤ suc k → P q
    up_to P p f q b = by_lt (number q) (suc k) (λ c. f q (omega arith)) (λ c. subst P (number_once r q (omega arith)) p)

    best : (c : Option Direction) → Best k c → Best (suc k) (better h l c r)
    best None f = from (ltb (cuts h l r) (most h l r)) refl
      where
        from : (b : Bool) → ltb (cuts h l r) (most h l r) ≡ b → Best (suc k) (cond b (Some r) None)
        from true e = record {
          seen = omega arith;
          below = ltb-true _ _ e;
          before = up_to (λ q. cuts h l q < most h l q → Before r q) (λ b. inr (refl, omega arith)) (λ q n b. absurd (omega (arith, f q n)));
        }
        from false e = up_to (λ q. most h l q ≤ cuts h l q) (ltb-false _ _ e) f
    best (Some p) f = from (ltb (cuts h l r) (most h l r)) (ltb (cuts h l r) (cuts h l p)) refl refl
      where
        -- what comes after p comes after r, where r has fewer cuts
        over : cuts h l r < cuts h l p → (q : Direction) → Before p q → Before r q
        over d q (inl c) = inl (omega arith)
        over d q (inr c) = inl (omega (arith, c.0))

        stays : (cuts h l r < most h l r → Before p r) → BestOne (suc k) p
        stays d = record { seen = omega (arith, f.seen); below = f.below; before = up_to (λ q. cuts h l q < most h l q → Before p q) d f.before }

        from : (b c : Bool) → ltb (cuts h l r) (most h l r) ≡ b → ltb (cuts h l r) (cuts h l p) ≡ c → Best (suc k) (cond (b && c) (Some r) (Some p))
        from true true e d = record {
          seen = omega arith;
          below = ltb-true _ _ e;
          before = up_to (λ q. cuts h l q < most h l q → Before r q) (λ b. inr (refl, omega arith)) (λ q n b. over (ltb-true _ _ d) q (f.before q n b));
        }
        from true false e d = stays (λ b. by_lt (cuts h l p) (cuts h l r) (λ c. inl c) (λ c. inr (omega (arith, c, ltb-false (cuts h l r) (cuts h l p) d), omega (arith, f.seen))))
        from false c e d = stays (λ b. absurd (omega (arith, b, ltb-false (cuts h l r) (most h l r) e)))

  chosen_best : Best 3 (chosen h l)
  unfolding chosen
  chosen_best =
      best 2 Third refl (better h l (better h l None First) Second) (best 1 Second refl (better h l None First) (best 0 First refl None (λ q n. absurd (none q n))))
    where
      none : (q : Direction) → number q ≤ 0 → ⊥
      none First n = NatL.not-suc-le-zero n
      none Second n = NatL.not-suc-le-zero n
      none Third n = NatL.not-suc-le-zero n

  every_one : (q : Direction) → number q ≤ 3
  every_one First = omega arith
  every_one Second = omega arith
  every_one Third = omega arith

  due : {r : Direction} → BestOne 3 r → DirectionDue h l r
  due b = record { below = b.below; fewest = λ q c. b.before q (every_one q) c }

  -- ---- what can be cut
  small : (r : Direction) → can_cut h (direction r) l ≡ true → CanBeCut h l r
  small r e i b = (every_says (limit (degrees h ! direction r)) (numbers l)).fact e i (rw (whole h l long) b)

  large : (r : Direction) → can_cut h (direction r) l ≡ false → CanBeCut h l r → ⊥
  large r e c =
      let f : can_cut h (direction r) l ≡ true = (every_says (limit (degrees h ! direction r)) (numbers l)).passes (λ i b. c i (rw (whole h l long) at b)) in
      let z : ◌≡◌ {A = ℕ} 0 1 = cc in omega arith

  -- ---- the steps in order
  module _ (deep : (r : Direction) → cuts h l r ≤ most h l r) where
    by_direction : MixedBelow h l h.m → (c : Option Direction) → Best 3 c → Says h l (as_look (by_choice (able h l) c))
    by_direction m None b = (m, inl (refl, λ r. omega (arith, deep r, b r (every_one r))))
    by_direction m (Some r) b = from (can_cut h (direction r) l) refl
      where
        from : (t : Bool) → can_cut h (direction r) l ≡ t → Says h l (as_look (cond t (Outcome.Cut r) (Outcome.Kept 2)))
        from true e = (m, due b, small r e)
        from false e = (m, inr (refl, (r, due b, large r e)))

    by_sign : (d : Option (ℕ × Sign)) → Told h.m (size (degrees h)) 1 (numbers l) d → Says h l (as_look (looked_by h l d (able h l)))
    by_sign (Some (p, s)) t = record {
      which = t.which;
      is_one = t.is_one;
      number = t.number;
      decides = one_sided h l long t.which t.is_one s t.decides;
      lowest = mixed h l long t.which (omega (arith, t.is_one)) t.lowest;
    }
    by_sign None t = by_direction (mixed h l long h.m (omega arith) t) (chosen h l) chosen_best

pub rules_mean : RulesMean
unfolding looked
rules_mean h l long deep = by_sign h l long deep (decided h.m (size (degrees h)) 1 (numbers l)) (tell h.m (size (degrees h)) 1 (numbers l))
