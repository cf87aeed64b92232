-- A head that passes `head_ok` keeps 01's limits, and the other way round; what a head within limits is in size. Assumes nothing.
use mathlib.Core.Path.{◌≡◌, refl, sym, ◌∙◌}
use mathlib.Core.Bool.{Bool, true, false, cond}
use Prim.Native.Nat.{ℕ, ◌+◌, ◌*◌, ◌≤◌, ◌<◌}
use native.Mathlib.Omega.{arith}
use Rattle.bernstein.specs.Three.{first, second, third, ◌!◌}
use Rattle.bernstein.specs.Places.{size}
use Rattle.bernstein.specs.Frames.{Lawful}
use Rattle.bernstein.proofs.Frames.{boxes_lawful}
use Rattle.system.specs.declared.head.Head.{Head}
use Rattle.std.specs.Prelude.{Result, Ok, Err, ⊤}
use Rattle.system.specs.declared.refusal.Refused.{Refused}
use Rattle.system.specs.declared.refusal.Refusal.{Refusal}
use Rattle.system.specs.Refusals.{at_start}
use Rattle.system.specs.Claims.{HeadLimits}
use Rattle.system.specs.Directions.{direction_number, between}
use Rattle.system.specs.Heads.{degrees, depths, places, depth, width, variable_ok, head_ok, Limits, checked, frame}
use Rattle.system.proofs.Says.{Says, le_says, eq_says, and_says, beyond_says, each_says, says_as}
use Rattle.system.proofs.Sizes.{product_high}

between_says : (a b x : ℕ) → Says (between a b x) ((a ≤ x) × (x ≤ b))
between_says a b x = and_says (le_says a x) (le_says x b)

variable_says : (l r n g : ℕ) → Says (variable_ok l r n g) (((n ≤ 6) × (g ≤ 10)) × (l < r → (n ≡ 0) × (g ≡ 0)))
variable_says l r n g = and_says (and_says (le_says n 6) (le_says g 10)) (beyond_says r l (and_says (eq_says n 0) (eq_says g 0)))

pub head_says : (h : Head) → Says (head_ok h) (Limits h)
unfolding head_ok
head_says h =
    says_as
    (and_says
    (and_says (and_says (between_says 1 3 h.l) (between_says 1 3 h.m))
    (each_says (λ r. variable_says h.l (direction_number r) (degrees h ! r) (depths h ! r))))
    (le_says (size (degrees h)) 64))
    (λ t. record {
      l_low = t.0.0.0.0;
      l_high = t.0.0.0.1;
      m_low = t.0.0.1.0;
      m_high = t.0.0.1.1;
      degrees_high = record { small = λ r. (t.0.1 r).0.0 };
      depths_high = λ r. (t.0.1 r).0.1;
      beyond = λ r. (t.0.1 r).1;
      size_high = t.1;
    })
    (λ k. (
      (
        ((k.l_low, k.l_high), (k.m_low, k.m_high)),
        λ r. ((k.degrees_high.small r, k.depths_high r), k.beyond r),
      ),
      k.size_high,
    ))

pub head_limits : HeadLimits
head_limits h = ((head_says h).fact, (head_says h).passes)

-- ---- the answer of `check`
abbrev pub Answers : Head → Result ⊤ Refused → Type 0
Answers h (Ok u) = Limits h
Answers h (Err w) = (w ≡ at_start Refusal.OutOfLimits) × (Limits h → ⊥)

checked_cases : (h : Head) (t : Bool) → head_ok h ≡ t → (w : Result ⊤ Refused) → cond t (Ok tt) (Err (at_start Refusal.OutOfLimits)) ≡ w → Answers h w
checked_cases h true e (Ok u) p = (head_says h).fact e
checked_cases h true e (Err w) p = let z : ◌≡◌ {A = ℕ} 0 1 = cc in absurd (omega arith)
checked_cases h false e (Ok u) p = let z : ◌≡◌ {A = ℕ} 0 1 = cc in absurd (omega arith)
checked_cases h false e (Err w) p = (cc, λ k. let b : ◌≡◌ {A = Bool} true false = sym ((head_says h).passes k) ∙ e in let z : ◌≡◌ {A = ℕ} 0 1 = cc in omega arith)

-- what an answer tells
pub checked_tells : (h : Head) (w : Result ⊤ Refused) → checked h ≡ w → Answers h w
checked_tells h w p = checked_cases h (head_ok h) refl w p

pub checked_limits : (h : Head) → head_ok h ≡ true → Limits h
checked_limits h = (head_says h).fact

pub limits_good : (h : Head) → Limits h → checked h ≡ (Ok tt)
limits_good h k = rw ((head_says h).passes k)

-- ---- sizes, for every head
pub size_low : (h : Head) → 1 ≤ size (degrees h)
unfolding size
size_low h = product_low ((h.n1 + 1) * (h.n2 + 1)) (h.n3 + 1) (product_low (h.n1 + 1) (h.n2 + 1) (omega arith) (omega arith)) (omega arith)
  where
    product_low : (a b : ℕ) → 1 ≤ a → 1 ≤ b → 1 ≤ a * b
    product_low a b p q = product_high 1 1 a b p q

-- ---- the frame of a head within limits
pub lawful : (h : Head) → Limits h → Lawful (frame h)
lawful h k = boxes_lawful (degrees h) k.degrees_high k.size_high

-- ---- sizes within limits
module _ (h : Head) (k : Limits h) where
  pub places_low : 1 ≤ places h
  unfolding places
  places_low = product_high 1 1 h.m (size (degrees h)) k.m_low (size_low h)

  pub places_high : places h ≤ 192
  unfolding places
  places_high = product_high h.m (size (degrees h)) 3 64 k.m_high k.size_high

  pub width_high : width h ≤ 198
  width_high = omega (arith, places_high)

  pub depth_high : depth h ≤ 30
  depth_high = omega (arith, k.depths_high first, k.depths_high second, k.depths_high third)

  -- D + 1 slots
  pub slots_high : (depth h + 1) * width h ≤ 6138
  slots_high = product_high (depth h + 1) (width h) 31 198 (omega (arith, depth_high)) width_high
