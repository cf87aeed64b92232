-- The definitions mean what they say: the moved polynomial is the polynomial at the moved point, and Bernstein's form with formula (2) is the polynomial, times the
-- scale. In three directions from one (Exactness). Assumes nothing.
use mathlib.Core.Path.{◌≡◌, sym, ◌∙◌, ap, fun_ext}
use Prim.Native.Nat.{◌-◌}
use lib.IntN.{pos, pow, ◌-ℤ◌, ◌*ℤ◌}
use Rattle.whole.specs.Sums.{choose}
use Rattle.bernstein.specs.Three.{Direction, first, second, third, ◌!◌, product}
use Rattle.bernstein.specs.Numbers.{scale, weight, moved}
use Rattle.bernstein.specs.Points.{bernstein_value}
use Rattle.bernstein.specs.Claims.{ExactMeans, moved_to, finer, MovedMeans, FormulaMeans}
use Rattle.bernstein.proofs.Functionals.{Line}
use Rattle.bernstein.proofs.Weights.{weights}
use Rattle.bernstein.proofs.Exactness.{moved_line, value_line, bernstein_line, formula_functional, value_functional, bernstein_functional, bernstein_is, moved_is_at}
use Rattle.bernstein.proofs.Nested.{sum_upto_cong, nested, nested_product, sum_nested, lift}
use Rattle.bernstein.proofs.Boxes.{formula_nested, value_nested, of_moved}

pub moved_means : MovedMeans
moved_means n b a Y Q =
    value_nested n Y Q _ ∙ of_moved n b a (λ r. value_functional (n ! r) (Y ! r) (Q ! r)) each ∙ sym (value_nested n _ _ a)
  where
    each : (r : Direction) (f : Line) → value_line (n ! r) (Y ! r) (Q ! r) (λ t. moved_line (n ! r) (b ! r) t f) ≡ value_line (n ! r) (moved_to b Y Q ! r) (finer b Q ! r) f
    each first f = moved_is_at n.x₁ b.x₁ f Y.x₁ Q.x₁
    each second f = moved_is_at n.x₂ b.x₂ f Y.x₂ Q.x₂
    each third f = moved_is_at n.x₃ b.x₃ f Y.x₃ Q.x₃

pub formula_means : FormulaMeans
unfolding bernstein_value
formula_means n m c Y Q =
    sum_nested n (λ r j. pos (choose (n ! r) j) *ℤ pow (Y ! r) j *ℤ pow (Q ! r -ℤ Y ! r) (n ! r - j)) _
    ∙ ap (nested (λ r. bernstein_line (n ! r) (Y ! r) (Q ! r))) (fun_ext (formula_nested n c))
    ∙ lift (λ r. bernstein_functional (n ! r) (Y ! r) (Q ! r)) (λ r j. (formula_functional (weight (n ! r)) j).linear) (λ r f. bernstein_is (weights (n ! r) (m.small r)) f (Y ! r) (Q ! r)) c
    ∙ nested_product (λ r. (value_functional (n ! r) (Y ! r) (Q ! r)).linear) (λ r. pos (scale (n ! r))) c
    ∙ ap (λ z. product (λ r. pos (scale (n ! r))) *ℤ z) (sym (value_nested n Y Q c))

-- Together: exact numbers on a box are, times the scale and the powers of two, the coefficients of Bernstein's form of the polynomial there.
pub exact_means : ExactMeans
unfolding bernstein_value
exact_means n m b a p e Y Q =
    sum_upto_cong n _ _ (λ j u. ap (λ z. product (λ r. pos (choose (n ! r) (j ! r)) *ℤ pow (Y ! r) (j ! r) *ℤ pow (Q ! r -ℤ Y ! r) (n ! r - j ! r)) *ℤ z) (e.exact j u))
    ∙ formula_means n m (moved n b a) Y Q ∙ ap (λ z. product (λ r. pos (scale (n ! r))) *ℤ z) (moved_means n b a Y Q)
