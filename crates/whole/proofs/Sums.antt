-- Laws of finite sums of whole numbers: clauses, splitting, linearity, double sums. Assumes nothing.
use mathlib.Core.Path.{◌≡◌, refl, sym, ◌∙◌, ap, ap₂}
use Prim.Native.Nat.{ℕ, zero, suc, ◌+◌, ◌*◌, ◌≤◌, ◌<◌}
use native.Mathlib.Omega.{arith}
use native.Mathlib.Nat as NatL
use lib.IntN.{ℤ, pos, nat_abs, ◌+ℤ◌, ◌*ℤ◌, +ℤ_idr, +ℤ_assoc, +ℤ_comm, *ℤ-zero, zero-*ℤ}
use Rattle.whole.specs.Sums.{sum_to}
use Rattle.whole.proofs.Ring.{+ℤ-swap, *ℤ-distr-l, *ℤ-distr-r}
use Rattle.whole.proofs.Sizes.{nat_abs-+}

-- its clauses, as equations
pub sum_none : (f : ℕ → ℤ) → sum_to 0 f ≡ pos 0
unfolding sum_to
sum_none f = refl

pub sum_last : (n : ℕ) (f : ℕ → ℤ) → sum_to (suc n) f ≡ sum_to n f +ℤ f n
unfolding sum_to
sum_last n f = refl

pub sum_first : (n : ℕ) (f : ℕ → ℤ) → sum_to (suc n) f ≡ f 0 +ℤ sum_to n (λ i. f (suc i))
unfolding sum_to
sum_first zero f = +ℤ_comm (pos 0) (f 0)
sum_first (suc n) f = ap (λ z. z +ℤ f (suc n)) (sum_first n f) ∙ +ℤ_assoc (f 0) (sum_to n (λ i. f (suc i))) (f (suc n))

pub sum_split : (m n : ℕ) (f : ℕ → ℤ) → sum_to (m + n) f ≡ sum_to m f +ℤ sum_to n (λ i. f (m + i))
unfolding sum_to
sum_split m zero f = ap (λ (k : ℕ). sum_to k f) (NatL.add-zero m) ∙ sym (+ℤ_idr (sum_to m f))
sum_split m (suc n) f = ap (λ (k : ℕ). sum_to k f) (NatL.add-suc m n) ∙ ap (λ z. z +ℤ f (m + n)) (sum_split m n f) ∙ +ℤ_assoc (sum_to m f) (sum_to n (λ i. f (m + i))) (f (m + n))

pub sum_cong : (n : ℕ) (f g : ℕ → ℤ) → ((i : ℕ) → i < n → f i ≡ g i) → sum_to n f ≡ sum_to n g
unfolding sum_to
sum_cong zero f g h = refl
sum_cong (suc n) f g h = ap₂ ◌+ℤ◌ (sum_cong n f g (λ i l. h i (omega arith))) (h n (omega arith))

pub sum_zeros : (n : ℕ) (f : ℕ → ℤ) → ((i : ℕ) → i < n → f i ≡ pos 0) → sum_to n f ≡ pos 0
unfolding sum_to
sum_zeros zero f h = refl
sum_zeros (suc n) f h = ap₂ ◌+ℤ◌ (sum_zeros n f (λ i l. h i (omega arith))) (h n (omega arith))

-- linearity
pub sum-+ : (n : ℕ) (f g : ℕ → ℤ) → sum_to n (λ i. f i +ℤ g i) ≡ sum_to n f +ℤ sum_to n g
unfolding sum_to
sum-+ zero f g = refl
sum-+ (suc n) f g = ap (λ z. z +ℤ (f n +ℤ g n)) (sum-+ n f g) ∙ +ℤ-swap (sum_to n f) (sum_to n g) (f n) (g n)

pub sum-*l : (n : ℕ) (c : ℤ) (f : ℕ → ℤ) → sum_to n (λ i. c *ℤ f i) ≡ c *ℤ sum_to n f
unfolding sum_to
sum-*l zero c f = sym (*ℤ-zero c)
sum-*l (suc n) c f = ap (λ z. z +ℤ c *ℤ f n) (sum-*l n c f) ∙ sym (*ℤ-distr-l c (sum_to n f) (f n))

pub sum-*r : (n : ℕ) (c : ℤ) (f : ℕ → ℤ) → sum_to n (λ i. f i *ℤ c) ≡ sum_to n f *ℤ c
unfolding sum_to
sum-*r zero c f = sym (zero-*ℤ c)
sum-*r (suc n) c f = ap (λ z. z +ℤ f n *ℤ c) (sum-*r n c f) ∙ sym (*ℤ-distr-r (sum_to n f) (f n) c)

-- double sums
pub sum_swap : (m n : ℕ) (f : ℕ → ℕ → ℤ) → sum_to m (λ i. sum_to n (λ j. f i j)) ≡ sum_to n (λ j. sum_to m (λ i. f i j))
unfolding sum_to
sum_swap zero n f = sym (sum_zeros n (λ j. pos 0) (λ i l. refl))
sum_swap (suc m) n f = ap (λ z. z +ℤ sum_to n (λ j. f m j)) (sum_swap m n f) ∙ sym (sum-+ n (λ j. sum_to m (λ i. f i j)) (λ j. f m j))

pub sum_abs : (n B : ℕ) (f : ℕ → ℤ) → ((i : ℕ) → i < n → nat_abs (f i) ≤ B) → nat_abs (sum_to n f) ≤ n * B
unfolding sum_to
sum_abs zero B f h = omega arith
sum_abs (suc n) B f h =
    let a : nat_abs (sum_to n f) ≤ n * B = sum_abs n B f (λ i l. h i (omega arith)) in
    let b : nat_abs (f n) ≤ B = h n (omega arith) in
    let c : nat_abs (sum_to n f +ℤ f n) ≤ nat_abs (sum_to n f) + nat_abs (f n) = nat_abs-+ (sum_to n f) (f n) in
    omega arith
