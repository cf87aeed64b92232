-- Laws of `All`, `Any`, `Both` and `sum`. Assumes nothing.
use mathlib.Core.Path.{◌≡◌, refl, ap}
use mathlib.Core.Logic.{◌⊎◌, inl, inr}
use mathlib.Core.List.{List, [], ◌∷◌, ◌++◌}
use lib.ListN.{length}
use Prim.Native.Nat.{ℕ, suc, ◌+◌}
use native.Mathlib.Omega.{arith}
use Rattle.search.specs.Lists.{All, Any, Both, sum}

module _ {A : Type 0} (P : A → Type 0) where
  pub all_snoc : (l : List A) (x : A) → All P l → P x → All P (l ++ (x ∷ []))
  all_snoc [] x a p = (p, tt)
  all_snoc (y ∷ l) x a p = (a.0, all_snoc l x a.1 p)

  pub any_snoc : (l : List A) (x : A) → Any P l ⊎ P x → Any P (l ++ (x ∷ []))
  any_snoc [] x (inr p) = inl p
  any_snoc (y ∷ l) x (inl (inl p)) = inl p
  any_snoc (y ∷ l) x (inl (inr a)) = inr (any_snoc l x (inl a))
  any_snoc (y ∷ l) x (inr p) = inr (any_snoc l x (inr p))
  any_snoc [] x (inl x4) = elim x4 [ ]

  pub any_map : (Q : A → Type 0) → ((x : A) → P x → Q x) → (l : List A) → Any P l → Any Q l
  any_map Q f (x ∷ l) (inl p) = inl (f x p)
  any_map Q f (x ∷ l) (inr a) = inr (any_map Q f l a)
  any_map Q f [] x' = elim x' [ ]

  -- Each member is related to some member, if to itself.
  pub all_self : (R : A → A → Type 0) → ((x : A) → R x x) → (l : List A) → ((x : A) → Any (R x) l → P x) → All P l
  all_self R r [] f = tt
  all_self R r (x ∷ l) f = (f x (inl (r x)), all_self R r l (λ y a. f y (inr a)))

pub sum_snoc : {A : Type 0} (f : A → ℕ) (l : List A) (x : A) → sum f (l ++ (x ∷ [])) ≡ sum f l + f x
sum_snoc f [] x = omega arith
sum_snoc f (y ∷ l) x = omega (arith, sum_snoc f l x)

module _ {A B : Type 0} (R : A → B → Type 0) where
  pub both_length : (l : List A) (m : List B) → Both R l m → length l ≡ length m
  both_length [] [] b = refl
  both_length (x ∷ l) (y ∷ m) b = ap suc (both_length l m b.1)
  both_length [] (y ∷ m) b = elim b [ ]
  both_length (x ∷ l) [] b = elim b [ ]

  pub both_append : (l : List A) (m : List B) (l' : List A) (m' : List B) → Both R l m → Both R l' m' → Both R (l ++ l') (m ++ m')
  both_append [] [] l' m' b c = c
  both_append (x ∷ l) (y ∷ m) l' m' b c = (b.0, both_append l m l' m' b.1 c)
  both_append [] (y ∷ m) l' m' b c = elim b [ ]
  both_append (x ∷ l) [] l' m' b c = elim b [ ]

module _ {A : Type 0} (R : A → A → Type 0) where
  pub both_path : (f : (x y : A) → R x y → x ≡ y) (l m : List A) → Both R l m → l ≡ m
  both_path f [] [] b = refl
  both_path f (x ∷ l) (y ∷ m) b = cc (f x y b.0, both_path f l m b.1)
  both_path f [] (y ∷ m) b = elim b [ ]
  both_path f (x ∷ l) [] b = elim b [ ]

  pub both_self : (r : (x : A) → R x x) (l : List A) → Both R l l
  both_self r [] = tt
  both_self r (x ∷ l) = (r x, both_self r l)
