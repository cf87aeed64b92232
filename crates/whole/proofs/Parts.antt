-- A part of a list, `take (e - a) (drop a l)`, as a lent part of a slice is: its elements, the whole after the part came back, and an element after a store.
-- Assumes nothing.
use mathlib.Core.Path.{◌≡◌, refl, sym, ap, ◌∙◌, subst}
use mathlib.Core.Logic.{◌↔◌}
use mathlib.Core.List.{List, ◌++◌}
use borrow.Rule.Slice.PartMut.{put_mid, post_of}
use Prim.Native.Nat.{ℕ, ◌+◌, ◌-◌, ◌≤◌, ◌<◌}
use native.Mathlib.Omega.{arith}
use native.Mathlib.Decide.{ℕ_discrete, dec_lt}
use lib.ListN.{length, get_or, set, take, drop, length-take, length-drop, get_or-append}
use lib.Seq.{get_or-set_same, get_or-set_other, get_or-take, get_or-drop, get_or-append-add, length-take-le}

module _ {A : Type 0} (l : List A) (a e : ℕ) (d : A) (h : a ≤ e) (k : e ≤ length l) where
  pub part_length : length (take (e - a) (drop a l)) ≡ e - a
  part_length = simp (length-take, length-drop) (omega arith)

  pub part_at : (i : ℕ) → i < e - a → get_or (take (e - a) (drop a l)) i d ≡ get_or l (a + i) d
  part_at i p = rw (get_or-take, get_or-drop) refl

  pub each_part : (P : A → Type 0) → ((i : ℕ) → i < length (take (e - a) (drop a l)) → P (get_or (take (e - a) (drop a l)) i d)) ↔ ((i : ℕ) → a ≤ i → i < e → P (get_or l i d))
  each_part P = (
    λ f i p q. subst (λ (j : ℕ). P (get_or l j d)) (back i p) (subst P (part_at (i - a) (omega arith)) (f (i - a) (rw part_length (omega arith)))),
    λ g i q. let r : i < e - a = rw part_length at q in subst P (sym (part_at i r)) (g (a + i) (omega arith) (omega arith)),
  )
    where
      back : (i : ℕ) → a ≤ i → a + (i - a) ≡ i
      back i p = omega arith

-- ---- the whole after a part of it, lent as `&mut s[a..e]`, came back as ys: `put_mid a k xs ys` (`borrow.Rule.Slice.PartMut`), k elements from a on
get_or_right : {A : Type 0} (xs ys : List A) (d : A) (i : ℕ) → length xs ≤ i → get_or (xs ++ ys) i d ≡ get_or ys (i - length xs) d
get_or_right xs ys d i h = let e : length xs + (i - length xs) ≡ i = omega arith in subst (λ (j : ℕ). get_or (xs ++ ys) j d ≡ get_or ys (i - length xs) d) e (get_or-append-add xs ys (i - length xs) d)

module _ {A : Type 0} (xs ys : List A) (a k : ℕ) (d : A) (fit : a + k ≤ length xs) (len : length ys ≡ k) where
  head : length (take a xs) ≡ a
  head = length-take-le a xs (omega arith)

  pub put_before : (i : ℕ) → i < a → get_or (put_mid a k xs ys) i d ≡ get_or xs i d
  put_before i h = get_or-append (take a xs) (ys ++ post_of a k xs) d i (omega (arith, head)) ∙ get_or-take a xs i d h

  pub put_in : (j : ℕ) → j < k → get_or (put_mid a k xs ys) (a + j) d ≡ get_or ys j d
  put_in j h =
      let e : a + j - length (take a xs) ≡ j = omega (arith, head) in
      get_or_right (take a xs) (ys ++ post_of a k xs) d (a + j) (omega (arith, head)) ∙ rw e (get_or-append ys (post_of a k xs) d j (omega arith))

  pub put_after : (i : ℕ) → a + k ≤ i → get_or (put_mid a k xs ys) i d ≡ get_or xs i d
  put_after i h =
      let e : a + (k + (i - length (take a xs) - length ys)) ≡ i = omega (arith, head) in
      get_or_right (take a xs) (ys ++ post_of a k xs) d i (omega (arith, head)) ∙ get_or_right ys (post_of a k xs) d (i - length (take a xs)) (omega (arith, head))
      ∙ get_or-drop k (drop a xs) (i - length (take a xs) - length ys) d ∙ get_or-drop a xs (k + (i - length (take a xs) - length ys)) d ∙ ap (λ (j : ℕ). get_or xs j d) e

-- ---- what stands at i after a store at j: by cases
pub set_case : {A : Type 0} (P : A → Type 0) (l : List A) (j i : ℕ) (v d : A) → j < length l → (i ≡ j → P v) → ((i ≡ j → ⊥) → P (get_or l i d)) → P (get_or (set l j v) i d)
set_case P l j i v d h here else = go (ℕ_discrete i j)
  where
    go : Dec (i ≡ j) → P (get_or (set l j v) i d)
    go (yes e) = rw (e, get_or-set_same l j v d h) (here e)
    go (no f) = rw (get_or-set_other l j i v d f) (else f)

-- ---- by cases on an order
pub by_lt : {P : Type 0} (a b : ℕ) → (a < b → P) → (b ≤ a → P) → P
by_lt {P} a b yes-case no-case = go (dec_lt a b)
  where
    go : Dec (a < b) → P
    go (yes p) = yes-case p
    go (no f) = no-case (not_lt f)
      where
        not_lt : (a < b → ⊥) → b ≤ a
        not_lt f = omega arith
