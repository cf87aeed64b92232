-- A row that is made at once and then stored: what calls of a closure that changes nothing leave in an array, and what the store holds as its numbers
-- are written. Assumes nothing.
use mathlib.Core.Path.{◌≡◌, refl, ◌∙◌, subst}
use mathlib.Core.List.{List}
use Prim.Native.Nat.{ℕ, zero, suc, ◌+◌, ◌≤◌, ◌<◌}
use native.Mathlib.Omega.{arith}
use denote.Param.Members.{Mut, Called}
use lib.IntN.{ℤ, pos}
use lib.ListN.{length, get_or, set, length-set}
use Rattle.whole.proofs.Parts.{set_case, by_lt}
use Rattle.std.specs.Array.{IsFromFnResult, IsFromFnResultFrom}
use Rattle.lines.specs.Lines.{at}
use Rattle.lines.specs.Inside.{RowPut}

module _ {F B : Type 0} (g : Mut F (ℕ × Unit {0}) B) (v : ℕ → B) (n : ℕ) (f : F)
    (one : (i : ℕ) (y : B) (q : F) → i < n → Called g f (i, tt) y q → (y ≡ v i) × (q ≡ f)) (ys : List B) where
  rest : (i m : ℕ) → i + m ≡ n → IsFromFnResultFrom g f ys i m → (k : ℕ) → i ≤ k → k < n → (d : B) → get_or ys k d ≡ v k
  rest i zero e r k h h' d = absurd (omega arith)
  rest i (suc m) e (q, y, is, called, more) k h h' d =
      let s = one i y q (omega arith) called in
      by_lt k (i + 1) (λ p. let z : k ≡ i = omega arith in rw z (is.1 d ∙ s.0))
      (λ p. rest (i + 1) m (omega arith) (subst (λ x. IsFromFnResultFrom g x ys (i + 1) m) s.1 more) k p h' d)

  pub made : IsFromFnResult g f ys n → (k : ℕ) → k < n → (d : B) → get_or ys k d ≡ v k
  made r k h d = rest 0 n (omega arith) r.each k (omega arith) h d

-- one number more is stored
pub none_put : {l : List ℤ} {a : ℕ} {v : ℕ → ℤ} → RowPut a 0 v l l
none_put = record { size = refl; put = λ f h. absurd (omega arith); kept = λ p o. refl }

pub one_put : {l m : List ℤ} {a f : ℕ} {v : ℕ → ℤ} {x : ℤ} → a + f < length l → x ≡ v f → RowPut a f v l m → RowPut a (f + 1) v l (set m (a + f) x)
one_put {l} {m} {a} {f} {v} {x} fits is r =
    let b : a + f < length m = omega (arith, r.size) in
    record {
      size = length-set m (a + f) x ∙ r.size;
      put = λ g h. set_case (λ y. y ≡ v g) m (a + f) (a + g) x (pos 0) b (λ e. let z : g ≡ f = omega arith in rw z is)
          (λ o. r.put g (by_lt g f (λ k. k) (λ k. absurd (o (omega arith)))));
      kept = λ p o. set_case (λ y. y ≡ at l p) m (a + f) p x (pos 0) b (λ e. absurd (o f (omega arith) e)) (λ n. r.kept p (λ g h. o g (omega arith)));
    }

-- a row of numbers that are known
pub row_is : {l m : List ℤ} {a w : ℕ} {u v : ℕ → ℤ} → ((f : ℕ) → f < w → u f ≡ v f) → RowPut a w u l m → RowPut a w v l m
row_is e r = record { size = r.size; put = λ f h. r.put f h ∙ e f h; kept = r.kept }
