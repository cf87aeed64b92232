-- Which polynomial decides: the sign tests of the parts of a slot, as facts about its numbers. Assumes nothing.
use Rattle.std.specs.Prelude.{Option, Some, None}
use mathlib.Core.Path.{◌≡◌, refl, sym, ap, subst, ◌∙◌}
use mathlib.Core.Bool.{Bool, true, false, cond}
use mathlib.Core.List.{List, [], ◌∷◌}
use Prim.Native.Nat.{ℕ, zero, suc, ◌+◌, ◌*◌, ◌≤◌, ◌<◌}
use native.Mathlib.Omega.{arith}
use native.Mathlib.Nat as NatL
use lib.Dec.{T}
use lib.IntN.{ℤ, pos}
use lib.ListN.{length, take, drop, length-take, length-drop}
use lib.Seq.{get_or-take, get_or-drop, drop-drop}
use Rattle.bernstein.specs.Points.{Has}
use Rattle.bernstein.specs.Places.{size}
use Rattle.system.specs.declared.head.Head.{Head}
use Rattle.whole.specs.declared.Sign.{Sign}
use Rattle.whole.specs.declared.Sign.TheVariants.{Above, Below}
use Rattle.system.specs.Heads.{degrees, places, width}
use Rattle.boxes.specs.Visits.{sign}
use Rattle.slots.specs.Slots.{at, numbers}
use Rattle.slots.specs.Rules.{every, has, decided}
use Rattle.slots.proofs.Decided.{every_at}
use Rattle.claims.specs.Rules.{OneSided, MixedBelow}

-- ---- 1. by the tests of the parts of a list
abbrev pub One : (S : ℕ) (xs : List ℤ) (t : ℕ) → Sign → Type 0
One S xs t s = every (has s) (take S (drop (t * S) xs)) ≡ true

abbrev pub NoneBelow : (S : ℕ) (xs : List ℤ) (t : ℕ) → Type 0
NoneBelow S xs t = (u : ℕ) → u < t → (s : Sign) → One S xs u s → ⊥

pub record FirstOne (count S p : ℕ) (xs : List ℤ) (q : ℕ) (s : Sign) : Type 0 where
  pub which : ℕ
  pub is_one : which < count
  pub number : q ≡ p + which
  pub decides : One S xs which s
  pub lowest : NoneBelow S xs which

abbrev pub Told : (count S p : ℕ) (xs : List ℤ) → Option (ℕ × Sign) → Type 0
Told count S p xs (Some (q, s)) = FirstOne count S p xs q s
Told count S p xs None = NoneBelow S xs count

pub tell : (count S p : ℕ) (xs : List ℤ) → Told count S p xs (decided count S p xs)
unfolding decided
tell zero S p xs = λ u l s e. NatL.not-suc-le-zero l
tell (suc count) S p xs = from (every (has Above) (take S xs)) (every (has Below) (take S xs)) refl refl (tell count S (suc p) (drop S xs))
  where
    none : 0 * S ≡ 0
    none = NatL.zero-mul S

    more : (w : ℕ) → S + w * S ≡ suc w * S
    more w = omega arith

    first : (s : Sign) → every (has s) (take S xs) ≡ true → FirstOne (suc count) S p xs p s
    first s f = record { which = 0; is_one = omega arith; number = omega arith; decides = rw none f; lowest = λ u l s e. NatL.not-suc-le-zero l }

    later : (w : ℕ) (s : Sign) → One S (drop S xs) w s ≡ One S xs (suc w) s
    later w s = ap (λ (ys : List ℤ). every (has s) (take S ys) ≡ true) (drop-drop (w * S) S xs ∙ ap (λ (n : ℕ). drop n xs) (more w))

    is_not : {b : Bool} → b ≡ false → b ≡ true → ⊥
    is_not e f = let z : ◌≡◌ {A = ℕ} 0 1 = cc in omega arith

    shift : every (has Above) (take S xs) ≡ false → every (has Below) (take S xs) ≡ false → (n : ℕ) → NoneBelow S (drop S xs) n → NoneBelow S xs (suc n)
    shift f g n m zero l Above e = is_not f (rw none at e)
    shift f g n m zero l Below e = is_not g (rw none at e)
    shift f g n m (suc u) l s e = m u (omega arith) s (subst (λ (X : Type 0). X) (sym (later u s)) e)

    after : every (has Above) (take S xs) ≡ false → every (has Below) (take S xs) ≡ false → (d : Option (ℕ × Sign)) → Told count S (suc p) (drop S xs) d → Told (suc count) S p xs d
    after f g (Some (q, s)) t = record {
      which = suc t.which;
      is_one = omega (arith, t.is_one);
      number = omega (arith, t.number);
      decides = subst (λ (X : Type 0). X) (later t.which s) t.decides;
      lowest = shift f g t.which t.lowest;
    }
    after f g None t = shift f g count t

    from : (a b : Bool) → every (has Above) (take S xs) ≡ a → every (has Below) (take S xs) ≡ b → Told count S (suc p) (drop S xs) (decided count S (suc p) (drop S xs))
        → Told (suc count) S p xs (cond a (Some (p, Above)) (cond b (Some (p, Below)) (decided count S (suc p) (drop S xs))))
    from true b f g t = first Above f
    from false true f g t = first Below g
    from false false f g t = after f g (decided count S (suc p) (drop S xs)) t

-- ---- the tests as facts about numbers
every_of : (f : ℤ → Bool) (xs : List ℤ) → ((i : ℕ) → i < length xs → f (at xs i) ≡ true) → every f xs ≡ true
unfolding every
every_of f [] a = refl
every_of f (x ∷ xs) a = rw (a 0 (omega arith)) (every_of f xs (λ i l. a (suc i) (omega arith)))

is_true : (b : Bool) → T b → b ≡ true
is_true true t = refl
is_true false t = absurd t

has_sign : (s : Sign) (z : ℤ) → has s z ≡ true → Has (sign s) z
has_sign Above z e = record { lt = subst T (sym e) tt }
has_sign Below z e = record { lt = subst T (sym e) tt }

sign_has : (s : Sign) (z : ℤ) → Has (sign s) z → has s z ≡ true
sign_has Above z p = is_true (has Above z) p.lt
sign_has Below z p = is_true (has Below z) p.lt

module _ (h : Head) (l : List ℤ) (long : length l ≡ width h) where
  abbrev pub S : ℕ
  S = size (degrees h)

  pub whole : length (numbers l) ≡ places h
  whole = simp length-drop (omega (arith, long))

  module _ (t : ℕ) (m : t < h.m) (s : Sign) where
    part : length (take S (drop (t * S) (numbers l))) ≡ S
    unfolding places
    part =
        let a : suc t * S ≤ h.m * S = NatL.mul-le-mul_right S m in
        simp (length-take, length-drop) (omega (arith, long, a))

    number_at : (i : ℕ) → i < S → at (take S (drop (t * S) (numbers l))) i ≡ at (numbers l) (t * S + i)
    number_at i b = get_or-take S (drop (t * S) (numbers l)) i (pos 0) b ∙ get_or-drop (t * S) (numbers l) i (pos 0)

    pub one_sided : One S (numbers l) t s → OneSided h l t s
    one_sided e = record { has = λ i b. has_sign s _ (subst (λ (z : ℤ). has s z ≡ true) (number_at i b) (every_at (has s) (take S (drop (t * S) (numbers l))) e i (rw part b))) }

    pub sided_one : OneSided h l t s → One S (numbers l) t s
    sided_one o = every_of (has s) (take S (drop (t * S) (numbers l))) (λ i b. let c : i < S = rw part at b in subst (λ (z : ℤ). has s z ≡ true) (sym (number_at i c)) (sign_has s _ (o.has i c)))

  pub mixed : (t : ℕ) → t ≤ h.m → NoneBelow S (numbers l) t → MixedBelow h l t
  mixed t m n u b s o = n u b s (sided_one u (omega arith) s o)
