-- Bytes put into a lent target: `over`, stores one after the other, and a run of puts. Assumes nothing.
use mathlib.Core.Path.{◌≡◌, refl, sym, ap, ◌∙◌}
use mathlib.Core.List.{List, [], ◌∷◌, ◌++◌, append_assoc, append-nil}
use Prim.Native.Nat.{ℕ, ◌+◌, ◌≤◌}
use native.Mathlib.Omega.{arith}
use native.Mathlib.Numerals.{add-one, add-two, add-three, add-four, add_five, add_six}
use lib.ListN.{length, take, drop, set, length-drop, length-append, take-append-drop}
use lib.Seq.{sets-eq, take_at, drop_at, drop-drop, length-take-le}
use Rattle.file.specs.Bytes.{over}

pub over_length : (t : List ℕ) (at : ℕ) (bs : List ℕ) → at + length bs ≤ length t → length (over t at bs) ≡ length t
unfolding over
over_length t at bs h =
    length-append (take at t) (bs ++ drop (at + length bs) t)
    ∙ rw (length-append bs (drop (at + length bs) t), length-drop (at + length bs) t, length-take-le at t (let z : at ≤ length t = omega arith in z)) (omega arith)

pub over_none : (t : List ℕ) (at : ℕ) → at ≤ length t → over t at [] ≡ t
unfolding over
over_none t at h = let e : at + 0 ≡ at = omega arith in rw e (take-append-drop at t)

-- one put behind another
pub over_over : (t : List ℕ) (at : ℕ) (ds bs : List ℕ) → at + (length ds + length bs) ≤ length t → over (over t at ds) (at + length ds) bs ≡ over t at (ds ++ bs)
unfolding over
over_over t at ds bs h =
    let tl : length (take at t) ≡ at = length-take-le at t (omega arith) in
    let fl : length (take at t ++ ds) ≡ at + length ds = length-append (take at t) ds ∙ rw tl refl in
    let s : take at t ++ (ds ++ drop (at + length ds) t) ≡ (take at t ++ ds) ++ drop (at + length ds) t = sym (append_assoc (take at t) ds (drop (at + length ds) t)) in
    let a : at + length ds + length bs ≡ at + (length ds + length bs) = omega arith in
    rw (s, take_at (take at t ++ ds) (drop (at + length ds) t) (at + length ds) fl)
    (rw (sym (drop-drop (length bs) (at + length ds) ((take at t ++ ds) ++ drop (at + length ds) t)), drop_at (take at t ++ ds) (drop (at + length ds) t) (at + length ds) fl, drop-drop (length bs) (at + length ds) t, length-append ds bs, a, append_assoc ds bs (drop (at + (length ds + length bs)) t))
    (append_assoc (take at t) ds (bs ++ drop (at + (length ds + length bs)) t)))

-- ---- stores
pub put1 : (t : List ℕ) (at b0 : ℕ) → at + 1 ≤ length t → set t at b0 ≡ over t at (b0 ∷ [])
unfolding over
put1 t at b0 h = sets-eq (b0 ∷ []) t at h ∙ append_assoc (take at t) (b0 ∷ []) (drop (at + 1) t)

pub put2 : (t : List ℕ) (at b0 b1 : ℕ) → at + 2 ≤ length t → set (set t at b0) (at + 1) b1 ≡ over t at (b0 ∷ b1 ∷ [])
unfolding over
put2 t at b0 b1 h = rw (add-one at) (sets-eq (b0 ∷ b1 ∷ []) t at h ∙ append_assoc (take at t) (b0 ∷ b1 ∷ []) (drop (at + 2) t))

pub put4 : (t : List ℕ) (at b0 b1 b2 b3 : ℕ) → at + 4 ≤ length t → set (set (set (set t at b0) (at + 1) b1) (at + 2) b2) (at + 3) b3 ≡ over t at (b0 ∷ b1 ∷ b2 ∷ b3 ∷ [])
unfolding over
put4 t at b0 b1 b2 b3 h = rw (add-one at, add-two at, add-three at) (sets-eq (b0 ∷ b1 ∷ b2 ∷ b3 ∷ []) t at h ∙ append_assoc (take at t) (b0 ∷ b1 ∷ b2 ∷ b3 ∷ []) (drop (at + 4) t))

pub put7 : (t : List ℕ) (at b0 b1 b2 b3 b4 b5 b6 : ℕ) → at + 7 ≤ length t
    → set (set (set (set (set (set (set t at b0) (at + 1) b1) (at + 2) b2) (at + 3) b3) (at + 4) b4) (at + 5) b5) (at + 6) b6 ≡ over t at (b0 ∷ b1 ∷ b2 ∷ b3 ∷ b4 ∷ b5 ∷ b6 ∷ [])
unfolding over
put7 t at b0 b1 b2 b3 b4 b5 b6 h =
    rw (add-one at, add-two at, add-three at, add-four at, add_five at, add_six at)
    (sets-eq (b0 ∷ b1 ∷ b2 ∷ b3 ∷ b4 ∷ b5 ∷ b6 ∷ []) t at h ∙ append_assoc (take at t) (b0 ∷ b1 ∷ b2 ∷ b3 ∷ b4 ∷ b5 ∷ b6 ∷ []) (drop (at + 7) t))

pub put_front : (t bs : List ℕ) → length bs ≤ length t → lib.Seq.sets t 0 bs ≡ over t 0 bs
unfolding over
put_front t bs h = let z : 0 + length bs ≤ length t = omega arith in sets-eq bs t 0 z

-- ---- a run of puts: of W, from at on, what is done and what is still to do
pub record Putting (t0 : List ℕ) (at : ℕ) (W : List ℕ) (o : ℕ) (t todo : List ℕ) : Type 0 where
  pub done : List ℕ
  pub all : done ++ todo ≡ W
  pub place : o ≡ at + length done
  pub so_far : t ≡ over t0 at done

module _ (t0 : List ℕ) (at : ℕ) (W : List ℕ) (fit : at + length W ≤ length t0) where
  pub putting_start : Putting t0 at W at t0 W
  putting_start = record { done = []; all = refl; place = omega arith; so_far = sym (over_none t0 at (omega arith)) }

  module _ (o : ℕ) (t bs rest : List ℕ) (i : Putting t0 at W o t (bs ++ rest)) where
    sizes : length i.done + (length bs + length rest) ≡ length W
    sizes = sym (ap length (sym i.all) ∙ length-append i.done (bs ++ rest) ∙ rw (length-append bs rest) refl)

    pub putting_same : length t ≡ length t0
    putting_same = ap length i.so_far ∙ over_length t0 at i.done (omega (arith, sizes))

    pub putting_fits : o + length bs ≤ length t
    putting_fits = omega (arith, sizes, putting_same, i.place)

    pub putting_turn : (o' : ℕ) (t' : List ℕ) → o' ≡ o + length bs → t' ≡ over t o bs → Putting t0 at W o' t' rest
    putting_turn o' t' eo et =
        record {
          done = i.done ++ bs;
          all = append_assoc i.done bs rest ∙ i.all;
          place = rw (length-append i.done bs) (omega (arith, i.place));
          so_far = et ∙ rw (i.so_far, i.place) (over_over t0 at i.done bs (omega (arith, sizes)));
        }

  pub putting_over : (o : ℕ) (t : List ℕ) → Putting t0 at W o t [] → (o ≡ at + length W) × (t ≡ over t0 at W)
  putting_over o t i =
      let e : i.done ≡ W = sym (append-nil i.done) ∙ i.all in
      (rw (← e) i.place, rw (← e) i.so_far)
