-- Work on some lines, then on w more that share no place with them, is work on all of them; and the loops over the lines of a block and over blocks.
-- For any work that looks at a line's first n + 1 entries alone. Assumes nothing.
use mathlib.Core.Path.{◌≡◌, refl, sym, ◌∙◌, ap, subst}
use mathlib.Core.Logic.{◌⊎◌, inl, inr, ⊎_elim}
use mathlib.Core.List.{List}
use Prim.Native.Nat.{ℕ, ◌+◌, ◌*◌, ◌-◌, ◌^◌, ◌≤◌, ◌<◌}
use native.Mathlib.Omega.{arith}
use lib.IntN.{ℤ}
use Rattle.whole.specs.Size.{Below}
use Rattle.whole.proofs.Parts.{by_lt}
use Rattle.lines.specs.Lines.{at, Line, along, Under, Worked, InBlocks, ReadyBlocks}
use Rattle.lines.specs.Inside.{Ready}
use Rattle.lines.proofs.Rows.{row_le, row_lt, same_row}
use Rattle.lines.proofs.Rooms.{one_place, less_room}

-- ---- work that looks at the first n + 1 entries alone
abbrev pub Local : {H : Type 0} → ℕ → (H → Line → Line) → Type 0
Local {H} n work = (h : H) (b e : Line) → ((j : ℕ) → j ≤ n → b j ≡ e j) → (j : ℕ) → j ≤ n → work h b j ≡ work h e j

module _ {H : Type 0} {base : H → ℕ} {from : H} {inner n : ℕ} {work : H → Line → Line} where
  pub none : {F : ℕ → Type 0} {l : List ℤ} → ((f : ℕ) → F f → ⊥) → Worked work base from F inner n l l
  none empty = record { size = refl; entries = λ h f j k m. absurd (empty f k); kept = λ p o. refl }

  -- ---- w more lines, from line d on
  module _ {F G : ℕ → Type 0} (w d : ℕ) {old cur : List ℤ}
      (split : (f : ℕ) → G f → F f ⊎ ((d ≤ f) × (f - d < w))) (left : (f : ℕ) → F f → G f) (right : (g : ℕ) → g < w → G (d + g))
      (apart : (h k : H) (f g i j : ℕ) → F f → g < w → i ≤ n → j ≤ n → base h + f + i * inner ≡ base k + d + g + j * inner → ⊥)
      (t : Worked work base from F inner n old cur) where
    -- those lines are still as they were
    fresh : (g i : ℕ) → g < w → i ≤ n → at cur (base from + d + g + i * inner) ≡ at old (base from + d + g + i * inner)
    fresh g i h k = t.kept (base from + d + g + i * inner) (λ q f j hf jn z. apart q from f g j i hf h jn k (sym z))

    more : Local n work → {new : List ℤ} → Worked work (λ h. base h + d) from (Under w) inner n cur new → Worked work base from G inner n old new
    more same {new} c = record {
      size = c.size ∙ t.size;
      entries = λ h f j gf k. ⊎_elim (λ a. c.kept (base h + f + j * inner) (λ q g i hg m z. apart h q f g j i a hg k m z) ∙ t.entries h f j a k)
          (λ a. let e : base h + d + (f - d) ≡ base h + f = omega (arith, a.0) in let e' : base from + d + (f - d) ≡ base from + f = omega (arith, a.0) in
          subst (λ (x : ℕ). at new (x + j * inner) ≡ work h (along old (base from + f) inner) j) e
          (subst (λ (x : ℕ). at new (base h + d + (f - d) + j * inner) ≡ work h (along old x inner) j) e'
          (c.entries h (f - d) j a.1 k ∙ same h (along cur (base from + d + (f - d)) inner) (along old (base from + d + (f - d)) inner) (λ i m. fresh (f - d) i a.1 m) j k)))
          (split f gf);
      kept = λ p o. c.kept p (λ h g i hg m z. o h (d + g) i (right g hg) m (omega arith)) ∙ t.kept p (λ h f i hf m z. o h f i (left f hf) m z);
    }

  -- ---- the lines of a block: the first q are done
  pub no_line : {l : List ℤ} → Worked work base from (Under 0) inner n l l
  no_line = none (λ f h. omega arith)

  module _ {old l : List ℤ} {q : ℕ} (w : ℕ) (room : q + w ≤ inner) (y : Ready base from inner inner n old) (t : Worked work base from (Under q) inner n old l) where
    split_lines : (f : ℕ) → f < q + w → (f < q) ⊎ ((q ≤ f) × (f - q < w))
    split_lines f h = by_lt f q (λ p. inl p) (λ p. inr (p, omega arith))

    apart_lines : (h k : H) (f g i j : ℕ) → f < q → g < w → i ≤ n → j ≤ n → base h + f + i * inner ≡ base k + q + g + j * inner → ⊥
    apart_lines h k f g i j a b m m' z =
        let e : f + i * inner ≡ q + g + j * inner = one_place y.room h k (f + i * inner) (q + g + j * inner) (omega (arith, row_le inner m)) (omega (arith, row_le inner m')) (omega arith) in
        let r : i ≡ j = same_row inner i j f (q + g) (omega arith) (omega arith) e in
        let r' : i * inner ≡ j * inner = ap (λ (x : ℕ). x * inner) r in omega arith

    pub next_lines : Ready (λ h. base h + q) from w inner n l
    next_lines = record {
      degree = y.degree;
      apart = omega arith;
      room = less_room q (omega arith) t.size y.room;
      small = λ f i h k. rw (fresh w q split_lines (λ f p. omega arith) (λ g p. omega arith) apart_lines t f i h k)
          (let e : base from + (q + f) + i * inner ≡ base from + q + f + i * inner = omega arith in subst (λ (x : ℕ). Below (2 ^ (62 - n)) (at old x)) e (y.small (q + f) i (omega arith) k));
    }

    pub more_lines : Local n work → {m : List ℤ} → Worked work (λ h. base h + q) from (Under w) inner n l m → Worked work base from (Under (q + w)) inner n old m
    more_lines same c = more w q split_lines (λ f p. omega arith) (λ g p. omega arith) apart_lines t same c

  -- ---- blocks: the first o are done
  pub no_block : {size : ℕ} {l : List ℤ} → Worked work base from (InBlocks size inner 0) inner n l l
  no_block = none (λ f h. omega (arith, h.which))

  module _ {old l : List ℤ} {outer o : ℕ} (room : o < outer) (y : ReadyBlocks base from outer inner n old) (t : Worked work base from (InBlocks ((n + 1) * inner) inner o) inner n old l) where
    abbrev S : ℕ
    S = (n + 1) * inner

    -- a place of a block is within it, and a block before the end within the whole
    inside : (q i : ℕ) → q < inner → i ≤ n → q + i * inner < S
    inside q i h k = omega (arith, row_le inner k)

    pub whole : o * S + S ≤ outer * S
    whole = row_lt S room

    split_blocks : (f : ℕ) → InBlocks S inner (o + 1) f → InBlocks S inner o f ⊎ ((o * S ≤ f) × (f - o * S < inner))
    split_blocks f h = by_lt h.block o
        (λ p. inl (record { block = h.block; line = h.line; which = p; inside = h.inside; is = h.is }))
        (λ p. let e : h.block ≡ o = omega (arith, h.which) in let z : f ≡ o * S + h.line = rw (← e) h.is in inr (omega arith, omega (arith, h.inside)))

    left_blocks : (f : ℕ) → InBlocks S inner o f → InBlocks S inner (o + 1) f
    left_blocks f h = record { block = h.block; line = h.line; which = omega (arith, h.which); inside = h.inside; is = h.is }

    right_blocks : (g : ℕ) → g < inner → InBlocks S inner (o + 1) (o * S + g)
    right_blocks g h = record { block = o; line = g; which = omega arith; inside = h; is = refl }

    apart_blocks : (h k : H) (f g i j : ℕ) → InBlocks S inner o f → g < inner → i ≤ n → j ≤ n → base h + f + i * inner ≡ base k + o * S + g + j * inner → ⊥
    apart_blocks h k f g i j a b m m' z =
        let b₁ : f + i * inner < o * S = omega (arith, a.is, row_lt S a.which, inside a.line i a.inside m) in
        let b₂ : o * S + g + j * inner < outer * S = omega (arith, whole, inside g j b m') in
        omega (arith, one_place y.room h k (f + i * inner) (o * S + g + j * inner) (omega (arith, whole)) b₂ (omega arith))

    pub next_block : Ready (λ h. base h + o * S) from inner inner n l
    next_block = record {
      degree = y.degree;
      apart = omega arith;
      room = less_room (o * S) (omega (arith, whole)) t.size y.room;
      small = λ f i h k. rw (fresh inner (o * S) split_blocks left_blocks right_blocks apart_blocks t f i h k)
          (let e : base from + (o * S + (f + i * inner)) ≡ base from + o * S + f + i * inner = omega arith in
          subst (λ (x : ℕ). Below (2 ^ (62 - n)) (at old x)) e (y.small (o * S + (f + i * inner)) (omega (arith, whole, inside f i h k))));
    }

    pub more_blocks : Local n work → {m : List ℤ} → Worked work (λ h. base h + o * S) from (Under inner) inner n l m → Worked work base from (InBlocks S inner (o + 1)) inner n old m
    more_blocks same c = more inner (o * S) split_blocks left_blocks right_blocks apart_blocks t same c
