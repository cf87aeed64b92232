-- The loop of `lines`. After j stages entry i < j of a line is entry j - 1 after j - 1 - i steps: a column of the triangle. The lower half leaves from its foot,
-- and the last column, its entry i times 2 ^ i, is the upper half. Assumes nothing.
use mathlib.Core.Path.{◌≡◌, refl, sym, ◌∙◌, ap, ap₂, subst}
use mathlib.Core.List.{List}
use Prim.Native.Nat.{ℕ, zero, suc, ◌+◌, ◌*◌, ◌-◌, ◌^◌, ◌≤◌, ◌<◌}
use native.Mathlib.Omega.{arith}
use lib.Dec.{lit≤}
use lib.IntN.{ℤ, pos, ◌+ℤ◌, ◌*ℤ◌}
use lib.ListN.{length}
use Rattle.whole.specs.Half.{Half, lower, upper}
use Rattle.whole.specs.Size.{Below}
use Rattle.whole.proofs.Sizes.{below_le}
use Rattle.whole.proofs.Parts.{by_lt}
use Rattle.bernstein.specs.Numbers.{after, half_line}
use Rattle.bernstein.proofs.Lines.{after_sum, after_same}
use Rattle.bernstein.proofs.Sizes.{after_below, half_below}
use Rattle.lines.specs.Lines.{at, Line, along, Off, Under, InPlace, LinesCut, half_at}
use Rattle.lines.specs.Inside.{RowPut, sum_down, summed, raised, Row, Block, EntriesBelow, SumsBelow, RaisedBelow, Ready}
use Rattle.lines.proofs.Rows.{row_le, same_row, this_row, other_row, off_row}

-- ---- one line
after_still : (b : Line) (k j : ℕ) → j ≤ k → after b k j ≡ after b j j
after_still b zero j h = let e : j ≡ 0 = omega arith in rw e refl
after_still b (suc k) j h = by_lt k j (λ p. let e : j ≡ suc k = omega arith in rw e refl) (λ p. after_same b k j p ∙ after_still b k j p)

lower_is : (n : ℕ) (b : Line) (j : ℕ) → j ≤ n → pos (2 ^ (n - j)) *ℤ after b j j ≡ half_line lower n b j
unfolding half_line
lower_is n b j h = ap (λ (z : ℤ). pos (2 ^ (n - j)) *ℤ z) (sym (after_still b n j h))

upper_is : (n : ℕ) (b : Line) (k : ℕ) → pos (2 ^ k) *ℤ after b (n - k) n ≡ half_line upper n b k
unfolding half_line
upper_is n b k = refl

-- the sums of column j - 1, with b j after it, are column j
column : (b e : Line) (j : ℕ) → ((i : ℕ) → i < j → e i ≡ after b (j - 1 - i) (j - 1)) → e j ≡ b j → (d : ℕ) → d ≤ j → sum_down e j d ≡ after b d j
unfolding sum_down after
column b e j before last zero h = last
column b e j before last (suc d) h =
    let q : j - 1 - (j - suc d) ≡ d = omega arith in
    ap₂ ◌+ℤ◌ (before (j - suc d) (omega arith) ∙ ap (λ (x : ℕ). after b x (j - 1)) q) (column b e j before last d (omega arith)) ∙ sym (after_sum b d j h)

entry_small : (n : ℕ) → n ≤ 62 → (b : Line) → ((i : ℕ) → i ≤ n → Below (2 ^ (62 - n)) (b i)) → (i : ℕ) → i ≤ n → Below (2 ^ 62) (b i)
unfolding after
entry_small n h b s i k = after_below n h b s 0 i k

not_half : upper ≡ lower → ⊥
not_half e = let z : ◌≡◌ {A = ℕ} 0 1 = cc in omega arith

-- ---- the stages
pub record Staged (w up lo inner n : ℕ) (old : List ℤ) (j : ℕ) (l : List ℤ) : Type 0 where
  pub within : j ≤ n + 1
  pub size : length l ≡ length old
  pub done : (f i : ℕ) → f < w → i < j → at l (up + f + i * inner) ≡ after (along old (up + f) inner) (j - 1 - i) (j - 1)
  pub todo : (f i : ℕ) → f < w → j ≤ i → i ≤ n → at l (up + f + i * inner) ≡ at old (up + f + i * inner)
  pub lows : (f i : ℕ) → f < w → i < j → at l (lo + f + i * inner) ≡ half_line lower n (along old (up + f) inner) i
  pub kept : (p : ℕ) → ((h : Half) → Off (Under w) (half_at up lo h) inner n p) → at l p ≡ at old p

pub no_stage : {w up lo inner n : ℕ} {l : List ℤ} → Staged w up lo inner n l 0 l
no_stage = record {
  within = omega arith;
  size = refl;
  done = λ f i h a. absurd (omega arith);
  todo = λ f i h a b. refl;
  lows = λ f i h a. absurd (omega arith);
  kept = λ p o. refl;
}

module _ {w up lo inner n : ℕ} {old : List ℤ} (y : Ready (half_at up lo) upper w inner n old) where
  deg : n ≤ 62
  deg = omega (arith, y.degree)

  abbrev line : ℕ → Line
  line f = along old (up + f) inner

  inside : (f i : ℕ) → f < w → i ≤ n → f + i * inner < w + n * inner
  inside f i h k = omega (arith, row_le inner k)

  -- no place of a line is one of a lower half
  never : (f i g k : ℕ) → f < w → i ≤ n → g < w → k ≤ n → up + f + i * inner ≡ lo + g + k * inner → ⊥
  never f i g k h m h' m' z = not_half (y.room.once upper lower (f + i * inner) (g + k * inner) (inside f i h m) (inside g k h' m') (omega arith))

  pub block : {l : List ℤ} (m : ℕ) → m ≤ n → length l ≡ length old → Block w up inner m l
  block m h e = record { apart = y.apart; fits = omega (arith, row_le inner h, y.room.fits upper) }

  module _ {j : ℕ} {l : List ℤ} (jn : j ≤ n) (t : Staged w up lo inner n old j l) where
    pub entries_below : EntriesBelow w up inner j l
    entries_below f i h k = by_lt i j
        (λ q. rw (t.done f i h q) (after_below n deg (line f) (λ x r. y.small f x h r) (j - 1 - i) (j - 1) (omega arith)))
        (λ q. rw (t.todo f i h q (omega arith)) (entry_small n deg (line f) (λ x r. y.small f x h r) i (omega arith)))

    column_at : (f d : ℕ) → f < w → d ≤ j → sum_down (along l (up + f) inner) j d ≡ after (line f) d j
    column_at f d h k = column (line f) (along l (up + f) inner) j (λ i q. t.done f i h q) (t.todo f j h (omega arith) jn) d k

    pub sums_below : SumsBelow w up inner j l
    sums_below f d h k = rw (column_at f d h k) (after_below n deg (line f) (λ x r. y.small f x h r) d j jn)

    module _ {l₁ : List ℤ} (s : InPlace (summed j) (Under w) up inner j l l₁) where
      top : (f i : ℕ) → f < w → i ≤ j → at l₁ (up + f + i * inner) ≡ after (line f) (j - i) j
      top f i h k = s.entries tt f i h k ∙ column_at f (j - i) h (omega arith)

      foot : (f : ℕ) → f < w → at l₁ (up + f) ≡ after (line f) j j
      foot f h =
          let e : up + f + 0 * inner ≡ up + f = omega arith in let z : j - 0 ≡ j = omega arith in
          subst (λ (x : ℕ). at l₁ x ≡ after (line f) j j) e (rw z at (top f 0 h (omega arith)))

      foot_is : (f : ℕ) → f < w → pos (2 ^ (n - j)) *ℤ at l₁ (up + f) ≡ half_line lower n (line f) j
      foot_is f h = rw (foot f h) (lower_is n (line f) j jn)

      pub foot_row : Row (2 ^ 63) w up (λ z. pos (2 ^ (n - j)) *ℤ z) l₁
      foot_row = record {
        fits = omega (arith, y.room.fits upper, s.size, t.size);
        small = λ f h. rw (foot_is f h) (below_le (lit≤ tt) (half_below n deg (line f) (λ x r. y.small f x h r) lower j jn));
      }

      module _ {l₂ : List ℤ} (b : RowPut (lo + j * inner) w (λ f. pos (2 ^ (n - j)) *ℤ at l₁ (up + f)) l₁ l₂) where
        -- the lines at up are as the sums left them
        up_same : (f i : ℕ) → f < w → i ≤ n → at l₂ (up + f + i * inner) ≡ at l₁ (up + f + i * inner)
        up_same f i h k = b.kept (up + f + i * inner) (λ g hg z. never f i g j h k hg jn (omega arith))

        new_low : (f i : ℕ) → f < w → i < j + 1 → at l₂ (lo + f + i * inner) ≡ half_line lower n (line f) i
        new_low f i h k = by_lt i j
            (λ q. other_row lo inner j y.apart refl b f i h (λ e. omega arith)
            ∙ s.kept (lo + f + i * inner) (λ u g x hg m z. never g x f i hg (omega arith) h (omega arith) (sym z)) ∙ t.lows f i h q)
            (λ q. let e : i ≡ j = omega arith in rw e (this_row lo inner j y.apart refl b f h ∙ foot_is f h))

        pub stage : Staged w up lo inner n old (j + 1) l₂
        stage = record {
          within = omega arith;
          size = b.size ∙ s.size ∙ t.size;
          done = λ f i h k. let e : j + 1 - 1 - i ≡ j - i = omega arith in let e' : j + 1 - 1 ≡ j = omega arith in rw (e, e') (up_same f i h (omega arith) ∙ top f i h (omega arith));
          todo = λ f i h k m. up_same f i h m
              ∙ s.kept (up + f + i * inner) (λ u g x hg q z. let e : i ≡ x = same_row inner i x f g (omega (arith, y.apart)) (omega (arith, y.apart)) (omega arith) in omega arith)
              ∙ t.todo f i h (omega arith) m;
          lows = new_low;
          kept = λ p o. off_row lo inner j y.apart refl b jn p (o lower) ∙ s.kept p (λ u f k h q z. o upper f k h (omega arith) z) ∙ t.kept p o;
        }

  -- ---- the end of a cut
  module _ {j : ℕ} {l : List ℤ} (jn : n < j) (t : Staged w up lo inner n old j l) where
    raised_is : (f k : ℕ) → f < w → k ≤ n → pos (2 ^ k) *ℤ at l (up + f + k * inner) ≡ half_line upper n (line f) k
    raised_is f k h m =
        let a : j - 1 - k ≡ n - k = omega (arith, t.within) in let b : j - 1 ≡ n = omega (arith, t.within) in
        rw (t.done f k h (omega arith), a, b) (upper_is n (line f) k)

    pub raised_below : RaisedBelow w up inner n l
    raised_below f k h m = rw (raised_is f k h m) (below_le (lit≤ tt) (half_below n deg (line f) (λ x r. y.small f x h r) upper k m))

    module _ {l' : List ℤ} (r : InPlace raised (Under w) up inner n l l') where
      half : (h : Half) (f k : ℕ) → f < w → k ≤ n → at l' (half_at up lo h + f + k * inner) ≡ half_line h n (line f) k
      half lower f k h m = r.kept (lo + f + k * inner) (λ u g i hg q z. never g i f k hg q h m (sym z)) ∙ t.lows f k h (omega arith)
      half upper f k h m = r.entries tt f k h m ∙ raised_is f k h m

      pub all_stages : LinesCut (Under w) up lo inner n old l'
      all_stages = record { size = r.size ∙ t.size; entries = half; kept = λ p o. r.kept p (λ u. o upper) ∙ t.kept p o }
