-- `put_records` meets its contract: the next record, or none is left. Assumes nothing.
use mathlib.Core.Path.{◌≡◌, refl, ap, ◌∙◌}
use mathlib.Core.List.{List, [], ◌++◌}
use Prim.Native.Nat.{ℕ, zero, suc, ◌+◌, ◌<◌}
use native.Mathlib.Omega.{arith}
use lib.ListN.{length, take}
use Rattle.std.specs.Iterator.Adapters.{take_source, take_count}
use Rattle.std.specs.Slice.Iter.{chunks_exact_rest, chunks_exact_size}
use Rattle.runs.specs.Lists.{first, listed}
use Rattle.desk.specs.declared.text.Text.{Text}
use Rattle.desk.specs.Puts.{Fits, Puts}
use Rattle.desk.specs.Lines.{kept_line, kept_lines}
use Rattle.desk.proofs.Lists.{listed_next, listed_none}
use Rattle.desk.proofs.Putting.{Left, left_all, left_as, left_fits, left_next, puts_none}
use Rattle.desk.proofs.printing.kept.put_records.Goals as goal

-- n records of the numbers xs are left
module _ {b t : Text} {W : List ℕ} (n : ℕ) (xs : List ℕ) (l : Left b W t (kept_lines (take n (listed xs)))) where
  -- x are the numbers of the next one
  module _ (x ys : List ℕ) (m : ℕ) (e : xs ≡ x ++ ys) (h : length x ≡ 7) (c : m + 1 ≡ n) where
    next : Left b W t (kept_line (first x) ++ kept_lines (take m (listed ys)))
    unfolding kept_lines
    next = let k : n ≡ suc m = omega arith in left_as (rw (k, e, listed_next x ys h) refl) l

    fits : Fits t (kept_line (first x))
    fits = left_fits (kept_line (first x)) (kept_lines (take m (listed ys))) next

    more : {t' : Text} → Puts t t' (kept_line (first x)) → Left b W t' (kept_lines (take m (listed ys)))
    more p = left_next (kept_line (first x)) (kept_lines (take m (listed ys))) next p

  none_left : (0 < n → length xs < 7) → kept_lines (take n (listed xs)) ≡ []
  unfolding kept_lines
  none_left h = from n h
    where
      from : (n : ℕ) → (0 < n → length xs < 7) → kept_lines (take n (listed xs)) ≡ []
      from zero h = refl
      from (suc n) h = rw (listed_none xs (h (omega arith))) refl

  all : (0 < n → length xs < 7) → Puts b t W
  all h = let r = left_as (none_left h) l in r.ends (puts_none t r.fits)

pub loop-numbers-init : goal.loop-numbers-init
loop-numbers-init c =
    let e = c.into_iter-numbers-iterator.ensures.into_iter_gives in
    let s = ap take_source e ∙ c.take-numbers-items.ensures.source in
    let n = ap take_count e ∙ c.take-numbers-items.ensures.count in
    let r = ap chunks_exact_rest s ∙ c.chunks_exact.ensures.rest in
    record {
      seven = ap chunks_exact_size s ∙ c.chunks_exact.ensures.size;
      left = rw (n, r) (left_all c.args.text.now (kept_lines (take c.args.kept (listed c.args.list.now))) c.requires);
    }

pub put_record-requires : goal.put_record-requires
put_record-requires c =
    let i = c.loop-numbers.numbers-iterator in let v = c.loop-numbers.invariant in let s = c.in-Some.ensures.steps in
    (s.0.1.1 ∙ v.seven, fits (take_count i) _ v.left c.in-Some.numbers.now _ (take_count c.next.new.self) s.0.1.0 (s.0.1.1 ∙ v.seven) s.1)

pub loop-numbers-preserved : goal.loop-numbers-preserved
loop-numbers-preserved c =
    let i = c.loop-numbers.numbers-iterator in let v = c.loop-numbers.invariant in let s = c.in-Some.ensures.steps in
    record {
      seven = s.0.0 ∙ v.seven;
      left = more (take_count i) _ v.left c.in-Some.numbers.now _ (take_count c.next.new.self) s.0.1.0 (s.0.1.1 ∙ v.seven) s.1 c.put_record.ensures;
    }

pub returns : goal.returns
returns c =
    let i = c.loop-numbers.numbers-iterator in let v = c.loop-numbers.invariant in
    all (take_count i) (chunks_exact_rest (take_source i)) v.left (λ h. omega (arith, v.seven, (c.in-None.ensures.steps h).1.0))
