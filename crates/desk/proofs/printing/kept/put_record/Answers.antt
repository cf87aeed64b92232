-- `put_record` meets its contract: the first number, and the others behind it. Assumes nothing.
use mathlib.Core.Path.{◌≡◌, subst}
use mathlib.Core.List.{List, map}
use Prim.Native.Nat.{ℕ}
use Rattle.std.proofs.Common.{rules}
use Rattle.std.proofs.lemmas.List.{same_lists}
use lib.ListN.{drop}
use Rattle.waiting.specs.declared.cursor.Kept.{Kept}
use Rattle.runs.specs.Lists.{seven, first}
use Rattle.desk.specs.declared.text.Text.{Text}
use Rattle.desk.specs.Puts.{Fits, Puts}
use Rattle.desk.specs.Text.{decimal, ended, line}
use Rattle.desk.specs.Lines.{kept_line}
use Rattle.desk.proofs.Putting.{puts_then}
use Rattle.desk.proofs.printing.kept.put_record.Goals as goal

both : {t t' t'' : Text} (k : Kept) (n : ℕ) (ns : List ℕ) → n ≡ k.at.s1 → ns ≡ drop 1 (seven k) → Fits t (kept_line k) → Puts t t' (decimal n)
    → Puts t' t'' (ended (map decimal ns)) → Puts t t'' (kept_line k)
unfolding line
both {t} {t'} {t''} k n ns e es f p q =
    puts_then (decimal k.at.s1) (ended (map decimal (drop 1 (seven k)))) f (subst (λ (m : ℕ). Puts t t' (decimal m)) e p)
    (λ _. subst (λ (ms : List ℕ). Puts t' t'' (ended (map decimal ms))) es q)

pub returns : goal.returns
returns c =
    let items = c.map.ensures.items in
    let same : c.map.result ≡ drop 1 (seven (first c.args.numbers.now)) = same_lists _ _ items.long (λ k d h. search (rules, items.at k d d)) in
    both (first c.args.numbers.now) c.from.result c.map.result c.from.ensures same c.requires.1 c.number.ensures c.rest.ensures
