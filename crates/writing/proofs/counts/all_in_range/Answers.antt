-- `counts::all_in_range` meets its contract: `all` makes the test of each. Assumes nothing.
use mathlib.Core.Path.{refl, ◌∙◌}
use mathlib.Core.Bool.{◌&&◌}
use borrow.Author.Rules.{rules}
use borrow.Author.Tests.{tests}
use Rattle.std.specs.List.{list_all}
use Rattle.std.proofs.lemmas.Iterator.{YieldsList-from_slice}
use Rattle.std.proofs.lemmas.Iterator.Search.{all_from_yields_List}
use Rattle.std.proofs.lemmas.List.Recursion.{same_from_clauses}
use Rattle.file.specs.Terms.{in_range}
use Rattle.writing.specs.Writing.{all_in_range}
use Rattle.writing.proofs.counts.all_in_range.Goals as goal

pub returns : goal.returns
unfolding all_in_range
returns c =
    all_from_yields_List in_range _ _ _ c.all.ensures.ran (YieldsList-from_slice c.args.xs.now cc) (λ x b q k. search (rules, tests))
    ∙ same_from_clauses (list_all in_range) all_in_range (λ x b. in_range x && b) refl (λ _ _. refl) (λ _ _. refl) c.args.xs.now
