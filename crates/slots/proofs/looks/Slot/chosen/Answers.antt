-- `chosen` meets its contract: the better of the three, one after the other. Assumes nothing.
use mathlib.Core.List.{[], ◌∷◌}
use Rattle.std.proofs.Common.{rules}
use Rattle.std.specs.Prelude.{None}
use Rattle.std.proofs.lemmas.Iterator.{YieldsList-from_slice}
use Rattle.std.proofs.lemmas.Iterator.Consumers.{fold_from_yields_List}
use Rattle.boxes.specs.declared.half.Direction.{Direction}
use Rattle.slots.specs.Rules.{better, chosen}
use Rattle.slots.proofs.looks.Slot.chosen.Goals as goal

pub returns : goal.returns
unfolding chosen
returns c =
    let s = c.args.self.now in
    fold_from_yields_List _ (better s.head s.values.now) None c.fold.result c.fold.ensures.ran
    (YieldsList-from_slice (Direction.First ∷ Direction.Second ∷ Direction.Third ∷ []) (cc))
    (λ a x b q k. search rules)
