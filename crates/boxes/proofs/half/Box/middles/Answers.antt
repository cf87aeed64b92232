-- `Box::middles` meets its contract: each direction of an allowed box has its two doubles. Assumes nothing.
use mathlib.Core.Path.{sym, ◌∙◌}
use Rattle.bernstein.specs.Three.{first, second, third}
use Rattle.boxes.proofs.Halves.{part_within}
use Rattle.boxes.proofs.half.Box.middles.Goals as goal

pub interval-a-requires : goal.interval-a-requires
interval-a-requires c = part_within c.args.self (sym c.ok.ensures ∙ c.if-not-ok.false) first

pub interval-b-requires : goal.interval-b-requires
interval-b-requires c = part_within c.args.self (sym c.ok.ensures ∙ c.if-not-ok.false) second

pub interval-c-requires : goal.interval-c-requires
interval-c-requires c = part_within c.args.self (sym c.ok.ensures ∙ c.if-not-ok.false) third
