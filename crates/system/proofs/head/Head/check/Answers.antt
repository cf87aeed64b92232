-- `Head::check` meets its contract: a head that passes keeps the limits. Assumes nothing.
use mathlib.Core.Path.{sym, ◌∙◌}
use Rattle.system.proofs.Heads.{checked_limits}
use Rattle.system.proofs.head.Head.check.Goals as goal

pub returns-then-ok-clause-within : goal.returns-then-ok-clause-within
returns-then-ok-clause-within c = checked_limits c.args.self (sym c.ok.ensures ∙ c.if-ok.true)
