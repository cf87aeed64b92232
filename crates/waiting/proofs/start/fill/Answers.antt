-- `fill` meets its contract. Assumes nothing.
use Rattle.waiting.proofs.Starting.{filled}
use Rattle.waiting.proofs.start.fill.Goals as goal

pub returns : goal.returns
returns c =
    let s = c in
    let w = c.width-w in
    let d = c.depth in
    filled s.args.system.now.head s.args.system.now.coefficients.now s.args.store.now w.ensures d.ensures s.requires c.start.new.slot
    c.start.ensures c.clear.new.slot c.clear.ensures
