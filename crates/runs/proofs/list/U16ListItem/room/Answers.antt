-- `room` of numbers meets its contract. Assumes nothing.
use mathlib.Core.Path.{sym}
use Rattle.runs.specs.Listings.{length_listed}
use Rattle.runs.proofs.list.U16ListItem.room.Goals as goal

pub returns : goal.returns
returns c = sym (length_listed c.args.list.now)
