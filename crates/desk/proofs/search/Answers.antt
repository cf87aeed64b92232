-- `search` meets its contract: it is `search_file` in places of its own. Assumes nothing.
use Rattle.desk.specs.Report.{found}
use Rattle.desk.proofs.search.Goals as goal

pub returns : goal.returns
unfolding found
returns c = c.search_file.ensures
