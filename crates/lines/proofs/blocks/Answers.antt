-- `blocks` meets its contract: at each degree that of `at_degree`. Assumes nothing.
use native.Mathlib.Omega.{arith}
use Rattle.lines.proofs.Rooms.{blocks_at, blocks_cut_at}
use Rattle.lines.proofs.blocks.Goals as goal

pub at_degree-requires : goal.at_degree-requires
at_degree-requires c = blocks_at 0 (omega (arith, c.requires.degree)) c.requires

pub returns-in-0 : goal.returns-in-0
returns-in-0 c = blocks_cut_at 0 (omega (arith, c.requires.degree)) c.at_degree.ensures

pub at_degree-requires-in-1 : goal.at_degree-requires-in-1
at_degree-requires-in-1 c = blocks_at 1 (omega (arith, c.requires.degree)) c.requires

pub returns-in-1 : goal.returns-in-1
returns-in-1 c = blocks_cut_at 1 (omega (arith, c.requires.degree)) c.at_degree-in-1.ensures

pub at_degree-requires-in-2 : goal.at_degree-requires-in-2
at_degree-requires-in-2 c = blocks_at 2 (omega (arith, c.requires.degree)) c.requires

pub returns-in-2 : goal.returns-in-2
returns-in-2 c = blocks_cut_at 2 (omega (arith, c.requires.degree)) c.at_degree-in-2.ensures

pub at_degree-requires-in-3 : goal.at_degree-requires-in-3
at_degree-requires-in-3 c = blocks_at 3 (omega (arith, c.requires.degree)) c.requires

pub returns-in-3 : goal.returns-in-3
returns-in-3 c = blocks_cut_at 3 (omega (arith, c.requires.degree)) c.at_degree-in-3.ensures

pub at_degree-requires-in-4 : goal.at_degree-requires-in-4
at_degree-requires-in-4 c = blocks_at 4 (omega (arith, c.requires.degree)) c.requires

pub returns-in-4 : goal.returns-in-4
returns-in-4 c = blocks_cut_at 4 (omega (arith, c.requires.degree)) c.at_degree-in-4.ensures

pub at_degree-requires-in-5 : goal.at_degree-requires-in-5
at_degree-requires-in-5 c = blocks_at 5 (omega (arith, c.requires.degree)) c.requires

pub returns-in-5 : goal.returns-in-5
returns-in-5 c = blocks_cut_at 5 (omega (arith, c.requires.degree)) c.at_degree-in-5.ensures

pub at_degree-requires-in_default : goal.at_degree-requires-in_default
at_degree-requires-in_default c = blocks_at 6 (omega (arith, c.requires.degree)) c.requires

pub returns-in_default : goal.returns-in_default
returns-in_default c = blocks_cut_at 6 (omega (arith, c.requires.degree)) c.at_degree-in_default.ensures
