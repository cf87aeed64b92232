-- `side_of` meets its contract: the first number's sign is the only one to test for. Assumes nothing.
use borrow.Author.Tests.{tests}
use mathlib.Core.Path.{◌≡◌}
use native.Mathlib.Omega.{arith}
use lib.ListN.{get_or}
use mir.Syntax.{w64}
use Rattle.std.proofs.Common.{rules, pos, to_z, of_z}
use Rattle.std.proofs.lemmas.List.{places}
use Rattle.std.specs.List.{between}
use Rattle.bernstein.specs.Points.{above, below, Has}
use Rattle.lines.proofs.Parts.{tested, told, sided}
use Rattle.lines.proofs.sides.side_of.Goals as goal

pub returns-in-Above : goal.returns-in-Above
returns-in-Above c =
    let z : to_z w64 (of_z w64 (get_or (between c.args.start c.args.stop c.args.s.now) 0 (pos 0))) ≡ get_or c.args.s.now c.args.start (pos 0) =
    search (rules, places) in
    rw c.then_some.ensures
    (sided above (omega arith) (told above c.side_of.ensures c.in_ok-side_of.was c.in-Above.is z)
    (tested {P = Has above} (omega arith) (omega arith) c.all.ensures (λ z k. search (rules, tests)) (λ z k. search (rules, tests))))

pub returns-in-Below : goal.returns-in-Below
returns-in-Below c =
    let z : to_z w64 (of_z w64 (get_or (between c.args.start c.args.stop c.args.s.now) 0 (pos 0))) ≡ get_or c.args.s.now c.args.start (pos 0) =
    search (rules, places) in
    rw c.then_some-in-Below.ensures
    (sided below (omega arith) (told below c.side_of.ensures c.in_ok-side_of.was c.in-Below.is z)
    (tested {P = Has below} (omega arith) (omega arith) c.all-in-Below.ensures (λ z k. search (rules, tests)) (λ z k. search (rules, tests))))
