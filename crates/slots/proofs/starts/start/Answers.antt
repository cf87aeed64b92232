-- `start` meets its contract: the unit box, the weighted coefficients, and the steps along the third, the second and the first direction. Assumes nothing.
use Rattle.bernstein.specs.Three.{first, second, third}
use Rattle.slots.proofs.Spreading.{stage_ready, weighed, spread_on, start_is}
use Rattle.slots.proofs.Weighing.{table_weighs}
use Rattle.slots.proofs.starts.start.Goals as goal

pub invariant_of-table : goal.invariant_of-table
invariant_of-table c = record { weighs = table_weighs }

pub spread-requires : goal.spread-requires
spread-requires c =
    let a = c.args.system.now in let t3 = weighed a.head a.coefficients.now c.unit.ensures c.put_box.ensures c.weigh.ensures in
    stage_ready a.head a.coefficients.now a.limits a.enough a.ranged third c.weigh.new.slot t3

pub spread-requires-2 : goal.spread-requires-2
spread-requires-2 c =
    let a = c.args.system.now in let t3 = weighed a.head a.coefficients.now c.unit.ensures c.put_box.ensures c.weigh.ensures in
    let t2 = spread_on a.head a.coefficients.now a.limits third c.weigh.new.slot c.spread.new.slot t3 c.spread.ensures in
    stage_ready a.head a.coefficients.now a.limits a.enough a.ranged second c.spread.new.slot t2

pub spread-requires-3 : goal.spread-requires-3
spread-requires-3 c =
    let a = c.args.system.now in let t3 = weighed a.head a.coefficients.now c.unit.ensures c.put_box.ensures c.weigh.ensures in
    let t2 = spread_on a.head a.coefficients.now a.limits third c.weigh.new.slot c.spread.new.slot t3 c.spread.ensures in
    let t1 = spread_on a.head a.coefficients.now a.limits second c.spread.new.slot c.spread-2.new.slot t2 c.spread-2.ensures in
    stage_ready a.head a.coefficients.now a.limits a.enough a.ranged first c.spread-2.new.slot t1

pub returns : goal.returns
returns c =
    let a = c.args.system.now in let t3 = weighed a.head a.coefficients.now c.unit.ensures c.put_box.ensures c.weigh.ensures in
    let t2 = spread_on a.head a.coefficients.now a.limits third c.weigh.new.slot c.spread.new.slot t3 c.spread.ensures in
    let t1 = spread_on a.head a.coefficients.now a.limits second c.spread.new.slot c.spread-2.new.slot t2 c.spread-2.ensures in
    start_is a.head a.coefficients.now c.spread-3.new.slot
    (spread_on a.head a.coefficients.now a.limits first c.spread-2.new.slot c.spread-3.new.slot t1 c.spread-3.ensures)
