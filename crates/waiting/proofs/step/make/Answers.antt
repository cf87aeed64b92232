-- `make` meets its contract. Assumes nothing.
use mathlib.Core.Path.{refl}
use Rattle.waiting.proofs.Becoming.{moves_dropped, moves_kept, moves_cut}
use Rattle.waiting.proofs.step.make.Goals as goal

pub cut_at-requires : goal.cut_at-requires
cut_at-requires c = c.requires.has_slot _ c.in-Cut.is

pub returns-in-Dropped : goal.returns-in-Dropped
returns-in-Dropped c = let a = c.args in moves_dropped a.h a.store.now a.c _ _ c.in-Dropped.is c.go_on.ensures c.give_up.ensures

pub returns-in-Kept : goal.returns-in-Kept
returns-in-Kept c =
    let a = c.args in
    moves_kept a.h a.store.now a.c _ c.in-Kept.is (rw c.box_at-at.ensures refl) c.go_on-in-Kept.ensures c.give_up-in-Kept.ensures

pub returns-in-Cut : goal.returns-in-Cut
returns-in-Cut c = let a = c.args in moves_cut a.h a.store.now a.c _ c.requires.waits c.in-Cut.is c.go_on-in-Cut.ensures c.cut_at.ensures
