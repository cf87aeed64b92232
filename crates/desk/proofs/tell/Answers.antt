-- `tell` meets its contract: it puts at the front, and the rest stays. Assumes nothing.
use Rattle.std.specs.Prelude.{Result, Ok, Err}
use mathlib.Core.Path.{◌≡◌, refl, ap, ◌∙◌}
use mathlib.Core.List.{List, ◌++◌}
use Prim.Native.Nat.{ℕ, ◌+◌, ◌*◌, ◌≤◌}
use native.Mathlib.Omega.{arith}
use lib.ListN.{length, drop}
use Rattle.file.specs.Bytes.{over}
use Rattle.system.specs.declared.refusal.Refused.{Refused}
use Rattle.runs.specs.declared.runs.Stop.{Stop}
use Rattle.desk.specs.Lines.{lines_told}
use Rattle.desk.specs.declared.text.Text.{Text}
use Rattle.desk.specs.Puts.{Puts}
use Rattle.desk.proofs.tell.Goals as goal

any_fit : (a : Result Stop Refused) → 93 + 42 * lines_told a 7168 ≤ 43101
any_fit (Ok s) = omega arith
any_fit (Err x) = omega arith

at_front : {t t' : Text} {W : List ℕ} → t.at ≡ 0 → Puts t t' W → (t'.at ≡ length W) × (t'.bytes.now ≡ W ++ drop t'.at t.bytes.now)
unfolding over
at_front {t} {t'} {W} z p =
    let e : t'.at ≡ length W = omega arith in
    let o : 0 + length W ≡ t'.at = omega arith in
    (e, p.now ∙ rw (z, o) refl)

pub put_answer-requires : goal.put_answer-requires
put_answer-requires c = rw (c.new-printed.ensures.at, ap length c.new-printed.ensures.now, c.told-list, c.told-text) (omega (arith, any_fit c.args.a))

pub returns : goal.returns
returns c = rw (← c.new-printed.ensures.now) (at_front c.new-printed.ensures.at c.put_answer.ensures)
