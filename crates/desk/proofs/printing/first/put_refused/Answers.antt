-- `put_refused` meets its contract: two words and two numbers, one behind the other. Assumes nothing.
use mathlib.Core.List.{[], ◌∷◌, ◌++◌}
use Prim.Native.Nat.{ℕ}
use native.Mathlib.Omega.{arith}
use mir.Syntax.{w64}
use mir.Val
use lib.ListN.{length-append}
use Rattle.desk.specs.declared.text.Text.{Text}
use Rattle.desk.specs.Puts.{Room, Fits}
use Rattle.desk.specs.Text.{decimal, ended, line}
use Rattle.desk.specs.Lines.{refused, at, refused_line}
use Rattle.desk.proofs.Putting.{puts_then}
use Rattle.desk.proofs.Sizes.{refused_short}
use Rattle.desk.proofs.printing.first.put_refused.Goals as goal

fits : (t : Text) (n offset : ℕ) → Room t 93 → mir.Val.Fits w64 n → mir.Val.Fits w64 offset → Fits t (refused_line n offset)
fits t n offset r ln lo = omega (arith, refused_short n offset (omega arith) (omega arith))

pub number-requires : goal.number-requires
unfolding line ended
number-requires c = let f = fits c.args.text.now c.args.n c.args.offset c.requires c.ranges.n c.ranges.offset in omega (arith, length-append {A = ℕ})

pub word-requires-2 : goal.word-requires-2
unfolding line ended
word-requires-2 c = let f = fits c.args.text.now c.args.n c.args.offset c.requires c.ranges.n c.ranges.offset in omega (arith, length-append {A = ℕ})

pub rest-requires : goal.rest-requires
unfolding line ended
rest-requires c = let f = fits c.args.text.now c.args.n c.args.offset c.requires c.ranges.n c.ranges.offset in omega (arith, length-append {A = ℕ})

pub returns : goal.returns
unfolding line ended
returns c =
    let a = c.args in
    let f = fits a.text.now a.n a.offset c.requires c.ranges.n c.ranges.offset in
    let end = ended (decimal a.offset ∷ []) in
    puts_then (refused ++ (32 ∷ [])) _ f c.word.ensures
    (λ f. puts_then (decimal a.n) _ f c.number.ensures (λ f. puts_then (32 ∷ at) end f c.word-2.ensures (λ _. c.rest.ensures)))
