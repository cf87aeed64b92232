-- `put_rest` meets its contract: at each turn the numbers before i are put. Assumes nothing.
use Prim.Native.Nat.{ℕ, ◌+◌, ◌≤◌, ◌<◌}
use mathlib.Core.Path.{◌≡◌}
use mathlib.Core.List.{List, [], ◌∷◌, ◌++◌, map}
use native.Mathlib.Omega.{arith}
use lib.ListN.{length, get_or, set, drop}
use Rattle.file.proofs.Putting.{Putting, putting_start, putting_same, putting_fits, putting_turn, putting_over}
use Rattle.desk.proofs.Stepping.{byte_fits, byte_turn, next_number, no_number}
use Rattle.desk.specs.Text.{decimal, ended}
use Rattle.desk.proofs.text.put_rest.Goals as goal

module _ (t₀ : List ℕ) (at : ℕ) (ns : List ℕ) (f : at + length (ended (map decimal ns)) ≤ length t₀) (o i : ℕ) (t : List ℕ)
    (p : Putting t₀ at (ended (map decimal ns)) o t (ended (map decimal (drop i ns)))) where
  abbrev Here : (o : ℕ) (t todo : List ℕ) → Type 0
  Here o t todo = Putting t₀ at (ended (map decimal ns)) o t todo

  abbrev bs : List ℕ
  bs = decimal (get_or ns i 0)

  abbrev more : List ℕ
  more = ended (map decimal (drop (i + 1) ns))

  same : length t ≡ length t₀
  same = putting_same t₀ at (ended (map decimal ns)) f o t [] _ p

  -- a turn: the blank, then the number
  module _ (h : i < length ns) where
    blank : Here o t (32 ∷ (bs ++ more))
    blank = next_number t₀ at (ended (map decimal ns)) o t ns i h p

    fits : o < length t
    fits = byte_fits t₀ at (ended (map decimal ns)) f o t 32 (bs ++ more) blank

    number : Here (o + 1) (set t o 32) (bs ++ more)
    number = byte_turn t₀ at (ended (map decimal ns)) f o t 32 (bs ++ more) blank

    number_fits : o + 1 + length bs ≤ length (set t o 32)
    number_fits = putting_fits t₀ at (ended (map decimal ns)) f (o + 1) (set t o 32) bs more number

  -- the end of the line
  module _ (h : length ns ≤ i) where
    last : Here o t (10 ∷ [])
    last = no_number t₀ at (ended (map decimal ns)) o t ns i h p

    last_fits : o < length t
    last_fits = byte_fits t₀ at (ended (map decimal ns)) f o t 10 [] last

pub loop-n-init : goal.loop-n-init
loop-n-init c = let a = c.args in putting_start a.t.now a.at (ended (map decimal a.ns.now)) c.requires

pub bounds-t-o : goal.bounds-t-o
bounds-t-o c = let a = c.args in let l = c.loop-n in fits a.t.now a.at a.ns.now c.requires l.o l.n-index l.t l.invariant c.loop-n-test.true

pub overflow_add-o : goal.overflow_add-o
overflow_add-o c =
    let a = c.args in let l = c.loop-n in
    omega (arith, fits a.t.now a.at a.ns.now c.requires l.o l.n-index l.t l.invariant c.loop-n-test.true)

pub put_number-o-requires : goal.put_number-o-requires
put_number-o-requires c =
    let a = c.args in let l = c.loop-n in number_fits a.t.now a.at a.ns.now c.requires l.o l.n-index l.t l.invariant c.loop-n-test.true

pub loop-n-preserved : goal.loop-n-preserved
loop-n-preserved c =
    let a = c.args in let l = c.loop-n in let p = c.put_number-o in
    putting_turn a.t.now a.at (ended (map decimal a.ns.now)) c.requires (l.o + 1) (set l.t l.o 32) (decimal (get_or a.ns.now l.n-index 0))
    (ended (map decimal (drop (l.n-index + 1) a.ns.now))) (number a.t.now a.at a.ns.now c.requires l.o l.n-index l.t l.invariant c.loop-n-test.true)
    p.result p.new.t p.ensures.0 p.ensures.1

pub bounds-t-o-2 : goal.bounds-t-o-2
bounds-t-o-2 c = let a = c.args in let l = c.loop-n in last_fits a.t.now a.at a.ns.now c.requires l.o l.n-index l.t l.invariant c.loop-n-test.false

pub overflow_add-result : goal.overflow_add-result
overflow_add-result c =
    let a = c.args in let l = c.loop-n in
    omega (arith, last_fits a.t.now a.at a.ns.now c.requires l.o l.n-index l.t l.invariant c.loop-n-test.false)

pub returns : goal.returns
returns c =
    let a = c.args in let l = c.loop-n in
    putting_over a.t.now a.at (ended (map decimal a.ns.now)) c.requires (l.o + 1) (set l.t l.o 10)
    (byte_turn a.t.now a.at (ended (map decimal a.ns.now)) c.requires l.o l.t 10 []
    (last a.t.now a.at a.ns.now c.requires l.o l.n-index l.t l.invariant c.loop-n-test.false))
