-- One record of a file (01, "The system file"): two bytes length of the body, two bytes kind, the body. Definitions only.
-- r is what is left of the file, and o the offset at which that starts, for the refusals alone.
use Rattle.std.specs.Prelude.{ℕ, ◌+◌, ◌-◌, ◌/◌, ◌%◌, Bool, cond, ◌&&◌, List, [], leb, eqb, length, take, drop, Result, Ok, Err, ⊤}
use Rattle.file.specs.Bytes.{word16}
use Rattle.system.specs.Refusals.{at}
use Rattle.system.specs.declared.refusal.Refusal.{Refusal}
use Rattle.system.specs.declared.refusal.Refused.{Refused}
use Rattle.system.specs.Chain.{test, ◌then◌}
use Rattle.file.specs.declared.parser.Shape.{Shape}
use Rattle.file.specs.declared.parser.Kind.{Kind}
use Rattle.file.specs.declared.parser.Kind.TheVariants.{Head, Polynomial, End}
use Rattle.file.specs.declared.parser.Record.{Record}

abbrev pub length_of : List ℕ → ℕ
length_of r = word16 r 0

-- the kinds that there are
abbrev pub kind_number : Kind → ℕ
kind_number Head = 1
kind_number Polynomial = 2
kind_number End = 3

abbrev pub kind_of : List ℕ → ℕ
kind_of r = word16 r 2

-- whatever its kind: "Alone, a step refuses only with 1"
unfoldable pub step : ℕ → List ℕ → Result Record Refused
step o r =
    cond (leb 4 (length r) && leb (4 + length_of r) (length r))
    (Ok (record { kind = kind_of r; start = o + 4; len = length_of r }))
    (Err (at Refusal.Ended o))

-- "with its body as a part"; none where the record is cut short
abbrev pub part_of : Result Record Refused → List ℕ → List ℕ
part_of (Ok p) s = take p.len (drop p.start s)
part_of (Err x) s = []

abbrev pub body : List ℕ → ℕ → List ℕ
body s at = part_of (step at (drop at s)) s

-- ---- the record that is due: a kind, and the lengths that its body may have: base, and up to `most` times `unit` more
abbrev pub fits : Shape → ℕ → Bool
fits s n = leb s.base n && eqb ((n - s.base) % s.unit) 0 && leb ((n - s.base) / s.unit) s.most

-- "4 header bytes present (1), kind (2), length (3), body present (1)"
unfoldable pub due : ℕ → Shape → ℕ → List ℕ → Result ⊤ Refused
due kind shape o r =
    test (leb 4 (length r)) Refusal.Ended o
    then test (eqb (kind_of r) kind) Refusal.NotDue o
    then test (fits shape (length_of r)) Refusal.WrongLength o
    then test (leb (4 + length_of r) (length r)) Refusal.Ended o
