-- The starred examples and F, computed from the definitions. Assumes nothing.
use mathlib.Core.Path.{refl}
use mathlib.Core.List.{List, [], ◌∷◌, ◌++◌}
use Rattle.whole.specs.Sums.{sum_to, choose}
use Rattle.bernstein.specs.Three.{sum_upto}
use Rattle.bernstein.specs.Numbers.{formula, scale, weight, after, half_line}
use Rattle.bernstein.specs.Places.{place, size}
use Rattle.system.specs.Heads.{places, head_ok}
use Rattle.slots.specs.Slots.{build, in_turn, half_slot, unit_slot}
use Rattle.slots.specs.Rules.{every, decided, chosen, looked}
use Rattle.search.specs.Lists.{All}
use Rattle.search.specs.Lent.{lent_become}
use Rattle.waiting.specs.States.{span_ok, slot_ok, slots_ok, counts_ok, records_ok, list_ok, judged_by}
use Rattle.waiting.specs.Starts.{start_check, fresh_store}
use Rattle.waiting.specs.Steps.{due, visited, next}
use Rattle.waiting.specs.Runs.{went}
use Rattle.file.specs.Bytes.{signed32}
use Rattle.file.specs.Records.{due as record_due}
use Rattle.file.specs.Terms.{term, terms, coefficients}
use Rattle.file.specs.Reading.{polynomial, ending, polynomials, numbers_of, checked, reads}
use Rattle.desk.specs.Text.{digits, decimal, ended, line}
use Rattle.runs.specs.Lists.{taken}
use Rattle.desk.specs.Lines.{kept_lines}
use Rattle.desk.specs.Report.{run_found, system_found, file_found, found, report}
use Rattle.claims.specs.Starred.{Case, Right, examples, limits, refusals, told, StarredRight}
use Rattle.claims.specs.Program.{PrintsF, PrintsThree, PrintsOfNoBytes}

infixr 20 ◌and◌
◌and◌ : {P Q : Type 0} → P → Q → P × Q
p and q = (p, q)

all_of : (xs ys : List Case) → All Right xs → All Right ys → All Right (xs ++ ys)
all_of [] ys a b = b
all_of (x ∷ xs) ys a b = (a.0, all_of xs ys a.1 b)

examples_right : All Right examples
unfolding start_check fresh_store judged_by list_ok records_ok counts_ok slots_ok slot_ok span_ok went next due visited lent_become head_ok
    unit_slot in_turn build formula sum_upto sum_to choose weight scale place size places after half_line half_slot looked decided every chosen
examples_right =
    (refl and refl) and refl and refl and (refl and refl) and refl and refl and (refl and refl) and (refl and refl)
    and (refl and refl) and (refl and refl) and (refl and refl) and (refl and refl) and tt

limits_right : All Right limits
unfolding start_check fresh_store judged_by list_ok records_ok counts_ok slots_ok slot_ok span_ok went next due visited lent_become head_ok
    unit_slot in_turn build formula sum_upto sum_to choose weight scale place size places after half_line half_slot looked decided every chosen
limits_right =
    refl and refl and refl and refl and refl and refl and refl and refl and refl and refl and refl and refl and refl and refl
    and refl and refl and refl and refl and refl and tt

refusals_right : All Right refusals
unfolding reads checked polynomials polynomial ending numbers_of record_due terms term coefficients signed32 head_ok place size places
refusals_right =
    refl and refl and refl and refl and refl and refl and refl and refl and refl and refl and refl and refl and refl and refl
    and refl and refl and refl and refl and refl and refl and refl and refl and tt

told_right : All Right told
unfolding line ended decimal digits
told_right = refl and refl and tt

pub starred_right : StarredRight
starred_right =
    all_of examples (limits ++ (refusals ++ told)) examples_right (all_of limits (refusals ++ told) limits_right (all_of refusals told refusals_right told_right))

pub prints_three : PrintsThree
unfolding report found file_found system_found run_found reads checked polynomials polynomial ending numbers_of record_due terms term coefficients signed32
    taken kept_lines line ended decimal digits
    start_check fresh_store judged_by list_ok records_ok counts_ok slots_ok slot_ok span_ok went next due visited lent_become head_ok
    unit_slot in_turn build formula sum_upto sum_to choose weight scale place size places after half_line half_slot looked decided every chosen
prints_three = refl

pub prints_F : PrintsF
unfolding report found file_found system_found run_found reads checked polynomials polynomial ending numbers_of record_due terms term coefficients signed32
    taken kept_lines line ended decimal digits
    start_check fresh_store judged_by list_ok records_ok counts_ok slots_ok slot_ok span_ok went next due visited lent_become head_ok
    unit_slot in_turn build formula sum_upto sum_to choose weight scale place size places after half_line half_slot looked decided every chosen
prints_F = refl

pub prints_of_no_bytes : PrintsOfNoBytes
unfolding report found file_found reads checked record_due line ended decimal digits
prints_of_no_bytes = refl
