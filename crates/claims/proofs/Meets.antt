-- Reached states are made of the calls that 01 asks for; E's system is followed to a second list, and 1/2 to a box that F prints. Assumes nothing.
use Rattle.std.specs.Prelude.{Ok, Err, Result}
use mathlib.Core.Path.{◌≡◌, refl, sym, ap, subst, subst₂, ◌∙◌}
use mathlib.Core.Bool.{Bool, true, ◌&&◌}
use mathlib.Core.List.{List, [], ◌∷◌, ◌++◌}
use Prim.Native.Nat.{ℕ, zero, suc, ◌<◌}
use native.Mathlib.Omega.{arith}
use borrow.Author.Tests.{ltb-true}
use lib.Dec.{ltb}
use lib.IntN.{ℤ, pos, pow, one as whole_one}
use lib.ListN.{length, drop, replicate}
use Rattle.whole.specs.Sums.{sum_to, choose}
use Rattle.whole.proofs.Order.{pos-≤, pos-<}
use Rattle.bernstein.specs.Three.{first, second, third, three, sum_upto}
use Rattle.bernstein.specs.Numbers.{unit, formula, scale, weight, after, half_line}
use Rattle.bernstein.specs.Points.{value_over}
use Rattle.bernstein.specs.Places.{place, size}
use Rattle.system.specs.declared.head.Head.{Head}
use Rattle.system.specs.Heads.{frame, places, head_ok}
use Rattle.slots.specs.Slots
use Rattle.slots.specs.Slots.{build, in_turn, half_slot, unit_slot}
use Rattle.slots.specs.Rules.{every, decided, chosen, looked}
use Rattle.search.specs.Lent.{lent_become, at_start, continued}
use Rattle.waiting.specs.Fits.{Point, LiesIn, CommonZero}
use Rattle.waiting.specs.States.{span_ok, slot_ok, slots_ok, counts_ok, records_ok, list_ok, judged_by}
use Rattle.waiting.specs.Starts.{start_check, start_answer, start_store, fresh_state, fresh_store}
use Rattle.waiting.specs.Steps.{nothing_kept, due, visited, next}
use Rattle.file.specs.Bytes.{byte, Bytes, signed32}
use Rattle.file.specs.Records.{due as record_due}
use Rattle.file.specs.Terms.{term, terms, coefficients}
use Rattle.file.specs.Reading.{polynomial, ending, polynomials, numbers_of, checked, reads}
use Rattle.system.specs.declared.refusal.Refused.{Refused}
use Rattle.file.proofs.Tests.{both}
use Rattle.file.proofs.Words.{any_bytes}
use Rattle.waiting.proofs.Points.{any_zero}
use Rattle.claims.specs.Reached.{Reached, by_start, by_run, by_visit, with_longer}
use Rattle.claims.specs.Program.{no_coefficients, Whole, F_file, F_lines}
use Rattle.claims.specs.Starred.{one, e}
use Rattle.claims.specs.Meets.{StartReaches, ReachedGoesOn, Begins, BegunGoesOn, EReached, HalfIsPrinted}
use Rattle.claims.proofs.Program.{prints_finished}
use Rattle.claims.proofs.Starred.{prints_F}

-- ---- reached states
pub start_reaches : StartReaches
start_reaches h cs st good list =
    subst (λ c. Reached h cs st fresh_state list (start_store h cs st c)) good (by_start fresh_state list (ap start_answer good))

pub reached_goes_on : ReachedGoesOn
reached_goes_on h cs st s list store p = (λ budget r q. by_run p budget r q, λ v q. by_visit p v q, λ next q l. with_longer p next q l)

pub begins : Begins
begins h cs st list = at_start list

pub begun_goes_on : BegunGoesOn
begun_goes_on h cs st f b budget next u l = continued b budget next u l

pub e_reached : EReached
unfolding start_check fresh_store judged_by list_ok records_ok counts_ok slots_ok slot_ok span_ok next due visited lent_become head_ok
    unit_slot in_turn build formula sum_upto sum_to choose weight scale place size places after half_line half_slot looked decided every chosen
e_reached = with_longer (by_visit (start_reaches (one 1 2) e _ refl (replicate 1 nothing_kept)) _ refl) (replicate 2 nothing_kept) refl (omega arith)

-- ---- 1/2
half : Point
half = record { numerators = three (pos 1) (pos 0) (pos 0); q = pos 2; above_zero = pos-< (omega arith) }

abbrev read_coefficients : List ℤ
read_coefficients = e ++ drop 2 no_coefficients

half_inside : LiesIn (one 1 2) half unit
unfolding half
half_inside = record {
  within = elim [
    | first ↦ record { above = pos-≤ (omega arith); below = pos-≤ (omega arith) }
    | second ↦ record { above = pos-≤ (omega arith); below = pos-≤ (omega arith) }
    | third ↦ record { above = pos-≤ (omega arith); below = pos-≤ (omega arith) }
  ];
}

zero_there : (t : ℕ) → t < 1 → (frame (one 1 2)).value half.numerators half.q (Slots.polynomial (one 1 2) read_coefficients t) ≡ pos 0
unfolding half value_over sum_upto sum_to place size pow whole_one
zero_there zero l = refl
zero_there (suc t) l = absurd (omega arith)

half_zero : CommonZero (one 1 2) read_coefficients half
half_zero = any_zero (one 1 2) read_coefficients half zero_there

-- ---- F's file
small : List ℕ → Bool
small [] = true
small (x ∷ s) = ltb x 256 && small s

all_small : (s : List ℕ) → small s ≡ true → (i : ℕ) → i < length s → byte s i < 256
unfolding small
all_small [] t i l = absurd (omega arith)
all_small (x ∷ s) t zero l = ltb-true x 256 (both (ltb x 256) (small s) t).0
all_small (x ∷ s) t (suc i) l = all_small s (both (ltb x 256) (small s) t).1 i (omega arith)

F_bytes : Bytes F_file
unfolding small
F_bytes = any_bytes F_file (all_small F_file refl)

F_read : reads F_file no_coefficients ≡ (Ok (one 1 2), read_coefficients)
unfolding reads checked polynomials polynomial ending numbers_of record_due terms term coefficients signed32 head_ok place size places
F_read = refl

F_whole : Whole F_file
F_whole = prints_finished F_file F_bytes (drop 8 F_lines) prints_F

head_in : Result Head Refused → Head
head_in (Ok h) = h
head_in (Err x) = one 0 0

F_head : F_whole.head ≡ one 1 2
unfolding head_in
F_head = ap (λ (r : Result Head Refused × List ℤ). head_in r.0) (sym F_whole.read ∙ F_read)

F_coefficients : F_whole.coefficients ≡ read_coefficients
F_coefficients = ap (λ (r : Result Head Refused × List ℤ). r.1) (sym F_whole.read ∙ F_read)

pub half_is_printed : HalfIsPrinted
unfolding half
half_is_printed = record {
  file = F_whole;
  point = half;
  numerators = refl;
  denominator = refl;
  inside = inside;
  zero = is_zero;
  printed = F_whole.whole half inside is_zero;
}
  where
    inside : LiesIn F_whole.head half unit
    inside = subst (λ (h : Head). LiesIn h half unit) (sym F_head) half_inside

    is_zero : CommonZero F_whole.head F_whole.coefficients half
    is_zero = subst₂ (λ (h : Head) (cs : List ℤ). CommonZero h cs half) (sym F_head) (sym F_coefficients) half_zero
