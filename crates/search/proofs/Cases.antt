-- Worked cases: the line from 0 to 1, the polynomial 2x - 1 of degree 1, 01's E and F, on lists and in lent memory.
-- They guard the definitions. Assumes nothing.
use mathlib.Core.Path.{◌≡◌, refl}
use mathlib.Core.List.{List, [], ◌∷◌}
use lib.ListN.{get_or, replicate}
use Prim.Native.Nat.{ℕ, zero, suc, ◌+◌, ◌-◌, ◌*◌, ◌^◌}
use Rattle.whole.specs.Half.{Half, lower, upper}
use Rattle.search.specs.Machine.{Stop, stop, finished, spent, full, drive, trace}
use Rattle.search.specs.Search.{Look, is_dropped, is_kept, is_cut, Entry, States, state, entry, seen, start, become, visit, turn_look, turn, turn_top, due, run, log}
use Rattle.search.specs.Lent.{Slots, slots, Lent, memory, lent, stack, lent_become, lent_top}

pub data Sign : Type 0 where
  above below : Sign

-- A cell is a list of two numbers: `s` cuts, at the position `k`. The polynomial's numbers on it are 2 k - 2 ^ s and 2 k + 2 - 2 ^ s.
abbrev cell : ℕ → ℕ → List ℕ
cell s k = s ∷ k ∷ []

-- By how far the lower number is above zero, the upper one below, and the cuts that are left.
abbrev line_look : (over under left : ℕ) → Look Sign (Unit {0})
line_look (suc _) b l = is_dropped above
line_look zero (suc _) l = is_dropped below
line_look zero zero zero = is_kept 1
line_look zero zero (suc _) = is_cut tt

abbrev line_half : Half → (s k : ℕ) → List ℕ
line_half lower s k = cell (suc s) (2 * k)
line_half upper s k = cell (suc s) (2 * k + 1)

-- 01, E: depth 2.
abbrev line : Slots ℕ
line = record {
  Place = List ℕ;
  Drop = Sign;
  Cut = Unit {0};
  width = 2;
  blank = 0;
  place = λ n. n;
  look = λ n. let s = get_or n 0 0 in let k = get_or n 1 0 in line_look (2 * k - 2 ^ s) (2 ^ s - (2 * k + 2)) (2 - s);
  half = λ h c n. line_half h (get_or n 0 0) (get_or n 1 0);
}

abbrev root : States (slots line)
root = start (slots line) (cell 0 0)

-- E: budget 3; room 1 with a large budget, and with budget 5. F: finished, also with just its seven visits and two places.
ran : (run (slots line) 3 10 root ≡ stop (state (cell 2 1 ∷ cell 1 1 ∷ []) [] 3 1) spent)
    × (run (slots line) 100 1 root ≡ stop (state (cell 2 2 ∷ cell 2 3 ∷ []) (entry (cell 2 1) 1 4 ∷ []) 5 1) full)
    × (run (slots line) 5 1 root ≡ stop (state (cell 2 2 ∷ cell 2 3 ∷ []) (entry (cell 2 1) 1 4 ∷ []) 5 1) spent)
    × (run (slots line) 100 100 root ≡ stop (state [] (entry (cell 2 1) 1 4 ∷ entry (cell 2 2) 1 6 ∷ []) 7 2) finished)
    × (run (slots line) 7 2 root ≡ stop (state [] (entry (cell 2 1) 1 4 ∷ entry (cell 2 2) 1 6 ∷ []) 7 2) finished)
unfolding drive visit become turn turn_top turn_look
ran = (refl, refl, refl, refl, refl)

logged : log (slots line) 3 10 root ≡ seen (cell 0 0) (is_cut tt) ∷ seen (cell 1 0) (is_cut tt) ∷ seen (cell 2 0) (is_dropped below) ∷ []
unfolding trace due visit become turn turn_top turn_look
logged = refl

-- The same in three slots, with a list that has something in each place.
abbrev junk : Entry (List ℕ)
junk = entry (cell 9 9) 9 9

abbrev ran_lent : (budget room : ℕ) → Stop (Lent ℕ (List ℕ))
ran_lent b room = drive (lent line) b room (memory (replicate 6 0) (replicate room junk) 1 0 0 0)

lent_ran : (ran_lent 3 2 ≡ stop (memory (1 ∷ 1 ∷ 2 ∷ 1 ∷ 0 ∷ 0 ∷ []) (junk ∷ junk ∷ []) 2 0 3 1) spent)
    × (ran_lent 100 1 ≡ stop (memory (2 ∷ 3 ∷ 2 ∷ 2 ∷ 0 ∷ 0 ∷ []) (entry (cell 2 1) 1 4 ∷ []) 2 1 5 1) full)
    × (ran_lent 5 1 ≡ stop (memory (2 ∷ 3 ∷ 2 ∷ 2 ∷ 0 ∷ 0 ∷ []) (entry (cell 2 1) 1 4 ∷ []) 2 1 5 1) spent)
    × (ran_lent 100 3 ≡ stop (memory (replicate 6 0) (entry (cell 2 1) 1 4 ∷ entry (cell 2 2) 1 6 ∷ junk ∷ []) 0 2 7 2) finished)
unfolding drive lent_become lent_top stack turn turn_top turn_look
lent_ran = (refl, refl, refl, refl)
