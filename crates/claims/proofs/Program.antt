-- What the program prints is what its one call leaves, or a refusal of the file: each report by the answer of the call before it. Assumes nothing.
use Rattle.std.specs.Prelude.{Ok, Err, Result}
use mathlib.Core.Path.{◌≡◌, refl, sym, ap, ap₂, subst, ◌∙◌}
use mathlib.Core.Bool.{Bool, ◌&&◌}
use mathlib.Core.List.{List, [], ◌∷◌, map, ◌++◌}
use Prim.Native.Nat.{ℕ, zero, suc, ◌*◌, ◌/◌, ◌≤◌}
use native.Mathlib.Omega.{arith}
use borrow.Author.Tests.{le-leb}
use lib.IntN.{ℤ, pos}
use lib.ListN.{length, take, replicate, length-map, length-replicate}
use lib.Seq.{length-take-le}
use Rattle.bernstein.specs.Numbers.{Box}
use Rattle.system.specs.declared.head.Head.{Head}
use Rattle.system.specs.declared.refusal.Refused.{Refused}
use Rattle.boxes.specs.declared.visit.Word.{Word}
use Rattle.system.specs.Heads.{places, width, Limits}
use Rattle.system.proofs.Heads.{head_says}
use Rattle.slots.specs.Rules.{every, within}
use Rattle.search.specs.Machine.{Answer, finished, spent, full, Stop}
use Rattle.search.specs.Search.{Entry, States}
use Rattle.search.specs.Claims.{Means}
use Rattle.search.specs.Lent.{slots}
use Rattle.search.proofs.Slots.{stack_length}
use Rattle.waiting.specs.Cells.{cells}
use Rattle.waiting.specs.States.{needed, state_of}
use Rattle.waiting.specs.Starts.{start_check, start_answer, start_store, fresh_state, fresh_store}
use Rattle.waiting.proofs.Starting.{start_passes}
use Rattle.waiting.specs.declared.cursor.Kept.{Kept}
use Rattle.waiting.specs.Runs.{forget, remember, word_of}
use Rattle.runs.specs.Runs.{Run, run_of}
use Rattle.file.specs.Bytes.{byte, Bytes}
use Rattle.file.specs.Reading.{reads}
use Rattle.file.proofs.Lengths.{front_decides}
use Rattle.writing.specs.Writing.{all_in_range}
use Rattle.writing.proofs.Claims.{in_limits}
use Rattle.runs.specs.Lists.{first, taken, listed}
use Rattle.desk.specs.Text.{line}
use Rattle.desk.specs.Lines.{word, refusal_line, stop_line, kept_lines, told}
use Rattle.desk.specs.Report.{Found, run_found, system_found, read_found, file_found, found, report}
use Rattle.desk.proofs.Finding.{found_begun, found_read, found_unread}
use Rattle.desk.proofs.Room.{room_enough}
use Rattle.claims.specs.Calls.{Memory, fresh, called, Begun, boxes_of}
use Rattle.claims.specs.Caller.{Gives}
use Rattle.claims.specs.Reached.{Reached, by_start, by_run}
use Rattle.claims.specs.Program.{no_coefficients, empty_store, free, program_call, PrintsRefusal, lines_of, PrintsARun, finished_lines, Whole, PrintsFinished, PrintsOfTheFront}
use Rattle.search.specs.Lent.{at_start}
use Rattle.search.proofs.Calls.{good_after}
use Rattle.claims.proofs.Calls.{kept_up, good, good_judged}
use Rattle.claims.proofs.Demands.{answers_mean, finished_is_whole}
use Rattle.claims.proofs.Caller.{run_is_a_call}
use Rattle.claims.proofs.Reached.{take_map, in_record}

-- ---- a file that reads is accepted: the range is the same test in `write` and in a start
same_range : (xs : List ℤ) → all_in_range xs ≡ every (within 1000000000) xs
unfolding all_in_range every
same_range [] = refl
same_range (x ∷ xs) = ap (λ (b : Bool). within 1000000000 x && b) (same_range xs)

accepted : (s : List ℕ) → Bytes s → (out st : List ℤ) (h : Head) (cs : List ℤ) → reads s out ≡ (Ok h, cs) → (Limits h → needed h ≤ length st)
    → start_check h cs st ≡ Ok tt
unfolding start_check
accepted s b out st h cs e room =
    let i = in_limits s b out h cs e in
    rw (i.0, le-leb (places h) (length cs) i.1, sym (same_range (take (places h) cs)) ∙ i.2, le-leb (needed h) (length st) (room ((head_says h).fact i.0))) refl

-- ---- the free list, as records
abbrev blank : Kept
blank = first (replicate 7 0)

free_taken : (n k : ℕ) → k ≡ 7 * n → map forget (replicate n (remember blank)) ≡ taken n (replicate k 0)
unfolding taken
free_taken zero k e = refl
free_taken (suc n) k e =
    let seven-more : k ≡ suc (suc (suc (suc (suc (suc (suc (7 * n))))))) = omega arith in
    rw seven-more (ap (λ (l : List Kept). blank ∷ l) (free_taken n (7 * n) refl))

abbrev free_list : List ℕ
free_list = replicate (7 * 1024) 0

free_listed : map forget free ≡ listed free_list
free_listed = free_taken 1024 (7 * 1024) refl ∙ ap (λ (n : ℕ). taken (n / 7) free_list) (sym (length-replicate {A = ℕ} (7 * 1024) 0))

-- what is printed of what is found
abbrev printed : Found → List ℕ
printed f = told f.answer f.kept

-- ---- a start and one call, with any budget and any places
module _ (budget : ℕ) (h : Head) (cs st : List ℤ) (e : start_check h cs st ≡ Ok tt) (list : List (Entry Box)) where
  abbrev stop : Stop Memory
  stop = called h budget (fresh h cs st list)

  abbrev ran : List Kept → Run
  ran ks = run_of h fresh_state budget ks (fresh_store h cs st)

  gives : Gives (ran (map forget list)) h budget (fresh h cs st list)
  gives =
      let g = good h cs st e (fresh h cs st list) (at_start list) in
      run_is_a_call h fresh_state budget list (fresh_store h cs st) (good_judged h (start_passes h cs st e).limits cs (fresh h cs st list) g)

  reached : Reached h cs st (state_of stop.state) (map forget stop.state.list) stop.state.store
  reached =
      let begun : Reached h cs st fresh_state (map forget list) (fresh_store h cs st)
      = subst (λ c. Reached h cs st fresh_state (map forget list) (start_store h cs st c)) e (by_start fresh_state (map forget list) (ap start_answer e)) in
      subst (λ l. Reached h cs st (state_of stop.state) l stop.state.store) gives.leaves.list
      (subst (Reached h cs st (state_of stop.state) (ran (map forget list)).end.list) gives.leaves.store (by_run begun budget _ gives.answer))

  run_prints : (xs : List ℕ) → map forget list ≡ listed xs → printed (system_found budget h cs st xs) ≡ lines_of h stop.answer stop.state
  unfolding run_found
  run_prints xs l =
      let f = stop.state in
      ap printed (sym (found_begun budget h cs st xs _ refl fresh_state (fresh_store h cs st) (ap (start_store h cs st) (sym e)) (ap start_answer e)))
      ∙ ap (λ (ks : List Kept). told (ran ks).answer (ran ks).end.list) (sym l) ∙ ap₂ told gives.answer gives.leaves.list
      ∙ ap (λ (ks : List Kept). stop_line (word_of stop.answer) f.visits f.dropped f.kept f.waiting ++ kept_lines ks)
      (take_map forget f.kept f.list)

-- ---- the report of a file
pub prints_refusal : PrintsRefusal
unfolding report found
prints_refusal s x e = ap printed (sym (found_unread 1000000 s no_coefficients empty_store free_list (reads s no_coefficients).0 refl x e))

pub prints_of_the_front : PrintsOfTheFront
unfolding report found file_found
prints_of_the_front s =
    ap (λ (r : Result Head Refused × List ℤ). printed (read_found 1000000 r.0 r.1 empty_store free_list)) (front_decides s no_coefficients 4096 (omega arith))

pub prints_a_run : PrintsARun
unfolding report found
prints_a_run s b h cs e =
    let room : Limits h → needed h ≤ length empty_store = λ m. omega (arith, (room_enough h m).1, length-replicate (31 * 198) (pos 0)) in
    let a : start_check h cs empty_store ≡ Ok tt = accepted s b no_coefficients empty_store h cs e room in
    let read : ((reads s no_coefficients).0 ≡ Ok h) × ((reads s no_coefficients).1 ≡ cs) = (ap (λ r. r.0) e, ap (λ r. r.1) e) in
    record {
      accepted = a;
      prints = ap printed (sym (found_read 1000000 s no_coefficients empty_store free_list (reads s no_coefficients).0 refl h cs (sym read.1) read.0))
          ∙ run_prints 1000000 h cs empty_store a free free_list free_listed;
      reached = reached 1000000 h cs empty_store a free;
    }

-- ---- what `finished` means
-- no other line begins as it does: the second bytes differ
other_line : (w : Answer) (visits dropped kept waiting : ℕ) (more rest : List ℕ)
    → stop_line (word_of w) visits dropped kept waiting ++ more ≡ word Word.Finished ++ rest → w ≡ finished
unfolding line
other_line finished v d k n more rest q = refl
other_line spent v d k n more rest q = let z : ◌≡◌ {A = ℕ} 112 105 = ap (λ (l : List ℕ). byte l 1) q in absurd (omega arith)
other_line full v d k n more rest q = let z : ◌≡◌ {A = ℕ} 117 105 = ap (λ (l : List ℕ). byte l 1) q in absurd (omega arith)

not_refused : (x : Refused) (rest : List ℕ) → refusal_line x ≡ word Word.Finished ++ rest → ⊥
unfolding line
not_refused x rest q = let z : ◌≡◌ {A = ℕ} 101 105 = ap (λ (l : List ℕ). byte l 1) q in omega arith

none_waits : (h : Head) (budget room : ℕ) (s : States (slots (cells h))) (f : Memory) (w : Answer) → w ≡ finished
    → Means (slots (cells h)) budget room s (boxes_of h f) w → f.waiting ≡ 0
none_waits h budget room s f finished e m = sym (stack_length (width h) f.waiting f.store) ∙ ap length m.1
none_waits h budget room s f spent e m = let z : ◌≡◌ {A = ℕ} 0 1 = cc in absurd (omega arith)
none_waits h budget room s f full e m = let z : ◌≡◌ {A = ℕ} 0 1 = cc in absurd (omega arith)

module _ (h : Head) (cs st : List ℤ) (e : start_check h cs st ≡ Ok tt) (f : Memory) (b : Begun h cs st f) (budget : ℕ) where
  abbrev end : Memory
  end = (called h budget f).state

  abbrev records : List Kept
  records = map forget (boxes_of h end).kept

  -- as many records as are counted, and 0 waiting
  when_finished : (called h budget f).answer ≡ finished → lines_of h (called h budget f).answer end ≡ finished_lines end.visits end.dropped records
  when_finished a =
      let g = good_after (cells h) (kept_up h cs st e) f (good h cs st e f b) budget in
      let counted : length records ≡ end.kept = length-map (boxes_of h end).kept forget ∙ length-take-le end.kept end.list g.enough.kept_fits in
      let waits : end.waiting ≡ 0 = none_waits h budget (length f.list) (boxes_of h f) end (called h budget f).answer a (answers_mean h cs st e f b budget) in
      ap (λ (w : Answer). lines_of h w end) a
      ∙ ap₂ (λ (k n : ℕ). stop_line Word.Finished end.visits end.dropped k n ++ kept_lines records) (sym counted) waits

pub prints_finished : PrintsFinished
prints_finished s b rest q = from (reads s no_coefficients).0 refl
  where
    from : (r : Result Head Refused) → (reads s no_coefficients).0 ≡ r → Whole s
    from (Err x) e = absurd (not_refused x rest (sym (prints_refusal s x e) ∙ q))
    from (Ok h) e =
        let cs : List ℤ = (reads s no_coefficients).1 in
        let read : reads s no_coefficients ≡ (Ok h, cs) = ap (λ (a : Result Head Refused). (a, cs)) e in
        let p = prints_a_run s b h cs read in
        let start : Memory = fresh h cs empty_store free in
        let f : Memory = (program_call h cs).state in
        let a : (program_call h cs).answer ≡ finished = other_line _ f.visits f.dropped f.kept f.waiting _ rest (sym p.prints ∙ q) in
        record {
          head = h;
          coefficients = cs;
          read = read;
          visits = f.visits;
          dropped = f.dropped;
          boxes = map forget (boxes_of h f).kept;
          prints = p.prints ∙ when_finished h cs empty_store p.accepted start (at_start _) 1000000 a;
          whole = λ x i z. in_record h x (boxes_of h f).kept (finished_is_whole h cs empty_store p.accepted start (at_start _) 1000000 a x i z);
        }
