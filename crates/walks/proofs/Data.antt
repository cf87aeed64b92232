-- What a walk knows of the values that are passed, said once for every type.
--     Datum                        plain data by value: its machine value, and that what it owns is had for nothing
--     number, nothing, structure, variant      numbers, `()`, and declared types
--     Has d x w                    w is the machine value of x, and x fits its type.        has     from what a call's result shows
--     rows, vals, Fit              for a list of data: their types, their machine values, and that they fit
--     Param                        a parameter: what the walk has of it at exit, and that this gives what the contract says of it
--     value, lent, shown           by value, a `&mut [T]` that is still owned at exit, a `&[T]`
--     stays, all_go, spelled, told     for a list of parameters, as `Closing.antt` takes them
-- Assumes nothing.
use mathlib.Core.Path.{◌≡◌, refl, sym, ap, subst}
use Prim.Native.Nat.{ℕ}
use mathlib.Core.List.{List, [], ◌∷◌}
use seplogic.Ra.Ura.{Ura}
use mir.Syntax.{Width}
use mir.Val.{Val, WT, vunit, vint}
use base.Fml.{ftrue}
use types.Logic.{Logic}
use contract.Lifetimes.{Lfts}
use denote.RattleType.{RattleType, Denots, Valss}
use denote.Laws.{Is, Ises, Are, Spells, Tells, Tellss, Makes, Makess, Lawful, Typed}
use denote.Plain.{UInt, Nothing, uint_Tells, uint_Makes, uint_Lawful, Nothing-Tells, Nothing-Makes, Nothing-Lawful}
use denote.Slice.{slice_val, Room, shr_slice_vals, mut_slice_vals, mut_slice_Tells, shr_slice_Tells}
use denote.Signature.{Slot, AllWithin, name_of, meet_at, plain, mut_slice_of, shr_slice_of, types_at}
use denote.Steps.{only}
use denote.Struct.Declared as struct
use denote.Struct.Struct.{Plains}
use denote.Struct.Laws as LL
use denote.Enum.Declared as enum
use denote.Enum.Enum.{Plainss, Few}
use denote.Enum.Laws as EL
use denote.Triple.End.{Kepts}
use denote.Triple.Walked.{Stay, Stays, Goes, AllGo, stay_none, stay_slice, stay_none_slice, Goes-none, Goes-slice, Goes-none_slice}
use denote.Exit.{Kept, yes, Exit, unchanged, Last, left}

pub record Datum : Type 3 where
  pub row : RattleType
  pub val : row.Denot → Val
  pub tells : Tells row (Is row) (λ x. val x ∷ [])
  pub makes : {M : Type 1} {𝓤 : Ura M} (𝓛 : Logic 𝓤) → Makes 𝓛 row (Is row)
  pub lawful : {M : Type 1} {𝓤 : Ura M} (𝓛 : Logic 𝓤) → Lawful 𝓛 row
  pub quiet : (k : Kept) (x : row.Denot) (f : Last (row.exit k) x) → left (row.exit k) x f ≡ ftrue

-- of a type that is left as it was, a contract says nothing
abbrev still_quiet : {X : Type 0} (e : Exit X) → e ≡ unchanged → (x : X) (f : Last e x) → left e x f ≡ ftrue
still_quiet {X} e p = subst (λ (e' : Exit X). (x : X) (f : Last e' x) → left e' x f ≡ ftrue) (sym p) (λ x f. refl)

abbrev pub number : Width → Datum
number w = record { row = UInt w; val = vint w; tells = uint_Tells w; makes = λ 𝓛. uint_Makes 𝓛 w; lawful = λ 𝓛. uint_Lawful 𝓛 w; quiet = λ k x f. refl }

abbrev pub nothing : Datum
nothing = record { row = Nothing; val = λ _. vunit; tells = Nothing-Tells; makes = λ 𝓛. Nothing-Makes 𝓛; lawful = λ 𝓛. Nothing-Lawful 𝓛; quiet = λ k x f. refl }

abbrev pub structure : (T : struct.Declared) → LL.Laws T → Plains (struct.fields T) → LL.Copyables T.parts → Datum
structure T L P C = record { row = struct.row T; val = LL.val T L; tells = LL.tells T L; makes = λ 𝓛. LL.makes T P 𝓛; lawful = λ 𝓛. LL.lawful T L 𝓛; quiet = λ k. still_quiet ((struct.row T).exit k) (LL.still T C k) }

abbrev pub variant : (T : enum.Declared) → EL.Laws T → Plainss (enum.variants T) → EL.Copyabless T.parts → Few (enum.shape T) → Datum
variant T L P C few = record { row = enum.row T; val = EL.val T L; tells = EL.tells T L; makes = λ 𝓛. EL.makes T P 𝓛; lawful = λ 𝓛. EL.lawful T L 𝓛 few; quiet = λ k. still_quiet ((enum.row T).exit k) (EL.still T C k) }

abbrev pub Has : (d : Datum) → d.row.Denot → Val → Type 0
Has d x w = (w ≡ d.val x) × Is d.row x (d.val x ∷ [])

pub has : (d : Datum) (r x : d.row.Denot) (w : Val) → r ≡ x → Is d.row r (w ∷ []) → Has d x w
has d r x w e is = (ap only (d.tells x (w ∷ []) at_x), subst (Is d.row x) (d.tells x (w ∷ []) at_x) at_x)
  where
    at_x : Is d.row x (w ∷ [])
    at_x = subst (λ (y : d.row.Denot). Is d.row y (w ∷ [])) e is

pub typed : (d : Datum) {M : Type 1} {𝓤 : Ura M} (𝓛 : Logic 𝓤) → (x : d.row.Denot) → Is d.row x (d.val x ∷ []) → Typed d.row.mir (d.val x ∷ [])
typed d 𝓛 x is = (d.lawful 𝓛).typed x (d.val x ∷ []) is

-- the machine value of a slice is of its type
pub slice_typed : (R : RattleType) {n : ℕ} (p : ℕ × ℕ) → Room R n → Unit {0} × WT (slice_val p n)
slice_typed R p room = (tt, (tt, (record { fits = room.0 }, tt)))

abbrev pub rows : List Datum → List RattleType
rows [] = []
rows (d ∷ ds) = d.row ∷ rows ds

abbrev pub vals : (ds : List Datum) → Denots (rows ds) → Valss (rows ds)
vals [] a = tt
vals (d ∷ ds) a = (d.val a.0 ∷ [], vals ds a.1)

abbrev pub Fit : (ds : List Datum) → Denots (rows ds) → Type 0
Fit ds a = Are (rows ds) (Ises (rows ds)) a (vals ds a)

abbrev pub makess : (ds : List Datum) {M : Type 1} {𝓤 : Ura M} (𝓛 : Logic 𝓤) → Makess 𝓛 (rows ds) (Ises (rows ds))
makess [] 𝓛 = tt
makess (d ∷ ds) 𝓛 = (d.makes 𝓛, makess ds 𝓛)

-- ---- parameters
pub record Param (n : ℕ) : Type 3 where
  pub slot : Slot n
  pub kept : Kept
  pub stay : Stay slot kept
  pub goes : {M : Type 1} {𝓤 : Ura M} (𝓛 : Logic 𝓤) → Goes 𝓛 n slot kept stay
  pub spell : (κs : Lfts n) → (slot.row κs).Denot → List Val
  pub tells : (κs : Lfts n) → Tells (slot.row κs) (Is (slot.row κs)) (spell κs)

module _ {n : ℕ} where
  abbrev pub value : Datum → Param n
  value d = record { slot = plain (λ _. d.row); kept = yes; stay = stay_none (λ _. d.row) yes; goes = λ 𝓛. Goes-none 𝓛 n (λ _. d.row) yes (λ κs. d.quiet yes); spell = λ κs x. d.val x ∷ []; tells = λ κs. d.tells }

  abbrev pub lent : (j : ℕ) → AllWithin n (j ∷ []) → RattleType → Param n
  lent j ok R = record { slot = mut_slice_of (j ∷ []) ok (plain (λ _. R)); kept = yes; stay = stay_slice (j ∷ []) ok (plain (λ _. R)); goes = λ 𝓛. Goes-slice 𝓛 n j ok (plain (λ _. R)); spell = λ κs. mut_slice_vals; tells = λ κs. mut_slice_Tells (name_of (j ∷ [])) (meet_at n (j ∷ []) ok κs) R }

  abbrev pub shown : (j : ℕ) → AllWithin n (j ∷ []) → RattleType → Param n
  shown j ok R = record { slot = shr_slice_of (j ∷ []) ok (plain (λ _. R)); kept = yes; stay = stay_none_slice (j ∷ []) ok (plain (λ _. R)) yes; goes = λ 𝓛. Goes-none_slice 𝓛 n (j ∷ []) ok (plain (λ _. R)) yes; spell = λ κs. shr_slice_vals; tells = λ κs. shr_slice_Tells (name_of (j ∷ [])) (meet_at n (j ∷ []) ok κs) R }

  abbrev slots : List (Param n) → List (Slot n)
  slots [] = []
  slots (p ∷ ps) = p.slot ∷ slots ps

  abbrev kepts : (ps : List (Param n)) → Kepts (slots ps)
  kepts [] = tt
  kepts (p ∷ ps) = (p.kept, kepts ps)

  abbrev pub stays : (ps : List (Param n)) → Stays (slots ps) (kepts ps)
  stays [] = tt
  stays (p ∷ ps) = (p.stay, stays ps)

  abbrev pub all_go : (ps : List (Param n)) {M : Type 1} {𝓤 : Ura M} (𝓛 : Logic 𝓤) → AllGo 𝓛 n (slots ps) (kepts ps) (stays ps)
  all_go [] 𝓛 = tt
  all_go (p ∷ ps) 𝓛 = (p.goes 𝓛, all_go ps 𝓛)

  abbrev pub spelled : (ps : List (Param n)) (κs : Lfts n) → Spells (types_at (slots ps) κs)
  spelled [] κs = tt
  spelled (p ∷ ps) κs = (p.spell κs, spelled ps κs)

  abbrev pub told : (ps : List (Param n)) (κs : Lfts n) → Tellss (types_at (slots ps) κs) (Ises (types_at (slots ps) κs)) (spelled ps κs)
  told [] κs = tt
  told (p ∷ ps) κs = (p.tells κs, told ps κs)
