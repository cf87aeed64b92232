-- A call as one step of a walk: one that takes plain data alone, and one that is lent a `&κ mut [T]` again, or shown it as a `&[T]`, beside plain data.
-- Before a call with a slice the context begins with `[what the slice owns; κ's token]`, and so after it, at the callee's last list. The slice's machine value is `slice_val (b, o) n`, where n is the length of each list: so a loop can name the slice's local by n, whatever list stands there.
--     calls_plain              a call with plain data.        calls_lent, calls_lent_last      a call that is lent the slice, and is followed by a statement; one that ends its part
--     calls_owning             a call that is handed a `&[T]` for good, and gives what may hold a part of it
--     calls_shown              a call that is shown the slice: the list stays. T holds no `&mut`, so a `&` to one asks no token
--                              but the call's own (`Denote/Shares.antt`'s law, at no lifetime)
-- Of the callee the caller hands over its contract c and theorem, and
--     x ν δ        what c binds outside, at the slice lent for the lifetime ν under the name δ
--     x ν          the same where the slice is shown: a `&[T]` has no name
--     goes         that c asks no more than the slice and the data: `hands`, from the data and what the `requires` says
--     gives        that c gives the datum r, and says the slice's last list: `gives_lent` and `gives_data`, from what the `ensures` says
--     os           the operands, read in `[c.pre (x ν δ); what is kept of the slice; …]`: a local that stood at i stands at i still
-- Assumes `Logic`.
use mathlib.Core.Path.{◌≡◌, refl, sym, ◌∙◌, ap, subst}
use Prim.Native.Nat.{ℕ, zero, suc}
use mathlib.Core.List.{List, [], ◌∷◌, not-mem-nil}
use lib.ListN.{length}
use seplogic.Ra.Ura.{Ura}
use base.Fraction.{full_share}
use mir.Syntax.{Callee, Place, Opd as Operand, Body, named, seq, call}
use mir.Val.{Val}
use base.Logic.{SProp, ent, sep, ex, emp, guard, id⊢, fst∗}
use base.Fml.{Lft, GName, Share, Fml, Incl-refl, ftrue, feq, fsep, flft, fobs, fauth, flent, fbor, fobor}
use prog.Wp.{Env, Calls, Loops}
use types.Logic.{Logic, sem}
use sound.WpLaws.{FmC}
use contract.Monad.{fact}
use types.Kit.{Goal, Soaks, Item, ‵, raw, given, ◌⊛◌, some, later, Seq, Step, step, Post, runs, lands, settles, ◌$◌, ◌∵◌, !, qed, move, keep, use0, use1, use2, use3, rewrite, split, join, drop, pick, learn, fsplit, fjoin, feq_l, feq_i, frame, await, updating, now as at_once, check, done}
use types.Run.{Opds}
use types.Tokens.{lft_new, lft_end, lent_back}
use types.Share.{arr_parts}
use denote.RattleType.{RattleType, Denots, owns}
use denote.Laws.{Is, Ises, shows, owns_make}
use denote.Shadow.{pure_l, pure_i}
use denote.Steps.{nothing as true, heard, peeks}
use denote.Memory.{shares}
use denote.Slice.{slice_val, MutSlice, ShrSlice, Room, finally, heres, mut_slice_at, coded_holeys}
use denote.Lend.{Held, lends_shr_slice}
use denote.Shares.{Shares}
use denote.Index.{opens_slice, closes_slice}
use denote.Triple.Statement.{Contract, Triple}
use denote.Triple.Call.{calls_at, calls_at_last}
use Rattle.walks.proofs.Again.{LentAgain, lends_again, comes_back}
use Rattle.walks.proofs.Data.{Datum, Has, has, rows, vals, Fit, makess}

-- what the slice owns at the list l, under the name δ, at κ. The name that the signature gives to κ is no part of it
abbrev pub held : (R : RattleType) → Lft → ℕ → ℕ → ℕ → GName → List R.Denot → Fml
held R κ b o n δ l = (MutSlice (named 0) κ R).own_val (record { ref_ptr = (b, o); ghost_name = δ; now = l }) (slice_val (b, o) n ∷ [])

-- what a `&[T]` of it owns
abbrev pub seen : (R : RattleType) → Lft → ℕ → ℕ → ℕ → List R.Denot → Fml
seen R κ b o n l = (ShrSlice (named 0) κ R).own_val (record { ref_ptr = (b, o); now = l }) (slice_val (b, o) n ∷ [])

-- what the holder keeps while the slice is shown
abbrev Showing : (R : RattleType) → Lft → Lft → Share → GName → ℕ → ℕ → List R.Denot → Fml
Showing R κ κ' s γ b o ys = fsep (flent κ' ((arr_parts (shares R) (length ys)).part full_share ys b o)) (fsep (fobor κ s (Held R (length ys) b o γ)) (fsep (fobs γ ((coded_holeys R).code (heres R ys))) (fauth γ ((coded_holeys R).code (heres R ys)))))

-- ---- what a callee is handed, and what it gives
abbrev Units : ℕ → Type 0
Units zero = Unit {0}
Units (suc k) = Unit {0} × Units k

abbrev trues : ℕ → Fml
trues zero = ftrue
trues (suc k) = fsep ftrue (trues k)

abbrev around : (bs : List Datum) → Denots (rows bs) → Fml → Fml
around [] a F = F
around (d ∷ bs) a F = fsep (d.row.own_val a.0 (d.val a.0 ∷ [])) (around bs a.1 F)

abbrev last : (R : RattleType) → Lft → ℕ → ℕ → List R.Denot → ℕ → GName → List R.Denot → Fml
last R κ b o ys k δ l = fsep (fsep (fsep (finally R δ l) (feq ℕ (length l) (length ys))) (fbor κ (Held R (length ys) b o δ))) (trues k)

module _ {M : Type 1} {𝓤 : Ura M} (𝓛 : Logic 𝓤) where
  open 𝓛 use {H, A}

  abbrev pub Token : Lft → Share → SProp 𝓤
  Token κ s = sep 𝓤 (A.lft κ s) (emp 𝓤)

  -- the result r, and a fact
  abbrev pub GivenBack : (d : Datum) → d.row.Denot → Type 0 → SProp 𝓤 → Fml → Val → SProp 𝓤
  GivenBack d r φ tok L w = guard 𝓤 (Has d r w × φ) (sep 𝓤 tok (sem 𝓛 L))

  -- a callee c, at x, that takes the slice, and then gives r and says L
  abbrev pub Goes : (c : Contract 𝓤) → (ℕ → GName → c.Ghost) → (Lft → GName → Fml) → Type 1
  Goes c x slice = (ν : ℕ) (δ : GName) → ent 𝓤 (sep 𝓤 (A.lft (ν ∷ []) full_share) (sem 𝓛 (slice (ν ∷ []) δ))) (c.pre (x ν δ))

  abbrev pub Gives : (c : Contract 𝓤) → (ℕ → GName → c.Ghost) → (d : Datum) → d.row.Denot → Type 0 → (GName → Fml) → Type 1
  Gives c x d r φ L = (ν : ℕ) (δ : GName) (w : Val) → ent 𝓤 (c.post (x ν δ) w) (H.⇛ (GivenBack d r φ (Token (ν ∷ []) full_share) (L δ) w))

  module _ where
    around_in : (bs : List Datum) (a : Denots (rows bs)) (F : Fml) → Fit bs a → ent 𝓤 (sem 𝓛 F) (sem 𝓛 (around bs a F))
    around_in [] a F fit = id⊢ 𝓤 _
    around_in (d ∷ bs) a F fit = qed 𝓛 (‵ F ∷ []) ∵ use1 𝓛 (‵ (around bs a.1 F)) (around_in bs a.1 F fit.1) $ use0 𝓛 (‵ (d.row.own_val a.0 (d.val a.0 ∷ []))) (d.makes 𝓛 a.0 _ fit.0) $ fjoin ! $ done !

    -- data before the slice, and after it
    pub hands : {R : SProp 𝓤} (κ : Lft) (s : Share) (slice : Fml) (bs : List Datum) (b : Denots (rows bs)) (ds : List Datum) (a : Denots (rows ds)) → Fit bs b → Fit ds a → ent 𝓤 (emp 𝓤) R
        → ent 𝓤 (sep 𝓤 (A.lft κ s) (sem 𝓛 slice)) (sep 𝓤 (sep 𝓤 (Token κ s) (sem 𝓛 (around bs b (fsep slice (owns (rows ds) a (vals ds a)))))) R)
    hands {R} κ s slice bs b ds a fit-b fit-a r =
        qed 𝓛 (‵ (flft κ s) ∷ ‵ slice ∷ []) ∵ use0 𝓛 (raw R) r $ use0 𝓛 (‵ (owns (rows ds) a (vals ds a))) (owns_make 𝓛 (rows ds) (Ises (rows ds)) (makess ds 𝓛) a (vals ds a) fit-a) $
        -- [what the data own; R; the token; the slice]
        move ! (3 ∷ 0 ∷ []) $ fjoin ! $ use1 𝓛 (‵ (around bs b (fsep slice (owns (rows ds) a (vals ds a))))) (around_in bs b _ fit-b) $ true ! $ move ! (3 ∷ 0 ∷ []) $ join ! $ move ! (0 ∷ 1 ∷ []) $ join ! $ frame ! $ done !

    pub hands_data : {R : SProp 𝓤} (ds : List Datum) (a : Denots (rows ds)) → Fit ds a → ent 𝓤 (emp 𝓤) R → ent 𝓤 (emp 𝓤) (sep 𝓤 (sep 𝓤 (emp 𝓤) (sem 𝓛 (owns (rows ds) a (vals ds a)))) R)
    hands_data {R} ds a fit r =
        qed 𝓛 [] ∵ use0 𝓛 (raw R) r $ use0 𝓛 (‵ (owns (rows ds) a (vals ds a))) (owns_make 𝓛 (rows ds) (Ises (rows ds)) (makess ds 𝓛) a (vals ds a) fit) $ true ! $ join ! $ frame ! $ done !

    -- where the contract has k values that are not lent: it gives the r that its `ensures` fixes
    pub gives_data : (d : Datum) (tok : SProp 𝓤) (k : ℕ) (Φ : d.row.Denot → Type 0) (r : d.row.Denot) → ((r' : d.row.Denot) → Φ r' → r' ≡ r)
        → (w : Val) → ent 𝓤 (H.⇛ (ex 𝓤 (λ (r' : d.row.Denot). sep 𝓤 (sep 𝓤 tok (sem 𝓛 (d.row.own_val r' (w ∷ [])))) (ex 𝓤 (λ (ws : Units k). sep 𝓤 (sem 𝓛 (trues k)) (fact 𝓤 (Φ r'))))))) (H.⇛ (GivenBack d r (Unit {0}) tok ftrue w))
    gives_data d tok k Φ r says w =
        qed 𝓛 (later (some (λ (r' : d.row.Denot). (raw tok ⊛ ‵ (d.row.own_val r' (w ∷ []))) ⊛ some (λ (ws : Units k). ‵ (trues k) ⊛ raw (fact 𝓤 (Φ r'))))) ∷ []) ∵ updating ! $ await ! tt $ pick ! (λ r'. split ! $ move ! (1 ∷ []) $ pick ! (λ ws. split ! $ drop ! $ heard ! (Φ r') (λ φ.
        split ! $ move ! (1 ∷ []) $ peeks ! d.row (Is d.row) (shows 𝓛 d.row) r' (w ∷ []) (λ is. at_once ! $ check ! (has d r' r w (says r' φ) is, tt) $ true ! $ keep ! (2 ∷ 0 ∷ []) $ done !))))

    -- and of a slice before them: it says the last list, zs, which is as long as the list passed. The borrow that it hands back too is over with ν
    pub gives_lent : (d : Datum) (R : RattleType) {b o : ℕ} (ys zs : List R.Denot) (k : ℕ) (Φ : d.row.Denot → List R.Denot → Type 0) (r : d.row.Denot) → ((r' : d.row.Denot) (l : List R.Denot) → Φ r' l → (r' ≡ r) × (l ≡ zs))
        → (ν : ℕ) (δ : GName) (w : Val) → ent 𝓤 (H.⇛ (ex 𝓤 (λ (r' : d.row.Denot). sep 𝓤 (sep 𝓤 (Token (ν ∷ []) full_share) (sem 𝓛 (d.row.own_val r' (w ∷ [])))) (ex 𝓤 (λ (ws : List R.Denot × Units k). sep 𝓤 (sem 𝓛 (last R (ν ∷ []) b o ys k δ ws.0)) (fact 𝓤 (Φ r' ws.0)))))))
        (H.⇛ (GivenBack d r (length zs ≡ length ys) (Token (ν ∷ []) full_share) (finally R δ zs) w))
    gives_lent d R {b} {o} ys zs k Φ r says ν δ w =
        qed 𝓛 (later (some (λ (r' : d.row.Denot). (raw (Token (ν ∷ []) full_share) ⊛ ‵ (d.row.own_val r' (w ∷ []))) ⊛ some (λ (ws : List R.Denot × Units k). ‵ (last R (ν ∷ []) b o ys k δ ws.0) ⊛ raw (fact 𝓤 (Φ r' ws.0))))) ∷ []) ∵
        updating ! $ await ! tt $ pick ! (λ r'. split ! $ move ! (1 ∷ []) $ pick ! (λ ws. split ! $ move ! (1 ∷ []) $ heard ! (Φ r' ws.0) (λ φ. fsplit ! $ fsplit ! $ fsplit ! $ rewrite ! 0 (λ (l : List R.Denot). ‵ (finally R δ l)) (says r' ws.0 φ).1 refl $ move ! (1 ∷ []) $ feq_l ! (λ len.
        -- [the last list; the borrow; true; the token and the result]
        move ! (3 ∷ []) $ split ! $ move ! (1 ∷ []) $ peeks ! d.row (Is d.row) (shows 𝓛 d.row) r' (w ∷ []) (λ is. at_once ! $ check ! (has d r' r w (says r' ws.0 φ).0 is, sym (ap length (says r' ws.0 φ).1) ∙ len) $ keep ! (1 ∷ 2 ∷ []) $ done !)))))

-- what plain data own is had for nothing
pub data_owned : {M : Type 1} {𝓤 : Ura M} {𝓛 : Logic 𝓤} {K : Type 0} {Γ : List (Item 𝓤)} {G : Goal 𝓤 𝓛.H} → K → (ds : List Datum) (a : Denots (rows ds)) → Fit ds a → Step K 𝓛 (‵ (owns (rows ds) a (vals ds a)) ∷ Γ) G Γ G
data_owned {𝓤 = 𝓤} {𝓛 = 𝓛} t ds a fit = use0 𝓛 (‵ (owns (rows ds) a (vals ds a))) (owns_make 𝓛 (rows ds) (Ises (rows ds)) (makess ds 𝓛) a (vals ds a) fit)

-- ---- the slice is lent for a new lifetime, and comes back when it is over
module _ {M : Type 1} {𝓤 : Ura M} {𝓛 : Logic 𝓤} {K : Type 0} {Γ : List (Item 𝓤)} {G : Goal 𝓤 𝓛.H} where
  open 𝓛 use {A}

  lends : K → Soaks G → (R : RattleType) {κ : Lft} {s : Share} {γ : GName} (b o n : ℕ) (ys : List R.Denot) → length ys ≡ n
      → ((ν : ℕ) (δ : GName) → Seq K 𝓛 (‵ (flft (ν ∷ []) full_share) ∷ ‵ (held R (ν ∷ []) b o n δ ys) ∷ ‵ (LentAgain R κ (ν ∷ []) s γ b o δ ys) ∷ Γ) G)
      → Seq K 𝓛 (‵ (held R κ b o n γ ys) ∷ ‵ (flft κ s) ∷ Γ) G
  lends t z R {κ} {s} {γ} b o n ys e k =
      rewrite t 0 (λ (m : ℕ). ‵ (held R κ b o m γ ys)) (sym e) refl $
      lft_new t z (λ ν. move t (1 ∷ 2 ∷ []) $
      use2 𝓛 (later (some (λ (δ : GName). ‵ (held R (ν ∷ []) b o (length ys) δ ys) ⊛ ‵ (LentAgain R κ (ν ∷ []) s γ b o δ ys)))) (lends_again R κ (ν ∷ []) s γ b o 𝓛 (named 0) (named 0) ys) $ await t z $ pick t (λ δ. split t $
      rewrite t 0 (λ (m : ℕ). ‵ (held R (ν ∷ []) b o m δ ys)) e refl $ move t (2 ∷ 0 ∷ []) $ k ν δ))

  backs : K → Soaks G → (R : RattleType) {κ : Lft} {s : Share} {γ δ : GName} {ν : ℕ} (b o n : ℕ) (ys zs : List R.Denot) → length ys ≡ n → length zs ≡ n → Room R n
      → Step K 𝓛 (‵ (held R κ b o n γ zs) ∷ ‵ (flft κ s) ∷ Γ) G (raw (Token 𝓛 (ν ∷ []) full_share) ∷ ‵ (finally R δ zs) ∷ ‵ (LentAgain R κ (ν ∷ []) s γ b o δ ys) ∷ Γ) G
  backs t z R {κ} {s} {γ} {δ} {ν} b o n ys zs e e' room = step (λ k. use1 𝓛 (‵ (flft (ν ∷ []) full_share)) (fst∗ 𝓤 (A.lft (ν ∷ []) full_share) (emp 𝓤)) $ lft_end t z $ move t (0 ∷ 2 ∷ 1 ∷ []) $
      use3 𝓛 (later (‵ (held R κ b o (length ys) γ zs) ⊛ ‵ (flft κ s))) (comes_back R κ (ν ∷ []) s γ b o 𝓛 (named 0) (named 0) ys δ zs (subst (Room R) (sym e) room) (e' ∙ sym e)) $ await t z $ split t $
      rewrite t 0 (λ (m : ℕ). ‵ (held R κ b o m γ zs)) e refl $ k)

  shows_it : K → Soaks G → (R : RattleType) → Shares 𝓛 R [] → {κ : Lft} {s : Share} {γ : GName} (b o n : ℕ) (ys : List R.Denot) → length ys ≡ n → Room R n
      → ((ν : ℕ) → Seq K 𝓛 (‵ (flft (ν ∷ []) full_share) ∷ ‵ (seen R (ν ∷ []) b o n ys) ∷ ‵ (Showing R κ (ν ∷ []) s γ b o ys) ∷ Γ) G)
      → Seq K 𝓛 (‵ (held R κ b o n γ ys) ∷ ‵ (flft κ s) ∷ Γ) G
  shows_it t z R free {κ} {s} {γ} b o n ys e room k =
      fsplit t $ pure_l t (mut_slice_at R (record { ref_ptr = (b, o); ghost_name = γ; now = ys }) (slice_val (b, o) n ∷ [])) (λ _. fsplit t $ opens_slice t z R ys b o $ feq_i t ℕ (length ys) (length ys) refl $ fjoin t $
      lft_new t z (λ ν. move t (1 ∷ 0 ∷ []) $
      use2 𝓛 (later ((‵ (seen R (ν ∷ []) b o (length ys) ys) ⊛ ‵ (flent (ν ∷ []) ((arr_parts (shares R) (length ys)).part full_share ys b o))) ⊛ ‵ (flft (ν ∷ []) full_share)))
      (lends_shr_slice 𝓛 R (named 0) (ν ∷ []) full_share ys b o (subst (Room R) (sym e) room) [] free ((ν ∷ [], full_share) ∷ []) (λ a m. absurd (not-mem-nil m)) (Incl-refl (ν ∷ []))) $ await t z $ split t $ split t $
      -- [the `&[T]`; the lender's part; ν; the open borrow; obs; auth; …]
      rewrite t 0 (λ (m : ℕ). ‵ (seen R (ν ∷ []) b o m ys)) e refl $ move t (4 ∷ 5 ∷ []) $ fjoin t $ move t (4 ∷ 0 ∷ []) $ fjoin t $ move t (2 ∷ 0 ∷ []) $ fjoin t $
      -- [what is kept; the `&[T]`; ν; …]
      move t (2 ∷ 1 ∷ []) $ k ν))

  hides_it : K → Soaks G → (R : RattleType) {κ : Lft} {s : Share} {γ : GName} {ν : ℕ} (b o n : ℕ) (ys : List R.Denot) → length ys ≡ n → Room R n
      → Step K 𝓛 (‵ (held R κ b o n γ ys) ∷ ‵ (flft κ s) ∷ Γ) G (raw (Token 𝓛 (ν ∷ []) full_share) ∷ ‵ (Showing R κ (ν ∷ []) s γ b o ys) ∷ Γ) G
  hides_it t z R {κ} {s} {γ} {ν} b o n ys e room = step (λ k. use1 𝓛 (‵ (flft (ν ∷ []) full_share)) (fst∗ 𝓤 (A.lft (ν ∷ []) full_share) (emp 𝓤)) $ lft_end t z $
      move t (1 ∷ []) $ fsplit t $ move t (2 ∷ 0 ∷ []) $ lent_back t z $ fsplit t $ drop t $ move t (1 ∷ []) $ fsplit t $ move t (1 ∷ []) $ fsplit t $ move t (3 ∷ 2 ∷ []) $
      closes_slice t z R ys ys refl b o $ fjoin t $
      pure_i t (mut_slice_at R (record { ref_ptr = (b, o); ghost_name = γ; now = ys }) (slice_val (b, o) n ∷ [])) (tt, (tt, tt)) (ap (λ (m : ℕ). slice_val (b, o) m ∷ []) (sym e), subst (Room R) (sym e) room) $ fjoin t $ k)

-- ---- the calls
told : {M : Type 1} {𝓤 : Ura M} {𝓛 : Logic 𝓤} {K : Type 0} {Γ : List (Item 𝓤)} (G : Val → Goal 𝓤 𝓛.H) {w v : Val} → w ≡ v → Seq K 𝓛 Γ (G v) → Seq K 𝓛 Γ (G w)
told {𝓛 = 𝓛} {K = K} {Γ = Γ} G e s = subst (λ (u : Val). Seq K 𝓛 Γ (G u)) (sym e) s

module _ {M : Type 1} {𝓤 : Ura M} {𝓛 : Logic 𝓤} {K : Type 0} {Γ : List (Item 𝓤)} {E : Env 𝓤 𝓛.H} {C : Calls 𝓤 𝓛.H} {Λ : Loops 𝓤 𝓛.H} {q : Post 𝓤 𝓛.H} {p : Place} {f : Callee} {xs : List Operand} where
  open 𝓛 use {H, A}

  pub calls_plain : K → FmC 𝓤 H 𝓛.laws C → {rest : Body} (c : Contract 𝓤) → Triple 𝓤 (C f) c → (x : c.Ghost) (d : Datum) (r : d.row.Denot) → ent 𝓤 (emp 𝓤) (c.pre x) → ((w : Val) → ent 𝓤 (c.post x w) (H.⇛ (GivenBack 𝓛 d r (Unit {0}) (emp 𝓤) ftrue w)))
      → Opds K 𝓛 (raw (c.pre x) ∷ Γ) E xs (c.args x) → (Is d.row r (d.val r ∷ []) → Seq K 𝓛 Γ (lands C Λ E p (d.val r) rest q)) → Seq K 𝓛 Γ (runs C Λ E (seq (call f xs p) rest) q)
  calls_plain t fm {rest} c met x d r goes gives os k = use0 𝓛 (raw (c.pre x)) goes $ calls_at t fm c met x os (λ w. use1 𝓛 (later (given (Has d r w × Unit {0}) (raw (emp 𝓤) ⊛ ‵ ftrue))) (gives w) $ await t tt $ learn t (λ h. drop t $ told (λ v. lands C Λ E p v rest q) h.0.0 (k h.0.1)))

  -- a call that is handed a `&[T]` at its own lifetime, and gives an r that owns something of its own
  pub calls_owning : K → FmC 𝓤 H 𝓛.laws C → {rest : Body} (c : Contract 𝓤) → Triple 𝓤 (C f) c → (x : c.Ghost) {κ : Lft} {s : Share} (slice : Fml) (R : RattleType) (k : ℕ) (Φ : R.Denot → Type 0) → ent 𝓤 (sep 𝓤 (A.lft κ s) (sem 𝓛 slice)) (c.pre x)
      → ((w : Val) → ent 𝓤 (c.post x w) (H.⇛ (ex 𝓤 (λ (r : R.Denot). sep 𝓤 (sep 𝓤 (Token 𝓛 κ s) (sem 𝓛 (R.own_val r (w ∷ [])))) (ex 𝓤 (λ (ws : Units k). sep 𝓤 (sem 𝓛 (trues k)) (fact 𝓤 (Φ r))))))))
      → Opds K 𝓛 (raw (c.pre x) ∷ Γ) E xs (c.args x) → ((w : Val) (r : R.Denot) → Φ r → Is R r (w ∷ []) → Seq K 𝓛 (‵ (R.own_val r (w ∷ [])) ∷ ‵ (flft κ s) ∷ Γ) (lands C Λ E p w rest q))
      → Seq K 𝓛 (‵ (flft κ s) ∷ ‵ slice ∷ Γ) (runs C Λ E (seq (call f xs p) rest) q)
  calls_owning t fm c met x {κ} {s} slice R k Φ goes gives os then-so =
      use2 𝓛 (raw (c.pre x)) goes $ calls_at t fm c met x os (λ w.
      use1 𝓛 (later (some (λ (r : R.Denot). (raw (Token 𝓛 κ s) ⊛ ‵ (R.own_val r (w ∷ []))) ⊛ some (λ (ws : Units k). ‵ (trues k) ⊛ raw (fact 𝓤 (Φ r)))))) (gives w) $ await t tt $ pick t (λ r. split t $ move t (1 ∷ []) $ pick t (λ ws. split t $ drop t $ heard t (Φ r) (λ e.
      split t $ use1 𝓛 (‵ (flft κ s)) (fst∗ 𝓤 (A.lft κ s) (emp 𝓤)) $ move t (1 ∷ []) $ peeks t R (Is R) (shows 𝓛 R) r (w ∷ []) (λ is. then-so w r e is)))))

  pub calls_lent : K → FmC 𝓤 H 𝓛.laws C → {rest : Body} (c : Contract 𝓤) → Triple 𝓤 (C f) c → (R : RattleType) {κ : Lft} {s : Share} {γ : GName} (b o n : ℕ) (ys zs : List R.Denot) (x : ℕ → GName → c.Ghost) (d : Datum) (r : d.row.Denot)
      → length ys ≡ n → Room R n → Goes 𝓛 c x (λ κ' δ. held R κ' b o n δ ys) → Gives 𝓛 c x d r (length zs ≡ length ys) (λ δ. finally R δ zs)
      → ((ν : ℕ) (δ : GName) → Opds K 𝓛 (raw (c.pre (x ν δ)) ∷ ‵ (LentAgain R κ (ν ∷ []) s γ b o δ ys) ∷ Γ) E xs (c.args (x ν δ)))
      → (Is d.row r (d.val r ∷ []) → length zs ≡ n → Seq K 𝓛 (‵ (held R κ b o n γ zs) ∷ ‵ (flft κ s) ∷ Γ) (lands C Λ E p (d.val r) rest q))
      → Seq K 𝓛 (‵ (held R κ b o n γ ys) ∷ ‵ (flft κ s) ∷ Γ) (runs C Λ E (seq (call f xs p) rest) q)
  calls_lent t fm {rest} c met R b o n ys zs x d r e room goes gives os k =
      lends t tt R b o n ys e (λ ν δ. use2 𝓛 (raw (c.pre (x ν δ))) (goes ν δ) $ calls_at t fm c met (x ν δ) (os ν δ) (λ w.
      use1 𝓛 (later (given (Has d r w × (length zs ≡ length ys)) (raw (Token 𝓛 (ν ∷ []) full_share) ⊛ ‵ (finally R δ zs)))) (gives ν δ w) $ await t tt $ learn t (λ h. split t $ backs t tt R b o n ys zs e (h.1 ∙ e) room $ told (λ v. lands C Λ E p v rest q) h.0.0 (k h.0.1 (h.1 ∙ e)))))

  pub calls_lent_last : K → FmC 𝓤 H 𝓛.laws C → (c : Contract 𝓤) → Triple 𝓤 (C f) c → (R : RattleType) {κ : Lft} {s : Share} {γ : GName} (b o n : ℕ) (ys zs : List R.Denot) (x : ℕ → GName → c.Ghost) (d : Datum) (r : d.row.Denot)
      → length ys ≡ n → Room R n → Goes 𝓛 c x (λ κ' δ. held R κ' b o n δ ys) → Gives 𝓛 c x d r (length zs ≡ length ys) (λ δ. finally R δ zs)
      → ((ν : ℕ) (δ : GName) → Opds K 𝓛 (raw (c.pre (x ν δ)) ∷ ‵ (LentAgain R κ (ν ∷ []) s γ b o δ ys) ∷ Γ) E xs (c.args (x ν δ)))
      → (Is d.row r (d.val r ∷ []) → length zs ≡ n → Seq K 𝓛 (‵ (held R κ b o n γ zs) ∷ ‵ (flft κ s) ∷ Γ) (settles E p (d.val r) q))
      → Seq K 𝓛 (‵ (held R κ b o n γ ys) ∷ ‵ (flft κ s) ∷ Γ) (runs C Λ E (call f xs p) q)
  calls_lent_last t fm c met R b o n ys zs x d r e room goes gives os k =
      lends t tt R b o n ys e (λ ν δ. use2 𝓛 (raw (c.pre (x ν δ))) (goes ν δ) $ calls_at_last t fm c met (x ν δ) (os ν δ) (λ w.
      use1 𝓛 (later (given (Has d r w × (length zs ≡ length ys)) (raw (Token 𝓛 (ν ∷ []) full_share) ⊛ ‵ (finally R δ zs)))) (gives ν δ w) $ await t tt $ learn t (λ h. split t $ backs t tt R b o n ys zs e (h.1 ∙ e) room $ told (λ v. settles E p v q) h.0.0 (k h.0.1 (h.1 ∙ e)))))

  pub calls_shown : K → FmC 𝓤 H 𝓛.laws C → {rest : Body} (c : Contract 𝓤) → Triple 𝓤 (C f) c → (R : RattleType) → Shares 𝓛 R [] → {κ : Lft} {s : Share} {γ : GName} (b o n : ℕ) (ys : List R.Denot) (x : ℕ → c.Ghost) (d : Datum) (r : d.row.Denot)
      → length ys ≡ n → Room R n → Goes 𝓛 c (λ ν _. x ν) (λ κ' _. seen R κ' b o n ys) → Gives 𝓛 c (λ ν _. x ν) d r (Unit {0}) (λ _. ftrue)
      → ((ν : ℕ) → Opds K 𝓛 (raw (c.pre (x ν)) ∷ ‵ (Showing R κ (ν ∷ []) s γ b o ys) ∷ Γ) E xs (c.args (x ν)))
      → (Is d.row r (d.val r ∷ []) → Seq K 𝓛 (‵ (held R κ b o n γ ys) ∷ ‵ (flft κ s) ∷ Γ) (lands C Λ E p (d.val r) rest q))
      → Seq K 𝓛 (‵ (held R κ b o n γ ys) ∷ ‵ (flft κ s) ∷ Γ) (runs C Λ E (seq (call f xs p) rest) q)
  calls_shown t fm {rest} c met R free {γ = γ} b o n ys x d r e room goes gives os k =
      shows_it t tt R free b o n ys e room (λ ν. use2 𝓛 (raw (c.pre (x ν))) (goes ν γ) $ calls_at t fm c met (x ν) (os ν) (λ w.
      use1 𝓛 (later (given (Has d r w × Unit {0}) (raw (Token 𝓛 (ν ∷ []) full_share) ⊛ ‵ ftrue))) (gives ν γ w) $ await t tt $ learn t (λ h. split t $ move t (1 ∷ []) $ drop t $ hides_it t tt R b o n ys e room $ told (λ v. lands C Λ E p v rest q) h.0.0 (k h.0.1))))
