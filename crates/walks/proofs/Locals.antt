-- The locals of a walked function, said once for every walk. Local i of the code stands in the context at 2 · i, behind k entries that are no local: a statement's rule takes k alone, and reads i off the code.
--     begins               every local is allocated, in order
--     passes               an argument is stored in its local
--     local, field         an operand: a local; a field of a local that is a struct
--     target               a right side: where a local that is a slice points to
--     sets                 a local that was empty takes the value of a right side
--     receives, replaces   the result of a call goes to a local that was empty; to one that was not.        receives_last    where the call ends its part
--     clears               a local is empty again
--     tests                a branch, each of whose arms goes on with what follows the branch
--     leaves               the code returns its local 0, and every local is freed: `full` where it holds a value, `room` where it is empty
-- Assumes `Logic`.
use mathlib.Core.Path.{◌≡◌, refl, sym, subst}
use mathlib.Core.Option.{Option, none as no_field, some}
use mathlib.Core.Bool.{Bool, true, false, not}
use Prim.Native.Nat.{ℕ, zero, suc, ◌+◌, ◌*◌}
use mathlib.Core.List.{List, [], ◌∷◌}
use seplogic.Ra.Ura.{Ura}
use base.Fraction.{full_share}
use lib.Dec.{T as Holds}
use mir.Syntax.{Sym, Ty, Tys, Local, Fn, Opd as Operand, Body, Rv as Right, copy, place, field as step_in, deref, addr_of, skip, seq, assign, block, loop, cond, switch, exit, return, unreachable, call, call_v, lend_static, ty_struct, local as of_type}
use mir.Val.{Val, Vals, vbool, vptr, vstruct, has_ty, WT}
use mir.Fields.{get_v, set_v}
use base.Logic.{SProp, ent, id⊢, via, mono_r}
use base.Fml.{Share, fat, froom, fdies}
use prog.Memory.{field_at}
use prog.Wp.{Spot, Env, Calls, Loops, Tables, Wp, WpFn, Out, spot_of, after_seq, next, exits, returns as returned}
use types.Logic.{Logic}
use sound.WpLaws.{Wp-mono}
use types.Kit.{Item, ‵, mean, ⋆, nth, put, pop, push, sel⊢, Goal, Post, post, prop, runs, lands, settles, allocs, params', passes as passing, frees, at_ret, Seq, Step, step, ◌$◌, by}
use types.Run.{Reads, Walks, addr, hop, Opd, Rv, look, init, stop, fld, from, load, store, assigns, land, land_last, forget, returns, first, branches, enter, alloc1, alloc0, pass1, free1, free0}
use types.Part.{Part, whole, sub, look_in}

-- n positions from k on
abbrev pub upto : ℕ → ℕ → List ℕ
upto k zero = []
upto k (suc n) = k ∷ upto (suc k) n

-- ---- the locals at their places bs, with what is in them
pub data Content : Type 0 where
  has : Val → Content
  empty : Content

abbrev holding : {M : Type 1} {𝓤 : Ura M} → Ty → ℕ → Content → Item 𝓤
holding τ b (has v) = ‵ (fat full_share τ b 0 v)
holding τ b empty = ‵ (froom τ b 0)

abbrev pub locals : {M : Type 1} {𝓤 : Ura M} → List Local → List ℕ → List Content → List (Item 𝓤)
locals [] bs xs = []
locals (of_type τ h ∷ ls) [] xs = []
locals (of_type τ h ∷ ls) (b ∷ bs) [] = []
locals (of_type τ h ∷ ls) (b ∷ bs) (x ∷ xs) = holding τ b x ∷ ‵ (fdies τ b) ∷ locals ls bs xs

abbrev pub places : List Local → List ℕ → List (Ty × ℕ)
places [] bs = []
places (of_type τ h ∷ ls) [] = []
places (of_type τ h ∷ ls) (b ∷ bs) = (τ, b) ∷ places ls bs

-- ---- the code begins: a proof for each choice of the locals' places
abbrev pub Each : List Local → (List (Ty × ℕ) → Type 1) → Type 1
Each [] P = P []
Each (of_type τ h ∷ ls) P = (b : ℕ) → Each ls (λ E. P ((τ, b) ∷ E))

each_map : (ls : List Local) {P Q : List (Ty × ℕ) → Type 1} → ((E : List (Ty × ℕ)) → P E → Q E) → Each ls P → Each ls Q
each_map [] f p = f [] p
each_map (of_type τ h ∷ ls) f p = λ b. each_map ls (λ E. f ((τ, b) ∷ E)) (p b)

abbrev pub rooms : {M : Type 1} {𝓤 : Ura M} → List (Ty × ℕ) → List (Item 𝓤) → List (Item 𝓤)
rooms [] Γ = Γ
rooms (e ∷ E) Γ = ‵ (froom e.0 e.1 0) ∷ ‵ (fdies e.0 e.1) ∷ rooms E Γ

-- two entries under the locals come to the front
rise : {M : Type 1} {𝓤 : Ura M} (𝓛 : Logic 𝓤) (E : Env 𝓤 𝓛.H) (i j : Item 𝓤) (Γ : List (Item 𝓤)) → ent 𝓤 (⋆ 𝓛 (rooms E (i ∷ j ∷ Γ))) (⋆ 𝓛 (i ∷ j ∷ rooms E Γ))
rise {𝓤 = 𝓤} 𝓛 [] i j Γ = id⊢ 𝓤 _
rise {𝓤 = 𝓤} 𝓛 (e ∷ E) i j Γ =
    let r : Item 𝓤 = ‵ (froom e.0 e.1 0) in
    let d : Item 𝓤 = ‵ (fdies e.0 e.1) in
    via 𝓤 _ (mono_r 𝓤 (mean 𝓛 r) (via 𝓤 _ (pop 𝓛 d (rooms E (i ∷ j ∷ Γ))) (via 𝓤 _ (mono_r 𝓤 (mean 𝓛 d) (rise 𝓛 E i j Γ)) (push 𝓛 d (i ∷ j ∷ rooms E Γ)))))
    (sel⊢ 𝓛 (2 ∷ 2 ∷ []) (r ∷ d ∷ i ∷ j ∷ rooms E Γ))

-- ---- the code ends
pub record Freed {M : Type 1} {𝓤 : Ura M} (K : Type 0) (𝓛 : Logic 𝓤) (E : Env 𝓤 𝓛.H) (Γ Γ' : List (Item 𝓤)) : Type 2 where
  pub go : K → {G : Goal 𝓤 𝓛.H} → Step K 𝓛 Γ' G Γ (frees E G)

module _ {M : Type 1} {𝓤 : Ura M} {𝓛 : Logic 𝓤} {K : Type 0} where
  open 𝓛 use {H}

  pub none : {Γ : List (Item 𝓤)} → Freed K 𝓛 [] Γ Γ
  none = record { go = λ t. free0 t }

  pub full : {τ : Ty} {b : ℕ} {v : Val} {E : Env 𝓤 H} {Γ Γ' : List (Item 𝓤)} → Freed K 𝓛 E Γ Γ' → Freed K 𝓛 ((τ, b) ∷ E) (‵ (fat full_share τ b 0 v) ∷ ‵ (fdies τ b) ∷ Γ) Γ'
  full f = record { go = λ t. step (λ s. forget t 0 refl $ free1 t $ f.go t $ s) }

  pub room : {τ : Ty} {b : ℕ} {E : Env 𝓤 H} {Γ Γ' : List (Item 𝓤)} → Freed K 𝓛 E Γ Γ' → Freed K 𝓛 ((τ, b) ∷ E) (‵ (froom τ b 0) ∷ ‵ (fdies τ b) ∷ Γ) Γ'
  room f = record { go = λ t. step (λ s. free1 t $ f.go t $ s) }

  pub leaves : K → {C : Calls 𝓤 H} {Λ : Loops 𝓤 H} {τ : Ty} {b : ℕ} {E : Env 𝓤 H} {v : Val} {Q : Val → SProp 𝓤} {Γ Γ' : List (Item 𝓤)} → Freed K 𝓛 ((τ, b) ∷ E) (‵ (fat full_share τ b 0 v) ∷ Γ) Γ'
      → Step K 𝓛 Γ' (prop (Q v)) (‵ (fat full_share τ b 0 v) ∷ Γ) (runs C Λ ((τ, b) ∷ E) return (at_ret ((τ, b) ∷ E) Q))
  leaves t f = step (λ s. returns t (look t 0 refl) $ f.go t $ s)

  allots : K → {Γ : List (Item 𝓤)} (ls : List Local) {G : Env 𝓤 H → Goal 𝓤 H} → Each ls (λ E. Seq K 𝓛 (rooms E Γ) (G E)) → Seq K 𝓛 Γ (allocs ls G)
  allots t [] s = alloc0 t $ s
  allots t {Γ} (of_type τ h ∷ ls) {G} s = alloc1 t (λ b. allots t {Γ = ‵ (froom τ b 0) ∷ ‵ (fdies τ b) ∷ Γ} ls (each_map ls (λ E p. by t (via 𝓤 _ (rise 𝓛 E (‵ (froom τ b 0)) (‵ (fdies τ b)) Γ) p.prf)) (s b)))

  pub begins : K → {Γ : List (Item 𝓤)} (C : Calls 𝓤 H) (Λ : Loops 𝓤 H) (f : Fn) (vs : List Val) (Q : Val → SProp 𝓤)
      → Each f.locals (λ E. Seq K 𝓛 (rooms E Γ) (params' E vs (runs C Λ E f.body (at_ret E Q)))) → Seq K 𝓛 Γ (prop (WpFn 𝓤 H C Λ f vs Q))
  begins t C Λ f vs Q s = enter t C Λ f vs Q $ allots t f.locals s

-- ---- statements
-- a field that is there; its type and offset are not computed
abbrev pub is_some : Option (Ty × ℕ) → Bool
is_some no_field = false
is_some (some x) = true

some_is : (o : Option (Ty × ℕ)) → Holds (is_some o) → (x : Ty × ℕ) × (o ≡ some x)
some_is no_field p = absurd p
some_is (some x) p = (x, refl)

infixr 20 ◌then◌
abbrev pub ◌then◌ : Body → Body → Body
skip then r = r
(seq a b) then r = seq a (b then r)
(assign p v) then r = seq (assign p v) r
(block b) then r = seq (block b) r
(loop b) then r = seq (loop b) r
(cond o a b) then r = seq (cond o a b) r
(switch o arms) then r = seq (switch o arms) r
(exit n) then r = exit n
return then r = return
(call f os p) then r = seq (call f os p) r
unreachable then r = unreachable
(call_v o s os p) then r = seq (call_v o s os p) r
(lend_static p τ c) then r = seq (lend_static p τ c) r

module _ {M : Type 1} {𝓤 : Ura M} (𝓛 : Logic 𝓤) (𝓣 : Tables 𝓤 𝓛.H) (E : Env 𝓤 𝓛.H) (r : Body) (Q : Out → SProp 𝓤) where
  open 𝓛 use {H}

  after : (b : Body) → ent 𝓤 (Wp 𝓤 H 𝓣.C 𝓣.Λ E (b then r) Q) (Wp 𝓤 H 𝓣.C 𝓣.Λ E b (after_seq 𝓤 H (Wp 𝓤 H 𝓣.C 𝓣.Λ E r Q) Q)) → (o : Out) → ent 𝓤 (after_seq 𝓤 H (Wp 𝓤 H 𝓣.C 𝓣.Λ E (b then r) Q) Q o)
      (after_seq 𝓤 H (Wp 𝓤 H 𝓣.C 𝓣.Λ E b (after_seq 𝓤 H (Wp 𝓤 H 𝓣.C 𝓣.Λ E r Q) Q)) (after_seq 𝓤 H (Wp 𝓤 H 𝓣.C 𝓣.Λ E r Q) Q) o)
  after b h next = h
  after b h (exits n) = id⊢ 𝓤 _
  after b h returned = id⊢ 𝓤 _

  onward : (a : Body) → ent 𝓤 (Wp 𝓤 H 𝓣.C 𝓣.Λ E (a then r) Q) (Wp 𝓤 H 𝓣.C 𝓣.Λ E a (after_seq 𝓤 H (Wp 𝓤 H 𝓣.C 𝓣.Λ E r Q) Q))
  onward skip = 𝓛.laws.⇛_intro _
  onward (seq a b) = Wp-mono 𝓤 H 𝓛.laws 𝓣 E a _ _ (after b (onward b))
  onward (assign p v) = id⊢ 𝓤 _
  onward (block b) = id⊢ 𝓤 _
  onward (loop b) = id⊢ 𝓤 _
  onward (cond o a b) = id⊢ 𝓤 _
  onward (switch o arms) = id⊢ 𝓤 _
  onward (exit n) = id⊢ 𝓤 _
  onward return = id⊢ 𝓤 _
  onward (call f os p) = id⊢ 𝓤 _
  onward unreachable = id⊢ 𝓤 _
  onward (call_v o s os p) = id⊢ 𝓤 _
  onward (lend_static p τ c) = id⊢ 𝓤 _

module _ {M : Type 1} {𝓤 : Ura M} {𝓛 : Logic 𝓤} {K : Type 0} {Γ : List (Item 𝓤)} where
  open 𝓛 use {H}

  pub passes : K → (n : ℕ) {τ : Ty} {b : ℕ} {E : Env 𝓤 H} {v : Val} {vs : List Val} {G : Goal 𝓤 H} → nth 𝓛 n Γ ≡ ‵ (froom τ b 0) → Holds (has_ty τ v) × WT v
      → Step K 𝓛 (put 𝓛 n (‵ (fat full_share τ b 0 v)) Γ) (passing E vs G) Γ (passing ((τ, b) ∷ E) (v ∷ vs) G)
  passes t n e wt = pass1 t (init t n e wt)

  pub clears : K → (k i : ℕ) {τ : Ty} {b : ℕ} {v : Val} {G : Goal 𝓤 H} → nth 𝓛 (k + 2 * i) Γ ≡ ‵ (fat full_share τ b 0 v) → Step K 𝓛 (put 𝓛 (k + 2 * i) (‵ (froom τ b 0)) Γ) G Γ G
  clears t k i e = forget t (k + 2 * i) e

  within : K → (n f : ℕ) {q : Share} {ν : Sym} {τs : Tys} {b : ℕ} {vs : Vals} {τ : Ty} {d : ℕ} → nth 𝓛 n Γ ≡ ‵ (fat q (ty_struct ν τs) b 0 (vstruct vs)) → field_at 0 τs f ≡ some (τ, d) → Reads K 𝓛 Γ τ b (0 + d) (get_v vs f)
  within t n f {q} {ν} {τs} {b} {vs} {τ} {d} e e'' = look_in t n (subst (λ (j : Item 𝓤). Part K 𝓛 j q τ b (0 + d) (get_v vs f) (λ u. ‵ (fat q (ty_struct ν τs) b 0 (vstruct (set_v vs f u))))) (sym e) (sub t f e'' (whole t)))

  module _ {E : Env 𝓤 H} where
    pub local : K → (k : ℕ) {i : ℕ} {q : Share} {v : Val} → nth 𝓛 (k + 2 * i) Γ ≡ ‵ (fat q (spot_of 𝓤 H E i).0 (spot_of 𝓤 H E i).1 0 v) → Opd K 𝓛 Γ E (copy (place i [])) v
    local t k {i} e = load t (from t (stop t)) (look t (k + 2 * i) e)

    pub field : K → (k : ℕ) {i f : ℕ} {q : Share} {ν : Sym} {τs : Tys} {b : ℕ} {vs : Vals} → nth 𝓛 (k + 2 * i) Γ ≡ ‵ (fat q (ty_struct ν τs) b 0 (vstruct vs)) → spot_of 𝓤 H E i ≡ (ty_struct ν τs, b, 0) → Holds (is_some (field_at 0 τs f)) → Opd K 𝓛 Γ E (copy (place i (step_in f ∷ []))) (get_v vs f)
    field t k {i} {f} {q} {ν} {τs} {b} {vs} e e' there =
        let x : (x : Ty × ℕ) × (field_at 0 τs f ≡ some x) = some_is (field_at 0 τs f) there in
        load t (from t (subst (λ (s : Spot 𝓤 H). Walks K 𝓛 Γ E s (step_in f ∷ []) (x.0.0, b, 0 + x.0.1)) (sym e') (fld t x.1 (stop t)))) (within t (k + 2 * i) f e x.1)

    -- what field f of a local points to, lent on
    pub target : K → (k : ℕ) {i f : ℕ} {q : Share} {ν : Sym} {τs : Tys} {b : ℕ} {vs : Vals} {ρ : Ty} {b' o' : ℕ} → nth 𝓛 (k + 2 * i) Γ ≡ ‵ (fat q (ty_struct ν τs) b 0 (vstruct vs)) → spot_of 𝓤 H E i ≡ (ty_struct ν τs, b, 0) → Holds (is_some (field_at 0 τs f)) → get_v vs f ≡ vptr b' o'
        → Rv K 𝓛 Γ E (addr_of (place i (step_in f ∷ deref ρ ∷ []))) (vptr b' o')
    target t k {i} {f} {q} {ν} {τs} {b} {vs} {ρ} {b'} {o'} e e' there is =
        let x : (x : Ty × ℕ) × (field_at 0 τs f ≡ some x) = some_is (field_at 0 τs f) there in
        addr t (from t (subst (λ (s : Spot 𝓤 H). Walks K 𝓛 Γ E s (step_in f ∷ deref ρ ∷ []) (ρ, b', o')) (sym e') (fld t x.1 (hop t (subst (λ (v : Val). Reads K 𝓛 Γ x.0.0 b (0 + x.0.1) v) is (within t (k + 2 * i) f e x.1)) (stop t)))))

    pub sets : K → (k : ℕ) {i : ℕ} {C : Calls 𝓤 H} {Λ : Loops 𝓤 H} {q : Post 𝓤 H} {r : Right} {rest : Body} {v : Val} → Rv K 𝓛 Γ E r v → nth 𝓛 (k + 2 * i) Γ ≡ ‵ (froom (spot_of 𝓤 H E i).0 (spot_of 𝓤 H E i).1 0) → Holds (has_ty (spot_of 𝓤 H E i).0 v) × WT v
        → Step K 𝓛 (put 𝓛 (k + 2 * i) (‵ (fat full_share (spot_of 𝓤 H E i).0 (spot_of 𝓤 H E i).1 0 v)) Γ) (runs C Λ E rest q) Γ (runs C Λ E (seq (assign (place i []) r) rest) q)
    sets t k {i} r e wt = assigns t r (from t (stop t)) (init t (k + 2 * i) e wt)

    pub receives : K → (k : ℕ) {i : ℕ} {C : Calls 𝓤 H} {Λ : Loops 𝓤 H} {q : Post 𝓤 H} {rest : Body} {v : Val} → nth 𝓛 (k + 2 * i) Γ ≡ ‵ (froom (spot_of 𝓤 H E i).0 (spot_of 𝓤 H E i).1 0) → Holds (has_ty (spot_of 𝓤 H E i).0 v) × WT v
        → Step K 𝓛 (put 𝓛 (k + 2 * i) (‵ (fat full_share (spot_of 𝓤 H E i).0 (spot_of 𝓤 H E i).1 0 v)) Γ) (runs C Λ E rest q) Γ (lands C Λ E (place i []) v rest q)
    receives t k {i} e wt = land t (from t (stop t)) (init t (k + 2 * i) e wt)

    pub replaces : K → (k : ℕ) {i : ℕ} {C : Calls 𝓤 H} {Λ : Loops 𝓤 H} {q : Post 𝓤 H} {rest : Body} {u v : Val} → nth 𝓛 (k + 2 * i) Γ ≡ ‵ (fat full_share (spot_of 𝓤 H E i).0 (spot_of 𝓤 H E i).1 0 u) → Holds (has_ty (spot_of 𝓤 H E i).0 v) × WT v
        → Step K 𝓛 (put 𝓛 (k + 2 * i) (‵ (fat full_share (spot_of 𝓤 H E i).0 (spot_of 𝓤 H E i).1 0 v)) Γ) (runs C Λ E rest q) Γ (lands C Λ E (place i []) v rest q)
    replaces t k {i} e wt = land t (from t (stop t)) (store t (k + 2 * i) e wt)

    pub receives_last : K → (k : ℕ) {i : ℕ} {q : Post 𝓤 H} {v : Val} → nth 𝓛 (k + 2 * i) Γ ≡ ‵ (froom (spot_of 𝓤 H E i).0 (spot_of 𝓤 H E i).1 0) → Holds (has_ty (spot_of 𝓤 H E i).0 v) × WT v
        → Step K 𝓛 (put 𝓛 (k + 2 * i) (‵ (fat full_share (spot_of 𝓤 H E i).0 (spot_of 𝓤 H E i).1 0 v)) Γ) (prop (post 𝓤 H q next)) Γ (settles E (place i []) v q)
    receives_last t k {i} e wt = land_last t (from t (stop t)) (init t (k + 2 * i) e wt)

    pub tests : K → (𝓣 : Tables 𝓤 H) {q : Post 𝓤 H} {o : Operand} {a b rest : Body} {y : Bool} → Opd K 𝓛 Γ E o (vbool y) → (Holds y → Seq K 𝓛 Γ (runs 𝓣.C 𝓣.Λ E (a then rest) q)) → (Holds (not y) → Seq K 𝓛 Γ (runs 𝓣.C 𝓣.Λ E (b then rest) q))
        → Seq K 𝓛 Γ (runs 𝓣.C 𝓣.Λ E (seq (cond o a b) rest) q)
    tests t 𝓣 {q} {a = a} {b} {rest} o then-so else-so = first t $ branches t o (λ h. by t (via 𝓤 _ (then-so h).prf (onward 𝓛 𝓣 E rest (post 𝓤 H q) a))) (λ h. by t (via 𝓤 _ (else-so h).prf (onward 𝓛 𝓣 E rest (post 𝓤 H q) b)))
