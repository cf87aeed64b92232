-- A `while` as one step of a walk: the loop, its test and what follows it. The loop keeps the context `I s` at a state s, and a fact `Good f s` at a fuel f that falls at each turn.
--     whiles       the loop and what follows it, from a turn at each state. The turn ends at a later state, at less fuel, or leaves the loop for what follows it
-- Assumes `Logic`.
use mathlib.Core.List.{List}
use mathlib.Core.WellFounded.InvImage
use mathlib.Core.WellFounded.{WellFounded}
use Prim.Native.Nat.{ℕ, ◌<◌}
use lib.WfN.{lt-wf_rel}
use seplogic.Ra.Ura.{Ura}
use mir.Syntax.{Body, seq, block, loop}
use prog.Wp.{next, exits, Env, Tables, after_turn}
use types.Logic.{Logic}
use types.Kit.{Item, Post, post, runs, prop, Seq, Step, step, ◌$◌}
use types.Run.{first, blocks, again, loops}

module _ {S : Type 0} (Good : ℕ → S → Type 0) where
  abbrev States : Type 0
  States = (f : ℕ) × ((s : S) × Good f s)

  abbrev Less : States → States → Type 0
  Less j i = j.0 < i.0

  less_wf : WellFounded Less
  less_wf = InvImage.wf (λ (i : States). i.0) lt-wf_rel.wf

module _ {M : Type 1} {𝓤 : Ura M} {𝓛 : Logic 𝓤} {K : Type 0} where
  open 𝓛 use {H}

  pub whiles : K → (𝓣 : Tables 𝓤 H) {S : Type 0} (Good : ℕ → S → Type 0) (I : S → List (Item 𝓤)) {E : Env 𝓤 H} {b r : Body} {q : Post 𝓤 H}
      → ((f : ℕ) (s : S) → Good f s → (q' : Post 𝓤 H) → ((f' : ℕ) (s' : S) → Good f' s' → f' < f → Seq K 𝓛 (I s') (prop (post 𝓤 H q' next))) → ((Γ : List (Item 𝓤)) → Step K 𝓛 Γ (runs 𝓣.C 𝓣.Λ E r q) Γ (prop (post 𝓤 H q' (exits 1)))) → Seq K 𝓛 (I s) (runs 𝓣.C 𝓣.Λ E b q'))
      → (f : ℕ) (s : S) → Good f s → Seq K 𝓛 (I s) (runs 𝓣.C 𝓣.Λ E (seq (block (loop b)) r) q)
  unfolding after_turn
  whiles t 𝓣 Good I turn f s h = first t $ blocks t $ loops t 𝓣 (Less Good) (less_wf Good) (λ i. I i.1.0)
      (λ i. turn i.0 i.1.0 i.1.1 _ (λ f' s' h' lt. again t (Less Good) (λ j. I j.1.0) i (f', (s', h')) lt) (λ Γ. step (λ k. record { prf = k.prf }))) (f, (s, h))
