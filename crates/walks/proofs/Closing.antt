-- How a walk becomes the function's theorem: the last lines of every walked proof, said once.
--     closes       of a function's contract (T its signature, c its clauses), what the walk has of each parameter at exit (hs) and how it gives that up, how each parameter's machine values are spelled, and a walk from each choice of arguments, its triple at its own entry of the table of calls
-- Assumes nothing.
use mathlib.Core.List.{List}
use seplogic.Ra.Ura.{Ura}
use mir.Syntax.{Fn}
use mir.Val.{Val}
use base.Logic.{SProp, ent, sep}
use prog.Wp.{Calls, WpFn, Closed, Tables}
use prog.Model.{Model}
use prog.Routine.{Callee, Env}
use sound.WpLaws.{WpFn-mono}
use types.Logic.{Logic}
use contract.Lifetimes.{Lfts, Shares, AllOutlive}
use contract.Running.{Running, tables, tables_of}
use denote.RattleType.{RattleType, flat}
use denote.Laws.{Are, Ises, Spells, valss, Tellss}
use denote.Signature.{types_at}
use denote.Triple.Entry.{Args, Res, on_entry}
use denote.Triple.Spec.{triple_of}
use denote.Triple.Statement.{Triple}
use denote.Triple.Clauses.{Clauses, Ended, Lasts, closing}
use denote.Triple.Table.{entered}
use denote.Triple.Walked.{Stays, AllGo, Fit, Ending, walk_of, ends_at, walked, walk_Meets}

module _ {M : Type 1} {𝓤 : Ura M} (𝓛 : Logic 𝓤) (𝓜 : Model 𝓤 𝓛.H) (𝓡 : Running 𝓤 𝓛.H 𝓜) (T : Ended) (hs : Stays T.signature.params T.kept) (c : Clauses 𝓤 T) (env : Env) where
  open 𝓛 use {H}

  abbrev Types : Lfts T.signature.lifetimes → List RattleType
  Types κs = types_at T.signature.params κs

  abbrev pub Spelled : Type 0
  Spelled = (κs : Lfts T.signature.lifetimes) → Spells (Types κs)

  -- what ends a walk that is to end in Q: a result, the last values of what was lent, and that they fit
  abbrev pub Finish : (y : (walk_of 𝓛 T hs c).Ghost) → (Val → SProp 𝓤) → Type 1
  Finish y Q = (v : Val) (r : Res T.signature y.0.0) (ws : Lasts T y.0.0 y.0.3) → Fit T hs y.0.0 y.0.3 ws → ent 𝓤 (Ending 𝓛 T hs c y v r ws) (Q v)

  -- a walk of f at each choice of arguments, over tables of which Knows holds: the theorems of the functions that f calls
  abbrev pub Walk : Fn → (Calls 𝓤 H → Type 1) → Spelled → Type 2
  Walk f Knows sp = (𝓣 : Tables 𝓤 H) → Knows 𝓣.C → (κs : Lfts T.signature.lifetimes) (qs : Shares T.signature.lifetimes) (bounds : AllOutlive T.signature.lifetimes T.signature.outlives κs) (a : Args T.signature κs) (g : (c κs a).ghost)
      → Are (Types κs) (Ises (Types κs)) a (valss (Types κs) (sp κs) a) → (Q : Val → SProp 𝓤) → Finish ((κs, qs, bounds, a, valss (Types κs) (sp κs) a), g) Q
      → ent 𝓤 (sep 𝓤 (on_entry 𝓛 T.signature κs qs a (valss (Types κs) (sp κs) a)) ((c κs a).requires g)) (WpFn 𝓤 H 𝓣.C 𝓣.Λ f (flat (Types κs) (valss (Types κs) (sp κs) a)) Q)

  pub closes : (name : Callee) (f : Fn) → Closed 𝓤 H (tables 𝓤 H 𝓜 𝓡 env).C (tables 𝓤 H 𝓜 𝓡 env).Λ name f → (AllGo 𝓛 T.signature.lifetimes T.signature.params T.kept hs)
      → (sp : Spelled) → ((κs : Lfts T.signature.lifetimes) → Tellss (Types κs) (Ises (Types κs)) (sp κs)) → (Knows : Calls 𝓤 H → Type 1) → Knows (tables 𝓤 H 𝓜 𝓡 env).C → Walk f Knows sp
      → Triple 𝓤 ((tables 𝓤 H 𝓜 𝓡 env).C name) (triple_of 𝓛 T.signature (closing 𝓛 T c))
  unfolding tables_of
  closes name f unfolded gs sp tl Knows known k =
      let 𝓣 : Tables 𝓤 H = tables_of 𝓤 H 𝓜 (tables 𝓤 H 𝓜 𝓡 env) in
      entered 𝓤 H (triple_of 𝓛 T.signature (closing 𝓛 T c)) 𝓣.C 𝓣.Λ name f unfolded
      (walk_Meets 𝓛 T hs gs c (WpFn 𝓤 H 𝓣.C 𝓣.Λ f) (WpFn-mono 𝓤 H 𝓛.laws 𝓣 f)
      (walked 𝓛 T hs c (WpFn 𝓤 H 𝓣.C 𝓣.Λ f) sp tl (λ κs qs bounds a g are. k 𝓣 known κs qs bounds a g are _ (ends_at 𝓛 T hs c ((κs, qs, bounds, a, valss (Types κs) (sp κs) a), g)))))
