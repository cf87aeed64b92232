-- How a walk begins and ends, where the function has one lifetime: its first parameter is a slice or a reader, and the others are plain data.
--     enters       from what the function is passed: what the first parameter owns, and the token. What the data own is had for nothing, and let go
--     ends         to what it hands back: the result, the first parameter and the data
--     ends_datum   the same, where the result is plain data
--     made         what a datum owns
-- Assumes `Logic`.
use mathlib.Core.List.{List, [], ◌∷◌}
use seplogic.Ra.Ura.{Ura}
use base.Logic.{SProp, ent, sep, emp}
use base.Fml.{Lft, Share, Fml, flft, ftrue, fsep}
use types.Logic.{Logic, sem}
use types.Kit.{Item, Goal, ‵, raw, ◌⊛◌, ⋆, Sq, prop, Step, ◌$◌, ◌∵◌, !, qed, by, move, keep, split, join, fsplit, fjoin, frame, done}
use denote.RattleType.{Denots, owns}
use denote.Laws.{Is}
use denote.Steps.{nothing as true, owned}
use Rattle.walks.proofs.Data.{Datum, rows, vals, Fit}
use Rattle.walks.proofs.Lent.{Token, data_owned}

pub made : {M : Type 1} {𝓤 : Ura M} {𝓛 : Logic 𝓤} {K : Type 0} {Γ : List (Item 𝓤)} {G : Goal 𝓤 𝓛.H} → K → (d : Datum) (x : d.row.Denot) → Is d.row x (d.val x ∷ []) → Step K 𝓛 (‵ (d.row.own_val x (d.val x ∷ [])) ∷ Γ) G Γ G
made {𝓤 = 𝓤} {𝓛 = 𝓛} t d x is = owned t d.row (Is d.row) (d.makes 𝓛) x (d.val x ∷ []) is

module _ {M : Type 1} {𝓤 : Ura M} (𝓛 : Logic 𝓤) (κ : Lft) (q : Share) (F : Fml) (ds : List Datum) (a : Denots (rows ds)) where
  pub enters : {P : SProp 𝓤} → Sq 𝓛 (‵ F ∷ ‵ (flft κ q) ∷ []) (prop P) → ent 𝓤 (sep 𝓤 (sep 𝓤 (Token 𝓛 κ q) (sem 𝓛 (fsep F (owns (rows ds) a (vals ds a))))) (emp 𝓤)) P
  enters s = qed 𝓛 (((‵ (flft κ q) ⊛ ‵ ftrue) ⊛ ‵ (fsep F (owns (rows ds) a (vals ds a)))) ∷ raw (emp 𝓤) ∷ []) ∵ split ! $ split ! $ move ! (2 ∷ []) $ fsplit ! $ keep ! (0 ∷ 2 ∷ []) $ s

  pub ends : Fit ds a → (R : Fml) → ent 𝓤 (⋆ 𝓛 (‵ R ∷ ‵ (flft κ q) ∷ ‵ F ∷ [])) (sep 𝓤 (Token 𝓛 κ q) (sep 𝓤 (sem 𝓛 (fsep F (owns (rows ds) a (vals ds a)))) (sem 𝓛 R)))
  ends fit R = qed 𝓛 (‵ R ∷ ‵ (flft κ q) ∷ ‵ F ∷ []) ∵ true ! $ move ! (2 ∷ 0 ∷ []) $ join ! $ frame ! $ data_owned ! ds a fit $ move ! (2 ∷ 0 ∷ []) $ fjoin ! $ frame ! $ done !

  pub ends_datum : Fit ds a → (d : Datum) (x : d.row.Denot) → Is d.row x (d.val x ∷ []) → ent 𝓤 (⋆ 𝓛 (‵ F ∷ ‵ (flft κ q) ∷ [])) (sep 𝓤 (Token 𝓛 κ q) (sep 𝓤 (sem 𝓛 (fsep F (owns (rows ds) a (vals ds a)))) (sem 𝓛 (d.row.own_val x (d.val x ∷ [])))))
  ends_datum fit d x is = qed 𝓛 (‵ F ∷ ‵ (flft κ q) ∷ []) ∵ made ! d x is $ move ! (0 ∷ 2 ∷ 1 ∷ []) $ by ! (ends fit (d.row.own_val x (d.val x ∷ [])))
