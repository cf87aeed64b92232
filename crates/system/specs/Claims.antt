-- The theorem of this crate, as a statement: what the definition that the contracts cite says in 01's words. Proved in proofs/Heads.
use Rattle.std.specs.Prelude.{◌≡◌, true, ◌↔◌}
use Rattle.system.specs.declared.head.Head.{Head}
use Rattle.system.specs.Heads.{head_ok, Limits}

-- 01, "The system": a head passes exactly within the limits
abbrev pub HeadLimits : Type 0
HeadLimits = (h : Head) → (head_ok h ≡ true) ↔ Limits h
