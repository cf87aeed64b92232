-- How the terms of a polynomial are placed: all that the term layer knows of a head (01, "The system": the place of a term). Definitions only.
use Rattle.std.specs.Prelude.{ℕ, Bool, leb}
use Rattle.bernstein.specs.Three.{◌!◌}
use Rattle.bernstein.specs.Numbers.{Index}
use Rattle.system.specs.Directions.{each}
use Rattle.system.specs.Heads.{degrees, frame}
use Rattle.system.specs.declared.head.Head.{Head}

-- how many places there are; which exponents; their place; and the exponents at a place
pub record Layout : Type 0 where
  pub size : ℕ
  pub within : Index → Bool
  pub place : Index → ℕ
  pub index : ℕ → Index

abbrev pub layout : Head → Layout
layout h =
    record {
      size = (frame h).size;
      within = λ j. each (λ r. leb (j ! r) (degrees h ! r));
      place = (frame h).place;
      index = (frame h).index;
    }
