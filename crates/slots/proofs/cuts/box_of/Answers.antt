-- `box_of` meets its contract: the six numbers are the spans of the three directions. Assumes nothing.
use native.Mathlib.Omega.{arith}
use Rattle.bernstein.specs.Three.{first, second, third}
use Rattle.slots.proofs.cuts.box_of.Goals as goal

pub span_at-s1-requires : goal.span_at-s1-requires
span_at-s1-requires c = (omega arith, c.requires.1 first)

pub span_at-s2-requires : goal.span_at-s2-requires
span_at-s2-requires c = (omega arith, c.requires.1 second)

pub span_at-s3-requires : goal.span_at-s3-requires
span_at-s3-requires c = (omega arith, c.requires.1 third)
