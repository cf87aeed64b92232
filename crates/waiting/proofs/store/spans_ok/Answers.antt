-- `spans_ok` meets its contract: the depths are at most 10. Assumes nothing.
use Rattle.bernstein.specs.Three.{first, second, third}
use Rattle.waiting.proofs.store.spans_ok.Goals as goal

pub span_ok-requires : goal.span_ok-requires
span_ok-requires c = c.args.h.limits.depths_high first

pub span_ok-requires-then-span_ok : goal.span_ok-requires-then-span_ok
span_ok-requires-then-span_ok c = c.args.h.limits.depths_high second

pub span_ok-requires-then-span_ok-2 : goal.span_ok-requires-then-span_ok-2
span_ok-requires-then-span_ok-2 c = c.args.h.limits.depths_high third
