-- The frame of boxes is lawful: the facts of this crate, law by law. Assumes nothing.
use native.Mathlib.Omega.{arith}
use native.Mathlib.Nat as NatL
use Rattle.bernstein.specs.Places.{size}
use Rattle.bernstein.specs.Frames.{BoxesLawful}
use Rattle.bernstein.proofs.Boxes.{start_exact, cut_exact, sign_holds}
use Rattle.bernstein.proofs.Covers.{halves_cover, halves_inside}
use Rattle.bernstein.proofs.Sizes.{cut_fits}
use Rattle.bernstein.proofs.Starts.{start_fits}
use Rattle.bernstein.proofs.Indices.{index_place, index_upto}
use Rattle.bernstein.proofs.Places.{place_below, exact_same}

pub boxes_lawful : BoxesLawful
unfolding size
boxes_lawful n m s = record {
  size_low = NatL.mul-pos (NatL.mul-pos (omega arith) (omega arith)) (omega arith);
  place_below = place_below n;
  index_place = index_place n;
  index_inside = index_upto n;
  exact_same = λ b a p q e h. exact_same e h;
  start_exact = start_exact n m;
  cut_exact = λ b a p e h r. cut_exact n m a p b e h r;
  start_fits = λ a h j u. (start_fits n m s a h).stored j u;
  cut_fits = λ h r p c j u. (cut_fits n m h r p (record { cuttable = c })).stored j u;
  sign_holds = λ b a p e s h X q hq w. sign_holds n m a p b e s (record { all_have = h }) X q hq w;
  halves_cover = halves_cover;
  halves_inside = halves_inside;
}
