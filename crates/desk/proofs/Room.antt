-- The program's places are enough for every head within limits. Assumes nothing.
use Prim.Native.Nat.{suc, ◌≤◌}
use native.Mathlib.Omega.{arith}
use native.Mathlib.Nat.{mul-le-mul}
use Rattle.system.specs.Heads.{depth}
use Rattle.system.proofs.Heads.{places_high, width_high, depth_high}
use Rattle.desk.specs.Report.{RoomEnough}

pub room_enough : RoomEnough
room_enough h m = let d : suc (depth h) ≤ 31 = omega (arith, depth_high h m) in (places_high h m, mul-le-mul d (width_high h m))
