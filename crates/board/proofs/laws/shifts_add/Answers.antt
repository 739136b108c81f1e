use Rattle.std.proofs.Common.{◌≡◌, ◌+◌, ◌-◌, ◌≤◌, drop, arith}
use Rattle.std.proofs.lemmas.List.{take-take, drop-drop, drop-take}
use Rattle.board.proofs.laws.shifts_add.Goals as goal

pub returns : goal.returns
returns c ws s m t n h =
    let e : m ≡ t + (m - t) = omega arith in
    let k : n ≤ m - t = omega arith in
    cc (drop-take t (m - t) (drop s ws), drop-drop t s ws, take-take n (m - t) (drop (s + t) ws) k)
