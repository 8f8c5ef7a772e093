use Rattle.std.proofs.Common.{◌≡◌, ◌<◌, length, ap, arith}
use Rattle.live_run.proofs.Links.{found_within}
use Rattle.live_run.proofs.rings.waiting_for.Goals as goal

pub swap_remove-goes-requires : goal.swap_remove-goes-requires
swap_remove-goes-requires c =
    let same : c.as_slice.result.now ≡ c.args.waiting.now.rows.items = c.as_slice.ensures.value in
    let lt : c.in_ok-at.at < length c.as_slice.result.now = found_within c.place_of.result _ _ c.place_of.ensures c.in_ok-at.was in
    let long = ap length same in
    omega (arith, lt, long, c.args.waiting.now.rows.ok.0)
