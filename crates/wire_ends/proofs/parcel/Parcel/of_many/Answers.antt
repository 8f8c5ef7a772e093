use Rattle.std.proofs.Common.{◌≡◌, ◌-◌, length, ap, arith, ℕ}
use Rattle.std.specs.Int.{div_ceil}
use Rattle.wire_ends.proofs.Cutting.{first_more}
use Rattle.wire_ends.proofs.parcel.Parcel.of_many.Goals as goal

pub returns-clause-places : goal.returns-clause-places
returns-clause-places c =
    let most = c.args.most in
    let rest : length c.split_at.result.1.now ≡ length c.args.packet.frame - most = grind (arith, c.split_at.ensures.back_len, c.as_slice-bytes.ensures) in
    let m = first_more (length c.args.packet.frame) most c.requires.few (omega (arith, c.requires.many)) in
    grind (arith, m, ap (λ (k : ℕ). div_ceil k most) rest, c.in_ok-rest.ensures.count, c.len-places.ensures, c.in_ok-rest.rest.ok)
