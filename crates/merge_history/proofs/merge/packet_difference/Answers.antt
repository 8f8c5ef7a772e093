use Rattle.std.proofs.Common.{ap, length, subst}
use Rattle.std.specs.Prelude.{IfSome, Ok, Option}
use Rattle.merge_history.specs.Firsts.{IsFirst}
use Rattle.merge_history.specs.declared.differences.PacketDifference.{PacketDifference}
use Rattle.merge_history.proofs.Fits.{first_packet}
use Rattle.merge_history.proofs.merge.packet_difference.Goals as goal

pub returns-in_default-clause-none : goal.returns-in_default-clause-none
returns-in_default-clause-none c = λ is. c.in_ok-first.ensures.none (ap (λ (o : Option PacketDifference). Ok o) c.in_default.is)

pub returns-clause-some : goal.returns-clause-some
returns-clause-some c = λ rising.
    let l = c.args.layout.now in let kept = c.args.histories.now in let d = c.in-Some.first in
    let first : IsFirst l kept (length kept) d =
    subst (λ (o : Option PacketDifference). IfSome o (IsFirst l kept (length kept))) c.in-Some.is (c.in_ok-first.ensures.first rising) in
    first_packet l kept d c.in_ok-packets.packets.sent c.in_ok-packets.packets.taken first c.in_ok-packets.ensures.sent c.in_ok-packets.ensures.taken
