use Rattle.links.proofs.Simulated.{packet_stands, stamp_is}
use Rattle.links.proofs.laws.law_next.Goals as goal

pub returns-clause-packet : goal.returns-clause-packet
returns-clause-packet c = packet_stands

pub returns-clause-stamp : goal.returns-clause-stamp
returns-clause-stamp c = stamp_is
