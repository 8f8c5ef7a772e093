use Rattle.std.proofs.Common.{◌≡◌, drop}
use Rattle.geo_base.specs.Broker.{sub_named}
use Rattle.durable_parts.specs.Parts.{subs_of}
use Rattle.durable_parts.proofs.subs.named.Given as goal

abbrev pub invariant-loop-sub : goal.invariant-loop-sub
invariant-loop-sub l = sub_named (subs_of l.subs) l.name ≡ sub_named (subs_of (drop l.sub-index l.subs)) l.name
