use Rattle.std.proofs.Common.{◌∙◌, ap, sym}
use Rattle.durable_parts.specs.declared.write.Write.{Write}
use Rattle.durable_parts.specs.Applied.{applied}
use Rattle.durable_parts.specs.Durable.{broker_of}
use Rattle.durable_parts.proofs.Standing.{stands}
use Rattle.durable_parts.proofs.applying.apply_write.Goals as goal

pub returns-in-Acks-clause-machine : goal.returns-in-Acks-clause-machine
returns-in-Acks-clause-machine c m h =
    let d = c.args.durable.now in
    c.alter-in-Acks.ensures.broker ∙ ap (λ (w : Write). applied d.store.per_ledger (broker_of d) w) (sym c.in-Acks.is) ∙ stands d.store.per_ledger (broker_of d) c.args.write m h

pub returns-in-Seek-clause-machine : goal.returns-in-Seek-clause-machine
returns-in-Seek-clause-machine c m h =
    let d = c.args.durable.now in
    c.alter-in-Seek.ensures.broker ∙ ap (λ (w : Write). applied d.store.per_ledger (broker_of d) w) (sym c.in-Seek.is) ∙ stands d.store.per_ledger (broker_of d) c.args.write m h
