use Rattle.std.proofs.Common.{◌∙◌, ap, length}
use Rattle.std.specs.Prelude.{None}
use Rattle.std.proofs.lemmas.List.{length-replicate}
use Rattle.broker_state.proofs.Restored.{restored_parts}
use Rattle.broker_state.proofs.parts.Parts.restored.Goals as goal

pub returns-in-Ok-clause-parts : goal.returns-in-Ok-clause-parts
returns-in-Ok-clause-parts c =
    restored_parts c.args.site.now c.args.durable c.in-Ok.memory c.of_durable.result c.of_durable.ensures.store c.of_durable.ensures.replicators c.of_durable.ensures.own c.of_durable.ensures.memory
    c.requires.own c.requires.per_ledger c.requires.replicators c.in-Ok.ensures.told c.in-Ok.ensures.marker
    (ap length c.in-Ok.ensures.receivers ∙ length-replicate _ None ∙ ap length c.clusters.ensures.clusters)
