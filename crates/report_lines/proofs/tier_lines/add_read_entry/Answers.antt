use Rattle.std.proofs.Common.{sym, ◌∙◌, arith}
use Rattle.report_lines.proofs.Moving.{entry_there}
use Rattle.tiered_storage.proofs.Standing.{past_end}
use Rattle.report_lines.proofs.tier_lines.add_read_entry.Goals as goal

pub unreachable-requires : goal.unreachable-requires
unreachable-requires g c =
    let past = past_end (g.S.EntryStore.ledgers c.args.store.now) 0 c.args.index (sym c.position_of.ensures ∙ c.in_default.is) in
    let within = c.requires.1.1.1.1.0 in let counted = c.requires.1.1.1.1.1 in
    omega (arith, past, within, counted)

pub unreachable-requires-in-Ok-None : goal.unreachable-requires-in-Ok-None
unreachable-requires-in-Ok-None g c = entry_there g.entries c.args.index c.requires.1.1.1.1.0 (sym c.in-Ok-None.field-0-is ∙ c.in-Ok-None.ensures.ok)
