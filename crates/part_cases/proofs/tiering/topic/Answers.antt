use Rattle.part_cases.proofs.Told.{store_told}
use Rattle.part_cases.proofs.tiering.topic.Goals as goal

pub returns : goal.returns
returns c = store_told c.from_parts.result _ c.in_ok-ledger.ensures.told c.from_parts.ensures
