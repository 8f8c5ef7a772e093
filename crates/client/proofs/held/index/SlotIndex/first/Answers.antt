use Rattle.std.proofs.Common.{IsTrue}
use Rattle.client.specs.declared.held.index.SlotKey.{SlotKey}
use Rattle.client.specs.SlotIndex.{has}
use Rattle.client.proofs.SlotKeys.{copied_too}
use Rattle.client.proofs.held.index.SlotIndex.first.Goals as goal

pub returns-clause-some : goal.returns-clause-some
returns-clause-some c = copied_too _ _ (λ (k : SlotKey). IsTrue (has c.args.self.now k)) c.copied.ensures (rw (← c.self.view_is) c.first.ensures.member)
