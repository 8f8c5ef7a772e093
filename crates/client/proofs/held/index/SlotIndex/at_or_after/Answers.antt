use Rattle.std.proofs.Common.{IsTrue}
use Rattle.std.specs.BTreeMap.Range.{IsLeBy}
use Rattle.client.specs.declared.held.index.SlotKey.{SlotKey}
use Rattle.client.specs.SlotIndex.{has, key_cmp}
use Rattle.client.proofs.SlotKeys.{at_most_all, first_copied, first_had}
use Rattle.client.proofs.held.index.SlotIndex.at_or_after.Goals as goal

pub returns-clause-some : goal.returns-clause-some
returns-clause-some c =
    let had = first_had _ _ _ (c.range.ensures.in_range tt).1 in
    first_copied _ _ _ _ (λ (k : SlotKey). IsTrue (has c.args.self.now k)) c.next.ensures.steps c.copied.ensures (rw (← c.self.view_is) had)

pub returns-clause-least : goal.returns-clause-least
returns-clause-least c =
    first_copied _ _ _ _ (λ (k : SlotKey). (q : SlotKey) → IsLeBy key_cmp c.args.from q → IsTrue (has c.args.self.now q) → IsLeBy key_cmp k q) c.next.ensures.steps c.copied.ensures
    (at_most_all _ (λ q. IsLeBy key_cmp c.args.from q) (λ q. IsTrue (has c.args.self.now q)) (λ k q. IsLeBy key_cmp k q) (λ q h i. (c.range.ensures.in_range tt).2 q (h, tt) (rw c.self.view_is i)))
