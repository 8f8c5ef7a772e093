use Rattle.client.specs.SlotIndex.{has, same_key}
use Rattle.client.proofs.SlotKeys.{taken_out}
use Rattle.client.proofs.held.index.SlotIndex.remove.Goals as goal

pub returns : goal.returns
returns c = λ q. rw (← c.self.view_is) (taken_out (same_key c.args.key q) (has c.self.inside.keys.keys q) (has c.remove.new.self.keys q) (c.remove.ensures.updates.0 q))
