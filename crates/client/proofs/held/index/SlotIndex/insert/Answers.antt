use Rattle.client.specs.SlotIndex.{has, same_key}
use Rattle.client.proofs.SlotKeys.{put_in}
use Rattle.client.proofs.held.index.SlotIndex.insert.Goals as goal

pub returns-clause-ok : goal.returns-clause-ok
returns-clause-ok c = λ q. rw (← c.self.view_is) (put_in (same_key c.args.key q) (has c.self.inside.keys.keys q) (has c.insert.new.self.keys q) (c.in_ok-insert.ensures.updates.0 q))
