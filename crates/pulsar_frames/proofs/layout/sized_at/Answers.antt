use Rattle.pulsar_frames.specs.Layout.{no_size, short}
use Rattle.pulsar_frames.proofs.layout.sized_at.Goals as goal

pub returns-in_default : goal.returns-in_default
returns-in_default c = no_size c.in_default.ensures

pub returns-then-count-after : goal.returns-then-count-after
returns-then-count-after c = short c.in-Some.count c.in-Some.after.now c.in-Some.ensures.0 c.in-Some.ensures.1 c.if-count-after.true
