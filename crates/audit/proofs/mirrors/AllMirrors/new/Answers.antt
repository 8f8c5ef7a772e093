use Rattle.audit.proofs.Within.{opening_held}
use Rattle.audit.proofs.mirrors.AllMirrors.new.Goals as goal

pub invariant_of-result : goal.invariant_of-result
invariant_of-result c =
    opening_held c.add_topics.new.topics.items c.add_topics.new.covers.items c.add_topics.new.brought.items _ c.in-Ok.ensures.topics c.in-Ok.ensures.covers c.in-Ok.ensures.brought
