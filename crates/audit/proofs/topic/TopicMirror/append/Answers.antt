use Rattle.audit.proofs.Passing.{runs_after}
use Rattle.audit.proofs.topic.TopicMirror.append.Goals as goal

pub invariant_of-self : goal.invariant_of-self
invariant_of-self c =
    runs_after c.append.result c.self.inside.stored c.append.new.self c.args.entry c.args.position c.self.inside.runs.items c.append.ensures.ok c.append.ensures.err c.self.invariant
