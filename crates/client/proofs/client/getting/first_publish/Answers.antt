use Rattle.std.proofs.Common.{◌<◌, length, sym, ◌∙◌, arith}
use Rattle.client.proofs.Getting.{without_publish_at}
use Rattle.client.proofs.client.getting.first_publish.Goals as goal

pub returns-then-publishes-clause-rest : goal.returns-then-publishes-clause-rest
returns-then-publishes-clause-rest c =
    let within : c.loop-at.at < length c.args.unanswered.now = omega arith in
    without_publish_at c.args.site.now.declared c.args.unanswered.now c.args.seq c.loop-at.at within (sym c.publishes.ensures ∙ c.if-publishes.true) c.loop-at.invariant.rest
