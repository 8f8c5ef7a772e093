use Rattle.std.proofs.Common.{rules, ◌≡◌, length, ◌∙◌}
use Rattle.topic_store.specs.Messages.{messages_before}
use Rattle.world_measures.proofs.Walks.{no_sub}
use Rattle.world_measures.proofs.subs.backlog_at.Goals as goal

pub returns-in-None : goal.returns-in-None
returns-in-None c =
    let b = c.args.broker.now.broker in
    let counted : c.messages_before.result ≡ messages_before b.entries (length b.entries) = search rules in
    counted ∙ no_sub b c.args.name.now (search rules)
