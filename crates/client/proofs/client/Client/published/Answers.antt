use Rattle.client.proofs.Published.{published_is_message}
use Rattle.client.proofs.client.Client.published.Goals as goal

pub returns-clause-message : goal.returns-clause-message
returns-clause-message c =
    rw (c.in_ok-meta.ensures, c.clusters.ensures.value, c.in_ok-producer.ensures, c.name.ensures.name, c.in_ok-payload.ensures)
    (published_is_message c.args.site.now.setup c.args.site.now.declared c.args.connection.cluster c.args.line.seq c.args.line.to c.args.line.key.now c.args.line.text.now
    c.name.ensures.is_one c.clusters.ensures.few c.clusters.ensures.named c.requires.key c.requires.text)
