use Rattle.std.proofs.Common.{◌≡◌, ◌∙◌, List, [], length, ap, arith}
use Rattle.std.proofs.lemmas.List.{length-map}
use Rattle.links.specs.Queues.{Queue, WireLinks, all_discarded, emptied}
use Rattle.geo_base.proofs.Mapped.{left_whole}
use Rattle.links.proofs.links.Links.discard_all.Goals as goal

pub returns : goal.returns
returns c =
    let items = c.self.inside.links.items in
    let made : List Queue → WireLinks = λ qs. record { brokers = c.self.inside.brokers; clusters = c.self.inside.clusters; clients = c.self.inside.clients; queues = qs } in
    let new : c.discard_links.new.links ≡ emptied items = c.discard_links.ensures ∙ ap emptied c.as_mut_slice.ensures.value in
    let many : length c.discard_links.new.links ≡ c.self.inside.links.len = omega (arith, ap length new, length-map {B = Queue} items (λ (q : Queue). []), c.self.inside.links.ok.0) in
    rw (left_whole c.self.inside.links.len c.discard_links.new.links _ many) (ap made new ∙ ap all_discarded c.self.view_is)
