use Rattle.std.proofs.Common.{◌≡◌, []}
use Rattle.links.specs.Queues.{Queue}
use Rattle.geo_base.proofs.Mapped.{mapped_to}
use Rattle.links.proofs.links.discard_links.Given as goal

abbrev pub invariant-loop-link : goal.invariant-loop-link
invariant-loop-link l = l.link-items ≡ mapped_to (λ (q : Queue). []) l.link-index l.fn.links
