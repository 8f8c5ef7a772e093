use Rattle.std.proofs.Common.{◌≡◌, ℕ, true, List, ap, sym, ◌∙◌}
use Rattle.std.specs.Prelude.{nat_le}
use Rattle.geo_base.specs.Broker.{Site}
use Rattle.geo_base.specs.Sizes.{entry_size, most_entry_size}
use Rattle.broker_packets.proofs.Storable.{storable_within}
use Rattle.broker_packets.proofs.act.send_act.Goals as goal

pub returns-then-is_within_limit-clause-storable : goal.returns-then-is_within_limit-clause-storable
returns-then-is_within_limit-clause-storable c =
    let within : c.is_within_limit.result ≡ true = cc in
    let names : c.clusters.result.now ≡ c.args.state.now.site.clusters = c.clusters.ensures.clusters ∙ ap (λ (h : Site). h.clusters) c.site.ensures.value in
    let told = c.is_within_limit.ensures ∙ ap (λ (ns : List (List ℕ)). nat_le (entry_size ns c.args.entry) most_entry_size) names in
    storable_within c.args.state.now.site c.args.source c.args.entry c.requires (sym told ∙ within)
