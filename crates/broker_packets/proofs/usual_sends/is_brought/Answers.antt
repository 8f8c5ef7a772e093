use Rattle.std.proofs.Common.{◌≡◌, ℕ, List, sym, ◌∙◌, ap}
use Rattle.std.specs.Option.{option_copied, option_map}
use Rattle.std.proofs.lemmas.Bool.{false≢true}
use Rattle.geo_base.specs.Broker.{Site}
use Rattle.geo_base.specs.Receiver.{is_from}
use Rattle.frame_values.specs.Values.{place_of}
use Rattle.broker_packets.proofs.usual_sends.is_brought.Goals as goal

pub is_from-requires : goal.is_from-requires
is_from-requires c = rw (c.clusters.ensures.clusters, c.site.ensures.value) c.site.ensures.known.few

pub returns-then-is_from-clause-only : goal.returns-then-is_from-clause-only
returns-then-is_from-clause-only c =
    let h = c.args.state.now.site in let x = c.args.source in let m = c.args.message in
    let names : c.clusters.result.now ≡ h.clusters = c.clusters.ensures.clusters ∙ ap (λ (g : Site). g.clusters) c.site.ensures.value in
    λ is. record {
      from = sym (c.is_from.ensures ∙ ap (λ (ns : List (List ℕ)). is_from x (option_map (place_of ns) (option_copied m.meta.replicated_from))) names) ∙ c.if-is_from.true;
      small = c.is_small.ensures.small is h.clusters x;
    }

pub returns-then-is_from-clause-all : goal.returns-then-is_from-clause-all
returns-then-is_from-clause-all c = λ is. λ small. c.is_small.ensures.is ∙ small

pub returns-else-is_from-clause-all : goal.returns-else-is_from-clause-all
returns-else-is_from-clause-all c =
    let h = c.args.state.now.site in let x = c.args.source in let m = c.args.message in
    let names : c.clusters.result.now ≡ h.clusters = c.clusters.ensures.clusters ∙ ap (λ (g : Site). g.clusters) c.site.ensures.value in
    let other = sym (c.is_from.ensures ∙ ap (λ (ns : List (List ℕ)). is_from x (option_map (place_of ns) (option_copied m.meta.replicated_from))) names) ∙ c.if-is_from.false in
    λ is. absurd (false≢true (sym other ∙ is.from))
