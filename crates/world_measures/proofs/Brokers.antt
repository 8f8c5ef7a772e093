-- The broker of a topic at a cluster, and the lines of each other cluster.
use Rattle.std.proofs.Common.{◌≡◌, ◌≢◌, ℕ, ◌<◌, ◌==◌, Bool, if◌then◌else◌, List, [], ◌++◌, length, sym, ap, subst, ◌∙◌}
use Rattle.std.proofs.lemmas.Bool.{eq-eqb, ne_eqb}
use Rattle.std.proofs.lemmas.List.{append-nil, get_or-map}
use Rattle.std.specs.Prelude.{slice_index_or}
use Rattle.broker.specs.Node.{BrokerView}
use Rattle.geo_base.specs.Broker.{Broker, Site, no_broker}
use Rattle.geo_base.specs.Report.{with_line_feeds}
use Rattle.geo_base.specs.Setup.{Setup}
use Rattle.geo_base.specs.World.{World, node, topic_at}
use Rattle.world.specs.World.{IsAt, WorldView, no_node, node_at}
use Rattle.world_laws.proofs.Replicating.Sizes.{node_lt}
use Rattle.loss_laws.specs.LostLines.{lines_at, other_lines}
use Rattle.world_measures.specs.Worlds.{HasBrokers}

module _ (s : Setup) (b : WorldView) (at : IsAt s b) (t x : ℕ) (topic : t < length s.topics) (cluster : x < length s.clusters) where
  abbrev broker : BrokerView
  broker = node_at b.brokers (node s t x)

  in_nodes : node s t x < length b.brokers
  in_nodes = subst (λ (m : ℕ). node s t x < m) (sym at.brokers.count) (node_lt s t x (topic, cluster))

  pub broker_there : (w : World) → HasBrokers w b → broker.broker ≡ topic_at s w t x
  broker_there w same =
      sym (get_or-map (λ (v : BrokerView). v.broker) b.brokers (node s t x) no_node no_broker in_nodes)
      ∙ ap (λ (bs : List Broker). slice_index_or bs (node s t x) no_broker) (sym same)

  pub clusters_there : broker.site.clusters ≡ s.clusters
  clusters_there = ap (λ (h : Site). h.clusters) (at.brokers.each t x topic cluster).site

  pub own_there : broker.site.own ≡ x
  own_there = ap (λ (h : Site). h.own) (at.brokers.each t x topic cluster).site

-- ---- the lines of a cluster, from what its brokers are

abbrev lines_of : Bool → ℕ → List (List ℕ) → ℕ → Broker → Broker → List (List ℕ)
lines_of names x clusters own b c = if x == own then [] else lines_at names clusters x own b c (slice_index_or clusters own [])

pub other_added : (names : Bool) (s : Setup) (w : World) (t x y : ℕ) (clusters : List (List ℕ)) (own : ℕ) (b c : Broker) (old new : List ℕ)
    → clusters ≡ s.clusters → own ≡ y → b ≡ topic_at s w t x → c ≡ topic_at s w t y
    → new ≡ old ++ with_line_feeds (lines_of names x clusters own b c) → new ≡ old ++ with_line_feeds (other_lines names s w t x y (slice_index_or s.clusters y []))
other_added names s w t x y clusters own b c old new same_clusters same_own same_b same_c added =
    added
    ∙ ap (λ (ls : List (List ℕ)). old ++ with_line_feeds ls)
    (ap (λ (ns : List (List ℕ)). lines_of names x ns own b c) same_clusters
    ∙ (ap (λ (o : ℕ). lines_of names x s.clusters o b c) same_own
    ∙ (ap (λ (d : Broker). lines_of names x s.clusters y d c) same_b
    ∙ ap (λ (d : Broker). lines_of names x s.clusters y (topic_at s w t x) d) same_c)))

-- the own cluster has none
pub none_of_own : (names : Bool) (x : ℕ) (clusters : List (List ℕ)) (own : ℕ) (b c : Broker) (old : List ℕ) → x ≡ own → old ≡ old ++ with_line_feeds (lines_of names x clusters own b c)
none_of_own names x clusters own b c old same =
    sym (append-nil old)
    ∙ ap (λ (t : Bool). old ++ with_line_feeds (if t then [] else lines_at names clusters x own b c (slice_index_or clusters own []))) (sym (eq-eqb x own same))

pub some_of_other : (names : Bool) (x : ℕ) (clusters : List (List ℕ)) (own : ℕ) (b c : Broker) (old new : List ℕ) → x ≢ own
    → new ≡ old ++ with_line_feeds (lines_at names clusters x own b c (slice_index_or clusters own [])) → new ≡ old ++ with_line_feeds (lines_of names x clusters own b c)
some_of_other names x clusters own b c old new apart added =
    added
    ∙ ap (λ (t : Bool). old ++ with_line_feeds (if t then [] else lines_at names clusters x own b c (slice_index_or clusters own []))) (sym (ne_eqb x own apart))
