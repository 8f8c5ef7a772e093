-- What each part of a report of a world leaves of the whole.
use Rattle.std.proofs.Common.{◌≡◌, ℕ, ◌+◌, ◌<◌, ◌==◌, if◌then◌else◌, List, [], ◌∷◌, ◌++◌, length, drop, get_or, map, sym, ap, subst, ◌∙◌, arith, Fits, w32}
use Rattle.std.proofs.lemmas.List.{drop_more, get_or-map, get_or_read}
use Rattle.std.specs.Prelude.{codes, slice_index_or}
use Rattle.geo_base.specs.Broker.{Broker, Site, no_broker}
use Rattle.geo_base.specs.Client.{Client, new_client}
use Rattle.geo_base.specs.Report.{broker_lines, client_line, client_lines, cluster_lines, got_line, topic_lines, with_line_feeds, words}
use Rattle.geo_base.specs.Scripted.{IsScripted}
use Rattle.geo_base.specs.Setup.{Declared, Setup, declared_at}
use Rattle.geo_base.specs.World.{World, broker_at, client_at, node, topic_at}
use Rattle.world.specs.World.{IsAt, WorldView, no_node, node_at}
use Rattle.report_lines.proofs.Parts.{lines_added}
use Rattle.report_lines.proofs.Added.{line_added}
use Rattle.broker.specs.Node.{BrokerView}
use Rattle.world_laws.specs.Reached.{IsGround}
use Rattle.kept_laws.proofs.Reaching.{ground}
use Rattle.world_laws.proofs.Replicating.Sizes.{node_lt}
use Rattle.run_report.specs.Shown.{shown_world}
use Rattle.world_laws.proofs.Merges.FewNodes.{few_clients}

-- the items from one that was read on
pub here : {X : Type 0} (xs : List X) (i : ℕ) (x : X) → i < length xs → x ≡ get_or xs i x → drop i xs ≡ x ∷ drop (i + 1) xs
here xs i x within read = drop_more xs i x within ∙ ap (λ (z : _). z ∷ drop (i + 1) xs) (sym read)

-- ---- the broker of a topic at a cluster

module _ (s : Setup) (b : WorldView) (at : IsAt s b) (t x : ℕ) (topic : t < length s.topics) (cluster : x < length s.clusters) where
  abbrev broker : BrokerView
  broker = node_at b.brokers (node s t x)

  in_nodes : node s t x < length b.brokers
  in_nodes = subst (λ (m : ℕ). node s t x < m) (sym at.brokers.count) (node_lt s t x (topic, cluster))

  pub broker_there : broker.broker ≡ topic_at s (shown_world b) t x
  broker_there = sym (get_or-map (λ (v : BrokerView). v.broker) b.brokers (node s t x) no_node no_broker in_nodes)

  clusters_there : broker.site.clusters ≡ s.clusters
  clusters_there = ap (λ (h : Site). h.clusters) (at.brokers.each t x topic cluster).site

  own_there : broker.site.own ≡ x
  own_there = ap (λ (h : Site). h.own) (at.brokers.each t x topic cluster).site

  pub replicators_there : length broker.broker.replicators ≡ length broker.site.clusters
  replicators_there =
      let g : IsGround s at.world = ground s at.setup at.world at.reached in
      let is : broker.broker ≡ broker_at at.world (node s t x) =
      broker_there ∙ ap (λ (bs : List Broker). slice_index_or bs (node s t x) no_broker) at.stands.brokers in
      let within : node s t x < length at.world.brokers = subst (λ (m : ℕ). node s t x < m) (sym g.places.brokers) (node_lt s t x (topic, cluster)) in
      ap (λ (c : Broker). length c.replicators) is ∙ ((g.places.each (node s t x) within).replicators ∙ sym (ap length clusters_there))

  lines_there : broker_lines broker.site.clusters broker.site.own broker.broker ≡ broker_lines s.clusters x (topic_at s (shown_world b) t x)
  lines_there =
      ap (λ (names : List (List ℕ)). broker_lines names broker.site.own broker.broker) clusters_there
      ∙ (ap (λ (own : ℕ). broker_lines s.clusters own broker.broker) own_there ∙ ap (broker_lines s.clusters x) broker_there)

  pub place_added : (name n : List ℕ) (v : BrokerView) (old mid new whole : List ℕ) → n ≡ get_or s.clusters x n → v ≡ broker
      → mid ≡ old ++ (words (codes "topic" ∷ name ∷ codes "at" ∷ n ∷ []) ++ 10 ∷ [])
      → new ≡ mid ++ with_line_feeds (broker_lines v.site.clusters v.site.own v.broker)
      → old ++ with_line_feeds (cluster_lines s (shown_world b) t name x (drop x s.clusters)) ≡ whole
      → new ++ with_line_feeds (cluster_lines s (shown_world b) t name (x + 1) (drop (x + 1) s.clusters)) ≡ whole
  place_added name n v old mid new whole read is first then_broker before =
      let rest = cluster_lines s (shown_world b) t name (x + 1) (drop (x + 1) s.clusters) in
      let at_cluster = broker_lines s.clusters x (topic_at s (shown_world b) t x) in
      let added : new ≡ mid ++ with_line_feeds at_cluster =
      then_broker ∙ ap (λ (ls : List (List ℕ)). mid ++ with_line_feeds ls) (ap (λ (u : BrokerView). broker_lines u.site.clusters u.site.own u.broker) is ∙ lines_there) in
      lines_added mid new whole at_cluster rest added
      (line_added old mid (words (codes "topic" ∷ name ∷ codes "at" ∷ n ∷ [])) whole (at_cluster ++ rest) first (rw (here s.clusters x n cluster read) at before))

pub client_added : (s : Setup) (w : World) (t i : ℕ) (d : Declared) (k : Client) (old new whole : List ℕ) → i < length s.clients → d ≡ get_or s.clients i d
    → k ≡ client_at s w i
    → new ≡ old ++ with_line_feeds (if d.topic == t then client_line s d k ∷ map (got_line s.clusters) k.got else [])
    → old ++ with_line_feeds (client_lines s w t i (drop i s.clients)) ≡ whole
    → new ++ with_line_feeds (client_lines s w t (i + 1) (drop (i + 1) s.clients)) ≡ whole
client_added s w t i d k old new whole within read at added before =
    lines_added old new whole (if d.topic == t then client_line s d k ∷ map (got_line s.clusters) k.got else []) (client_lines s w t (i + 1) (drop (i + 1) s.clients)) added
    (rw at (rw (here s.clients i d within read) at before))

-- a client has a number of 32 bits, and is there
pub client_number : (s : Setup) (i : ℕ) → IsScripted s → i < length s.clients → Fits w32 i
client_number s i scripted within = omega (arith, few_clients s scripted, within)

pub client_within : (s : Setup) (b : WorldView) (i : ℕ) → IsAt s b → i < length s.clients → i < length b.clients
client_within s b i at within =
    let g : IsGround s at.world = ground s at.setup at.world at.reached in
    subst (λ (m : ℕ). i < m) (sym (ap length at.stands.clients ∙ g.places.clients)) within

-- the client of a number is the world's
pub client_there : (s : Setup) (b : WorldView) (i : ℕ) (k : Client) → i < length b.clients → slice_index_or b.clients i k ≡ k → k ≡ client_at s (shown_world b) i
client_there s b i k within is = get_or_read b.clients i k within (sym is) (new_client (declared_at s i))

pub topic_added : (s : Setup) (w : World) (i : ℕ) (name n : List ℕ) (old mid new whole : List ℕ) → i < length s.topics → n ≡ get_or s.topics i n → name ≡ n
    → mid ≡ old ++ with_line_feeds (cluster_lines s w i name 0 s.clusters) → new ≡ mid ++ with_line_feeds (client_lines s w i 0 s.clients)
    → old ++ with_line_feeds (topic_lines s w i (drop i s.topics)) ≡ whole
    → new ++ with_line_feeds (topic_lines s w (i + 1) (drop (i + 1) s.topics)) ≡ whole
topic_added s w i name n old mid new whole within read is places clients before =
    let rest = topic_lines s w (i + 1) (drop (i + 1) s.topics) in
    lines_added mid new whole (client_lines s w i 0 s.clients) rest clients
    (lines_added old mid whole (cluster_lines s w i n 0 s.clusters) (client_lines s w i 0 s.clients ++ rest)
    (subst (λ (m : List ℕ). mid ≡ old ++ with_line_feeds (cluster_lines s w i m 0 s.clusters)) is places) (rw (here s.topics i n within read) at before))
