-- What a stop of everything is told of all brokers is what the definition has.
use Rattle.std.proofs.Common.{◌≡◌, ℕ, ◌+◌, ◌<◌, ◌⊎◌, inl, inr, false, List, [], ◌∷◌, ◌++◌, length, map, drop, append_assoc, refl, sym, ◌∙◌, ap, subst, arith}
use Rattle.std.proofs.lemmas.Bool.{cases_eq}
use Rattle.std.proofs.lemmas.List.{drop_more, length-append}
use Rattle.std.specs.Prelude.{slice_index_or}
use Rattle.broker.specs.Node.{BrokerView}
use Rattle.geo_base.specs.Broker.{Broker, Site}
use Rattle.geo_base.specs.Happening.{stops}
use Rattle.geo_base.specs.Nodes.{BrokerNode}
use Rattle.geo_base.specs.Setup.{Setup, topic_name}
use Rattle.geo_base.specs.World.{World, node, site, topic_at}
use Rattle.step_laws.specs.Steps.{Changed, Did, broker_changes, changed_at, changed_from, changed_in, changed_lines, node_lines, change_line}
use Rattle.step_lines.specs.declared.heads.Indent.TheVariants as indent
use Rattle.step_lines.specs.declared.noted.NotedBroker.{NotedBroker}
use Rattle.step_lines.specs.declared.stops.NotedTopic.{NotedTopic}
use Rattle.step_lines.specs.Changes.{place_line, placed, stood, stood_lines}
use Rattle.step_lines.specs.Noted.{IsNoted}
use Rattle.step_lines.specs.Stops.{AreNoted, AreNotedTopics, AreTopics, AreWhole, clusters_told, topics_told}
use Rattle.step_lines.specs.Telling.{Telling, tells_head, tells_step}
use Rattle.step_lines.proofs.Changes.{below_or, index_first, index_last}
use Rattle.step_lines.proofs.Told.{placed_is, step_whole}
use Rattle.world.specs.World.{AreNodes, IsAt, WorldView, kept_of, node_at}
use Rattle.world.proofs.Places.{stands_at}
use Rattle.kept_laws.specs.Standing.{Stands}
use Rattle.world_laws.proofs.Replicating.Sizes.{node_lt}

-- ---- what is noted

each_more : {X : Type 0} (P : ℕ → X → Type 0) (n : ℕ) (ks : List X) (x : X) → length ks ≡ n → ((y : ℕ) (d : X) → y < n → P y (slice_index_or ks y d)) → P n x
    → (y : ℕ) (d : X) → y < n + 1 → P y (slice_index_or (ks ++ x ∷ []) y d)
each_more {X} P n ks x many each one y d lt = by (cases_eq y n)
  where
    at_end : y ≡ n → x ≡ slice_index_or (ks ++ x ∷ []) y d
    at_end here = sym (ap (λ (i : ℕ). slice_index_or (ks ++ x ∷ []) i d) (here ∙ sym many) ∙ index_last ks x d)

    low_in : y < n → y < length ks
    low_in low = omega (arith, low, many)

    by : (y ≡ n) ⊎ (y ≡ n → ⊥) → P y (slice_index_or (ks ++ x ∷ []) y d)
    by (inl here) = subst (λ (z : X). P y z) (at_end here) (subst (λ (i : ℕ). P i x) (sym here) one)
    by (inr apart) =
        let low : y < n = below_or y n lt apart in
        subst (λ (z : X). P y z) (sym (index_first ks (x ∷ []) y d (low_in low))) (each y d low)

more_by_one : {X : Type 0} (n : ℕ) (ks : List X) (x : X) → length ks ≡ n → length (ks ++ x ∷ []) ≡ n + 1
more_by_one n ks x many = let sum = length-append ks (x ∷ []) in omega (arith, sum, many)

-- a broker of the site that it is of
noted_at : (s : Setup) (bs : List BrokerView) (t x : ℕ) (u : BrokerView) (k : NotedBroker) → AreNodes s bs → t < length s.topics → x < length s.clusters → u ≡ node_at bs (node s t x)
    → IsNoted (length u.site.clusters) u.broker k → IsNoted (length s.clusters) (node_at bs (node s t x)).broker k
noted_at s bs t x u k brokers tin xin is noted =
    let v = node_at bs (node s t x) in
    subst (λ (h : Site). IsNoted (length h.clusters) v.broker k) (brokers.each t x tin xin).site (subst (λ (z : BrokerView). IsNoted (length z.site.clusters) z.broker k) is noted)

pub next_noted : (s : Setup) (bs : List BrokerView) (t n : ℕ) (ks new : List NotedBroker) (u : BrokerView) (k : NotedBroker) → new ≡ ks ++ k ∷ [] → AreNodes s bs → t < length s.topics → n < length s.clusters
    → u ≡ node_at bs (node s t n) → IsNoted (length u.site.clusters) u.broker k → AreNoted s bs t n ks → AreNoted s bs t (n + 1) new
next_noted s bs t n ks new u k pushed brokers tin xin is noted h = rw pushed (record {
  many = more_by_one n ks k h.many;
  each = each_more (λ (y : ℕ) (z : NotedBroker). IsNoted (length s.clusters) (node_at bs (node s t y)).broker z) n ks k h.many h.each (noted_at s bs t n u k brokers tin xin is noted);
})

pub next_topic : (s : Setup) (bs : List BrokerView) (n : ℕ) (ks new : List NotedTopic) (k : NotedTopic) → new ≡ ks ++ k ∷ [] → AreNoted s bs n (length s.clusters) k.brokers.items
    → AreNotedTopics s bs n ks → AreNotedTopics s bs (n + 1) new
next_topic s bs n ks new k pushed noted h = rw pushed (record {
  many = more_by_one n ks k h.many;
  each = each_more (λ (y : ℕ) (z : NotedTopic). AreNoted s bs y (length s.clusters) z.brokers.items) n ks k h.many h.each noted;
})

pub none_noted : (s : Setup) (bs : List BrokerView) (t : ℕ) (ks : List NotedBroker) → ks ≡ [] → AreNoted s bs t 0 ks
none_noted s bs t ks is = rw is (record { many = refl; each = λ x d lt. absurd (omega (arith, lt)) })

pub no_topics : (s : Setup) (bs : List BrokerView) (ks : List NotedTopic) → ks ≡ [] → AreNotedTopics s bs 0 ks
no_topics s bs ks is = rw is (record { many = refl; each = λ t d lt. absurd (omega (arith, lt)) })

are_whole : (s : Setup) (bs : List BrokerView) (t : ℕ) (ks : List NotedBroker) → AreNoted s bs t (length s.clusters) ks → AreWhole (length s.clusters) ks
are_whole s bs t ks h = record { many = h.many; each = λ x d lt. (h.each x d lt).replicators.many }

pub are_topics : (s : Setup) (bs : List BrokerView) (ks : List NotedTopic) → AreNotedTopics s bs (length s.topics) ks → AreTopics s ks
are_topics s bs ks h = record { many = h.many; each = λ t d lt. are_whole s bs t (slice_index_or ks t d).brokers.items (h.each t d lt) }

-- ---- lines

stood_more : (ls ms : List (List ℕ)) → stood_lines indent.Step (ls ++ ms) ≡ stood_lines indent.Step ls ++ stood_lines indent.Step ms
stood_more [] ms = refl
stood_more (l ∷ ls) ms =
    let x = stood indent.Step l in
    ap (λ (t : List ℕ). x ++ (10 ∷ t)) (stood_more ls ms) ∙ sym (append_assoc x (10 ∷ stood_lines indent.Step ls) (stood_lines indent.Step ms))

lines_next : (ls ms all : List (List ℕ)) (old new whole : List ℕ) → all ≡ ls ++ ms → new ≡ old ++ stood_lines indent.Step ls → old ++ stood_lines indent.Step all ≡ whole
    → new ++ stood_lines indent.Step ms ≡ whole
lines_next ls ms all old new whole is told before =
    ap (λ (t : List ℕ). t ++ stood_lines indent.Step ms) told
    ∙ (append_assoc old (stood_lines indent.Step ls) (stood_lines indent.Step ms)
    ∙ (ap (λ (t : List ℕ). old ++ t) (sym (stood_more ls ms)) ∙ (ap (λ (ns : List (List ℕ)). old ++ stood_lines indent.Step ns) (sym is) ∙ before)))

-- what is told of one broker
abbrev one_told : Setup → List BrokerView → List BrokerView → ℕ → ℕ → List (List ℕ)
one_told s bs cs t x =
    placed (place_line (topic_name s t) (slice_index_or s.clusters x [])) (broker_changes s.clusters x (node_at bs (node s t x)).broker (node_at cs (node s t x)).broker)

abbrev under : List ℕ → Site → Broker → Broker → List (List ℕ)
under title h b a = placed (place_line title (slice_index_or h.clusters h.own [])) (broker_changes h.clusters h.own b a)

pub cluster_next : (s : Setup) (bs cs : List BrokerView) (t x : ℕ) (u : BrokerView) (ks : List NotedBroker) (k : NotedBroker) (title old new whole : List ℕ) → AreNodes s cs → t < length s.topics → x < length s.clusters
    → AreNoted s bs t (length s.clusters) ks → k ≡ slice_index_or ks x k → u ≡ node_at cs (node s t x) → title ≡ topic_name s t
    → ((b : Broker) → IsNoted (length u.site.clusters) b k → new ≡ old ++ stood_lines indent.Step (under title u.site b u.broker))
    → old ++ stood_lines indent.Step (clusters_told s bs cs t x (drop x s.clusters)) ≡ whole
    → new ++ stood_lines indent.Step (clusters_told s bs cs t (x + 1) (drop (x + 1) s.clusters)) ≡ whole
cluster_next s bs cs t x u ks k title old new whole brokers tin xin noted at is titled told before =
    let b = (node_at bs (node s t x)).broker in let v = node_at cs (node s t x) in
    let place : v.site ≡ site s t x = (brokers.each t x tin xin).site in
    let here : IsNoted (length s.clusters) b k = subst (λ (z : NotedBroker). IsNoted (length s.clusters) b z) (sym at) (noted.each x k xin) in
    let known : IsNoted (length u.site.clusters) b k =
    subst (λ (z : BrokerView). IsNoted (length z.site.clusters) b k) (sym is) (subst (λ (h : Site). IsNoted (length h.clusters) b k) (sym place) here) in
    let all : new ≡ old ++ stood_lines indent.Step (one_told s bs cs t x) =
    told b known
    ∙ (ap (λ (z : BrokerView). old ++ stood_lines indent.Step (under title z.site b z.broker)) is
    ∙ (ap (λ (h : Site). old ++ stood_lines indent.Step (under title h b v.broker)) place
    ∙ ap (λ (y : List ℕ). old ++ stood_lines indent.Step (under y (site s t x) b v.broker)) titled)) in
    lines_next (one_told s bs cs t x) (clusters_told s bs cs t (x + 1) (drop (x + 1) s.clusters)) (clusters_told s bs cs t x (drop x s.clusters)) old new whole
    (ap (λ (ns : List (List ℕ)). clusters_told s bs cs t x ns) (drop_more s.clusters x [] xin)) all before

pub topic_next : (s : Setup) (bs cs : List BrokerView) (t : ℕ) (ks : List NotedTopic) (k : NotedTopic) (old new whole : List ℕ) → t < length s.topics
    → AreNotedTopics s bs (length s.topics) ks → k ≡ slice_index_or ks t k
    → (AreNoted s bs t (length s.clusters) k.brokers.items → new ≡ old ++ stood_lines indent.Step (clusters_told s bs cs t 0 s.clusters))
    → old ++ stood_lines indent.Step (topics_told s bs cs t (drop t s.topics)) ≡ whole
    → new ++ stood_lines indent.Step (topics_told s bs cs (t + 1) (drop (t + 1) s.topics)) ≡ whole
topic_next s bs cs t ks k old new whole tin noted at told before =
    let here : AreNoted s bs t (length s.clusters) k.brokers.items = subst (λ (z : NotedTopic). AreNoted s bs t (length s.clusters) z.brokers.items) (sym at) (noted.each t k tin) in
    lines_next (clusters_told s bs cs t 0 s.clusters) (topics_told s bs cs (t + 1) (drop (t + 1) s.topics)) (topics_told s bs cs t (drop t s.topics)) old new whole
    (ap (λ (ns : List (List ℕ)). topics_told s bs cs t ns) (drop_more s.topics t [] tin)) (told here) before

-- as many replicators are noted of a broker as there are clusters
pub replicators_at : (s : Setup) (cs : List BrokerView) (t x : ℕ) (u : BrokerView) (ks : List NotedBroker) (k : NotedBroker) → AreNodes s cs → t < length s.topics → x < length s.clusters
    → AreWhole (length s.clusters) ks → k ≡ slice_index_or ks x k → u ≡ node_at cs (node s t x) → length k.replicators.items ≡ length u.site.clusters
replicators_at s cs t x u ks k brokers tin xin whole at is =
    ap (λ (z : NotedBroker). length z.replicators.items) at
    ∙ (whole.each x k xin ∙ sym (ap (λ (z : BrokerView). length z.site.clusters) is ∙ ap (λ (h : Site). length h.clusters) (brokers.each t x tin xin).site))

-- ---- from the world before to the world after

changed_both : (s : Setup) (cs ds : List Changed) → changed_lines s (cs ++ ds) ≡ changed_lines s cs ++ changed_lines s ds
changed_both s [] ds = refl
changed_both s (c ∷ cs) ds =
    let h = node_lines s c.node in let m = map change_line c.changes in
    ap (λ (t : List (List ℕ)). h ++ (m ++ t)) (changed_both s cs ds)
    ∙ (ap (λ (t : List (List ℕ)). h ++ t) (sym (append_assoc m (changed_lines s cs) (changed_lines s ds))) ∙ sym (append_assoc h (m ++ changed_lines s cs) (changed_lines s ds)))

record Between (s : Setup) (w v : World) (bs cs : List BrokerView) : Type 0 where
  before : (t x : ℕ) → t < length s.topics → x < length s.clusters → (node_at bs (node s t x)).broker ≡ topic_at s w t x
  behind : (t x : ℕ) → t < length s.topics → x < length s.clusters → (node_at cs (node s t x)).broker ≡ topic_at s v t x

one_is : (s : Setup) (w v : World) (bs cs : List BrokerView) (t x : ℕ) → Between s w v bs cs → t < length s.topics → x < length s.clusters
    → changed_lines s (changed_at s w v (BrokerNode t x)) ≡ one_told s bs cs t x
one_is s w v bs cs t x h tin xin =
    placed_is s t x (broker_changes s.clusters x (topic_at s w t x) (topic_at s v t x))
    ∙ (ap (λ (b : Broker). placed (place_line (topic_name s t) (slice_index_or s.clusters x [])) (broker_changes s.clusters x b (topic_at s v t x))) (sym (h.before t x tin xin))
    ∙ ap (λ (a : Broker). placed (place_line (topic_name s t) (slice_index_or s.clusters x [])) (broker_changes s.clusters x (node_at bs (node s t x)).broker a)) (sym (h.behind t x tin xin)))

clusters_are : (s : Setup) (w v : World) (bs cs : List BrokerView) (t x : ℕ) (ns : List (List ℕ)) → Between s w v bs cs → t < length s.topics → x + length ns ≡ length s.clusters
    → changed_lines s (changed_from s w v t x ns) ≡ clusters_told s bs cs t x ns
clusters_are s w v bs cs t x [] h tin all = refl
clusters_are s w v bs cs t x (n ∷ ns) h tin all =
    changed_both s (changed_at s w v (BrokerNode t x)) (changed_from s w v t (x + 1) ns)
    ∙ (ap (λ (ls : List (List ℕ)). ls ++ changed_lines s (changed_from s w v t (x + 1) ns)) (one_is s w v bs cs t x h tin (omega (arith, all)))
    ∙ ap (λ (ls : List (List ℕ)). one_told s bs cs t x ++ ls) (clusters_are s w v bs cs t (x + 1) ns h tin (omega (arith, all))))

topics_are : (s : Setup) (w v : World) (bs cs : List BrokerView) (t : ℕ) (ns : List (List ℕ)) → Between s w v bs cs → t + length ns ≡ length s.topics
    → changed_lines s (changed_in s w v t ns) ≡ topics_told s bs cs t ns
topics_are s w v bs cs t [] h all = refl
topics_are s w v bs cs t (n ∷ ns) h all =
    changed_both s (changed_from s w v t 0 s.clusters) (changed_in s w v (t + 1) ns)
    ∙ (ap (λ (ls : List (List ℕ)). ls ++ changed_lines s (changed_in s w v (t + 1) ns)) (clusters_are s w v bs cs t 0 s.clusters h (omega (arith, all)) (omega arith))
    ∙ ap (λ (ls : List (List ℕ)). clusters_told s bs cs t 0 s.clusters ++ ls) (topics_are s w v bs cs (t + 1) ns h (omega (arith, all))))

broker_there : (s : Setup) (b : WorldView) (w : World) (t x : ℕ) → IsAt s b → Stands s (kept_of b) w → t < length s.topics → x < length s.clusters → (node_at b.brokers (node s t x)).broker ≡ topic_at s w t x
broker_there s b w t x at stands tin xin =
    stands_at s b w (node s t x) stands (subst (λ (m : ℕ). node s t x < m) (sym at.brokers.count) (node_lt s t x (tin, xin)))

pub stop_told : (s : Setup) (w : World) (old new : WorldView) (t mid : Telling) (lines : List ℕ) → IsAt s old → IsAt s new → Stands s (kept_of old) w → Stands s (kept_of new) (stops s w)
    → mid ≡ tells_head t false → lines ≡ mid.text ++ stood_lines indent.Step (topics_told s old.brokers new.brokers 0 s.topics)
    → record mid { text = lines } ≡ tells_step s t (Did (changed_in s w (stops s w) 0 s.topics))
stop_told s w old new t mid lines at at' stands stands' head told =
    let between : Between s w (stops s w) old.brokers new.brokers =
    record { before = λ y x tin xin. broker_there s old w y x at stands tin xin; behind = λ y x tin xin. broker_there s new (stops s w) y x at' stands' tin xin } in
    let ls = topics_told s old.brokers new.brokers 0 s.topics in
    ap (λ (z : List ℕ). record mid { text = z }) told
    ∙ (ap (λ (m : Telling). record m { text = m.text ++ stood_lines indent.Step ls }) head
    ∙ step_whole s (changed_in s w (stops s w) 0 s.topics) ls t (topics_are s w (stops s w) old.brokers new.brokers 0 s.topics between (omega arith)))
