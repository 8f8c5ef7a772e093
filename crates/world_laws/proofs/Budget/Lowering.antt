-- Each event of a round is idle or lowers the weight.
use Rattle.std.proofs.Common.{◌≡◌, ℕ, zero, suc, ◌+◌, ◌-◌, ◌<◌, ◌≤◌, true, false, List, [], ◌∷◌, length, refl, sym, ap, subst, ◌∙◌, ◌==◌, arith, inl, inr, ◌⊎◌}
use Rattle.std.specs.Prelude.{Option, Some, None, ◌%◌, slice_set}
use Rattle.std.specs.List.{range_with_len}
use Rattle.std.proofs.Math.Nat.{mul-zero}
use Rattle.std.proofs.lemmas.Bool.{eq-eqb, false≢true}
use Rattle.std.proofs.lemmas.Nat.{mod-mul-add}
use Rattle.world_laws.proofs.Types.{Event, Out, Packet}
use Rattle.world_laws.proofs.Types.event
use Rattle.world_laws.proofs.Types.fate
use Rattle.geo_base.specs.Broker.{Broker, no_broker}
use Rattle.geo_base.specs.Forwarding.{receipt, receipt_packet, take_frame, take_packet}
use Rattle.geo_base.specs.Happening.{broker_does, does_planned, happens}
use Rattle.geo_base.specs.Link.{Link, next_packet}
use Rattle.geo_base.specs.Plan.{Plan, done}
use Rattle.geo_base.specs.Planned.{Planned, in_range, planned, planned_in}
use Rattle.geo_base.specs.Reading.{read}
use Rattle.geo_base.specs.Run.{Pair, pairs, pairs_from, pairs_of, pairs_to, round_of}
use Rattle.geo_base.specs.Setup.{Setup}
use Rattle.geo_base.specs.World.{Back, Forward, Links, World, cell, delivered, from_broker, link_at, node, site, taken_from, topic_at}
use Rattle.world_laws.proofs.Replicating.Effects.{Each, each_both, each_map}
use Rattle.world_laws.proofs.Walks.LinkWalk.{answered_acts, frame_taken, packet_answered, taken_acts}
use Rattle.world_laws.proofs.Budget.LinkWeights.{delivered_weight, take_sends_back, taken_back, taken_forward}
use Rattle.world_laws.proofs.Walks.ReadWalk.{read_shape}
use Rattle.world_laws.proofs.Budget.ReadWeights.{Lighter, outs_weight, reads_lighter}
use Rattle.world_laws.proofs.Budget.Rounds.{IsLowered, Works}
use Rattle.world_laws.proofs.Walks.Shapes.{Answered, Taken}
use Rattle.world_laws.proofs.Budget.Tails.{at_new, sum_at}
use Rattle.world_laws.proofs.Budget.TakeWeights.{answered_same, answered_sends, taken_lighter}
use Rattle.world_laws.proofs.Walks.Walk.{on_test}
use Rattle.world_laws.proofs.Budget.Weights.{ahead, broker_weight, dear, links_weight, weight}

-- what an event of settling made of a world: nothing but an idle count, or one event more and a lower weight
data Happened (s : Setup) (w v : World) : Type 0 where
  Idled : (n : ℕ) → v ≡ record w { idle = n } → Happened s w v
  Lowered : w.events < v.events → weight s v < weight s w → v.rounds ≡ w.rounds → Happened s w v

works : (s : Setup) (w : World) (e : Event) → Happened s w (happens s w e) → Works s (weight s) (λ v. Unit {0}) w e
works s w e (Happened.Idled n same) =
    Works.Idle (ap (λ (v : World). record v { idle = w.idle }) same) (ap (λ (v : World). v.events == w.events) same ∙ eq-eqb w.events w.events refl)
works s w e (Happened.Lowered more less as_many) = Works.Lowers more less as_many tt

no_weight : (n x : ℕ) → broker_weight n x no_broker ≡ 0
no_weight n x = let z = mul-zero (dear (n - 1)) in omega (arith, z)

-- one broker is new
brokers_new : (s : Setup) (w : World) (t x : ℕ) (b : Broker) → x < length s.clusters
    → sum_at (λ j c. broker_weight (length s.clusters) (j % length s.clusters) c) 0 (slice_set w.brokers (node s t x) b) + broker_weight (length s.clusters) x (topic_at s w t x)
    ≤ sum_at (λ j c. broker_weight (length s.clusters) (j % length s.clusters) c) 0 w.brokers + broker_weight (length s.clusters) x b
brokers_new s w t x b lt =
    let n = length s.clusters in
    let F : ℕ → Broker → ℕ = λ j c. broker_weight n (j % n) c in
    let first : 0 + node s t x ≡ node s t x = omega arith in
    let place : (0 + node s t x) % n ≡ x = ap (λ (k : ℕ). k % n) first ∙ mod-mul-add t n x lt in
    subst (λ (y : ℕ). sum_at F 0 (slice_set w.brokers (node s t x) b) + broker_weight n y (topic_at s w t x) ≤ sum_at F 0 w.brokers + broker_weight n y b) place
    (at_new F no_broker 0 (node s t x) w.brokers b (λ _ j. no_weight n (j % n)))

idles_happened : (s : Setup) (w : World) (p : Planned) → p.plan.idle ≡ true → Happened s w (broker_does s w p)
unfolding broker_does
idles_happened s w p idle = on_test (Happened s w) p.plan.idle _ _ (λ _. Happened.Idled (w.idle + 1) refl) (λ acts. absurd (false≢true (sym acts ∙ idle)))

-- what the links after an event weigh
abbrev after_links : Setup → World → Planned → ℕ → Links
after_links s w p stamp = taken_from p.takes (delivered (from_broker s p.topic p.cluster) stamp p.plan.sent w.links)

less_of : (a b a' b' l l' o d : ℕ) → a' + b ≤ a + b' → b' + o < b + d → l' + d ≤ l + o → a' + l' < a + l
less_of a b a' b' l l' o d brokers lighter links = omega (arith, brokers, lighter, links)

-- a plan that sends o and takes d
lowers_happened : (s : Setup) (w : World) (p : Planned) (o d : ℕ) → p.cluster < length s.clusters → p.plan.idle ≡ false
    → broker_weight (length s.clusters) p.cluster (done s.per_ledger (topic_at s w p.topic p.cluster) p.plan) + o
    < broker_weight (length s.clusters) p.cluster (topic_at s w p.topic p.cluster) + d
    → ((stamp : ℕ) → links_weight (length s.clusters - 1) (after_links s w p stamp) + d ≤ links_weight (length s.clusters - 1) w.links + o)
    → Happened s w (broker_does s w p)
unfolding broker_does
lowers_happened s w p o d lt acts lighter links =
    on_test (Happened s w) p.plan.idle _ _ (λ idle. absurd (false≢true (sym acts ∙ idle)))
    (λ _. Happened.Lowered (omega arith)
    (less_of _ _ _ _ _ _ o d (brokers_new s w p.topic p.cluster (done s.per_ledger (topic_at s w p.topic p.cluster) p.plan) lt) lighter (links _)) refl)

-- what is sent is delivered, and then a packet is taken
nothing_more : (a b : ℕ) → a < b → a < b + 0
nothing_more a b lt = omega (arith, lt)

nothing_taken : (a b : ℕ) → a ≤ b → a + 0 ≤ b
nothing_taken a b le = omega (arith, le)

one_answer : (a b : ℕ) → a ≡ b + 0 → a < b + 1
one_answer a b is = omega (arith, is)

sent_and_taken : (a b c d o : ℕ) → a + d ≤ b → b ≤ c + o → a + d ≤ c + o
sent_and_taken a b c d o fell rose = omega (arith, fell, rose)

-- a pair of the setup
pub record IsPair (s : Setup) (t x y : ℕ) : Type 0 where
  pub topic : t < length s.topics
  pub source : x < length s.clusters
  pub target : y < length s.clusters
  pub other : (x == y) ≡ false

planned_happened : (s : Setup) (w : World) (e : Event) → Happened s w (does_planned s w (planned_in s w e)) → Happened s w (does_planned s w (planned s w e))
unfolding planned
planned_happened s w e h =
    on_test (λ (o : Option Planned). Happened s w (does_planned s w o)) (in_range s e) (planned_in s w e) None (λ _. h) (λ _. Happened.Idled (w.idle + 1) refl)

read_happened : (s : Setup) (w : World) (t x y : ℕ) (plan : Plan) → x < length s.clusters
    → (plan.idle ≡ true) ⊎ ((plan.idle ≡ false) × Lighter (length s.clusters) (site s t x) (topic_at s w t x) plan)
    → Happened s w (broker_does s w (record { topic = t; cluster = x; takes = None; plan = plan }))
read_happened s w t x y plan lt (inl idle) = idles_happened s w _ idle
read_happened s w t x y plan lt (inr h) =
    lowers_happened s w (record { topic = t; cluster = x; takes = None; plan = plan }) (outs_weight (length s.clusters - 1) plan.sent) 0 lt h.0 (nothing_more _ _ h.1)
    (λ stamp. nothing_taken _ _ (delivered_weight s (length s.clusters - 1) t x stamp plan.sent w.links))

take_happened : (s : Setup) (w : World) (t x y : ℕ) (o : Option Packet) → IsPair s t x y → next_packet (link_at w.links (Forward (node s t x) y)) ≡ o
    → Happened s w (broker_does s w (record { topic = t; cluster = y; takes = Some (Forward (node s t x) y); plan = take_packet (site s t y) (topic_at s w t y) x fate.Good o }))
unfolding take_packet
take_happened s w t x y None pair next = idles_happened s w _ refl
take_happened s w t x y (Some p) pair next =
    lowers_happened s w (record { topic = t; cluster = y; takes = Some (Forward (node s t x) y); plan = q }) (outs_weight m q.sent) (ahead m p.frame) pair.target
    (taken_acts (site s t y) (topic_at s w t y) x p q shape)
    (taken_lighter (length s.clusters) (site s t y) (topic_at s w t y) x p q pair.target pair.other shape)
    (λ stamp.
    let ls = delivered (from_broker s t y) stamp q.sent w.links in
    let same = take_sends_back s (site s t y) (topic_at s w t y) t y x stamp p q w.links shape in
    let still = ap (λ (f : List (List Link)). next_packet (cell f (node s t x) y)) same ∙ next in
    sent_and_taken _ _ _ _ _ (taken_forward m (node s t x) y ls p still) (delivered_weight s m t y stamp q.sent w.links))
  where
    m : ℕ
    m = length s.clusters - 1

    q : Plan
    q = take_frame (site s t y) (topic_at s w t y) x p p.frame

    shape : Taken (site s t y) (topic_at s w t y) x p q
    shape = frame_taken (site s t y) (topic_at s w t y) x p p.frame refl

receipt_happened : (s : Setup) (w : World) (t x y : ℕ) (o : Option Packet) → IsPair s t x y → next_packet (link_at w.links (Back (node s t x) y)) ≡ o
    → Happened s w (broker_does s w (record { topic = t; cluster = x; takes = Some (Back (node s t x) y); plan = receipt (site s t x) (topic_at s w t x) y fate.Good o }))
unfolding receipt
receipt_happened s w t x y None pair next = idles_happened s w _ refl
receipt_happened s w t x y (Some p) pair next =
    lowers_happened s w (record { topic = t; cluster = x; takes = Some (Back (node s t x) y); plan = q }) (outs_weight m q.sent) 1 pair.source
    (answered_acts (topic_at s w t x) y p q shape)
    (one_answer _ _ (answered_same (length s.clusters) (site s t x) (topic_at s w t x) y p q shape))
    (λ stamp.
    let ls = delivered (from_broker s t x) stamp q.sent w.links in
    let same : ls ≡ w.links = ap (λ (os : List Out). delivered (from_broker s t x) stamp os w.links) (answered_sends (topic_at s w t x) y p q shape) in
    let still = ap (λ (l : Links). next_packet (link_at l (Back (node s t x) y))) same ∙ next in
    sent_and_taken _ _ _ _ _ (taken_back m (node s t x) y ls p still) (delivered_weight s m t x stamp q.sent w.links))
  where
    m : ℕ
    m = length s.clusters - 1

    q : Plan
    q = receipt_packet (topic_at s w t x) y p

    shape : Answered (topic_at s w t x) y p q
    shape = packet_answered (topic_at s w t x) y p

-- the events of a round: good takes, good receipts and reads of pairs
abbrev pub InRound : Setup → Event → Type 0
InRound s (event.Take t x y fate.Good) = IsPair s t x y
InRound s (event.Receipt t x y fate.Good) = IsPair s t x y
InRound s (event.Read t x y) = IsPair s t x y
InRound s e = ⊥

round_event : (s : Setup) (w : World) (e : Event) → InRound s e → Happened s w (happens s w e)
unfolding happens
round_event s w (event.Take t x y fate.Good) pair = planned_happened s w (event.Take t x y fate.Good) (take_happened s w t x y _ pair refl)
round_event s w (event.Receipt t x y fate.Good) pair = planned_happened s w (event.Receipt t x y fate.Good) (receipt_happened s w t x y _ pair refl)
round_event s w (event.Read t x y) pair =
    planned_happened s w (event.Read t x y)
    (read_happened s w t x y (read (site s t x) (topic_at s w t x) y) pair.source
    (reads_lighter (site s t x) (topic_at s w t x) y (read (site s t x) (topic_at s w t x) y) pair.source (read_shape (site s t x) (topic_at s w t x) y)))
round_event s w e pair = absurd pair

pub weight_lowered : (s : Setup) → IsLowered s (weight s) (λ w. Unit {0}) (InRound s)
weight_lowered s = record { works = λ w e pair _. works s w e (round_event s w e pair); rounds = λ w n. refl; kept = λ w n _. tt }

-- all events of a round are such
abbrev PairIn : Setup → Pair → Type 0
PairIn s p = IsPair s p.topic p.source p.target

range_in : (k m : ℕ) → Each (λ i. i < k + m) (range_with_len k m)
range_in k zero = tt
range_in k (suc m) = (omega arith, each_map (λ i. i < k + 1 + m) (λ i. i < k + suc m) (λ i lt. omega (arith, lt)) (range_with_len (k + 1) m) (range_in (k + 1) m))

to_in : (s : Setup) (t x : ℕ) (ys : List ℕ) → t < length s.topics → x < length s.clusters → Each (λ y. y < length s.clusters) ys → Each (PairIn s) (pairs_to t x ys)
to_in s t x [] topic source all = tt
to_in s t x (y ∷ ys) topic source all =
    let rest = to_in s t x ys topic source all.1 in
    on_test (Each (PairIn s)) (x == y) (pairs_to t x ys) (record { topic = t; source = x; target = y } ∷ pairs_to t x ys) (λ _. rest)
    (λ other. (record { topic = topic; source = source; target = all.0; other = other }, rest))

from_in : (s : Setup) (t : ℕ) (xs ys : List ℕ) → t < length s.topics → Each (λ x. x < length s.clusters) xs → Each (λ y. y < length s.clusters) ys
    → Each (PairIn s) (pairs_from t xs ys)
from_in s t [] ys topic sources targets = tt
from_in s t (x ∷ xs) ys topic sources targets =
    each_both (PairIn s) (pairs_to t x ys) (pairs_from t xs ys) (to_in s t x ys topic sources.0 targets) (from_in s t xs ys topic sources.1 targets)

of_in : (s : Setup) (ts xs : List ℕ) → Each (λ t. t < length s.topics) ts → Each (λ x. x < length s.clusters) xs → Each (PairIn s) (pairs_of ts xs)
of_in s [] xs topics clusters = tt
of_in s (t ∷ ts) xs topics clusters =
    each_both (PairIn s) (pairs_from t xs xs) (pairs_of ts xs) (from_in s t xs xs topics.0 clusters clusters) (of_in s ts xs topics.1 clusters)

below_in : (n : ℕ) → Each (λ i. i < n) (range_with_len 0 n)
below_in n = each_map (λ i. i < 0 + n) (λ i. i < n) (λ i lt. omega (arith, lt)) (range_with_len 0 n) (range_in 0 n)

round_in : (s : Setup) (ps : List Pair) → Each (PairIn s) ps → Each (InRound s) (round_of ps)
round_in s [] all = tt
round_in s (p ∷ ps) all = (all.0, (all.0, (all.0, round_in s ps all.1)))

pub all_pairs : (s : Setup) → Each (λ (p : Pair). IsPair s p.topic p.source p.target) (pairs s)
all_pairs s = of_in s (range_with_len 0 (length s.topics)) (range_with_len 0 (length s.clusters)) (below_in (length s.topics)) (below_in (length s.clusters))

pub all_in_round : (s : Setup) → Each (InRound s) (round_of (pairs s))
all_in_round s = round_in s (pairs s) (all_pairs s)
