-- Each session that settling began lives on, whatever event of a round is done.
use Rattle.std.proofs.Common.{◌≡◌, ℕ, ◌<◌, true, false, List, length, refl, sym, ap, subst, ◌∙◌}
use Rattle.std.specs.Prelude.{Option, Some, None}
use Rattle.std.proofs.lemmas.Bool.{eqb-false, eqb-true, false≢true, le-leb}
use Rattle.world_laws.proofs.Types.{Event, Out, Packet}
use Rattle.world_laws.proofs.Types.event
use Rattle.world_laws.proofs.Types.fate
use Rattle.geo_base.specs.Broker.{receiver_at, replicator_at}
use Rattle.geo_base.specs.Forwarding.{receipt, take_packet}
use Rattle.geo_base.specs.Happening.{broker_does, does_planned, happens}
use Rattle.geo_base.specs.Laws.{ArePair}
use Rattle.geo_base.specs.Link.{Link, next_packet, took}
use Rattle.geo_base.specs.Plan.{Plan}
use Rattle.geo_base.specs.Planned.{Planned, in_range, planned, planned_in}
use Rattle.geo_base.specs.Reading.{read}
use Rattle.geo_base.specs.Setup.{Setup, topic_name}
use Rattle.geo_base.specs.World.{Back, Forward, World, from_broker, link_at, node, site, taken_from, topic_at}
use Rattle.world_laws.proofs.ComesOver.Backs.{Backs}
use Rattle.world_laws.proofs.Replicating.Effects.{replicator_after, replicator_then}
use Rattle.world_laws.proofs.ComesOver.Fitting.{Fits}
use Rattle.world_laws.proofs.Induction.Layers.{Both}
use Rattle.world_laws.proofs.Replicating.LinkFrames.{pushed}
use Rattle.world_laws.proofs.Merges.LinkTables.{delivered_has}
use Rattle.world_laws.proofs.Walks.LinkWalk.{frame_taken, packet_answered}
use Rattle.world_laws.proofs.ComesOver.Live.{FitsLink, Live, live_takes}
use Rattle.world_laws.proofs.ComesOver.LiveFrames.{LiveAt, LiveIn, after_done, after_sent, by_pair, delivered_other, inward_else, inward_here, outs_back, outward_else, outward_here, taken_one}
use Rattle.world_laws.proofs.ComesOver.LiveReplicator.{live_answered, live_reads}
use Rattle.world_laws.proofs.Budget.Lowering.{InRound, IsPair}
use Rattle.world_laws.proofs.Replicating.Packets.{IsSend}
use Rattle.world_laws.proofs.Replicating.Pairs.{Replicates}
use Rattle.world_laws.proofs.Replicating.Prefixes.{of_out}
use Rattle.world_laws.proofs.Walks.ReadWalk.{read_shape}
use Rattle.world_laws.proofs.Replicating.Reach.{Outgoing, fated_in, fated_out, reads_out}
use Rattle.world_laws.proofs.Walks.Shapes.{Answered, Fated, Reads, Taken}
use Rattle.world_laws.proofs.Budget.TakeWeights.{answered_sends}
use Rattle.world_laws.proofs.Walks.Walk.{on_if, on_test}

-- what stands below
abbrev pub Ground : Setup → World → Type 0
Ground s = Both (Replicates s) (Backs s)

-- every session of every pair lives
abbrev pub Lives : Setup → World → Type 0
Lives s w = (t x y : ℕ) → t < length s.topics → ArePair s x y → LiveIn s w t x y

pub are_pair : (s : Setup) (t x y : ℕ) → IsPair s t x y → ArePair s x y
are_pair s t x y p = (p.source, p.target, eqb-false x y p.other)

-- what an event that is done comes to
done_lasts : (s : Setup) (w : World) (p : Planned) (t x y : ℕ) → LiveIn s w t x y
    → ((stamp : ℕ) → p.plan.idle ≡ false → LiveAt s (after_done s w p) (taken_from p.takes (after_sent s w p stamp)) t x y) → LiveIn s (broker_does s w p) t x y
unfolding broker_does
done_lasts s w p t x y live h = on_test (λ (v : World). LiveIn s v t x y) p.plan.idle _ _ (λ _. live) (λ acts. h _ acts)

-- READ

read_lasts : (s : Setup) (w : World) (u v z : ℕ) (plan : Plan) → IsPair s u v z → Ground s w → Reads (site s u v) (topic_at s w u v) z plan → (t x y : ℕ)
    → t < length s.topics → ArePair s x y → LiveIn s w t x y → LiveIn s (broker_does s w (record { topic = u; cluster = v; takes = None; plan = plan })) t x y
read_lasts s w u v z plan is ground reads t x y lt pair live =
    done_lasts s w p t x y live
    (λ stamp _.
    (by_pair s u v z t x y is.source pair.0 (λ t x y. t < length s.topics → ArePair s x y → LiveIn s w t x y → LiveAt s (after_done s w p) (after_sent s w p stamp) t x y)
    (λ lt pair live.
    outward_here s w p z stamp (link_at w.links (Back (node s u v) z)) out tt ground.0.sized lt pair
    (delivered_other s u v stamp plan.sent w.links (Back (node s u v) z) (outs_back s u v v z (node s u v) z plan out))
    (live_reads (topic_name s u) (site s u v) (topic_at s w u v) z (receiver_at (topic_at s w u z) v) (link_at w.links (Forward (node s u v) z))
    (link_at w.links (Back (node s u v) z)) plan stamp (ground.0.pairs u v z lt pair).receiving.within reads live))
    (λ other lt pair live. outward_else s w p z stamp t x y out tt tt ground.0.sized lt pair other live)) lt pair live)
  where
    p : Planned
    p = record { topic = u; cluster = v; takes = None; plan = plan }

    out : Outgoing v z plan
    out = reads_out (site s u v) (topic_at s w u v) z plan reads

-- RECEIPT

receipt_lasts : (s : Setup) (w : World) (u v z : ℕ) (q : Packet) (plan : Plan) → IsPair s u v z → Ground s w → next_packet (link_at w.links (Back (node s u v) z)) ≡ Some q
    → Answered (topic_at s w u v) z q plan → (t x y : ℕ) → t < length s.topics → ArePair s x y → LiveIn s w t x y
    → LiveIn s (broker_does s w (record { topic = u; cluster = v; takes = Some (Back (node s u v) z); plan = plan })) t x y
receipt_lasts s w u v z q plan is ground next answered t x y lt pair live =
    done_lasts s w p t x y live
    (λ stamp _.
    (by_pair s u v z t x y is.source pair.0
    (λ t x y. t < length s.topics → ArePair s x y → LiveIn s w t x y → LiveAt s (after_done s w p) (taken_from (Some (Back (node s u v) z)) (after_sent s w p stamp)) t x y)
    (λ lt pair live.
    let f = link_at w.links (Forward (node s u v) z) in
    let k = link_at w.links (Back (node s u v) z) in
    let L : Link → Type 0 = λ g.
    Live v (topic_name s u)
    (replicator_then z (replicator_after z (replicator_at (topic_at s w u v) z) plan.writes) plan.changes)
    (receiver_at (topic_at s w u z) v) g (took k) in
    outward_here s w p z stamp (took k) out refl ground.0.sized lt pair
    (taken_one (after_sent s w p stamp) (Back (node s u v) z)
    (delivered_has (from_broker s u v) stamp plan.sent w.links (Back (node s u v) z) (ground.1.cells u v z (lt, pair.0) pair.1))
    ∙ ap took (delivered_other s u v stamp plan.sent w.links (Back (node s u v) z) (outs_back s u v v z (node s u v) z plan out)))
    (subst L (sym (ap (λ (os : List Out). pushed z stamp f os) (answered_sends (topic_at s w u v) z q plan answered)))
    (live_answered v z (topic_name s u) (topic_at s w u v) (receiver_at (topic_at s w u z) v) f k q plan next answered live)))
    (λ other lt pair live. outward_else s w p z stamp t x y out refl other ground.0.sized lt pair other live)) lt pair live)
  where
    p : Planned
    p = record { topic = u; cluster = v; takes = Some (Back (node s u v) z); plan = plan }

    out : Outgoing v z plan
    out = fated_out s.per_ledger (topic_at s w u v) v z q plan (Fated.Once plan answered)

-- TAKE

-- the entry of a SEND on a link is an own one of its source, and so it fits
fits_link : (s : Setup) (w : World) (t x y : ℕ) (q : Packet) → t < length s.topics → ArePair s x y → Replicates s w → Fits s w
    → next_packet (link_at w.links (Forward (node s t x) y)) ≡ Some q → FitsLink (site s t y) q
fits_link s w t x y q lt pair r fits next id n source e is =
    let f = link_at w.links (Forward (node s t x) y) in
    let send : IsSend f.sent f.taken q.session n e = record { packet = q; at = next; carries = record { session = refl; id = id; source = source; is = is } } in
    let placed = (r.pairs t x y lt pair).carried.sends f.taken q.session n e send in
    le-leb _ _ (fits t x (lt, pair.0) placed.index e placed.at (eqb-true e.ident.origin x (of_out x y e placed.out)))

take_lasts : (s : Setup) (w : World) (u z v : ℕ) (q : Packet) (plan : Plan) → IsPair s u z v → Ground s w → Fits s w
    → next_packet (link_at w.links (Forward (node s u z) v)) ≡ Some q → Taken (site s u v) (topic_at s w u v) z q plan → (t x y : ℕ) → t < length s.topics → ArePair s x y
    → LiveIn s w t x y → LiveIn s (broker_does s w (record { topic = u; cluster = v; takes = Some (Forward (node s u z) v); plan = plan })) t x y
take_lasts s w u z v q plan is ground fits next taken t x y lt pair live =
    done_lasts s w p t x y live
    (λ stamp _.
    (by_pair s u z v t x y is.source pair.0
    (λ t x y. t < length s.topics → ArePair s x y → LiveIn s w t x y → LiveAt s (after_done s w p) (taken_from (Some (Forward (node s u z) v)) (after_sent s w p stamp)) t x y)
    (λ lt pair live.
    inward_here s w u z v stamp q plan (fated_in s.per_ledger (site s u v) (topic_at s w u v) z q plan (Fated.Once plan taken)) ground.0.sized lt pair
    (ground.1.cells u z v (lt, pair.0) pair.1) taken
    (live_takes z (topic_name s u) (site s u v) (topic_at s w u v) (replicator_at (topic_at s w u z) v) (link_at w.links (Forward (node s u z) v))
    (link_at w.links (Back (node s u z) v)) q plan stamp refl next (ground.1.links u z v lt pair).within (fits_link s w u z v q lt pair ground.0 fits next) taken live))
    (λ other lt pair live.
    inward_else s w p z stamp t x y (fated_in s.per_ledger (site s u v) (topic_at s w u v) z q plan (Fated.Once plan taken)) refl ground.0.sized lt pair is.target other live))
    lt pair live)
  where
    p : Planned
    p = record { topic = u; cluster = v; takes = Some (Forward (node s u z) v); plan = plan }

-- EVENTS

nothing_lasts : (s : Setup) (w : World) (p : Planned) (t x y : ℕ) → p.plan.idle ≡ true → LiveIn s w t x y → LiveIn s (broker_does s w p) t x y
nothing_lasts s w p t x y idle live = done_lasts s w p t x y live (λ stamp acts. absurd (false≢true (sym acts ∙ idle)))

take_event : (s : Setup) (w : World) (u z v : ℕ) (o : Option Packet) → IsPair s u z v → Ground s w → Fits s w → next_packet (link_at w.links (Forward (node s u z) v)) ≡ o
    → (t x y : ℕ) → t < length s.topics → ArePair s x y → LiveIn s w t x y
    → LiveIn s
    (broker_does s w (record { topic = u; cluster = v; takes = Some (Forward (node s u z) v); plan = take_packet (site s u v) (topic_at s w u v) z fate.Good o })) t x y
unfolding take_packet
take_event s w u z v None is ground fits next t x y lt pair live = nothing_lasts s w _ t x y refl live
take_event s w u z v (Some q) is ground fits next t x y lt pair live =
    take_lasts s w u z v q _ is ground fits next (frame_taken (site s u v) (topic_at s w u v) z q q.frame refl) t x y lt pair live

receipt_event : (s : Setup) (w : World) (u v z : ℕ) (o : Option Packet) → IsPair s u v z → Ground s w → next_packet (link_at w.links (Back (node s u v) z)) ≡ o
    → (t x y : ℕ) → t < length s.topics → ArePair s x y → LiveIn s w t x y
    → LiveIn s
    (broker_does s w (record { topic = u; cluster = v; takes = Some (Back (node s u v) z); plan = receipt (site s u v) (topic_at s w u v) z fate.Good o })) t x y
unfolding receipt
receipt_event s w u v z None is ground next t x y lt pair live = nothing_lasts s w _ t x y refl live
receipt_event s w u v z (Some q) is ground next t x y lt pair live =
    receipt_lasts s w u v z q _ is ground next (packet_answered (topic_at s w u v) z q) t x y lt pair live

planned_lasts : (s : Setup) (w : World) (e : Event) (t x y : ℕ) → LiveIn s w t x y → LiveIn s (does_planned s w (planned_in s w e)) t x y
    → LiveIn s (does_planned s w (planned s w e)) t x y
unfolding planned
planned_lasts s w e t x y live h =
    on_if (λ (o : Option Planned). LiveIn s (does_planned s w o) t x y) (in_range s e) (planned_in s w e) None h live

event_lasts : (s : Setup) (w : World) (e : Event) → InRound s e → Ground s w → Fits s w → (t x y : ℕ) → t < length s.topics → ArePair s x y → LiveIn s w t x y
    → LiveIn s (happens s w e) t x y
unfolding happens
event_lasts s w (event.Take u z v fate.Good) is ground fits t x y lt pair live =
    planned_lasts s w (event.Take u z v fate.Good) t x y live (take_event s w u z v _ is ground fits refl t x y lt pair live)
event_lasts s w (event.Receipt u v z fate.Good) is ground fits t x y lt pair live =
    planned_lasts s w (event.Receipt u v z fate.Good) t x y live (receipt_event s w u v z _ is ground refl t x y lt pair live)
event_lasts s w (event.Read u v z) is ground fits t x y lt pair live =
    planned_lasts s w (event.Read u v z) t x y live
    (read_lasts s w u v z (read (site s u v) (topic_at s w u v) z) is ground (read_shape (site s u v) (topic_at s w u v) z) t x y lt pair live)
event_lasts s w e is ground fits t x y lt pair live = absurd is

pub lives_on : (s : Setup) (w : World) (e : Event) → InRound s e → Ground s w → Fits s w → Lives s w → Lives s (happens s w e)
lives_on s w e is ground fits lives t x y lt pair = event_lasts s w e is ground fits t x y lt pair (lives t x y lt pair)
