-- What is given to a client stands: a MESSAGE goes out of an offer alone, to a client of the topic.
use Rattle.std.proofs.Common.{◌≡◌, ℕ, ◌<◌, List, [], length, refl, ap, arith}
use Rattle.std.specs.Prelude.{Option, nat_lt}
use Rattle.std.proofs.lemmas.Bool.{ltb-true}
use Rattle.std.proofs.lemmas.Option.{slice_get_within}
use Rattle.world_laws.proofs.Types.{Entry, Frame, Out, Packet, Peer, ClusterRef, Position}
use Rattle.world_laws.proofs.Types.frame
use Rattle.world_laws.proofs.Types.peer
use Rattle.geo_base.specs.Broker.{Broker, Site}
use Rattle.geo_base.specs.Dispatcher.{consumer_at}
use Rattle.geo_base.specs.Entry.{is_data, key_bytes}
use Rattle.geo_base.specs.Forwarding.{closes}
use Rattle.geo_base.specs.Plan.{Plan, done, quiet_plan}
use Rattle.geo_base.specs.Planned.{Planned}
use Rattle.geo_base.specs.Seeking.{restart}
use Rattle.geo_base.specs.Setup.{Setup, declared_at}
use Rattle.geo_base.specs.World.{World, site, topic_at}
use Rattle.world_laws.specs.Publishing.{MessageHolds}
use Rattle.world_laws.proofs.Clients.CalmWalk.{reply_quiet}
use Rattle.world_laws.proofs.Clients.Consumers.{IsQuiet, OwnConsumers, picked_own}
use Rattle.world_laws.proofs.Dispatching.SubFrames.{AllSubs, found_is}
use Rattle.world_laws.proofs.FrameContents.Sending.{answered_sends, fated_sends, seeks_sends, snaps_sends}
use Rattle.world_laws.proofs.Replicating.Effects.{Each, each_map}
use Rattle.world_laws.proofs.Snapshotting.Answering.{Numbered}
use Rattle.world_laws.proofs.Snapshotting.Grows.{Lengthened}
use Rattle.world_laws.proofs.Snapshotting.Hearing.{grown_get}
use Rattle.world_laws.proofs.TopicOrder.Ledgers.{at_index}
use Rattle.world_laws.proofs.Walks.EventWalk.{of_node}
use Rattle.world_laws.proofs.Walks.Shapes.{Offers, Reads, Served, Shape, Taken}
use Rattle.world_laws.proofs.Walks.Walk.{left}

pub message_longer : (b b' : Broker) (x : ℕ) (p : Position) (source : Option ClusterRef) (e : Entry) → Lengthened b b' → MessageHolds b x p source e → MessageHolds b' x p source e
message_longer b b' x p source e g h = record {
  index = h.index;
  stands = grown_get b.entries b'.entries b.ledgers b'.ledgers g h.index e h.stands;
  at = g.index p h.index h.at;
  message = h.message;
  from = h.from;
}

-- a MESSAGE to a client of the topic, of what stands there
abbrev pub MessageOut : Setup → ℕ → ℕ → Broker → Frame → Peer → Type 0
MessageOut s t x b (frame.Message id p source e) (peer.Client c) = (t ≡ (declared_at s c).topic) × MessageHolds b x p source e
MessageOut s t x b f q = Unit {0}

abbrev pub MessagesOut : Setup → ℕ → ℕ → Broker → List Out → Type 0
MessagesOut s t x b os = Each (λ (o : Out). MessageOut s t x b o.frame o.to) os

abbrev AreQuiet : List Out → Type 0
AreQuiet os = Each (λ (o : Out). IsQuiet o.frame) os

quiet_out : (s : Setup) (t x : ℕ) (b : Broker) (f : Frame) (q : Peer) → IsQuiet f → MessageOut s t x b f q
quiet_out s t x b (frame.Message id p source e) q h = absurd h
quiet_out s t x b f q h = tt

quiet_outs : (s : Setup) (t x : ℕ) (b : Broker) (os : List Out) → AreQuiet os → MessagesOut s t x b os
quiet_outs s t x b os h = each_map (λ (o : Out). IsQuiet o.frame) (λ (o : Out). MessageOut s t x b o.frame o.to) (λ o. quiet_out s t x b o.frame o.to) os h

served_quiet : (h : Site) (b : Broker) (c : ℕ) (p : Packet) (q : Plan) → Served h b c p q → AreQuiet q.sent
served_quiet h b c p q Served.Ignores = tt
served_quiet h b c p q Served.Disconnects = tt
served_quiet h b c p q (Served.Connects v is new) = (tt, tt)
served_quiet h b c p q (Served.Answers v f at) = (reply_quiet f at.1, tt)
served_quiet h b c p q (Served.ChangesProducers v ps f at) = (reply_quiet f at.1, tt)
served_quiet h b c p q (Served.Stores v id seq source e at sound new) = (tt, tt)
served_quiet h b c p q (Served.Repeats v id seq source e at sound old) = (tt, tt)
served_quiet h b c p q (Served.Creates v topic n kind id request consumer earliest replicated at is may named) = (tt, tt)
served_quiet h b c p q (Served.Joins v topic n kind id request consumer earliest replicated u at is may named free same) = (tt, tt)
served_quiet h b c p q (Served.Alters v topic n kind id request consumer earliest replicated u at is may named free other) = (tt, tt)
served_quiet h b c p q (Served.Permits v id permits u at is by) = tt
served_quiet h b c p q (Served.Acknowledges v id kind ps u i is ws at sent by of after) = tt
served_quiet h b c p q (Served.Unsubscribes v id request u at is by last) = (tt, tt)
served_quiet h b c p q (Served.ClosesConsumer v id request u at is by) = (tt, tt)

taken_quiet : (h : Site) (b : Broker) (x : ℕ) (p : Packet) (q : Plan) → Taken h b x p q → AreQuiet q.sent
taken_quiet h b x p q (Taken.Stores id seq source e is at may new) = (tt, tt)
taken_quiet h b x p q (Taken.Unreadable is) = tt
taken_quiet h b x p q (Taken.Opens topic id request name is opening) = (tt, tt)
taken_quiet h b x p q (Taken.Discards else shut) = tt
taken_quiet h b x p q (Taken.Refuses else at may) = tt
taken_quiet h b x p q (Taken.Repeats id seq source e is at may old) = (tt, tt)

reads_quiet : (h : Site) (b : Broker) (y : ℕ) (q : Plan) → Reads h b y q → AreQuiet q.sent
reads_quiet h b y q Reads.NothingToRead = tt
reads_quiet h b y q (Reads.Forwards i e next out) = (tt, tt)
reads_quiet h b y q (Reads.Skips i e next other) = tt
reads_quiet h b y q (Reads.Responds i e id source next of is) = tt
reads_quiet h b y q (Reads.Counts i e id answer u u' next is heard) = tt
reads_quiet h b y q (Reads.AsksAgain i e id answer u u' next is heard) = tt
reads_quiet h b y q (Reads.Completes i e id answer u u' next is heard) = tt
reads_quiet h b y q (Reads.CreatesAt i j e n remote next is named) = tt
reads_quiet h b y q (Reads.ActsOnUpdate i j e n remote v ws next is named after) = tt

-- consumers are of clients of the topic
abbrev pub AreOwn : Setup → ℕ → Broker → Type 0
AreOwn s t b = (c : ℕ) → AllSubs (OwnConsumers t c (declared_at s c)) b

offers_messages : (s : Setup) (t x : ℕ) (b : Broker) (n : List ℕ) (q : Plan) → AreOwn s t b → Numbered b.entries b.ledgers → Offers (site s t x) b n q
    → MessagesOut s t x (done s.per_ledger b q) q.sent
offers_messages s t x b n q own numbered Offers.NothingToOffer = tt
offers_messages s t x b n q own numbered (Offers.SkipsMarker v i e ws due is after) = tt
offers_messages s t x b n q own numbered (Offers.Caches v i j e c ws due is after) = tt
offers_messages s t x b n q own numbered (Offers.Gives v i at e due is picked) =
    let k = consumer_at v.consumers at in let c = k.client in
    let mine = picked_own t c (declared_at s c) v (key_bytes e.meta.key) at picked (found_is (OwnConsumers t c (declared_at s c)) _ b.subs v due.0 (own c)).0 refl in
    let lt = slice_get_within b.entries i e due.2 in let whole = numbered.whole in (
      (
        mine.1,
        record {
          index = i;
          stands = due.2;
          at = at_index b.ledgers i (omega (arith, lt, whole));
          message = ap is_data is;
          from = refl;
        },
      ),
      tt,
    )

pub shape_messages : (s : Setup) (w : World) (p : Planned) → Shape s w p → ((t x : ℕ) → x < length s.clusters → AreOwn s t (topic_at s w t x))
    → ((t x : ℕ) → t < length s.topics → x < length s.clusters → Numbered (topic_at s w t x).entries (topic_at s w t x).ledgers)
    → MessagesOut s p.topic p.cluster (done s.per_ledger (topic_at s w p.topic p.cluster) p.plan) p.plan.sent
unfolding restart
shape_messages s w p (Shape.Idle t x within) own numbered = tt
shape_messages s w p (Shape.Empty t x k within next) own numbered = tt
shape_messages s w p (Shape.Serve x c q plan within next served) own numbered = quiet_outs s _ x _ plan.sent (served_quiet _ _ c q plan served)
shape_messages s w p (Shape.Drop x c v within at) own numbered = tt
shape_messages s w p (Shape.Reset t x y within remote) own numbered = (tt, tt)
shape_messages s w p (Shape.Read t x y plan within reads) own numbered = quiet_outs s t x _ plan.sent (reads_quiet _ _ y plan reads)
shape_messages s w p (Shape.Take t x y q plan within next taken) own numbered =
    quiet_outs s t y _ plan.sent (fated_sends (λ (o : Out). IsQuiet o.frame) s.per_ledger _ _ (closes x) plan (λ b r k. taken_quiet (site s t y) b x q r k) tt taken)
shape_messages s w p (Shape.Receipt t x y q plan within next answered) own numbered =
    quiet_outs s t x _ plan.sent (fated_sends (λ (o : Out). IsQuiet o.frame) s.per_ledger _ _ (quiet_plan []) plan (λ b r k. answered_sends (λ (o : Out). IsQuiet o.frame) b y q r k) tt answered)
shape_messages s w p (Shape.Snap t x plan within snaps) own numbered = quiet_outs s t x _ plan.sent (snaps_sends (λ (o : Out). IsQuiet o.frame) _ _ plan snaps)
shape_messages s w p (Shape.Offer t x n plan within offers) own numbered =
    let lt = ltb-true x (length s.clusters) (of_node s t x within) in
    offers_messages s t x _ _ plan (own t x lt) (numbered t x (ltb-true t (length s.topics) (left (nat_lt t (length s.topics)) _ within)) lt) offers
shape_messages s w p (Shape.Seek t x n to plan within seeks) own numbered = quiet_outs s t x _ plan.sent (seeks_sends (λ (o : Out). IsQuiet o.frame) _ _ _ to plan seeks)
shape_messages s w p (Shape.Restart t x within) own numbered = tt
