-- What a broker sends: entries that it stores, and commands and answers that are short.
use Rattle.std.proofs.Common.{◌≡◌, ℕ, ◌<◌, ◌≤◌, List, [], length, ◌==◌, arith}
use Rattle.std.specs.Prelude.{Option, Some, None, slice_get, codes}
use Rattle.std.proofs.lemmas.Bool.{leb-true}
use Rattle.std.proofs.lemmas.List.{length-append}
use Rattle.world_laws.proofs.Types.{Entry, Frame, Out, Packet, ClusterRef, Position}
use Rattle.world_laws.proofs.Types.frame
use Rattle.world_laws.proofs.Types.cluster_ref
use Rattle.geo_base.specs.Broker.{Broker, Site, cluster_name}
use Rattle.geo_base.specs.Forwarding.{closes, link_producer}
use Rattle.geo_base.specs.Offering.{source_of}
use Rattle.geo_base.specs.Plan.{Plan, quiet_plan}
use Rattle.geo_base.specs.Planned.{Planned}
use Rattle.geo_base.specs.Producing.{most_producer_name}
use Rattle.geo_base.specs.Seeking.{restart}
use Rattle.geo_base.specs.Setup.{Setup}
use Rattle.geo_base.specs.Sizes.{cluster_ref_name}
use Rattle.geo_base.specs.Topic.{position_at}
use Rattle.geo_base.specs.World.{World, site, topic_at}
use Rattle.world_laws.specs.Frames.{IsCarrying}
use Rattle.world_laws.specs.Small.{IsSmallFrame}
use Rattle.world_laws.proofs.Replicating.Effects.{Each, each_both}
use Rattle.world_laws.proofs.FrameContents.NewEntries.{IsFit}
use Rattle.world_laws.proofs.FrameContents.OwnSizes.{AreShort}
use Rattle.world_laws.proofs.Walks.Shapes.{Answered, Fated, IsReply, Offers, Reads, Seeks, Served, Shape, Snaps, Taken}
use Rattle.world_laws.proofs.Walks.Walk.{on_test}

-- an entry in a frame has E, and the frame is small where B holds
pub record Sent (B : Type 0) (E : Entry → Type 0) (names : List (List ℕ)) (f : Frame) : Type 0 where
  pub carried : IsCarrying E names f
  pub small : B → IsSmallFrame names f

abbrev pub SentOut : Type 0 → (Entry → Type 0) → List (List ℕ) → Out → Type 0
SentOut B E names o = Sent B E names o.frame

-- what a broker sends of: what it stores, and short names
pub record Stock (B : Type 0) (E : Entry → Type 0) (h : Site) (b : Broker) : Type 0 where
  pub has : (i : ℕ) (e : Entry) → slice_get b.entries i ≡ Some e → E e
  pub fit : B → (i : ℕ) (e : Entry) → slice_get b.entries i ≡ Some e → IsFit h.clusters e
  pub origins : (i : ℕ) (e : Entry) → slice_get b.entries i ≡ Some e → e.ident.origin < length h.clusters
  pub names : AreShort h.clusters
  pub topic : length h.topic ≤ 16
  pub own : h.own < length h.clusters

short_source : (names : List (List ℕ)) (x : ℕ) → AreShort names → length (cluster_ref_name names (cluster_ref.Known x)) ≤ 1024
short_source names x short = let s = short x in omega (arith, s)

link_name_short : (h : Site) (x : ℕ) → AreShort h.clusters → length (link_producer h x) ≤ 1024
link_name_short h x short = let l = length-append (codes "pulsar.repl.") (cluster_name h x) in let s = short x in omega (arith, l, s)

-- the answers to a client
reply_sent : (B : Type 0) (E : Entry → Type 0) (names : List (List ℕ)) (f : Frame) → IsReply f → Sent B E names f
reply_sent B E names (frame.ProducerSuccess request n) h = record { carried = tt; small = λ b. let le = leb-true (length n) most_producer_name h in omega (arith, le) }
reply_sent B E names (frame.Error request code) h = record { carried = tt; small = λ b. tt }
reply_sent B E names (frame.Success request) h = record { carried = tt; small = λ b. tt }
reply_sent B E names (frame.SendError id seq code) h = record { carried = tt; small = λ b. tt }
reply_sent B E names frame.Pong h = record { carried = tt; small = λ b. tt }
reply_sent B E names f h = absurd h

pub served_sends : (B : Type 0) (E : Entry → Type 0) (h : Site) (b : Broker) (c : ℕ) (p : Packet) (q : Plan) → Served h b c p q → Each (SentOut B E h.clusters) q.sent
served_sends B E h b c p q Served.Ignores = tt
served_sends B E h b c p q Served.Disconnects = tt
served_sends B E h b c p q (Served.Connects s is new) = (record { carried = tt; small = λ b. tt }, tt)
served_sends B E h b c p q (Served.Answers s f at) = (reply_sent B E h.clusters f at.1, tt)
served_sends B E h b c p q (Served.ChangesProducers s ps f at) = (reply_sent B E h.clusters f at.1, tt)
served_sends B E h b c p q (Served.Stores s id seq source e at sound new) = (record { carried = tt; small = λ b. tt }, tt)
served_sends B E h b c p q (Served.Repeats s id seq source e at sound old) = (record { carried = tt; small = λ b. tt }, tt)
served_sends B E h b c p q (Served.Creates s topic n kind id request consumer earliest replicated at is may named) = (record { carried = tt; small = λ b. tt }, tt)
served_sends B E h b c p q (Served.Joins s topic n kind id request consumer earliest replicated v at is may named free same) = (record { carried = tt; small = λ b. tt }, tt)
served_sends B E h b c p q (Served.Alters s topic n kind id request consumer earliest replicated v at is may named free other) = (record { carried = tt; small = λ b. tt }, tt)
served_sends B E h b c p q (Served.Permits s id permits v at is by) = tt
served_sends B E h b c p q (Served.Acknowledges s id kind ps v i is ws at sent by of after) = tt
served_sends B E h b c p q (Served.Unsubscribes s id request v at is by last) = (record { carried = tt; small = λ b. tt }, tt)
served_sends B E h b c p q (Served.ClosesConsumer s id request v at is by) = (record { carried = tt; small = λ b. tt }, tt)

pub taken_sends : (B : Type 0) (E : Entry → Type 0) (h : Site) (b : Broker) (x : ℕ) (p : Packet) (q : Plan) → AreShort h.clusters → Taken h b x p q → Each (SentOut B E h.clusters) q.sent
taken_sends B E h b x p q short (Taken.Stores id seq source e is at may new) = (record { carried = tt; small = λ b. tt }, tt)
taken_sends B E h b x p q short (Taken.Unreadable is) = tt
taken_sends B E h b x p q short (Taken.Opens topic id request name is opening) = (record { carried = tt; small = λ b. link_name_short h x short }, tt)
taken_sends B E h b x p q short (Taken.Discards other shut) = tt
taken_sends B E h b x p q short (Taken.Refuses other at may) = tt
taken_sends B E h b x p q short (Taken.Repeats id seq source e is at may old) = (record { carried = tt; small = λ b. tt }, tt)

pub answered_sends : (F : Out → Type 0) (b : Broker) (y : ℕ) (p : Packet) (q : Plan) → Answered b y p q → Each F q.sent
answered_sends F b y p q (Answered.Stale other) = tt
answered_sends F b y p q (Answered.Other at other) = tt
answered_sends F b y p q (Answered.Opened request name at is state) = tt
answered_sends F b y p q (Answered.OpenBefore request name at is state) = tt
answered_sends F b y p q (Answered.ClosedBefore request name at is state) = tt
answered_sends F b y p q (Answered.Received id n i position at is pending) = tt
answered_sends F b y p q (Answered.ReceivedBefore id n position at is pending) = tt

pub fated_sends : (F : Out → Type 0) (per : ℕ) (b : Broker) (Acts : Broker → Plan → Type 0) (lost q : Plan) → ((c : Broker) (r : Plan) → Acts c r → Each F r.sent) → Each F lost.sent
    → Fated per b Acts lost q → Each F q.sent
fated_sends F per b Acts lost q acts none (Fated.Once r t) = acts b r t
fated_sends F per b Acts lost q acts none Fated.Lost = none
fated_sends F per b Acts lost q acts none (Fated.Twice r r' t t') = each_both F r.sent r'.sent (acts b r t) (acts _ r' t')

pub reads_sends : (B : Type 0) (E : Entry → Type 0) (h : Site) (b : Broker) (y : ℕ) (q : Plan) → Stock B E h b → Reads h b y q → Each (SentOut B E h.clusters) q.sent
reads_sends B E h b y q k Reads.NothingToRead = tt
reads_sends B E h b y q k (Reads.Forwards i e next out) = (
  record {
    carried = (k.own, k.has i e next.2);
    small = λ b. record { entry = k.fit b i e next.2; from = short_source h.clusters h.own k.names };
  },
  tt,
)
reads_sends B E h b y q k (Reads.Skips i e next other) = tt
reads_sends B E h b y q k (Reads.Responds i e id source next of is) = tt
reads_sends B E h b y q k (Reads.Counts i e id answer u u' next is heard) = tt
reads_sends B E h b y q k (Reads.AsksAgain i e id answer u u' next is heard) = tt
reads_sends B E h b y q k (Reads.Completes i e id answer u u' next is heard) = tt
reads_sends B E h b y q k (Reads.CreatesAt i j e n remote next is named) = tt
reads_sends B E h b y q k (Reads.ActsOnUpdate i j e n remote v ws next is named after) = tt

-- a message names the cluster that stored it first, where that is another one
message_sent : (B : Type 0) (E : Entry → Type 0) (h : Site) (b : Broker) (i : ℕ) (e : Entry) (id : ℕ) (p : Position) → Stock B E h b → slice_get b.entries i ≡ Some e
    → Sent B E h.clusters (frame.Message id p (source_of h.own e) e)
message_sent B E h b i e id p k at =
    on_test (λ (o : Option ClusterRef). Sent B E h.clusters (frame.Message id p o e)) (e.ident.origin == h.own) None (Some (cluster_ref.Known e.ident.origin))
    (λ own. record { carried = (tt, k.has i e at); small = λ b. record { entry = k.fit b i e at; from = tt } })
    (λ other. record {
      carried = (k.origins i e at, k.has i e at);
      small = λ b. record { entry = k.fit b i e at; from = short_source h.clusters e.ident.origin k.names };
    })

pub offers_sends : (B : Type 0) (E : Entry → Type 0) (h : Site) (b : Broker) (n : List ℕ) (q : Plan) → Stock B E h b → Offers h b n q → Each (SentOut B E h.clusters) q.sent
offers_sends B E h b n q k Offers.NothingToOffer = tt
offers_sends B E h b n q k (Offers.Gives v i at e due is picked) = (message_sent B E h b i e _ (position_at b.ledgers i) k due.2, tt)
offers_sends B E h b n q k (Offers.SkipsMarker v i e ws due is after) = tt
offers_sends B E h b n q k (Offers.Caches v i j e c ws due is after) = tt

pub snaps_sends : (F : Out → Type 0) (h : Site) (b : Broker) (q : Plan) → Snaps h b q → Each F q.sent
snaps_sends F h b q Snaps.NothingToAsk = tt
snaps_sends F h b q (Snaps.Asks any none) = tt

pub seeks_sends : (F : Out → Type 0) (h : Site) (b : Broker) (n : List ℕ) (to : Option Position) (q : Plan) → Seeks h b n to q → Each F q.sent
seeks_sends F h b n to q Seeks.NothingToSeek = tt
seeks_sends F h b n to q (Seeks.SeeksTo v i ws named at after) = tt

pub shape_sends : (B : Type 0) (E : Entry → Type 0) (s : Setup) (w : World) (p : Planned) → Shape s w p → Stock B E (site s p.topic p.cluster) (topic_at s w p.topic p.cluster)
    → Each (SentOut B E s.clusters) p.plan.sent
unfolding restart
shape_sends B E s w p (Shape.Idle t x within) k = tt
shape_sends B E s w p (Shape.Empty t x l within next) k = tt
shape_sends B E s w p (Shape.Serve x c q plan within next served) k = served_sends B E _ _ c q plan served
shape_sends B E s w p (Shape.Drop x c v within at) k = tt
shape_sends B E s w p (Shape.Reset t x y within remote) k =
    let h = site s t x in
    (record { carried = tt; small = λ b. (let le = k.topic in omega (arith, le), link_name_short h x k.names) }, tt)
shape_sends B E s w p (Shape.Read t x y plan within reads) k = reads_sends B E (site s t x) _ y plan k reads
shape_sends B E s w p (Shape.Take t x y q plan within next taken) k =
    fated_sends (SentOut B E s.clusters) s.per_ledger _ _ (closes x) plan (λ c r t'. taken_sends B E (site s t y) c x q r k.names t') tt taken
shape_sends B E s w p (Shape.Receipt t x y q plan within next answered) k =
    fated_sends (SentOut B E s.clusters) s.per_ledger _ _ (quiet_plan []) plan (λ c r t'. answered_sends (SentOut B E s.clusters) c y q r t') tt answered
shape_sends B E s w p (Shape.Snap t x plan within snaps) k = snaps_sends (SentOut B E s.clusters) _ _ plan snaps
shape_sends B E s w p (Shape.Offer t x n plan within offers) k = offers_sends B E (site s t x) _ _ plan k offers
shape_sends B E s w p (Shape.Seek t x n to plan within seeks) k = seeks_sends (SentOut B E s.clusters) _ _ _ to plan seeks
shape_sends B E s w p (Shape.Restart t x within) k = tt
