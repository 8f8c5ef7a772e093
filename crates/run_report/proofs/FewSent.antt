-- No event of a broker sends more than two packets, as no event has more than three durable writes.
use Rattle.std.proofs.Common.{ℕ, ◌≤◌, List, [], ◌∷◌, ◌++◌, length, arith}
use Rattle.std.specs.Prelude.{Option}
use Rattle.geo_base.specs.declared.packet.Out.{Out}
use Rattle.geo_base.specs.declared.packet.Packet.{Packet}
use Rattle.geo_base.specs.declared.position.Position.{Position}
use Rattle.geo_base.specs.Broker.{Broker, Site}
use Rattle.geo_base.specs.Forwarding.{closes}
use Rattle.geo_base.specs.Plan.{Plan, quiet_plan}
use Rattle.geo_base.specs.Planned.{Planned}
use Rattle.geo_base.specs.Seeking.{restart}
use Rattle.geo_base.specs.Setup.{Setup}
use Rattle.geo_base.specs.World.{World}
use Rattle.world_laws.proofs.Walks.Shapes.{Answered, Fated, Offers, Reads, Seeks, Served, Shape, Snaps, Taken}

served_sent : (h : Site) (b : Broker) (c : ℕ) (p : Packet) (q : Plan) → Served h b c p q → length q.sent ≤ 1
served_sent h b c p q (Served.Acknowledges s id kind ps v i is ws at sent by of after) = omega arith
served_sent h b c p q (Served.Stores s id seq source e at sound new) = omega arith
served_sent h b c p q Served.Ignores = omega arith
served_sent h b c p q Served.Disconnects = omega arith
served_sent h b c p q (Served.Connects s is new) = omega arith
served_sent h b c p q (Served.Answers s f at) = omega arith
served_sent h b c p q (Served.ChangesProducers s ps f at) = omega arith
served_sent h b c p q (Served.Repeats s id seq source e at sound old) = omega arith
served_sent h b c p q (Served.Creates s topic n kind id request consumer earliest replicated at is may named) = omega arith
served_sent h b c p q (Served.Joins s topic n kind id request consumer earliest replicated v at is may named free same) = omega arith
served_sent h b c p q (Served.Alters s topic n kind id request consumer earliest replicated v at is may named free other) = omega arith
served_sent h b c p q (Served.Permits s id permits v at is by) = omega arith
served_sent h b c p q (Served.Unsubscribes s id request v at is by last) = omega arith
served_sent h b c p q (Served.ClosesConsumer s id request v at is by) = omega arith

reads_sent : (h : Site) (b : Broker) (y : ℕ) (q : Plan) → Reads h b y q → length q.sent ≤ 1
reads_sent h b y q Reads.NothingToRead = omega arith
reads_sent h b y q (Reads.Forwards i e next out) = omega arith
reads_sent h b y q (Reads.Skips i e next other) = omega arith
reads_sent h b y q (Reads.Responds i e id source next of is) = omega arith
reads_sent h b y q (Reads.Counts i e id answer u u' next is heard) = omega arith
reads_sent h b y q (Reads.AsksAgain i e id answer u u' next is heard) = omega arith
reads_sent h b y q (Reads.Completes i e id answer u u' next is heard) = omega arith
reads_sent h b y q (Reads.CreatesAt i j e n remote next is named) = omega arith
reads_sent h b y q (Reads.ActsOnUpdate i j e n remote v ws next is named after) = omega arith

offers_sent : (h : Site) (b : Broker) (n : List ℕ) (q : Plan) → Offers h b n q → length q.sent ≤ 1
offers_sent h b n q Offers.NothingToOffer = omega arith
offers_sent h b n q (Offers.Gives v i at e due is picked) = omega arith
offers_sent h b n q (Offers.SkipsMarker v i e ws due is after) = omega arith
offers_sent h b n q (Offers.Caches v i j e c ws due is after) = omega arith

seeks_sent : (h : Site) (b : Broker) (n : List ℕ) (to : Option Position) (q : Plan) → Seeks h b n to q → length q.sent ≤ 1
seeks_sent h b n to q Seeks.NothingToSeek = omega arith
seeks_sent h b n to q (Seeks.SeeksTo v i ws named at after) = omega arith

snaps_sent : (h : Site) (b : Broker) (q : Plan) → Snaps h b q → length q.sent ≤ 1
snaps_sent h b q Snaps.NothingToAsk = omega arith
snaps_sent h b q (Snaps.Asks any none) = omega arith

taken_sent : (h : Site) (b : Broker) (x : ℕ) (p : Packet) (q : Plan) → Taken h b x p q → length q.sent ≤ 1
taken_sent h b x p q (Taken.Stores id seq source e is at may new) = omega arith
taken_sent h b x p q (Taken.Unreadable is) = omega arith
taken_sent h b x p q (Taken.Opens topic id request name is opening) = omega arith
taken_sent h b x p q (Taken.Discards other shut) = omega arith
taken_sent h b x p q (Taken.Refuses other at may) = omega arith
taken_sent h b x p q (Taken.Repeats id seq source e is at may old) = omega arith

answered_sent : (b : Broker) (y : ℕ) (p : Packet) (q : Plan) → Answered b y p q → length q.sent ≤ 1
answered_sent b y p q (Answered.Stale other) = omega arith
answered_sent b y p q (Answered.Other at other) = omega arith
answered_sent b y p q (Answered.Opened request name at is state) = omega arith
answered_sent b y p q (Answered.OpenBefore request name at is state) = omega arith
answered_sent b y p q (Answered.ClosedBefore request name at is state) = omega arith
answered_sent b y p q (Answered.Received id n i position at is pending) = omega arith
answered_sent b y p q (Answered.ReceivedBefore id n position at is pending) = omega arith

both_sent : (os us : List Out) → length os ≤ 1 → length us ≤ 1 → length (os ++ us) ≤ 2
both_sent [] us h k = omega (arith, k)
both_sent (o ∷ []) us h k = omega (arith, k)
both_sent (o ∷ u ∷ os) us h k = absurd (omega (arith, h))

fated_sent : (per : ℕ) (b : Broker) (Acts : Broker → Plan → Type 0) (lost q : Plan) → ((c : Broker) (r : Plan) → Acts c r → length r.sent ≤ 1) → length lost.sent ≤ 1
    → Fated per b Acts lost q → length q.sent ≤ 2
fated_sent per b Acts lost q acts none (Fated.Once r t) = let h = acts b r t in omega (arith, h)
fated_sent per b Acts lost q acts none Fated.Lost = omega (arith, none)
fated_sent per b Acts lost q acts none (Fated.Twice r r' t t') = both_sent r.sent r'.sent (acts b r t) (acts _ r' t')

more : (os : List Out) → length os ≤ 1 → length os ≤ 2
more os h = omega (arith, h)

pub shape_sent : (s : Setup) (w : World) (p : Planned) → Shape s w p → length p.plan.sent ≤ 2
unfolding restart
shape_sent s w p (Shape.Idle t x within) = omega arith
shape_sent s w p (Shape.Empty t x k within next) = omega arith
shape_sent s w p (Shape.Serve x c q plan within next served) = more plan.sent (served_sent _ _ c q plan served)
shape_sent s w p (Shape.Drop x c v within at) = omega arith
shape_sent s w p (Shape.Reset t x y within remote) = omega arith
shape_sent s w p (Shape.Read t x y plan within reads) = more plan.sent (reads_sent _ _ y plan reads)
shape_sent s w p (Shape.Take t x y q plan within next taken) = fated_sent s.per_ledger _ _ (closes x) plan (λ c r h. taken_sent _ c x q r h) (omega arith) taken
shape_sent s w p (Shape.Receipt t x y q plan within next answered) = fated_sent s.per_ledger _ _ (quiet_plan []) plan (λ c r h. answered_sent c y q r h) (omega arith) answered
shape_sent s w p (Shape.Snap t x plan within snaps) = more plan.sent (snaps_sent _ _ plan snaps)
shape_sent s w p (Shape.Offer t x n plan within offers) = more plan.sent (offers_sent _ _ _ plan offers)
shape_sent s w p (Shape.Seek t x n to plan within seeks) = more plan.sent (seeks_sent _ _ _ to plan seeks)
shape_sent s w p (Shape.Restart t x within) = omega arith
