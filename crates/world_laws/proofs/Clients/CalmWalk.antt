-- Each plan of a broker is calm towards client c, or gives what its subscription lacks to a consumer that was picked. m is at least the
-- number of c's last connection, d is what c is declared as.
use Rattle.std.proofs.Common.{◌≡◌, ℕ, ◌≤◌, true, false, List, [], ◌∷◌, length, refl, sym, ap, subst}
use Rattle.std.specs.Prelude.{Option, Some, not, slice_get}
use Rattle.std.proofs.lemmas.Bool.{eqb-true}
use Rattle.world_laws.proofs.Types.{Entry, Frame, Packet, Position, Session}
use Rattle.world_laws.proofs.Types.change
use Rattle.world_laws.proofs.Types.frame
use Rattle.world_laws.proofs.Types.line
use Rattle.geo_base.specs.Broker.{Broker, Site, sub_named}
use Rattle.geo_base.specs.Cursor.{has}
use Rattle.geo_base.specs.Dispatcher.{consumer_at, least_due, pick}
use Rattle.geo_base.specs.Entry.{key_bytes}
use Rattle.geo_base.specs.Forwarding.{closes}
use Rattle.geo_base.specs.Offering.{message}
use Rattle.geo_base.specs.Plan.{Plan, done, plan_of, quiet_plan}
use Rattle.geo_base.specs.Planned.{Planned}
use Rattle.geo_base.specs.Safe.{IsEntry}
use Rattle.geo_base.specs.Seeking.{restart}
use Rattle.geo_base.specs.Setup.{Declared, Setup, declared_at}
use Rattle.geo_base.specs.Subscription.{Subscription}
use Rattle.geo_base.specs.World.{ToBroker, World, link_at, site, topic_at}
use Rattle.geo_base.specs.Link.{next_packet}
use Rattle.world_laws.proofs.Replicating.Effects.{Each, each_both}
use Rattle.world_laws.proofs.Dispatching.Remembers.{least_due_is}
use Rattle.world_laws.proofs.Walks.Shapes.{Answered, Fated, InSession, IsReply, Offers, Reads, Seeks, Served, Shape, Snaps, Taken}
use Rattle.world_laws.proofs.Dispatching.SubFrames.{each_at_place}
use Rattle.world_laws.specs.SubLines.{IsSubLine}
use Rattle.world_laws.proofs.Clients.Consumers.{IsCalm, IsCalmChange, IsCalmOut, IsQuiet}
pub use Rattle.geo_base.proofs.Bools.{unless_false as undue}

-- a SUBSCRIBE is that of the sub line of its id
abbrev pub IsNamed : Declared → Frame → Type 0
IsNamed d (frame.Subscribe topic n kind id request consumer earliest replicated) = slice_get d.lines id ≡ Some (line.Sub n kind earliest replicated)
IsNamed d f = Unit {0}

-- what c sends is of a connection that is not above m
pub record IsSentBy (m : ℕ) (d : Declared) (session : ℕ) (f : Frame) : Type 0 where
  pub below : session ≤ m
  pub named : IsNamed d f

-- a plan
pub data Acts (t c m : ℕ) (d : Declared) (h : Site) (b : Broker) : Plan → Type 0 where
  Calmly : (p : Plan) → IsCalm t c m d p → Acts t c m d h b p
  Giving : (n : List ℕ) (v : Subscription) (i at : ℕ) (e : Entry) → sub_named b.subs n ≡ Some v → least_due v (length b.entries) ≡ Some i → has v.cursor i ≡ false → IsEntry b i e
      → pick v.kind v.consumers (key_bytes e.meta.key) ≡ Some at
      → Acts t c m d h b (plan_of [] (change.Given v.name i at ∷ []) (message h b i e (consumer_at v.consumers at)))

calm : (t c m : ℕ) (d : Declared) (p : Plan) → Each (IsCalmChange t c d m) p.changes → Each (IsCalmOut c m) p.sent → IsCalm t c m d p
calm t c m d p k o = record { changes = k; sent = o }

pub reply_quiet : (f : Frame) → IsReply f → IsQuiet f
reply_quiet (frame.ProducerSuccess request n) h = tt
reply_quiet (frame.Error request code) h = tt
reply_quiet (frame.Success request) h = tt
reply_quiet (frame.SendError id seq code) h = tt
reply_quiet frame.Pong h = tt
reply_quiet f h = absurd h

-- the session of a packet of client z
number_is : (b : Broker) (z : ℕ) (p : Packet) (s : Session) → InSession b z p s → s.number ≡ p.session
number_is b z p s at = eqb-true s.number p.session at.1

abbrev From : ℕ → ℕ → Declared → ℕ → Packet → Type 0
From c m d z p = z ≡ c → IsSentBy m d p.session p.frame

served_calm : (t c m : ℕ) (d : Declared) (h : Site) (b : Broker) (z : ℕ) (p : Packet) (q : Plan) → From c m d z p → (z ≡ c → t ≡ d.topic) → Served h b z p q → IsCalm t c m d q
served_calm t c m d h b z p q from topic served = by q served
  where
    le : (s : Session) → s.number ≡ p.session → z ≡ c → s.number ≤ m
    le s is e = subst (λ (k : ℕ). k ≤ m) (sym is) (from e).below

    made : (topic n : List ℕ) (kind : _) (id request : ℕ) (consumer : Option (List ℕ)) (earliest replicated : _) → p.frame ≡ frame.Subscribe topic n kind id request consumer earliest replicated
        → z ≡ c → IsSubLine d id n × (t ≡ d.topic)
    made name n kind id request consumer earliest replicated is e = ((line.Sub n kind earliest replicated, subst (IsNamed d) is (from e).named, refl), topic e)

    by : (q : Plan) → Served h b z p q → IsCalm t c m d q
    by q Served.Ignores = calm t c m d q tt tt
    by q Served.Disconnects = calm t c m d q (tt, (tt, tt)) tt
    by q (Served.Connects s is new) = let n = ap (λ (v : Session). v.number) new in calm t c m d q (tt, (le s n, tt)) ((λ e. (le s n e, tt)), tt)
    by q (Served.Answers s f at) = calm t c m d q tt ((λ e. (le s (number_is b z p s at.0) e, reply_quiet f at.1)), tt)
    by q (Served.ChangesProducers s ps f at) = calm t c m d q (le s (number_is b z p s at.0), tt) ((λ e. (le s (number_is b z p s at.0) e, reply_quiet f at.1)), tt)
    by q (Served.Stores s id seq source e at sound new) = calm t c m d q tt ((λ e'. (le s (number_is b z p s at) e', tt)), tt)
    by q (Served.Repeats s id seq source e at sound old) = calm t c m d q tt ((λ e'. (le s (number_is b z p s at) e', tt)), tt)
    by q (Served.Creates s name n kind id request consumer earliest replicated at is may absent) =
        calm t c m d q (made name n kind id request consumer earliest replicated is, tt) ((λ e. (le s (number_is b z p s at) e, tt)), tt)
    by q (Served.Joins s name n kind id request consumer earliest replicated v at is may found free same) =
        calm t c m d q (made name n kind id request consumer earliest replicated is, tt) ((λ e. (le s (number_is b z p s at) e, tt)), tt)
    by q (Served.Alters s name n kind id request consumer earliest replicated v at is may found free other) =
        calm t c m d q (made name n kind id request consumer earliest replicated is, tt) ((λ e. (le s (number_is b z p s at) e, tt)), tt)
    by q (Served.Permits s id permits v at is of) = calm t c m d q (tt, tt) tt
    by q (Served.Acknowledges s id kind ps v i is ws at sent of some after) = calm t c m d q (tt, tt) tt
    by q (Served.Unsubscribes s id request v at is of last) = calm t c m d q tt ((λ e. (le s (number_is b z p s at) e, tt)), tt)
    by q (Served.ClosesConsumer s id request v at is of) = calm t c m d q (tt, tt) ((λ e. (le s (number_is b z p s at) e, tt)), tt)

taken_calm : (t c m : ℕ) (d : Declared) (h : Site) (b : Broker) (x : ℕ) (p : Packet) (q : Plan) → Taken h b x p q → IsCalm t c m d q
taken_calm t c m d h b x p q (Taken.Unreadable is) = calm t c m d q (tt, tt) tt
taken_calm t c m d h b x p q (Taken.Opens topic id request name is opening) = calm t c m d q (tt, tt) (tt, tt)
taken_calm t c m d h b x p q (Taken.Discards other shut) = calm t c m d q tt tt
taken_calm t c m d h b x p q (Taken.Refuses other at may) = calm t c m d q (tt, tt) tt
taken_calm t c m d h b x p q (Taken.Stores id seq source e is at may new) = calm t c m d q tt (tt, tt)
taken_calm t c m d h b x p q (Taken.Repeats id seq source e is at may old) = calm t c m d q tt (tt, tt)

answered_calm : (t c m : ℕ) (d : Declared) (b : Broker) (y : ℕ) (p : Packet) (q : Plan) → Answered b y p q → IsCalm t c m d q
answered_calm t c m d b y p q (Answered.Stale other) = calm t c m d q tt tt
answered_calm t c m d b y p q (Answered.Other at other) = calm t c m d q tt tt
answered_calm t c m d b y p q (Answered.Opened request name at is state) = calm t c m d q (tt, tt) tt
answered_calm t c m d b y p q (Answered.OpenBefore request name at is state) = calm t c m d q tt tt
answered_calm t c m d b y p q (Answered.ClosedBefore request name at is state) = calm t c m d q tt tt
answered_calm t c m d b y p q (Answered.Received id n i position at is pending) = calm t c m d q (tt, tt) tt
answered_calm t c m d b y p q (Answered.ReceivedBefore id n position at is pending) = calm t c m d q tt tt

fated_calm : (t c m : ℕ) (d : Declared) (per : ℕ) (b : Broker) (Does : Broker → Plan → Type 0) (lost q : Plan) → ((e : Broker) (p : Plan) → Does e p → IsCalm t c m d p) → IsCalm t c m d lost
    → Fated per b Does lost q → IsCalm t c m d q
fated_calm t c m d per b Does lost q f l (Fated.Once p a) = f b p a
fated_calm t c m d per b Does lost q f l Fated.Lost = l
fated_calm t c m d per b Does lost q f l (Fated.Twice p p' a a') =
    let r = f b p a in let r' = f (done per b p) p' a' in
    calm t c m d q (each_both (IsCalmChange t c d m) p.changes p'.changes r.changes r'.changes) (each_both (IsCalmOut c m) p.sent p'.sent r.sent r'.sent)

reads_calm : (t c m : ℕ) (d : Declared) (h : Site) (b : Broker) (y : ℕ) (q : Plan) → Reads h b y q → IsCalm t c m d q
reads_calm t c m d h b y q Reads.NothingToRead = calm t c m d q tt tt
reads_calm t c m d h b y q (Reads.Forwards i e next out) = calm t c m d q (tt, tt) (tt, tt)
reads_calm t c m d h b y q (Reads.Skips i e next other) = calm t c m d q (tt, tt) tt
reads_calm t c m d h b y q (Reads.Responds i e id source next of is) = calm t c m d q (tt, tt) tt
reads_calm t c m d h b y q (Reads.Counts i e id answer u u' next is heard) = calm t c m d q (tt, (tt, tt)) tt
reads_calm t c m d h b y q (Reads.AsksAgain i e id answer u u' next is heard) = calm t c m d q (tt, (tt, tt)) tt
reads_calm t c m d h b y q (Reads.Completes i e id answer u u' next is heard) = calm t c m d q (tt, (tt, tt)) tt
reads_calm t c m d h b y q (Reads.CreatesAt i j e n remote next is absent) = calm t c m d q (tt, (tt, tt)) tt
reads_calm t c m d h b y q (Reads.ActsOnUpdate i j e n remote v ws next is found after) = calm t c m d q (tt, (tt, tt)) tt

snaps_calm : (t c m : ℕ) (d : Declared) (h : Site) (b : Broker) (q : Plan) → Snaps h b q → IsCalm t c m d q
snaps_calm t c m d h b q Snaps.NothingToAsk = calm t c m d q tt tt
snaps_calm t c m d h b q (Snaps.Asks any none) = calm t c m d q (tt, tt) tt

seeks_calm : (t c m : ℕ) (d : Declared) (h : Site) (b : Broker) (n : List ℕ) (to : Option Position) (q : Plan) → Seeks h b n to q → IsCalm t c m d q
seeks_calm t c m d h b n to q Seeks.NothingToSeek = calm t c m d q tt tt
seeks_calm t c m d h b n to q (Seeks.SeeksTo v i ws named at after) = calm t c m d q (tt, tt) tt

offers_act : (t c m : ℕ) (d : Declared) (h : Site) (b : Broker) (n : List ℕ) (q : Plan) → Offers h b n q → Acts t c m d h b q
offers_act t c m d h b n q Offers.NothingToOffer = Acts.Calmly q (calm t c m d q tt tt)
offers_act t c m d h b n q (Offers.Gives v i at e due is picked) =
    let least = least_due_is v 0 (length b.entries) i due.1 in Acts.Giving n v i at e due.0 due.1 (undue (has v.cursor i) _ least.due) due.2 picked
offers_act t c m d h b n q (Offers.SkipsMarker v i e ws due is after) = Acts.Calmly q (calm t c m d q (tt, (tt, tt)) tt)
offers_act t c m d h b n q (Offers.Caches v i j e x ws due is after) = Acts.Calmly q (calm t c m d q (tt, (tt, (tt, tt))) tt)

-- what c's link to each cluster of its topic has
abbrev pub AllFrom : Setup → World → ℕ → ℕ → Type 0
AllFrom s w c m = (x : ℕ) → Each (λ (p : Packet). IsSentBy m (declared_at s c) p.session p.frame) (link_at w.links (ToBroker c x)).sent

pub shape_acts : (s : Setup) (w : World) (c m : ℕ) (p : Planned) → AllFrom s w c m → Shape s w p
    → Acts p.topic c m (declared_at s c) (site s p.topic p.cluster) (topic_at s w p.topic p.cluster) p.plan
unfolding restart
shape_acts s w c m p all (Shape.Idle t x within) = Acts.Calmly _ (calm t c m (declared_at s c) _ tt tt)
shape_acts s w c m p all (Shape.Empty t x k within next) = Acts.Calmly _ (calm t c m (declared_at s c) _ tt tt)
shape_acts s w c m p all (Shape.Serve x z q plan within next served) =
    let d = declared_at s c in
    Acts.Calmly plan (served_calm (declared_at s z).topic c m d _ _ z q plan
    (λ same. each_at_place (λ (a : Packet). IsSentBy m d a.session a.frame) (link_at w.links (ToBroker c x)).sent (link_at w.links (ToBroker c x)).taken q (all x)
    (subst (λ (k : ℕ). next_packet (link_at w.links (ToBroker k x)) ≡ Some q) same next))
    (λ same. ap (λ (k : ℕ). (declared_at s k).topic) same) served)
shape_acts s w c m p all (Shape.Drop x z v within at) = Acts.Calmly _ (calm _ c m (declared_at s c) _ (tt, (tt, tt)) tt)
shape_acts s w c m p all (Shape.Reset t x y within remote) = Acts.Calmly _ (calm t c m (declared_at s c) _ (tt, tt) (tt, tt))
shape_acts s w c m p all (Shape.Read t x y plan within reads) = Acts.Calmly plan (reads_calm t c m (declared_at s c) _ _ y plan reads)
shape_acts s w c m p all (Shape.Take t x y q plan within next taken) =
    let d = declared_at s c in
    Acts.Calmly plan (fated_calm t c m d s.per_ledger _ _ (closes x) plan (λ b r k. taken_calm t c m d (site s t y) b x q r k) (calm t c m d (closes x) (tt, tt) tt) taken)
shape_acts s w c m p all (Shape.Receipt t x y q plan within next answered) =
    let d = declared_at s c in
    Acts.Calmly plan (fated_calm t c m d s.per_ledger _ _ (quiet_plan []) plan (λ b r k. answered_calm t c m d b y q r k) (calm t c m d (quiet_plan []) tt tt) answered)
shape_acts s w c m p all (Shape.Snap t x plan within snaps) = Acts.Calmly plan (snaps_calm t c m (declared_at s c) _ _ plan snaps)
shape_acts s w c m p all (Shape.Offer t x n plan within offers) = offers_act t c m (declared_at s c) (site s t x) (topic_at s w t x) _ plan offers
shape_acts s w c m p all (Shape.Seek t x n to plan within seeks) = Acts.Calmly plan (seeks_calm t c m (declared_at s c) _ _ _ to plan seeks)
shape_acts s w c m p all (Shape.Restart t x within) = Acts.Calmly _ (calm t c m (declared_at s c) _ (tt, tt) tt)
