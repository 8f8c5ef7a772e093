-- Every plan of a broker leaves what is out with whom it was sent to: one lemma for each shape.
use Rattle.std.proofs.Common.{◌≡◌, ℕ, ◌+◌, Bool, true, false, List, [], ◌∷◌, refl, not}
use Rattle.std.specs.Prelude.{Option, Some, None, ◌||◌}
use Rattle.world_laws.proofs.Types.{Entry, Packet, Position, SubKind, Write}
use Rattle.world_laws.proofs.Types.change
use Rattle.world_laws.proofs.Types.frame
use Rattle.world_laws.proofs.Types.sub_kind
use Rattle.world_laws.proofs.Types.write
use Rattle.geo_base.specs.Broker.{Broker, Site, written}
use Rattle.geo_base.specs.Dispatcher.{consumer_at, pick}
use Rattle.geo_base.specs.Entry.{key_bytes}
use Rattle.geo_base.specs.Forwarding.{closes}
use Rattle.geo_base.specs.Plan.{Plan, done, plan_of, quiet_plan}
use Rattle.geo_base.specs.Planned.{Planned}
use Rattle.geo_base.specs.Seeking.{restart}
use Rattle.geo_base.specs.Setup.{Setup, declared_at}
use Rattle.geo_base.specs.Subscribing.{same_kind}
use Rattle.geo_base.specs.Subscription.{Subscription}
use Rattle.geo_base.specs.Updating.{updated_indexes}
use Rattle.geo_base.specs.Link.{next_packet}
use Rattle.geo_base.specs.Offering.{message}
use Rattle.geo_base.specs.World.{ToBroker, World, link_at, site, topic_at}
use Rattle.world_laws.proofs.Replicating.Effects.{Each, each_both, each_map}
use Rattle.world_laws.proofs.Walks.Shapes.{Answered, Fated, IsLeastDue, Offers, Reads, Seeks, Served, Shape, Snaps, Taken, Updates}
use Rattle.world_laws.proofs.Dispatching.SubFrames.{AllSubs, NamesApart}
use Rattle.world_laws.proofs.Walks.Walk.{left}
use Rattle.consumer_laws.proofs.Subscriptions.Plans.{CalmWrite, EasyChange, EasyWrite, KeepsSessions, altered_done, calm_easy, created_done, easy_done, forgotten_numbers, free_is, gave_done, joined_done, kept_numbers, left_numbers, made_done, numbers, producer_numbers}
use Rattle.consumer_laws.proofs.Subscriptions.WhatIsOut.{GivenTo, Makes, SameNumbers, SubFact, kind_is}

-- what a plan leaves: the facts in the sessions before, and as many sessions of those to whom something is out
pub record HeadsDone (mine : Makes) (es : List Entry) (sent : ℕ → List Packet) (per : ℕ) (b : Broker) (p : Plan) : Type 0 where
  pub facts : AllSubs (SubFact mine es (numbers b) sent) (done per b p)
  pub numbers_same : AllSubs (SameNumbers (numbers b) (numbers (done per b p))) (done per b p)

abbrev Before : Makes → List Entry → (ℕ → List Packet) → Broker → Type 0
Before mine es sent b = AllSubs (SubFact mine es (numbers b) sent) b

easy : (mine : Makes) (es : List Entry) (sent : ℕ → List Packet) (per : ℕ) (b : Broker) (p : Plan) → Each EasyWrite p.writes → Each EasyChange p.changes → Each KeepsSessions p.changes
    → Before mine es sent b → HeadsDone mine es sent per b p
easy mine es sent per b p ws cs ks h = record { facts = easy_done mine es (numbers b) sent per b p (record { writes = ws; changes = cs }) h; numbers_same = kept_numbers per b p ks }

pub updates_easy : (h : Site) (b : Broker) (v : Subscription) (ws : List Write) → Updates h b v ws → Each EasyWrite ws
updates_easy h b v ws Updates.NoUpdate = tt
updates_easy h b v ws (Updates.Update cut replicated passed) = (tt, tt)

-- who subscribes may
abbrev pub Joins : Makes → ℕ → Packet → Type 0
Joins mine c p = (topic n : List ℕ) (kind : SubKind) (id request : ℕ) (consumer : Option (List ℕ)) (earliest replicated : Bool)
    → p.frame ≡ frame.Subscribe topic n kind id request consumer earliest replicated → mine n kind c id

served_heads : (mine : Makes) (es : List Entry) (sent : ℕ → List Packet) (per : ℕ) (h : Site) (b : Broker) (c : ℕ) (p : Packet) (q : Plan) → Served h b c p q → Joins mine c p
    → NamesApart b.subs → Before mine es sent b → HeadsDone mine es sent per b q
served_heads mine es sent per h b c p q Served.Ignores joins apart f = easy mine es sent per b q tt tt tt f
served_heads mine es sent per h b c p q Served.Disconnects joins apart f =
    record { facts = easy_done mine es (numbers b) sent per b q (record { writes = tt; changes = (tt, (tt, tt)) }) f; numbers_same = left_numbers per b c None [] }
served_heads mine es sent per h b c p q (Served.Connects s is new) joins apart f =
    record { facts = easy_done mine es (numbers b) sent per b q (record { writes = tt; changes = (tt, (tt, tt)) }) f; numbers_same = left_numbers per b c (Some s) q.sent }
served_heads mine es sent per h b c p q (Served.Answers s a at) joins apart f = easy mine es sent per b q tt tt tt f
served_heads mine es sent per h b c p q (Served.ChangesProducers s ps a at) joins apart f = record {
  facts = easy_done mine es (numbers b) sent per b q (record { writes = tt; changes = (tt, tt) }) f;
  numbers_same = producer_numbers per b c s (record { number = s.number; producers = ps }) q.sent at.0.0 refl;
}
served_heads mine es sent per h b c p q (Served.Stores s id seq source e at sound new) joins apart f = easy mine es sent per b q (tt, tt) tt tt f
served_heads mine es sent per h b c p q (Served.Repeats s id seq source e at sound old) joins apart f = easy mine es sent per b q tt tt tt f
served_heads mine es sent per h b c p q (Served.Creates s topic n kind id request consumer earliest replicated at is may named) joins apart f = record {
  facts = made_done mine es (numbers b) sent per b n kind replicated (not earliest) (record { client = c; id = id; permits = 0 }) q.sent
      (joins topic n kind id request consumer earliest replicated is) named f;
  numbers_same = kept_numbers per b q (tt, tt);
}
served_heads mine es sent per h b c p q (Served.Joins s topic n kind id request consumer earliest replicated v at is may named free same) joins apart f = record {
  facts = joined_done mine es (numbers b) sent per b n kind (record { client = c; id = id; permits = 0 }) v q.sent
      (joins topic n kind id request consumer earliest replicated is) apart named (kind_is kind v.kind (left (same_kind kind v.kind) _ same)) f;
  numbers_same = kept_numbers per b q (tt, tt);
}
served_heads mine es sent per h b c p q (Served.Alters s topic n kind id request consumer earliest replicated v at is may named free other) joins apart f = record {
  facts = altered_done mine es (numbers b) sent per b n kind (v.replicated || replicated) (record { client = c; id = id; permits = 0 }) v q.sent
      (joins topic n kind id request consumer earliest replicated is) apart named (free_is kind v free) f;
  numbers_same = kept_numbers per b q (tt, tt);
}
served_heads mine es sent per h b c p q (Served.Permits s id permits v at is by) joins apart f = easy mine es sent per b q tt (tt, tt) (tt, tt) f
served_heads mine es sent per h b c p q (Served.Acknowledges s id kind ps v i is ws at sent' by of after) joins apart f =
    easy mine es sent per b q (tt, updates_easy h b _ ws after) (tt, tt) (tt, tt) f
served_heads mine es sent per h b c p q (Served.Unsubscribes s id request v at is by last) joins apart f = easy mine es sent per b q (tt, tt) tt tt f
served_heads mine es sent per h b c p q (Served.ClosesConsumer s id request v at is by) joins apart f = easy mine es sent per b q tt (tt, tt) (tt, tt) f

-- plans that touch no subscription and no session
pub record IsApart (p : Plan) : Type 0 where
  pub writes : Each CalmWrite p.writes
  pub changes : Each EasyChange p.changes
  pub sessions : Each KeepsSessions p.changes

pub taken_apart : (h : Site) (b : Broker) (x : ℕ) (p : Packet) (q : Plan) → Taken h b x p q → IsApart q
taken_apart h b x p q (Taken.Unreadable is) = record { writes = tt; changes = (tt, tt); sessions = (tt, tt) }
taken_apart h b x p q (Taken.Opens topic id request name is opening) = record { writes = tt; changes = (tt, tt); sessions = (tt, tt) }
taken_apart h b x p q (Taken.Discards other shut) = record { writes = tt; changes = tt; sessions = tt }
taken_apart h b x p q (Taken.Refuses other at may) = record { writes = tt; changes = (tt, tt); sessions = (tt, tt) }
taken_apart h b x p q (Taken.Stores id seq source e is at may new) = record { writes = (tt, tt); changes = tt; sessions = tt }
taken_apart h b x p q (Taken.Repeats id seq source e is at may old) = record { writes = tt; changes = tt; sessions = tt }

pub answered_apart : (b : Broker) (y : ℕ) (p : Packet) (q : Plan) → Answered b y p q → IsApart q
answered_apart b y p q (Answered.Stale other) = record { writes = tt; changes = tt; sessions = tt }
answered_apart b y p q (Answered.Other at other) = record { writes = tt; changes = tt; sessions = tt }
answered_apart b y p q (Answered.Opened request name at is state) = record { writes = tt; changes = (tt, tt); sessions = (tt, tt) }
answered_apart b y p q (Answered.OpenBefore request name at is state) = record { writes = tt; changes = tt; sessions = tt }
answered_apart b y p q (Answered.ClosedBefore request name at is state) = record { writes = tt; changes = tt; sessions = tt }
answered_apart b y p q (Answered.Received id n i position at is pending) = record { writes = (tt, tt); changes = (tt, tt); sessions = (tt, tt) }
answered_apart b y p q (Answered.ReceivedBefore id n position at is pending) = record { writes = tt; changes = tt; sessions = tt }

pub fated_apart : (per : ℕ) (b : Broker) (Acts : Broker → Plan → Type 0) (lost q : Plan) → ((c : Broker) (p : Plan) → Acts c p → IsApart p) → IsApart lost → Fated per b Acts lost q → IsApart q
fated_apart per b Acts lost q f l (Fated.Once p a) = f b p a
fated_apart per b Acts lost q f l Fated.Lost = l
fated_apart per b Acts lost q f l (Fated.Twice p p' a a') =
    let one = f b p a in let two = f (done per b p) p' a' in
    record {
      writes = each_both CalmWrite p.writes p'.writes one.writes two.writes;
      changes = each_both EasyChange p.changes p'.changes one.changes two.changes;
      sessions = each_both KeepsSessions p.changes p'.changes one.sessions two.sessions;
    }

apart_heads : (mine : Makes) (es : List Entry) (sent : ℕ → List Packet) (per : ℕ) (b : Broker) (q : Plan) → IsApart q → Before mine es sent b → HeadsDone mine es sent per b q
apart_heads mine es sent per b q a f = easy mine es sent per b q (each_map CalmWrite EasyWrite (λ w c. calm_easy w c) q.writes a.writes) a.changes a.sessions f

reads_heads : (mine : Makes) (es : List Entry) (sent : ℕ → List Packet) (per : ℕ) (h : Site) (b : Broker) (y : ℕ) (q : Plan) → Reads h b y q → Before mine es sent b → HeadsDone mine es sent per b q
reads_heads mine es sent per h b y q Reads.NothingToRead f = easy mine es sent per b q tt tt tt f
reads_heads mine es sent per h b y q (Reads.Forwards i e next out) f = easy mine es sent per b q tt (tt, tt) (tt, tt) f
reads_heads mine es sent per h b y q (Reads.Skips i e next other) f = easy mine es sent per b q (tt, tt) (tt, tt) (tt, tt) f
reads_heads mine es sent per h b y q (Reads.Responds i e id source next of is) f = easy mine es sent per b q (tt, (tt, tt)) (tt, tt) (tt, tt) f
reads_heads mine es sent per h b y q (Reads.Counts i e id answer u u' next is heard) f = easy mine es sent per b q (tt, tt) (tt, (tt, tt)) (tt, (tt, tt)) f
reads_heads mine es sent per h b y q (Reads.AsksAgain i e id answer u u' next is heard) f = easy mine es sent per b q (tt, (tt, tt)) (tt, (tt, tt)) (tt, (tt, tt)) f
reads_heads mine es sent per h b y q (Reads.Completes i e id answer u u' next is heard) f = easy mine es sent per b q (tt, (tt, tt)) (tt, (tt, tt)) (tt, (tt, tt)) f
reads_heads mine es sent per h b y q (Reads.CreatesAt i j e n remote next is named) f =
    let rest = plan_of (write.Acks n (updated_indexes y 0 (j + 1) b.entries) ∷ write.ReplicatorAck y i ∷ []) (change.Acked n ∷ change.ReadTo y (i + 1) ∷ []) [] in record {
      facts = created_done mine es (numbers b) sent per b n sub_kind.Exclusive true false rest (record { writes = (tt, (tt, tt)); changes = (tt, (tt, tt)) }) f;
      numbers_same = kept_numbers per b q (tt, (tt, tt));
    }
reads_heads mine es sent per h b y q (Reads.ActsOnUpdate i j e n remote v ws next is named after) f =
    easy mine es sent per b q (tt, each_both EasyWrite ws (write.ReplicatorAck y i ∷ []) (updates_easy h b _ ws after) (tt, tt)) (tt, (tt, tt)) (tt, (tt, tt)) f

snaps_heads : (mine : Makes) (es : List Entry) (sent : ℕ → List Packet) (per : ℕ) (h : Site) (b : Broker) (q : Plan) → Snaps h b q → Before mine es sent b → HeadsDone mine es sent per b q
snaps_heads mine es sent per h b q Snaps.NothingToAsk f = easy mine es sent per b q tt tt tt f
snaps_heads mine es sent per h b q (Snaps.Asks any none) f = easy mine es sent per b q (tt, tt) (tt, tt) (tt, tt) f

-- what is given was sent
abbrev pub GivesSent : List Entry → (ℕ → List Packet) → Site → Broker → Plan → Type 0
GivesSent es sent h b q = (n : List ℕ) (v : Subscription) (i at : ℕ) (e : Entry) → IsLeastDue b n v i e → pick v.kind v.consumers (key_bytes e.meta.key) ≡ Some at
    → q ≡ plan_of [] (change.Given v.name i at ∷ []) (message h b i e (consumer_at v.consumers at))
    → GivenTo es (numbers b (consumer_at v.consumers at).client) (sent (consumer_at v.consumers at).client) (consumer_at v.consumers at).id i

offers_heads : (mine : Makes) (es : List Entry) (sent : ℕ → List Packet) (per : ℕ) (h : Site) (b : Broker) (n : List ℕ) (q : Plan) → Offers h b n q → GivesSent es sent h b q → NamesApart b.subs
    → Before mine es sent b → HeadsDone mine es sent per b q
offers_heads mine es sent per h b n q Offers.NothingToOffer gives apart f = easy mine es sent per b q tt tt tt f
offers_heads mine es sent per h b n q (Offers.Gives v i at e due is picked) gives apart f = record {
  facts = gave_done mine es (numbers b) sent per b n i at v (key_bytes e.meta.key) q.sent apart due.0 picked (gives n v i at e due picked refl) f;
  numbers_same = kept_numbers per b q (tt, tt);
}
offers_heads mine es sent per h b n q (Offers.SkipsMarker v i e ws due is after) gives apart f = easy mine es sent per b q (tt, updates_easy h b _ ws after) (tt, (tt, tt)) (tt, (tt, tt)) f
offers_heads mine es sent per h b n q (Offers.Caches v i j e x ws due is after) gives apart f =
    easy mine es sent per b q (tt, updates_easy h b _ ws after) (tt, (tt, (tt, tt))) (tt, (tt, (tt, tt))) f

seeks_heads : (mine : Makes) (es : List Entry) (sent : ℕ → List Packet) (per : ℕ) (h : Site) (b : Broker) (n : List ℕ) (to : Option Position) (q : Plan) → Seeks h b n to q
    → Before mine es sent b → HeadsDone mine es sent per b q
seeks_heads mine es sent per h b n to q Seeks.NothingToSeek f = easy mine es sent per b q tt tt tt f
seeks_heads mine es sent per h b n to q (Seeks.SeeksTo v i ws named at after) f = easy mine es sent per b q (tt, updates_easy h b _ ws after) (tt, tt) (tt, tt) f

restart_heads : (mine : Makes) (es : List Entry) (sent : ℕ → List Packet) (per : ℕ) (b : Broker) → Before mine es sent b → HeadsDone mine es sent per b restart
unfolding restart
restart_heads mine es sent per b f = record {
  facts = easy_done mine es (numbers b) sent per b (plan_of (write.Ledger ∷ []) (change.Forget ∷ []) []) (record { writes = (tt, tt); changes = (tt, tt) }) f;
  numbers_same = forgotten_numbers (numbers b) _ (written per b write.Ledger);
}

pub shape_heads : (mine : Makes) (es : List Entry) (sent : ℕ → List Packet) (s : Setup) (w : World) (p : Planned) → Shape s w p
    → ((x c : ℕ) (q : Packet) → p.topic ≡ (declared_at s c).topic → p.cluster ≡ x → next_packet (link_at w.links (ToBroker c x)) ≡ Some q → Joins mine c q)
    → GivesSent es sent (site s p.topic p.cluster) (topic_at s w p.topic p.cluster) p.plan → NamesApart (topic_at s w p.topic p.cluster).subs
    → Before mine es sent (topic_at s w p.topic p.cluster) → HeadsDone mine es sent s.per_ledger (topic_at s w p.topic p.cluster) p.plan
shape_heads mine es sent s w p (Shape.Idle t x within) joins gives apart f = easy mine es sent s.per_ledger _ p.plan tt tt tt f
shape_heads mine es sent s w p (Shape.Empty t x k within next) joins gives apart f = easy mine es sent s.per_ledger _ p.plan tt tt tt f
shape_heads mine es sent s w p (Shape.Serve x c q plan within next served) joins gives apart f =
    served_heads mine es sent s.per_ledger _ _ c q plan served (joins x c q refl refl next) apart f
shape_heads mine es sent s w p (Shape.Drop x c v within at) joins gives apart f =
    let b = topic_at s w (declared_at s c).topic x in
    record { facts = easy_done mine es (numbers b) sent s.per_ledger b p.plan (record { writes = tt; changes = (tt, (tt, tt)) }) f; numbers_same = left_numbers s.per_ledger b c None [] }
shape_heads mine es sent s w p (Shape.Reset t x y within remote) joins gives apart f = easy mine es sent s.per_ledger _ p.plan (tt, tt) (tt, tt) (tt, tt) f
shape_heads mine es sent s w p (Shape.Read t x y plan within reads) joins gives apart f = reads_heads mine es sent s.per_ledger _ _ y plan reads f
shape_heads mine es sent s w p (Shape.Take t x y q plan within next taken) joins gives apart f =
    apart_heads mine es sent s.per_ledger (topic_at s w t y) plan
    (fated_apart s.per_ledger (topic_at s w t y) (λ b. Taken (site s t y) b x q) (closes x) plan (λ c r a. taken_apart (site s t y) c x q r a)
    (record { writes = tt; changes = (tt, tt); sessions = (tt, tt) }) taken) f
shape_heads mine es sent s w p (Shape.Receipt t x y q plan within next answered) joins gives apart f =
    apart_heads mine es sent s.per_ledger (topic_at s w t x) plan
    (fated_apart s.per_ledger (topic_at s w t x) (λ b. Answered b y q) (quiet_plan []) plan (λ c r a. answered_apart c y q r a)
    (record { writes = tt; changes = tt; sessions = tt }) answered) f
shape_heads mine es sent s w p (Shape.Snap t x plan within snaps) joins gives apart f = snaps_heads mine es sent s.per_ledger _ _ plan snaps f
shape_heads mine es sent s w p (Shape.Offer t x n plan within offers) joins gives apart f = offers_heads mine es sent s.per_ledger _ _ _ plan offers gives apart f
shape_heads mine es sent s w p (Shape.Seek t x n to plan within seeks) joins gives apart f = seeks_heads mine es sent s.per_ledger _ _ _ to plan seeks f
shape_heads mine es sent s w p (Shape.Restart t x within) joins gives apart f = restart_heads mine es sent s.per_ledger (topic_at s w t x) f
