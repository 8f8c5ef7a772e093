-- Every plan of a broker leaves what is sent to a consumer rising: one lemma for each shape.
use Rattle.std.proofs.Common.{◌≡◌, ℕ, ◌+◌, ◌==◌, Bool, true, false, List, [], ◌∷◌, filter, refl, sym, ap, ◌∙◌, not}
use Rattle.std.specs.Prelude.{Option, Some, None, ◌||◌, slice_index_or, slice_set}
use Rattle.std.proofs.lemmas.Bool.{eq-eqb, false≢true}
use Rattle.world_laws.proofs.Types.{Change, Consumer, Entry, Out, Packet, Position, Session, SubKind, Write}
use Rattle.world_laws.proofs.Types.change
use Rattle.world_laws.proofs.Types.frame
use Rattle.world_laws.proofs.Types.sub_kind
use Rattle.world_laws.proofs.Types.write
use Rattle.geo_base.specs.Broker.{Broker, Site, session_at, written}
use Rattle.geo_base.specs.Dispatcher.{consumer_at, pick}
use Rattle.geo_base.specs.Entry.{key_bytes}
use Rattle.geo_base.specs.Forwarding.{closes}
use Rattle.geo_base.specs.Link.{next_packet}
use Rattle.geo_base.specs.Offering.{message, number_of}
use Rattle.geo_base.specs.Plan.{Plan, all_written, done, plan_of, quiet_plan}
use Rattle.geo_base.specs.Planned.{Planned}
use Rattle.geo_base.specs.Seeking.{restart}
use Rattle.geo_base.specs.Setup.{Setup, declared_at}
use Rattle.geo_base.specs.Subscribing.{same_kind}
use Rattle.geo_base.specs.Subscription.{Subscription, detached, is_of}
use Rattle.geo_base.specs.Updating.{updated_indexes}
use Rattle.geo_base.specs.World.{ToBroker, World, link_at, site, topic_at}
use Rattle.world_laws.proofs.Dispatching.SubFrames.{AllSubs, NamesApart, each_made, forgotten_subs}
use Rattle.world_laws.proofs.Induction.Frames.{at_set}
use Rattle.world_laws.proofs.Replicating.Effects.{Each, each_both, each_map}
use Rattle.world_laws.proofs.Walks.Shapes.{Answered, InSession, IsLeastDue, MayJoin, Offers, Reads, Seeks, Served, Shape, Snaps, Taken, Updates}
use Rattle.world_laws.proofs.Walks.Walk.{left}
use Rattle.consumer_laws.proofs.Rising.Plans.{MayAttach, OutRises, alters_done, calm_done, joins_done, makes_done, new_done, sought_done}
use Rattle.consumer_laws.proofs.Subscriptions.Shapes.{IsApart, answered_apart, fated_apart, taken_apart}
use Rattle.consumer_laws.proofs.Subscriptions.Plans.{CalmWrite, EasyChange, KeepsSessions, all_changed_sessions, all_written_sessions, free_is, numbers}
use Rattle.consumer_laws.proofs.Subscriptions.WhatIsOut.{Makes, each_passed, kind_is, not_true}

-- a change that gives nothing
abbrev pub NotGiven : Change → Type 0
NotGiven (change.Given n i at) = ⊥
NotGiven ch = Unit {0}

easy_gives : (cs : List Change) → Each EasyChange cs → Each NotGiven cs
easy_gives [] h = tt
easy_gives (change.Given n i at ∷ cs) h = absurd h.0
easy_gives (change.Attach n k ∷ cs) h = absurd h.0
easy_gives (c ∷ cs) h = (tt, easy_gives cs h.1)

-- ---- numbers of sessions, of those who are attached

abbrev pub SameNumber : (ℕ → ℕ) → (ℕ → ℕ) → Subscription → Type 0
SameNumber num num' v = Each (λ (k : Consumer). num' k.client ≡ num k.client) v.consumers

one_number : (num num' : ℕ → ℕ) → ((c : ℕ) → num' c ≡ num c) → (vs : List Subscription) → Each (SameNumber num num') vs
one_number num num' same [] = tt
one_number num num' same (v ∷ vs) = (all v.consumers, one_number num num' same vs)
  where
    all : (ks : List Consumer) → Each (λ (k : Consumer). num' k.client ≡ num k.client) ks
    all [] = tt
    all (k ∷ ks) = (same k.client, all ks)

pub same_number : (per : ℕ) (b : Broker) (p : Plan) → Each KeepsSessions p.changes → AllSubs (SameNumber (numbers b) (numbers (done per b p))) (done per b p)
same_number per b p k =
    one_number (numbers b) (numbers (done per b p))
    (λ c. ap (λ (ss : List (Option Session)). number_of (slice_index_or ss c None)) (all_changed_sessions (all_written per b p.writes) p.changes k ∙ all_written_sessions per b p.writes)) (done per b p).subs

all_left : (c : ℕ) (ks : List Consumer) → Each (λ (k : Consumer). (k.client == c) ≡ false) (filter (λ (k : Consumer). not (is_of c k)) ks)
all_left c ks = each_passed (λ (k : Consumer). Unit {0}) (λ (k : Consumer). (k.client == c) ≡ false) (λ (k : Consumer). not (is_of c k)) (λ k left u. not_true (k.client == c) left) ks (any ks)
  where
    any : (js : List Consumer) → Each (λ (k : Consumer). Unit {0}) js
    any [] = tt
    any (j ∷ js) = (tt, any js)

left_number : (per : ℕ) (b : Broker) (c : ℕ) (o : Option Session) (os : List Out)
    → AllSubs (SameNumber (numbers b) (numbers (done per b (plan_of [] (change.Detach c ∷ change.Client c o ∷ []) os)))) (done per b (plan_of [] (change.Detach c ∷ change.Client c o ∷ []) os))
left_number per b c o os = each_made (SameNumber (numbers b) num') (detached c) one b.subs
  where
    num' : ℕ → ℕ
    num' z = number_of (slice_index_or (slice_set b.sessions c o) z None)

    one : (v : Subscription) → SameNumber (numbers b) num' (detached c v)
    one v =
        each_map (λ (k : Consumer). (k.client == c) ≡ false) (λ (k : Consumer). num' k.client ≡ numbers b k.client)
        (λ k differ. at_set (λ (x : Option Session). number_of x ≡ numbers b k.client) b.sessions c k.client o None (λ same. absurd (false≢true (sym differ ∙ eq-eqb k.client c (sym same)))) refl) (detached c v).consumers (all_left c v.consumers)

producer_number : (per : ℕ) (b : Broker) (c : ℕ) (s s' : Session) (os : List Out) → session_at b c ≡ Some s → s'.number ≡ s.number
    → AllSubs (SameNumber (numbers b) (numbers (done per b (plan_of [] (change.Client c (Some s') ∷ []) os)))) (done per b (plan_of [] (change.Client c (Some s') ∷ []) os))
producer_number per b c s s' os at same =
    one_number (numbers b) (λ z. number_of (slice_index_or (slice_set b.sessions c (Some s')) z None))
    (λ z. at_set (λ (x : Option Session). number_of x ≡ numbers b z) b.sessions c z (Some s') None (λ is. same ∙ sym (ap number_of at) ∙ ap (numbers b) is) refl) b.subs

-- ---- what a plan leaves

pub record RisesDone (mine : Makes) (es : List Entry) (joined : ℕ → ℕ → Type 0) (ls : List ℕ) (sent : ℕ → List Packet) (per : ℕ) (b : Broker) (p : Plan) : Type 0 where
  pub facts : AllSubs (OutRises mine es joined ls (numbers b) sent) (done per b p)
  pub numbers_same : AllSubs (SameNumber (numbers b) (numbers (done per b p))) (done per b p)

-- before, where the plan gives nothing
abbrev pub Before : Makes → List Entry → (ℕ → ℕ → Type 0) → List ℕ → (ℕ → List Packet) → Broker → Plan → Type 0
Before mine es joined ls sent b q = Each NotGiven q.changes → AllSubs (OutRises mine es joined ls (numbers b) sent) b

easy : (mine : Makes) (es : List Entry) (joined : ℕ → ℕ → Type 0) (ls : List ℕ) (sent : ℕ → List Packet) (per : ℕ) (b : Broker) (p : Plan) → Each CalmWrite p.writes → Each EasyChange p.changes
    → Each KeepsSessions p.changes → Before mine es joined ls sent b p → RisesDone mine es joined ls sent per b p
easy mine es joined ls sent per b p ws cs ks h =
    record { facts = calm_done mine es joined ls (numbers b) sent per b p ws cs (h (easy_gives p.changes cs)); numbers_same = same_number per b p ks }

updates_calm : (h : Site) (b : Broker) (v : Subscription) (ws : List Write) → Updates h b v ws → Each CalmWrite ws
updates_calm h b v ws Updates.NoUpdate = tt
updates_calm h b v ws (Updates.Update cut replicated passed) = (tt, tt)

-- who subscribes may
abbrev pub Joins : Makes → (ℕ → ℕ → Type 0) → (ℕ → List Packet) → Site → Broker → ℕ → Packet → Type 0
Joins mine joined sent h b c p = (s : Session) (topic n : List ℕ) (kind : SubKind) (id request : ℕ) (consumer : Option (List ℕ)) (earliest replicated : Bool) → InSession b c p s
    → p.frame ≡ frame.Subscribe topic n kind id request consumer earliest replicated → MayJoin h b c topic n
    → MayAttach mine joined (numbers b) sent n kind (record { client = c; id = id; permits = 0 }) b.subs

served_rises : (mine : Makes) (es : List Entry) (joined : ℕ → ℕ → Type 0) (ls : List ℕ) (sent : ℕ → List Packet) (per : ℕ) (h : Site) (b : Broker) (c : ℕ) (p : Packet) (q : Plan) → Served h b c p q → Joins mine joined sent h b c p
    → NamesApart b.subs → Before mine es joined ls sent b q → RisesDone mine es joined ls sent per b q
served_rises mine es joined ls sent per h b c p q Served.Ignores joins apart f = easy mine es joined ls sent per b q tt tt tt f
served_rises mine es joined ls sent per h b c p q Served.Disconnects joins apart f =
    record { facts = calm_done mine es joined ls (numbers b) sent per b q tt (tt, (tt, tt)) (f (tt, (tt, tt))); numbers_same = left_number per b c None [] }
served_rises mine es joined ls sent per h b c p q (Served.Connects s is new) joins apart f =
    record { facts = calm_done mine es joined ls (numbers b) sent per b q tt (tt, (tt, tt)) (f (tt, (tt, tt))); numbers_same = left_number per b c (Some s) q.sent }
served_rises mine es joined ls sent per h b c p q (Served.Answers s a at) joins apart f = easy mine es joined ls sent per b q tt tt tt f
served_rises mine es joined ls sent per h b c p q (Served.ChangesProducers s ps a at) joins apart f = record {
  facts = calm_done mine es joined ls (numbers b) sent per b q tt (tt, tt) (f (tt, tt));
  numbers_same = producer_number per b c s (record { number = s.number; producers = ps }) q.sent at.0.0 refl;
}
served_rises mine es joined ls sent per h b c p q (Served.Stores s id seq source e at sound new) joins apart f = easy mine es joined ls sent per b q (tt, tt) tt tt f
served_rises mine es joined ls sent per h b c p q (Served.Repeats s id seq source e at sound old) joins apart f = easy mine es joined ls sent per b q tt tt tt f
served_rises mine es joined ls sent per h b c p q (Served.Creates s topic n kind id request consumer earliest replicated at is may named) joins apart f = record {
  facts = makes_done mine es joined ls (numbers b) sent per b n kind replicated (not earliest) (record { client = c; id = id; permits = 0 }) q.sent
      (joins s topic n kind id request consumer earliest replicated at is may) named (f (tt, tt));
  numbers_same = same_number per b q (tt, tt);
}
served_rises mine es joined ls sent per h b c p q (Served.Joins s topic n kind id request consumer earliest replicated v at is may named free same) joins apart f = record {
  facts = joins_done mine es joined ls (numbers b) sent per b n kind (record { client = c; id = id; permits = 0 }) v q.sent
      (joins s topic n kind id request consumer earliest replicated at is may) apart named (kind_is kind v.kind (left (same_kind kind v.kind) _ same)) (f (tt, tt));
  numbers_same = same_number per b q (tt, tt);
}
served_rises mine es joined ls sent per h b c p q (Served.Alters s topic n kind id request consumer earliest replicated v at is may named free other) joins apart f = record {
  facts = alters_done mine es joined ls (numbers b) sent per b n kind (v.replicated || replicated) (record { client = c; id = id; permits = 0 }) v q.sent
      (joins s topic n kind id request consumer earliest replicated at is may) apart named (free_is kind v free) (f (tt, tt));
  numbers_same = same_number per b q (tt, tt);
}
served_rises mine es joined ls sent per h b c p q (Served.Permits s id permits v at is by) joins apart f = easy mine es joined ls sent per b q tt (tt, tt) (tt, tt) f
served_rises mine es joined ls sent per h b c p q (Served.Acknowledges s id kind ps v i is ws at sent' by of after) joins apart f =
    easy mine es joined ls sent per b q (tt, updates_calm h b _ ws after) (tt, tt) (tt, tt) f
served_rises mine es joined ls sent per h b c p q (Served.Unsubscribes s id request v at is by last) joins apart f = easy mine es joined ls sent per b q (tt, tt) tt tt f
served_rises mine es joined ls sent per h b c p q (Served.ClosesConsumer s id request v at is by) joins apart f = easy mine es joined ls sent per b q tt (tt, tt) (tt, tt) f

apart_rises : (mine : Makes) (es : List Entry) (joined : ℕ → ℕ → Type 0) (ls : List ℕ) (sent : ℕ → List Packet) (per : ℕ) (b : Broker) (q : Plan) → IsApart q → Before mine es joined ls sent b q → RisesDone mine es joined ls sent per b q
apart_rises mine es joined ls sent per b q a f = easy mine es joined ls sent per b q a.writes a.changes a.sessions f

reads_rises : (mine : Makes) (es : List Entry) (joined : ℕ → ℕ → Type 0) (ls : List ℕ) (sent : ℕ → List Packet) (per : ℕ) (h : Site) (b : Broker) (y : ℕ) (q : Plan) → Reads h b y q → Before mine es joined ls sent b q → RisesDone mine es joined ls sent per b q
reads_rises mine es joined ls sent per h b y q Reads.NothingToRead f = easy mine es joined ls sent per b q tt tt tt f
reads_rises mine es joined ls sent per h b y q (Reads.Forwards i e next out) f = easy mine es joined ls sent per b q tt (tt, tt) (tt, tt) f
reads_rises mine es joined ls sent per h b y q (Reads.Skips i e next other) f = easy mine es joined ls sent per b q (tt, tt) (tt, tt) (tt, tt) f
reads_rises mine es joined ls sent per h b y q (Reads.Responds i e id source next of is) f = easy mine es joined ls sent per b q (tt, (tt, tt)) (tt, tt) (tt, tt) f
reads_rises mine es joined ls sent per h b y q (Reads.Counts i e id answer u u' next is heard) f = easy mine es joined ls sent per b q (tt, tt) (tt, (tt, tt)) (tt, (tt, tt)) f
reads_rises mine es joined ls sent per h b y q (Reads.AsksAgain i e id answer u u' next is heard) f = easy mine es joined ls sent per b q (tt, (tt, tt)) (tt, (tt, tt)) (tt, (tt, tt)) f
reads_rises mine es joined ls sent per h b y q (Reads.Completes i e id answer u u' next is heard) f = easy mine es joined ls sent per b q (tt, (tt, tt)) (tt, (tt, tt)) (tt, (tt, tt)) f
reads_rises mine es joined ls sent per h b y q (Reads.CreatesAt i j e n remote next is named) f =
    let rest = plan_of (write.Acks n (updated_indexes y 0 (j + 1) b.entries) ∷ write.ReplicatorAck y i ∷ []) (change.Acked n ∷ change.ReadTo y (i + 1) ∷ []) [] in record {
      facts = new_done mine es joined ls (numbers b) sent per b n sub_kind.Exclusive true false rest (tt, (tt, tt)) (tt, (tt, tt)) (f (tt, (tt, tt)));
      numbers_same = same_number per b q (tt, (tt, tt));
    }
reads_rises mine es joined ls sent per h b y q (Reads.ActsOnUpdate i j e n remote v ws next is named after) f =
    easy mine es joined ls sent per b q (tt, each_both CalmWrite ws (write.ReplicatorAck y i ∷ []) (updates_calm h b _ ws after) (tt, tt)) (tt, (tt, tt)) (tt, (tt, tt)) f

snaps_rises : (mine : Makes) (es : List Entry) (joined : ℕ → ℕ → Type 0) (ls : List ℕ) (sent : ℕ → List Packet) (per : ℕ) (h : Site) (b : Broker) (q : Plan) → Snaps h b q → Before mine es joined ls sent b q → RisesDone mine es joined ls sent per b q
snaps_rises mine es joined ls sent per h b q Snaps.NothingToAsk f = easy mine es joined ls sent per b q tt tt tt f
snaps_rises mine es joined ls sent per h b q (Snaps.Asks any none) f = easy mine es joined ls sent per b q (tt, tt) (tt, tt) (tt, tt) f

-- a plan that gives leaves as much
abbrev pub GivesRise : Makes → List Entry → (ℕ → ℕ → Type 0) → List ℕ → (ℕ → List Packet) → ℕ → Site → Broker → Plan → Type 0
GivesRise mine es joined ls sent per h b q = (n : List ℕ) (v : Subscription) (i at : ℕ) (e : Entry) → IsLeastDue b n v i e → pick v.kind v.consumers (key_bytes e.meta.key) ≡ Some at
    → q ≡ plan_of [] (change.Given v.name i at ∷ []) (message h b i e (consumer_at v.consumers at)) → RisesDone mine es joined ls sent per b q

offers_rises : (mine : Makes) (es : List Entry) (joined : ℕ → ℕ → Type 0) (ls : List ℕ) (sent : ℕ → List Packet) (per : ℕ) (h : Site) (b : Broker) (n : List ℕ) (q : Plan) → Offers h b n q → GivesRise mine es joined ls sent per h b q
    → Before mine es joined ls sent b q → RisesDone mine es joined ls sent per b q
offers_rises mine es joined ls sent per h b n q Offers.NothingToOffer gives f = easy mine es joined ls sent per b q tt tt tt f
offers_rises mine es joined ls sent per h b n q (Offers.Gives v i at e due is picked) gives f = gives n v i at e due picked refl
offers_rises mine es joined ls sent per h b n q (Offers.SkipsMarker v i e ws due is after) gives f = easy mine es joined ls sent per b q (tt, updates_calm h b _ ws after) (tt, (tt, tt)) (tt, (tt, tt)) f
offers_rises mine es joined ls sent per h b n q (Offers.Caches v i j e x ws due is after) gives f =
    easy mine es joined ls sent per b q (tt, updates_calm h b _ ws after) (tt, (tt, (tt, tt))) (tt, (tt, (tt, tt))) f

seeks_rises : (mine : Makes) (es : List Entry) (joined : ℕ → ℕ → Type 0) (ls : List ℕ) (sent : ℕ → List Packet) (per : ℕ) (h : Site) (b : Broker) (n : List ℕ) (to : Option Position) (q : Plan) → Seeks h b n to q
    → Before mine es joined ls sent b q → RisesDone mine es joined ls sent per b q
seeks_rises mine es joined ls sent per h b n to q Seeks.NothingToSeek f = easy mine es joined ls sent per b q tt tt tt f
seeks_rises mine es joined ls sent per h b n to q (Seeks.SeeksTo v i ws named at after) f =
    record { facts = sought_done mine es joined ls (numbers b) sent per h b v.name i _ ws after (f (tt, tt)); numbers_same = same_number per b q (tt, tt) }

restart_rises : (mine : Makes) (es : List Entry) (joined : ℕ → ℕ → Type 0) (ls : List ℕ) (sent : ℕ → List Packet) (per : ℕ) (b : Broker) → Before mine es joined ls sent b restart → RisesDone mine es joined ls sent per b restart
unfolding restart
restart_rises mine es joined ls sent per b f = record {
  facts = calm_done mine es joined ls (numbers b) sent per b (plan_of (write.Ledger ∷ []) (change.Forget ∷ []) []) (tt, tt) (tt, tt) (f (tt, tt));
  numbers_same = forgotten_subs (SameNumber (numbers b) _) (written per b write.Ledger) (λ v. tt);
}

pub shape_rises : (mine : Makes) (es : List Entry) (joined : ℕ → ℕ → Type 0) (ls : List ℕ) (sent : ℕ → List Packet) (s : Setup) (w : World) (p : Planned) → Shape s w p
    → ((x c : ℕ) (q : Packet) → p.topic ≡ (declared_at s c).topic → p.cluster ≡ x → p.takes ≡ Some (ToBroker c x) → next_packet (link_at w.links (ToBroker c x)) ≡ Some q → Joins mine joined sent (site s p.topic p.cluster) (topic_at s w p.topic p.cluster) c q)
    → GivesRise mine es joined ls sent s.per_ledger (site s p.topic p.cluster) (topic_at s w p.topic p.cluster) p.plan → NamesApart (topic_at s w p.topic p.cluster).subs
    → Before mine es joined ls sent (topic_at s w p.topic p.cluster) p.plan → RisesDone mine es joined ls sent s.per_ledger (topic_at s w p.topic p.cluster) p.plan
shape_rises mine es joined ls sent s w p (Shape.Idle t x within) joins gives apart f = easy mine es joined ls sent s.per_ledger _ p.plan tt tt tt f
shape_rises mine es joined ls sent s w p (Shape.Empty t x k within next) joins gives apart f = easy mine es joined ls sent s.per_ledger _ p.plan tt tt tt f
shape_rises mine es joined ls sent s w p (Shape.Serve x c q plan within next served) joins gives apart f =
    served_rises mine es joined ls sent s.per_ledger _ _ c q plan served (joins x c q refl refl refl next) apart f
shape_rises mine es joined ls sent s w p (Shape.Drop x c v within at) joins gives apart f =
    let b = topic_at s w (declared_at s c).topic x in
    record { facts = calm_done mine es joined ls (numbers b) sent s.per_ledger b p.plan tt (tt, (tt, tt)) (f (tt, (tt, tt))); numbers_same = left_number s.per_ledger b c None [] }
shape_rises mine es joined ls sent s w p (Shape.Reset t x y within remote) joins gives apart f = easy mine es joined ls sent s.per_ledger _ p.plan (tt, tt) (tt, tt) (tt, tt) f
shape_rises mine es joined ls sent s w p (Shape.Read t x y plan within reads) joins gives apart f = reads_rises mine es joined ls sent s.per_ledger _ _ y plan reads f
shape_rises mine es joined ls sent s w p (Shape.Take t x y q plan within next taken) joins gives apart f =
    apart_rises mine es joined ls sent s.per_ledger (topic_at s w t y) plan
    (fated_apart s.per_ledger (topic_at s w t y) (λ b. Taken (site s t y) b x q) (closes x) plan (λ c r a. taken_apart (site s t y) c x q r a)
    (record { writes = tt; changes = (tt, tt); sessions = (tt, tt) }) taken) f
shape_rises mine es joined ls sent s w p (Shape.Receipt t x y q plan within next answered) joins gives apart f =
    apart_rises mine es joined ls sent s.per_ledger (topic_at s w t x) plan
    (fated_apart s.per_ledger (topic_at s w t x) (λ b. Answered b y q) (quiet_plan []) plan (λ c r a. answered_apart c y q r a)
    (record { writes = tt; changes = tt; sessions = tt }) answered) f
shape_rises mine es joined ls sent s w p (Shape.Snap t x plan within snaps) joins gives apart f = snaps_rises mine es joined ls sent s.per_ledger _ _ plan snaps f
shape_rises mine es joined ls sent s w p (Shape.Offer t x n plan within offers) joins gives apart f = offers_rises mine es joined ls sent s.per_ledger _ _ _ plan offers gives f
shape_rises mine es joined ls sent s w p (Shape.Seek t x n to plan within seeks) joins gives apart f = seeks_rises mine es joined ls sent s.per_ledger _ _ _ to plan seeks f
shape_rises mine es joined ls sent s w p (Shape.Restart t x within) joins gives apart f = restart_rises mine es joined ls sent s.per_ledger (topic_at s w t x) f
