-- The topic of an event, and the world after it: what is sent to each consumer rises.
use Rattle.std.proofs.Common.{◌≡◌, ℕ, zero, suc, ◌<◌, Bool, true, false, List, [], ◌∷◌, ◌++◌, length, map, refl, sym, ap, subst, ◌∙◌, ◌==◌, arith}
use Rattle.std.specs.Prelude.{Option, Some, slice_index_or, slice_set, take}
use Rattle.std.specs.Str.{bytes_eq}
use Rattle.std.proofs.lemmas.Bool.{eqb-false, eqb-true, false≢true}
use Rattle.std.proofs.lemmas.List.{get_or-set_other, get_or-set_same}
use Rattle.std.proofs.lemmas.Slice.Eq.{bytes_eq-Decides}
use Rattle.world_laws.proofs.Types.{Consumer, Frame, Packet, Position, Session, SubKind}
use Rattle.world_laws.proofs.Types.change
use Rattle.world_laws.proofs.Types.frame
use Rattle.world_laws.proofs.Types.write
use Rattle.geo_base.specs.Broker.{Broker, no_broker, written}
use Rattle.geo_base.specs.Client.{Client, new_client, unconnected}
use Rattle.geo_base.specs.Seeking.{restart}
use Rattle.geo_base.specs.Topic.{index_of}
use Rattle.geo_base.specs.Dispatcher.{consumer_at}
use Rattle.geo_base.specs.Entry.{key_bytes}
use Rattle.geo_base.specs.Happening.{broker_does, broker_halts, stops}
use Rattle.geo_base.specs.Link.{Link, next_packet}
use Rattle.geo_base.specs.Offering.{message, number_of}
use Rattle.geo_base.specs.Plan.{all_written, done, halted, plan_of}
use Rattle.geo_base.specs.Planned.{Planned}
use Rattle.geo_base.specs.Settled.{SettledSoFar}
use Rattle.geo_base.specs.Setup.{Declared, Setup, declared_at}
use Rattle.geo_base.specs.Subscription.{Subscription}
use Rattle.geo_base.specs.World.{LinkName, Links, ToBroker, World, cell, client_at, delivered, from_broker, link_at, node, site, taken_from, topic_at}
use Rattle.world_laws.proofs.Clients.CalmWalk.{shape_acts}
use Rattle.world_laws.proofs.Clients.ClientLinks.{Packets, SentDown, SentUp, does_up, halts_down, halts_up, stops_down, stops_up}
use Rattle.world_laws.proofs.Dispatching.SubFrames.{AllSubs, NamesApart, forgotten_subs, found_is}
use Rattle.world_laws.proofs.Induction.Layers.{Everywhere, one_topic}
use Rattle.world_laws.proofs.Merges.PeerWalk.{pick_has}
use Rattle.world_laws.proofs.Replicating.Effects.{Each, each_map}
use Rattle.world_laws.proofs.Replicating.PairRoles.{shape_within}
use Rattle.world_laws.proofs.Replicating.LinkFrames.{same_node}
use Rattle.world_laws.proofs.Replicating.Sizes.{IsThere, Sized, node_lt}
use Rattle.world_laws.proofs.Snapshotting.Answering.{AnswersAt}
use Rattle.world_laws.proofs.Snapshotting.Grows.{Grown, grown_does, grown_halts, grown_stops}
use Rattle.world_laws.proofs.Walks.Shapes.{Shape}
use Rattle.world_laws.proofs.Walks.Walk.{on_if, on_test}
use Rattle.consumer_laws.specs.Lines.{IsKindLine}
use Rattle.consumer_laws.proofs.Links.Sending.{shape_not_down}
use Rattle.consumer_laws.proofs.Rising.Brokers.{came_done, consumer_moves, gave_joined, given_rises, gives_not, links_done, other_subs, pushed, quiet_none, sub_stays, unmoved}
use Rattle.consumer_laws.proofs.Rising.Facts.{JoinedAt, LineKinds, Moves, RiseWorld, RisesAt, SubTaken, moved_fact, undues_grow}
use Rattle.consumer_laws.proofs.Rising.Links.{CameOf, RisesAfter, SubscribesAs, SubsOnce, TakenOn, broker_up, came_grows, next_taken, rises_grow, stopping_stays, taking_stays}
use Rattle.consumer_laws.proofs.Rising.Plans.{OutRises, gives_done}
use Rattle.consumer_laws.proofs.Rising.Shapes.{GivesRise, Joins, NotGiven, RisesDone, SameNumber, same_number, shape_rises}
use Rattle.consumer_laws.proofs.Rising.Subs.{NoneOf, RiseFact, UndueOf, rise_cleared}
use Rattle.consumer_laws.proofs.Subscriptions.Plans.{numbers, same_numbers}
use Rattle.consumer_laws.proofs.Subscriptions.WhatIsOut.{IsMade, SubFact, each_two}
use Rattle.consumer_laws.proofs.Worlds.BrokerEvents.{Around, DoneLinks, done_lengthens, gives_there, sent_stays, subs_grow, up_joins}
use Rattle.consumer_laws.proofs.Worlds.Facts.{AllAfter, MadeBy}
use Rattle.consumer_laws.proofs.Worlds.Growing.{one_line, picked_made}

-- what is known of an event's topic
record At (s : Setup) (told : SettledSoFar) (w : World) (p : Planned) (stamp : ℕ) : Type 0 where
  shape : Shape s w p
  busy : p.plan.idle ≡ false
  around : Around s told w
  rises : RiseWorld s w
  there : IsThere s p.topic p.cluster

abbrev SubsThere : Setup → World → Planned → ℕ → Type 0
SubsThere s w p stamp =
    let b = topic_at s w p.topic p.cluster in AllSubs (SubFact (MadeBy s w p.topic) b.entries (numbers b) (λ c. SentDown (DoneLinks s w p stamp) c p.cluster)) b

outs_before : (s : Setup) (told : SettledSoFar) (w : World) (p : Planned) (stamp : ℕ) → At s told w p stamp → SubsThere s w p stamp
outs_before s told w p stamp a =
    let b = topic_at s w p.topic p.cluster in let x = p.cluster in
    subs_grow s w p.topic b.entries b.entries (numbers b) (numbers b) (λ c. SentDown w.links c x) (λ c. SentDown (DoneLinks s w p stamp) c x) b.subs (λ i e at. at)
    (λ c session id e h. sent_stays s w p stamp c x session id e (shape_not_down s w p a.shape a.busy) h) (same_numbers (numbers b) (numbers b) (λ c. refl) b.subs) (a.around.hands.subs p.topic x a.there)

abbrev FactThere : Setup → World → Planned → ℕ → Subscription → Type 0
FactThere s w p stamp v =
    let b = topic_at s w p.topic p.cluster in let x = p.cluster in let ls = DoneLinks s w p stamp in
    OutRises (MadeBy s w p.topic) b.entries (JoinedAt ls x (numbers b)) b.ledgers (numbers b) (λ c. SentDown ls c x) v

-- where nothing is given
calm_before : (s : Setup) (told : SettledSoFar) (w : World) (p : Planned) (stamp : ℕ) → At s told w p stamp → Each NotGiven p.plan.changes → AllSubs (FactThere s w p stamp) (topic_at s w p.topic p.cluster)
calm_before s told w p stamp a none =
    let b = topic_at s w p.topic p.cluster in let x = p.cluster in let ls = DoneLinks s w p stamp in
    each_two (SubFact (MadeBy s w p.topic) b.entries (numbers b) (λ c. SentDown ls c x)) (RiseFact (JoinedAt w.links x (numbers b)) b.ledgers (numbers b) (λ c. SentDown w.links c x)) (FactThere s w p stamp)
    (λ v o f. (
      o,
      moved_fact (JoinedAt w.links x (numbers b)) (JoinedAt ls x (numbers b)) b.ledgers b.ledgers (numbers b) (numbers b) (λ c. SentDown w.links c x) (λ c. SentDown ls c x) v
          (each_map (IsMade (MadeBy s w p.topic) v.name v.kind) (Moves (JoinedAt w.links x (numbers b)) (JoinedAt ls x (numbers b)) b.ledgers b.ledgers (numbers b) (numbers b) (λ c. SentDown w.links c x) (λ c. SentDown ls c x))
          (λ k made. consumer_moves s told w p stamp p.topic x a.shape a.around k (λ g mine here is. gives_not s w p.topic x p.plan g none)) v.consumers o.consumers) f,
    )) b.subs (outs_before s told w p stamp a) (a.rises.subs p.topic x a.there)

-- who subscribes: nothing was sent to it in its session
no_sub : (s : Setup) (w : World) (c x session id : ℕ) (q : Packet) → RiseWorld s w → IsThere s (declared_at s c).topic x → next_packet (link_at w.links (ToBroker c x)) ≡ Some q → q.session ≡ session → SubscribesAs id q.frame → SubTaken w.links x c session id → ⊥
no_sub s w c x session id q r there next same is h =
    r.once c x there h.place (link_at w.links (ToBroker c x)).taken h.packet q id h.below h.at next (h.same ∙ sym same) h.is is

none_came : (taken : ℕ → ℕ → Type 0) (session id a : ℕ) (f : Frame) → (taken session id → ⊥) → CameOf taken a f → NoneOf session id a f
none_came taken session id a (frame.Message b p source e) never h = λ same is. never (subst (λ (z : ℕ). taken z id) same (subst (λ (z : ℕ). taken a z) is h))
none_came taken session id a f never h = tt

subscribes_is : (f : Frame) (topic n : List ℕ) (kind : SubKind) (id request : ℕ) (consumer : Option (List ℕ)) (earliest replicated : Bool) → f ≡ frame.Subscribe topic n kind id request consumer earliest replicated → SubscribesAs id f
subscribes_is f topic n kind id request consumer earliest replicated is = subst (SubscribesAs id) (sym is) refl

joins_there : (s : Setup) (told : SettledSoFar) (w : World) (p : Planned) (stamp : ℕ) → At s told w p stamp → (x c : ℕ) (q : Packet) → p.topic ≡ (declared_at s c).topic → p.cluster ≡ x → p.takes ≡ Some (ToBroker c x)
    → next_packet (link_at w.links (ToBroker c x)) ≡ Some q → let b = topic_at s w p.topic p.cluster in
    Joins (MadeBy s w p.topic) (JoinedAt (DoneLinks s w p stamp) p.cluster (numbers b)) (λ z. SentDown (DoneLinks s w p stamp) z p.cluster) (site s p.topic p.cluster) b c q
joins_there s told w p stamp a x c q topic here takes next session to n kind id request consumer earliest replicated in_session is may = record {
  made = up_joins s told w p.topic p.cluster a.around.hands a.there x c q topic here next to n kind id request consumer earliest replicated is;
  joins = subst (λ (z : ℕ). SubTaken (DoneLinks s w p stamp) z c (numbers b c) id) (sym here)
      (subst (λ (o : Option LinkName). TakenOn (numbers b c) id (cell (taken_from o (delivered (from_broker s p.topic p.cluster) stamp p.plan.sent w.links)).to_broker c x)) (sym takes)
      (subst (λ (m : List (List Link)). TakenOn (numbers b c) id (cell (taken_from (Some (ToBroker c x)) (record (delivered (from_broker s p.topic p.cluster) stamp p.plan.sent w.links) { to_broker = m })).to_broker c x)) (sym (broker_up s p.topic p.cluster stamp p.plan.sent w.links))
      (subst (λ (z : ℕ). TakenOn z id (cell (taken_from (Some (ToBroker c x)) w.links).to_broker c x)) number (next_taken w.links.to_broker c x id q next subs))));
  none = pushed s w p stamp c (client_at s w c).connection p.cluster (NoneOf (numbers b c) id) (shape_acts s w c (client_at s w c).connection p (a.around.hands.meets c).up a.shape)
      (λ z f quiet. quiet_none (numbers b c) id z f quiet)
      (λ g mine at same is_id. other (subst (λ (z : ℕ). SubTaken w.links p.cluster z (numbers b z) id) mine (subst (SubTaken w.links p.cluster (consumer_at g.sub.consumers g.at).client (numbers b (consumer_at g.sub.consumers g.at).client)) is_id (gave_joined s w p.topic p.cluster p.plan a.there a.rises g))))
      (each_map (λ (z : Packet). CameOf (SubTaken w.links p.cluster c) z.session z.frame) (λ (z : Packet). NoneOf (numbers b c) id z.session z.frame) (λ z h. none_came (SubTaken w.links p.cluster c) (numbers b c) id z.session z.frame other h)
      (SentDown w.links c p.cluster) (a.rises.came c p.cluster));
  free = may.1;
}
  where
    b : Broker
    b = topic_at s w p.topic p.cluster

    subs : SubscribesAs id q.frame
    subs = subscribes_is q.frame to n kind id request consumer earliest replicated is

    number : q.session ≡ numbers b c
    number = sym (ap (λ (o : Option Session). number_of o) in_session.0 ∙ eqb-true session.number q.session in_session.1)

    other : SubTaken w.links p.cluster c (numbers b c) id → ⊥
    other h = no_sub s w c x (numbers b c) id q a.rises (subst (λ (u : ℕ). u < length s.topics) topic a.there.0, subst (λ (z : ℕ). z < length s.clusters) here a.there.1) next number subs (subst (λ (z : ℕ). SubTaken w.links z c (numbers b c) id) here h)

-- a message is given
gives_rise : (s : Setup) (told : SettledSoFar) (w : World) (p : Planned) (stamp : ℕ) → At s told w p stamp → NamesApart (topic_at s w p.topic p.cluster).subs → let b = topic_at s w p.topic p.cluster in
    GivesRise (MadeBy s w p.topic) b.entries (JoinedAt (DoneLinks s w p stamp) p.cluster (numbers b)) b.ledgers (λ z. SentDown (DoneLinks s w p stamp) z p.cluster) s.per_ledger (site s p.topic p.cluster) b p.plan
gives_rise s told w p stamp a apart n v i at e due picked is =
    subst (RisesDone (MadeBy s w t) b.entries J b.ledgers sent s.per_ledger b) (sym is) (record {
      facts = gives_done (MadeBy s w t) b.entries J b.ledgers (numbers b) sent s.per_ledger b n i at v (key_bytes e.meta.key) (message (site s t x) b i e k) apart due.0 picked permit
          (gives_there s told w p stamp a.around (shape_not_down s w p a.shape a.busy) a.there n v i at e due picked is) out
          (each_map (λ (j : Consumer). JoinedAt w.links x (numbers b) j.client j.id) (λ (j : Consumer). J j.client j.id) (λ j h. sub_stays s w p stamp j.client x (numbers b j.client) j.id h) v.consumers f.joins)
          (λ one. given_rises s told w p stamp v i at e a.around a.there is due.1 picked one (f.one one))
          (each_two (SubFact (MadeBy s w t) b.entries (numbers b) sent) (RiseFact (JoinedAt w.links x (numbers b)) b.ledgers (numbers b) (λ c. SentDown w.links c x))
          (λ (u : Subscription). bytes_eq u.name v.name ≡ false → FactThere s w p stamp u) (λ u o g differ. (o, others u o g differ)) b.subs (outs_before s told w p stamp a) (a.rises.subs t x a.there));
      numbers_same = same_number s.per_ledger b (plan_of [] (change.Given v.name i at ∷ []) (message (site s t x) b i e k)) (tt, tt);
    })
  where
    t : ℕ
    t = p.topic

    x : ℕ
    x = p.cluster

    b : Broker
    b = topic_at s w p.topic p.cluster

    k : Consumer
    k = consumer_at v.consumers at

    J : ℕ → ℕ → Type 0
    J = JoinedAt (DoneLinks s w p stamp) p.cluster (numbers b)

    sent : ℕ → List Packet
    sent z = SentDown (DoneLinks s w p stamp) z p.cluster

    permit : 0 < k.permits
    permit = pick_has v.kind v.consumers (key_bytes e.meta.key) at picked

    out : SubFact (MadeBy s w t) b.entries (numbers b) sent v
    out = (found_is (SubFact (MadeBy s w t) b.entries (numbers b) sent) _ b.subs v due.0 (outs_before s told w p stamp a)).0

    f : RiseFact (JoinedAt w.links x (numbers b)) b.ledgers (numbers b) (λ c. SentDown w.links c x) v
    f = (found_is (RiseFact (JoinedAt w.links x (numbers b)) b.ledgers (numbers b) (λ c. SentDown w.links c x)) _ b.subs v due.0 (a.rises.subs t x a.there)).0

    made : MadeBy s w t v.name v.kind k.client k.id
    made = picked_made (MadeBy s w t) b.entries (numbers b) sent v at permit out

    others : (u : Subscription) → SubFact (MadeBy s w t) b.entries (numbers b) sent u → RiseFact (JoinedAt w.links x (numbers b)) b.ledgers (numbers b) (λ c. SentDown w.links c x) u → bytes_eq u.name v.name ≡ false
        → RiseFact J b.ledgers (numbers b) sent u
    others u o g differ =
        moved_fact (JoinedAt w.links x (numbers b)) J b.ledgers b.ledgers (numbers b) (numbers b) (λ c. SentDown w.links c x) sent u
        (each_map (IsMade (MadeBy s w t) u.name u.kind) (Moves (JoinedAt w.links x (numbers b)) J b.ledgers b.ledgers (numbers b) (numbers b) (λ c. SentDown w.links c x) sent)
        (λ j mine. unmoved s w p stamp v i at e j is
        (λ same id.
        let line = subst (λ (z : ℕ). IsKindLine (declared_at s k.client) z u.name u.kind) (sym id) (subst (λ (z : ℕ). IsKindLine (declared_at s z) j.id u.name u.kind) (sym same) mine.1) in
        let one = one_line (declared_at s k.client) k.id v.name u.name v.kind u.kind made.1 line in
        false≢true (sym differ ∙ (bytes_eq-Decides u.name v.name).1 (sym one.0)))) u.consumers o.consumers) g

-- ---- the topic after the event

-- as the topic and the numbers of sessions change
number_moves : (ls : Links) (x : ℕ) (es es' : List ℕ) → ((p : Position) (i : ℕ) → index_of es p ≡ Some i → index_of es' p ≡ Some i) → (num num' : ℕ → ℕ) (sent : ℕ → List Packet) (k : Consumer) → num' k.client ≡ num k.client
    → Moves (JoinedAt ls x num) (JoinedAt ls x num') es es' num num' sent sent k
number_moves ls x es es' g num num' sent k same = record {
  joins = λ h. subst (λ (m : ℕ). SubTaken ls x k.client m k.id) (sym same) h;
  none = λ h. subst (λ (m : ℕ). Packets (NoneOf m k.id) (sent k.client)) (sym same) h;
  undue = λ due h. subst (λ (m : ℕ). Packets (UndueOf es' due m k.id) (sent k.client)) (sym same) (undues_grow es es' g due (num k.client) k.id (sent k.client) h);
}

node_done : (s : Setup) (told : SettledSoFar) (w : World) (p : Planned) (stamp : ℕ) → At s told w p stamp → let b' = done s.per_ledger (topic_at s w p.topic p.cluster) p.plan in
    AllSubs (RiseFact (JoinedAt (DoneLinks s w p stamp) p.cluster (numbers b')) b'.ledgers (numbers b') (λ c. SentDown (DoneLinks s w p stamp) c p.cluster)) b'
node_done s told w p stamp a =
    let b = topic_at s w p.topic p.cluster in let x = p.cluster in let b' = done s.per_ledger b p.plan in let ls = DoneLinks s w p stamp in
    let apart = (a.around.remembers (node s p.topic p.cluster)).apart in
    let r = shape_rises (MadeBy s w p.topic) b.entries (JoinedAt ls x (numbers b)) b.ledgers (λ c. SentDown ls c x) s w p a.shape (joins_there s told w p stamp a) (gives_rise s told w p stamp a apart) apart
    (λ none. calm_before s told w p stamp a none) in
    let g = done_lengthens s.per_ledger b p.plan (a.around.now.knows.answers p.topic p.cluster a.there).numbered in
    each_two (FactThere s w p stamp) (SameNumber (numbers b) (numbers b')) (RiseFact (JoinedAt ls x (numbers b')) b'.ledgers (numbers b') (λ c. SentDown ls c x))
    (λ v f same.
    moved_fact (JoinedAt ls x (numbers b)) (JoinedAt ls x (numbers b')) b.ledgers b'.ledgers (numbers b) (numbers b') (λ c. SentDown ls c x) (λ c. SentDown ls c x) v
    (each_map (λ (k : Consumer). numbers b' k.client ≡ numbers b k.client) (Moves (JoinedAt ls x (numbers b)) (JoinedAt ls x (numbers b')) b.ledgers b'.ledgers (numbers b) (numbers b') (λ c. SentDown ls c x) (λ c. SentDown ls c x))
    (λ k e. number_moves ls x b.ledgers b'.ledgers g.index (numbers b) (numbers b') (λ c. SentDown ls c x) k e) v.consumers same) f.1) b'.subs r.facts r.numbers_same

abbrev RisesOver : Setup → Links → ℕ → ℕ → Broker → Type 0
RisesOver s ls t x b = AllSubs (RiseFact (JoinedAt ls x (numbers b)) b.ledgers (numbers b) (λ c. SentDown ls c x)) b

-- a topic that is not there has no subscription, and the event's is there where it has one: so the others are all others
subs_done : (s : Setup) (told : SettledSoFar) (w : World) (p : Planned) (stamp : ℕ) → Shape s w p → p.plan.idle ≡ false → Around s told w → RiseWorld s w → (u y : ℕ) → IsThere s u y
    → RisesOver s (DoneLinks s w p stamp) u y
    (slice_index_or (slice_set w.brokers (node s p.topic p.cluster) (done s.per_ledger (topic_at s w p.topic p.cluster) p.plan)) (node s u y) no_broker)
subs_done s told w p stamp shape busy a r u y there =
    by_node (node s p.topic p.cluster == node s u y) refl
  where
    b' : Broker
    b' = done s.per_ledger (topic_at s w p.topic p.cluster) p.plan

    G : Broker → Type 0
    G c = RisesOver s (DoneLinks s w p stamp) u y c

    lt : node s u y < length w.brokers
    lt = let small = node_lt s u y there in let size = a.now.knows.size in omega (arith, small, size)

    by_node : (e : Bool) → (node s p.topic p.cluster == node s u y) ≡ e → G (slice_index_or (slice_set w.brokers (node s p.topic p.cluster) b') (node s u y) no_broker)
    by_node true is =
        let same = eqb-true (node s p.topic p.cluster) (node s u y) is in
        let pair = same_node s p.topic u p.cluster y (shape_within s w p shape) there.1 same in
        let here : IsThere s p.topic p.cluster = (subst (λ (z : ℕ). z < length s.topics) (sym pair.0) there.0, shape_within s w p shape) in
        let at : slice_index_or (slice_set w.brokers (node s p.topic p.cluster) b') (node s u y) no_broker ≡ b' =
        subst (λ (k : ℕ). slice_index_or (slice_set w.brokers k b') (node s u y) no_broker ≡ b') (sym same) (get_or-set_same w.brokers (node s u y) b' no_broker lt) in
        subst G (sym at) (subst (λ (z : ℕ). RisesOver s (DoneLinks s w p stamp) u z b') pair.1
        (node_done s told w p stamp (record { shape = shape; busy = busy; around = a; rises = r; there = here })))
    by_node false is =
        let differ = eqb-false (node s p.topic p.cluster) (node s u y) is in
        subst G (sym (get_or-set_other w.brokers (node s p.topic p.cluster) (node s u y) b' no_broker (λ e. differ (sym e))))
        (other_subs s told w p stamp u y shape a r there (λ same. differ (ap (λ (z : ℕ). node s z p.cluster) same.0 ∙ ap (λ (z : ℕ). node s u z) same.1)))

-- ---- the event

pub rise_does : (s : Setup) (told : SettledSoFar) (w : World) (p : Planned) → Shape s w p → Around s told w → RiseWorld s w → RiseWorld s (broker_does s w p)
unfolding broker_does
rise_does s told w p shape a r = record {
  kinds = λ c. on_if (λ (w' : World). LineKinds (declared_at s c) (client_at s w' c)) p.plan.idle _ _ (r.kinds c) (r.kinds c);
  once = λ c x there. on_if (λ (w' : World). SubsOnce (SentUp w'.links c x)) p.plan.idle _ _ (r.once c x there) (subst SubsOnce (sym (does_up s p.topic p.cluster _ c x p.takes p.plan.sent w.links)) (r.once c x there));
  came = λ c x. on_if (λ (w' : World). Packets (CameOf (SubTaken w'.links x c)) (SentDown w'.links c x)) p.plan.idle _ _ (r.came c x) (came_done s told w p _ c x shape a r);
  subs = λ t x there. on_test (λ (w' : World). RisesAt s w' t x (topic_at s w' t x)) p.plan.idle _ _ (λ idle. r.subs t x there) (λ busy. subs_done s told w p _ shape busy a r t x there);
  links = λ c x there n kind id line one.
      on_if (λ (w' : World). Grown s w w' → AllAfter (RisesAfter (topic_at s w' (declared_at s c).topic x).ledgers id) (SentDown w'.links c x)) p.plan.idle _ _ (λ g. r.links c x there n kind id line one)
      (λ g. rises_grow (topic_at s w (declared_at s c).topic x).ledgers _ (g (declared_at s c).topic x there).index id _ (links_done s told w p _ c x shape a r there n kind id line one))
      (grown_does s w p shape a.now.knows.answers);
}

-- ---- a stop inside it

taking_grows : (w : World) (o : Option LinkName) (c y session id : ℕ) → SubTaken w.links y c session id → SubTaken (taken_from o w.links) y c session id
taking_grows w o c y session id h = taking_stays o w.links c y session id h

halted_rises : (s : Setup) (w : World) (m : ℕ) (p : Planned) → Shape s w p → RiseWorld s w → (u y : ℕ) → IsThere s u y
    → RisesOver s (taken_from p.takes w.links) u y (slice_index_or (slice_set w.brokers (node s p.topic p.cluster) (halted s.per_ledger (topic_at s w p.topic p.cluster) m p.plan)) (node s u y) no_broker)
halted_rises s w m p shape r u y there =
    let b = topic_at s w p.topic p.cluster in let ls = taken_from p.takes w.links in
    one_topic s (RisesOver s ls) w p.topic p.cluster (halted s.per_ledger b m p.plan) (shape_within s w p shape)
    (λ here. let c = halted s.per_ledger b m p.plan in
    forgotten_subs (RiseFact (JoinedAt ls p.cluster (numbers c)) c.ledgers (numbers c) (λ z. SentDown ls z p.cluster)) (all_written s.per_ledger b (take m p.plan.writes ++ write.Ledger ∷ []))
    (λ v. rise_cleared (JoinedAt ls p.cluster (numbers c)) c.ledgers (numbers c) (λ z. SentDown ls z p.cluster) v))
    (λ t x here. let c = topic_at s w t x in
    each_map (RiseFact (JoinedAt w.links x (numbers c)) c.ledgers (numbers c) (λ z. SentDown w.links z x)) (RiseFact (JoinedAt ls x (numbers c)) c.ledgers (numbers c) (λ z. SentDown ls z x))
    (λ v f. moved_fact (JoinedAt w.links x (numbers c)) (JoinedAt ls x (numbers c)) c.ledgers c.ledgers (numbers c) (numbers c) (λ z. SentDown w.links z x) (λ z. SentDown ls z x) v (all_move c x v.consumers) f) c.subs (r.subs t x here)) u y there
  where
    all_move : (c : Broker) (x : ℕ) (ks : List Consumer) → Each (Moves (JoinedAt w.links x (numbers c)) (JoinedAt (taken_from p.takes w.links) x (numbers c)) c.ledgers c.ledgers (numbers c) (numbers c) (λ z. SentDown w.links z x) (λ z. SentDown (taken_from p.takes w.links) z x)) ks
    all_move c x [] = tt
    all_move c x (k ∷ ks) = (
      record {
        joins = λ h. taking_grows w p.takes k.client x (numbers c k.client) k.id h;
        none = λ h. subst (Packets (NoneOf (numbers c k.client) k.id)) (sym (halts_down k.client x p.takes w.links)) h;
        undue = λ due h. subst (Packets (UndueOf c.ledgers due (numbers c k.client) k.id)) (sym (halts_down k.client x p.takes w.links)) h;
      },
      all_move c x ks,
    )

pub rise_halts : (s : Setup) (w : World) (m : ℕ) (p : Planned) → Shape s w p → Everywhere s (AnswersAt s) w → RiseWorld s w → RiseWorld s (broker_halts s w m p)
unfolding broker_halts
rise_halts s w m p shape all r = record {
  kinds = r.kinds;
  once = λ c x there. subst SubsOnce (sym (halts_up c x p.takes w.links)) (r.once c x there);
  came = λ c x. subst (Packets (CameOf (SubTaken (taken_from p.takes w.links) x c))) (sym (halts_down c x p.takes w.links))
      (came_grows (SubTaken w.links x c) (SubTaken (taken_from p.takes w.links) x c) (λ session id h. taking_grows w p.takes c x session id h) (SentDown w.links c x) (r.came c x));
  subs = λ t x there. halted_rises s w m p shape r t x there;
  links = λ c x there n kind id line one.
      subst (AllAfter (RisesAfter _ id)) (sym (halts_down c x p.takes w.links))
      (rises_grow (topic_at s w (declared_at s c).topic x).ledgers _ (grown_halts s w m p shape all (declared_at s c).topic x there).index id (SentDown w.links c x) (r.links c x there n kind id line one));
}

-- ---- a stop of everything

stopped_rises : (s : Setup) (ls : Links) (t x n : ℕ) (bs : List Broker) → RisesOver s ls t x (slice_index_or (map (λ (b : Broker). done s.per_ledger b restart) bs) n no_broker)
unfolding restart
stopped_rises s ls t x n [] = tt
stopped_rises s ls t x zero (b ∷ bs) = forgotten_subs (RiseFact _ _ _ (λ z. SentDown ls z x)) (written s.per_ledger b write.Ledger) (λ v. rise_cleared _ _ _ (λ z. SentDown ls z x) v)
stopped_rises s ls t x (suc n) (b ∷ bs) = stopped_rises s ls t x n bs

same_lines : (ks : List Client) (c : ℕ) (d : Declared) → LineKinds d (slice_index_or ks c (new_client d)) → LineKinds d (slice_index_or (map unconnected ks) c (new_client d))
same_lines [] c d h = h
same_lines (k ∷ ks) zero d h = record { produce = h.produce; flow = h.flow; unanswered = h.unanswered }
same_lines (k ∷ ks) (suc c) d h = same_lines ks c d h

pub rise_stops : (s : Setup) (w : World) → Sized s w → Everywhere s (AnswersAt s) w → RiseWorld s w → RiseWorld s (stops s w)
unfolding stops
rise_stops s w z all r = record {
  kinds = λ c. same_lines w.clients c (declared_at s c) (r.kinds c);
  once = λ c x there. subst SubsOnce (sym (stops_up s w c x)) (r.once c x there);
  came = λ c x. subst (Packets (CameOf (SubTaken (stops s w).links x c))) (sym (stops_down s w c x))
      (came_grows (SubTaken w.links x c) (SubTaken (stops s w).links x c) (λ session id h. stopping_stays w.links.to_broker c x session id h) (SentDown w.links c x) (r.came c x));
  subs = λ t x there. stopped_rises s (stops s w).links t x (node s t x) w.brokers;
  links = λ c x there n kind id line one.
      subst (AllAfter (RisesAfter _ id)) (sym (stops_down s w c x))
      (rises_grow (topic_at s w (declared_at s c).topic x).ledgers _ (grown_stops s w z all (declared_at s c).topic x there).index id (SentDown w.links c x) (r.links c x there n kind id line one));
}
