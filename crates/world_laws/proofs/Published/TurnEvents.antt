-- An event of a broker that is done keeps it.
use Rattle.std.proofs.Common.{◌≡◌, ◌==◌, ℕ, ◌<◌, Bool, true, false, List, [], ◌∷◌, ◌++◌, length, map, refl, sym, ap, subst, ◌∙◌, arith, inl, inr, ◌⊎◌}
use Rattle.std.specs.Prelude.{Some, if◌then◌else◌, slice_index, slice_set}
use Rattle.std.proofs.lemmas.Bool.{eq-eqb, eqb-true, false≢true}
use Rattle.std.proofs.lemmas.List.{append-nil, take_all}
use Rattle.world_laws.proofs.Types.{Entry, Frame, Out, Packet, Peer}
use Rattle.world_laws.proofs.Types.frame
use Rattle.world_laws.proofs.Types.peer
use Rattle.geo_base.specs.Broker.{Broker, no_broker}
use Rattle.geo_base.specs.Happening.{broker_does, idles, next_stamp}
use Rattle.geo_base.specs.History.{sent_over, sent_with}
use Rattle.geo_base.specs.Link.{Link, took}
use Rattle.geo_base.specs.Nodes.{BrokerNode}
use Rattle.geo_base.specs.Plan.{Plan, done}
use Rattle.geo_base.specs.Planned.{Planned}
use Rattle.geo_base.specs.Scripted.{IsScripted}
use Rattle.geo_base.specs.Setup.{Declared, Setup, declared_at}
use Rattle.geo_base.specs.World.{LinkName, ToBroker, ToClient, World, cell, client_at, delivered, from_broker, link_at, node, packet_at, stamped, taken_from, topic_at}
use Rattle.world_laws.specs.Publishing.{ReceiptHolds, ident_of}
use Rattle.world_laws.proofs.Clients.ClientLinks.{OutHere, Packets, SentDown, ToHere, broker_up, does_down, taken_down}
use Rattle.world_laws.proofs.Induction.Frames.{at_set}
use Rattle.world_laws.proofs.Merges.LinkTables.{delivered_at, delivered_has}
use Rattle.world_laws.proofs.OnceInOrder.Appends.{done_entries}
use Rattle.world_laws.proofs.Published.BrokerEvents.{after_event, event_receipts}
use Rattle.world_laws.proofs.Published.Chained.{Chained, home_there, same_there}
use Rattle.world_laws.proofs.Published.ClientCells.{GoesTo, Linked, over_each, taken_at, takes_it}
use Rattle.world_laws.proofs.Published.InTurn.{AllBelow, ReceiptStands, receipts_longer}
use Rattle.world_laws.proofs.Published.OwnMessages.{next_publishes}
use Rattle.world_laws.proofs.Published.Receipts.{ReceiptOut}
use Rattle.world_laws.proofs.Published.TurnAsides.{SessionsIn, done_in}
use Rattle.world_laws.proofs.Published.TurnCore.{Core, WasOpen, core_aside, core_serves}
use Rattle.world_laws.proofs.Published.TurnLines.{IsNoError}
use Rattle.world_laws.proofs.Published.TurnServes.{Leaves, NoErrorTo, OpenAfter, ReceiptTo, receipts_aside, serve_leaves}
use Rattle.world_laws.proofs.Published.TurnShapes.{CoreAt, NamesApart, NoErrorsAt, ServesHome, TurnOf, home_of, shape_aside, shape_serves}
use Rattle.world_laws.proofs.Replicating.Effects.{Each, each_map}
use Rattle.world_laws.proofs.Replicating.LinkFrames.{same_node}
use Rattle.world_laws.proofs.Replicating.PairRoles.{shape_within}
use Rattle.world_laws.proofs.TopicOrder.Added.{after_is, appended}
use Rattle.world_laws.proofs.Walks.Shapes.{Shape}
use Rattle.world_laws.proofs.Walks.Walk.{on_test}

-- ---- what was sent to c

each_parts : {X : Type 0} (P : X → Type 0) (xs ys : List X) → Each P (xs ++ ys) → Each P xs × Each P ys
each_parts P [] ys h = (tt, h)
each_parts P (x ∷ xs) ys h = let r = each_parts P xs ys h.1 in ((h.0, r.0), r.1)

goes_home : (d : Declared) (c x session : ℕ) (es : List Entry) (f : Frame) (q : Peer) → ReceiptTo d c es f q → ToHere c x x (ReceiptStands d es) session f q
goes_home d c x session es (frame.SendReceipt id z o) (peer.Client y) h = λ same here. h same
goes_home d c x session es f (peer.Client y) h = λ same here. tt
goes_home d c x session es f q h = tt

-- where the event is at another broker no receipt goes to c
goes_elsewhere : (s : Setup) (t y c x session : ℕ) (b : Broker) (es : List Entry) (f : Frame) (q : Peer) → (t ≡ (declared_at s c).topic → y ≡ x → ⊥) → x ≡ (declared_at s c).cluster → ReceiptOut s t y b f q
    → ToHere c x y (ReceiptStands (declared_at s c) es) session f q
goes_elsewhere s t y c x session b es (frame.SendReceipt id z o) (peer.Client i) other home h = λ same here.
    let R : ℕ → Type 0 = λ k. (t ≡ (declared_at s k).topic) × (y ≡ (declared_at s k).cluster) × ReceiptHolds b (ident_of (declared_at s k) z) o in
    let r : R c = subst R same h in absurd (other r.0 here)
goes_elsewhere s t y c x session b es f (peer.Client i) other home h = λ same here. tt
goes_elsewhere s t y c x session b es f q other home h = tt

-- what goes over c's link has no error in it
no_error_to : (c stamp : ℕ) (o : Out) → (GoesTo c o.to → IsNoError o.session o.frame) → NoErrorTo c o.frame o.to
no_error_to c stamp o h = by o.session o.frame o.to h
  where
    by : (session : ℕ) (f : Frame) (q : Peer) → (GoesTo c q → IsNoError session f) → NoErrorTo c f q
    by session (frame.SendError id seq code) (peer.Client z) h = h
    by session (frame.SendError id seq code) (peer.Broker z) h = tt
    by session (frame.SendError id seq code) (peer.Forward z) h = tt
    by session (frame.SendError id seq code) (peer.Back z) h = tt
    by session f q h = tt

-- ---- an event that is done

-- the broker at home, where the event is there or elsewhere
pub record AtHome (s : Setup) (c : ℕ) (w : World) (p : Planned) : Type 0 where
  pub topic : p.topic ≡ (declared_at s c).topic
  pub cluster : p.cluster ≡ (declared_at s c).cluster

pub at_home : (s : Setup) (c : ℕ) (w : World) (p : Planned) → AtHome s c w p ⊎ ((p.topic ≡ (declared_at s c).topic → p.cluster ≡ (declared_at s c).cluster → ⊥))
at_home s c w p = by (p.topic == (declared_at s c).topic) refl (p.cluster == (declared_at s c).cluster) refl
  where
    by : (a : Bool) → (p.topic == (declared_at s c).topic) ≡ a → (b : Bool) → (p.cluster == (declared_at s c).cluster) ≡ b → AtHome s c w p ⊎ (p.topic ≡ (declared_at s c).topic → p.cluster ≡ (declared_at s c).cluster → ⊥)
    by true is true here = inl (record { topic = eqb-true _ _ is; cluster = eqb-true _ _ here })
    by false is b here = inr (λ same at. false≢true (sym is ∙ eq-eqb _ _ same))
    by true is false here = inr (λ same at. false≢true (sym here ∙ eq-eqb _ _ at))

home_same : (s : Setup) (c : ℕ) (w : World) (p : Planned) → AtHome s c w p → topic_at s w p.topic p.cluster ≡ home_of s w c
home_same s c w p h = ap (λ (t : ℕ). topic_at s w t p.cluster) h.topic ∙ ap (λ (x : ℕ). topic_at s w (declared_at s c).topic x) h.cluster

-- the broker after it
pub set_home : (s : Setup) (c : ℕ) (w : World) (p : Planned) (f : Broker → Broker) → IsScripted s → c < length s.clients → Chained s w → AtHome s c w p
    → home_of s (record w { brokers = slice_set w.brokers (node s p.topic p.cluster) (f (topic_at s w p.topic p.cluster)) }) c ≡ f (home_of s w c)
set_home s c w p f scripted lt g h =
    sym (same_there s w p.topic p.cluster (declared_at s c).topic (declared_at s c).cluster (f (topic_at s w p.topic p.cluster)) g.ground.0.0.sized (home_there s scripted c lt) h.topic h.cluster) ∙ ap f (home_same s c w p h)

pub set_else : (s : Setup) (c : ℕ) (w : World) (p : Planned) (b : Broker) → IsScripted s → c < length s.clients → p.cluster < length s.clusters → (p.topic ≡ (declared_at s c).topic → p.cluster ≡ (declared_at s c).cluster → ⊥)
    → home_of s (record w { brokers = slice_set w.brokers (node s p.topic p.cluster) b }) c ≡ home_of s w c
set_else s c w p b scripted lt small other =
    let d = declared_at s c in
    at_set (λ (u : Broker). u ≡ home_of s w c) w.brokers (node s p.topic p.cluster) (node s d.topic d.cluster) b no_broker
    (λ same. let r = same_node s p.topic d.topic p.cluster d.cluster small (home_there s scripted c lt).1 same in absurd (other r.0 r.1)) refl

-- the link to the broker
up_link : (s : Setup) (c : ℕ) (w : World) (p : Planned) (stamp : ℕ) → IsScripted s → c < length s.clients → Linked s w → let k = ToBroker c (declared_at s c).cluster in let ls = delivered (from_broker s p.topic p.cluster) stamp p.plan.sent w.links in
    link_at (taken_from p.takes ls) k ≡ (if takes_it p.takes k then took (link_at w.links k) else link_at w.links k)
up_link s c w p stamp scripted lt linked =
    let x = (declared_at s c).cluster in let k = ToBroker c x in let ls = delivered (from_broker s p.topic p.cluster) stamp p.plan.sent w.links in
    let same : link_at ls k ≡ link_at w.links k = ap (λ (m : List (List Link)). cell m c x) (broker_up s p.topic p.cluster stamp p.plan.sent w.links) in
    taken_at p.takes ls k (delivered_has (from_broker s p.topic p.cluster) stamp p.plan.sent w.links k (linked c x lt (home_there s scripted c lt).1).0)
    ∙ ap (λ (l : Link). if takes_it p.takes k then took l else l) same

-- what came to c before, and what comes now
down_parts : (s : Setup) (c : ℕ) (w : World) (p : Planned) (stamp : ℕ) → IsScripted s → c < length s.clients → Linked s w → let x = (declared_at s c).cluster in let ls = delivered (from_broker s p.topic p.cluster) stamp p.plan.sent w.links in
    Packets IsNoError (SentDown (taken_from p.takes ls) c x)
    → NoErrorsAt s c w × Each (λ (q : Packet). IsNoError q.session q.frame) (sent_over s (ToClient c x) (BrokerNode p.topic p.cluster) (map (sent_with stamp) p.plan.sent))
down_parts s c w p stamp scripted lt linked h =
    let x = (declared_at s c).cluster in let ls = delivered (from_broker s p.topic p.cluster) stamp p.plan.sent w.links in
    let is = taken_down p.takes ls c x ∙ ap (λ (l : Link). l.sent) (delivered_at s (BrokerNode p.topic p.cluster) (ToClient c x) stamp p.plan.sent w.links (linked c x lt (home_there s scripted c lt).1).1) in
    each_parts (λ (q : Packet). IsNoError q.session q.frame) (SentDown w.links c x) (sent_over s (ToClient c x) (BrokerNode p.topic p.cluster) (map (sent_with stamp) p.plan.sent)) (subst (Packets IsNoError) is h)

-- where it serves a packet of c at home
core_served : (s : Setup) (c : ℕ) (w : World) (p : Planned) (stamp : ℕ) → IsScripted s → c < length s.clients → NamesApart s c → TurnOf s w c (Some p) → Chained s w → takes_it p.takes (ToBroker c (declared_at s c).cluster) ≡ true
    → ServesHome s w c p → Each (λ (q : Packet). IsNoError q.session q.frame) (sent_over s (ToClient c (declared_at s c).cluster) (BrokerNode p.topic p.cluster) (map (sent_with stamp) p.plan.sent)) → CoreAt s c w
    → Core (declared_at s c) c (home_of s (record w { brokers = slice_set w.brokers (node s p.topic p.cluster) (done s.per_ledger (topic_at s w p.topic p.cluster) p.plan) }) c)
    (took (link_at w.links (ToBroker c (declared_at s c).cluster))) (client_at s w c) (SentDown (taken_from p.takes (delivered (from_broker s p.topic p.cluster) stamp p.plan.sent w.links)) c (declared_at s c).cluster)
core_served s c w p stamp scripted lt names turn g it serves new h =
    core_serves d c home b' l (client_at s w c) (SentDown w.links c x) ds' more q serves.next entries
    (subst (λ (es : List Entry). AllBelow d (home.entries ++ es)) (take_all (length more) more (omega arith)) (leaves.below (length more)))
    (subst (SessionsIn c (OpenAfter home c q)) (sym is) (done_in c s.per_ledger (OpenAfter home c q) home p.plan leaves.keeps (λ v at. inl (v, at, refl))))
    (λ u at v z session asks. leaves.stands fine v z session asks) receipts h
  where
    d : Declared
    d = declared_at s c

    x : ℕ
    x = d.cluster

    home : Broker
    home = home_of s w c

    l : Link
    l = link_at w.links (ToBroker c x)

    q : Packet
    q = serves.packet

    more : List Entry
    more = appended p.plan.writes

    b' : Broker
    b' = home_of s (record w { brokers = slice_set w.brokers (node s p.topic p.cluster) (done s.per_ledger (topic_at s w p.topic p.cluster) p.plan) }) c

    is : b' ≡ done s.per_ledger home p.plan
    is = set_home s c w p (λ b. done s.per_ledger b p.plan) scripted lt g (record { topic = serves.topic; cluster = serves.cluster })

    entries : b'.entries ≡ home.entries ++ more
    entries = ap (λ (b : Broker). b.entries) is ∙ done_entries s.per_ledger home p.plan ∙ after_is home.entries p.plan.writes

    leaves : Leaves d c home q p.plan
    leaves = serve_leaves s c home l.sent l.taken q p.plan names.named (turn it q serves.next) serves.served (next_publishes s w c x q (λ i y. (g.clients i).up y) serves.next) h.turned.0 h.begins h.below serves.next

    P : Packet → Type 0
    P a = IsNoError a.session a.frame

    fine : Each (λ (o : Out). NoErrorTo c o.frame o.to) p.plan.sent
    fine =
        each_map (λ (o : Out). GoesTo c o.to → P (stamped stamp o)) (λ (o : Out). NoErrorTo c o.frame o.to) (λ o k. no_error_to c stamp o k) p.plan.sent
        (over_each s p.topic c x stamp P p.plan.sent (subst (λ (y : ℕ). Each P (sent_over s (ToClient c x) (BrokerNode p.topic y) (map (sent_with stamp) p.plan.sent))) serves.cluster new))

    ds' : List Packet
    ds' = SentDown (taken_from p.takes (delivered (from_broker s p.topic p.cluster) stamp p.plan.sent w.links)) c x

    Q : ℕ → Frame → Type 0
    Q = ReceiptStands d (home.entries ++ more)

    outs : Each (OutHere c x p.cluster Q) p.plan.sent
    outs =
        subst (λ (y : ℕ). Each (OutHere c x y Q) p.plan.sent) (sym serves.cluster)
        (each_map (λ (o : Out). ReceiptTo d c (home.entries ++ more) o.frame o.to) (OutHere c x x Q) (λ o k. goes_home d c x o.session (home.entries ++ more) o.frame o.to k) p.plan.sent (leaves.receipts fine))

    receipts : Packets Q ds'
    receipts = does_down s p.topic p.cluster stamp c x Q p.takes p.plan.sent w.links outs (receipts_longer d home.entries more (SentDown w.links c x) h.receipts)

-- where it does not
core_else : (s : Setup) (c : ℕ) (w : World) (p : Planned) (stamp : ℕ) → IsScripted s → c < length s.clients → NamesApart s c → Shape s w p → Chained s w → takes_it p.takes (ToBroker c (declared_at s c).cluster) ≡ false → CoreAt s c w
    → Core (declared_at s c) c (home_of s (record w { brokers = slice_set w.brokers (node s p.topic p.cluster) (done s.per_ledger (topic_at s w p.topic p.cluster) p.plan) }) c)
    (link_at w.links (ToBroker c (declared_at s c).cluster)) (client_at s w c) (SentDown (taken_from p.takes (delivered (from_broker s p.topic p.cluster) stamp p.plan.sent w.links)) c (declared_at s c).cluster)
core_else s c w p stamp scripted lt names shape g it h = by (at_home s c w p)
  where
    d : Declared
    d = declared_at s c

    x : ℕ
    x = d.cluster

    home : Broker
    home = home_of s w c

    l : Link
    l = link_at w.links (ToBroker c x)

    b' : Broker
    b' = home_of s (record w { brokers = slice_set w.brokers (node s p.topic p.cluster) (done s.per_ledger (topic_at s w p.topic p.cluster) p.plan) }) c

    ds' : List Packet
    ds' = SentDown (taken_from p.takes (delivered (from_broker s p.topic p.cluster) stamp p.plan.sent w.links)) c x

    by : AtHome s c w p ⊎ (p.topic ≡ d.topic → p.cluster ≡ x → ⊥) → Core d c b' l (client_at s w c) ds'
    by (inl at) =
        let more = appended p.plan.writes in let Q = ReceiptStands d (home.entries ++ more) in
        let a = shape_aside s w c (WasOpen home c) p shape g.ground.0.1 (λ i y. (g.clients i).up y) names at.cluster it in
        let is = set_home s c w p (λ b. done s.per_ledger b p.plan) scripted lt g at in
        let outs = subst (λ (y : ℕ). Each (OutHere c x y Q) p.plan.sent) (sym at.cluster)
        (each_map (λ (o : Out). ReceiptTo d c (home.entries ++ more) o.frame o.to) (OutHere c x x Q) (λ o k. goes_home d c x o.session (home.entries ++ more) o.frame o.to k) p.plan.sent
        (receipts_aside d c (home.entries ++ more) p.plan.sent a.quiet)) in
        core_aside d c home b' l (client_at s w c) (SentDown w.links c x) ds' more (ap (λ (b : Broker). b.entries) is ∙ done_entries s.per_ledger home p.plan ∙ after_is home.entries p.plan.writes) a.others
        (subst (SessionsIn c (WasOpen home c)) (sym is) (done_in c s.per_ledger (WasOpen home c) home p.plan a.keeps (λ v there. (v, there, refl))))
        (does_down s p.topic p.cluster stamp c x Q p.takes p.plan.sent w.links outs (receipts_longer d home.entries more (SentDown w.links c x) h.receipts)) h
    by (inr other) =
        let Q = ReceiptStands d (home.entries ++ []) in
        let is = set_else s c w p (done s.per_ledger (topic_at s w p.topic p.cluster) p.plan) scripted lt (shape_within s w p shape) other in
        let outs = each_map (λ (o : Out). ReceiptOut s p.topic p.cluster (done s.per_ledger (topic_at s w p.topic p.cluster) p.plan) o.frame o.to) (OutHere c x p.cluster Q)
        (λ o k. goes_elsewhere s p.topic p.cluster c x o.session _ (home.entries ++ []) o.frame o.to other refl k) p.plan.sent (event_receipts s w p scripted shape g) in
        core_aside d c home b' l (client_at s w c) (SentDown w.links c x) ds' [] (ap (λ (b : Broker). b.entries) is ∙ sym (append-nil home.entries)) tt
        (subst (SessionsIn c (WasOpen home c)) (sym is) (λ v there. (v, there, refl)))
        (does_down s p.topic p.cluster stamp c x Q p.takes p.plan.sent w.links outs (receipts_longer d home.entries [] (SentDown w.links c x) h.receipts)) h

core_after : (s : Setup) (c : ℕ) (w : World) (p : Planned) → IsScripted s → c < length s.clients → NamesApart s c → Shape s w p → TurnOf s w c (Some p) → Chained s w → Linked s w → p.plan.idle ≡ false → (NoErrorsAt s c w → CoreAt s c w)
    → NoErrorsAt s c (after_event s w p) → CoreAt s c (after_event s w p)
core_after s c w p scripted lt names shape turn g linked busy old fine = by (takes_it p.takes k) refl
  where
    x : ℕ
    x = (declared_at s c).cluster

    k : LinkName
    k = ToBroker c x

    stamp : ℕ
    stamp = next_stamp (slice_index w.broker_clocks (node s p.topic p.cluster)) (packet_at w.links p.takes)

    parts : NoErrorsAt s c w × Each (λ (q : Packet). IsNoError q.session q.frame) (sent_over s (ToClient c x) (BrokerNode p.topic p.cluster) (map (sent_with stamp) p.plan.sent))
    parts = down_parts s c w p stamp scripted lt linked fine

    link' : link_at (after_event s w p).links k ≡ (if takes_it p.takes k then took (link_at w.links k) else link_at w.links k)
    link' = up_link s c w p stamp scripted lt linked

    C : Link → Type 0
    C l = Core (declared_at s c) c (home_of s (after_event s w p) c) l (client_at s w c) (SentDown (after_event s w p).links c x)

    by : (t : Bool) → takes_it p.takes k ≡ t → CoreAt s c (after_event s w p)
    by true it =
        subst C (sym (link' ∙ ap (λ (t : Bool). if t then took (link_at w.links k) else link_at w.links k) it))
        (elim (shape_serves s w c p shape it) [
          | inl empty ↦ absurd (false≢true (sym busy ∙ ap (λ (q : Plan). q.idle) empty.plan))
          | inr serves ↦ core_served s c w p stamp scripted lt names turn g it serves parts.1 (old parts.0)
        ])
    by false it =
        subst C (sym (link' ∙ ap (λ (t : Bool). if t then took (link_at w.links k) else link_at w.links k) it)) (core_else s c w p stamp scripted lt names shape g it (old parts.0))

pub core_does : (s : Setup) (c : ℕ) (w : World) (p : Planned) → IsScripted s → c < length s.clients → NamesApart s c → Shape s w p → TurnOf s w c (Some p) → Chained s w → Linked s w → (NoErrorsAt s c w → CoreAt s c w)
    → NoErrorsAt s c (broker_does s w p) → CoreAt s c (broker_does s w p)
unfolding broker_does
core_does s c w p scripted lt names shape turn g linked old fine =
    let Goal : World → Type 0 = λ w'. NoErrorsAt s c w' → CoreAt s c w' in
    on_test Goal p.plan.idle (idles w) (after_event s w p) (λ idle still. old still) (λ busy new. core_after s c w p scripted lt names shape turn g linked busy old new) fine
