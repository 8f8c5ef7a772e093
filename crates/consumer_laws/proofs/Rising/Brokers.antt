-- Every event of a broker keeps that what is sent to each consumer rises.
use Rattle.std.proofs.Common.{◌≡◌, ℕ, zero, suc, ◌+◌, ◌<◌, ◌≤◌, Bool, true, false, List, [], ◌∷◌, filter, length, refl, sym, ap, subst, ◌∙◌, ◌==◌, arith, inl, inr, not}
use Rattle.std.specs.Prelude.{Some, ◌&&◌, ◌||◌, max, nat_le}
use Rattle.std.proofs.lemmas.Bool.{eqb-false, false≢true}
use Rattle.std.proofs.lemmas.Bool.Decides.{nat_tests}
use Rattle.world_laws.proofs.Types.{Consumer, Entry, Frame, Out, Packet, Peer, Position, SubKind}
use Rattle.world_laws.proofs.Types.change
use Rattle.world_laws.proofs.Types.frame
use Rattle.world_laws.proofs.Types.peer
use Rattle.geo_base.specs.Broker.{Broker, sub_named}
use Rattle.geo_base.specs.Cursor.{has}
use Rattle.geo_base.specs.Dispatcher.{consumer_at, given, is_due, least_due, pick}
use Rattle.geo_base.specs.Entry.{key_bytes}
use Rattle.geo_base.specs.Offering.{message, source_of}
use Rattle.geo_base.specs.Plan.{Plan, plan_of}
use Rattle.geo_base.specs.Planned.{Planned}
use Rattle.geo_base.specs.Safe.{IsEntry}
use Rattle.geo_base.specs.Setup.{Setup, declared_at}
use Rattle.geo_base.specs.Subscription.{Subscription}
use Rattle.geo_base.specs.Topic.{index_of, position_at}
use Rattle.geo_base.specs.Link.{Link}
use Rattle.geo_base.specs.World.{World, cell, client_at, delivered, from_broker, site, stamped, topic_at}
use Rattle.world_laws.proofs.Induction.Frames.{cell_set}
use Rattle.world_laws.proofs.Replicating.PairRoles.{shape_within}
use Rattle.world_laws.proofs.TopicOrder.Ledgers.{at_index}
use Rattle.consumer_laws.proofs.Links.Sending.{Pushes, after_push, delivered_cell}
use Rattle.world_laws.proofs.Clients.CalmWalk.{Acts, shape_acts}
use Rattle.world_laws.proofs.Clients.ClientLinks.{OutHere, ToHere, Packets, SentDown, does_down, halts_down}
use Rattle.world_laws.proofs.Clients.Consumers.{IsCalmOut, IsCalmTo, IsQuiet}
use Rattle.world_laws.proofs.Replicating.Effects.{Each, each_map}
use Rattle.world_laws.proofs.Walks.Shapes.{Shape}
use Rattle.consumer_laws.proofs.Rising.Plans.{passed_less}
use Rattle.world_laws.proofs.Walks.Walk.{on_test}
use Rattle.consumer_laws.proofs.Rising.Shapes.{NotGiven}
use Rattle.consumer_laws.proofs.Subscriptions.Plans.{numbers}
use Rattle.consumer_laws.proofs.Worlds.BrokerEvents.{Around, DoneLinks, may_give, sub_there}
use Rattle.consumer_laws.proofs.Worlds.Facts.{AllAfter, MadeBy}
use Rattle.consumer_laws.proofs.Worlds.Growing.{MayGive, picked_made, one_line}
use Rattle.consumer_laws.proofs.Rising.Facts.{JoinedAt, Moves, RiseWorld, SubTaken, moved_fact}
use Rattle.consumer_laws.proofs.Rising.Links.{CameOf, LessOf, came_grows, RisesAfter, TakenOn, broker_up, quiet_came, quiet_rises, taking_stays}
use Rattle.consumer_laws.proofs.Rising.Subs.{Apart, fewer_undue, NoneOf, NoneTo, RiseFact, RiseOf, UndueOf, UndueTo}
use Rattle.consumer_laws.specs.Lines.{IsKindLine}
use Rattle.consumer_laws.proofs.Subscriptions.WhatIsOut.{FirstPicked, IsMade, SubFact, each_two, first_picked}
use Rattle.geo_base.specs.Settled.{SettledSoFar, serves_one}
use Rattle.world_laws.proofs.Dispatching.Remembers.{IsLeast, least_due_is}
use Rattle.world_laws.proofs.Dispatching.SubFrames.{AllSubs, found_is}
use Rattle.world_laws.proofs.Merges.PeerWalk.{pick_has}
use Rattle.world_laws.proofs.OnceInOrder.Members.{below_or}
use Rattle.world_laws.proofs.Replicating.Sizes.{IsThere}
use Rattle.world_laws.proofs.Snapshotting.SecondRound.{Knows}

-- ---- what a broker of topic t at x sends to a client: nothing that is a message, or the one that it gives

pub record Gave (s : Setup) (w : World) (t x : ℕ) (p : Plan) : Type 0 where
  pub name : List ℕ
  pub sub : Subscription
  pub index : ℕ
  pub at : ℕ
  pub entry : Entry
  pub named : sub_named (topic_at s w t x).subs name ≡ Some sub
  pub least : least_due sub (length (topic_at s w t x).entries) ≡ Some index
  pub stands : IsEntry (topic_at s w t x) index entry
  pub picked : pick sub.kind sub.consumers (key_bytes entry.meta.key) ≡ Some at
  pub is : p ≡ plan_of [] (change.Given sub.name index at ∷ []) (message (site s t x) (topic_at s w t x) index entry (consumer_at sub.consumers at))

abbrev pub SentOf : (s : Setup) (w : World) (t x : ℕ) → (ℕ → Frame → Type 0) → (p : Plan) → Gave s w t x p → Type 0
SentOf s w t x Q p g =
    let b = topic_at s w t x in let k = consumer_at g.sub.consumers g.at in
    Q (numbers b k.client) (frame.Message k.id (position_at b.ledgers g.index) (source_of x g.entry) g.entry)

calm_here : (c m y x session : ℕ) (Q : ℕ → Frame → Type 0) (f : Frame) (q : Peer) → ((a : ℕ) (h : Frame) → IsQuiet h → Q a h) → IsCalmTo c m session f q → ToHere c y x Q session f q
calm_here c m y x session Q f (peer.Client z) quiet h = λ e e'. quiet session f (h e).1
calm_here c m y x session Q f (peer.Forward z) quiet h = tt
calm_here c m y x session Q f (peer.Back z) quiet h = tt
calm_here c m y x session Q f (peer.Broker z) quiet h = tt

pub push_of : (s : Setup) (w : World) (t x c m y : ℕ) (Q : ℕ → Frame → Type 0) (p : Plan) → Acts t c m (declared_at s c) (site s t x) (topic_at s w t x) p
    → ((session : ℕ) (f : Frame) → IsQuiet f → Q session f) → ((g : Gave s w t x p) → (consumer_at g.sub.consumers g.at).client ≡ c → x ≡ y → SentOf s w t x Q p g) → Each (OutHere c y x Q) p.sent
push_of s w t x c m y Q p (Acts.Calmly q calm) quiet gives =
    each_map (IsCalmOut c m) (OutHere c y x Q) (λ o out. calm_here c m y x o.session Q o.frame o.to quiet out) q.sent calm.sent
push_of s w t x c m y Q p (Acts.Giving n v i at e named least lacks stands picked) quiet gives = (
  λ mine here. gives (record { name = n; sub = v; index = i; at = at; entry = e; named = named; least = least; stands = stands; picked = picked; is = refl }) mine here,
  tt,
)

-- so a fact of all packets on a client's link is kept by an event
pub pushed : (s : Setup) (w : World) (p : Planned) (stamp c m y : ℕ) (Q : ℕ → Frame → Type 0) → Acts p.topic c m (declared_at s c) (site s p.topic p.cluster) (topic_at s w p.topic p.cluster) p.plan
    → ((session : ℕ) (f : Frame) → IsQuiet f → Q session f)
    → ((g : Gave s w p.topic p.cluster p.plan) → (consumer_at g.sub.consumers g.at).client ≡ c → p.cluster ≡ y → SentOf s w p.topic p.cluster Q p.plan g)
    → Packets Q (SentDown w.links c y) → Packets Q (SentDown (DoneLinks s w p stamp) c y)
pushed s w p stamp c m y Q acts quiet gives h =
    does_down s p.topic p.cluster stamp c y Q p.takes p.plan.sent w.links (push_of s w p.topic p.cluster c m y Q p.plan acts quiet gives) h

-- what gives changes a subscription so
pub gives_not : (s : Setup) (w : World) (t x : ℕ) (p : Plan) → Gave s w t x p → Each NotGiven p.changes → ⊥
gives_not s w t x p g none = let h : Each NotGiven (change.Given g.sub.name g.index g.at ∷ []) = subst (λ (q : Plan). Each NotGiven q.changes) g.is none in h.0

-- ---- what a broker knows when it gives

gave_there : (s : Setup) (w : World) (t x : ℕ) (p : Plan) → Knows s w → x < length s.clusters → Gave s w t x p → IsThere s t x
gave_there s w t x p k lt g = (sub_there s w t x g.name g.sub k g.named, lt)

gave_may : (s : Setup) (told : SettledSoFar) (w : World) (t x : ℕ) (p : Plan) → Around s told w → IsThere s t x → (g : Gave s w t x p) → MayGive s told w t x (topic_at s w t x) g.sub g.index g.at g.entry
gave_may s told w t x p a there g = may_give s told w t x g.name g.sub g.index g.at g.entry a there g.named g.least g.stands g.picked

gave_permit : (s : Setup) (w : World) (t x : ℕ) (p : Plan) → (g : Gave s w t x p) → 0 < (consumer_at g.sub.consumers g.at).permits
gave_permit s w t x p g = pick_has g.sub.kind g.sub.consumers (key_bytes g.entry.meta.key) g.at g.picked

-- its consumer was made by its client
gave_made : (s : Setup) (told : SettledSoFar) (w : World) (t x : ℕ) (p : Plan) → Around s told w → IsThere s t x → (g : Gave s w t x p)
    → MadeBy s w t g.sub.name g.sub.kind (consumer_at g.sub.consumers g.at).client (consumer_at g.sub.consumers g.at).id
gave_made s told w t x p a there g =
    picked_made (MadeBy s w t) (topic_at s w t x).entries (numbers (topic_at s w t x)) (λ z. SentDown w.links z x) g.sub g.at (gave_permit s w t x p g) (gave_may s told w t x p a there g).fact

gave_rises : (s : Setup) (w : World) (t x : ℕ) (p : Plan) → IsThere s t x → RiseWorld s w → (g : Gave s w t x p)
    → RiseFact (JoinedAt w.links x (numbers (topic_at s w t x))) (topic_at s w t x).ledgers (numbers (topic_at s w t x)) (λ c. SentDown w.links c x) g.sub
gave_rises s w t x p there r g =
    (found_is (RiseFact (JoinedAt w.links x (numbers (topic_at s w t x))) (topic_at s w t x).ledgers (numbers (topic_at s w t x)) (λ c. SentDown w.links c x)) _ (topic_at s w t x).subs g.sub g.named (r.subs t x there)).0

-- of each of a list, the one at a place that has a permit
each_at_permit : (P : Consumer → Type 0) (ks : List Consumer) (a : ℕ) → 0 < (consumer_at ks a).permits → Each P ks → P (consumer_at ks a)
each_at_permit P [] a lt h = absurd (omega (arith, lt))
each_at_permit P (k ∷ ks) zero lt h = h.0
each_at_permit P (k ∷ ks) (suc a) lt h = each_at_permit P ks a lt h.1

pub gave_joined : (s : Setup) (w : World) (t x : ℕ) (p : Plan) → IsThere s t x → RiseWorld s w → (g : Gave s w t x p) → let k = consumer_at g.sub.consumers g.at in
    SubTaken w.links x k.client (numbers (topic_at s w t x) k.client) k.id
gave_joined s w t x p there r g =
    each_at_permit (λ (k : Consumer). SubTaken w.links x k.client (numbers (topic_at s w t x) k.client) k.id) g.sub.consumers g.at (gave_permit s w t x p g) (gave_rises s w t x p there r g).joins

-- where one is served it rises
gave_first : (s : Setup) (w : World) (t x : ℕ) (p : Plan) (ls : List ℕ) (num : ℕ → ℕ) (sent : ℕ → List Packet) (g : Gave s w t x p) → serves_one g.sub.kind ≡ true → RiseOf ls num sent (is_due g.sub) g.sub.consumers
    → UndueTo ls num sent (is_due g.sub) (consumer_at g.sub.consumers g.at)
gave_first s w t x p ls num sent g one h =
    let f = first_picked g.sub.kind g.sub.consumers (key_bytes g.entry.meta.key) g.at one g.picked in
    let there : RiseOf ls num sent (is_due g.sub) (f.first ∷ f.rest) = subst (RiseOf ls num sent (is_due g.sub)) f.is h in
    let is_first : consumer_at g.sub.consumers g.at ≡ f.first = ap (consumer_at g.sub.consumers) f.zero_at ∙ ap (λ (js : List Consumer). consumer_at js 0) f.is in
    subst (UndueTo ls num sent (is_due g.sub)) (sym is_first) there.0

-- the least that is due is
least_is_due : (v : Subscription) (m i : ℕ) → IsLeast v 0 m i → is_due v i ≡ true
least_is_due v m i h = h.due

least_above : (v : Subscription) (m i j : ℕ) → IsLeast v 0 m i → ((k : ℕ) → k ≤ j → is_due v k ≡ false) → j < i
least_above v m i j least none =
    elim (below_or j i) [ inl lt ↦ lt | inr le ↦ absurd (false≢true (sym (none i le) ∙ least_is_due v m i least)) ]

-- ---- the links

pub quiet_none : (session id a : ℕ) (f : Frame) → IsQuiet f → NoneOf session id a f
quiet_none session id a (frame.Message b p source e) q = absurd q
quiet_none session id a f q = tt

quiet_undue : (ls : List ℕ) (due : ℕ → Bool) (session id a : ℕ) (f : Frame) → IsQuiet f → UndueOf ls due session id a f
quiet_undue ls due session id a (frame.Message b p source e) q = absurd q
quiet_undue ls due session id a f q = tt

-- SUBSCRIBEs that were taken
pub sub_stays : (s : Setup) (w : World) (p : Planned) (stamp c x session id : ℕ) → SubTaken w.links x c session id → SubTaken (DoneLinks s w p stamp) x c session id
sub_stays s w p stamp c x session id h =
    taking_stays p.takes (delivered (from_broker s p.topic p.cluster) stamp p.plan.sent w.links) c x session id
    (subst (λ (m : List (List Link)). TakenOn session id (cell m c x)) (sym (broker_up s p.topic p.cluster stamp p.plan.sent w.links)) h)

pub came_done : (s : Setup) (told : SettledSoFar) (w : World) (p : Planned) (stamp c y : ℕ) → Shape s w p → Around s told w → RiseWorld s w → Packets (CameOf (SubTaken (DoneLinks s w p stamp) y c)) (SentDown (DoneLinks s w p stamp) c y)
came_done s told w p stamp c y shape a r =
    let T : ℕ → ℕ → Type 0 = SubTaken (DoneLinks s w p stamp) y c in
    pushed s w p stamp c (client_at s w c).connection y (CameOf T) (shape_acts s w c (client_at s w c).connection p (a.hands.meets c).up shape) (λ session f q. quiet_came T session f q)
    (λ g mine here.
    let there = gave_there s w p.topic p.cluster p.plan a.now.knows (shape_within s w p shape) g in
    let k = consumer_at g.sub.consumers g.at in
    subst (λ (z : ℕ). SubTaken (DoneLinks s w p stamp) z c (numbers (topic_at s w p.topic p.cluster) k.client) k.id) here
    (subst (λ (z : ℕ). SubTaken (DoneLinks s w p stamp) p.cluster z (numbers (topic_at s w p.topic p.cluster) k.client) k.id) mine
    (sub_stays s w p stamp k.client p.cluster (numbers (topic_at s w p.topic p.cluster) k.client) k.id (gave_joined s w p.topic p.cluster p.plan there r g))))
    (came_grows (SubTaken w.links y c) T (λ session id h. sub_stays s w p stamp c y session id h) (SentDown w.links c y) (r.came c y))

-- the message that is given stands above all that were sent to its consumer
undue_less : (ls : List ℕ) (v : Subscription) (m i session id s : ℕ) (p : Position) (f : Frame) → IsLeast v 0 m i → index_of ls p ≡ Some i → UndueOf ls (is_due v) session id s f → LessOf ls session id p s f
undue_less ls v m i session id s p (frame.Message a q source e) least at h = λ same is. let u = h same is in (u.0, i, u.1, at, least_above v m i u.0 least u.2)
undue_less ls v m i session id s p f least at h = tt

gave_above : (s : Setup) (told : SettledSoFar) (w : World) (t x : ℕ) (p : Plan) → Around s told w → IsThere s t x → RiseWorld s w → (g : Gave s w t x p) → serves_one g.sub.kind ≡ true
    → let b = topic_at s w t x in let k = consumer_at g.sub.consumers g.at in Packets (LessOf b.ledgers (numbers b k.client) k.id (position_at b.ledgers g.index)) (SentDown w.links k.client x)
gave_above s told w t x p a there r g one =
    let b = topic_at s w t x in let k = consumer_at g.sub.consumers g.at in
    let least = least_due_is g.sub 0 (length b.entries) g.index g.least in
    let high = least.high in let whole = (a.now.knows.answers t x there).numbered.whole in
    let at : index_of b.ledgers (position_at b.ledgers g.index) ≡ Some g.index = at_index b.ledgers g.index (omega (arith, high, whole)) in
    each_map (λ (q : Packet). UndueOf b.ledgers (is_due g.sub) (numbers b k.client) k.id q.session q.frame) (λ (q : Packet). LessOf b.ledgers (numbers b k.client) k.id (position_at b.ledgers g.index) q.session q.frame)
    (λ q u. undue_less b.ledgers g.sub (length b.entries) g.index (numbers b k.client) k.id q.session (position_at b.ledgers g.index) q.frame least at u) (SentDown w.links k.client x)
    (gave_first s w t x p b.ledgers (numbers b) (λ c. SentDown w.links c x) g one ((gave_rises s w t x p there r g).one one).1)

calm_after_push : (c m x y stamp : ℕ) (F : List Packet → ℕ → Frame → Type 0) (o : Out) (q : Peer) → ((before : List Packet) (session : ℕ) (f : Frame) → IsQuiet f → F before session f)
    → IsCalmTo c m o.session o.frame q → Pushes c y x (λ (l : Link). AllAfter F l.sent) stamp o q
calm_after_push c m x y stamp F o (peer.Client z) quiet h = λ e e' l f. after_push F l.sent (stamped stamp o) f (quiet l.sent o.session o.frame (h e).1)
calm_after_push c m x y stamp F o (peer.Forward z) quiet h = tt
calm_after_push c m x y stamp F o (peer.Back z) quiet h = tt
calm_after_push c m x y stamp F o (peer.Broker z) quiet h = tt

after_sent : (s : Setup) (w : World) (t x c m y stamp : ℕ) (F : List Packet → ℕ → Frame → Type 0) (p : Plan) → Acts t c m (declared_at s c) (site s t x) (topic_at s w t x) p
    → ((before : List Packet) (session : ℕ) (f : Frame) → IsQuiet f → F before session f)
    → ((g : Gave s w t x p) → (consumer_at g.sub.consumers g.at).client ≡ c → x ≡ y → SentOf s w t x (F (SentDown w.links c y)) p g)
    → AllAfter F (SentDown w.links c y) → AllAfter F (SentDown (delivered (from_broker s t x) stamp p.sent w.links) c y)
after_sent s w t x c m y stamp F p (Acts.Calmly q calm) quiet gives h =
    delivered_cell s t x stamp c y (λ (l : Link). AllAfter F l.sent) q.sent w.links (each_map (IsCalmOut c m) (λ (o : Out). Pushes c y x (λ (l : Link). AllAfter F l.sent) stamp o o.to) (λ o out. calm_after_push c m x y stamp F o o.to quiet out) q.sent calm.sent) h
after_sent s w t x c m y stamp F p (Acts.Giving n v i at e named least lacks stands picked) quiet gives h =
    let b = topic_at s w t x in let k = consumer_at v.consumers at in let z = k.client in
    let number : ℕ = numbers b z in let sent : Frame = frame.Message k.id (position_at b.ledgers i) (source_of x e) e in
    cell_set (λ (l : Link). AllAfter F l.sent) w.links.to_client z x _ c y
    (λ e1 e2.
    let same : SentDown w.links c y ≡ SentDown w.links z x = ap (λ (u : ℕ). SentDown w.links u y) (sym e1) ∙ ap (λ (u : ℕ). SentDown w.links z u) (sym e2) in
    after_push F (SentDown w.links z x) (record { session = number; stamp = stamp; frame = sent }) (subst (AllAfter F) same h)
    (subst (λ (ps : List Packet). F ps number sent) same (gives (record { name = n; sub = v; index = i; at = at; entry = e; named = named; least = least; stands = stands; picked = picked; is = refl }) e1 e2))) h

pub links_done : (s : Setup) (told : SettledSoFar) (w : World) (p : Planned) (stamp c y : ℕ) → Shape s w p → Around s told w → RiseWorld s w → IsThere s (declared_at s c).topic y → (n : List ℕ) (kind : SubKind) (id : ℕ)
    → IsKindLine (declared_at s c) id n kind → serves_one kind ≡ true → AllAfter (RisesAfter (topic_at s w (declared_at s c).topic y).ledgers id) (SentDown (DoneLinks s w p stamp) c y)
links_done s told w p stamp c y shape a r at_y n kind id line one =
    subst (AllAfter F) (sym (halts_down c y p.takes (delivered (from_broker s p.topic p.cluster) stamp p.plan.sent w.links)))
    (after_sent s w p.topic p.cluster c (client_at s w c).connection y stamp F p.plan (shape_acts s w c (client_at s w c).connection p (a.hands.meets c).up shape) (λ before session f q. quiet_rises ls id before session f q) new
    (r.links c y at_y n kind id line one))
  where
    ls : List ℕ
    ls = (topic_at s w (declared_at s c).topic y).ledgers

    F : List Packet → ℕ → Frame → Type 0
    F = RisesAfter ls id

    new : (g : Gave s w p.topic p.cluster p.plan) → (consumer_at g.sub.consumers g.at).client ≡ c → p.cluster ≡ y → SentOf s w p.topic p.cluster (F (SentDown w.links c y)) p.plan g
    new g mine here is_id =
        let t = p.topic in let x = p.cluster in
        let there = gave_there s w t x p.plan a.now.knows (shape_within s w p shape) g in
        let made = gave_made s told w t x p.plan a there g in
        let b = topic_at s w t x in let k = consumer_at g.sub.consumers g.at in
        let line' : IsKindLine (declared_at s k.client) k.id n kind = subst (λ (j : ℕ). IsKindLine (declared_at s k.client) j n kind) (sym is_id) (subst (λ (z : ℕ). IsKindLine (declared_at s z) id n kind) (sym mine) line) in
        let kinds = one_line (declared_at s k.client) k.id g.sub.name n g.sub.kind kind made.1 line' in
        let above = gave_above s told w t x p.plan a there r g (subst (λ (kd : SubKind). serves_one kd ≡ true) (sym kinds.1) one) in
        let num = numbers b k.client in let pos = position_at b.ledgers g.index in
        subst (λ (j : ℕ). Packets (LessOf ls num j pos) (SentDown w.links c y)) is_id
        (subst (λ (z : ℕ). Packets (LessOf (topic_at s w (declared_at s c).topic z).ledgers num k.id pos) (SentDown w.links c z)) here
        (subst (λ (z : ℕ). Packets (LessOf (topic_at s w (declared_at s z).topic x).ledgers num k.id pos) (SentDown w.links z x)) mine
        (subst (λ (u : ℕ). Packets (LessOf (topic_at s w u x).ledgers num k.id pos) (SentDown w.links k.client x)) (sym made.0) above)))

-- ---- subscriptions

-- how a consumer of whatever topic u at y moves, to whom the plan gives nothing
pub consumer_moves : (s : Setup) (told : SettledSoFar) (w : World) (p : Planned) (stamp u y : ℕ) → Shape s w p → Around s told w → (k : Consumer)
    → ((g : Gave s w p.topic p.cluster p.plan) → (consumer_at g.sub.consumers g.at).client ≡ k.client → p.cluster ≡ y → (consumer_at g.sub.consumers g.at).id ≡ k.id → ⊥)
    → let b = topic_at s w u y in Moves (JoinedAt w.links y (numbers b)) (JoinedAt (DoneLinks s w p stamp) y (numbers b)) b.ledgers b.ledgers (numbers b) (numbers b) (λ c. SentDown w.links c y) (λ c. SentDown (DoneLinks s w p stamp) c y) k
consumer_moves s told w p stamp u y shape a k other = record {
  joins = λ h. sub_stays s w p stamp k.client y (numbers (topic_at s w u y) k.client) k.id h;
  none = λ h. pushed s w p stamp k.client m y (NoneOf (numbers (topic_at s w u y) k.client) k.id) acts (λ session f q. quiet_none (numbers (topic_at s w u y) k.client) k.id session f q)
      (λ g mine here same is. other g mine here is) h;
  undue = λ due h. pushed s w p stamp k.client m y (UndueOf (topic_at s w u y).ledgers due (numbers (topic_at s w u y) k.client) k.id) acts
      (λ session f q. quiet_undue (topic_at s w u y).ledgers due (numbers (topic_at s w u y) k.client) k.id session f q) (λ g mine here same is. absurd (other g mine here is)) h;
}
  where
    m : ℕ
    m = (client_at s w k.client).connection

    acts : Acts p.topic k.client m (declared_at s k.client) (site s p.topic p.cluster) (topic_at s w p.topic p.cluster) p.plan
    acts = shape_acts s w k.client m p (a.hands.meets k.client).up shape

-- of a topic that the event leaves alone
pub other_subs : (s : Setup) (told : SettledSoFar) (w : World) (p : Planned) (stamp u y : ℕ) → Shape s w p → Around s told w → RiseWorld s w → IsThere s u y → ((p.topic ≡ u) × (p.cluster ≡ y) → ⊥)
    → let b = topic_at s w u y in AllSubs (RiseFact (JoinedAt (DoneLinks s w p stamp) y (numbers b)) b.ledgers (numbers b) (λ c. SentDown (DoneLinks s w p stamp) c y)) b
other_subs s told w p stamp u y shape a r there other =
    let b = topic_at s w u y in
    each_two (RiseFact (JoinedAt w.links y (numbers b)) b.ledgers (numbers b) (λ c. SentDown w.links c y)) (SubFact (MadeBy s w u) b.entries (numbers b) (λ c. SentDown w.links c y))
    (RiseFact (JoinedAt (DoneLinks s w p stamp) y (numbers b)) b.ledgers (numbers b) (λ c. SentDown (DoneLinks s w p stamp) c y))
    (λ v f o.
    moved_fact (JoinedAt w.links y (numbers b)) (JoinedAt (DoneLinks s w p stamp) y (numbers b)) b.ledgers b.ledgers (numbers b) (numbers b) (λ c. SentDown w.links c y) (λ c. SentDown (DoneLinks s w p stamp) c y) v
    (each_map (IsMade (MadeBy s w u) v.name v.kind) (Moves (JoinedAt w.links y (numbers b)) (JoinedAt (DoneLinks s w p stamp) y (numbers b)) b.ledgers b.ledgers (numbers b) (numbers b) (λ c. SentDown w.links c y) (λ c. SentDown (DoneLinks s w p stamp) c y))
    (λ k made. consumer_moves s told w p stamp u y shape a k
    (λ g mine here is.
    let from = gave_made s told w p.topic p.cluster p.plan a (gave_there s w p.topic p.cluster p.plan a.now.knows (shape_within s w p shape) g) g in
    other (sym from.0 ∙ ap (λ (z : ℕ). (declared_at s z).topic) mine ∙ made.0, here))) v.consumers o.consumers) f) b.subs (r.subs u y there) (a.hands.subs u y there)

-- ---- the topic of the event: a message is given

given_pushed : (s : Setup) (w : World) (p : Planned) (stamp c y : ℕ) (Q : ℕ → Frame → Type 0) (v : Subscription) (i at : ℕ) (e : Entry) → let b = topic_at s w p.topic p.cluster in let k = consumer_at v.consumers at in
    p.plan ≡ plan_of [] (change.Given v.name i at ∷ []) (message (site s p.topic p.cluster) b i e k)
    → (k.client ≡ c → p.cluster ≡ y → Q (numbers b k.client) (frame.Message k.id (position_at b.ledgers i) (source_of p.cluster e) e)) → Packets Q (SentDown w.links c y)
    → Packets Q (SentDown (DoneLinks s w p stamp) c y)
given_pushed s w p stamp c y Q v i at e is new h =
    does_down s p.topic p.cluster stamp c y Q p.takes p.plan.sent w.links (subst (λ (q : Plan). Each (OutHere c y p.cluster Q) q.sent) (sym is) (new, tt)) h

-- less is due after it
given_less : (i at : ℕ) (v : Subscription) (j : ℕ) → is_due v j ≡ false → is_due (given i at v) j ≡ false
given_less i at v j h = passed_less i v j h

given_done : (i at : ℕ) (v : Subscription) → is_due (given i at v) i ≡ false
given_done i at v = none (has v.cursor i) (gone (has_gone v.due) (read_gone v.read_index))
  where
    has_gone : (is : List ℕ) → has (filter (λ m. not (m == i)) is) i ≡ false
    has_gone [] = refl
    has_gone (m ∷ is) =
        on_test (λ (l : List ℕ). has l i ≡ false) (not (m == i)) (m ∷ filter (λ k. not (k == i)) is) (filter (λ k. not (k == i)) is)
        (λ other. off (m == i) (has (filter (λ k. not (k == i)) is) i) other (has_gone is)) (λ same. has_gone is)
      where
        off : (a c : Bool) → not a ≡ true → c ≡ false → (a || c) ≡ false
        off true c h g = absurd (false≢true h)
        off false c h g = g

    read_gone : (r : ℕ) → nat_le (max r (i + 1)) i ≡ false
    read_gone r = grind (arith, nat_tests)

    gone : has (filter (λ m. not (m == i)) v.due) i ≡ false → nat_le (max v.read_index (i + 1)) i ≡ false → (has (filter (λ m. not (m == i)) v.due) i || nat_le (max v.read_index (i + 1)) i) ≡ false
    gone a c = subst (λ (x : Bool). (x || nat_le (max v.read_index (i + 1)) i) ≡ false) (sym a) c

    none : (x : Bool) → (has (filter (λ m. not (m == i)) v.due) i || nat_le (max v.read_index (i + 1)) i) ≡ false → (not x && (has (filter (λ m. not (m == i)) v.due) i || nat_le (max v.read_index (i + 1)) i)) ≡ false
    none true h = refl
    none false h = h

-- a consumer at the event's broker, of which no message is given
pub unmoved : (s : Setup) (w : World) (p : Planned) (stamp : ℕ) (v : Subscription) (i at : ℕ) (e : Entry) (k : Consumer) → let b = topic_at s w p.topic p.cluster in let g = consumer_at v.consumers at in let x = p.cluster in
    p.plan ≡ plan_of [] (change.Given v.name i at ∷ []) (message (site s p.topic p.cluster) b i e g) → (g.client ≡ k.client → g.id ≡ k.id → ⊥)
    → Moves (JoinedAt w.links x (numbers b)) (JoinedAt (DoneLinks s w p stamp) x (numbers b)) b.ledgers b.ledgers (numbers b) (numbers b) (λ c. SentDown w.links c x) (λ c. SentDown (DoneLinks s w p stamp) c x) k
unmoved s w p stamp v i at e k is other =
    let b = topic_at s w p.topic p.cluster in let x = p.cluster in record {
      joins = λ h. sub_stays s w p stamp k.client x (numbers b k.client) k.id h;
      none = λ h. given_pushed s w p stamp k.client x (NoneOf (numbers b k.client) k.id) v i at e is (λ mine here same id. other mine id) h;
      undue = λ due h. given_pushed s w p stamp k.client x (UndueOf b.ledgers due (numbers b k.client) k.id) v i at e is (λ mine here same id. absurd (other mine id)) h;
    }

-- the first, to whom it is given
first_undue : (s : Setup) (told : SettledSoFar) (w : World) (p : Planned) (stamp : ℕ) (v : Subscription) (i at : ℕ) (e : Entry) (k : Consumer) → Around s told w → IsThere s p.topic p.cluster
    → let b = topic_at s w p.topic p.cluster in let g = consumer_at v.consumers at in let x = p.cluster in
    p.plan ≡ plan_of [] (change.Given v.name i at ∷ []) (message (site s p.topic p.cluster) b i e g) → least_due v (length b.entries) ≡ Some i
    → UndueTo b.ledgers (numbers b) (λ c. SentDown w.links c x) (is_due v) k → UndueTo b.ledgers (numbers b) (λ c. SentDown (DoneLinks s w p stamp) c x) (is_due (given i at v)) k
first_undue s told w p stamp v i at e k a there is due h =
    let b = topic_at s w p.topic p.cluster in let x = p.cluster in
    let least = least_due_is v 0 (length b.entries) i due in
    let high = least.high in let whole = (a.now.knows.answers p.topic p.cluster there).numbered.whole in
    given_pushed s w p stamp k.client x (UndueOf b.ledgers (is_due (given i at v)) (numbers b k.client) k.id) v i at e is
    (λ mine here same id. (i, at_index b.ledgers i (omega (arith, high, whole)), λ j le. below_or_at least j le))
    (each_map (λ (q : Packet). UndueOf b.ledgers (is_due v) (numbers b k.client) k.id q.session q.frame) (λ (q : Packet). UndueOf b.ledgers (is_due (given i at v)) (numbers b k.client) k.id q.session q.frame)
    (λ q u. fewer_undue b.ledgers (is_due v) (is_due (given i at v)) (numbers b k.client) k.id q.session q.frame (given_less i at v) u) (SentDown w.links k.client x) h)
  where
    below_or_at : IsLeast v 0 (length (topic_at s w p.topic p.cluster).entries) i → (j : ℕ) → j ≤ i → is_due (given i at v) j ≡ false
    below_or_at least j le =
        elim (below_or j i) [
          | inl lt ↦ given_less i at v j (least.before j (omega arith) lt)
          | inr ge ↦ let same : i ≡ j = omega (arith, le, ge) in subst (λ (m : ℕ). is_due (given i at v) m ≡ false) same (given_done i at v)
        ]

-- what is sent rises after it
pub given_rises : (s : Setup) (told : SettledSoFar) (w : World) (p : Planned) (stamp : ℕ) (v : Subscription) (i at : ℕ) (e : Entry) → Around s told w → IsThere s p.topic p.cluster
    → let b = topic_at s w p.topic p.cluster in let x = p.cluster in
    p.plan ≡ plan_of [] (change.Given v.name i at ∷ []) (message (site s p.topic p.cluster) b i e (consumer_at v.consumers at)) → least_due v (length b.entries) ≡ Some i
    → pick v.kind v.consumers (key_bytes e.meta.key) ≡ Some at → serves_one v.kind ≡ true
    → Apart v.consumers × RiseOf b.ledgers (numbers b) (λ c. SentDown w.links c x) (is_due v) v.consumers
    → Apart v.consumers × RiseOf b.ledgers (numbers b) (λ c. SentDown (DoneLinks s w p stamp) c x) (is_due (given i at v)) v.consumers
given_rises s told w p stamp v i at e a there is due picked one h = (h.0, subst G (sym f.is) (first (subst Apart f.is h.0) (subst (RiseOf b.ledgers (numbers b) (λ c. SentDown w.links c x) (is_due v)) f.is h.1)))
  where
    b : Broker
    b = topic_at s w p.topic p.cluster

    x : ℕ
    x = p.cluster

    G : List Consumer → Type 0
    G ks = RiseOf b.ledgers (numbers b) (λ c. SentDown (DoneLinks s w p stamp) c x) (is_due (given i at v)) ks

    f : FirstPicked v.consumers at
    f = first_picked v.kind v.consumers (key_bytes e.meta.key) at one picked

    is_first : consumer_at v.consumers at ≡ f.first
    is_first = ap (consumer_at v.consumers) f.zero_at ∙ ap (λ (js : List Consumer). consumer_at js 0) f.is

    first : Apart (f.first ∷ f.rest) → RiseOf b.ledgers (numbers b) (λ c. SentDown w.links c x) (is_due v) (f.first ∷ f.rest) → G (f.first ∷ f.rest)
    first apart g = (
      first_undue s told w p stamp v i at e f.first a there is due g.0,
      each_two (NoneTo (numbers b) (λ c. SentDown w.links c x)) (λ (j : Consumer). (j.client == f.first.client) ≡ false) (NoneTo (numbers b) (λ c. SentDown (DoneLinks s w p stamp) c x))
          (λ j none off. (unmoved s w p stamp v i at e j is
          (λ mine id. absurd (eqb-false j.client f.first.client off (sym mine ∙ ap (λ (k : Consumer). k.client) is_first)))).none none) f.rest g.1 apart.0,
    )
