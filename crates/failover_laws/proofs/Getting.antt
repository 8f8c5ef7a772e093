-- What a client gets on a connection that it opened when its subscription had passed over an index: each message that was sent on it for
-- that subscription stands after the index, or is not meant for the update's cluster.
use Rattle.std.proofs.Common.{◌≡◌, ℕ, ◌<◌, ◌≤◌, false, List, sym, ap, subst, ◌∙◌, arith, inl, inr, ◌⊎◌}
use Rattle.std.specs.Prelude.{Option, Some, None, slice_set}
use Rattle.std.proofs.lemmas.Option.{same_Some}
use Rattle.world_laws.proofs.Types.{Entry, Event, Frame, Packet, Peer, ClusterRef}
use Rattle.world_laws.proofs.Types.event
use Rattle.world_laws.proofs.Types.frame
use Rattle.world_laws.proofs.Types.peer
use Rattle.geo_base.specs.Broker.{Broker, sub_named}
use Rattle.geo_base.specs.Client.{Acted}
use Rattle.geo_base.specs.Cursor.{has}
use Rattle.geo_base.specs.Dispatcher.{consumer_at}
use Rattle.geo_base.specs.Entry.{meant_for}
use Rattle.geo_base.specs.Happening.{broker_does, broker_halts, client_does, does_planned, halts_planned, happens, stops}
use Rattle.geo_base.specs.Offering.{source_of}
use Rattle.geo_base.specs.Plan.{Plan, done}
use Rattle.geo_base.specs.Planned.{Planned, has_client, planned}
use Rattle.geo_base.specs.Safe.{IsEntry}
use Rattle.geo_base.specs.Setup.{Declared, Setup, declared_at}
use Rattle.geo_base.specs.Subscription.{Subscription}
use Rattle.geo_base.specs.World.{LinkName, World, client_at, node, site, topic_at}
use Rattle.world_laws.proofs.Replicating.Effects.{Each, each_map}
use Rattle.world_laws.proofs.Walks.EventWalk.{HasShape, planned_shape}
use Rattle.world_laws.proofs.OnceInOrder.Members.{below_or}
use Rattle.world_laws.proofs.Replicating.PairRoles.{shape_within}
use Rattle.world_laws.proofs.Walks.Shapes.{Shape}
use Rattle.world_laws.proofs.Dispatching.SubFrames.{AllSubs, found_is}
use Rattle.world_laws.proofs.Walks.Walk.{on_if}
use Rattle.world_laws.specs.SubLines.{IsSubLine, named_by}
use Rattle.failover_laws.specs.UpdatedTo.{HasUpdatedTo}
use Rattle.failover_laws.specs.Since.{AfterEvent, AfterHalt, AfterRound, AfterStop, Idling, Resuming, Since, Starting, StaysAcknowledged}
use Rattle.world_laws.proofs.Clients.CalmWalk.{Acts, shape_acts}
use Rattle.world_laws.proofs.Clients.ClientLinks.{OutHere, Packets, SentDown, ToHere, acts_down, does_down, halts_down, none_down, stops_down}
use Rattle.world_laws.proofs.Clients.Consumers.{IsCalmOut, IsCalmTo, IsQuiet, OwnConsumers, picked_own}
use Rattle.failover_laws.proofs.Given.{open_apart}
use Rattle.failover_laws.proofs.Lasting.{entry_stays, found_name, since_keeps, still_passed}
use Rattle.world_laws.proofs.Clients.Meeting.{MeetsAll, event_meets, halt_meets, resumed_meets, stop_meets}

-- the entry e, whose source a frame tells so, stands at y after index j or is not meant for a
pub record IsLate (b : Broker) (y a j : ℕ) (source : Option ClusterRef) (e : Entry) : Type 0 where
  pub index : ℕ
  pub stands : IsEntry b index e
  pub from : source ≡ source_of y e
  pub late : (j < index) ⊎ (meant_for a e ≡ false)

-- so it is of the message of a frame for a consumer that a sub line of n made
abbrev pub IsLateFor : Declared → List ℕ → Broker → ℕ → ℕ → ℕ → Frame → Type 0
IsLateFor d n b y a j (frame.Message id p source e) = IsSubLine d id n → IsLate b y a j source e
IsLateFor d n b y a j f = Unit {0}

-- in a session above m
abbrev pub IsLateAbove : Declared → List ℕ → Broker → ℕ → ℕ → ℕ → ℕ → ℕ → Frame → Type 0
IsLateAbove d n b y a j m session f = m < session → IsLateFor d n b y a j f

-- topics grow
late_grows : (n : List ℕ) (b b' : Broker) (y a j : ℕ) (source : Option ClusterRef) (e : Entry) → StaysAcknowledged n b b' → IsLate b y a j source e → IsLate b' y a j source e
late_grows n b b' y a j source e h l = record { index = l.index; stands = entry_stays n b b' l.index e h l.stands; from = l.from; late = l.late }

frame_grows : (d : Declared) (n : List ℕ) (b b' : Broker) (y a j : ℕ) (f : Frame) → StaysAcknowledged n b b' → IsLateFor d n b y a j f → IsLateFor d n b' y a j f
frame_grows d n b b' y a j (frame.Message id p source e) h l = λ line. late_grows n b b' y a j source e h (l line)
frame_grows d n b b' y a j f h l = tt

packets_grow : (d : Declared) (n : List ℕ) (b b' : Broker) (y a j m : ℕ) (ps : List Packet) → StaysAcknowledged n b b' → Packets (IsLateAbove d n b y a j m) ps → Packets (IsLateAbove d n b' y a j m) ps
packets_grow d n b b' y a j m ps h all =
    each_map (λ (p : Packet). IsLateAbove d n b y a j m p.session p.frame) (λ (p : Packet). IsLateAbove d n b' y a j m p.session p.frame)
    (λ p l above. frame_grows d n b b' y a j p.frame h (l above)) ps all

-- ---- what a broker sends

quiet_late : (d : Declared) (n : List ℕ) (b : Broker) (y a j : ℕ) (f : Frame) → IsQuiet f → IsLateFor d n b y a j f
quiet_late d n b y a j (frame.Message id p source e) q = absurd q
quiet_late d n b y a j f q = tt

calm_late : (c m k y x session : ℕ) (d : Declared) (n : List ℕ) (b : Broker) (a j : ℕ) (f : Frame) (q : Peer) → IsCalmTo c k session f q
    → ToHere c y x (IsLateAbove d n b y a j m) session f q
calm_late c m k y x session d n b a j f (peer.Client z) h = λ e e' above. quiet_late d n b y a j f (h e).1
calm_late c m k y x session d n b a j f (peer.Forward z) h = tt
calm_late c m k y x session d n b a j f (peer.Back z) h = tt
calm_late c m k y x session d n b a j f (peer.Broker z) h = tt

-- a line names one subscription
one_name : (d : Declared) (i : ℕ) (l n : List ℕ) → IsSubLine d i l → IsSubLine d i n → l ≡ n
one_name d i l n h k =
    let same : h.0 ≡ k.0 = same_Some _ _ (sym h.1 ∙ k.1) in
    same_Some l n (sym h.2 ∙ ap named_by same ∙ k.2)

-- the topic at y, where n has passed over j; b' is what the event leaves of it
record IsPlace (s : Setup) (c y : ℕ) (n : List ℕ) (a j : ℕ) (w : World) (b' : Broker) : Type 0 where
  passed : HasUpdatedTo (topic_at s w (declared_at s c).topic y) n a j
  stays : StaysAcknowledged n (topic_at s w (declared_at s c).topic y) b'

given_late : (s : Setup) (c y : ℕ) (n : List ℕ) (a j : ℕ) (w : World) (b' : Broker) → IsPlace s c y n a j w b' → (t x i : ℕ) (m : List ℕ) (v : Subscription) (e : Entry)
    → sub_named (topic_at s w t x).subs m ≡ Some v → has v.cursor i ≡ false → IsEntry (topic_at s w t x) i e → t ≡ (declared_at s c).topic → x ≡ y → v.name ≡ n
    → IsLate b' y a j (source_of x e) e
given_late s c y n a j w b' p t x i m v e named lacks at topic here name =
    record {
      index = i;
      stands = entry_stays n b b' i e p.stays there;
      from = ap (λ (z : ℕ). source_of z e) here;
      late = elim (below_or j i) [ inl lt ↦ inl lt | inr le ↦ inr (open_apart b n a j i e p.passed (v, open_sub, lacks) there le) ];
    }
  where
    b : Broker
    b = topic_at s w (declared_at s c).topic y

    same : topic_at s w t x ≡ b
    same = ap (λ (u : ℕ). topic_at s w u x) topic ∙ ap (λ (u : ℕ). topic_at s w (declared_at s c).topic u) here

    there : IsEntry b i e
    there = subst (λ (q : Broker). IsEntry q i e) same at

    open_sub : sub_named b.subs n ≡ Some v
    open_sub =
        subst (λ (l : List ℕ). sub_named b.subs l ≡ Some v) (sym (found_name (topic_at s w t x).subs m v named) ∙ name) (subst (λ (q : Broker). sub_named q.subs m ≡ Some v) same named)

-- m is the number of the connection before
acts_late : (s : Setup) (c y m k : ℕ) (n : List ℕ) (a j : ℕ) (w : World) (b' : Broker) → IsPlace s c y n a j w b' → (t x : ℕ) (p : Plan)
    → AllSubs (OwnConsumers t c (declared_at s c)) (topic_at s w t x) → Acts t c k (declared_at s c) (site s t x) (topic_at s w t x) p
    → Each (OutHere c y x (IsLateAbove (declared_at s c) n b' y a j m)) p.sent
acts_late s c y m k n a j w b' place t x p own (Acts.Calmly q calm) =
    each_map (IsCalmOut c k) (OutHere c y x (IsLateAbove (declared_at s c) n b' y a j m))
    (λ o out. calm_late c m k y x o.session (declared_at s c) n b' a j o.frame o.to out) q.sent calm.sent
acts_late s c y m k n a j w b' place t x p own (Acts.Giving l v i at e named least lacks stands picked) =
    let d = declared_at s c in
    let mine = picked_own t c d v _ at picked (found_is (OwnConsumers t c d) _ (topic_at s w t x).subs v named own).0 in (
      (λ same here above line. let o = mine same in given_late s c y n a j w b' place t x i l v e named lacks stands o.1 here (one_name d (consumer_at v.consumers at).id v.name n o.0 line)),
      tt,
    )

-- ---- since a world v, m being the number of c's connection there

pub record GetsLate (s : Setup) (c y m : ℕ) (n : List ℕ) (a j : ℕ) (w : World) : Type 0 where
  pub meets : MeetsAll s c w
  pub passed : HasUpdatedTo (topic_at s w (declared_at s c).topic y) n a j
  pub frames : Packets (IsLateAbove (declared_at s c) n (topic_at s w (declared_at s c).topic y) y a j m) (SentDown w.links c y)

-- frames of an event of a broker
frames_does : (s : Setup) (c y m : ℕ) (n : List ℕ) (a j : ℕ) (w : World) (p : Planned) → Shape s w p → GetsLate s c y m n a j w
    → StaysAcknowledged n (topic_at s w (declared_at s c).topic y) (topic_at s (broker_does s w p) (declared_at s c).topic y)
    → Packets (IsLateAbove (declared_at s c) n (topic_at s (broker_does s w p) (declared_at s c).topic y) y a j m) (SentDown (broker_does s w p).links c y)
unfolding broker_does
frames_does s c y m n a j w p shape h =
    let d = declared_at s c in let b = topic_at s w d.topic y in
    let Goal : World → Type 0 = λ w'. StaysAcknowledged n b (topic_at s w' d.topic y) → Packets (IsLateAbove d n (topic_at s w' d.topic y) y a j m) (SentDown w'.links c y) in
    on_if Goal p.plan.idle _ _ (λ stays. packets_grow d n b b y a j m (SentDown w.links c y) stays h.frames)
    (λ stays.
    let b' = topic_at s (record w { brokers = slice_set w.brokers (node s p.topic p.cluster) (done s.per_ledger (topic_at s w p.topic p.cluster) p.plan) }) d.topic y in
    does_down s p.topic p.cluster _ c y (IsLateAbove d n b' y a j m) p.takes p.plan.sent w.links
    (acts_late s c y m (client_at s w c).connection n a j w b' (record { passed = h.passed; stays = stays }) p.topic p.cluster p.plan
    (h.meets.brokers p.topic p.cluster (shape_within s w p shape)).consumers (shape_acts s w c (client_at s w c).connection p h.meets.up shape))
    (packets_grow d n b b' y a j m (SentDown w.links c y) stays h.frames))

frames_planned : (s : Setup) (c y m : ℕ) (n : List ℕ) (a j : ℕ) (w : World) (o : Option Planned) → HasShape s w o → GetsLate s c y m n a j w
    → StaysAcknowledged n (topic_at s w (declared_at s c).topic y) (topic_at s (does_planned s w o) (declared_at s c).topic y)
    → Packets (IsLateAbove (declared_at s c) n (topic_at s (does_planned s w o) (declared_at s c).topic y) y a j m) (SentDown (does_planned s w o).links c y)
frames_planned s c y m n a j w None shape h stays = h.frames
frames_planned s c y m n a j w (Some p) shape h stays = frames_does s c y m n a j w p shape h stays

frames_client : (s : Setup) (c y m : ℕ) (n : List ℕ) (a j : ℕ) (w : World) (z : ℕ) (takes : Option LinkName) (act : Acted) → GetsLate s c y m n a j w
    → Packets (IsLateAbove (declared_at s c) n (topic_at s (client_does s w z takes act) (declared_at s c).topic y) y a j m) (SentDown (client_does s w z takes act).links c y)
unfolding client_does
frames_client s c y m n a j w z takes act h =
    let d = declared_at s c in let F = Packets (IsLateAbove d n (topic_at s w d.topic y) y a j m) in
    on_if (λ (w' : World). Packets (IsLateAbove d n (topic_at s w' d.topic y) y a j m) (SentDown w'.links c y)) act.idle _ _ h.frames
    (subst F (sym (acts_down z _ c y takes act.sent w.links)) h.frames)

frames_event : (s : Setup) (c y m : ℕ) (n : List ℕ) (a j : ℕ) (w : World) (e : Event) → GetsLate s c y m n a j w
    → StaysAcknowledged n (topic_at s w (declared_at s c).topic y) (topic_at s (happens s w e) (declared_at s c).topic y)
    → Packets (IsLateAbove (declared_at s c) n (topic_at s (happens s w e) (declared_at s c).topic y) y a j m) (SentDown (happens s w e).links c y)
unfolding happens
frames_event s c y m n a j w (event.Go z) h stays =
    let d = declared_at s c in
    on_if (λ (w' : World). Packets (IsLateAbove d n (topic_at s w' d.topic y) y a j m) (SentDown w'.links c y)) (has_client s z) _ _ (frames_client s c y m n a j w z _ _ h) h.frames
frames_event s c y m n a j w (event.Reconnect z) h stays =
    let d = declared_at s c in
    on_if (λ (w' : World). Packets (IsLateAbove d n (topic_at s w' d.topic y) y a j m) (SentDown w'.links c y)) (has_client s z) _ _ (frames_client s c y m n a j w z _ _ h) h.frames
frames_event s c y m n a j w (event.Get z) h stays =
    let d = declared_at s c in
    on_if (λ (w' : World). Packets (IsLateAbove d n (topic_at s w' d.topic y) y a j m) (SentDown w'.links c y)) (has_client s z) _ _ (frames_client s c y m n a j w z _ _ h) h.frames
frames_event s c y m n a j w e h stays = frames_planned s c y m n a j w (planned s w e) (planned_shape s w e) h stays

frames_halt : (s : Setup) (c y m : ℕ) (n : List ℕ) (a j : ℕ) (w : World) (k : ℕ) (o : Option Planned) → GetsLate s c y m n a j w
    → StaysAcknowledged n (topic_at s w (declared_at s c).topic y) (topic_at s (halts_planned s w k o) (declared_at s c).topic y)
    → Packets (IsLateAbove (declared_at s c) n (topic_at s (halts_planned s w k o) (declared_at s c).topic y) y a j m) (SentDown (halts_planned s w k o).links c y)
unfolding broker_halts
frames_halt s c y m n a j w k None h stays = h.frames
frames_halt s c y m n a j w k (Some p) h stays =
    let d = declared_at s c in
    subst (Packets (IsLateAbove d n (topic_at s (halts_planned s w k (Some p)) d.topic y) y a j m)) (sym (halts_down c y p.takes w.links))
    (packets_grow d n (topic_at s w d.topic y) _ y a j m (SentDown w.links c y) stays h.frames)

-- what follows keeps it
pub gets_late : (s : Setup) (c y m : ℕ) (n : List ℕ) (a j : ℕ) (v w : World) → GetsLate s c y m n a j v → Since s (declared_at s c).topic y n v w → GetsLate s c y m n a j w
gets_late s c y m n a j v _ h Starting = h
gets_late s c y m n a j v _ h (AfterEvent w e left r) =
    let d = declared_at s c in let g = gets_late s c y m n a j v w h r in
    let stays = since_keeps s d.topic y n w (happens s w e) (AfterEvent w e left Starting) in
    record {
      meets = event_meets s c w e g.meets;
      passed = still_passed n (topic_at s w d.topic y) _ a j stays g.passed;
      frames = frames_event s c y m n a j w e g stays;
    }
gets_late s c y m n a j v _ h (AfterHalt w k e left r) =
    let d = declared_at s c in let g = gets_late s c y m n a j v w h r in
    let stays = since_keeps s d.topic y n w (halts_planned s w k (planned s w e)) (AfterHalt w k e left Starting) in
    record {
      meets = halt_meets s c w k (planned s w e) (planned_shape s w e) g.meets;
      passed = still_passed n (topic_at s w d.topic y) _ a j stays g.passed;
      frames = frames_halt s c y m n a j w k (planned s w e) g stays;
    }
gets_late s c y m n a j v _ h (AfterStop w r) =
    let d = declared_at s c in let g = gets_late s c y m n a j v w h r in
    let stays = since_keeps s d.topic y n w (stops s w) (AfterStop w Starting) in
    record {
      meets = stop_meets s c w g.meets;
      passed = still_passed n (topic_at s w d.topic y) _ a j stays g.passed;
      frames = subst (Packets (IsLateAbove d n (topic_at s (stops s w) d.topic y) y a j m)) (sym (stops_down s w c y)) (packets_grow d n (topic_at s w d.topic y) _ y a j m (SentDown w.links c y) stays g.frames);
    }
gets_late s c y m n a j v _ h (Idling w k r) =
    let g = gets_late s c y m n a j v w h r in
    record { meets = record { size = g.meets.size; up = g.meets.up; down = g.meets.down; brokers = g.meets.brokers }; passed = g.passed; frames = g.frames }
gets_late s c y m n a j v _ h (AfterRound w k r) =
    let g = gets_late s c y m n a j v w h r in
    record { meets = record { size = g.meets.size; up = g.meets.up; down = g.meets.down; brokers = g.meets.brokers }; passed = g.passed; frames = g.frames }
gets_late s c y m n a j v _ h (Resuming w r) =
    let g = gets_late s c y m n a j v w h r in
    record { meets = resumed_meets s c w g.meets; passed = g.passed; frames = none_down s c y (IsLateAbove (declared_at s c) n (topic_at s w (declared_at s c).topic y) y a j m) }

-- where n has passed over j, whatever was sent to c there is of no later connection
pub begins_late : (s : Setup) (c y : ℕ) (n : List ℕ) (a j : ℕ) (v : World) → MeetsAll s c v → HasUpdatedTo (topic_at s v (declared_at s c).topic y) n a j
    → GetsLate s c y (client_at s v c).connection n a j v
begins_late s c y n a j v meets passed = record {
  meets = meets;
  passed = passed;
  frames = each_map (λ (p : Packet). p.session ≤ (client_at s v c).connection) (λ (p : Packet). IsLateAbove (declared_at s c) n _ y a j (client_at s v c).connection p.session p.frame)
      (λ p le above. absurd (omega (arith, le, above))) (SentDown v.links c y) (meets.down y);
}
