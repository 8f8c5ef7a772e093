-- The part that an event has in a pair, by its shape: at the source it may write and turn the replicator, at the target it may store
-- and turn the session, and most events of either do neither.
use Rattle.std.proofs.Common.{◌≡◌, ℕ, ◌+◌, ◌<◌, Bool, true, false, List, [], ◌∷◌, length, refl, sym, ap, subst, ◌∙◌, ◌==◌}
use Rattle.std.specs.Prelude.{Option, Some, None, if◌then◌else◌}
use Rattle.std.proofs.lemmas.Bool.{eqb-true, eq-eqb, ltb-true}
use Rattle.world_laws.proofs.Types.{Change, Entry, Out, Packet, Peer, Write}
use Rattle.world_laws.proofs.Types.change
use Rattle.world_laws.proofs.Types.frame
use Rattle.world_laws.proofs.Types.peer
use Rattle.world_laws.proofs.Types.cluster_ref
use Rattle.world_laws.proofs.Types.sub_kind
use Rattle.world_laws.proofs.Types.write
use Rattle.geo_base.specs.Broker.{Broker, Site, replicator_at}
use Rattle.geo_base.specs.SnapshotBuilder.{current_id}
use Rattle.geo_base.specs.Entry.{is_outbound}
use Rattle.geo_base.specs.Forwarding.{resets}
use Rattle.geo_base.specs.Link.{Link, next_packet, sent_on}
use Rattle.geo_base.specs.Markers.{request_marker, response_marker, snapshot_marker}
use Rattle.geo_base.specs.Plan.{Plan, done, idle_plan, quiet_plan}
use Rattle.geo_base.specs.Planned.{Planned}
use Rattle.geo_base.specs.Reading.{forwards}
use Rattle.geo_base.specs.Seeking.{restart}
use Rattle.geo_base.specs.Setup.{Setup, declared_at}
use Rattle.geo_base.specs.Subscription.{Subscription}
use Rattle.geo_base.specs.Updating.{handled, updated_indexes}
use Rattle.geo_base.specs.World.{Back, Forward, LinkName, World, link_at, node, site, stamped, topic_at}
use Rattle.world_laws.proofs.Replicating.Effects.{Each, each_map}
use Rattle.world_laws.proofs.Walks.EventWalk.{of_node, of_pair, of_target}
use Rattle.world_laws.proofs.Replicating.LinkFrames.{pushed, pushed_one}
use Rattle.world_laws.proofs.OnceInOrder.Members.{Stands}
use Rattle.world_laws.proofs.Replicating.Reach.{Incoming, IncomingChange, IncomingOut, IncomingPeer, OutgoingPeer, IncomingWrite, Outgoing, OutgoingChange, OutgoingOut, OutgoingWrite, fated_in, fated_out, fated_quiet, offers_out, reads_out, resets_out, seeks_out, served_out, snaps_out}
use Rattle.world_laws.proofs.Replicating.ReplicatorEvents.{answered_done, fated_ok, forwards_done, handled_done, handled_ok}
use Rattle.world_laws.proofs.Replicating.ReplicatorSide.{Facts, LeavesReplicator, OkWrite, facts_aside, facts_halted}
use Rattle.world_laws.proofs.Walks.Shapes.{Answered, Fated, Reads, ReadsNext, Shape, Updates}

-- the facts of a pair in a world
abbrev pub PairIn : Setup → World → ℕ → ℕ → ℕ → Type 0
PairIn s w t x y =
    Facts x y (topic_at s w t x) (topic_at s w t y) (link_at w.links (Forward (node s t x) y)) (link_at w.links (Back (node s t x) y)).sent

-- how far an event reaches, and what it takes from
abbrev pub NotForward : Option LinkName → Type 0
NotForward (Some (Forward n y)) = ⊥
NotForward k = Unit {0}

-- nothing comes from a link
abbrev pub IsEmpty : World → Option LinkName → Type 0
IsEmpty w None = Unit {0}
IsEmpty w (Some k) = next_packet (link_at w.links k) ≡ None

pub data Reaches (s : Setup) (w : World) (p : Planned) : Type 0 where
  Outward : (z : ℕ) → Outgoing p.cluster z p.plan → NotForward p.takes → Reaches s w p
  Inward : (z : ℕ) → z < length s.clusters → Incoming z p.plan → p.takes ≡ Some (Forward (node s p.topic z) p.cluster) → Reaches s w p
  Empties : p.plan ≡ idle_plan → IsEmpty w p.takes → Reaches s w p
  Again : p.plan ≡ restart → p.takes ≡ None → Reaches s w p

pub shape_reaches : (s : Setup) (w : World) (p : Planned) → Shape s w p → Reaches s w p
shape_reaches s w p (Shape.Idle t x within) = Reaches.Empties refl tt
shape_reaches s w p (Shape.Empty t x k within next) = Reaches.Empties refl next
shape_reaches s w p (Shape.Serve x c q plan within next served) = Reaches.Outward x (served_out (site s (declared_at s c).topic x) _ c q x plan served) tt
shape_reaches s w p (Shape.Drop x c v within at) = Reaches.Outward x (record { writes = tt; changes = (tt, (tt, tt)); sent = tt }) tt
shape_reaches s w p (Shape.Reset t x y within remote) = Reaches.Outward y (resets_out (site s t x) x y _) tt
shape_reaches s w p (Shape.Read t x y plan within reads) = Reaches.Outward y (reads_out (site s t x) _ y plan reads) tt
shape_reaches s w p (Shape.Take t x y q plan within next taken) =
    Reaches.Inward x (ltb-true _ _ (of_node s t x (of_pair s t x y within))) (fated_in s.per_ledger (site s t y) _ x q plan taken) refl
shape_reaches s w p (Shape.Receipt t x y q plan within next answered) = Reaches.Outward y (fated_out s.per_ledger _ x y q plan answered) tt
shape_reaches s w p (Shape.Snap t x plan within snaps) = Reaches.Outward x (snaps_out (site s t x) _ x plan snaps) tt
shape_reaches s w p (Shape.Offer t x n plan within offers) = Reaches.Outward x (offers_out (site s t x) _ _ x plan offers) tt
shape_reaches s w p (Shape.Seek t x n to plan within seeks) = Reaches.Outward x (seeks_out (site s t x) _ _ to x plan seeks) tt
shape_reaches s w p (Shape.Restart t x within) = Reaches.Again refl refl

-- the cluster of an event is one of the setup's
pub shape_within : (s : Setup) (w : World) (p : Planned) → Shape s w p → p.cluster < length s.clusters
shape_within s w p (Shape.Idle t x within) = ltb-true _ _ within
shape_within s w p (Shape.Empty t x k within next) = ltb-true _ _ within
shape_within s w p (Shape.Serve x c q plan within next served) = ltb-true _ _ within
shape_within s w p (Shape.Drop x c v within at) = ltb-true _ _ within
shape_within s w p (Shape.Reset t x y within remote) = ltb-true _ _ (of_node s t x (of_pair s t x y within))
shape_within s w p (Shape.Read t x y plan within reads) = ltb-true _ _ (of_node s t x (of_pair s t x y within))
shape_within s w p (Shape.Take t x y q plan within next taken) = ltb-true _ _ (of_target s t x y within)
shape_within s w p (Shape.Receipt t x y q plan within next answered) = ltb-true _ _ (of_node s t x (of_pair s t x y within))
shape_within s w p (Shape.Snap t x plan within snaps) = ltb-true _ _ (of_node s t x within)
shape_within s w p (Shape.Offer t x n plan within offers) = ltb-true _ _ (of_node s t x within)
shape_within s w p (Shape.Seek t x n to plan within seeks) = ltb-true _ _ (of_node s t x within)
shape_within s w p (Shape.Restart t x within) = ltb-true _ _ (of_node s t x within)

-- at the source: it writes what it may and turns the replicator as it may, or it is a reset
pub data AtSource (x y per : ℕ) (a b : Broker) (f : Link) (back : List Packet) (p : Plan) : Type 0 where
  Works : Each (OkWrite x y a.entries b.entries) p.writes → ((stamp : ℕ) → Facts x y (done per a p) b (pushed y stamp f p.sent) back) → AtSource x y per a b f back p
  Resets : (h : Site) → p ≡ resets h y ((replicator_at a y).session + 1) → AtSource x y per a b f back p

out_write : (x y own z : ℕ) (near far : List Entry) → (z ≡ y → ⊥) → (w : Write) → OutgoingWrite own z w → OkWrite x y near far w
out_write x y own z near far other (write.ReplicatorAck v i) h = λ is. absurd (other (sym h ∙ is))
out_write x y own z near far other (write.SessionNumber v n) h = λ is. other (sym h ∙ is)
out_write x y own z near far other (write.Append e) h = tt
out_write x y own z near far other w h = tt

pub out_change : (y z : ℕ) → (z ≡ y → ⊥) → (c : Change) → OutgoingChange z c → LeavesReplicator y c
out_change y z other (change.Opening v) h = λ is. other (sym h ∙ is)
out_change y z other (change.Opened v) h = λ is. other (sym h ∙ is)
out_change y z other (change.Pend v i) h = λ is. other (sym h ∙ is)
out_change y z other (change.ReadTo v i) h = λ is. other (sym h ∙ is)
out_change y z other (change.Unpend v n) h = λ is. other (sym h ∙ is)
out_change y z other (change.Receiver v r) h = absurd h
out_change y z other change.Forget h = h
out_change y z other c h = tt

not_pushed : (y v stamp : ℕ) (o : Out) (f : Link) → (v ≡ y → ⊥) → (if v == y then sent_on f (stamped stamp o) else f) ≡ f
not_pushed y v stamp o f other = by (v == y) refl
  where
    by : (b : Bool) → (v == y) ≡ b → (if b then sent_on f (stamped stamp o) else f) ≡ f
    by true e = absurd (other (eqb-true v y e))
    by false e = refl

-- a packet that goes to another replicator's link
abbrev pub ElsePeer : ℕ → Peer → Type 0
ElsePeer y (peer.Forward v) = v ≡ y → ⊥
ElsePeer y (peer.Broker v) = v ≡ y → ⊥
ElsePeer y (peer.Back v) = Unit {0}
ElsePeer y (peer.Client c) = Unit {0}

one_else : (y stamp : ℕ) (o : Out) (f : Link) (to : Peer) → ElsePeer y to → pushed_one y stamp o f to ≡ f
one_else y stamp o f (peer.Forward v) h = not_pushed y v stamp o f h
one_else y stamp o f (peer.Broker v) h = not_pushed y v stamp o f h
one_else y stamp o f (peer.Back v) h = refl
one_else y stamp o f (peer.Client c) h = refl

pushed_else : (y stamp : ℕ) (f : Link) (os : List Out) → Each (λ (o : Out). ElsePeer y o.to) os → pushed y stamp f os ≡ f
pushed_else y stamp f [] h = refl
pushed_else y stamp f (o ∷ os) h = ap (λ (g : Link). pushed y stamp g os) (one_else y stamp o f o.to h.0) ∙ pushed_else y stamp f os h.1

pub out_peer : (y z : ℕ) → (z ≡ y → ⊥) → (to : Peer) → OutgoingPeer z to → ElsePeer y to
out_peer y z other (peer.Forward v) h = λ is. other (sym h ∙ is)
out_peer y z other (peer.Back v) h = absurd h
out_peer y z other (peer.Client c) h = tt
out_peer y z other (peer.Broker v) h = absurd h

pub in_peer : (y z : ℕ) (to : Peer) → IncomingPeer z to → ElsePeer y to
in_peer y z (peer.Forward v) h = absurd h
in_peer y z (peer.Back v) h = tt
in_peer y z (peer.Client c) h = tt
in_peer y z (peer.Broker v) h = absurd h

in_write : (x y z : ℕ) (near far : List Entry) (w : Write) → IncomingWrite z w → OkWrite x y near far w
in_write x y z near far (write.ReplicatorAck v i) h = absurd h
in_write x y z near far (write.SessionNumber v n) h = absurd h
in_write x y z near far w h = tt

pub in_change : (y z : ℕ) (c : Change) → IncomingChange z c → LeavesReplicator y c
in_change y z (change.Receiver v r) h = tt
in_change y z (change.Opening v) h = absurd h
in_change y z (change.Opened v) h = absurd h
in_change y z (change.Pend v i) h = absurd h
in_change y z (change.ReadTo v i) h = absurd h
in_change y z (change.Unpend v n) h = absurd h
in_change y z change.Forget h = h
in_change y z c h = tt

-- what reaches another replicator
pub source_aside : (x y per : ℕ) (a b : Broker) (f : Link) (back : List Packet) (p : Plan) → y < length a.replicators → Each (OkWrite x y a.entries b.entries) p.writes
    → Each (LeavesReplicator y) p.changes → Each (λ (o : Out). ElsePeer y o.to) p.sent → Facts x y a b f back → AtSource x y per a b f back p
source_aside x y per a b f back p lt ok leaves sent facts =
    let P : Link → Type 0 = λ l. Facts x y (done per a p) b l back in
    AtSource.Works ok (λ stamp. subst P (sym (pushed_else y stamp f p.sent sent)) (facts_aside x y per a b f back p lt ok leaves facts))

pub source_out : (x y own z per : ℕ) (a b : Broker) (f : Link) (back : List Packet) (p : Plan) → y < length a.replicators → (z ≡ y → ⊥) → Outgoing own z p
    → Facts x y a b f back → AtSource x y per a b f back p
source_out x y own z per a b f back p lt other o facts =
    source_aside x y per a b f back p lt
    (each_map (OutgoingWrite own z) (OkWrite x y a.entries b.entries) (out_write x y own z a.entries b.entries other) p.writes o.writes)
    (each_map (OutgoingChange z) (LeavesReplicator y) (out_change y z other) p.changes o.changes)
    (each_map (OutgoingOut z) (λ (o : Out). ElsePeer y o.to) (λ o h. out_peer y z other o.to h) p.sent o.sent) facts

-- what reaches a receiving side
pub source_in : (x y z per : ℕ) (a b : Broker) (f : Link) (back : List Packet) (p : Plan) → y < length a.replicators → Incoming z p
    → Facts x y a b f back → AtSource x y per a b f back p
source_in x y z per a b f back p lt i facts =
    source_aside x y per a b f back p lt
    (each_map (IncomingWrite z) (OkWrite x y a.entries b.entries) (in_write x y z a.entries b.entries) p.writes i.writes)
    (each_map (IncomingChange z) (LeavesReplicator y) (in_change y z) p.changes i.changes)
    (each_map (IncomingOut z) (λ (o : Out). ElsePeer y o.to) (λ o h. in_peer y z o.to h) p.sent i.sent) facts

pub source_again : (x y per : ℕ) (a b : Broker) (f : Link) (back : List Packet) → y < length a.replicators → Facts x y a b f back → AtSource x y per a b f back restart
unfolding restart
source_again x y per a b f back lt facts = AtSource.Works (tt, tt) (λ stamp. facts_halted x y per 0 a b f back idle_plan lt tt facts)

pub source_idle : (x y per : ℕ) (a b : Broker) (f : Link) (back : List Packet) → Facts x y a b f back → AtSource x y per a b f back idle_plan
source_idle x y per a b f back facts = AtSource.Works tt (λ stamp. facts)

-- the replicator to y reads
pub source_handled : (y per : ℕ) (h : Site) (a b : Broker) (f : Link) (back : List Packet) (i : ℕ) (e : Entry) (ws : List Write) (cs : List Change) → y < length a.replicators
    → ReadsNext h a y i e → is_outbound h.own y e ≡ false → Each (OkWrite h.own y a.entries b.entries) ws → Each (LeavesReplicator y) cs
    → Facts h.own y a b f back → AtSource h.own y per a b f back (handled y i ws cs)
source_handled y per h a b f back i e ws cs lt next other ok leaves facts =
    AtSource.Works (handled_ok h.own y h a b.entries i e ws cs next other ok)
    (λ stamp. handled_done h.own y per h a b f back i e ws cs lt next other ok leaves facts)

updates_ok : (x y : ℕ) (h : Site) (a : Broker) (far : List Entry) (v : Subscription) (ws : List Write) → Updates h a v ws → Each (OkWrite x y a.entries far) ws
updates_ok x y h a far v ws Updates.NoUpdate = tt
updates_ok x y h a far v ws (Updates.Update cut replicated passed) = (tt, tt)

pub source_reads : (y per : ℕ) (h : Site) (a b : Broker) (f : Link) (back : List Packet) (p : Plan) → y < length a.replicators → Reads h a y p → Facts h.own y a b f back
    → AtSource h.own y per a b f back p
source_reads y per h a b f back p lt Reads.NothingToRead facts = source_idle h.own y per a b f back facts
source_reads y per h a b f back p lt (Reads.Forwards i e next out) facts =
    let s = replicator_at a y in
    let P : Link → Type 0 = λ l. Facts h.own y (done per a (forwards h y s i e)) b l back in
    AtSource.Works tt
    (λ stamp.
    let q : Packet = record { session = s.session; stamp = stamp; frame = frame.Send s.session s.next (Some (cluster_ref.Known h.own)) e } in
    subst P (sym (ap (λ (t : Bool). if t then sent_on f q else f) (eq-eqb y y refl)))
    (forwards_done h.own y per h a b f back i e q lt next out (record { session = refl; id = s.session; source = Some (cluster_ref.Known h.own); is = refl }) facts))
source_reads y per h a b f back p lt (Reads.Skips i e next other) facts = source_handled y per h a b f back i e [] [] lt next other tt tt facts
source_reads y per h a b f back p lt (Reads.Responds i e id source next of is) facts =
    source_handled y per h a b f back i e (write.Append (response_marker h a y id) ∷ []) [] lt next of.0 (tt, tt) tt facts
source_reads y per h a b f back p lt (Reads.Counts i e id answer u u' next is heard) facts =
    source_handled y per h a b f back i e [] (change.Building (Some u') ∷ []) lt next is.0.0 tt (tt, tt) facts
source_reads y per h a b f back p lt (Reads.AsksAgain i e id answer u u' next is heard) facts =
    source_handled y per h a b f back i e (write.Append (request_marker h a (current_id u')) ∷ []) (change.Building (Some u') ∷ []) lt next is.0.0 (tt, tt) (tt, tt) facts
source_reads y per h a b f back p lt (Reads.Completes i e id answer u u' next is heard) facts =
    source_handled y per h a b f back i e (write.Append (snapshot_marker h a u') ∷ []) (change.Building None ∷ []) lt next is.0.0 (tt, tt) (tt, tt) facts
source_reads y per h a b f back p lt (Reads.CreatesAt i j e n remote next is named) facts =
    source_handled y per h a b f back i e (write.Create n sub_kind.Exclusive true false ∷ write.Acks n (updated_indexes y 0 (j + 1) a.entries) ∷ [])
    (change.Acked n ∷ []) lt next is.0.0 (tt, (tt, tt)) (tt, tt) facts
source_reads y per h a b f back p lt (Reads.ActsOnUpdate i j e n remote v ws next is named after) facts =
    source_handled y per h a b f back i e (write.Acks n (updated_indexes y 0 (j + 1) a.entries) ∷ ws) (change.Acked n ∷ []) lt next is.0.0
    (tt, updates_ok h.own y h a b.entries _ ws after) (tt, tt) facts

-- the replicator to y takes a receipt
pub source_answered : (x y per : ℕ) (a b : Broker) (f : Link) (back : List Packet) (q : Packet) (p : Plan) → y < length a.replicators → Stands back q
    → Fated per a (λ c. Answered c y q) (quiet_plan []) p → Facts x y a b f back → AtSource x y per a b f back p
source_answered x y per a b f back q p lt came t facts =
    let P : List Out → Type 0 = λ os. (stamp : ℕ) → Facts x y (done per a p) b (pushed y stamp f os) back in
    AtSource.Works (fated_ok x y per a b f back q p lt came t facts)
    (subst P (sym (fated_quiet per a y q p t)) (λ stamp. answered_done x y per a b f back q p lt came t facts))
