-- How far a plan reaches beside subscriptions, sessions of clients and the builder: to one replicator, or to one receiving side.
use Rattle.std.proofs.Common.{◌≡◌, ℕ, List, [], ◌∷◌, ◌++◌, refl, ◌∙◌, ap}
use Rattle.std.specs.Prelude.{Option}
use Rattle.world_laws.proofs.Types.{Change, Out, Packet, Peer, Position, Write}
use Rattle.world_laws.proofs.Types.change
use Rattle.world_laws.proofs.Types.peer
use Rattle.world_laws.proofs.Types.write
use Rattle.geo_base.specs.Broker.{Broker, Site}
use Rattle.geo_base.specs.Forwarding.{closes, resets}
use Rattle.geo_base.specs.Plan.{Plan, quiet_plan}
use Rattle.geo_base.specs.Subscription.{Subscription}
use Rattle.world_laws.proofs.Replicating.Effects.{Each, each_both}
use Rattle.world_laws.proofs.Walks.Shapes.{Answered, Fated, Offers, Reads, Seeks, Served, Snaps, Taken, Updates}

-- own entries, and the replicator to z
abbrev pub OutgoingWrite : ℕ → ℕ → Write → Type 0
OutgoingWrite own z (write.Append e) = e.ident.origin ≡ own
OutgoingWrite own z (write.ReplicatorAck v i) = v ≡ z
OutgoingWrite own z (write.SessionNumber v n) = v ≡ z
OutgoingWrite own z w = Unit {0}

abbrev pub OutgoingChange : ℕ → Change → Type 0
OutgoingChange z (change.Receiver v r) = ⊥
OutgoingChange z (change.Opening v) = v ≡ z
OutgoingChange z (change.Opened v) = v ≡ z
OutgoingChange z (change.Pend v i) = v ≡ z
OutgoingChange z (change.ReadTo v i) = v ≡ z
OutgoingChange z (change.Unpend v n) = v ≡ z
OutgoingChange z change.Forget = ⊥
OutgoingChange z c = Unit {0}

abbrev pub OutgoingPeer : ℕ → Peer → Type 0
OutgoingPeer z (peer.Forward v) = v ≡ z
OutgoingPeer z (peer.Back v) = ⊥
OutgoingPeer z (peer.Client c) = Unit {0}
OutgoingPeer z (peer.Broker v) = ⊥

abbrev pub OutgoingOut : ℕ → Out → Type 0
OutgoingOut z o = OutgoingPeer z o.to

pub record Outgoing (own z : ℕ) (p : Plan) : Type 0 where
  pub writes : Each (OutgoingWrite own z) p.writes
  pub changes : Each (OutgoingChange z) p.changes
  pub sent : Each (OutgoingOut z) p.sent

-- entries of z, and the session from z
abbrev pub IncomingWrite : ℕ → Write → Type 0
IncomingWrite z (write.Append e) = e.ident.origin ≡ z
IncomingWrite z (write.ReplicatorAck v i) = ⊥
IncomingWrite z (write.SessionNumber v n) = ⊥
IncomingWrite z w = Unit {0}

abbrev pub IncomingChange : ℕ → Change → Type 0
IncomingChange z (change.Receiver v r) = v ≡ z
IncomingChange z (change.Opening v) = ⊥
IncomingChange z (change.Opened v) = ⊥
IncomingChange z (change.Pend v i) = ⊥
IncomingChange z (change.ReadTo v i) = ⊥
IncomingChange z (change.Unpend v n) = ⊥
IncomingChange z change.Forget = ⊥
IncomingChange z c = Unit {0}

abbrev pub IncomingPeer : ℕ → Peer → Type 0
IncomingPeer z (peer.Forward v) = ⊥
IncomingPeer z (peer.Back v) = v ≡ z
IncomingPeer z (peer.Client c) = Unit {0}
IncomingPeer z (peer.Broker v) = ⊥

abbrev pub IncomingOut : ℕ → Out → Type 0
IncomingOut z o = IncomingPeer z o.to

pub record Incoming (z : ℕ) (p : Plan) : Type 0 where
  pub writes : Each (IncomingWrite z) p.writes
  pub changes : Each (IncomingChange z) p.changes
  pub sent : Each (IncomingOut z) p.sent

updates_out : (h : Site) (b : Broker) (v : Subscription) (z : ℕ) (ws : List Write) → Updates h b v ws → Each (OutgoingWrite h.own z) ws
updates_out h b v z ws Updates.NoUpdate = tt
updates_out h b v z ws (Updates.Update cut replicated passed) = (refl, tt)

-- what goes on with clients and subscriptions reaches no replicator, so that any z will do
pub served_out : (h : Site) (b : Broker) (c : ℕ) (p : Packet) (z : ℕ) (q : Plan) → Served h b c p q → Outgoing h.own z q
served_out h b c p z q (Served.Stores s id seq source e at sound new) = record { writes = (refl, tt); changes = tt; sent = (tt, tt) }
served_out h b c p z q (Served.Acknowledges s id kind ps v i is ws at sent by of after) = record { writes = (tt, updates_out h b _ z ws after); changes = (tt, tt); sent = tt }
served_out h b c p z q Served.Ignores = record { writes = tt; changes = tt; sent = tt }
served_out h b c p z q Served.Disconnects = record { writes = tt; changes = (tt, (tt, tt)); sent = tt }
served_out h b c p z q (Served.Connects s is new) = record { writes = tt; changes = (tt, (tt, tt)); sent = (tt, tt) }
served_out h b c p z q (Served.Answers s f at) = record { writes = tt; changes = tt; sent = (tt, tt) }
served_out h b c p z q (Served.ChangesProducers s ps f at) = record { writes = tt; changes = (tt, tt); sent = (tt, tt) }
served_out h b c p z q (Served.Repeats s id seq source e at sound old) = record { writes = tt; changes = tt; sent = (tt, tt) }
served_out h b c p z q (Served.Creates s topic n kind id request consumer earliest replicated at is may named) = record { writes = (tt, tt); changes = (tt, tt); sent = (tt, tt) }
served_out h b c p z q (Served.Joins s topic n kind id request consumer earliest replicated v at is may named free same) = record { writes = tt; changes = (tt, tt); sent = (tt, tt) }
served_out h b c p z q (Served.Alters s topic n kind id request consumer earliest replicated v at is may named free other) = record { writes = (tt, tt); changes = (tt, tt); sent = (tt, tt) }
served_out h b c p z q (Served.Permits s id permits v at is by) = record { writes = tt; changes = (tt, tt); sent = tt }
served_out h b c p z q (Served.Unsubscribes s id request v at is by last) = record { writes = (tt, tt); changes = tt; sent = (tt, tt) }
served_out h b c p z q (Served.ClosesConsumer s id request v at is by) = record { writes = tt; changes = (tt, tt); sent = (tt, tt) }

pub snaps_out : (h : Site) (b : Broker) (z : ℕ) (q : Plan) → Snaps h b q → Outgoing h.own z q
snaps_out h b z q Snaps.NothingToAsk = record { writes = tt; changes = tt; sent = tt }
snaps_out h b z q (Snaps.Asks any none) = record { writes = (refl, tt); changes = (tt, tt); sent = tt }

pub offers_out : (h : Site) (b : Broker) (n : List ℕ) (z : ℕ) (q : Plan) → Offers h b n q → Outgoing h.own z q
offers_out h b n z q Offers.NothingToOffer = record { writes = tt; changes = tt; sent = tt }
offers_out h b n z q (Offers.Gives v i at e due is picked) = record { writes = tt; changes = (tt, tt); sent = (tt, tt) }
offers_out h b n z q (Offers.SkipsMarker v i e ws due is after) = record { writes = (tt, updates_out h b _ z ws after); changes = (tt, (tt, tt)); sent = tt }
offers_out h b n z q (Offers.Caches v i j e c ws due is after) = record { writes = (tt, updates_out h b _ z ws after); changes = (tt, (tt, (tt, tt))); sent = tt }

pub seeks_out : (h : Site) (b : Broker) (n : List ℕ) (to : Option Position) (z : ℕ) (q : Plan) → Seeks h b n to q → Outgoing h.own z q
seeks_out h b n to z q Seeks.NothingToSeek = record { writes = tt; changes = tt; sent = tt }
seeks_out h b n to z q (Seeks.SeeksTo v i ws named at after) = record { writes = (tt, updates_out h b _ z ws after); changes = (tt, tt); sent = tt }

-- the events of the replicator to z
handled_out : (own z i : ℕ) (ws : List Write) → Each (OutgoingWrite own z) ws → Each (OutgoingWrite own z) (ws ++ write.ReplicatorAck z i ∷ [])
handled_out own z i ws h = each_both (OutgoingWrite own z) ws (write.ReplicatorAck z i ∷ []) h (refl, tt)

pub reads_out : (h : Site) (b : Broker) (z : ℕ) (q : Plan) → Reads h b z q → Outgoing h.own z q
reads_out h b z q Reads.NothingToRead = record { writes = tt; changes = tt; sent = tt }
reads_out h b z q (Reads.Forwards i e next out) = record { writes = tt; changes = (refl, tt); sent = (refl, tt) }
reads_out h b z q (Reads.Skips i e next other) = record { writes = (refl, tt); changes = (refl, tt); sent = tt }
reads_out h b z q (Reads.Responds i e id source next of is) = record { writes = (refl, (refl, tt)); changes = (refl, tt); sent = tt }
reads_out h b z q (Reads.Counts i e id answer u u' next is heard) = record { writes = (refl, tt); changes = (tt, (refl, tt)); sent = tt }
reads_out h b z q (Reads.AsksAgain i e id answer u u' next is heard) = record { writes = (refl, (refl, tt)); changes = (tt, (refl, tt)); sent = tt }
reads_out h b z q (Reads.Completes i e id answer u u' next is heard) = record { writes = (refl, (refl, tt)); changes = (tt, (refl, tt)); sent = tt }
reads_out h b z q (Reads.CreatesAt i j e n remote next is named) = record { writes = (tt, (tt, (refl, tt))); changes = (tt, (refl, tt)); sent = tt }
reads_out h b z q (Reads.ActsOnUpdate i j e n remote v ws next is named after) =
    record { writes = (tt, handled_out h.own z i ws (updates_out h b _ z ws after)); changes = (tt, (refl, tt)); sent = tt }

pub resets_out : (h : Site) (own z n : ℕ) → Outgoing own z (resets h z n)
resets_out h own z n = record { writes = (refl, tt); changes = (refl, tt); sent = (refl, tt) }

answered_out : (b : Broker) (own z : ℕ) (p : Packet) (q : Plan) → Answered b z p q → Outgoing own z q
answered_out b own z p q (Answered.Stale other) = record { writes = tt; changes = tt; sent = tt }
answered_out b own z p q (Answered.Other at other) = record { writes = tt; changes = tt; sent = tt }
answered_out b own z p q (Answered.Opened request name at is state) = record { writes = tt; changes = (refl, tt); sent = tt }
answered_out b own z p q (Answered.OpenBefore request name at is state) = record { writes = tt; changes = tt; sent = tt }
answered_out b own z p q (Answered.ClosedBefore request name at is state) = record { writes = tt; changes = tt; sent = tt }
answered_out b own z p q (Answered.Received id n i position at is pending) = record { writes = (refl, tt); changes = (refl, tt); sent = tt }
answered_out b own z p q (Answered.ReceivedBefore id n position at is pending) = record { writes = tt; changes = tt; sent = tt }

pub fated_out : (per : ℕ) (b : Broker) (own z : ℕ) (p : Packet) (q : Plan) → Fated per b (λ c. Answered c z p) (quiet_plan []) q → Outgoing own z q
fated_out per b own z p q (Fated.Once r t) = answered_out b own z p r t
fated_out per b own z p q Fated.Lost = record { writes = tt; changes = tt; sent = tt }
fated_out per b own z p q (Fated.Twice r r' t t') =
    let o = answered_out b own z p r t in let o' = answered_out _ own z p r' t' in
    record {
      writes = each_both (OutgoingWrite own z) r.writes r'.writes o.writes o'.writes;
      changes = each_both (OutgoingChange z) r.changes r'.changes o.changes o'.changes;
      sent = each_both (OutgoingOut z) r.sent r'.sent o.sent o'.sent;
    }

-- receipts send nothing
answered_quiet : (b : Broker) (z : ℕ) (p : Packet) (q : Plan) → Answered b z p q → q.sent ≡ []
answered_quiet b z p q (Answered.Stale other) = refl
answered_quiet b z p q (Answered.Other at other) = refl
answered_quiet b z p q (Answered.Opened request name at is state) = refl
answered_quiet b z p q (Answered.OpenBefore request name at is state) = refl
answered_quiet b z p q (Answered.ClosedBefore request name at is state) = refl
answered_quiet b z p q (Answered.Received id n i position at is pending) = refl
answered_quiet b z p q (Answered.ReceivedBefore id n position at is pending) = refl

pub fated_quiet : (per : ℕ) (b : Broker) (z : ℕ) (p : Packet) (q : Plan) → Fated per b (λ c. Answered c z p) (quiet_plan []) q → q.sent ≡ []
fated_quiet per b z p q (Fated.Once r t) = answered_quiet b z p r t
fated_quiet per b z p q Fated.Lost = refl
fated_quiet per b z p q (Fated.Twice r r' t t') =
    ap (λ (os : List Out). os ++ r'.sent) (answered_quiet b z p r t) ∙ answered_quiet _ z p r' t'

-- the packets that are taken from z
taken_in : (h : Site) (b : Broker) (z : ℕ) (p : Packet) (q : Plan) → Taken h b z p q → Incoming z q
taken_in h b z p q (Taken.Unreadable is) = record { writes = tt; changes = (refl, tt); sent = tt }
taken_in h b z p q (Taken.Opens topic id request name is opening) = record { writes = tt; changes = (refl, tt); sent = (refl, tt) }
taken_in h b z p q (Taken.Discards other shut) = record { writes = tt; changes = tt; sent = tt }
taken_in h b z p q (Taken.Refuses other at may) = record { writes = tt; changes = (refl, tt); sent = tt }
taken_in h b z p q (Taken.Stores id seq source e is at may new) = record { writes = (refl, tt); changes = tt; sent = (refl, tt) }
taken_in h b z p q (Taken.Repeats id seq source e is at may old) = record { writes = tt; changes = tt; sent = (refl, tt) }

pub fated_in : (per : ℕ) (h : Site) (b : Broker) (z : ℕ) (p : Packet) (q : Plan) → Fated per b (λ c. Taken h c z p) (closes z) q → Incoming z q
fated_in per h b z p q (Fated.Once r t) = taken_in h b z p r t
fated_in per h b z p q Fated.Lost = record { writes = tt; changes = (refl, tt); sent = tt }
fated_in per h b z p q (Fated.Twice r r' t t') =
    let o = taken_in h b z p r t in let o' = taken_in h _ z p r' t' in
    record {
      writes = each_both (IncomingWrite z) r.writes r'.writes o.writes o'.writes;
      changes = each_both (IncomingChange z) r.changes r'.changes o.changes o'.changes;
      sent = each_both (IncomingOut z) r.sent r'.sent o.sent o'.sent;
    }
