-- An entry that came, and packets after what an event does.
use Rattle.std.proofs.Common.{◌≡◌, ℕ, ◌≤◌, Bool, true, false, List, [], ◌∷◌, ◌++◌, refl, sym, ◌∙◌, ap, arith}
use Rattle.std.specs.Prelude.{Some}
use Rattle.topic_store.specs.Table.{stream_of}
use Rattle.geo_base.specs.declared.change.Change.{Change}
use Rattle.geo_base.specs.declared.entry.Entry.{Entry}
use Rattle.geo_base.specs.declared.entry.Ident.{Ident}
use Rattle.topic_store.specs.declared.stream.Stream.{Stream}
use Rattle.geo_base.specs.declared.packet.Out.{Out}
use Rattle.geo_base.specs.declared.position.Position.{Position}
use Rattle.geo_base.specs.declared.write.Write.{Write}
use Rattle.geo_base.specs.Broker.{Broker, Site}
use Rattle.geo_base.specs.Plan.{plan_of}
use Rattle.geo_base.specs.Position.{no_position}
use Rattle.geo_base.specs.Storing.{receipt_position, storing}
use Rattle.geo_base.specs.Topic.{accepts, next_position}
use Rattle.broker_state.specs.Plan.{PlanView, quiet_view}
use Rattle.broker_state.specs.Room.{HasRoom, Room}
use Rattle.geo_base.specs.declared.packet.WireOut.{WireOut}
use Rattle.broker_state.specs.declared.write.StateWrite.TheVariants as state_write
use Rattle.broker_plans.specs.Prepared.{AlsoSends, ArePackets, IsPrepared}
use Rattle.broker_plans.specs.Storable.{IsStorable}
use Rattle.broker_plans.specs.Updates.{appending}

-- the event that stores an entry
abbrev pub stores : Entry → PlanView
stores e = record (quiet_view 0) { writes = appending e ∷ [] }

pub new_stored : (h : Site) (b : Broker) (e : Entry) (p : PlanView) → accepts b.entries e.ident ≡ true → IsStorable h e → p ≡ stores e → IsPrepared h b (plan_of (storing b e) [] []) p
new_stored h b e p new storable is =
    rw (is, new) (record {
      steps = refl;
      sent = tt;
      fits = record { writes_named = (tt, tt); changes_named = tt; writes = ((new, refl), tt); changes = tt };
      stored = record { writes = (storable, tt); changes = tt };
    })

pub old_stored : (h : Site) (b : Broker) (e : Entry) (p : PlanView) → accepts b.entries e.ident ≡ false → p ≡ quiet_view 0 → IsPrepared h b (plan_of (storing b e) [] []) p
old_stored h b e p old is =
    rw (is, old) (record {
      steps = refl;
      sent = tt;
      fits = record { writes_named = tt; changes_named = tt; writes = tt; changes = tt };
      stored = record { writes = tt; changes = tt };
    })

-- the position of the store whose state is the same
pub new_position : (per : ℕ) (b c : Broker) (e : Entry) (m : ℕ) (ls : List ℕ) (p : Position) → accepts b.entries e.ident ≡ true → p ≡ next_position m ls → m ≡ per → ls ≡ c.ledgers → c ≡ b
    → Some p ≡ receipt_position per b e
new_position per b c e m ls p new at each ledgers same = rw (at, each, ledgers, same, new) refl

pub old_place : (per : ℕ) (b : Broker) (e : Entry) → accepts b.entries e.ident ≡ false → Some no_position ≡ receipt_position per b e
old_place per b e old = rw old refl

pub stores_is : (e : Entry) (s : Stream) (q p : PlanView) → s ≡ stream_of e.ident → q ≡ quiet_view 0 → p ≡ record q { writes = q.writes ++ state_write.Append e s ∷ [] } → p ≡ stores e
stores_is e s q p stream quiet is = is ∙ rw (quiet, stream) refl

pub new_room : (room : Room) (e : Entry) (p : PlanView) → 1 ≤ room.entries → 1 ≤ room.streams → p ≡ stores e → HasRoom room p
new_room room e p entries streams is =
    rw is (record { writes = record { entries = entries; streams = streams; places = omega arith; acks = (tt, tt); replicators = omega arith }; given = omega arith; replicators = omega arith })

pub no_room : (room : Room) (k : ℕ) (p : PlanView) → p ≡ quiet_view k → HasRoom room p
no_room room k p is =
    rw is (record { writes = record { entries = omega arith; streams = omega arith; places = omega arith; acks = tt; replicators = omega arith }; given = omega arith; replicators = omega arith })

-- ---- packets

none_sent : (names : List (List ℕ)) (ps : List WireOut) → ArePackets names [] ps → ps ≡ []
none_sent names [] all = refl
none_sent names (p ∷ ps) all = absurd all

-- a packet after what an event does, which sent nothing before
pub sends_more : (h : Site) (b : Broker) (ws : List Write) (cs : List Change) (o : Out) (p q : PlanView) → IsPrepared h b (plan_of ws cs []) p → AlsoSends h.clusters o p q → IsPrepared h b (plan_of ws cs (o ∷ [])) q
sends_more h b ws cs o p q is more =
    let alone : p.sent ≡ [] = none_sent h.clusters p.sent is.sent in
    rw more.with (record {
      steps = is.steps;
      sent = rw alone (more.written, tt);
      fits = record { writes_named = is.fits.writes_named; changes_named = is.fits.changes_named; writes = is.fits.writes; changes = is.fits.changes };
      stored = record { writes = is.stored.writes; changes = is.stored.changes };
    })

pub room_more : (names : List (List ℕ)) (room : Room) (o : Out) (p q : PlanView) → HasRoom room p → AlsoSends names o p q → HasRoom room q
room_more names room o p q is more = rw more.with (record { writes = is.writes; given = is.given; replicators = is.replicators })

-- what the table of duplicates says of an entry's stream is what the topic says of the entry
pub stream_tells : (es : List Entry) (i : Ident) (s : Stream) (a : Bool) → s ≡ stream_of i → a ≡ accepts es (record { origin = s.origin; producer = s.producer; seq = i.seq }) → accepts es i ≡ a
stream_tells es i s a is told = sym (told ∙ ap (λ (t : Stream). accepts es (record { origin = t.origin; producer = t.producer; seq = i.seq })) is)
