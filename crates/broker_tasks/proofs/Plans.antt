-- Prepared events of a replicator that reads, step by step.
use Rattle.std.proofs.Common.{◌≡◌, ℕ, ◌+◌, ◌<◌, ◌≤◌, Bool, true, false, List, [], ◌∷◌, length, refl, sym, subst, arith}
use Rattle.std.specs.Prelude.{◌&&◌, Option, Some, IfSome, Result, OnOk, is_none, slice_index_or, slice_set}
use Rattle.std.specs.List.{list_any}
use Rattle.std.proofs.lemmas.List.{get_or-set_same, length-set}
use Rattle.geo_base.specs.declared.change.Change.TheVariants as change
use Rattle.geo_base.specs.declared.entry.Entry.{Entry}
use Rattle.geo_base.specs.declared.frame.Frame.TheVariants as frame
use Rattle.geo_base.specs.declared.marker.ClusterRef.TheVariants as cluster_ref
use Rattle.geo_base.specs.declared.packet.Peer.TheVariants as peer
use Rattle.geo_base.specs.declared.snapshot.SnapshotBuilder.{SnapshotBuilder}
use Rattle.geo_base.specs.declared.snapshot.Progress.{Progress}
use Rattle.geo_base.specs.declared.write.Write.TheVariants as write
use Rattle.geo_base.specs.Broker.{Broker, Site, cluster_name, replicator_at}
use Rattle.geo_base.specs.SnapshotBuilder.{snapshot_id}
use Rattle.geo_base.specs.Cursor.{with_index}
use Rattle.geo_base.specs.Markers.{after_response, asks, snap}
use Rattle.geo_base.specs.Plan.{Plan, idle_plan, plan_of}
use Rattle.geo_base.specs.Reading.{forwards}
use Rattle.geo_base.specs.Replicator.{Replicator, new_replicator}
use Rattle.geo_base.specs.Subscription.{Subscription}
use Rattle.geo_base.specs.Topic.{next_position}
use Rattle.geo_base.specs.Updating.{handled}
use Rattle.broker_state.specs.Plan.{PlanView, idle_view, quiet_view}
use Rattle.broker_state.specs.Room.{HasRoom, Room}
use Rattle.broker_state.specs.declared.change.StateChange.TheVariants as state_change
use Rattle.broker_plans.specs.Prepared.{IsPrepared}
use Rattle.broker_plans.specs.Storable.{IsBuilderOf}
use Rattle.broker_plans.specs.Updates.{appending}
use Rattle.broker_tasks.specs.Reading.{IsReading, IsReady, ReadRoom, handled_view}
use Rattle.frame_values.specs.Coded.{IsWritten}

-- ---- nothing is done

pub idle : (h : Site) (b : Broker) (p : PlanView) → p ≡ idle_view → IsPrepared h b idle_plan p
idle h b p is =
    rw is (record { steps = refl; sent = tt; fits = record { writes_named = tt; changes_named = tt; writes = tt; changes = tt }; stored = record { writes = tt; changes = tt } })

pub idle_room : (room : Room) (p : PlanView) → p ≡ idle_view → HasRoom room p
idle_room room p is =
    rw is (record { writes = record { entries = omega arith; streams = omega arith; places = omega arith; acks = tt; replicators = omega arith }; given = omega arith; replicators = omega arith })

-- ---- what is read is acknowledged

-- a replicator whose cursor gained an index reads on after it
pub reads_on : (ss : List Replicator) (y i : ℕ) (s : Replicator) → y < length ss → s.next ≤ i → (y < length (slice_set ss y s)) × ((slice_index_or (slice_set ss y s) y new_replicator).next ≤ i + 1)
reads_on ss y i s within sent = (rw (length-set ss y s) within, rw (get_or-set_same ss y s new_replicator within) (omega (arith, sent)))

-- the replicator to y, whose cursor gained index i
abbrev pub acked_replicator : Broker → ℕ → ℕ → Replicator
acked_replicator b y i = record (replicator_at b y) { cursor = with_index (replicator_at b y).cursor i }

pub skipped : (h : Site) (b : Broker) (y i : ℕ) (p : PlanView) → IsReading h b y i → p ≡ handled_view y i (quiet_view 0) → IsPrepared h b (handled y i [] []) p
skipped h b y i p at is =
    rw is (record {
      steps = refl;
      sent = tt;
      fits = record {
        writes_named = (tt, tt);
        changes_named = (tt, tt);
        writes = ((at.replicator, at.fits), tt);
        changes = (reads_on b.replicators y i (acked_replicator b y i) at.replicator at.next, tt);
      };
      stored = record { writes = tt; changes = tt };
    })

pub skipped_room : (room : Room) (y i : ℕ) (p : PlanView) → 1 ≤ room.replicators → p ≡ handled_view y i (quiet_view 0) → HasRoom room p
skipped_room room y i p has is =
    rw is (record {
      writes = record { entries = omega arith; streams = omega arith; places = omega arith; acks = (tt, tt); replicators = omega (arith, has) };
      given = omega arith;
      replicators = omega (arith, has);
    })

-- after a marker

pub stored : (h : Site) (b : Broker) (y i : ℕ) (e : Entry) (p : PlanView) → IsReading h b y i → IsReady h b e → p ≡ handled_view y i (record (quiet_view 0) { writes = appending e ∷ [] })
    → IsPrepared h b (handled y i (write.Append e ∷ []) []) p
stored h b y i e p at ready is =
    rw is (record {
      steps = refl;
      sent = tt;
      fits = record {
        writes_named = (tt, (tt, tt));
        changes_named = (tt, tt);
        writes = ((ready.new, refl), ((at.replicator, at.fits), tt));
        changes = (reads_on b.replicators y i (acked_replicator b y i) at.replicator at.next, tt);
      };
      stored = record { writes = (ready.storable, tt); changes = tt };
    })

pub stored_room : (room : Room) (y i : ℕ) (e : Entry) (p : PlanView) → ReadRoom room → p ≡ handled_view y i (record (quiet_view 0) { writes = appending e ∷ [] }) → HasRoom room p
stored_room room y i e p has is =
    rw is (record {
      writes = record { entries = omega (arith, has.entries); streams = omega (arith, has.streams); places = omega arith; acks = (tt, (tt, tt)); replicators = omega (arith, has.replicators) };
      given = omega arith;
      replicators = omega (arith, has.replicators);
    })

-- after a change of the snapshot that is being made

pub kept : (h : Site) (b : Broker) (y i : ℕ) (u : SnapshotBuilder) (p : PlanView) → IsReading h b y i → IsBuilderOf h u
    → p ≡ handled_view y i (record (quiet_view 0) { changes = state_change.Building (Some u) ∷ [] }) → IsPrepared h b (handled y i [] (change.Building (Some u) ∷ [])) p
kept h b y i u p at of is =
    rw is (record {
      steps = refl;
      sent = tt;
      fits = record {
        writes_named = (tt, tt);
        changes_named = (tt, (tt, tt));
        writes = ((at.replicator, at.fits), tt);
        changes = (tt, (reads_on b.replicators y i (acked_replicator b y i) at.replicator at.next, tt));
      };
      stored = record { writes = tt; changes = (of, tt) };
    })

pub kept_room : (room : Room) (y i : ℕ) (u : SnapshotBuilder) (p : PlanView) → ReadRoom room → p ≡ handled_view y i (record (quiet_view 0) { changes = state_change.Building (Some u) ∷ [] }) → HasRoom room p
kept_room room y i u p has is =
    rw is (record {
      writes = record { entries = omega arith; streams = omega arith; places = omega arith; acks = (tt, tt); replicators = omega (arith, has.replicators) };
      given = omega arith;
      replicators = omega (arith, has.replicators);
    })

-- after both

abbrev pub told_view : Entry → Option SnapshotBuilder → PlanView
told_view e o = record (quiet_view 0) { writes = appending e ∷ []; changes = state_change.Building o ∷ [] }

pub told : (h : Site) (b : Broker) (y i : ℕ) (e : Entry) (o : Option SnapshotBuilder) (p : PlanView) → IsReading h b y i → IsReady h b e → IfSome o (IsBuilderOf h)
    → p ≡ handled_view y i (told_view e o) → IsPrepared h b (handled y i (write.Append e ∷ []) (change.Building o ∷ [])) p
told h b y i e o p at ready of is =
    rw is (record {
      steps = refl;
      sent = tt;
      fits = record {
        writes_named = (tt, (tt, tt));
        changes_named = (tt, (tt, tt));
        writes = ((ready.new, refl), ((at.replicator, at.fits), tt));
        changes = (tt, (reads_on b.replicators y i (acked_replicator b y i) at.replicator at.next, tt));
      };
      stored = record { writes = (ready.storable, tt); changes = (of, tt) };
    })

pub told_room : (room : Room) (y i : ℕ) (e : Entry) (o : Option SnapshotBuilder) (p : PlanView) → ReadRoom room → p ≡ handled_view y i (told_view e o) → HasRoom room p
told_room room y i e o p has is =
    rw is (record {
      writes = record { entries = omega (arith, has.entries); streams = omega (arith, has.streams); places = omega arith; acks = (tt, (tt, tt)); replicators = omega (arith, has.replicators) };
      given = omega arith;
      replicators = omega (arith, has.replicators);
    })

-- ---- an entry is sent

abbrev pub forwarding_view : Broker → ℕ → ℕ → List ℕ → PlanView
forwarding_view b y i bytes = record (quiet_view 0) {
  changes = state_change.Pend y i ∷ [];
  sent = record { to = peer.Forward y; session = (replicator_at b y).session; frame = bytes } ∷ [];
}

pub forwarded : (h : Site) (b : Broker) (y i : ℕ) (e : Entry) (bytes : List ℕ) (p : PlanView) → IsReading h b y i
    → IsWritten h.clusters (frame.Send (replicator_at b y).session (replicator_at b y).next (Some (cluster_ref.Known h.own)) e) bytes → p ≡ forwarding_view b y i bytes
    → IsPrepared h b (forwards h y (replicator_at b y) i e) p
forwarded h b y i e bytes p at written is =
    rw is (record {
      steps = refl;
      sent = (record { to = refl; session = refl; frame = written }, tt);
      fits = record { writes_named = tt; changes_named = (tt, tt); writes = tt; changes = ((at.replicator, at.next, at.fits), tt) };
      stored = record { writes = tt; changes = tt };
    })

pub forwarded_room : (room : Room) (b : Broker) (y i : ℕ) (bytes : List ℕ) (p : PlanView) → 1 ≤ room.replicators → p ≡ forwarding_view b y i bytes → HasRoom room p
forwarded_room room b y i bytes p has is =
    rw is (record {
      writes = record { entries = omega arith; streams = omega arith; places = omega arith; acks = tt; replicators = omega arith };
      given = omega arith;
      replicators = omega (arith, has);
    })

-- ---- a snapshot begins

pub asked : (h : Site) (b : Broker) (e : Entry) (u : SnapshotBuilder) (p : PlanView) → IsReady h b e → IsBuilderOf h u → p ≡ told_view e (Some u)
    → IsPrepared h b (plan_of (write.Append e ∷ []) (change.Building (Some u) ∷ []) []) p
asked h b e u p ready of is =
    rw is (record {
      steps = refl;
      sent = tt;
      fits = record { writes_named = (tt, tt); changes_named = (tt, tt); writes = ((ready.new, refl), tt); changes = (tt, tt) };
      stored = record { writes = (ready.storable, tt); changes = (of, tt) };
    })

pub asked_room : (room : Room) (e : Entry) (u : SnapshotBuilder) (p : PlanView) → 1 ≤ room.entries → 1 ≤ room.streams → p ≡ told_view e (Some u) → HasRoom room p
asked_room room e u p entries streams is =
    rw is (record {
      writes = record { entries = omega (arith, entries); streams = omega (arith, streams); places = omega arith; acks = (tt, tt); replicators = omega arith };
      given = omega arith;
      replicators = omega arith;
    })

-- whether it may begin
abbrev pub may_ask : Broker → Bool
may_ask b = list_any (λ (s : Subscription). s.replicated) b.subs && is_none b.builder

pub not_asked : (h : Site) (b : Broker) (p : PlanView) → may_ask b ≡ false → p ≡ idle_view → IsPrepared h b (snap h b) p
unfolding snap
not_asked h b p may is = rw may (idle h b p is)

pub asks_now : (h g : Site) (b c : Broker) (id : List ℕ) (p : PlanView) → g ≡ h → c ≡ b → may_ask b ≡ true → id ≡ snapshot_id (cluster_name h h.own) (next_position h.per_ledger b.ledgers)
    → IsPrepared g c (asks g c id) p → IsPrepared h b (snap h b) p
unfolding snap
asks_now h g b c id p site same may named prepared =
    rw (may, sym named) (subst (λ (f : Site). IsPrepared f b (asks f b id) p) site (subst (λ (d : Broker). IsPrepared g d (asks g d id) p) same prepared))

-- what a response came to, and what is done then
pub progressed : {E : Type 0} (h : Site) (b : Broker) (y i : ℕ) (was now : Progress) (u : SnapshotBuilder) (q : Plan) (p : PlanView) (r : Result (Unit {0}) E) → was ≡ now → q ≡ after_response h b y i now u
    → OnOk r (IsPrepared h b q p) → OnOk r (IsPrepared h b (after_response h b y i was u) p)
progressed {E} h b y i was now u q p r is same prepared = rw is (subst (λ (x : Plan). OnOk r (IsPrepared h b x p)) same prepared)
