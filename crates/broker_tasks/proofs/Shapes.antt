-- Events that are idle, that give an index, and that write a cursor: each is the machine's plan, and a broker can do it.
use Rattle.std.proofs.Common.{◌≡◌, ℕ, ◌+◌, ◌<◌, ◌≤◌, ◌^◌, true, List, [], ◌∷◌, ◌++◌, length, map, refl, sym, ◌∙◌, ap, subst, arith}
use Rattle.std.specs.Prelude.{Option, Result, OnOk}
use Rattle.std.specs.List.{AllByRecursion}
use Rattle.geo_base.specs.declared.change.Change.TheVariants as change
use Rattle.geo_base.specs.declared.entry.Entry.{Entry}
use Rattle.geo_base.specs.declared.snapshot.CachedSnapshot.{CachedSnapshot}
use Rattle.geo_base.specs.declared.write.Write.{Write}
use Rattle.geo_base.specs.Broker.{Broker, Site}
use Rattle.geo_base.specs.Dispatcher.{consumer_at}
use Rattle.geo_base.specs.Name.{is_name}
use Rattle.geo_base.specs.Offering.{message}
use Rattle.geo_base.specs.Plan.{Plan, all_written, idle_plan, plan_of}
use Rattle.geo_base.specs.Storing.{cursor_write}
use Rattle.broker_subs.specs.Steps.{SubWriteFits, machine_sub_write}
use Rattle.broker_subs.specs.Table.{names_of, room_at, sub_at}
use Rattle.broker_subs.specs.declared.writing.SubWrite.{SubWrite}
use Rattle.broker_state.specs.Fits.{AllChangesFit, ChangesNamed, NamedFits}
use Rattle.broker_state.specs.Plan.{PlanView, idle_view, name_in, named_plan, quiet_view}
use Rattle.broker_state.specs.Room.{HasRoom, Room, WritesHaveRoom, change_room, change_replicators, total}
use Rattle.broker_state.specs.Writes.{machine_change}
use Rattle.broker_state.specs.declared.change.StateChange.{StateChange}
use Rattle.geo_base.specs.declared.packet.WireOut.{WireOut}
use Rattle.broker_state.specs.declared.write.StateWrite.{StateWrite}
use Rattle.broker_state.specs.Site.{IsSite}
use Rattle.broker_plans.specs.Prepared.{ArePackets, IsPrepared, unsent}
use Rattle.broker_plans.specs.Storable.{ChangesStorable, IsSnapshotOf, PlanStorable}
use Rattle.broker_plans.specs.Updates.{cursor_writes, update_after}
use Rattle.broker_plans.proofs.Places.{name_there, there}
use Rattle.broker_plans.proofs.Updates.{cursor_fits, cursor_named, cursor_names, cursor_steps, cursor_stored}
use Rattle.broker_tasks.specs.Offering.{given_view, writing_view}

-- an event about a subscription whose name is known
pub with_name : (h : Site) (b : Broker) (plan : Plan) (p : PlanView) (n : List ℕ) → name_in b.subs p ≡ n → named_plan n b.entries p ≡ unsent plan → ArePackets h.clusters plan.sent p.sent
    → NamedFits h.per_ledger n b p → PlanStorable h plan → IsPrepared h b plan p
with_name h b plan p n is steps sent fits stored = record {
  steps = subst (λ (m : List ℕ). named_plan m b.entries p ≡ unsent plan) (sym is) steps;
  sent = sent;
  fits = subst (λ (m : List ℕ). NamedFits h.per_ledger m b p) (sym is) fits;
  stored = stored;
}

pub idle : (h : Site) (b : Broker) (p : PlanView) → p ≡ idle_view → IsPrepared h b idle_plan p
idle h b p is =
    rw is (record {
      steps = refl;
      sent = tt;
      fits = record { writes_named = tt; changes_named = tt; writes = tt; changes = tt };
      stored = record { writes = tt; changes = tt };
    })

pub idle_room : (room : Room) (p : PlanView) → p ≡ idle_view → HasRoom room p
idle_room room p is =
    rw is (record { writes = record { entries = omega arith; streams = omega arith; places = omega arith; acks = tt; replicators = omega arith }; given = omega arith; replicators = omega arith })

-- ---- an index is given

pub gives_index : (h : Site) (b : Broker) (k i at : ℕ) (e : Entry) (o : WireOut) (p : PlanView) → k < length b.subs → i + 1 < 2 ^ 64 → at < length (sub_at b.subs k).consumers
    → ArePackets h.clusters (message h b i e (consumer_at (sub_at b.subs k).consumers at)) (o ∷ []) → p ≡ given_view k i at o
    → IsPrepared h b (plan_of [] (change.Given (sub_at b.subs k).name i at ∷ []) (message h b i e (consumer_at (sub_at b.subs k).consumers at))) p
gives_index h b k i at e o p within next there_at packet is =
    let s = sub_at b.subs k in
    rw is
    (with_name h b (plan_of [] (change.Given s.name i at ∷ []) (message h b i e (consumer_at s.consumers at))) (given_view k i at o) s.name (rw (there b.subs k within) refl) refl packet
    (record { writes_named = tt; changes_named = (name_there b.subs k within, tt); writes = tt; changes = ((next, there_at), tt) })
    (record { writes = tt; changes = tt }))

pub given_room : (room : Room) (k i at : ℕ) (o : WireOut) (p : PlanView) → 1 ≤ (room_at room.subs k).room → p ≡ given_view k i at o → HasRoom room p
given_room room k i at o p some is =
    rw is (record { writes = record { entries = omega arith; streams = omega arith; places = omega arith; acks = tt; replicators = omega arith }; given = omega (arith, some); replicators = omega arith })

-- ---- a cursor is written

-- with the cache that the subscription has then, and changes that follow
pub writes_cursor : (h : Site) (b : Broker) (k : ℕ) (w : SubWrite) (cache : List CachedSnapshot) (cs : List StateChange) → IsSite h → k < length b.subs → is_name (sub_at b.subs k).name ≡ true
    → AllByRecursion (IsSnapshotOf h) cache → SubWriteFits b.entries (sub_at b.subs k) w → ChangesNamed (sub_at b.subs k).name k (names_of b.subs) cs
    → ((c : Broker) → AllChangesFit (sub_at b.subs k).name k c cs) → ChangesStorable h (map (machine_change (sub_at b.subs k).name) cs)
    → IsPrepared h b (plan_of (cursor_write h b (record (sub_at b.subs k) { cache = cache }) (machine_sub_write (sub_at b.subs k).name b.entries w)) (map (machine_change (sub_at b.subs k).name) cs) [])
    (writing_view k w (update_after h b k w cache) cs)
writes_cursor h b k w cache cs site within named small fits names changes stored =
    let s = sub_at b.subs k in
    let ms = map (machine_change s.name) cs in
    let p = writing_view k w (update_after h b k w cache) cs in
    with_name h b (plan_of (cursor_write h b (record s { cache = cache }) (machine_sub_write s.name b.entries w)) ms []) p s.name (rw (there b.subs k within) refl)
    (ap (λ (ws : List Write). plan_of ws ms []) (cursor_steps h b k w cache)) tt
    (record {
      writes_named = cursor_named h b k w cache within;
      changes_named = rw (cursor_names h b k w cache (names_of b.subs)) names;
      writes = cursor_fits h.per_ledger h b s.name k w cache fits;
      changes = changes (all_written h.per_ledger b (named_plan s.name b.entries p).writes);
    })
    (record { writes = cursor_stored h b (record s { cache = cache }) b.entries w site named small; changes = stored })

-- it begins with the write, and the changes follow
pub writing_is : (k : ℕ) (w v : SubWrite) (o u : Option StateWrite) (cs : List StateChange) (q p : PlanView) → q ≡ record (quiet_view k) { writes = cursor_writes w o } → p ≡ record q { changes = q.changes ++ cs }
    → w ≡ v → o ≡ u → p ≡ writing_view k v u cs
writing_is k w v o u cs q p begun is same told = is ∙ rw (begun, same, told) refl

-- changes that take no room
pub writing_room : (room : Room) (k : ℕ) (w : SubWrite) (o : Option StateWrite) (cs : List StateChange) (p : PlanView) → WritesHaveRoom room k (cursor_writes w o)
    → total change_room cs ≡ 0 → total change_replicators cs ≡ 0 → p ≡ writing_view k w o cs → HasRoom room p
writing_room room k w o cs p writes none still is = rw is (record { writes = writes; given = omega (arith, none); replicators = omega (arith, writes.replicators, still) })

-- ---- a plan that is the same as another one

pub idle_as : (h : Site) (b : Broker) (q : Plan) (p : PlanView) → q ≡ idle_plan → p ≡ idle_view → IsPrepared h b q p
idle_as h b q p same is = rw same (idle h b p is)

pub plan_as : {E : Type 0} (h : Site) (b : Broker) (q w : Plan) (p : PlanView) (r : Result (Unit {0}) E) → q ≡ w → OnOk r (IsPrepared h b w p) → OnOk r (IsPrepared h b q p)
plan_as {E} h b q w p r same prepared = rw same prepared
