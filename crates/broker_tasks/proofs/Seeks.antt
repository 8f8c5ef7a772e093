-- What a seek and a restart are.
use Rattle.std.proofs.Common.{◌≡◌, ℕ, ◌+◌, ◌<◌, ◌≤◌, ◌^◌, true, List, [], ◌∷◌, length, refl, arith}
use Rattle.std.specs.Prelude.{Option, Some, None}
use Rattle.geo_base.specs.declared.change.Change.TheVariants as change
use Rattle.geo_base.specs.declared.position.Position.{Position}
use Rattle.geo_base.specs.declared.write.Write.TheVariants as write
use Rattle.geo_base.specs.Broker.{Broker, Site, sub_named}
use Rattle.geo_base.specs.Name.{is_name}
use Rattle.geo_base.specs.Plan.{idle_plan, plan_of}
use Rattle.geo_base.specs.Seeking.{restart, seek, seek_index}
use Rattle.geo_base.specs.Storing.{cursor_write}
use Rattle.geo_base.specs.Subscription.{Subscription}
use Rattle.broker_subs.specs.Table.{sub_at}
use Rattle.broker_subs.specs.declared.changing.SubChange.TheVariants as sub_change
use Rattle.broker_subs.specs.declared.writing.SubWrite.TheVariants as sub_write
use Rattle.broker_state.specs.Plan.{PlanView, quiet_view}
use Rattle.broker_state.specs.Room.{HasRoom, Room}
use Rattle.broker_state.specs.declared.change.StateChange.TheVariants as state_change
use Rattle.broker_state.specs.declared.write.StateWrite.TheVariants as state_write
use Rattle.broker_state.specs.Site.{IsSite}
use Rattle.broker_plans.specs.Prepared.{IsPrepared}
use Rattle.broker_plans.specs.Storable.{IsWritable}
use Rattle.broker_plans.specs.Updates.{update_after}
use Rattle.broker_plans.proofs.Places.{name_there}
use Rattle.broker_plans.proofs.Updates.{cache_at}
use Rattle.broker_tasks.specs.Offering.{writing_view}
use Rattle.broker_tasks.specs.Seeking.{SeekFits}
use Rattle.broker_tasks.proofs.Shapes.{writes_cursor}

pub no_sub : (h : Site) (b : Broker) (n : List ℕ) (to : Option Position) → sub_named b.subs n ≡ None → seek h b n to ≡ idle_plan
unfolding seek
no_sub h b n to none = rw none refl

pub no_place : (h : Site) (b : Broker) (n : List ℕ) (to : Option Position) (s : Subscription) → sub_named b.subs n ≡ Some s → seek_index b to ≡ None → seek h b n to ≡ idle_plan
unfolding seek
no_place h b n to s is none = rw (is, none) refl

pub some_place : (h : Site) (b : Broker) (n : List ℕ) (to : Option Position) (s : Subscription) (i : ℕ) → sub_named b.subs n ≡ Some s → seek_index b to ≡ Some i
    → seek h b n to ≡ plan_of (cursor_write h b s (write.Seek s.name i)) (change.Cleared s.name ∷ []) []
unfolding seek
some_place h b n to s i is at = rw (is, at) refl

pub counted : (b : Broker) (n : List ℕ) (s : Subscription) → SeekFits b n → sub_named b.subs n ≡ Some s → s.seeks + 1 < 2 ^ 64
counted b n s fits is = rw is at fits

-- the event that sets the cursor of the subscription at place k
pub seeks : (h : Site) (b : Broker) (k i : ℕ) (p : PlanView) → IsSite h → IsWritable h b → k < length b.subs → is_name (sub_at b.subs k).name ≡ true → i ≤ length b.entries → (sub_at b.subs k).seeks + 1 < 2 ^ 64
    → p ≡ writing_view k (sub_write.Seek i) (update_after h b k (sub_write.Seek i) (sub_at b.subs k).cache) (state_change.Sub sub_change.Cleared ∷ [])
    → IsPrepared h b (plan_of (cursor_write h b (sub_at b.subs k) (write.Seek (sub_at b.subs k).name i)) (change.Cleared (sub_at b.subs k).name ∷ []) []) p
seeks h b k i p site writable within named stored fits is =
    let s = sub_at b.subs k in
    rw is
    (writes_cursor h b k (sub_write.Seek i) s.cache (state_change.Sub sub_change.Cleared ∷ []) site within named (cache_at h b.subs k writable.caches) (stored, fits) (name_there b.subs k within, tt) (λ c. (tt, tt)) tt)

-- ---- restart

abbrev pub restart_view : PlanView
restart_view = record (quiet_view 0) { writes = state_write.Ledger ∷ []; changes = state_change.Forget ∷ [] }

pub restarts : (h : Site) (b : Broker) (p : PlanView) → p ≡ restart_view → IsPrepared h b restart p
unfolding restart
restarts h b p is =
    rw is (record {
      steps = refl;
      sent = tt;
      fits = record { writes_named = (tt, tt); changes_named = (tt, tt); writes = (tt, tt); changes = (tt, tt) };
      stored = record { writes = tt; changes = tt };
    })

pub restart_room : (room : Room) (p : PlanView) → 1 ≤ room.entries → p ≡ restart_view → HasRoom room p
restart_room room p some is =
    rw is (record { writes = record { entries = omega (arith, some); streams = omega arith; places = omega arith; acks = (tt, tt); replicators = omega arith }; given = omega arith; replicators = omega arith })
