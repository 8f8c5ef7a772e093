-- The session that is open on a forward link changes.
use Rattle.std.proofs.Common.{◌≡◌, ℕ, ◌<◌, [], ◌∷◌, ◌++◌, ◌∙◌, length, refl, arith}
use Rattle.std.specs.Prelude.{Option}
use Rattle.std.proofs.lemmas.List.{length-set}
use Rattle.geo_base.specs.declared.change.Change.TheVariants as change
use Rattle.geo_base.specs.Broker.{Broker, Site}
use Rattle.geo_base.specs.Plan.{quiet_plan}
use Rattle.broker_state.specs.Plan.{PlanView, quiet_view}
use Rattle.broker_state.specs.Room.{HasRoom, Room}
use Rattle.broker_state.specs.declared.change.StateChange.{StateChange}
use Rattle.broker_state.specs.declared.change.StateChange.TheVariants as state_change
use Rattle.broker_plans.specs.Prepared.{IsPrepared}

-- ---- the session of a link changes, once and two times in a row

pub change_alone : (x : StateChange) (q p : PlanView) → q ≡ quiet_view 0 → p ≡ record q { changes = q.changes ++ x ∷ [] } → p ≡ record (quiet_view 0) { changes = x ∷ [] }
change_alone x q p begun is = is ∙ rw begun refl

pub change_again : (x : StateChange) (p r : PlanView) → p ≡ record (quiet_view 0) { changes = x ∷ [] } → r ≡ record p { changes = p.changes ++ x ∷ [] } → r ≡ record (quiet_view 0) { changes = x ∷ x ∷ [] }
change_again x p r once is = is ∙ rw once refl

pub becomes : (h : Site) (b : Broker) (x : ℕ) (session : Option ℕ) (p : PlanView) → x < length b.receivers → p ≡ record (quiet_view 0) { changes = state_change.Receiver x session ∷ [] }
    → IsPrepared h b (quiet_plan (change.Receiver x session ∷ [])) p
becomes h b x session p within is =
    rw is (record { steps = refl; sent = tt; fits = record { writes_named = tt; changes_named = (tt, tt); writes = tt; changes = (within, tt) }; stored = record { writes = tt; changes = tt } })

pub becomes_twice : (h : Site) (b : Broker) (x : ℕ) (session : Option ℕ) (p : PlanView) → x < length b.receivers
    → p ≡ record (quiet_view 0) { changes = state_change.Receiver x session ∷ state_change.Receiver x session ∷ [] }
    → IsPrepared h b (quiet_plan (change.Receiver x session ∷ change.Receiver x session ∷ [])) p
becomes_twice h b x session p within is =
    rw is (record {
      steps = refl;
      sent = tt;
      fits = record { writes_named = tt; changes_named = (tt, (tt, tt)); writes = tt; changes = (within, (rw (length-set b.receivers x session) within, tt)) };
      stored = record { writes = tt; changes = tt };
    })

pub becomes_room : (room : Room) (x : ℕ) (session : Option ℕ) (p : PlanView) → p ≡ record (quiet_view 0) { changes = state_change.Receiver x session ∷ [] } → HasRoom room p
becomes_room room x session p is =
    rw is (record { writes = record { entries = omega arith; streams = omega arith; places = omega arith; acks = tt; replicators = omega arith }; given = omega arith; replicators = omega arith })

pub becomes_twice_room : (room : Room) (x : ℕ) (session : Option ℕ) (p : PlanView)
    → p ≡ record (quiet_view 0) { changes = state_change.Receiver x session ∷ state_change.Receiver x session ∷ [] } → HasRoom room p
becomes_twice_room room x session p is =
    rw is (record { writes = record { entries = omega arith; streams = omega arith; places = omega arith; acks = tt; replicators = omega arith }; given = omega arith; replicators = omega arith })
