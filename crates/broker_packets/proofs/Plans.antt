-- Prepared events at the ends of a link, step by step.
use Rattle.std.proofs.Common.{◌≡◌, ℕ, ◌+◌, ◌<◌, ◌≤◌, [], ◌∷◌, length, refl, sym, ◌∙◌, ap, subst, arith}
use Rattle.std.specs.Prelude.{◌^◌, Some}
use Rattle.std.proofs.lemmas.List.{length-set}
use Rattle.geo_base.specs.declared.change.Change.TheVariants as change
use Rattle.geo_base.specs.declared.packet.Packet.{Packet}
use Rattle.geo_base.specs.declared.write.Write.TheVariants as write
use Rattle.geo_base.specs.Broker.{Broker, Site, replicator_at}
use Rattle.geo_base.specs.Cursor.{with_index}
use Rattle.geo_base.specs.Forwarding.{receipt_packet, receives}
use Rattle.geo_base.specs.Plan.{Plan, idle_plan, plan_of, quiet_plan}
use Rattle.replicator.specs.declared.answering.Heard.{Heard}
use Rattle.replicator.specs.declared.answering.Heard.TheVariants as means
use Rattle.replicator.specs.Answering.{heard}
use Rattle.replicator.specs.Events.{plan_of_answer}
use Rattle.replicator.specs.Sending.{Sending, sending_of}
use Rattle.replicator.proofs.Events.{answer_as_heard}
use Rattle.broker_state.specs.Plan.{PlanView, idle_view, quiet_view}
use Rattle.broker_state.specs.Room.{HasRoom, Room}
use Rattle.broker_state.specs.declared.change.StateChange.TheVariants as state_change
use Rattle.broker_state.specs.declared.write.StateWrite.TheVariants as state_write
use Rattle.broker_plans.specs.Prepared.{IsPrepared}

-- ---- nothing is done

pub idle : (h : Site) (b : Broker) (p : PlanView) → p ≡ idle_view → IsPrepared h b idle_plan p
idle h b p is =
    rw is (record { steps = refl; sent = tt; fits = record { writes_named = tt; changes_named = tt; writes = tt; changes = tt }; stored = record { writes = tt; changes = tt } })

pub quiet : (h : Site) (b : Broker) (p : PlanView) → p ≡ quiet_view 0 → IsPrepared h b (quiet_plan []) p
quiet h b p is =
    rw is (record { steps = refl; sent = tt; fits = record { writes_named = tt; changes_named = tt; writes = tt; changes = tt }; stored = record { writes = tt; changes = tt } })

pub idle_room : (room : Room) (p : PlanView) → p ≡ idle_view → HasRoom room p
idle_room room p is =
    rw is (record { writes = record { entries = omega arith; streams = omega arith; places = omega arith; acks = tt; replicators = omega arith }; given = omega arith; replicators = omega arith })

pub quiet_room : (room : Room) (p : PlanView) → p ≡ quiet_view 0 → HasRoom room p
quiet_room room p is =
    rw is (record { writes = record { entries = omega arith; streams = omega arith; places = omega arith; acks = tt; replicators = omega arith }; given = omega arith; replicators = omega arith })

-- ---- a session to a cluster begins

abbrev pub begins : ℕ → ℕ → PlanView
begins y session = record (quiet_view 0) { writes = state_write.SessionNumber y session ∷ []; changes = state_change.Opening y ∷ [] }

pub begins_prepared : (h : Site) (b : Broker) (y session : ℕ) (p : PlanView) → y < length b.replicators → p ≡ begins y session
    → IsPrepared h b (plan_of (write.SessionNumber y session ∷ []) (change.Opening y ∷ []) []) p
begins_prepared h b y session p within is =
    rw is (record {
      steps = refl;
      sent = tt;
      fits = record {
        writes_named = (tt, tt);
        changes_named = (tt, tt);
        writes = (within, tt);
        changes = (rw (length-set b.replicators y (record (replicator_at b y) { session = session })) within, tt);
      };
      stored = record { writes = tt; changes = tt };
    })

pub begins_room : (room : Room) (y session : ℕ) (p : PlanView) → p ≡ begins y session → HasRoom room p
begins_room room y session p is =
    rw is (record { writes = record { entries = omega arith; streams = omega arith; places = omega arith; acks = (tt, tt); replicators = omega arith }; given = omega arith; replicators = omega arith })

-- ---- what the back link answers

pub opened_prepared : (h : Site) (b : Broker) (y : ℕ) (p : PlanView) → y < length b.replicators → p ≡ record (quiet_view 0) { changes = state_change.Opened y ∷ [] }
    → IsPrepared h b (quiet_plan (change.Opened y ∷ [])) p
opened_prepared h b y p within is =
    rw is (record { steps = refl; sent = tt; fits = record { writes_named = tt; changes_named = (tt, tt); writes = tt; changes = (within, tt) }; stored = record { writes = tt; changes = tt } })

pub opened_room : (room : Room) (y : ℕ) (p : PlanView) → p ≡ record (quiet_view 0) { changes = state_change.Opened y ∷ [] } → HasRoom room p
opened_room room y p is =
    rw is (record { writes = record { entries = omega arith; streams = omega arith; places = omega arith; acks = tt; replicators = omega arith }; given = omega arith; replicators = omega arith })

abbrev pub receives_view : ℕ → ℕ → ℕ → PlanView
receives_view y number i = record (quiet_view 0) { writes = state_write.ReplicatorAck y i ∷ []; changes = state_change.Unpend y number ∷ [] }

pub received_prepared : (h : Site) (b : Broker) (y number i : ℕ) (p : PlanView) → y < length b.replicators → i + 1 < 2 ^ 64 → p ≡ receives_view y number i
    → IsPrepared h b (receives y number (Some i)) p
received_prepared h b y number i p within fits is =
    rw is (record {
      steps = refl;
      sent = tt;
      fits = record {
        writes_named = (tt, tt);
        changes_named = (tt, tt);
        writes = ((within, fits), tt);
        changes = (rw (length-set b.replicators y (record (replicator_at b y) { cursor = with_index (replicator_at b y).cursor i })) within, tt);
      };
      stored = record { writes = tt; changes = tt };
    })

pub received_room : (room : Room) (y number i : ℕ) (p : PlanView) → 1 ≤ room.replicators → p ≡ receives_view y number i → HasRoom room p
received_room room y number i p some is =
    rw is (record { writes = record { entries = omega arith; streams = omega arith; places = omega arith; acks = (tt, tt); replicators = omega (arith, some) }; given = omega arith; replicators = omega (arith, some) })

-- ---- what a replicator hears

as_heard : (h : Site) (b : Broker) (y : ℕ) (p : Packet) (s : Sending) (now told : Heard) (q : PlanView) → s ≡ sending_of (replicator_at b y) → now ≡ heard p.session p.frame s → now ≡ told
    → IsPrepared h b (plan_of_answer y told) q → IsPrepared h b (receipt_packet b y p) q
as_heard h b y p s now told q same by is prepared =
    subst (λ (plan : Plan). IsPrepared h b plan q) (sym (answer_as_heard b y p))
    (subst (λ (v : Heard). IsPrepared h b (plan_of_answer y v) q) (sym is ∙ by ∙ ap (λ (v : Sending). heard p.session p.frame v) same) prepared)

pub quiet_heard : (h : Site) (b : Broker) (y : ℕ) (p : Packet) (s : Sending) (now : Heard) (q : PlanView) → s ≡ sending_of (replicator_at b y) → now ≡ heard p.session p.frame s → now ≡ means.Nothing
    → q ≡ quiet_view 0 → IsPrepared h b (receipt_packet b y p) q
quiet_heard h b y p s now q same told is begun = as_heard h b y p s now means.Nothing q same told is (quiet h b q begun)

pub opened_heard : (h : Site) (b : Broker) (y : ℕ) (p : Packet) (s : Sending) (now : Heard) (q : PlanView) → y < length b.replicators → s ≡ sending_of (replicator_at b y) → now ≡ heard p.session p.frame s → now ≡ means.Opened
    → q ≡ record (quiet_view 0) { changes = state_change.Opened y ∷ [] } → IsPrepared h b (receipt_packet b y p) q
opened_heard h b y p s now q within same told is done = as_heard h b y p s now means.Opened q same told is (opened_prepared h b y q within done)

pub received_heard : (h : Site) (b : Broker) (y : ℕ) (p : Packet) (s : Sending) (now : Heard) (number i : ℕ) (q : PlanView) → y < length b.replicators → s ≡ sending_of (replicator_at b y) → now ≡ heard p.session p.frame s
    → now ≡ means.Receipt number i → i + 1 < 2 ^ 64 → q ≡ receives_view y number i → IsPrepared h b (receipt_packet b y p) q
received_heard h b y p s now number i q within same told is fits done = as_heard h b y p s now (means.Receipt number i) q same told is (received_prepared h b y number i q within fits done)
