-- The backlogs of brokers' subscriptions, kept from one event to the next.
use Rattle.std.specs.Prelude.{◌≡◌, ℕ, Bool, true, false, not, ◌&&◌, List, [], ◌∷◌, ◌++◌, map, if◌then◌else◌, slice_index_or}
use Rattle.std.specs.Str.{bytes_eq}
use Rattle.broker_state.specs.declared.write.StateWrite.{StateWrite}
use Rattle.broker_state.specs.declared.write.StateWrite.TheVariants as state_write
use Rattle.broker_state.specs.Plan.{PlanView, name_in}
use Rattle.broker_state.specs.Writes.{machine_write}
use Rattle.broker_subs.specs.declared.writing.SubWrite.{SubWrite}
use Rattle.broker_subs.specs.Steps.{sub_written}
use Rattle.geo_base.specs.declared.entry.Entry.{Entry}
use Rattle.geo_base.specs.Broker.{Broker, backlog, no_broker}
use Rattle.geo_base.specs.Entry.{is_data}
use Rattle.geo_base.specs.Plan.{all_written}
use Rattle.geo_base.specs.Setup.{Setup}
use Rattle.geo_base.specs.Subscription.{Subscription}
use Rattle.script_rows.specs.Names.{Names}
use Rattle.script_text.specs.Said.{Said}
use Rattle.step_lines.specs.Telling.{IsTelling}

-- those of a broker, in order of creation
abbrev pub backlogs_of : Broker → List ℕ
backlogs_of b = map (backlog b) b.subs

-- of a broker with one entry more, or of a subscription that is written where it has the name n
abbrev pub backlog_with : Broker → Entry → Subscription → ℕ
backlog_with b e v = backlog (record b { entries = b.entries ++ e ∷ [] }) v

abbrev pub backlog_written : Broker → List ℕ → SubWrite → Subscription → ℕ
backlog_written b n w v = backlog b (if bytes_eq v.name n then sub_written b.entries w v else v)

-- a subscription has another name than n
abbrev pub is_other : List ℕ → Subscription → Bool
is_other n v = not (bytes_eq v.name n)

-- what is known of them
pub record KnownBacklogs : Type 0 where
  pub is_known : Bool
  pub counts : List ℕ

-- where they are known they are those of a broker
pub record TellsBacklogs (k : KnownBacklogs) (b : Broker) : Type 0 where
  pub known : k.is_known ≡ true → k.counts ≡ backlogs_of b

-- a write that leaves each backlog as it is
abbrev pub is_silent : StateWrite → Bool
is_silent (state_write.Append e stream) = not (is_data e.content)
is_silent (state_write.Create s latest) = false
is_silent state_write.Delete = false
is_silent (state_write.Sub w) = false
is_silent (state_write.ReplicatorAck y i) = true
is_silent (state_write.SessionNumber y session) = true
is_silent state_write.Ledger = true

abbrev pub are_silent : List StateWrite → Bool
are_silent [] = true
are_silent (w ∷ ws) = is_silent w && are_silent ws

-- a broker after some of the durable writes of an event that is prepared, or all
abbrev pub after_writes : ℕ → Broker → PlanView → List StateWrite → Broker
after_writes per b p ws = all_written per b (map (machine_write (name_in b.subs p) b.entries) ws)

abbrev pub wrote : ℕ → Broker → PlanView → Broker
wrote per b p = after_writes per b p p.writes

-- of all brokers, by their numbers; of one of which nothing was asked nothing is known
abbrev pub nothing_known : KnownBacklogs
nothing_known = record { is_known = false; counts = [] }

abbrev pub known_at : List KnownBacklogs → ℕ → KnownBacklogs
known_at ks k = slice_index_or ks k nothing_known

pub record AreBacklogs (ks : List KnownBacklogs) (bs : List Broker) : Type 0 where
  pub at : (k : ℕ) → TellsBacklogs (known_at ks k) (slice_index_or bs k no_broker)

-- the other brokers' are as they were
abbrev pub SameOthers : ℕ → List KnownBacklogs → List KnownBacklogs → Type 0
SameOthers n old new = (k : ℕ) → (k ≡ n → ⊥) → known_at new k ≡ known_at old k

-- row n over an event of a broker that was b, which is prepared as p: it rests, or it tells the broker after the event's writes
abbrev pub MayFollow : Bool → ℕ → ℕ → Broker → PlanView → List KnownBacklogs → List KnownBacklogs → Type 0
MayFollow true n per b p old new = new ≡ old
MayFollow false n per b p old new = TellsBacklogs (known_at new n) (wrote per b p) × SameOthers n old new

-- what an observer knows of a run: its names, that the lines' numbers rise, and backlogs
pub record KnowsSteps (s : Setup) (ns : Names) (n : ℕ) (at : List Said) (ks : List KnownBacklogs) (bs : List Broker) : Type 0 where
  pub telling : IsTelling s ns n at
  pub backlogs : AreBacklogs ks bs
