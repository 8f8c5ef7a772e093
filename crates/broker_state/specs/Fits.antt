-- Prepared events that a broker can commit: their numbers name what is there, and what they append is accepted.
use Rattle.std.specs.Prelude.{◌≡◌, ℕ, ◌+◌, ◌<◌, ◌≤◌, ◌^◌, true, List, [], ◌∷◌, ◌++◌, length, None, Some, slice_get, ⊤}
use Rattle.std.specs.List.{remove}
use Rattle.topic_store.specs.Table.{stream_of}
use Rattle.geo_base.specs.declared.entry.Entry.{Entry}
use Rattle.geo_base.specs.Broker.{Broker, changed, replicator_at, sub_named, written}
use Rattle.geo_base.specs.Plan.{all_written}
use Rattle.geo_base.specs.Topic.{accepts}
use Rattle.broker_subs.specs.Steps.{SubChangeFits, SubWriteFits}
use Rattle.broker_subs.specs.Table.{is_new, names_of, sub_at}
use Rattle.broker_state.specs.Plan.{PlanView, name_in, named_plan}
use Rattle.broker_state.specs.Writes.{machine_change, machine_write}
use Rattle.broker_state.specs.declared.change.StateChange.{StateChange}
use Rattle.broker_state.specs.declared.change.StateChange.TheVariants as state_change
use Rattle.broker_state.specs.declared.write.StateWrite.{StateWrite}
use Rattle.broker_state.specs.declared.write.StateWrite.TheVariants as state_write

-- the name n stands at place k
abbrev pub IsThere : List (List ℕ) → ℕ → List ℕ → Type 0
IsThere ns k n = slice_get ns k ≡ Some n

-- a write is of the subscription at place k, whose name is n, where it is of one: among the names that are there
abbrev pub WriteNamed : List ℕ → ℕ → List (List ℕ) → StateWrite → Type 0
WriteNamed n k ns (state_write.Append e stream) = ⊤
WriteNamed n k ns (state_write.Create s latest) = (k ≡ length ns) × (s.sub.name ≡ n)
WriteNamed n k ns state_write.Delete = IsThere ns k n
WriteNamed n k ns (state_write.Sub w) = IsThere ns k n
WriteNamed n k ns (state_write.ReplicatorAck y i) = ⊤
WriteNamed n k ns (state_write.SessionNumber y session) = ⊤
WriteNamed n k ns state_write.Ledger = ⊤

-- the names after it
abbrev pub names_after : ℕ → List (List ℕ) → StateWrite → List (List ℕ)
names_after k ns (state_write.Append e stream) = ns
names_after k ns (state_write.Create s latest) = ns ++ s.sub.name ∷ []
names_after k ns state_write.Delete = remove ns k
names_after k ns (state_write.Sub w) = ns
names_after k ns (state_write.ReplicatorAck y i) = ns
names_after k ns (state_write.SessionNumber y session) = ns
names_after k ns state_write.Ledger = ns

abbrev pub WritesNamed : List ℕ → ℕ → List (List ℕ) → List StateWrite → Type 0
WritesNamed n k ns [] = ⊤
WritesNamed n k ns (w ∷ ws) = WriteNamed n k ns w × WritesNamed n k (names_after k ns w) ws

abbrev pub all_names_after : ℕ → List (List ℕ) → List StateWrite → List (List ℕ)
all_names_after k ns [] = ns
all_names_after k ns (w ∷ ws) = all_names_after k (names_after k ns w) ws

abbrev pub ChangeNamed : List ℕ → ℕ → List (List ℕ) → StateChange → Type 0
ChangeNamed n k ns (state_change.Receiver x session) = ⊤
ChangeNamed n k ns (state_change.Client c session) = ⊤
ChangeNamed n k ns (state_change.Detach c) = ⊤
ChangeNamed n k ns (state_change.Sub c) = IsThere ns k n
ChangeNamed n k ns (state_change.Opening y) = ⊤
ChangeNamed n k ns (state_change.Opened y) = ⊤
ChangeNamed n k ns (state_change.Pend y i) = ⊤
ChangeNamed n k ns (state_change.ReadTo y i) = ⊤
ChangeNamed n k ns (state_change.Unpend y number) = ⊤
ChangeNamed n k ns (state_change.Building o) = ⊤
ChangeNamed n k ns state_change.Forget = ⊤

abbrev pub ChangesNamed : List ℕ → ℕ → List (List ℕ) → List StateChange → Type 0
ChangesNamed n k ns [] = ⊤
ChangesNamed n k ns (c ∷ cs) = ChangeNamed n k ns c × ChangesNamed n k ns cs

-- it has its place among so many subscriptions
abbrev pub PlaceFits : ℕ → ℕ → StateWrite → Type 0
PlaceFits k many (state_write.Append e stream) = ⊤
PlaceFits k many (state_write.Create s latest) = k ≡ many
PlaceFits k many state_write.Delete = k < many
PlaceFits k many (state_write.Sub w) = k < many
PlaceFits k many (state_write.ReplicatorAck y i) = ⊤
PlaceFits k many (state_write.SessionNumber y session) = ⊤
PlaceFits k many state_write.Ledger = ⊤

abbrev pub ChangePlaceFits : ℕ → ℕ → StateChange → Type 0
ChangePlaceFits k many (state_change.Receiver x session) = ⊤
ChangePlaceFits k many (state_change.Client c session) = ⊤
ChangePlaceFits k many (state_change.Detach c) = ⊤
ChangePlaceFits k many (state_change.Sub c) = k < many
ChangePlaceFits k many (state_change.Opening y) = ⊤
ChangePlaceFits k many (state_change.Opened y) = ⊤
ChangePlaceFits k many (state_change.Pend y i) = ⊤
ChangePlaceFits k many (state_change.ReadTo y i) = ⊤
ChangePlaceFits k many (state_change.Unpend y number) = ⊤
ChangePlaceFits k many (state_change.Building o) = ⊤
ChangePlaceFits k many state_change.Forget = ⊤

-- a write of a broker in whose topic es stood before the event
abbrev pub WriteFits : List Entry → ℕ → Broker → StateWrite → Type 0
WriteFits es k b (state_write.Append e stream) = (accepts b.entries e.ident ≡ true) × (stream ≡ stream_of e.ident)
WriteFits es k b (state_write.Create s latest) = is_new s × (sub_named b.subs s.sub.name ≡ None)
WriteFits es k b state_write.Delete = ⊤
WriteFits es k b (state_write.Sub w) = (es ≡ b.entries) × SubWriteFits b.entries (sub_at b.subs k) w
WriteFits es k b (state_write.ReplicatorAck y i) = (y < length b.replicators) × (i + 1 < 2 ^ 64)
WriteFits es k b (state_write.SessionNumber y session) = y < length b.replicators
WriteFits es k b state_write.Ledger = ⊤

abbrev pub AllWritesFit : ℕ → List ℕ → List Entry → ℕ → Broker → List StateWrite → Type 0
AllWritesFit per n es k b [] = ⊤
AllWritesFit per n es k b (w ∷ ws) = WriteFits es k b w × AllWritesFit per n es k (written per b (machine_write n es w)) ws

abbrev pub ChangeFits : ℕ → Broker → StateChange → Type 0
ChangeFits k b (state_change.Receiver x session) = x < length b.receivers
ChangeFits k b (state_change.Client c session) = c < length b.sessions
ChangeFits k b (state_change.Detach c) = ⊤
ChangeFits k b (state_change.Sub c) = SubChangeFits (sub_at b.subs k) c
ChangeFits k b (state_change.Opening y) = y < length b.replicators
ChangeFits k b (state_change.Opened y) = y < length b.replicators
ChangeFits k b (state_change.Pend y i) = (y < length b.replicators) × ((replicator_at b y).next ≤ i) × (i + 1 < 2 ^ 64)
ChangeFits k b (state_change.ReadTo y i) = (y < length b.replicators) × ((replicator_at b y).next ≤ i)
ChangeFits k b (state_change.Unpend y number) = y < length b.replicators
ChangeFits k b (state_change.Building o) = ⊤
ChangeFits k b state_change.Forget = ⊤

abbrev pub AllChangesFit : List ℕ → ℕ → Broker → List StateChange → Type 0
AllChangesFit n k b [] = ⊤
AllChangesFit n k b (c ∷ cs) = ChangeFits k b c × AllChangesFit n k (changed b (machine_change n c)) cs

-- an event about the subscription of name n, where the broker's state is b
pub record NamedFits (per : ℕ) (n : List ℕ) (b : Broker) (p : PlanView) : Type 0 where
  pub writes_named : WritesNamed n p.sub (names_of b.subs) p.writes
  pub changes_named : ChangesNamed n p.sub (all_names_after p.sub (names_of b.subs) p.writes) p.changes
  pub writes : AllWritesFit per n b.entries p.sub b p.writes
  pub changes : AllChangesFit n p.sub (all_written per b (named_plan n b.entries p).writes) p.changes

abbrev pub PlanFits : ℕ → Broker → PlanView → Type 0
PlanFits per b p = NamedFits per (name_in b.subs p) b p

-- as many replicators, receivers and sessions as before
pub record SameShape (old new : Broker) : Type 0 where
  pub replicators : length new.replicators ≡ length old.replicators
  pub receivers : length new.receivers ≡ length old.receivers
  pub sessions : length new.sessions ≡ length old.sessions
