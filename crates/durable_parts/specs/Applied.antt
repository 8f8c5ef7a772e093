-- What a durable write does where it carries a whole cursor, and which write of the machine it stands for.
use Rattle.std.specs.Prelude.{◌≡◌, ℕ, ◌+◌, true, List}
use Rattle.std.specs.List.{All}
use Rattle.std.specs.Str.{bytes_eq}
use Rattle.geo_base.specs.declared.write.Write as machine
use Rattle.geo_base.specs.declared.write.Write.TheVariants as write
use Rattle.geo_base.specs.Broker.{Broker, at_replicator, at_sub, replicator_at, written}
use Rattle.geo_base.specs.Cursor.{below, with_index, with_indexes}
use Rattle.geo_base.specs.Subscription.{Subscription}
use Rattle.durable_parts.specs.declared.write.Write.{Write}
use Rattle.durable_parts.specs.declared.write.Write.TheVariants as whole

-- the state after a write: a whole cursor takes the place of the one before it
abbrev pub applied : ℕ → Broker → Write → Broker
applied per b (whole.Append e) = written per b (write.Append e)
applied per b (whole.Create n kind replicated latest) = written per b (write.Create n kind replicated latest)
applied per b (whole.Change n kind replicated) = written per b (write.Alter n kind replicated)
applied per b (whole.Delete n) = written per b (write.Delete n)
applied per b (whole.Acks n c) = at_sub b n (λ s. record s { cursor = c.indexes })
applied per b (whole.Seek n c seeks) = at_sub b n (λ s. record s { cursor = c.indexes; seeks = seeks })
applied per b (whole.ReplicatorAcks y c) = at_replicator b y (λ s. record s { cursor = c.indexes })
applied per b (whole.Session y session) = written per b (write.SessionNumber y session)
applied per b whole.Ledger = written per b write.Ledger

-- of the subscription of a name, if it is here
abbrev pub OfSub : Broker → List ℕ → (Subscription → Type 0) → Type 0
OfSub b n Holds = All (λ (s : Subscription). bytes_eq s.name n ≡ true → Holds s) b.subs

-- the machine's write that a write stands for: where it carries a whole cursor, the one of what this gains
abbrev pub StandsFor : Broker → Write → machine.Write → Type 0
StandsFor b (whole.Append e) m = m ≡ write.Append e
StandsFor b (whole.Create n kind replicated latest) m = m ≡ write.Create n kind replicated latest
StandsFor b (whole.Change n kind replicated) m = m ≡ write.Alter n kind replicated
StandsFor b (whole.Delete n) m = m ≡ write.Delete n
StandsFor b (whole.Acks n c) m = (is : List ℕ) × (m ≡ write.Acks n is) × OfSub b n (λ s. c.indexes ≡ with_indexes s.cursor is)
StandsFor b (whole.Seek n c seeks) m = (i : ℕ) × (m ≡ write.Seek n i) × OfSub b n (λ s. (c.indexes ≡ below i) × (seeks ≡ s.seeks + 1))
StandsFor b (whole.ReplicatorAcks y c) m = (i : ℕ) × (m ≡ write.ReplicatorAck y i) × (c.indexes ≡ with_index (replicator_at b y).cursor i)
StandsFor b (whole.Session y session) m = m ≡ write.SessionNumber y session
StandsFor b whole.Ledger m = m ≡ write.Ledger
