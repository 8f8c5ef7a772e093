-- What can be written.
use Rattle.std.specs.Prelude.{List, length}
use Rattle.std.specs.List.{All}
use Rattle.geo_base.specs.declared.entry.Entry.{Entry}
use Rattle.geo_base.specs.Broker.{Broker}
use Rattle.geo_base.specs.Replicator.{Replicator}
use Rattle.geo_base.specs.Subscription.{Subscription}
use Rattle.cursor_acks.specs.Acks.{AreBelow}
use Rattle.message_meta.specs.Known.{IsRest}

-- entries of whose metadata what nobody reads is text
abbrev pub HaveRests : List Entry → Type 0
HaveRests es = All (λ (e : Entry). IsRest e.meta.rest) es

-- a broker, no cursor of which passes its entries
pub record CanWrite (b : Broker) : Type 0 where
  pub entries : HaveRests b.entries
  pub subs : All (λ (s : Subscription). AreBelow (length b.entries) s.cursor) b.subs
  pub replicators : All (λ (s : Replicator). AreBelow (length b.entries) s.cursor) b.replicators
