-- What the receiving side of a forward link does with a packet's session.
use Rattle.std.specs.Prelude.{ℕ, Bool, if◌then◌else◌, Option, Some}
use Rattle.geo_base.specs.Receiver.{is_open}
use Rattle.replicator.specs.declared.receiver.Taken.{Taken}
use Rattle.replicator.specs.declared.receiver.Taken.TheVariants as takes

-- an opening packet opens its session, another one counts in the session that is open alone
abbrev pub taken : Option ℕ → ℕ → Bool → Taken
taken now session opening = if opening then takes.Opened else if is_open now session then takes.Process else takes.Discard

abbrev pub open_after : Option ℕ → ℕ → Bool → Option ℕ
open_after now session opening = if opening then Some session else now
