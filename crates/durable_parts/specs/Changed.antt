-- What one durable write changes of a subscription.
use Rattle.geo_base.specs.Subscription.{Subscription}
use Rattle.durable_parts.specs.declared.durable.SubPart.{SubPart}
use Rattle.durable_parts.specs.declared.durable.SubPart.TheVariants as part

abbrev pub with_part : SubPart → Subscription → Subscription
with_part (part.Kind kind replicated) s = record s { kind = kind; replicated = replicated }
with_part (part.Acks c) s = record s { cursor = c.indexes }
with_part (part.Seek c seeks) s = record s { cursor = c.indexes; seeks = seeks }
