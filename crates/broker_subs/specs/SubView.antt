-- A subscription as its owner sees it: the machine's subscription, and the room beside it.
use Rattle.std.specs.Prelude.{ℕ, List, map}
use Rattle.geo_base.specs.Subscription.{Subscription}
use Rattle.durable_parts.specs.declared.durable.DurableSub.{DurableSub}

-- so many more consumers that join and indexes that are given find memory, and so many more acknowledged indexes
pub record SubView : Type 0 where
  pub sub : Subscription
  pub room : ℕ
  pub acks : ℕ

abbrev pub sub_of : SubView → Subscription
sub_of b = b.sub

abbrev pub subs_of : List SubView → List Subscription
subs_of bs = map sub_of bs

-- what a restart leaves of it
abbrev pub durable_of : SubView → DurableSub
durable_of b = record {
  name = b.sub.name;
  kind = b.sub.kind;
  replicated = b.sub.replicated;
  cursor = record { indexes = b.sub.cursor; spare = b.acks };
  seeks = b.sub.seeks;
}
