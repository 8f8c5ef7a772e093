-- What an ACK writes.
use Rattle.std.specs.Prelude.{◌≡◌, ℕ, List, [], ◌∷◌, Option, Some, None}
use Rattle.geo_base.specs.declared.entry.Entry.{Entry}
use Rattle.geo_base.specs.declared.write.Write.TheVariants as write
use Rattle.geo_base.specs.Subscription.{Subscription}
use Rattle.broker_subs.specs.Steps.{SubWriteFits, machine_sub_write}
use Rattle.broker_subs.specs.declared.writing.SubWrite.{SubWrite}

-- the write that acknowledges some indexes, at least one, of the subscription s; none where there are none
pub data WritesAcks (es : List Entry) (s : Subscription) (is : List ℕ) (o : Option SubWrite) : Type 0 where
  nothing : is ≡ [] → o ≡ None → WritesAcks es s is o
  some : (i : ℕ) (more : List ℕ) (w : SubWrite) → is ≡ i ∷ more → o ≡ Some w → machine_sub_write s.name es w ≡ write.Acks s.name is → SubWriteFits es s w → WritesAcks es s is o
