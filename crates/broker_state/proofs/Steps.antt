-- What a write and a change of a subscription make of a broker.
use Rattle.std.proofs.Common.{◌≡◌, ℕ, List, [], ◌∷◌, ◌++◌, refl, ap}
use Rattle.std.specs.Prelude.{Bool, if◌then◌else◌, None, Option, is_some, length}
use Rattle.geo_base.specs.declared.entry.Entry.{Entry}
use Rattle.geo_base.specs.declared.frame.SubKind.{SubKind}
use Rattle.geo_base.specs.declared.write.Write.TheVariants as write
use Rattle.geo_base.specs.Broker.{Broker, changed, sub_named, written}
use Rattle.geo_base.specs.Cursor.{below}
use Rattle.geo_base.specs.Subscription.{Subscription, new_subscription}
use Rattle.broker_subs.specs.Steps.{machine_sub_change, machine_sub_write, sub_changed, sub_written}
use Rattle.broker_subs.specs.Table.{at_name}
use Rattle.broker_subs.specs.declared.changing.SubChange.{SubChange}
use Rattle.broker_subs.specs.declared.changing.SubChange.TheVariants as sub_change
use Rattle.broker_subs.specs.declared.writing.SubWrite.{SubWrite}
use Rattle.broker_subs.specs.declared.writing.SubWrite.TheVariants as sub_write

pub sub_written_is : (per : ℕ) (b : Broker) (n : List ℕ) (es : List Entry) (w : SubWrite) → written per b (machine_sub_write n es w) ≡ record b { subs = at_name n (sub_written es w) b.subs }
sub_written_is per b n es (sub_write.Acks is) = refl
sub_written_is per b n es (sub_write.AckTo i) = refl
sub_written_is per b n es (sub_write.UpdateTo i from runs) = refl
sub_written_is per b n es (sub_write.Seek i) = refl
sub_written_is per b n es (sub_write.Alter kind replicated) = refl

pub sub_changed_is : (b : Broker) (n : List ℕ) (c : SubChange) → changed b (machine_sub_change n c) ≡ record b { subs = at_name n (sub_changed c) b.subs }
sub_changed_is b n (sub_change.Attach k) = refl
sub_changed_is b n (sub_change.Permit c permits) = refl
sub_changed_is b n (sub_change.Skipped i) = refl
sub_changed_is b n (sub_change.Given i at) = refl
sub_changed_is b n (sub_change.Cache snapshot) = refl
sub_changed_is b n sub_change.Acked = refl
sub_changed_is b n sub_change.Cleared = refl

-- a subscription of a new name is created
pub created_is : (per : ℕ) (b : Broker) (n : List ℕ) (kind : SubKind) (replicated latest : Bool) → sub_named b.subs n ≡ None
    → written per b (write.Create n kind replicated latest) ≡ record b { subs = b.subs ++ new_subscription n kind replicated (if latest then below (length b.entries) else []) ∷ [] }
created_is per b n kind replicated latest none =
    ap (λ (o : Option Subscription). if is_some o then b else record b { subs = b.subs ++ new_subscription n kind replicated (if latest then below (length b.entries) else []) ∷ [] }) none
