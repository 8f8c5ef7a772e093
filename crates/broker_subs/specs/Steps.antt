-- The steps of a subscription, as the machine has them, and what each needs.
use Rattle.std.specs.Prelude.{◌≡◌, ℕ, ◌+◌, ◌-◌, ◌<◌, ◌≤◌, ◌^◌, List, length, ⊤}
use Rattle.std.specs.List.{All}
use Rattle.geo_base.specs.declared.change.Change.{Change}
use Rattle.geo_base.specs.declared.change.Change.TheVariants as change
use Rattle.geo_base.specs.declared.entry.Entry.{Entry}
use Rattle.geo_base.specs.declared.write.Write.{Write}
use Rattle.geo_base.specs.declared.write.Write.TheVariants as write
use Rattle.geo_base.specs.Cache.{cached}
use Rattle.geo_base.specs.Cursor.{below}
use Rattle.geo_base.specs.Dispatcher.{given, skipped_index}
use Rattle.geo_base.specs.Subscription.{Subscription, after_acks, attached, cleared, permitted, sought, with_acks}
use Rattle.geo_base.specs.Updating.{updated_indexes}
use Rattle.replicated_subs.specs.Alone.{alone}
use Rattle.broker_subs.specs.declared.changing.SubChange.{SubChange}
use Rattle.broker_subs.specs.declared.changing.SubChange.TheVariants as sub_change
use Rattle.broker_subs.specs.declared.writing.SubWrite.{SubWrite}
use Rattle.broker_subs.specs.declared.writing.SubWrite.TheVariants as sub_write

-- the machine's write that a write of the subscription of name n stands for, in a topic of these entries
abbrev pub machine_sub_write : List ℕ → List Entry → SubWrite → Write
machine_sub_write n es (sub_write.Acks is) = write.Acks n is
machine_sub_write n es (sub_write.AckTo i) = write.Acks n (below (i + 1))
machine_sub_write n es (sub_write.UpdateTo i from runs) = write.Acks n (updated_indexes from 0 (i + 1) es)
machine_sub_write n es (sub_write.Seek i) = write.Seek n i
machine_sub_write n es (sub_write.Alter kind replicated) = write.Alter n kind replicated

-- what it makes of the subscription
abbrev pub sub_written : List Entry → SubWrite → Subscription → Subscription
sub_written es (sub_write.Acks is) s = with_acks is s
sub_written es (sub_write.AckTo i) s = with_acks (below (i + 1)) s
sub_written es (sub_write.UpdateTo i from runs) s = with_acks (updated_indexes from 0 (i + 1) es) s
sub_written es (sub_write.Seek i) s = sought i s
sub_written es (sub_write.Alter kind replicated) s = record s { kind = kind; replicated = replicated }

-- indexes are those of entries, numbers stay 64-bit numbers, and the kind is not changed under consumers
abbrev pub SubWriteFits : List Entry → Subscription → SubWrite → Type 0
SubWriteFits es s (sub_write.Acks is) = All (λ i. i < length es) is
SubWriteFits es s (sub_write.AckTo i) = i < length es
SubWriteFits es s (sub_write.UpdateTo i from runs) = (i < length es) × (alone s.cursor (updated_indexes from 0 (i + 1) es) ≤ runs)
SubWriteFits es s (sub_write.Seek i) = (i ≤ length es) × (s.seeks + 1 < 2 ^ 64)
SubWriteFits es s (sub_write.Alter kind replicated) = 0 < length s.consumers → kind ≡ s.kind

-- for how many acknowledged indexes a write needs room
abbrev pub acks_needed : SubWrite → ℕ
acks_needed (sub_write.Acks is) = length is
acks_needed (sub_write.AckTo i) = 1
acks_needed (sub_write.UpdateTo i from runs) = runs
acks_needed (sub_write.Seek i) = 1
acks_needed (sub_write.Alter kind replicated) = 0

-- for how many there is room after it; after an update nobody knows
abbrev pub acks_after : ℕ → SubWrite → ℕ
acks_after acks (sub_write.Acks is) = acks - length is
acks_after acks (sub_write.AckTo i) = acks - 1
acks_after acks (sub_write.UpdateTo i from runs) = 0
acks_after acks (sub_write.Seek i) = acks - 1
acks_after acks (sub_write.Alter kind replicated) = acks

abbrev pub machine_sub_change : List ℕ → SubChange → Change
machine_sub_change n (sub_change.Attach k) = change.Attach n k
machine_sub_change n (sub_change.Permit c permits) = change.Permit n c permits
machine_sub_change n (sub_change.Skipped i) = change.Skipped n i
machine_sub_change n (sub_change.Given i at) = change.Given n i at
machine_sub_change n (sub_change.Cache snapshot) = change.Cache n snapshot
machine_sub_change n sub_change.Acked = change.Acked n
machine_sub_change n sub_change.Cleared = change.Cleared n

abbrev pub sub_changed : SubChange → Subscription → Subscription
sub_changed (sub_change.Attach k) s = attached k s
sub_changed (sub_change.Permit c permits) s = permitted c permits s
sub_changed (sub_change.Skipped i) s = skipped_index i s
sub_changed (sub_change.Given i at) s = given i at s
sub_changed (sub_change.Cache snapshot) s = record s { cache = cached s.cache snapshot }
sub_changed sub_change.Acked s = after_acks s
sub_changed sub_change.Cleared s = cleared s

-- the number after an index is a number too, and a place is that of a consumer
abbrev pub SubChangeFits : Subscription → SubChange → Type 0
SubChangeFits s (sub_change.Attach k) = ⊤
SubChangeFits s (sub_change.Permit c permits) = ⊤
SubChangeFits s (sub_change.Skipped i) = i + 1 < 2 ^ 64
SubChangeFits s (sub_change.Given i at) = (i + 1 < 2 ^ 64) × (at < length s.consumers)
SubChangeFits s (sub_change.Cache snapshot) = ⊤
SubChangeFits s sub_change.Acked = ⊤
SubChangeFits s sub_change.Cleared = ⊤

-- a consumer that joins, and an index that is given, take a place
abbrev pub room_needed : SubChange → ℕ
room_needed (sub_change.Attach k) = 1
room_needed (sub_change.Permit c permits) = 0
room_needed (sub_change.Skipped i) = 0
room_needed (sub_change.Given i at) = 1
room_needed (sub_change.Cache snapshot) = 0
room_needed sub_change.Acked = 0
room_needed sub_change.Cleared = 0
