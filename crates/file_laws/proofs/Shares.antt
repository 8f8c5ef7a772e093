-- What stands after the ledgers, the subscriptions and the replicators of a broker, and after what a run counted, is bytes.
use Rattle.std.proofs.Common.{◌≡◌, ℕ, ◌+◌, ◌==◌, Bool, true, false, List, [], length, Ok}
use Rattle.std.specs.Prelude.{if◌then◌else◌, is_none, nat_le, nat_lt, ◌&&◌}
use Rattle.std.specs.List.{sum}
use Rattle.geo_base.specs.declared.entry.Entry.{Entry}
use Rattle.geo_base.specs.Broker.{Broker, sub_named}
use Rattle.geo_base.specs.Name.{is_name}
use Rattle.geo_base.specs.Run.{most_events, most_sent_bytes}
use Rattle.geo_base.specs.Replicator.{Replicator, new_replicator}
use Rattle.geo_base.specs.Subscribing.{most_subs}
use Rattle.geo_base.specs.Subscription.{Subscription, new_subscription}
use Rattle.state_items.specs.declared.rule.Rule.TheVariants as rule
use Rattle.state_items.specs.Limits.{most_count}
use Rattle.state_items.specs.Ranges.{cursor_at}
use Rattle.state_items.specs.Reading.{byte_at, number_at, number_within, text_at}
use Rattle.state_items.proofs.Known.{came}
use Rattle.state_nodes.specs.declared.counts.Counts.{Counts}
use Rattle.state_nodes.specs.Counts.{counts_at}
use Rattle.state_nodes.specs.Ledgers.{entry_count, ledgers_at, length_at}
use Rattle.state_nodes.specs.Nodes.{behind_entries, broker_with, counted_ledgers_at, shares_at}
use Rattle.state_nodes.specs.Replicators.{place_at, replicator_at, replicators_at}
use Rattle.state_nodes.specs.Subs.{byte_within, kind_of, most_kind, name_at, seeks_at, sub_at, subs_at}
use Rattle.codec_laws.specs.Answers.{AreBytes}
use Rattle.file_laws.proofs.Leaving.{Leaves, behind, byte_leaves, cursor_leaves, many_leaves, number_leaves, tested, text_leaves, within_leaves}

-- ---- ledgers

ledgers_leave : (per : ℕ) (bytes : List ℕ) (x : List ℕ × List ℕ) → ledgers_at per bytes ≡ Ok x → AreBytes bytes → AreBytes x.1
unfolding ledgers_at
ledgers_leave per bytes x h are =
    let count = came (number_at bytes) _ x h in
    many_leaves (length_at per) (λ before bytes x h are. within_leaves per rule.Ledgers bytes x h are) count.first.0 [] count.first.1 x (tested (nat_lt 0 count.first.0) bytes rule.Ledgers _ x count.next) (number_leaves bytes count.first count.is are)

count_leaves : (ls : List ℕ) (bytes : List ℕ) (x : ℕ × List ℕ) → entry_count ls bytes ≡ Ok x → AreBytes bytes → AreBytes x.1
unfolding entry_count
count_leaves ls bytes x h are =
    let count = came (number_at bytes) _ x h in
    behind count.first x (tested (sum ls == count.first.0) bytes rule.Ledgers _ x count.next) (number_leaves bytes count.first count.is are)

pub counted_leave : (per : ℕ) (bytes : List ℕ) (x : (List ℕ × ℕ) × List ℕ) → counted_ledgers_at per bytes ≡ Ok x → AreBytes bytes → AreBytes x.1
unfolding counted_ledgers_at
counted_leave per bytes x h are =
    let lengths = came (ledgers_at per bytes) _ x h in
    let count = came (entry_count lengths.first.0 lengths.first.1) _ x lengths.next in
    behind ((lengths.first.0, count.first.0), count.first.1) x count.next
    (count_leaves lengths.first.0 lengths.first.1 count.first count.is (ledgers_leave per bytes lengths.first lengths.is are))

-- ---- subscriptions

kind_leaves : (most : ℕ) (bytes : List ℕ) (x : ℕ × List ℕ) → byte_within most bytes ≡ Ok x → AreBytes bytes → AreBytes x.1
unfolding byte_within
kind_leaves most bytes x h are =
    let b = came (byte_at bytes) _ x h in
    behind b.first x (tested (nat_le b.first.0 most) bytes rule.Subscription _ x b.next) (byte_leaves bytes b.first b.is are)

name_leaves : (before : List Subscription) (bytes : List ℕ) (x : List ℕ × List ℕ) → name_at before bytes ≡ Ok x → AreBytes bytes → AreBytes x.1
unfolding name_at
name_leaves before bytes x h are =
    let t = came (text_at bytes) _ x h in
    behind t.first x (tested (is_name t.first.0 && is_none (sub_named before t.first.0)) bytes rule.Subscription _ x t.next) (text_leaves bytes t.first t.is are).1

seeks_leave : (version : ℕ) (bytes : List ℕ) (x : ℕ × List ℕ) → seeks_at version bytes ≡ Ok x → AreBytes bytes → AreBytes x.1
unfolding seeks_at
seeks_leave version bytes x h are = by (version == 1) h
  where
    by : (b : Bool) → (if b then Ok (0, bytes) else number_within most_count rule.Count bytes) ≡ Ok x → AreBytes x.1
    by true e = behind (0, bytes) x e are
    by false e = within_leaves most_count rule.Count bytes x e are

sub_leaves : (version n : ℕ) → Leaves (sub_at version n)
unfolding sub_at
sub_leaves version n before bytes x h are =
    let name = came (name_at before bytes) _ x h in
    let kind = came (byte_within most_kind name.first.1) _ x name.next in
    let flag = came (byte_within 1 kind.first.1) _ x kind.next in
    let acked = came (cursor_at n flag.first.1) _ x flag.next in
    let seeks = came (seeks_at version acked.first.1) _ x acked.next in
    let own : Subscription = new_subscription name.first.0 (kind_of kind.first.0) (flag.first.0 == 1) acked.first.0 in
    let after_name = name_leaves before bytes name.first name.is are in
    let after_kind = kind_leaves most_kind name.first.1 kind.first kind.is after_name in
    let after_flag = kind_leaves 1 kind.first.1 flag.first flag.is after_kind in
    let after_cursor = cursor_leaves n flag.first.1 acked.first acked.is after_flag in
    behind (record own { seeks = seeks.first.0 }, seeks.first.1) x seeks.next (seeks_leave version acked.first.1 seeks.first seeks.is after_cursor)

subs_leave : (version n : ℕ) (bytes : List ℕ) (x : List Subscription × List ℕ) → subs_at version n bytes ≡ Ok x → AreBytes bytes → AreBytes x.1
unfolding subs_at
subs_leave version n bytes x h are =
    let count = came (number_at bytes) _ x h in
    many_leaves (sub_at version n) (sub_leaves version n) count.first.0 [] count.first.1 x (tested (nat_le count.first.0 most_subs) bytes rule.Subscription _ x count.next) (number_leaves bytes count.first count.is are)

-- ---- replicators

replicator_leaves : (n : ℕ) (bytes : List ℕ) (x : Replicator × List ℕ) → replicator_at n bytes ≡ Ok x → AreBytes bytes → AreBytes x.1
unfolding replicator_at
replicator_leaves n bytes x h are =
    let session = came (number_within most_count rule.Count bytes) _ x h in
    let acked = came (cursor_at n session.first.1) _ x session.next in
    behind (record new_replicator { cursor = acked.first.0; session = session.first.0 }, acked.first.1) x acked.next
    (cursor_leaves n session.first.1 acked.first acked.is (within_leaves most_count rule.Count bytes session.first session.is are))

place_leaves : (n own : ℕ) → Leaves (place_at n own)
place_leaves n own before bytes x h are = by (length before == own) h
  where
    by : (b : Bool) → (if b then Ok (new_replicator, bytes) else replicator_at n bytes) ≡ Ok x → AreBytes x.1
    by true e = behind (new_replicator, bytes) x e are
    by false e = replicator_leaves n bytes x e are

replicators_leave : (n own clusters : ℕ) (bytes : List ℕ) (x : List Replicator × List ℕ) → replicators_at n own clusters bytes ≡ Ok x → AreBytes bytes → AreBytes x.1
replicators_leave n own clusters bytes x h are = many_leaves (place_at n own) (place_leaves n own) clusters [] bytes x h are

-- ---- both

shares_leave : (version own clusters n : ℕ) (bytes : List ℕ) (x : (List Subscription × List Replicator) × List ℕ) → shares_at version own clusters n bytes ≡ Ok x → AreBytes bytes → AreBytes x.1
unfolding shares_at
shares_leave version own clusters n bytes x h are =
    let subs = came (subs_at version n bytes) _ x h in
    let replicators = came (replicators_at n own clusters subs.first.1) _ x subs.next in
    behind ((subs.first.0, replicators.first.0), replicators.first.1) x replicators.next
    (replicators_leave n own clusters subs.first.1 replicators.first replicators.is (subs_leave version n bytes subs.first subs.is are))

pub behind_entries_leave : (version own clusters : ℕ) (ledgers : List ℕ) (entries : List Entry) (bytes : List ℕ) (x : Broker × List ℕ) → behind_entries version own clusters ledgers entries bytes ≡ Ok x → AreBytes bytes → AreBytes x.1
unfolding behind_entries
behind_entries_leave version own clusters ledgers entries bytes x h are =
    let shares = came (shares_at version own clusters (length entries) bytes) _ x h in
    behind (broker_with ledgers entries shares.first.0.0 shares.first.0.1, shares.first.1) x shares.next
    (shares_leave version own clusters (length entries) bytes shares.first shares.is are)

-- ---- counts

pub counts_leave : (bytes : List ℕ) (x : Counts × List ℕ) → counts_at bytes ≡ Ok x → AreBytes bytes → AreBytes x.1
unfolding counts_at
counts_leave bytes x h are =
    let events = came (number_within most_count rule.Count bytes) _ x h in
    let idle = came (number_at events.first.1) _ x events.next in
    let rounds = came (number_within most_count rule.Count idle.first.1) _ x (tested (nat_le idle.first.0 most_count && nat_le (events.first.0 + idle.first.0) most_events) events.first.1 rule.Count _ x idle.next) in
    let sent = came (number_within most_sent_bytes rule.Count rounds.first.1) _ x rounds.next in
    let after_events = within_leaves most_count rule.Count bytes events.first events.is are in
    let after_idle = number_leaves events.first.1 idle.first idle.is after_events in
    let after_rounds = within_leaves most_count rule.Count idle.first.1 rounds.first rounds.is after_idle in
    behind (record { events = events.first.0; idle = idle.first.0; rounds = rounds.first.0; frame_bytes = sent.first.0 }, sent.first.1) x sent.next
    (within_leaves most_sent_bytes rule.Count rounds.first.1 sent.first sent.is after_rounds)
