-- Messages of the usual form that are stored.
use Rattle.std.proofs.Common.{◌≡◌, ℕ, ◌+◌, ◌<◌, ◌≤◌, ◌==◌, Bool, true, false, List, [], ◌∷◌, ◌++◌, length, refl, ◌∙◌, arith}
use Rattle.std.specs.Prelude.{if◌then◌else◌, Option, Some, None}
use Rattle.std.specs.Option.{option_copied}
use Rattle.topic_store.specs.Table.{stream_of}
use Rattle.topic_store.specs.declared.stream.Stream.{Stream}
use Rattle.frame_values.proofs.Counting.{varint_most}
use Rattle.geo_base.specs.declared.entry.Entry.{Entry}
use Rattle.geo_base.specs.Broker.{Site}
use Rattle.geo_base.specs.Sizes.{entry_size, number_field, optional_text, tag_size, text_field}
use Rattle.frame_values.proofs.Entries.{no_rest}
use Rattle.pulsar_frames.specs.declared.view.MessageView.{MessageView}
use Rattle.broker_state.specs.Plan.{PlanView, quiet_view}
use Rattle.broker_state.specs.declared.write.StateWrite.TheVariants as state_write
use Rattle.broker_plans.specs.Storable.{IsStorable, most_stored}
use Rattle.broker_plans.specs.Updates.{appending}
use Rattle.broker_plans.specs.Usual.{text_length}
use Rattle.frame_values.specs.Usual.{entry_viewed}
use Rattle.broker_plans.proofs.Keeping.{stores}

-- ---- sizes

tag_one : tag_size 1 ≡ 1
tag_one = refl

tag_two : tag_size 2 ≡ 1
tag_two = refl

tag_three : tag_size 3 ≡ 1
tag_three = refl

tag_six : tag_size 6 ≡ 1
tag_six = refl

text_few : (t : List ℕ) → length t < 128 → text_field 1 t < 140
text_few t short = let most = varint_most (length t) in omega (arith, short, most, tag_one)

key_few : (o : Option (List ℕ)) → text_length o < 128 → optional_text 6 o < 140
key_few None short = omega arith
key_few (Some t) short = let most = varint_most (length t) in omega (arith, short, most, tag_six)

number_few : (k n : ℕ) → tag_size k ≡ 1 → number_field k n < 12
number_few k n tag = let most = varint_most n in omega (arith, most, tag)

size_is : (names : List (List ℕ)) (x : ℕ) (m : MessageView) → entry_size names (entry_viewed x m)
    ≡ (text_field 1 m.meta.producer.now + (number_field 2 m.meta.seq + (number_field 3 m.meta.publish_time + (optional_text 6 (option_copied m.meta.key) + (0 + (0 + 0)))))) + length m.payload.now
size_is names x m = refl

small : (names : List (List ℕ)) (x : ℕ) (m : MessageView) → length m.meta.producer.now < 128 → text_length (option_copied m.meta.key) < 128 → length m.payload.now ≤ 5242368
    → entry_size names (entry_viewed x m) ≤ 5242880
small names x m producer key payload =
    let p = text_few m.meta.producer.now producer in
    let k = key_few (option_copied m.meta.key) key in
    let s = number_few 2 m.meta.seq tag_two in
    let t = number_few 3 m.meta.publish_time tag_three in
    rw (size_is names x m) (omega (arith, p, k, s, t, payload))

pub small_size : (m : MessageView) → length m.meta.producer.now < 128 → text_length (option_copied m.meta.key) < 128 → length m.payload.now ≤ 5242368
    → (names : List (List ℕ)) (x : ℕ) → entry_size names (entry_viewed x m) ≤ 5242880
small_size m producer key payload names x = small names x m producer key payload

-- it can be stored
most_of : (own origin n : ℕ) → n ≤ 5242880 → n ≤ most_stored own origin
most_of own origin n few = by (origin == own)
  where
    by : (t : Bool) → n ≤ (if t then 5242880 + 1024 else 5242880)
    by true = omega (arith, few)
    by false = few

pub message_storable : (h : Site) (x : ℕ) (m : MessageView) → entry_size h.clusters (entry_viewed x m) ≤ 5242880 → IsStorable h (entry_viewed x m)
message_storable h x m few = record { read = record { rest = no_rest; marker = tt }; size = most_of h.own x (entry_size h.clusters (entry_viewed x m)) few }

-- ---- the entry that the code makes

pub appended : (x : ℕ) (m : MessageView) (e : Entry) (s : Stream) (q r : PlanView) → e ≡ entry_viewed x m → s ≡ stream_of (entry_viewed x m).ident
    → r ≡ record q { writes = q.writes ++ state_write.Append e s ∷ [] } → r ≡ record q { writes = q.writes ++ appending (entry_viewed x m) ∷ [] }
appended x m e s q r viewed stream is = is ∙ rw (viewed, stream) refl

-- the plan that stores it
pub stores_message : (e : Entry) (q p : PlanView) → q ≡ quiet_view 0 → p ≡ record q { writes = q.writes ++ appending e ∷ [] } → p ≡ stores e
stores_message e q p quiet is = is ∙ rw quiet refl
