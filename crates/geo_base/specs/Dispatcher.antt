-- The dispatcher: which entry of a subscription is offered next, and to which consumer (Pulsar manual, subscription types).
use Rattle.std.specs.Prelude.{ℕ, zero, suc, ◌+◌, ◌-◌, ◌*◌, ◌%◌, max, nat_lt, nat_le, ◌==◌, Bool, not, ◌&&◌, ◌||◌, if◌then◌else◌, List, [], ◌∷◌, ◌++◌, length, fold, filter, take, drop, Option, Some, None, slice_set, slice_index_or}
use Rattle.geo_base.specs.Types.{Consumer, Unacked, SubKind}
use Rattle.geo_base.specs.Types.sub_kind
use Rattle.geo_base.specs.Cursor.{has}
use Rattle.geo_base.specs.Subscription.{Subscription}

-- due: not acknowledged, and due again or still to be read
abbrev pub is_due : Subscription → ℕ → Bool
is_due s i = not (has s.cursor i) && (has s.due i || nat_le s.read_index i)

-- the least due of the indexes from, from + 1, .. from + more - 1
abbrev pub least_due_from : Subscription → ℕ → ℕ → Option ℕ
least_due_from s from zero = None
least_due_from s from (suc more) = if is_due s from then Some from else least_due_from s (from + 1) more

-- the index that an offer concerns, in a topic of so many entries: the least that is due
abbrev pub least_due : Subscription → ℕ → Option ℕ
least_due s entries = least_due_from s 0 entries

-- an index that was offered is no longer due again, and reading has passed it
abbrev pub skipped_index : ℕ → Subscription → Subscription
skipped_index i s = record s { due = filter (λ j. not (j == i)) s.due; read_index = max s.read_index (i + 1) }

-- the consumer at a place in the order
abbrev pub consumer_at : List Consumer → ℕ → Consumer
consumer_at ks at = slice_index_or ks at (record { client = 0; id = 0; permits = 0 })

abbrev pub if_permitted : List Consumer → ℕ → Option ℕ
if_permitted ks at = if nat_lt 0 (consumer_at ks at).permits then Some at else None

-- the first from a place on that has a permit
abbrev pub first_permitted : ℕ → List Consumer → Option ℕ
first_permitted at [] = None
first_permitted at (k ∷ ks) = if nat_lt 0 k.permits then Some at else first_permitted (at + 1) ks

-- a key's number (own: any function of the bytes that spreads keys would do)
abbrev pub key_number : List ℕ → ℕ
key_number key = fold (λ sum byte. (sum * 31 + byte) % 65536) 0 key

-- the place of the consumer that an entry is for, where it has a permit. Exclusive and Failover serve the consumer that came
-- first (own for Failover: Pulsar orders by priority and name); Shared the first in order with a permit; Key_Shared the one
-- that the key's number names, so that a key stays with a consumer while the consumers stay
abbrev pub pick : SubKind → List Consumer → List ℕ → Option ℕ
pick sub_kind.Exclusive ks key = if_permitted ks 0
pick sub_kind.Failover ks key = if_permitted ks 0
pick sub_kind.Shared ks key = first_permitted 0 ks
pick sub_kind.KeyShared [] key = None
pick sub_kind.KeyShared (k ∷ ks) key = if_permitted (k ∷ ks) (key_number key % length (k ∷ ks))

-- a permit is used up
abbrev pub used : Consumer → Consumer
used k = record k { permits = k.permits - 1 }

-- the consumers after the one at a place was given a message: with Shared it goes to the end of the order
abbrev pub served : SubKind → List Consumer → ℕ → List Consumer
served sub_kind.Shared ks at = take at ks ++ drop (at + 1) ks ++ used (consumer_at ks at) ∷ []
served kind ks at = slice_set ks at (used (consumer_at ks at))

-- one more index is out; what is out ascends by index, as every set of indexes does, and an index is out once (own)
abbrev pub with_out : List Unacked → Unacked → List Unacked
with_out [] o = o ∷ []
with_out (x ∷ xs) o = if nat_lt o.index x.index then o ∷ x ∷ xs else if x.index == o.index then o ∷ xs else x ∷ with_out xs o

-- an index is given to the consumer at a place
abbrev pub given : ℕ → ℕ → Subscription → Subscription
given i at s = record (skipped_index i s) {
  consumers = served s.kind s.consumers at;
  out = with_out s.out (record { index = i; client = (consumer_at s.consumers at).client });
}
