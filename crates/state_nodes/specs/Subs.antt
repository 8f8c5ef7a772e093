-- The subscriptions of a topic of n entries.
use Rattle.std.specs.Prelude.{ℕ, ◌==◌, nat_le, Bool, true, false, ◌&&◌, if◌then◌else◌, List, [], ◌∷◌, ◌++◌, is_none, Ok}
use Rattle.geo_base.specs.declared.frame.SubKind.{SubKind}
use Rattle.geo_base.specs.declared.frame.SubKind.TheVariants as kind
use Rattle.geo_base.specs.Broker.{sub_named}
use Rattle.geo_base.specs.Name.{is_name}
use Rattle.geo_base.specs.Subscribing.{most_subs}
use Rattle.geo_base.specs.Subscription.{Subscription, new_subscription}
use Rattle.state_items.specs.declared.rule.Rule.TheVariants as rule
use Rattle.state_items.specs.Ranges.{cursor_at}
use Rattle.state_items.specs.Reading.{◌>>=◌, Read, byte_at, judge, many, number_at, number_within, text_at}
use Rattle.state_items.specs.Texts.{cursor, list, number, text}
use Rattle.state_items.specs.Limits.{most_count}
use Rattle.state_nodes.specs.declared.subs.Nameless.{Nameless}

-- the highest byte of a kind
abbrev pub most_kind : ℕ
most_kind = 3

-- the byte of a kind
abbrev pub kind_byte : SubKind → ℕ
kind_byte kind.Exclusive = 0
kind_byte kind.Shared = 1
kind_byte kind.Failover = 2
kind_byte kind.KeyShared = 3

-- the kind of a byte that is at most 3
abbrev pub kind_of : ℕ → SubKind
kind_of b = if b == 0 then kind.Exclusive else if b == 1 then kind.Shared else if b == 2 then kind.Failover else kind.KeyShared

abbrev pub flag_byte : Bool → ℕ
flag_byte false = 0
flag_byte true = 1

abbrev pub sub_text : ℕ → Subscription → List ℕ
sub_text n s = text s.name ++ (kind_byte s.kind ∷ flag_byte s.replicated ∷ (cursor n s.cursor ++ number s.seeks))

-- in order of creation
abbrev pub subs_text : ℕ → List Subscription → List ℕ
subs_text n ss = list (sub_text n) ss

-- ---- reading

-- a byte that is at most `most`
unfoldable pub byte_within : ℕ → List ℕ → Read ℕ
byte_within most bytes = do
  b ← byte_at bytes
  known ← judge (nat_le b.0 most) bytes rule.Subscription
  Ok b

-- a name that none of those before has
unfoldable pub name_at : List Subscription → List ℕ → Read (List ℕ)
name_at before bytes = do
  t ← text_at bytes
  new ← judge (is_name t.0 && is_none (sub_named before t.0)) bytes rule.Subscription
  Ok t

-- version 1 has no count of seeks
unfoldable pub seeks_at : ℕ → List ℕ → Read ℕ
seeks_at version bytes = if version == 1 then Ok (0, bytes) else number_within most_count rule.Count bytes

-- what the code has of a subscription beside its name, with its name
abbrev pub with_name : List ℕ → Nameless → Subscription
with_name name s = record (new_subscription name s.kind s.replicated s.cursor.indexes) { seeks = s.seeks }

-- what stands after a name, and the subscription of that name
abbrev pub behind_name : ℕ → ℕ → List ℕ → List ℕ → Read Subscription
behind_name version n name bytes = do
  kind ← byte_within most_kind bytes
  flag ← byte_within 1 kind.1
  acked ← cursor_at n flag.1
  seeks ← seeks_at version acked.1
  Ok (record (new_subscription name (kind_of kind.0) (flag.0 == 1) acked.0) { seeks = seeks.0 }, seeks.1)

unfoldable pub sub_at : ℕ → ℕ → List Subscription → List ℕ → Read Subscription
sub_at version n before bytes = do
  name ← name_at before bytes
  behind_name version n name.0 name.1

unfoldable pub subs_at : ℕ → ℕ → List ℕ → Read (List Subscription)
subs_at version n bytes = do
  count ← number_at bytes
  few ← judge (nat_le count.0 most_subs) bytes rule.Subscription
  many (sub_at version n) count.0 [] count.1
