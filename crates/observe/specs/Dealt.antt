-- What the logs say that the subscriptions of a topic are done with, as tables keep it.
use Rattle.std.specs.Prelude.{◌≡◌, ◌≢◌, ℕ, ◌+◌, ◌-◌, ◌<◌, Bool, true, false, ◌&&◌, ◌||◌, List, [], ◌∷◌, length, Some, None, is_none, slice_index, slice_index_or}
use Rattle.std.specs.List.{list_any, range_with_len}
use Rattle.geo_base.specs.declared.entry.Entry.{Entry}
use Rattle.geo_base.specs.declared.entry.Ident.{Ident}
use Rattle.geo_base.specs.Entry.{same_ident}
use Rattle.geo_base.specs.Settled.{first_indexes, messages_at}
use Rattle.geo_base.specs.Setup.{Setup}
use Rattle.audit.specs.declared.identity.Identity.{Identity}
use Rattle.audit.specs.Stored.{identity_of, is_identity}
use Rattle.audit.specs.Subs.{SlotRow, slot_in}
use Rattle.observation.specs.declared.said.Said.{Said}
use Rattle.observation.specs.Observed.{Observation, all_settled, entries_seen, first_from, is_unsure}
use Rattle.observe.specs.Topics.{AreSized}

-- of one subscription the messages that it is done with; and by cluster below which index it is done there, and whether it may be done with
-- what does not stand there
pub record SubDealt : Type 0 where
  pub name : List ℕ
  pub messages : List Identity
  pub below : List ℕ
  pub unsure : List Bool

abbrev pub no_dealt : SubDealt
no_dealt = record { name = []; messages = []; below = []; unsure = [] }

-- those of a topic, and the number of each name
pub record SubsDealt : Type 0 where
  pub clusters : ℕ
  pub numbers : List SlotRow
  pub subs : List SubDealt

abbrev pub dealt_at : List SubDealt → ℕ → SubDealt
dealt_at subs k = slice_index_or subs k no_dealt

abbrev pub has_message : SubDealt → Ident → Bool
has_message d g = list_any (is_identity (identity_of g)) d.messages

-- whether something holds of a cluster of which one is not sure, x being the first
abbrev pub may_be_from : (ℕ → Bool) → ℕ → List Bool → Bool
may_be_from p x [] = false
may_be_from p x (u ∷ us) = (u && p x) || may_be_from p (x + 1) us

abbrev pub is_away : Setup → Observation → ℕ → Ident → ℕ → Bool
is_away s o t g x = is_none (first_from 0 (entries_seen s o t x) g)

abbrev pub may_be : Setup → Observation → ℕ → Ident → List Bool → Bool
may_be s o t g us = may_be_from (is_away s o t g) 0 us

-- a message of an identity stands below an index
abbrev pub is_below : List Entry → ℕ → Ident → Bool
is_below es k g = list_any (same_ident g) (messages_at es (first_indexes k))

abbrev pub HoldsBelow : List Entry → ℕ → SubDealt → Type 0
HoldsBelow es k d = (g : Ident) → is_below es k g ≡ true → has_message d g ≡ true

-- the messages below an index are those below an end
pub record IsEndOf (es : List Entry) (k end : ℕ) : Type 0 where
  pub same : (g : Ident) → is_below es k g ≡ is_below es end g

-- what stays where messages are added
pub record Keeps (d d' : SubDealt) : Type 0 where
  pub name : d'.name ≡ d.name
  pub below : d'.below ≡ d.below
  pub unsure : d'.unsure ≡ d.unsure

pub record KeepsSize (d d' : SubDealt) : Type 0 where
  pub name : d'.name ≡ d.name
  pub below : length d'.below ≡ length d.below
  pub unsure : d'.unsure ≡ d.unsure

-- how far the messages of some entries are added, from one on
pub record AddedTo (es : List Entry) (from : ℕ) (d d' : SubDealt) (at : ℕ) : Type 0 where
  pub keeps : Keeps d d'
  pub messages : (g : Ident) → has_message d' g ≡ (has_message d g || list_any (same_ident g) (messages_at es (range_with_len from (at - from))))

-- all messages below an index at a cluster were added
pub record IsDealtBelow (x : ℕ) (es : List Entry) (k : ℕ) (d d' : SubDealt) : Type 0 where
  pub messages : (g : Ident) → has_message d' g ≡ (has_message d g || is_below es k g)
  pub held : HoldsBelow es (slice_index d'.below x) d'
  pub others : (y : ℕ) → y ≢ x → slice_index d'.below y ≡ slice_index d.below y

-- it tells what some lines say
pub record TellsSub (s : Setup) (o : Observation) (t : ℕ) (ls : List Said) (d : SubDealt) : Type 0 where
  pub messages : (g : Ident) → has_message d g ≡ list_any (same_ident g) (all_settled s o t d.name ls)
  pub unsure : (g : Ident) → may_be s o t g d.unsure ≡ list_any (is_unsure s o t d.name g) ls
  pub below : (x : ℕ) → HoldsBelow (entries_seen s o t x) (slice_index d.below x) d

-- some lines say nothing of a subscription
pub record SaysNothing (s : Setup) (o : Observation) (t : ℕ) (n : List ℕ) (ls : List Said) : Type 0 where
  pub settled : (g : Ident) → list_any (same_ident g) (all_settled s o t n ls) ≡ false
  pub unsure : (g : Ident) → list_any (is_unsure s o t n g) ls ≡ false

pub record TellsTopic (s : Setup) (o : Observation) (t : ℕ) (ls : List Said) (v : SubsDealt) : Type 0 where
  pub none : (n : List ℕ) → slot_in n v.numbers ≡ None → SaysNothing s o t n ls
  pub each : (k : ℕ) → k < length v.subs → TellsSub s o t ls (dealt_at v.subs k)

-- the rows find each subscription by its name, and nothing else
pub record IsNamedAt (n : List ℕ) (subs : List SubDealt) (k : ℕ) : Type 0 where
  pub within : k < length subs
  pub named : (dealt_at subs k).name ≡ n

pub record FindsNames (clusters : ℕ) (rows : List SlotRow) (subs : List SubDealt) : Type 0 where
  pub at : (n : List ℕ) (k : ℕ) → slot_in n rows ≡ Some k → IsNamedAt n subs k
  pub own : (k : ℕ) → k < length subs → slot_in (dealt_at subs k).name rows ≡ Some k
  pub below : (k : ℕ) → k < length subs → length (dealt_at subs k).below ≡ clusters
  pub unsure : (k : ℕ) → k < length subs → length (dealt_at subs k).unsure ≡ clusters

-- an observation, and a topic of it
pub record LogsOf : Type 0 where
  pub setup : Setup
  pub observed : Observation
  pub topic : ℕ

pub record AreLogs (s : Setup) (o : Observation) (t : ℕ) (v : SubsDealt) : Type 0 where
  pub sized : AreSized s o
  pub topic : t < length s.topics
  pub clusters : v.clusters ≡ length s.clusters
  pub told : TellsTopic s o t o.said v
