-- What the lists of clients have of the messages in a cursor, where nothing is passed over openly.
use Rattle.std.specs.Prelude.{◌≡◌, ℕ, ◌<◌, Bool, true, false, List, length, Some, slice_get}
use Rattle.std.specs.List.{list_any}
use Rattle.geo_base.specs.declared.client.Line.TheVariants as line
use Rattle.geo_base.specs.declared.entry.Entry.{Entry}
use Rattle.geo_base.specs.declared.event.Event.TheVariants as event
use Rattle.geo_base.specs.declared.event.Event.{Event}
use Rattle.geo_base.specs.declared.event.Step.TheVariants as step
use Rattle.geo_base.specs.declared.event.Step.{Step}
use Rattle.geo_base.specs.declared.frame.SubKind.{SubKind}
use Rattle.geo_base.specs.Cursor.{has}
use Rattle.geo_base.specs.Entry.{is_data, same_ident}
use Rattle.geo_base.specs.Safe.{IsEntry, IsSub}
use Rattle.geo_base.specs.Setup.{Setup, declared_at}
use Rattle.geo_base.specs.Subscription.{Subscription}
use Rattle.geo_base.specs.World.{World, client_at, topic_at}
use Rattle.consumer_laws.specs.Lines.{names_line}

-- some client of topic t with a sub line for n got it
pub record WasGot (s : Setup) (w : World) (t : ℕ) (n : List ℕ) (e : Entry) : Type 0 where
  pub client : ℕ
  pub topic : (declared_at s client).topic ≡ t
  pub line : ℕ
  pub names : names_line n (slice_get (declared_at s client).lines line) ≡ true
  pub got : list_any (same_ident e.ident) (client_at s w client).got ≡ true

-- each index in a cursor is that of a marker or of a message that some client of the subscription got
abbrev pub OnlyGot : Setup → World → Type 0
OnlyGot s w = (t x : ℕ) (v : Subscription) → x < length s.clusters → IsSub (topic_at s w t x) v → (i : ℕ) → has v.cursor i ≡ true
    → (e : Entry) × IsEntry (topic_at s w t x) i e × (is_data e.content ≡ true → WasGot s w t v.name e)

-- each sub line is earliest
abbrev pub AllEarliest : Setup → Type 0
AllEarliest s = (c i : ℕ) (n : List ℕ) (kind : SubKind) (earliest replicated : Bool)
    → slice_get (declared_at s c).lines i ≡ Some (line.Sub n kind earliest replicated) → earliest ≡ true

-- an event is a seek; a step does one
abbrev pub is_seek : Event → Bool
is_seek (event.Seek t x n to) = true
is_seek e = false

abbrev pub seeks : Step → Bool
seeks (step.Plain e) = is_seek e
seeks (step.Halt k e) = is_seek e
seeks step.Settle = false
seeks step.Stop = false
