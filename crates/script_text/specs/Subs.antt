-- The subscriptions that the `sub` lines of a script name.
use Rattle.std.specs.Prelude.{◌≡◌, ℕ, ◌<◌, ◌==◌, Bool, false, ◌&&◌, List, [], length, All, get_or, slice_index_or, Option, Some, None}
use Rattle.std.specs.List.{IsDistinct, list_any}
use Rattle.std.specs.Option.{option_map_or}
use Rattle.std.specs.Str.{bytes_eq}
use Rattle.geo_base.specs.declared.client.Line.{Line}
use Rattle.geo_base.specs.declared.client.Line.TheVariants as line
use Rattle.geo_base.specs.Setup.{Declared, Setup, sub_names}
use Rattle.script_rows.specs.NameBytes.{is_among}
use Rattle.script_rows.specs.NameWords.{Word}
use Rattle.script_rows.specs.Names.{Names}
use Rattle.script_text.specs.Naming.{names_of}

-- the subscription that a `sub` line names
abbrev pub sub_in : Line → Option Word
sub_in (line.Sub sub k earliest replicated) = Some sub
sub_in l = None

abbrev pub is_sub_of : Word → Line → Bool
is_sub_of q l = option_map_or (λ n. bytes_eq n q) (sub_in l) false

-- a client of a topic has a `sub` line of this name
abbrev pub is_named_by : ℕ → Word → Declared → Bool
is_named_by t q d = (d.topic == t) && list_any (is_sub_of q) d.lines

-- the names of each topic's subscriptions in their order
pub record AreNamed (s : Setup) (named : List (List Word)) : Type 0 where
  pub many : length named ≡ length s.topics
  pub each : (t : ℕ) → t < length s.topics → get_or named t [] ≡ sub_names s t

abbrev pub same_name : Word → Word → Bool
same_name a b = bytes_eq b a

-- the subscriptions that the reader has noted for each topic are those that the topic has, each once, in whatever order
pub record AreNoted (s : Setup) (subs : List (List Word)) : Type 0 where
  pub many : length subs ≡ length s.topics
  pub distinct : (t : ℕ) → IsDistinct same_name (slice_index_or subs t [])
  pub same : (t : ℕ) (q : Word) → is_among (slice_index_or subs t []) q ≡ list_any (is_named_by t q) s.clients

-- what is declared, with the subscriptions as the reader has noted them
abbrev pub noted_names : Setup → List (List Word) → Names
noted_names s subs = record (names_of s) { subs = subs }

-- the reader's names are those that are declared
pub record AreKnown (s : Setup) (n : Names) : Type 0 where
  pub names : n ≡ noted_names s n.subs
  pub subs : AreNoted s n.subs
  -- a client's topic is declared
  pub within : All (λ (d : Declared). d.topic < length s.topics) s.clients
