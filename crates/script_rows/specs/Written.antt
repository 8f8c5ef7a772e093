-- The words that write a step: by the same rows.
use Rattle.std.specs.Prelude.{◌≡◌, ℕ, zero, suc, ◌-◌, ◌<◌, ◌≤◌, ◌^◌, true, false, List, [], ◌∷◌, ◌++◌, length, Option, Some, None, codes, ⊤}
use Rattle.std.specs.Fmt.{decimal}
use Rattle.std.specs.List.{list_all, join_with_byte}
use Rattle.std.specs.Str.{bytes_eq}
use Rattle.geo_base.specs.declared.entry.Targets.{Targets}
use Rattle.geo_base.specs.declared.entry.Targets.TheVariants as targets
use Rattle.geo_base.specs.declared.event.Event.{Event}
use Rattle.geo_base.specs.declared.event.Event.TheVariants as event
use Rattle.geo_base.specs.declared.event.Fate.{Fate}
use Rattle.geo_base.specs.declared.event.Fate.TheVariants as fate
use Rattle.geo_base.specs.declared.event.Step.{Step}
use Rattle.geo_base.specs.declared.event.Step.TheVariants as step
use Rattle.geo_base.specs.declared.position.Position.{Position}
use Rattle.geo_base.specs.Name.{is_name}
use Rattle.geo_base.specs.Scripted.{AreDistinct}
use Rattle.script_rows.specs.NameBytes.{name_at, names_in}
use Rattle.script_rows.specs.NameWords.{Word}
use Rattle.script_rows.specs.declared.column.Column.{Column}
use Rattle.script_rows.specs.declared.column.Column.TheVariants as column
use Rattle.script_rows.specs.declared.column.Menu.{Menu}
use Rattle.script_rows.specs.declared.column.Menu.TheVariants as menu
use Rattle.script_rows.specs.declared.event_kind.EventKind.{EventKind}
use Rattle.script_rows.specs.declared.event_kind.EventKind.TheVariants as event_kind
use Rattle.script_rows.specs.declared.fault.Rule.{Rule}
use Rattle.script_rows.specs.declared.kind.Kind.{Kind}
use Rattle.script_rows.specs.declared.kind.Kind.TheVariants as kind
use Rattle.script_rows.specs.declared.line_kind.LineKind.TheVariants as line_kind
use Rattle.script_rows.specs.declared.value.Value.{Value}
use Rattle.script_rows.specs.declared.value.Value.TheVariants as value
use Rattle.script_rows.specs.Columns.{cell_breaks, seen_after}
use Rattle.script_rows.specs.Names.{Names, Seen, nothing_seen, subs_of}
use Rattle.script_rows.specs.Rows.{event_columns, event_word, is_later}
use Rattle.script_rows.specs.Values.{first, item, key, name, place, rest, seq, text, to}

-- ---- a value in its column
abbrev pub choice_word : Menu → ℕ → Word
choice_word menu.Version n = codes "1"
choice_word menu.Fate zero = codes "good"
choice_word menu.Fate (suc zero) = codes "lost"
choice_word menu.Fate n = codes "twice"
choice_word menu.Start zero = codes "latest"
choice_word menu.Start n = codes "earliest"
choice_word menu.SubKind zero = codes "exclusive"
choice_word menu.SubKind (suc zero) = codes "shared"
choice_word menu.SubKind (suc (suc zero)) = codes "failover"
choice_word menu.SubKind n = codes "keyshared"
choice_word menu.Replication zero = codes "local"
choice_word menu.Replication n = codes "replicated"

abbrev pub choices : Menu → ℕ
choices menu.Version = 1
choices menu.Fate = 3
choices menu.Start = 2
choices menu.SubKind = 4
choices menu.Replication = 2

abbrev pub place_word : Option Position → Word
place_word None = codes "end"
place_word (Some p) = decimal p.ledger ++ 58 ∷ decimal p.entry

abbrev pub key_word : Option Word → Word
key_word None = codes "-"
key_word (Some k) = k

-- a list names its clusters in their order
abbrev pub targets_word : List Word → Targets → Word
targets_word clusters targets.All = codes "*"
targets_word clusters (targets.Only mask) = join_with_byte 44 (names_in clusters mask)

-- the word that writes a value
abbrev pub word_of : Names → Seen → Column → Value → Word
word_of n s column.Topic v = name_at n.topics (item v)
word_of n s column.Home v = name_at n.topics (item v)
word_of n s column.Cluster v = name_at n.clusters (item v)
word_of n s column.Other v = name_at n.clusters (item v)
word_of n s column.Client v = name_at n.clients (item v)
word_of n s (column.Doer r) v = name_at n.clients (item v)
word_of n s column.Offered v = name_at (subs_of n s.topic) (item v)
word_of n s column.Sub v = name v
word_of n s column.Producer v = name v
word_of n s column.NewCluster v = name v
word_of n s column.NewTopic v = name v
word_of n s column.NewClient v = name v
word_of n s column.Targets v = targets_word n.clusters (to v)
word_of n s column.Key v = key_word (key v)
word_of n s column.Text v = text v
word_of n s (column.Count least most) v = decimal (item v)
word_of n s column.Lost v = decimal (item v)
word_of n s column.Twice v = decimal (item v)
word_of n s column.Seq v = decimal (seq v)
word_of n s column.PositionOrEnd v = place_word (place v)
word_of n s (column.Menu m) v = choice_word m (item v)

abbrev pub words_in : Names → Seen → List Column → List Value → List Word
words_in n s [] vs = []
words_in n s (c ∷ cs) [] = []
words_in n s (c ∷ cs) (v ∷ vs) = word_of n s c v ∷ words_in n (seen_after n s c (word_of n s c v)) cs vs

-- words after what stands before them, each with a space before it
abbrev pub spaced : List Word → List ℕ
spaced [] = []
spaced (w ∷ ws) = 32 ∷ w ++ spaced ws

-- ---- a step's row
abbrev pub kind_of : Event → EventKind
kind_of (event.Go c) = event_kind.Go
kind_of (event.Get c) = event_kind.Get
kind_of (event.Reconnect c) = event_kind.Reconnect
kind_of (event.Serve x c) = event_kind.Serve
kind_of (event.Drop x c) = event_kind.Drop
kind_of (event.Reset t x y) = event_kind.Reset
kind_of (event.Read t x y) = event_kind.Read
kind_of (event.Take t x y f) = event_kind.Take
kind_of (event.Receipt t x y f) = event_kind.Receipt
kind_of (event.Snap t x) = event_kind.Snap
kind_of (event.Offer t x s) = event_kind.Offer
kind_of (event.Seek t x s p) = event_kind.Seek
kind_of (event.Restart t x) = event_kind.Restart

abbrev pub fate_number : Fate → ℕ
fate_number fate.Good = 0
fate_number fate.Lost = 1
fate_number fate.Twice = 2

abbrev pub items : List ℕ → List Value
items [] = []
items (i ∷ is) = value.Item i ∷ items is

abbrev pub event_values : Event → List Value
event_values (event.Go c) = items (c ∷ [])
event_values (event.Get c) = items (c ∷ [])
event_values (event.Reconnect c) = items (c ∷ [])
event_values (event.Serve x c) = items (x ∷ c ∷ [])
event_values (event.Drop x c) = items (x ∷ c ∷ [])
event_values (event.Reset t x y) = items (t ∷ x ∷ y ∷ [])
event_values (event.Read t x y) = items (t ∷ x ∷ y ∷ [])
event_values (event.Take t x y f) = items (t ∷ x ∷ y ∷ fate_number f ∷ [])
event_values (event.Receipt t x y f) = items (t ∷ x ∷ y ∷ fate_number f ∷ [])
event_values (event.Snap t x) = items (t ∷ x ∷ [])
event_values (event.Offer t x s) = items (t ∷ x ∷ s ∷ [])
event_values (event.Seek t x s p) = items (t ∷ x ∷ s ∷ []) ++ value.PositionOrEnd p ∷ []
event_values (event.Restart t x) = items (t ∷ x ∷ [])

abbrev pub event_words : Names → Event → List Word
event_words n e = event_word (kind_of e) ∷ words_in n nothing_seen (event_columns (kind_of e)) (event_values e)

abbrev pub step_words : Names → Step → List Word
step_words n (step.Plain e) = event_words n e
step_words n (step.Halt k e) = codes "halt" ∷ decimal k ∷ event_words n e
step_words n step.Settle = codes "settle" ∷ []
step_words n step.Stop = codes "stop" ∷ []

-- the line that writes a step, without its line feed
abbrev pub step_line : Names → Step → List ℕ
step_line n s = join_with_byte 32 (step_words n s)

-- the kind of a step's line, and the values of its columns
abbrev pub step_kind : Step → Kind
step_kind (step.Plain e) = kind.Event (kind_of e)
step_kind (step.Halt k e) = kind.Halt (kind_of e)
step_kind step.Settle = kind.Other line_kind.Settle
step_kind step.Stop = kind.Other line_kind.Stop

abbrev pub step_values : Step → List Value
step_values (step.Plain e) = event_values e
step_values (step.Halt k e) = value.Item k ∷ event_values e
step_values step.Settle = []
step_values step.Stop = []

-- ---- which values a column has
abbrev pub IsBelow : ℕ → Value → Type 0
IsBelow most (value.Item i) = i < most
IsBelow most v = ⊥

abbrev pub IsWithin : ℕ → ℕ → Value → Type 0
IsWithin least most (value.Item i) = (least ≤ i) × (i ≤ most)
IsWithin least most v = ⊥

abbrev pub IsPositionOrEnd : Value → Type 0
IsPositionOrEnd (value.PositionOrEnd None) = ⊤
IsPositionOrEnd (value.PositionOrEnd (Some p)) = (p.ledger < 2 ^ 64) × (p.entry < 2 ^ 64)
IsPositionOrEnd v = ⊥

abbrev pub IsSeq : Value → Type 0
IsSeq (value.Seq i) = i < 2 ^ 63
IsSeq v = ⊥

abbrev pub IsNameValue : Value → Type 0
IsNameValue (value.Name w) = is_name w ≡ true
IsNameValue v = ⊥

abbrev pub IsKeyValue : Value → Type 0
IsKeyValue (value.Key None) = ⊤
IsKeyValue (value.Key (Some k)) = is_name k ≡ true
IsKeyValue v = ⊥

abbrev pub IsTextValue : Value → Type 0
IsTextValue (value.Text t) = length t ≤ 1024
IsTextValue v = ⊥

-- a list names one cluster at least
abbrev pub IsTargetsValue : ℕ → Value → Type 0
IsTargetsValue clusters (value.Targets targets.All) = ⊤
IsTargetsValue clusters (value.Targets (targets.Only mask)) = (0 < mask) × (mask < 2 ^ clusters)
IsTargetsValue clusters v = ⊥

-- a word breaks no rule in a column
abbrev pub IsUnbroken : Names → Seen → Column → Word → Type 0
IsUnbroken n s c w = (r : Rule) → cell_breaks n s c w r ≡ false

abbrev pub Fits : Names → Seen → Column → Value → Type 0
Fits n s column.Topic v = IsBelow (length n.topics) v
Fits n s column.Home v = IsBelow (length n.topics) v × IsUnbroken n s column.Home (name_at n.topics (item v))
Fits n s column.Cluster v = IsBelow (length n.clusters) v
Fits n s column.Other v = IsBelow (length n.clusters) v × (bytes_eq s.cluster (name_at n.clusters (item v)) ≡ false)
Fits n s column.Client v = IsBelow (length n.clients) v
Fits n s (column.Doer r) v = IsBelow (length n.clients) v × IsUnbroken n s (column.Doer r) (name_at n.clients (item v))
Fits n s column.Offered v = IsBelow (length (subs_of n s.topic)) v
Fits n s column.Sub v = IsNameValue v × IsUnbroken n s column.Sub (name v)
Fits n s column.Producer v = IsNameValue v × IsUnbroken n s column.Producer (name v)
Fits n s column.NewCluster v = IsNameValue v × IsUnbroken n s column.NewCluster (name v)
Fits n s column.NewTopic v = IsNameValue v × IsUnbroken n s column.NewTopic (name v)
Fits n s column.NewClient v = IsNameValue v × IsUnbroken n s column.NewClient (name v)
Fits n s column.Targets v = IsTargetsValue (length n.clusters) v
Fits n s column.Key v = IsKeyValue v
Fits n s column.Text v = IsTextValue v
Fits n s (column.Count least most) v = IsWithin least most v × (most < 2 ^ 64)
Fits n s column.Lost v = IsWithin 0 1000 v
Fits n s column.Twice v = IsWithin 0 (1000 - s.lost) v
Fits n s column.Seq v = IsSeq v
Fits n s column.PositionOrEnd v = IsPositionOrEnd v
Fits n s (column.Menu m) v = IsBelow (choices m) v × (is_later m (choice_word m (item v)) ≡ false)

abbrev pub AreFit : Names → Seen → List Column → List Value → Type 0
AreFit n s [] vs = length vs ≡ 0
AreFit n s (c ∷ cs) vs =
    (0 < length vs) × Fits n s c (first vs) × AreFit n (seen_after n s c (word_of n s c (first vs))) cs (rest vs)

-- names of which each stands once
pub record AreNames (names : List Word) : Type 0 where
  pub each : list_all is_name names ≡ true
  pub apart : AreDistinct names

pub record AreDeclared (n : Names) : Type 0 where
  pub clusters : AreNames n.clusters
  pub topics : AreNames n.topics
  pub clients : AreNames n.clients
  pub subs : (t : ℕ) → AreNames (subs_of n t)
