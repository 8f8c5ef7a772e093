-- What a word says in a column, and which rules it breaks there.
use Rattle.std.specs.Prelude.{ℕ, ◌-◌, ◌^◌, nat_lt, nat_le, Bool, false, not, ◌&&◌, List, [], ◌∷◌, length, Option, Some, None, is_none, unwrap_or, if◌then◌else◌, codes}
use Rattle.std.specs.List.{list_all}
use Rattle.std.specs.Str.{bytes_eq}
use Rattle.geo_base.specs.declared.entry.Targets.{Targets}
use Rattle.geo_base.specs.declared.entry.Targets.TheVariants as targets
use Rattle.geo_base.specs.declared.position.Position.{Position}
use Rattle.script_rows.specs.NameBytes.{has_long, has_repeat, has_stranger, is_among, mask_of, number_in}
use Rattle.script_rows.specs.Numbers.{number_of}
use Rattle.script_rows.specs.NameWords.{Word, cut_by, given, has_name_bytes, is_long, listed}
use Rattle.script_rows.specs.declared.column.Column.{Column}
use Rattle.script_rows.specs.declared.column.Column.TheVariants as column
use Rattle.script_rows.specs.declared.column.Menu.{Menu}
use Rattle.script_rows.specs.declared.column.Menu.TheVariants as menu
use Rattle.script_rows.specs.declared.column.Role.{Role}
use Rattle.script_rows.specs.declared.column.Role.TheVariants as role
use Rattle.script_rows.specs.declared.fault.Rule.{Rule}
use Rattle.script_rows.specs.declared.fault.Rule.TheVariants as rule
use Rattle.script_rows.specs.declared.names.Member.{Member}
use Rattle.script_rows.specs.declared.value.Value.{Value}
use Rattle.script_rows.specs.declared.value.Value.TheVariants as value
use Rattle.script_rows.specs.Names.{Names, Seen, count_of, member_of, subs_of}
use Rattle.script_rows.specs.Rows.{is_later}
use Rattle.script_rows.specs.Words.{◌>>=◌}

-- the number of a word among those of a choice
abbrev pub choice_of : Menu → Word → Option ℕ
choice_of menu.Version w = given (bytes_eq w (codes "1")) 0
choice_of menu.Fate w =
    if bytes_eq w (codes "good") then Some 0
    else if bytes_eq w (codes "lost") then Some 1
    else if bytes_eq w (codes "twice") then Some 2
    else None
choice_of menu.Start w =
    if bytes_eq w (codes "latest") then Some 0
    else if bytes_eq w (codes "earliest") then Some 1
    else None
choice_of menu.SubKind w =
    if bytes_eq w (codes "exclusive") then Some 0
    else if bytes_eq w (codes "shared") then Some 1
    else if bytes_eq w (codes "failover") then Some 2
    else if bytes_eq w (codes "keyshared") then Some 3
    else None
choice_of menu.Replication w =
    if bytes_eq w (codes "local") then Some 0
    else if bytes_eq w (codes "replicated") then Some 1
    else None

-- `L:E`
abbrev pub pair_of : List Word → Option Position
pair_of (l ∷ e ∷ []) = do
  ledger ← number_of (2 ^ 64 - 1) l
  entry ← number_of (2 ^ 64 - 1) e
  Some (record { ledger = ledger; entry = entry })
pair_of ws = None

-- `L:E`, or `end`
abbrev pub place_of : Word → Option (Option Position)
place_of w = if bytes_eq w (codes "end") then Some None else do
  p ← pair_of (cut_by 58 w)
  Some (Some p)

-- the number of a name, where it has a name's bytes
abbrev pub named : List Word → Word → Option Value
named names w = given (has_name_bytes w) (value.Item (number_in names w))

-- a name itself
abbrev pub new_name : Word → Option Value
new_name w = given (has_name_bytes w) (value.Name w)

-- a number in a range
abbrev pub counted : ℕ → ℕ → Word → Option Value
counted least most w = do
  v ← number_of most w
  given (nat_le least v) (value.Item v)

-- KEY: `-`, which is no key, or a name
abbrev pub key_of : Word → Option (Option Word)
key_of w = if bytes_eq w (codes "-") then Some None else given (has_name_bytes w) (Some w)

-- the names of TO: none for `*`
abbrev pub target_names : Word → List Word
target_names w = if bytes_eq w (codes "*") then [] else listed w

-- TO: `*`, which is for all, or names of clusters with commas
abbrev pub targets_of : List Word → Word → Option Targets
targets_of clusters w =
    if bytes_eq w (codes "*") then Some targets.All
    else given (list_all has_name_bytes (listed w)) (targets.Only (mask_of clusters (listed w)))

-- what a word says; `None` where it has not the column's form
abbrev pub value_of : Names → Seen → Column → Word → Option Value
value_of n s column.Topic w = named n.topics w
value_of n s column.Home w = named n.topics w
value_of n s column.Cluster w = named n.clusters w
value_of n s column.Other w = named n.clusters w
value_of n s column.Client w = named n.clients w
value_of n s (column.Doer r) w = named n.clients w
value_of n s column.Offered w = named (subs_of n s.topic) w
value_of n s column.Sub w = new_name w
value_of n s column.Producer w = new_name w
value_of n s column.NewCluster w = new_name w
value_of n s column.NewTopic w = new_name w
value_of n s column.NewClient w = new_name w
value_of n s column.Targets w = do
  t ← targets_of n.clusters w
  Some (value.Targets t)
value_of n s column.Key w = do
  k ← key_of w
  Some (value.Key k)
value_of n s column.Text w = Some (value.Text w)
value_of n s (column.Count least most) w = counted least most w
value_of n s column.Lost w = counted 0 1000 w
value_of n s column.Twice w = counted 0 (1000 - s.lost) w
value_of n s column.Seq w = do
  v ← number_of (2 ^ 63 - 1) w
  Some (value.Seq v)
value_of n s column.PositionOrEnd w = do
  p ← place_of w
  Some (value.PositionOrEnd p)
value_of n s (column.Menu m) w = do
  i ← choice_of m w
  Some (value.Item i)

-- what the words after it know of a word
abbrev pub seen_after : Names → Seen → Column → Word → Seen
seen_after n s column.Topic w = record s { topic = number_in n.topics w }
seen_after n s (column.Doer r) w = record s { topic = (member_of n w).topic }
seen_after n s column.Cluster w = record s { cluster = w }
seen_after n s column.Lost w = record s { lost = unwrap_or (number_of 1000 w) 0 }
seen_after n s c w = s

-- ---- what the rules ask of a word in its column
-- a word that is not read yet stands at its place (own: a script for a later version is refused as unknown)
abbrev pub has_later : Column → Word → Bool
has_later (column.Menu m) w = is_later m w
has_later c w = false

-- a name stands there that is too long
abbrev pub has_long_name : Column → Word → Bool
has_long_name column.Targets w = has_long (target_names w)
has_long_name column.Text w = false
has_long_name (column.Count least most) w = false
has_long_name column.Lost w = false
has_long_name column.Twice w = false
has_long_name column.Seq w = false
has_long_name column.PositionOrEnd w = false
has_long_name (column.Menu m) w = false
has_long_name c w = is_long w

abbrev pub is_ninth_cluster : Names → Column → Bool
is_ninth_cluster n column.NewCluster = nat_le 8 (length n.clusters)
is_ninth_cluster n c = false

-- the name is declared already among its kind
abbrev pub is_declared : Names → Column → Word → Bool
is_declared n column.NewCluster w = is_among n.clusters w
is_declared n column.NewTopic w = is_among n.topics w
is_declared n column.NewClient w = is_among n.clients w
is_declared n c w = false

-- a topic comes before two clusters
abbrev pub is_lone : Names → Column → Bool
is_lone n column.NewTopic = nat_lt (length n.clusters) 2
is_lone n c = false

abbrev pub is_topic_past : Names → Column → Bool
is_topic_past n column.NewTopic = nat_le 16 (length n.topics)
is_topic_past n c = false

-- its topic has so many clients already
abbrev pub is_client_past : Names → Column → Word → Bool
is_client_past n column.Home w = nat_le 32 (count_of n (number_in n.topics w))
is_client_past n c w = false

-- its topic has so many subscriptions already, and this is another one
abbrev pub is_sub_past : Names → Seen → Column → Word → Bool
is_sub_past n s column.Sub w = not (is_among (subs_of n s.topic) w) && nat_le 32 (length (subs_of n s.topic))
is_sub_past n s c w = false

abbrev pub has_long_text : Column → Word → Bool
has_long_text column.Text w = nat_lt 1024 (length w)
has_long_text c w = false

-- it names nothing declared
abbrev pub is_stranger : Names → Column → Word → Bool
is_stranger n column.Topic w = not (is_among n.topics w)
is_stranger n column.Home w = not (is_among n.topics w)
is_stranger n column.Cluster w = not (is_among n.clusters w)
is_stranger n column.Other w = not (is_among n.clusters w)
is_stranger n column.Client w = not (is_among n.clients w)
is_stranger n (column.Doer r) w = not (is_among n.clients w)
is_stranger n column.Producer w = not (is_among n.clients w)
is_stranger n column.Targets w = has_stranger n.clusters (target_names w)
is_stranger n c w = false

-- a client that moves is to produce, or one that produces to move
abbrev pub is_other_role : Member → Role → Bool
is_other_role m role.Producer = m.moves
is_other_role m role.Mover = m.produces
is_other_role m role.Plain = false

abbrev pub is_mixed : Names → Column → Word → Bool
is_mixed n (column.Doer r) w = is_other_role (member_of n w) r
is_mixed n c w = false

-- its topic has no subscription of this name
abbrev pub is_strange_sub : Names → Seen → Column → Word → Bool
is_strange_sub n s column.Offered w = not (is_among (subs_of n s.topic) w)
is_strange_sub n s c w = false

-- it is the cluster that was named before
abbrev pub is_loop : Seen → Column → Word → Bool
is_loop s column.Other w = bytes_eq s.cluster w
is_loop s c w = false

abbrev pub is_repeat : Column → Word → Bool
is_repeat column.Targets w = has_repeat (target_names w)
is_repeat c w = false

-- whether a word breaks a rule in a column
abbrev pub cell_breaks : Names → Seen → Column → Word → Rule → Bool
cell_breaks n s c w rule.Word = has_later c w
cell_breaks n s c w rule.Form = is_none (value_of n s c w)
cell_breaks n s c w rule.LongName = has_long_name c w
cell_breaks n s c w rule.Clusters = is_ninth_cluster n c
cell_breaks n s c w rule.NameTwice = is_declared n c w
cell_breaks n s c w rule.Lone = is_lone n c
cell_breaks n s c w rule.Topics = is_topic_past n c
cell_breaks n s c w rule.Clients = is_client_past n c w
cell_breaks n s c w rule.Subscriptions = is_sub_past n s c w
cell_breaks n s c w rule.LongText = has_long_text c w
cell_breaks n s c w rule.Undeclared = is_stranger n c w
cell_breaks n s c w rule.Mixed = is_mixed n c w
cell_breaks n s c w rule.StrangeSubscription = is_strange_sub n s c w
cell_breaks n s c w rule.Loop = is_loop s c w
cell_breaks n s c w rule.TargetTwice = is_repeat c w
cell_breaks n s c w r = false
