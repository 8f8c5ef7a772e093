-- The table: the word and the columns of each row, and which rows are read.
--
--   geo 1
--   ledger N          chance NUMBER LOST TWICE RESTART
--   cluster X
--   topic T
--   client C T X
--   do C produce      do C pub SEQ TO KEY TEXT
--   do C sub S KIND INIT REPL             do C flow N
--   do C ack X P SEQ  do C ackto X P SEQ  do C ackall
--   do C unsub        do C close          do C closep
--   do C ping         do C move X
--   go C              get C               reconnect C
--   serve X C         drop X C
--   reset T X Y       read T X Y
--   take T X Y FATE   receipt T X Y FATE
--   snap T X          restart T X
--   offer T X S       seek T X S PLACE
--   halt K EVENT      settle              stop
use Rattle.std.specs.Prelude.{ℕ, Bool, true, false, List, [], ◌∷◌, find, Option, Some, None, codes}
use Rattle.std.specs.Str.{bytes_eq}
use Rattle.script_rows.specs.declared.act_kind.ActKind.{ActKind}
use Rattle.script_rows.specs.declared.act_kind.ActKind.TheVariants as act
use Rattle.script_rows.specs.declared.column.Column.{Column}
use Rattle.script_rows.specs.declared.column.Column.TheVariants as column
use Rattle.script_rows.specs.declared.column.Menu.{Menu}
use Rattle.script_rows.specs.declared.column.Menu.TheVariants as menu
use Rattle.script_rows.specs.declared.column.Role.{Role}
use Rattle.script_rows.specs.declared.column.Role.TheVariants as role
use Rattle.script_rows.specs.declared.event_kind.EventKind.{EventKind}
use Rattle.script_rows.specs.declared.event_kind.EventKind.TheVariants as event
use Rattle.script_rows.specs.declared.kind.Kind.{Kind}
use Rattle.script_rows.specs.declared.kind.Kind.TheVariants as kind
use Rattle.script_rows.specs.declared.line_kind.LineKind.{LineKind}
use Rattle.script_rows.specs.declared.line_kind.LineKind.TheVariants as line
use Rattle.script_rows.specs.declared.progress.Stage.{Stage}
use Rattle.script_rows.specs.declared.progress.Stage.TheVariants as stage
use Rattle.script_rows.specs.NameWords.{Word}

-- ---- events
-- T X Y: a topic and the two ends of a link
abbrev pub link : List Column
link = column.Topic ∷ column.Cluster ∷ column.Other ∷ []

abbrev pub fated_link : List Column
fated_link = column.Topic ∷ column.Cluster ∷ column.Other ∷ column.Menu menu.Fate ∷ []

-- T X: a topic's broker at a cluster
abbrev pub node : List Column
node = column.Topic ∷ column.Cluster ∷ []

-- X C: a broker and a client's connection
abbrev pub connection : List Column
connection = column.Cluster ∷ column.Client ∷ []

abbrev pub event_columns : EventKind → List Column
event_columns event.Go = column.Client ∷ []
event_columns event.Get = column.Client ∷ []
event_columns event.Reconnect = column.Client ∷ []
event_columns event.Serve = connection
event_columns event.Drop = connection
event_columns event.Reset = link
event_columns event.Read = link
event_columns event.Take = fated_link
event_columns event.Receipt = fated_link
event_columns event.Snap = node
event_columns event.Offer = column.Topic ∷ column.Cluster ∷ column.Offered ∷ []
event_columns event.Seek = column.Topic ∷ column.Cluster ∷ column.Offered ∷ column.PositionOrEnd ∷ []
event_columns event.Restart = node

abbrev pub event_word : EventKind → Word
event_word event.Go = codes "go"
event_word event.Get = codes "get"
event_word event.Reconnect = codes "reconnect"
event_word event.Serve = codes "serve"
event_word event.Drop = codes "drop"
event_word event.Reset = codes "reset"
event_word event.Read = codes "read"
event_word event.Take = codes "take"
event_word event.Receipt = codes "receipt"
event_word event.Snap = codes "snap"
event_word event.Offer = codes "offer"
event_word event.Seek = codes "seek"
event_word event.Restart = codes "restart"

abbrev pub event_kinds : List EventKind
event_kinds = event.Go ∷ event.Get ∷ event.Reconnect ∷ event.Serve ∷ event.Drop ∷ event.Reset ∷ event.Read ∷ event.Take
    ∷ event.Receipt ∷ event.Snap ∷ event.Offer ∷ event.Seek ∷ event.Restart ∷ []

abbrev pub event_of_word : Word → Option EventKind
event_of_word w = find (λ k. bytes_eq w (event_word k)) event_kinds

-- the events that are read
abbrev pub event_built : EventKind → Bool
event_built k = true

-- the events that may be halted: those of a broker that it does by its own steps
abbrev pub may_halt : EventKind → Bool
may_halt event.Go = false
may_halt event.Get = false
may_halt event.Reconnect = false
may_halt event.Restart = false
may_halt k = true

-- whether `halt` is read
abbrev pub halt_built : Bool
halt_built = true

-- ---- a client's lines, after `do C` and their word
-- X P SEQ: a message
abbrev pub ident : List Column
ident = column.Cluster ∷ column.Producer ∷ column.Seq ∷ []

abbrev pub act_columns : ActKind → List Column
act_columns act.Produce = []
act_columns act.Pub = column.Seq ∷ column.Targets ∷ column.Key ∷ column.Text ∷ []
act_columns act.Sub = column.Sub ∷ column.Menu menu.SubKind ∷ column.Menu menu.Start ∷ column.Menu menu.Replication ∷ []
act_columns act.Flow = column.Count 1 1000000 ∷ []
act_columns act.Ack = ident
act_columns act.AckTo = ident
act_columns act.AckAll = []
act_columns act.Unsub = []
act_columns act.Close = []
act_columns act.CloseProducer = []
act_columns act.Ping = []
act_columns act.Move = column.Cluster ∷ []

abbrev pub act_word : ActKind → Word
act_word act.Produce = codes "produce"
act_word act.Pub = codes "pub"
act_word act.Sub = codes "sub"
act_word act.Flow = codes "flow"
act_word act.Ack = codes "ack"
act_word act.AckTo = codes "ackto"
act_word act.AckAll = codes "ackall"
act_word act.Unsub = codes "unsub"
act_word act.Close = codes "close"
act_word act.CloseProducer = codes "closep"
act_word act.Ping = codes "ping"
act_word act.Move = codes "move"

abbrev pub act_kinds : List ActKind
act_kinds = act.Produce ∷ act.Pub ∷ act.Sub ∷ act.Flow ∷ act.Ack ∷ act.AckTo ∷ act.AckAll ∷ act.Unsub ∷ act.Close
    ∷ act.CloseProducer ∷ act.Ping ∷ act.Move ∷ []

abbrev pub act_of_word : Word → Option ActKind
act_of_word w = find (λ k. bytes_eq w (act_word k)) act_kinds

-- what a line makes of its client
abbrev pub role_of : ActKind → Role
role_of act.Produce = role.Producer
role_of act.Move = role.Mover
role_of k = role.Plain

-- the lines that are read
abbrev pub act_built : ActKind → Bool
act_built k = true

-- ---- the other lines
abbrev pub line_columns : LineKind → List Column
line_columns line.Geo = column.Menu menu.Version ∷ []
line_columns line.Ledger = column.Count 1 1000000 ∷ []
line_columns line.Chance = column.Count 0 4294967295 ∷ column.Lost ∷ column.Twice ∷ column.Count 0 1000 ∷ []
line_columns line.Cluster = column.NewCluster ∷ []
line_columns line.Topic = column.NewTopic ∷ []
line_columns line.Client = column.NewClient ∷ column.Home ∷ column.Cluster ∷ []
line_columns line.Settle = []
line_columns line.Stop = []

abbrev pub line_word : LineKind → Word
line_word line.Geo = codes "geo"
line_word line.Ledger = codes "ledger"
line_word line.Chance = codes "chance"
line_word line.Cluster = codes "cluster"
line_word line.Topic = codes "topic"
line_word line.Client = codes "client"
line_word line.Settle = codes "settle"
line_word line.Stop = codes "stop"

abbrev pub line_kinds : List LineKind
line_kinds = line.Geo ∷ line.Ledger ∷ line.Chance ∷ line.Cluster ∷ line.Topic ∷ line.Client ∷ line.Settle ∷ line.Stop ∷ []

abbrev pub line_of_word : Word → Option LineKind
line_of_word w = find (λ k. bytes_eq w (line_word k)) line_kinds

-- the lines that are read
abbrev pub line_built : LineKind → Bool
line_built k = true

-- ---- words of a choice: each is read
abbrev pub is_later : Menu → Word → Bool
is_later m w = false

-- ---- any line
abbrev pub columns_of : Kind → List Column
columns_of (kind.Other k) = line_columns k
columns_of (kind.Do k) = column.Doer (role_of k) ∷ act_columns k
columns_of (kind.Event k) = event_columns k
columns_of (kind.Halt k) = column.Count 0 8 ∷ event_columns k

-- the columns, one of them perhaps put before the others
abbrev pub columns_after : Option Column → List Column → List Column
columns_after None cs = cs
columns_after (Some c) cs = c ∷ cs

abbrev pub stage_of : Kind → Stage
stage_of (kind.Other line.Geo) = stage.Geo
stage_of (kind.Other line.Ledger) = stage.Setting
stage_of (kind.Other line.Chance) = stage.Setting
stage_of (kind.Other line.Cluster) = stage.Cluster
stage_of (kind.Other line.Topic) = stage.Topic
stage_of (kind.Other line.Client) = stage.Client
stage_of (kind.Do k) = stage.Do
stage_of k = stage.Event

-- the order of lines in a script
abbrev pub rank : Stage → ℕ
rank stage.Geo = 0
rank stage.Setting = 1
rank stage.Cluster = 2
rank stage.Topic = 3
rank stage.Client = 4
rank stage.Do = 5
rank stage.Event = 6
