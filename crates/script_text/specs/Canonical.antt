-- The text that writes what a script declares: one for each setup, without skipped lines and without events (own).
use Rattle.std.specs.Prelude.{ℕ, ◌==◌, Bool, true, false, if◌then◌else◌, List, [], ◌∷◌, ◌++◌, Option, Some, None, codes}
use Rattle.std.specs.Fmt.{decimal}
use Rattle.geo_base.specs.declared.client.Line.{Line}
use Rattle.geo_base.specs.declared.client.Line.TheVariants as line
use Rattle.geo_base.specs.declared.entry.Ident.{Ident}
use Rattle.geo_base.specs.declared.frame.SubKind.{SubKind}
use Rattle.geo_base.specs.declared.frame.SubKind.TheVariants as sub_kind
use Rattle.geo_base.specs.Setup.{Declared, Setup}
use Rattle.script_rows.specs.NameBytes.{name_at}
use Rattle.script_rows.specs.NameWords.{Word}
use Rattle.script_rows.specs.Written.{key_word, spaced, targets_word}
use Rattle.script_text.specs.declared.chance.Chance.{Chance}
use Rattle.script_text.specs.Script.{Script}

-- the words of a line, each after a space, and its line feed
abbrev pub row_text : List Word → List ℕ
row_text ws = spaced ws ++ 10 ∷ []

-- ---- a client's line
abbrev pub kind_word : SubKind → Word
kind_word sub_kind.Exclusive = codes "exclusive"
kind_word sub_kind.Shared = codes "shared"
kind_word sub_kind.Failover = codes "failover"
kind_word sub_kind.KeyShared = codes "keyshared"

abbrev pub start_word : Bool → Word
start_word true = codes "earliest"
start_word false = codes "latest"

abbrev pub replication_word : Bool → Word
replication_word true = codes "replicated"
replication_word false = codes "local"

abbrev pub ident_words : List Word → Ident → List Word
ident_words clusters i = name_at clusters i.origin ∷ i.producer ∷ decimal i.seq ∷ []

abbrev pub head_word : Line → Word
head_word line.Produce = codes "produce"
head_word (line.Pub seq to key text) = codes "pub"
head_word (line.Sub sub kind earliest replicated) = codes "sub"
head_word (line.Flow permits) = codes "flow"
head_word (line.Ack i) = codes "ack"
head_word (line.AckTo i) = codes "ackto"
head_word line.AckAll = codes "ackall"
head_word line.Unsub = codes "unsub"
head_word line.Close = codes "close"
head_word line.CloseProducer = codes "closep"
head_word line.Ping = codes "ping"
head_word (line.Move x) = codes "move"

abbrev pub line_words : List Word → Line → List Word
line_words clusters line.Produce = codes "produce" ∷ []
line_words clusters (line.Pub seq to key text) =
    codes "pub" ∷ decimal seq ∷ targets_word clusters to ∷ key_word key ∷ text ∷ []
line_words clusters (line.Sub sub kind earliest replicated) =
    codes "sub" ∷ sub ∷ kind_word kind ∷ start_word earliest ∷ replication_word replicated ∷ []
line_words clusters (line.Flow permits) = codes "flow" ∷ decimal permits ∷ []
line_words clusters (line.Ack i) = codes "ack" ∷ ident_words clusters i
line_words clusters (line.AckTo i) = codes "ackto" ∷ ident_words clusters i
line_words clusters line.AckAll = codes "ackall" ∷ []
line_words clusters line.Unsub = codes "unsub" ∷ []
line_words clusters line.Close = codes "close" ∷ []
line_words clusters line.CloseProducer = codes "closep" ∷ []
line_words clusters line.Ping = codes "ping" ∷ []
line_words clusters (line.Move x) = codes "move" ∷ name_at clusters x ∷ []

-- the lines of a client, in their order
abbrev pub lines_text : List Word → Word → List Line → List ℕ
lines_text clusters client [] = []
lines_text clusters client (l ∷ ls) =
    codes "do" ++ (row_text (client ∷ line_words clusters l) ++ lines_text clusters client ls)

-- client by client
abbrev pub all_lines_text : List Word → List Declared → List ℕ
all_lines_text clusters [] = []
all_lines_text clusters (d ∷ ds) = lines_text clusters d.name d.lines ++ all_lines_text clusters ds

-- ---- what comes before
abbrev pub clients_text : List Word → List Word → List Declared → List ℕ
clients_text clusters topics [] = []
clients_text clusters topics (d ∷ ds) =
    codes "client" ++ (row_text (d.name ∷ name_at topics d.topic ∷ name_at clusters d.cluster ∷ []) ++ clients_text clusters topics ds)

-- a line for each name
abbrev pub names_text : Word → List Word → List ℕ
names_text head [] = []
names_text head (w ∷ ws) = head ++ (row_text (w ∷ []) ++ names_text head ws)

abbrev pub ledger_text : ℕ → List ℕ
ledger_text entries = if entries == 50000 then [] else codes "ledger" ++ row_text (decimal entries ∷ [])

abbrev pub chance_text : Option Chance → List ℕ
chance_text None = []
chance_text (Some c) =
    codes "chance" ++ row_text (decimal c.number ∷ decimal c.lost ∷ decimal c.twice ∷ decimal c.restart ∷ [])

-- ---- all
abbrev pub declarations_text : Setup → Option Chance → List ℕ
declarations_text s chance =
    codes "geo 1\n" ++ (ledger_text s.per_ledger ++ (chance_text chance ++ (names_text (codes "cluster") s.clusters ++ (names_text (codes "topic") s.topics ++ (clients_text s.clusters s.topics s.clients ++ all_lines_text s.clusters s.clients)))))

-- what is declared, without a schedule
abbrev pub declared_alone : Setup → Option Chance → Script
declared_alone s chance = record { setup = s; chance = chance; steps = []; first_event = None }

-- ---- words pushed one by one
abbrev pub pushed : List ℕ → List Word → List ℕ
pushed out [] = out
pushed out (w ∷ ws) = pushed (out ++ 32 ∷ w) ws
