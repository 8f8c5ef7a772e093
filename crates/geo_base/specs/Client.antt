-- A client: what it keeps, and what it sends for each of its lines (commands of PulsarApi.proto; which line it does when,
-- and what it sends again after a reconnect, is own).
use Rattle.std.specs.Prelude.{ℕ, ◌+◌, Bool, true, false, if◌then◌else◌, List, [], ◌∷◌, ◌++◌, Option, Some, None, slice_get}
use Rattle.geo_base.specs.Types.{Entry, Frame, Held, Ident, Line, Out, Targets}
use Rattle.geo_base.specs.Types.content
use Rattle.geo_base.specs.Types.frame
use Rattle.geo_base.specs.Types.line
use Rattle.geo_base.specs.Types.peer
use Rattle.geo_base.specs.Types.targets
use Rattle.geo_base.specs.Entry.{goes_to}
use Rattle.geo_base.specs.Link.{sends}
use Rattle.geo_base.specs.Setup.{Declared, Setup, topic_name}

-- done lines; produce, sub and flow are the indexes of the lines in force, unanswered those of the pub lines whose receipt
-- is awaited; held messages came and were not acknowledged on this subscription, got are all that came
pub record Client : Type 0 where
  pub cluster : ℕ
  pub connection : ℕ
  pub connected : Bool
  pub done : ℕ
  pub produce : Option ℕ
  pub sub : Option ℕ
  pub flow : Option ℕ
  pub unanswered : List ℕ
  pub held : List Held
  pub receipts : ℕ
  pub duplicates : ℕ
  pub errors : ℕ
  pub got : List Ident

abbrev pub new_client : Declared → Client
new_client d = record {
  cluster = d.cluster;
  connection = 0;
  connected = false;
  done = 0;
  produce = None;
  sub = None;
  flow = None;
  unanswered = [];
  held = [];
  receipts = 0;
  duplicates = 0;
  errors = 0;
  got = [];
}

-- what an event does at a client
pub record Acted : Type 0 where
  pub idle : Bool
  pub client : Client
  pub sent : List Out

abbrev pub stays : Client → Acted
stays k = record { idle = true; client = k; sent = [] }

abbrev pub becomes : Client → List Out → Acted
becomes k sent = record { idle = false; client = k; sent = sent }

-- on the connection to the current cluster
abbrev pub to_broker : Client → Frame → List Out
to_broker k f = sends (peer.Broker k.cluster) k.connection f

-- a producer's id is the index of the produce line in force, a consumer's that of the sub line
abbrev pub id_of : Option ℕ → ℕ
id_of None = 0
id_of (Some i) = i

-- the names of a target list, in cluster order from cluster x on
abbrev pub target_names : ℕ → Targets → List (List ℕ) → List (List ℕ)
target_names x targets.All names = []
target_names x (targets.Only bits) [] = []
target_names x (targets.Only bits) (n ∷ ns) =
    if goes_to x (targets.Only bits) then n ∷ target_names (x + 1) (targets.Only bits) ns else target_names (x + 1) (targets.Only bits) ns

-- the message that a pub line publishes
abbrev pub published : Setup → Declared → Client → ℕ → Targets → Option (List ℕ) → List ℕ → Entry
published s d k seq to key text = record {
  ident = record { origin = k.cluster; producer = d.name; seq = seq };
  content = content.Data;
  to = to;
  meta = record { publish_time = 0; key = key; names = target_names 0 to s.clusters; rest = [] };
  payload = text;
}

-- the command of a line that is in force or unanswered; i is its index and so its request id. Other lines are sent once
abbrev pub command : Setup → Declared → Client → ℕ → Option Line → List Out
command s d k i (Some line.Produce) = to_broker k (frame.Producer (topic_name s d.topic) i i (Some d.name))
command s d k i (Some (line.Sub n kind earliest replicated)) =
    to_broker k (frame.Subscribe (topic_name s d.topic) n kind i i (Some d.name) earliest replicated)
command s d k i (Some (line.Flow permits)) = to_broker k (frame.Flow (id_of k.sub) permits)
command s d k i (Some (line.Pub seq to key text)) =
    to_broker k (frame.Send (id_of k.produce) seq None (published s d k seq to key text))
command s d k i (Some l) = []
command s d k i None = []

abbrev pub command_at : Setup → Declared → Client → Option ℕ → List Out
command_at s d k None = []
command_at s d k (Some i) = command s d k i (slice_get d.lines i)

abbrev pub commands_at : Setup → Declared → Client → List ℕ → List Out
commands_at s d k [] = []
commands_at s d k (i ∷ is) = command_at s d k (Some i) ++ commands_at s d k is

-- a new connection, on which nothing is held
abbrev pub connected_to : ℕ → Client → Client
connected_to x k = record k { cluster = x; connection = k.connection + 1; connected = true; held = [] }

-- CONNECT, then what is in force, then each publish without receipt in order
abbrev pub connects : Setup → Declared → Client → Acted
connects s d k = becomes k (to_broker k frame.Connect
    ++ (command_at s d k k.produce ++ (command_at s d k k.sub ++ (command_at s d k k.flow ++ commands_at s d k k.unanswered))))

-- reconnect: always enabled
unfoldable pub reconnect : Setup → Declared → Client → Acted
reconnect s d k = connects s d (connected_to k.cluster k)

-- what a stop of the world leaves of a client
abbrev pub unconnected : Client → Client
unconnected k = record k { connected = false; held = [] }
