-- What an actor tries in a turn (own): the events of its role at the log that it is given, in order. A role none of whose events is
-- at the log's node tries nothing.
use Rattle.std.specs.Prelude.{ℕ, nat_lt, nat_le, ◌==◌, Bool, true, false, not, ◌&&◌, ◌||◌, if◌then◌else◌, List, [], ◌∷◌, ◌++◌, length, Option, Some, None}
use Rattle.actors.specs.declared.role.Link.{Link}
use Rattle.actors.specs.declared.role.Role.{Role}
use Rattle.actors.specs.declared.role.Role.TheVariants as role
use Rattle.actors.specs.Drawing.{Drawing, after_draw, drawing_of, fate_drawn, restart_drawn}
use Rattle.geo_base.specs.declared.event.Event.{Event}
use Rattle.geo_base.specs.declared.event.Event.TheVariants as event
use Rattle.geo_base.specs.declared.replicator.Pending.{Pending}
use Rattle.geo_base.specs.declared.replicator.ReplicatorState.{ReplicatorState}
use Rattle.geo_base.specs.declared.replicator.ReplicatorState.TheVariants as replicator_state
use Rattle.geo_base.specs.Broker.{replicator_at}
use Rattle.geo_base.specs.NodeState.{BrokerState, ClientState, NodeState}
use Rattle.geo_base.specs.Nodes.{BrokerNode, ClientNode, Node}
use Rattle.geo_base.specs.Replicator.{Replicator, new_replicator}
use Rattle.node_log.specs.Logs.{NodeLogView}
use Rattle.script_text.specs.Script.{Script}

-- its number, what it does, what it draws, and for how many turns in a row it waited
pub record Actor : Type 0 where
  pub number : ℕ
  pub role : Role
  pub drawing : Drawing
  pub waited : ℕ

abbrev pub new_actor : Script → ℕ → Role → Actor
new_actor s number r = record { number = number; role = r; drawing = drawing_of s.chance number; waited = 0 }

-- after so many turns in a row in which it waited, a replicator begins a new session and a client a new connection (own: what they wait
-- for may be lost)
abbrev pub most_waited : ℕ
most_waited = 64

-- an event that is tried, and what is left of the draws then
pub record Try : Type 0 where
  pub event : Event
  pub drawing : Drawing

abbrev pub tried : Drawing → Event → Try
tried d e = record { event = e; drawing = d }

abbrev pub try_if : Bool → Try → List Try
try_if b t = if b then t ∷ [] else []

-- ---- the log

abbrev pub is_broker : Node → ℕ → ℕ → Bool
is_broker (BrokerNode u z) t x = (u == t) && (z == x)
is_broker (ClientNode d) t x = false

abbrev pub is_client : Node → ℕ → Bool
is_client (BrokerNode u z) c = false
is_client (ClientNode d) c = d == c

-- the cluster of the log of a topic's broker
abbrev pub cluster_of : Node → ℕ → Option ℕ
cluster_of (BrokerNode u z) t = if u == t then Some z else None
cluster_of (ClientNode d) t = None

abbrev pub is_connected : NodeState → Bool
is_connected (BrokerState b) = false
is_connected (ClientState k) = k.connected

abbrev pub replicator_to : NodeState → ℕ → Replicator
replicator_to (BrokerState b) y = replicator_at b y
replicator_to (ClientState k) y = new_replicator

-- it is that of a link's source, and the link's target is a cluster
abbrev pub has_replicator : {E : Type 0} → NodeLogView E → Link → Bool
has_replicator b l = is_broker b.node l.topic l.source && nat_lt l.target (length b.scenario.setup.clusters)

abbrev pub is_closed : ReplicatorState → Bool
is_closed replicator_state.Closed = true
is_closed replicator_state.Opening = false
is_closed replicator_state.Open = false

abbrev pub is_opening : ReplicatorState → Bool
is_opening replicator_state.Closed = false
is_opening replicator_state.Opening = true
is_opening replicator_state.Open = false

-- a replicator waits for the other side to open its session, or for receipts
abbrev pub waits : ReplicatorState → List Pending → Bool
waits state pending = is_opening state || nat_lt 0 (length pending)

-- ---- the tries of each role: none where the log is not of the role's node

-- a session is begun where there is none, and again after much waiting
abbrev pub session_due : {E : Type 0} → Actor → NodeLogView E → Link → Option Bool
session_due a b l = if has_replicator b l then Some (is_closed (replicator_to b.state l.target).state || nat_le most_waited a.waited) else None

-- the next packet is taken with a fate that is drawn
abbrev pub receipt_try : Drawing → Link → Try
receipt_try d l = tried (after_draw d) (event.Receipt l.topic l.source l.target (fate_drawn d))

abbrev pub take_try : Drawing → Link → Try
take_try d l = tried (after_draw d) (event.Take l.topic l.source l.target (fate_drawn d))

abbrev pub replicator_tries : Option Bool → Drawing → Link → List Try
replicator_tries None d l = []
replicator_tries (Some due) d l =
    try_if due (tried d (event.Reset l.topic l.source l.target)) ++ (receipt_try d l ∷ tried (after_draw d) (event.Read l.topic l.source l.target) ∷ [])

abbrev pub receiver_tries : Bool → Drawing → Link → List Try
receiver_tries here d l = try_if here (take_try d l)

-- a restart by chance, which is drawn in any case, and a snapshot
abbrev pub controller_tries : Bool → Drawing → ℕ → ℕ → List Try
controller_tries false d t x = []
controller_tries true d t x = try_if (restart_drawn d) (tried (after_draw d) (event.Restart t x)) ++ (tried (after_draw d) (event.Snap t x) ∷ [])

abbrev pub dispatcher_tries : Bool → Drawing → ℕ → ℕ → ℕ → List Try
dispatcher_tries here d t x i = try_if here (tried d (event.Offer t x i))

-- a connection is made where there is none, and again after much waiting
abbrev pub connection_due : {E : Type 0} → Actor → NodeLogView E → ℕ → Option Bool
connection_due a b c = if is_client b.node c then Some (not (is_connected b.state) || nat_le most_waited a.waited) else None

abbrev pub client_tries : Option Bool → Drawing → ℕ → List Try
client_tries None d c = []
client_tries (Some due) d c = try_if due (tried d (event.Reconnect c)) ++ (tried d (event.Get c) ∷ tried d (event.Go c) ∷ [])

-- at the log's own cluster
abbrev pub server_tries : Option ℕ → Drawing → ℕ → List Try
server_tries None d c = []
server_tries (Some x) d c = tried d (event.Serve x c) ∷ []

abbrev pub tries_of : {E : Type 0} → Actor → Role → NodeLogView E → List Try
tries_of a (role.Replicator l) b = replicator_tries (session_due a b l) a.drawing l
tries_of a (role.Receiver l) b = receiver_tries (is_broker b.node l.topic l.target) a.drawing l
tries_of a (role.Controller t x) b = controller_tries (is_broker b.node t x) a.drawing t x
tries_of a (role.Dispatcher t x i) b = dispatcher_tries (is_broker b.node t x) a.drawing t x i
tries_of a (role.Client c) b = client_tries (connection_due a b c) a.drawing c
tries_of a (role.Server t c) b = server_tries (cluster_of b.node t) a.drawing c

-- ---- waiting

-- whether a turn without an event is one in which the actor waited, by the log after it: a client's always, a replicator's while it
-- waits for the other side, and no other's
abbrev pub has_waited : {E : Type 0} → Role → NodeLogView E → Bool
has_waited (role.Replicator l) b = has_replicator b l && waits (replicator_to b.state l.target).state (replicator_to b.state l.target).pending
has_waited (role.Receiver l) b = false
has_waited (role.Controller t x) b = false
has_waited (role.Dispatcher t x i) b = false
has_waited (role.Client c) b = true
has_waited (role.Server t c) b = false
