-- Which actors a worker has.
use Rattle.std.specs.Prelude.{ℕ, zero, suc, ◌%◌, ◌==◌, Bool, if◌then◌else◌, List, [], ◌∷◌, ◌++◌, length, map, min, slice_index_or}
use Rattle.actors.specs.declared.role.Role.{Role}
use Rattle.actors.specs.declared.role.Role.TheVariants as role
use Rattle.actors.specs.Order.{roles_of}
use Rattle.actors.specs.Tries.{new_actor}
use Rattle.geo_base.specs.Nodes.{BrokerNode, ClientNode, node_number}
use Rattle.geo_base.specs.Setup.{Setup}
use Rattle.live_run.specs.declared.crew.Crew.{Crew}
use Rattle.live_run.specs.declared.crew.Member.{Member}
use Rattle.script_text.specs.Script.{Script}

-- the first of the nodes at whose logs an actor of a role takes its turns, and how many there are
abbrev pub first_node : Setup → Role → ℕ
first_node s (role.Replicator l) = node_number s (BrokerNode l.topic l.source)
first_node s (role.Receiver l) = node_number s (BrokerNode l.topic l.target)
first_node s (role.Controller t x) = node_number s (BrokerNode t x)
first_node s (role.Dispatcher t x i) = node_number s (BrokerNode t x)
first_node s (role.Client c) = node_number s (ClientNode c)
first_node s (role.Server t c) = node_number s (BrokerNode t 0)

abbrev pub nodes_of : Setup → Role → ℕ
nodes_of s (role.Replicator l) = 1
nodes_of s (role.Receiver l) = 1
nodes_of s (role.Controller t x) = 1
nodes_of s (role.Dispatcher t x i) = 1
nodes_of s (role.Client c) = 1
nodes_of s (role.Server t c) = length s.clusters

-- the actor of a number and a role before its first turn
abbrev pub member_of : Script → ℕ → Role → Member
member_of s n r = record { actor = new_actor s n r; first = first_node s.setup r; nodes = nodes_of s.setup r }

-- numbers of actors have 32 bits; the last such number is none
abbrev pub most_actors : ℕ
most_actors = 4294967295

-- worker k has each actor whose number is k modulo the number of workers w: those of the first n, in order
abbrev pub member_if : Bool → Member → List Member
member_if own m = if own then m ∷ [] else []

abbrev pub has_actor : ℕ → ℕ → ℕ → Member → List Member
has_actor n k w m = member_if (n % w == k) m

unfoldable pub members_below : Script → List Role → ℕ → ℕ → ℕ → List Member
members_below s rs k w zero = []
members_below s rs k w (suc n) = members_below s rs k w n ++ has_actor n k w (member_of s n (slice_index_or rs n (role.Client 0)))

-- those of all actors, and of the first n workers
abbrev pub members_of : Script → ℕ → ℕ → List Member
members_of s w k = members_below s (roles_of s.setup) k w (min (length (roles_of s.setup)) most_actors)

unfoldable pub crews_below : Script → ℕ → ℕ → List (List Member)
crews_below s w zero = []
crews_below s w (suc n) = crews_below s w n ++ members_of s w n ∷ []

abbrev pub members_in : List Crew → List (List Member)
members_in cs = map (λ (c : Crew). c.members.items) cs
