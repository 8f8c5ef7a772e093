-- The roles of a scenario in the order in which their actors are numbered (own: any fixed order would do): by topic, and in a topic
-- the replicators and receivers of its links, a controller of each cluster, the dispatchers, and the topic's clients, each with its
-- server.
use Rattle.std.specs.Prelude.{ℕ, zero, suc, ◌==◌, if◌then◌else◌, List, [], ◌∷◌, ◌++◌, length}
use Rattle.actors.specs.declared.role.Link.{Link}
use Rattle.actors.specs.declared.role.Role.{Role}
use Rattle.actors.specs.declared.role.Role.TheVariants as role
use Rattle.geo_base.specs.Setup.{Setup, declared_at, sub_names}

-- what f gives for each number below n, in order
unfoldable pub for_each : ℕ → (ℕ → List Role) → List Role
for_each zero f = []
for_each (suc n) f = for_each n f ++ f n

abbrev pub link : ℕ → ℕ → ℕ → Link
link t x y = record { topic = t; source = x; target = y }

-- a link from x to y: a replicator at the one, a receiver at the other
unfoldable pub link_roles : ℕ → ℕ → ℕ → List Role
link_roles t x y = if x == y then [] else role.Replicator (link t x y) ∷ role.Receiver (link t x y) ∷ []

unfoldable pub source_roles : Setup → ℕ → ℕ → List Role
source_roles s t x = for_each (length s.clusters) (link_roles t x)

unfoldable pub controller_role : ℕ → ℕ → List Role
controller_role t x = role.Controller t x ∷ []

unfoldable pub dispatcher_role : ℕ → ℕ → ℕ → List Role
dispatcher_role t x n = role.Dispatcher t x n ∷ []

unfoldable pub dispatcher_roles : Setup → ℕ → ℕ → List Role
dispatcher_roles s t x = for_each (length (sub_names s t)) (dispatcher_role t x)

unfoldable pub client_roles : Setup → ℕ → ℕ → List Role
client_roles s t c = if (declared_at s c).topic == t then role.Client c ∷ role.Server t c ∷ [] else []

unfoldable pub topic_roles : Setup → ℕ → List Role
topic_roles s t =
    for_each (length s.clusters) (source_roles s t)
    ++ (for_each (length s.clusters) (controller_role t)
    ++ (for_each (length s.clusters) (dispatcher_roles s t)
    ++ for_each (length s.clients) (client_roles s t)))

abbrev pub roles_of : Setup → List Role
roles_of s = for_each (length s.topics) (topic_roles s)
