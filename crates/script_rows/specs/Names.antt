-- What a line may name.
use Rattle.std.specs.Prelude.{ℕ, ◌==◌, true, false, if◌then◌else◌, List, [], ◌∷◌, ◌++◌, length, filter, slice_index_or, slice_set}
use Rattle.script_rows.specs.declared.names.Member.{Member}
use Rattle.script_rows.specs.NameBytes.{is_among, number_in}
use Rattle.script_rows.specs.NameWords.{Word}
use Rattle.script_rows.specs.declared.column.Role.{Role}
use Rattle.script_rows.specs.declared.column.Role.TheVariants as role

-- what the lines so far declare by name: clusters, topics and clients in their order, what is known of each client, and the
-- subscriptions of each topic
pub record Names : Type 0 where
  pub clusters : List Word
  pub topics : List Word
  pub clients : List Word
  pub members : List Member
  pub subs : List (List Word)

-- a client that is not declared has no topic
abbrev pub stranger : Names → Member
stranger n = record { topic = length n.topics; produces = false; moves = false }

abbrev pub member_of : Names → Word → Member
member_of n w = slice_index_or n.members (number_in n.clients w) (stranger n)

-- how many clients a topic has
abbrev pub count_of : Names → ℕ → ℕ
count_of n t = length (filter (λ (m : Member). m.topic == t) n.members)

abbrev pub subs_of : Names → ℕ → List Word
subs_of n t = slice_index_or n.subs t []

-- what the words before in a line named: the number of its topic, a cluster, and how many packets of a thousand are lost
pub record Seen : Type 0 where
  pub topic : ℕ
  pub cluster : Word
  pub lost : ℕ

-- before the first word nothing was named
abbrev pub nothing_seen : Seen
nothing_seen = record { topic = 0; cluster = []; lost = 0 }

-- ---- one more name
abbrev pub with_cluster : Names → Word → Names
with_cluster n w = record n { clusters = n.clusters ++ w ∷ [] }

abbrev pub with_topic : Names → Word → Names
with_topic n w = record n { topics = n.topics ++ w ∷ []; subs = n.subs ++ [] ∷ [] }

abbrev pub new_member : ℕ → Member
new_member t = record { topic = t; produces = false; moves = false }

abbrev pub with_client : Names → Word → ℕ → Names
with_client n w t = record n { clients = n.clients ++ w ∷ []; members = n.members ++ new_member t ∷ [] }

abbrev pub member_at : Names → ℕ → Member
member_at n c = slice_index_or n.members c (stranger n)

abbrev pub in_role : Member → Role → Member
in_role m role.Producer = record m { produces = true }
in_role m role.Mover = record m { moves = true }
in_role m role.Plain = m

abbrev pub with_role : Names → ℕ → Role → Names
with_role n c r = record n { members = slice_set n.members c (in_role (member_at n c) r) }

-- a topic's subscriptions, each once
abbrev pub with_sub : Names → ℕ → Word → Names
with_sub n t w =
    if is_among (subs_of n t) w then n else record n { subs = slice_set n.subs t (subs_of n t ++ w ∷ []) }
