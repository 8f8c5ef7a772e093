-- A broker's replicators, seen as the machine's.
use Rattle.std.proofs.Common.{◌≡◌, ℕ, zero, suc, ◌<◌, List, ◌∷◌, length, map, set, get_or, replicate, refl, ap}
use Rattle.std.proofs.lemmas.List.{map-set, get_or-map, length-map}
use Rattle.geo_base.specs.Replicator.{Replicator, new_replicator, replicator_restarted}
use Rattle.durable_parts.specs.declared.durable.DurableReplicator.{DurableReplicator}
use Rattle.durable_parts.specs.Parts.{replicator_of, replicators_of}

pub set_replicator : (ss : List DurableReplicator) (y : ℕ) (s : DurableReplicator) → replicators_of (set ss y s) ≡ set (replicators_of ss) y (replicator_of s)
set_replicator ss y s = map-set replicator_of ss y s

pub replicator_there : (ss : List DurableReplicator) (y : ℕ) (d : DurableReplicator) (e : Replicator) → y < length ss → get_or (replicators_of ss) y e ≡ replicator_of (get_or ss y d)
replicator_there ss y d e h = get_or-map replicator_of ss y d e h

pub many_replicators : (ss : List DurableReplicator) → length (replicators_of ss) ≡ length ss
many_replicators ss = length-map ss replicator_of

-- a restart changes nothing of what is new
pub new_restarted : (n : ℕ) → map replicator_restarted (replicate n new_replicator) ≡ replicate n new_replicator
new_restarted zero = refl
new_restarted (suc n) = ap (λ (ss : List Replicator). new_replicator ∷ ss) (new_restarted n)
