-- What holds of each part holds of the one at a place.
use Rattle.std.proofs.Common.{ℕ, ◌<◌, List, length, get_or, subst, arith}
use Rattle.std.specs.List.{All}
use Rattle.std.proofs.lemmas.List.{get_or-map, length-map}
use Rattle.cursor_acks.specs.Acks.{AreBelow}
use Rattle.geo_base.specs.Replicator.{Replicator}
use Rattle.geo_base.specs.Subscription.{Subscription}
use Rattle.durable_parts.specs.declared.durable.DurableReplicator.{DurableReplicator}
use Rattle.durable_parts.specs.declared.durable.DurableSub.{DurableSub}
use Rattle.durable_parts.specs.Parts.{replicator_of, replicators_of, sub_of, subs_of}

pub sub_below : (n : ℕ) (ss : List DurableSub) (k : ℕ) (d : DurableSub) → All (λ (x : Subscription). AreBelow n x.cursor) (subs_of ss) → k < length ss → AreBelow n (get_or ss k d).cursor.indexes
sub_below n ss k d h lt =
    subst (λ (x : Subscription). AreBelow n x.cursor) (get_or-map sub_of ss k d (sub_of d) lt) (h k (sub_of d) (omega (arith, length-map ss sub_of, lt)))

pub replicator_below : (n : ℕ) (ss : List DurableReplicator) (k : ℕ) (d : DurableReplicator) → All (λ (x : Replicator). AreBelow n x.cursor) (replicators_of ss) → k < length ss → AreBelow n (get_or ss k d).cursor.indexes
replicator_below n ss k d h lt =
    subst (λ (x : Replicator). AreBelow n x.cursor) (get_or-map replicator_of ss k d (replicator_of d) lt) (h k (replicator_of d) (omega (arith, length-map ss replicator_of, lt)))
