-- Replicators read one after the other.
use Rattle.std.proofs.Common.{◌≡◌, ℕ, ◌+◌, ◌-◌, ◌<◌, ◌≤◌, ◌==◌, List, [], ◌∷◌, ◌++◌, length, Ok, ap, ◌∙◌, arith}
use Rattle.std.specs.Prelude.{if◌then◌else◌}
use Rattle.std.proofs.lemmas.List.{length-append, map_push}
use Rattle.geo_base.specs.Replicator.{Replicator, new_replicator}
use Rattle.durable_parts.specs.declared.durable.DurableReplicator.{DurableReplicator}
use Rattle.durable_parts.specs.Parts.{replicator_of, replicators_of}
use Rattle.state_items.specs.declared.fault.ItemFault.{ItemFault}
use Rattle.state_items.specs.Reading.{Fails, Read, many}
use Rattle.state_items.proofs.Loops as loops
use Rattle.state_nodes.specs.Replicators.{place_at, replicator_at}

abbrev pub at_cluster : ℕ → ℕ → ℕ → List ℕ → Read Replicator
at_cluster n own y bytes = if y == own then Ok (new_replicator, bytes) else replicator_at n bytes

-- as many were read as clusters are passed, and what is left of them is what is left of all
pub record ReadsOn (n own clusters i : ℕ) (before : List Replicator) (bytes : List ℕ) (total : Read (List Replicator)) : Type 0 where
  pub passed : length before ≡ i
  pub rest : many (place_at n own) (clusters - i) before bytes ≡ total

pub one_more : (n own clusters i : ℕ) (items new : List DurableReplicator) (x : DurableReplicator) (bytes after : List ℕ) (total : Read (List Replicator)) → i < clusters → new ≡ items ++ x ∷ [] → at_cluster n own i bytes ≡ Ok (replicator_of x, after)
    → ReadsOn n own clusters i (replicators_of items) bytes total → ReadsOn n own clusters (i + 1) (replicators_of new) after total
one_more n own clusters i items new x bytes after total lt e h so_far =
    let pushed : replicators_of new ≡ replicators_of items ++ replicator_of x ∷ [] = ap (λ (xs : List DurableReplicator). replicators_of xs) e ∙ map_push replicator_of items x in
    let here : place_at n own (replicators_of items) bytes ≡ Ok (replicator_of x, after) = rw so_far.passed h in
    record {
      passed = ap (λ (xs : List Replicator). length xs) pushed ∙ omega (arith, length-append (replicators_of items) (replicator_of x ∷ []), so_far.passed);
      rest = loops.goes_on (place_at n own) clusters i (replicators_of items) (replicators_of new) bytes (replicator_of x) after total lt pushed here so_far.rest;
    }

pub ends : (n own clusters i : ℕ) (before : List Replicator) (e : ItemFault) (bytes : List ℕ) (total : Read (List Replicator)) → i < clusters → Fails e (at_cluster n own i bytes) → ReadsOn n own clusters i before bytes total → Fails e total
ends n own clusters i before e bytes total lt h so_far =
    let here : Fails e (place_at n own before bytes) = rw so_far.passed h in
    loops.ends (place_at n own) e clusters i before bytes total lt here so_far.rest

pub is_done : (n own clusters i : ℕ) (before : List Replicator) (bytes : List ℕ) (total : Read (List Replicator)) → clusters ≤ i → ReadsOn n own clusters i before bytes total → total ≡ Ok (before, bytes)
is_done n own clusters i before bytes total le so_far = loops.is_done (place_at n own) clusters i before bytes total le so_far.rest
