-- Replicators written one after the other.
use Rattle.std.proofs.Common.{◌≡◌, ℕ, zero, suc, ◌+◌, ◌<◌, ◌≤◌, ◌==◌, List, [], ◌∷◌, ◌++◌, length, get_or, drop, refl, sym, ap, ◌∙◌, append_assoc, arith}
use Rattle.std.specs.Prelude.{if◌then◌else◌}
use Rattle.std.proofs.lemmas.List.{append-nil}
use Rattle.geo_base.specs.Replicator.{Replicator}
use Rattle.durable_parts.specs.declared.durable.DurableReplicator.{DurableReplicator}
use Rattle.durable_parts.specs.Parts.{replicator_of, replicators_of}
use Rattle.state_nodes.specs.Replicators.{replicator_text, replicators_from}

-- the text of a place
abbrev at_place : ℕ → ℕ → ℕ → Replicator → List ℕ
at_place n own y s = if y == own then [] else replicator_text n s

next_row : (n own : ℕ) (ss : List DurableReplicator) (k y : ℕ) (d : DurableReplicator) → k < length ss → replicators_from n own y (drop k (replicators_of ss)) ≡ at_place n own y (replicator_of (get_or ss k d)) ++ replicators_from n own (y + 1) (drop (suc k) (replicators_of ss))
next_row n own [] k y d lt = absurd (omega (arith, lt))
next_row n own (s ∷ ss) zero y d lt = refl
next_row n own (s ∷ ss) (suc k) y d lt = next_row n own ss k y d (omega (arith, lt))

pub replicators_step : (n own : ℕ) (ss : List DurableReplicator) (k : ℕ) (d : DurableReplicator) (out new total : List ℕ) → k < length ss → out ++ replicators_from n own k (drop k (replicators_of ss)) ≡ total
    → new ≡ out ++ (if k == own then [] else replicator_text n (replicator_of (get_or ss k d))) → new ++ replicators_from n own (k + 1) (drop (k + 1) (replicators_of ss)) ≡ total
replicators_step n own ss k d out new total lt so_far e =
    let rest : List ℕ = replicators_from n own (k + 1) (drop (suc k) (replicators_of ss)) in
    let next : k + 1 ≡ suc k = omega arith in
    ap (λ (i : ℕ). new ++ replicators_from n own (k + 1) (drop i (replicators_of ss))) next
    ∙ ap (λ (x : List ℕ). x ++ rest) e
    ∙ append_assoc out (at_place n own k (replicator_of (get_or ss k d))) rest
    ∙ ap (λ (x : List ℕ). out ++ x) (sym (next_row n own ss k k d lt))
    ∙ so_far

none_left : (ss : List DurableReplicator) (k : ℕ) → length ss ≤ k → drop k (replicators_of ss) ≡ []
none_left [] zero le = refl
none_left [] (suc k) le = refl
none_left (s ∷ ss) zero le = absurd (omega (arith, le))
none_left (s ∷ ss) (suc k) le = none_left ss k (omega (arith, le))

pub replicators_end : (n own : ℕ) (ss : List DurableReplicator) (k : ℕ) (out total : List ℕ) → length ss ≤ k → out ++ replicators_from n own k (drop k (replicators_of ss)) ≡ total → out ≡ total
replicators_end n own ss k out total le so_far =
    sym (append-nil out) ∙ ap (λ (xs : List Replicator). out ++ replicators_from n own k xs) (sym (none_left ss k le)) ∙ so_far
