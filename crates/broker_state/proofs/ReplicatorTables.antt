-- A broker's replicators, seen without their room.
use Rattle.std.proofs.Common.{◌≡◌, ℕ, ◌+◌, ◌-◌, ◌≤◌, ◌<◌, List, [], ◌∷◌, ◌++◌, length, set, get_or, map, refl, sym, ◌∙◌, ap, arith, inl, inr}
use Rattle.std.specs.Prelude.{take}
use Rattle.std.proofs.lemmas.Grind.{common_steps}
use Rattle.std.proofs.Math.Seq.{get_or-append_seam, map-set_same}
use Rattle.std.proofs.lemmas.Bool.{cases_lt}
use Rattle.std.proofs.lemmas.List.{map-append, map-set, get_or-map, get_or_append_left, length-append, length-map}
use Rattle.durable_parts.specs.Parts as durable
use Rattle.durable_parts.specs.declared.durable.DurableReplicator.{DurableReplicator}
use Rattle.geo_base.specs.Replicator.{Replicator, replicator_restarted}
use Rattle.broker_state.specs.Replicators.{AllHaveRoom, AreOf, Ends, ReplicatorRowView, TableHolds, ends_of, ends_to, row_restarted, replicators_of}

pub replicators_of_set : (rs : List ReplicatorRowView) (y : ℕ) (r : ReplicatorRowView) → replicators_of (set rs y r) ≡ set (replicators_of rs) y r.replicator
replicators_of_set rs y r = map-set (λ (r : ReplicatorRowView). r.replicator) rs y r

pub replicator_of : (rs : List ReplicatorRowView) (y : ℕ) (d : ReplicatorRowView) (e : Replicator) → y < length rs → get_or (replicators_of rs) y e ≡ (get_or rs y d).replicator
replicator_of rs y d e h = get_or-map (λ (r : ReplicatorRowView). r.replicator) rs y d e h

pub length_replicators_of : (rs : List ReplicatorRowView) → length (replicators_of rs) ≡ length rs
length_replicators_of rs = length-map rs (λ (r : ReplicatorRowView). r.replicator)

pub restarted_replicators : (rs : List ReplicatorRowView) → replicators_of (map row_restarted rs) ≡ map replicator_restarted (replicators_of rs)
restarted_replicators [] = refl
restarted_replicators (r ∷ rs) = ap (λ (ss : List Replicator). replicator_restarted r.replicator ∷ ss) (restarted_replicators rs)

-- ---- each is of the replicator of its place

more_of : (own : ℕ) (es : List Ends) (e : Ends) → AreOf own es → e ≡ ends_to own (length es) → AreOf own (es ++ e ∷ [])
more_of own es e are is = record {
  each = λ k d lt. elim (cases_lt k (length es)) [
    | inl before ↦ get_or_append_left es (e ∷ []) d k before ∙ are.each k d before
    | inr past ↦
        let last : k ≡ length es = omega (arith, past, lt, length-append es (e ∷ [])) in
        rw last (get_or-append_seam es e [] d ∙ is)
  ];
}

pub ends_none : (own : ℕ) (rs : List ReplicatorRowView) → rs ≡ [] → AreOf own (ends_of rs)
ends_none own rs none = rw none (record { each = λ k d lt. absurd (omega arith) })

pub ends_pushed : (own remote : ℕ) (rs new : List ReplicatorRowView) (r : ReplicatorRowView) → AreOf own (ends_of rs) → new ≡ rs ++ r ∷ [] → r.ends ≡ ends_to own remote → remote ≡ length rs → AreOf own (ends_of new)
ends_pushed own remote rs new r are pushed is at =
    rw (pushed, map-append (λ (r : ReplicatorRowView). r.ends) rs (r ∷ []))
    (more_of own (ends_of rs) r.ends are (is ∙ ap (λ (n : ℕ). ends_to own n) (at ∙ sym (length-map rs (λ (r : ReplicatorRowView). r.ends)))))

pub ends_at : (own : ℕ) (rs : List ReplicatorRowView) (k : ℕ) (d : ReplicatorRowView) → AreOf own (ends_of rs) → k < length rs → (get_or rs k d).ends ≡ ends_to own k
ends_at own rs k d are lt =
    sym (get_or-map (λ (r : ReplicatorRowView). r.ends) rs k d d.ends lt) ∙ are.each k d.ends (omega (arith, lt, length-map rs (λ (r : ReplicatorRowView). r.ends)))

pub ends_set : (own : ℕ) (rs : List ReplicatorRowView) (k : ℕ) (r d : ReplicatorRowView) → AreOf own (ends_of rs) → r.ends ≡ (get_or rs k d).ends → AreOf own (ends_of (set rs k r))
ends_set own rs k r d are same = rw (map-set_same (λ (r : ReplicatorRowView). r.ends) rs k r d same) are

pub same_ends : (own : ℕ) (rs new : List ReplicatorRowView) → ends_of new ≡ ends_of rs → AreOf own (ends_of rs) → AreOf own (ends_of new)
same_ends own rs new same are = rw same are

restarted_ends : (rs : List ReplicatorRowView) → ends_of (map row_restarted rs) ≡ ends_of rs
restarted_ends [] = refl
restarted_ends (r ∷ rs) = ap (λ (es : List Ends). r.ends ∷ es) (restarted_ends rs)

pub restarted_room : (room : ℕ) (rs : List ReplicatorRowView) → AllHaveRoom room rs → AllHaveRoom room (map row_restarted rs)
restarted_room room rs h = record {
  each = λ k d n.
      let within : k < length rs = omega (arith, n, length-map rs row_restarted) in
      rw (get_or-map row_restarted rs k d d within) (h.each k d within);
}

pub restarted_holds : (own room spare : ℕ) (rs : List ReplicatorRowView) → TableHolds own room spare rs → TableHolds own room spare (map row_restarted rs)
restarted_holds own room spare rs h = record {
  asked = h.asked;
  all = restarted_room spare rs h.all;
  ends = rw (restarted_ends rs) h.ends;
}

-- ---- a step of one, which takes so many places

pub stepped_holds : (own room spare places k : ℕ) (rs : List ReplicatorRowView) (r d : ReplicatorRowView) → TableHolds own room spare rs → k < length rs → places ≤ room
    → (get_or rs k d).room ≤ r.room + places → r.ends ≡ (get_or rs k d).ends → TableHolds own (room - places) (spare - places) (set rs k r)
stepped_holds own room spare places k rs r d h lt few left same = record {
  asked = omega (arith, h.asked, few);
  all = record { each = λ n e within. grind (arith, common_steps, h.all.each n e, h.all.each k d lt, left, few, within) };
  ends = ends_set own rs k r d h.ends same;
}

-- ---- one more is made of what is durable

pub one_restored : (rs : List ReplicatorRowView) (r : ReplicatorRowView) (d : DurableReplicator) (ds : List DurableReplicator) → r.replicator ≡ durable.replicator_of d
    → replicators_of (rs ++ r ∷ []) ++ durable.replicators_of ds ≡ replicators_of rs ++ durable.replicators_of (d ∷ ds)
one_restored [] r d ds is = ap (λ (s : Replicator). s ∷ durable.replicators_of ds) is
one_restored (x ∷ rs) r d ds is = ap (λ (ss : List Replicator). x.replicator ∷ ss) (one_restored rs r d ds is)

pub left_whole : (n : ℕ) (xs ys : List ReplicatorRowView) → length xs ≡ n → take n (xs ++ ys) ≡ xs
left_whole n xs ys e = grind (arith, common_steps)
