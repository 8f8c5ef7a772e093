-- What holds of a pair in the midst of the writes of an event: after each single durable write.
use Rattle.std.proofs.Common.{◌≡◌, ℕ, zero, suc, ◌+◌, ◌<◌, Bool, List, [], ◌∷◌, length, refl, sym, ap, subst, ◌∙◌, arith}
use Rattle.std.specs.Prelude.{Some, if◌then◌else◌, take}
use Rattle.std.proofs.lemmas.Bool.{eq-eqb}
use Rattle.std.proofs.lemmas.List.{get_or-set_other, get_or-set_same}
use Rattle.world_laws.proofs.Types.{Entry, Packet}
use Rattle.world_laws.proofs.Types.write
use Rattle.geo_base.specs.Broker.{Broker, no_broker, replicator_at}
use Rattle.geo_base.specs.Laws.{ArePair}
use Rattle.geo_base.specs.Link.{Link}
use Rattle.geo_base.specs.Plan.{Plan, all_written}
use Rattle.geo_base.specs.Planned.{Planned}
use Rattle.geo_base.specs.Replicator.{Replicator}
use Rattle.geo_base.specs.Setup.{Setup}
use Rattle.geo_base.specs.World.{Back, Forward, World, link_at, node, topic_at}
use Rattle.geo_base.specs.Moments.{partly_written}
use Rattle.world_laws.proofs.OnceInOrder.Appends.{after_writes, written_entries}
use Rattle.world_laws.proofs.Replicating.Effects.{all_written_replicator, each_take, replicator_after}
use Rattle.geo_base.specs.Safe.{AllOnce}
use Rattle.world_laws.proofs.Replicating.PairEvents.{source_role, target_extends, target_role}
use Rattle.world_laws.proofs.Replicating.PairFacts.{Carried, carried_far, carried_grew}
use Rattle.world_laws.proofs.Replicating.PairRoles.{AtSource, PairIn, shape_within}
use Rattle.world_laws.proofs.Replicating.PairWorlds.{Role, apart, role_of}
use Rattle.world_laws.proofs.Replicating.ReceiverSide.{extends_begins, extends_take, stands_after}
use Rattle.world_laws.proofs.Replicating.ReplicatorSide.{Facts, OkWrite, all_ok_written, none_written}
use Rattle.world_laws.proofs.Walks.Shapes.{Shape}
use Rattle.world_laws.proofs.Replicating.Sizes.{IsThere, Sized, node_there}

-- what each durable write keeps, of two brokers
abbrev pub Between : ℕ → ℕ → Broker → Broker → Link → List Packet → Type 0
Between x y a b f back = Carried x y a.entries (replicator_at a y).cursor b.entries f.sent back

between_moved : (x y : ℕ) (a a' b b' : Broker) (f : Link) (back : List Packet) → a' ≡ a → b' ≡ b → Between x y a b f back → Between x y a' b' f back
between_moved x y a a' b b' f back p q h =
    subst (λ (c : Broker). Between x y a' c f back) (sym q) (subst (λ (c : Broker). Between x y c b f back) (sym p) h)

-- at the source
between_source : (x y per k : ℕ) (a b : Broker) (f : Link) (back : List Packet) (p : Plan) → y < length a.replicators → AtSource x y per a b f back p
    → Facts x y a b f back → Between x y (all_written per a (take k p.writes)) b f back
between_source x y per k a b f back p lt (AtSource.Works ok does) facts =
    let ws = take k p.writes in let s = replicator_at a y in
    let C : List Entry → Replicator → Type 0 = λ es t. Carried x y es t.cursor b.entries f.sent back in
    let h = all_ok_written x y a.entries b.entries s a.entries s ws (each_take (OkWrite x y a.entries b.entries) k p.writes ok) (none_written x y a.entries b.entries s) in
    let c = carried_grew x y a.entries b.entries s.cursor (after_writes a.entries ws) (replicator_after y s ws).cursor f.sent back h.grew facts.carried in
    subst (λ (es : List Entry). C es (replicator_at (all_written per a ws) y)) (sym (written_entries per a ws))
    (subst (C (after_writes a.entries ws)) (sym (all_written_replicator per a y ws lt)) c)
between_source x y per k a b f back p lt (AtSource.Resets h is) facts =
    let n = (replicator_at a y).session + 1 in
    let P : Plan → Type 0 = λ p. Between x y (all_written per a (take k p.writes)) b f back in subst P (sym is) (by k n)
  where
    C : Replicator → Type 0
    C t = Carried x y a.entries t.cursor b.entries f.sent back

    one : (n : ℕ) → Between x y (all_written per a (write.SessionNumber y n ∷ [])) b f back
    one n =
        let s = replicator_at a y in
        let e = all_written_replicator per a y (write.SessionNumber y n ∷ []) lt ∙ ap (λ (t : Bool). if t then record s { session = n } else s) (eq-eqb y y refl) in
        subst C (sym e) facts.carried

    by : (k n : ℕ) → Between x y (all_written per a (take k (write.SessionNumber y n ∷ []))) b f back
    by zero n = facts.carried
    by (suc zero) n = one n
    by (suc (suc k)) n = one n

-- in a world
abbrev WrittenAt : Setup → World → ℕ → Planned → ℕ → ℕ → ℕ → Type 0
WrittenAt s w k p t x y =
    let w' = partly_written s w k (Some p) in
    Between x y (topic_at s w' t x) (topic_at s w' t y) (link_at w.links (Forward (node s t x) y)) (link_at w.links (Back (node s t x) y)).sent

written_source : (s : Setup) (w : World) (k : ℕ) (p : Planned) (y : ℕ) → Shape s w p → Sized s w → IsThere s p.topic p.cluster → y < length s.clusters
    → (p.cluster ≡ y → ⊥) → PairIn s w p.topic p.cluster y → WrittenAt s w k p p.topic p.cluster y
written_source s w k p y shape z there ly other facts =
    let n = node s p.topic p.cluster in let a = topic_at s w p.topic p.cluster in
    let f = link_at w.links (Forward n y) in let back = (link_at w.links (Back n y)).sent in
    let wide : y < length a.replicators = omega (arith, ly, (z.wide p.topic p.cluster there).replicators) in
    between_moved p.cluster y (all_written s.per_ledger a (take k p.plan.writes)) _ (topic_at s w p.topic y) _ f back
    (get_or-set_same w.brokers n _ no_broker (node_there s w p.topic p.cluster z there))
    (get_or-set_other w.brokers n (node s p.topic y) _ no_broker (λ is. apart s p.topic p.cluster y there.1 ly other (sym is)))
    (between_source p.cluster y s.per_ledger k a (topic_at s w p.topic y) f back p.plan wide (source_role s w p shape y other wide facts) facts)

written_target : (s : Setup) (w : World) (k : ℕ) (p : Planned) (x : ℕ) → Shape s w p → AllOnce w → Sized s w → IsThere s p.topic p.cluster → x < length s.clusters
    → (p.cluster ≡ x → ⊥) → PairIn s w p.topic x p.cluster → WrittenAt s w k p p.topic x p.cluster
written_target s w k p x shape once z there lx other facts =
    let n = node s p.topic p.cluster in let i = node s p.topic x in let y = p.cluster in
    let b = topic_at s w p.topic p.cluster in let a = topic_at s w p.topic x in let ws = take k p.plan.writes in
    let f = link_at w.links (Forward i y) in let back = (link_at w.links (Back i y)).sent in
    let wide : x < length b.receivers = omega (arith, lx, (z.wide p.topic p.cluster there).receivers) in
    let extends = extends_take x y a.entries b.entries k p.plan.writes (target_extends s w p x a back (once i) wide (target_role s w p shape x lx other) facts) in
    let C : List Entry → Type 0 = λ es. Carried x y a.entries (replicator_at a y).cursor es f.sent back in
    let c = carried_far x y a.entries (replicator_at a y).cursor b.entries (after_writes b.entries ws) f.sent back
    (extends_begins x y a.entries b.entries ws extends facts.carried.begins) (stands_after b.entries ws) facts.carried in
    between_moved x y a _ (all_written s.per_ledger b ws) _ f back
    (get_or-set_other w.brokers n i _ no_broker (λ is. apart s p.topic p.cluster x there.1 lx other (sym is)))
    (get_or-set_same w.brokers n _ no_broker (node_there s w p.topic p.cluster z there)) (subst C (sym (written_entries s.per_ledger b ws)) c)

pub pair_written : (s : Setup) (w : World) (k : ℕ) (p : Planned) (t x y : ℕ) → Shape s w p → AllOnce w → Sized s w → t < length s.topics → ArePair s x y → PairIn s w t x y
    → WrittenAt s w k p t x y
pair_written s w k p t x y shape once z lt pair = by (role_of s p t x y within pair.0 pair.1)
  where
    within : p.cluster < length s.clusters
    within = shape_within s w p shape

    by : Role s p t x y → PairIn s w t x y → WrittenAt s w k p t x y
    by (Role.Source e f) =
        let G : ℕ → ℕ → Type 0 = λ t x. t < length s.topics → (x ≡ y → ⊥) → PairIn s w t x y → WrittenAt s w k p t x y in
        let h : G p.topic p.cluster = λ lt other facts. written_source s w k p y shape z (lt, within) pair.1 other facts in
        (subst (λ (n : ℕ). G n x) (sym e) (subst (G p.topic) (sym f) h)) lt pair.2
    by (Role.Target e f) =
        let G : ℕ → ℕ → Type 0 = λ t y. t < length s.topics → (x ≡ y → ⊥) → PairIn s w t x y → WrittenAt s w k p t x y in
        let h : G p.topic p.cluster = λ lt other facts. written_target s w k p x shape once z (lt, within) pair.0 (λ is. other (sym is)) facts in
        (subst (λ (n : ℕ). G n y) (sym e) (subst (G p.topic) (sym f) h)) lt pair.2
    by (Role.Elsewhere other other') = λ facts.
        between_moved x y (topic_at s w t x) _ (topic_at s w t y) _ (link_at w.links (Forward (node s t x) y)) (link_at w.links (Back (node s t x) y)).sent
        (get_or-set_other w.brokers (node s p.topic p.cluster) (node s t x) _ no_broker (λ is. other (sym is)))
        (get_or-set_other w.brokers (node s p.topic p.cluster) (node s t y) _ no_broker (λ is. other' (sym is))) facts.carried
