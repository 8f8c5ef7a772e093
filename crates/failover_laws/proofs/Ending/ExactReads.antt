-- What a read of another cluster's entry plans, exactly: a shape forgets what was skipped.
use Rattle.std.proofs.Common.{◌≡◌, ◌<◌, Bool, true, false, length, refl, sym, ap, ◌∙◌, ◌==◌, not, ℕ}
use Rattle.std.specs.Prelude.{Option, Some, None, ◌&&◌, nat_lt, slice_get}
use Rattle.std.proofs.lemmas.Bool.{eqb-true, lt-ltb}
use Rattle.world_laws.proofs.Types.{Entry}
use Rattle.world_laws.proofs.Types.event
use Rattle.geo_base.specs.Broker.{Broker, Site, replicator_at}
use Rattle.geo_base.specs.Entry.{goes_to}
use Rattle.geo_base.specs.Forwarding.{is_remote}
use Rattle.geo_base.specs.Laws.{ArePair}
use Rattle.geo_base.specs.Markers.{read_content}
use Rattle.geo_base.specs.Plan.{Plan, idle_plan}
use Rattle.geo_base.specs.Planned.{Planned, in_range, planned, planned_in}
use Rattle.geo_base.specs.Reading.{forwards, read, read_at, read_entry}
use Rattle.geo_base.specs.Replicator.{index_to_read}
use Rattle.geo_base.specs.Setup.{Setup}
use Rattle.geo_base.specs.World.{LinkName, World, site, topic_at}
use Rattle.world_laws.proofs.Replicating.Prefixes.{is_of}
use Rattle.world_laws.proofs.Walks.Walk.{both, on_false, on_true}
use Rattle.failover_laws.proofs.Acting.ActingOn.{NextIs}
use Rattle.failover_laws.proofs.Ending.Became.{at_node}

not_mine : (y own origin : ℕ) (goes : Bool) → (y ≡ own → ⊥) → (origin == y) ≡ true → ((origin == own) && goes) ≡ false
not_mine y own origin goes other of = by (origin == own) refl
  where
    by : (b : Bool) → (origin == own) ≡ b → (b && goes) ≡ false
    by true e = absurd (other (sym (eqb-true origin y of) ∙ eqb-true origin own e))
    by false e = refl

exact_read : (h : Site) (b : Broker) (y i : ℕ) (e : Entry) → is_remote h y ≡ true → (y ≡ h.own → ⊥)
    → index_to_read (replicator_at b y).state (replicator_at b y) (length b.entries) ≡ Some i → slice_get b.entries i ≡ Some e → is_of y e ≡ true
    → read h b y ≡ read_content h b y i e.content
unfolding read
exact_read h b y i e far other next at of =
    on_true (is_remote h y) (read_at h b y (index_to_read (replicator_at b y).state (replicator_at b y) (length b.entries))) _ far ∙ ap (read_at h b y) next ∙ ap (read_entry h b y i) at
    ∙ on_false ((e.ident.origin == h.own) && goes_to y e.to) (forwards h y (replicator_at b y) i e) _ (not_mine y h.own e.ident.origin (goes_to y e.to) other of)
    ∙ on_true (e.ident.origin == y) (read_content h b y i e.content) _ of

far_from : (s : Setup) (t x y : ℕ) → ArePair s x y → is_remote (site s t x) y ≡ true
far_from s t x y pair = both (nat_lt y (length s.clusters)) (not (y == x)) (lt-ltb y (length s.clusters) pair.1) (by (y == x) refl)
  where
    by : (b : Bool) → (y == x) ≡ b → not b ≡ true
    by true e = absurd (pair.2 (sym (eqb-true y x e)))
    by false e = refl

ranged : (s : Setup) (t x y : ℕ) → t < length s.topics → ArePair s x y → in_range s (event.Read t x y) ≡ true
ranged s t x y lt pair =
    both (nat_lt t (length s.topics) && nat_lt x (length s.clusters)) (nat_lt y (length s.clusters))
    (both (nat_lt t (length s.topics)) (nat_lt x (length s.clusters)) (lt-ltb t (length s.topics) lt) (lt-ltb x (length s.clusters) pair.0)) (lt-ltb y (length s.clusters) pair.1)

planned_read : (s : Setup) (w : World) (t x y : ℕ) → t < length s.topics → ArePair s x y
    → planned s w (event.Read t x y) ≡ Some (at_node t x None (read (site s t x) (topic_at s w t x) y))
unfolding planned
planned_read s w t x y lt pair = on_true (in_range s (event.Read t x y)) (planned_in s w (event.Read t x y)) None (ranged s t x y lt pair)

abbrev plan_or : Option Planned → Plan
plan_or None = idle_plan
plan_or (Some p) = p.plan

-- the plan of a read of an entry of y
pub reads_it : (s : Setup) (w : World) (t x y i : ℕ) (e : Entry) (k : Option LinkName) (p : Plan) → t < length s.topics → ArePair s x y → NextIs s w t x y i
    → slice_get (topic_at s w t x).entries i ≡ Some e → is_of y e ≡ true → planned s w (event.Read t x y) ≡ Some (at_node t x k p)
    → p ≡ read_content (site s t x) (topic_at s w t x) y i e.content
reads_it s w t x y i e k p lt pair next at of is =
    ap plan_or (sym is ∙ planned_read s w t x y lt pair)
    ∙ exact_read (site s t x) (topic_at s w t x) y i e (far_from s t x y pair) (λ same. pair.2 (sym same)) next at of
