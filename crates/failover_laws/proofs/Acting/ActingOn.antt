-- An update that a replicator acknowledges it has acted on: its index comes into the cursor by the read of it alone.
use Rattle.std.proofs.Common.{◌≡◌, ℕ, ◌<◌, Bool, true, false, length, refl, sym, ap, subst, ◌∙◌, ◌==◌, arith}
use Rattle.std.specs.Prelude.{Option, Some, None, ◌&&◌, nat_lt, if◌then◌else◌, slice_get, slice_index_or, slice_set, take}
use Rattle.std.proofs.lemmas.Bool.{eq-eqb, eqb-true, false≢true, ltb-true}
use Rattle.std.proofs.lemmas.Option.{none-some, same_Some, slice_get_within}
use Rattle.world_laws.proofs.Types.{Entry, Event}
use Rattle.world_laws.proofs.Types.event
use Rattle.geo_base.specs.Broker.{Broker, no_broker, replicator_at}
use Rattle.geo_base.specs.Client.{Acted}
use Rattle.geo_base.specs.Cursor.{has}
use Rattle.geo_base.specs.Entry.{goes_to}
use Rattle.geo_base.specs.Happening.{broker_does, broker_halts, client_does, does_planned, halts_planned, happens, stops}
use Rattle.geo_base.specs.Laws.{ArePair}
use Rattle.geo_base.specs.Plan.{done, halted}
use Rattle.geo_base.specs.Planned.{Planned, has_client, in_range, planned, planned_in}
use Rattle.geo_base.specs.Seeking.{restart}
use Rattle.geo_base.specs.Replicator.{index_to_read}
use Rattle.geo_base.specs.Setup.{Setup, sub_name}
use Rattle.geo_base.specs.World.{LinkName, World, broker_at, node, site, topic_at}
use Rattle.world_laws.proofs.Induction.Frames.{at_set}
use Rattle.world_laws.proofs.Replicating.LinkFrames.{same_node}
use Rattle.world_laws.proofs.Replicating.Pairs.{Replicates}
use Rattle.world_laws.proofs.Replicating.Sizes.{IsThere, stopped_at}
use Rattle.world_laws.proofs.Walks.OfferWalk.{offer_shape, seek_shape, snap_shape}
use Rattle.world_laws.proofs.Walks.ReadWalk.{read_shape}
use Rattle.world_laws.proofs.Walks.Walk.{left, on_if, right}
use Rattle.failover_laws.proofs.Acting.Acking.{done_left, dropped_index, halted_left, LeaveIndex, none_awaited, NotAwaited, offers_index, reads_index, receipt_index, reset_index, restart_index, seeks_index, serve_index, snaps_index, take_index, take_leaves_index}

-- ---- what an event does to index i on the replicator of y to a

-- what is planned at y leaves it
abbrev pub IndexLeft : Setup → ℕ → ℕ → ℕ → ℕ → Option Planned → Type 0
IndexLeft s t y a i None = Unit {0}
IndexLeft s t y a i (Some p) = node s p.topic p.cluster ≡ node s t y → LeaveIndex a i p.plan.writes

abbrev pub NextIs : Setup → World → ℕ → ℕ → ℕ → ℕ → Type 0
NextIs s w t y a i = index_to_read (replicator_at (topic_at s w t y) a).state (replicator_at (topic_at s w t y) a) (length (topic_at s w t y).entries) ≡ Some i

-- it leaves it, or is the read of it
pub data Acks (s : Setup) (w : World) (t y a i : ℕ) : Event → Type 0 where
  Leaves : (e : Event) → IndexLeft s t y a i (planned s w e) → Acks s w t y a i e
  ReadsIt : NextIs s w t y a i → Acks s w t y a i (event.Read t y a)

-- what the replicator has
pub record Awaits (s : Setup) (w : World) (t y a i : ℕ) : Type 0 where
  pub there : IsThere s t y
  pub size : a < length (topic_at s w t y).replicators
  pub none : NotAwaited i (replicator_at (topic_at s w t y) a).pending

in_node : (s : Setup) (w : World) (t y a i z k : ℕ) → Awaits s w t y a i → k ≡ node s t y → z ≡ a
    → NotAwaited i (replicator_at (broker_at w k) z).pending × (z < length (broker_at w k).replicators)
in_node s w t y a i z k h same is =
    subst (λ (l : ℕ). NotAwaited i (replicator_at (broker_at w l) z).pending × (z < length (broker_at w l).replicators)) (sym same)
    (subst (λ (c : ℕ). NotAwaited i (replicator_at (topic_at s w t y) c).pending × (c < length (topic_at s w t y).replicators)) (sym is) (h.none, h.size))

-- a read of another node, of another replicator, or of another index
other_read : (s : Setup) (w : World) (t y a i u x z : ℕ)
    → (node s u x ≡ node s t y → z ≡ a → index_to_read (replicator_at (topic_at s w u x) z).state (replicator_at (topic_at s w u x) z) (length (topic_at s w u x).entries) ≡ Some i → ⊥)
    → IndexLeft s t y a i (planned s w (event.Read u x z))
unfolding planned
other_read s w t y a i u x z other =
    on_if (IndexLeft s t y a i) (in_range s (event.Read u x z)) (planned_in s w (event.Read u x z)) None
    (λ same. reads_index a i z (site s u x) (topic_at s w u x) _ (read_shape (site s u x) (topic_at s w u x) z) (λ is next. other same is next)) tt

-- of the very replicator
same_read : (s : Setup) (w : World) (t y a i : ℕ) (o : Option ℕ)
    → index_to_read (replicator_at (topic_at s w t y) a).state (replicator_at (topic_at s w t y) a) (length (topic_at s w t y).entries) ≡ o → Acks s w t y a i (event.Read t y a)
same_read s w t y a i None next = Acks.Leaves _ (other_read s w t y a i t y a (λ same is found. none-some i (sym next ∙ found)))
same_read s w t y a i (Some k) next = by (k == i) refl
  where
    by : (b : Bool) → (k == i) ≡ b → Acks s w t y a i (event.Read t y a)
    by true e = Acks.ReadsIt (next ∙ ap (λ (l : ℕ). Some l) (eqb-true k i e))
    by false e = Acks.Leaves _ (other_read s w t y a i t y a (λ same is found. false≢true (sym e ∙ eq-eqb k i (same_Some k i (sym next ∙ found)))))

in_pair : (s : Setup) (u x z : ℕ) → in_range s (event.Read u x z) ≡ true → x < length s.clusters
in_pair s u x z within =
    let here = left (nat_lt u (length s.topics) && nat_lt x (length s.clusters)) (nat_lt z (length s.clusters)) within in
    ltb-true x (length s.clusters) (right (nat_lt u (length s.topics)) (nat_lt x (length s.clusters)) here)

-- of another node
out_of_range : (s : Setup) (w : World) (t y a i u x z : ℕ) → in_range s (event.Read u x z) ≡ false → IndexLeft s t y a i (planned s w (event.Read u x z))
unfolding planned
out_of_range s w t y a i u x z none = subst (λ (b : Bool). IndexLeft s t y a i (if b then planned_in s w (event.Read u x z) else None)) (sym none) tt

far_read : (s : Setup) (w : World) (t y a i u x z : ℕ) → y < length s.clusters → ((t ≡ u) × (x ≡ y) → z ≡ a → ⊥) → Acks s w t y a i (event.Read u x z)
far_read s w t y a i u x z lt other = Acks.Leaves _ (by (in_range s (event.Read u x z)) refl)
  where
    by : (b : Bool) → in_range s (event.Read u x z) ≡ b → IndexLeft s t y a i (planned s w (event.Read u x z))
    by true within = other_read s w t y a i u x z (λ same is found. let n = same_node s u t x y (in_pair s u x z within) lt same in other (sym n.0, n.1) is)
    by false none = out_of_range s w t y a i u x z none

read_acks : (s : Setup) (w : World) (t y a i u x z : ℕ) → y < length s.clusters → Acks s w t y a i (event.Read u x z)
read_acks s w t y a i u x z lt = by (t == u) (x == y) (z == a) refl refl refl
  where
    by : (b c d : Bool) → (t == u) ≡ b → (x == y) ≡ c → (z == a) ≡ d → Acks s w t y a i (event.Read u x z)
    by true true true e f g =
        subst (λ (k : ℕ). Acks s w t y a i (event.Read k x z)) (eqb-true t u e)
        (subst (λ (k : ℕ). Acks s w t y a i (event.Read t k z)) (sym (eqb-true x y f))
        (subst (λ (k : ℕ). Acks s w t y a i (event.Read t y k)) (sym (eqb-true z a g)) (same_read s w t y a i _ refl)))
    by false c d e f g = far_read s w t y a i u x z lt (λ at is. false≢true (sym e ∙ eq-eqb t u at.0))
    by true false d e f g = far_read s w t y a i u x z lt (λ at is. false≢true (sym f ∙ eq-eqb x y at.1))
    by true true false e f g = far_read s w t y a i u x z lt (λ at is. false≢true (sym g ∙ eq-eqb z a is))

pub event_acks : (s : Setup) (w : World) (t y a i : ℕ) → Awaits s w t y a i → (e : Event) → Acks s w t y a i e
unfolding planned
event_acks s w t y a i h (event.Read u x z) = read_acks s w t y a i u x z h.there.1
event_acks s w t y a i h (event.Receipt u x z f) =
    Acks.Leaves _ (on_if (IndexLeft s t y a i) (in_range s (event.Receipt u x z f)) (planned_in s w (event.Receipt u x z f)) None
    (λ same. receipt_index a i z (site s u x) (topic_at s w u x) f _ (λ is. in_node s w t y a i z (node s u x) h same is)) tt)
event_acks s w t y a i h (event.Serve x c) =
    Acks.Leaves _ (on_if (IndexLeft s t y a i) (in_range s (event.Serve x c)) (planned_in s w (event.Serve x c)) None (λ same. serve_index a i _ _ c _) tt)
event_acks s w t y a i h (event.Drop x c) =
    Acks.Leaves _ (on_if (IndexLeft s t y a i) (in_range s (event.Drop x c)) (planned_in s w (event.Drop x c)) None (λ same. dropped_index a i _ c) tt)
event_acks s w t y a i h (event.Reset u x z) =
    Acks.Leaves _ (on_if (IndexLeft s t y a i) (in_range s (event.Reset u x z)) (planned_in s w (event.Reset u x z)) None (λ same. reset_index a i _ _ z) tt)
event_acks s w t y a i h (event.Take u x z f) =
    Acks.Leaves _ (on_if (IndexLeft s t y a i) (in_range s (event.Take u x z f)) (planned_in s w (event.Take u x z f)) None (λ same. take_index a i _ _ x f _) tt)
event_acks s w t y a i h (event.Snap u x) =
    Acks.Leaves _ (on_if (IndexLeft s t y a i) (in_range s (event.Snap u x)) (planned_in s w (event.Snap u x)) None
    (λ same. snaps_index a i _ _ _ (snap_shape (site s u x) (topic_at s w u x))) tt)
event_acks s w t y a i h (event.Offer u x n) =
    Acks.Leaves _ (on_if (IndexLeft s t y a i) (in_range s (event.Offer u x n)) (planned_in s w (event.Offer u x n)) None
    (λ same. offers_index a i _ _ _ _ (offer_shape (site s u x) (topic_at s w u x) (sub_name s u n))) tt)
event_acks s w t y a i h (event.Seek u x n to) =
    Acks.Leaves _ (on_if (IndexLeft s t y a i) (in_range s (event.Seek u x n to)) (planned_in s w (event.Seek u x n to)) None
    (λ same. seeks_index a i _ _ _ to _ (seek_shape (site s u x) (topic_at s w u x) (sub_name s u n) to)) tt)
event_acks s w t y a i h (event.Restart u x) =
    Acks.Leaves _ (on_if (IndexLeft s t y a i) (in_range s (event.Restart u x)) (planned_in s w (event.Restart u x)) None (λ same. restart_index a i) tt)
event_acks s w t y a i h (event.Go c) = Acks.Leaves _ (on_if (IndexLeft s t y a i) (in_range s (event.Go c)) (planned_in s w (event.Go c)) None tt tt)
event_acks s w t y a i h (event.Get c) = Acks.Leaves _ (on_if (IndexLeft s t y a i) (in_range s (event.Get c)) (planned_in s w (event.Get c)) None tt tt)
event_acks s w t y a i h (event.Reconnect c) = Acks.Leaves _ (on_if (IndexLeft s t y a i) (in_range s (event.Reconnect c)) (planned_in s w (event.Reconnect c)) None tt tt)

-- ---- what leaves it brings it into no cursor

abbrev HasIndex : Broker → ℕ → ℕ → Type 0
HasIndex b a i = has (replicator_at b a).cursor i ≡ true

set_left : (s : Setup) (w : World) (t y a i k : ℕ) (c : Broker) → (k ≡ node s t y → HasIndex c a i → HasIndex (topic_at s w t y) a i)
    → HasIndex (slice_index_or (slice_set w.brokers k c) (node s t y) no_broker) a i → HasIndex (topic_at s w t y) a i
set_left s w t y a i k c h =
    at_set (λ (b : Broker). HasIndex b a i → HasIndex (topic_at s w t y) a i) w.brokers k (node s t y) c no_broker h (λ g. g)

does_left : (s : Setup) (w : World) (t y a i : ℕ) (o : Option Planned) → a < length (topic_at s w t y).replicators → IndexLeft s t y a i o
    → HasIndex (topic_at s (does_planned s w o) t y) a i → HasIndex (topic_at s w t y) a i
unfolding broker_does
does_left s w t y a i None lt l = λ h. h
does_left s w t y a i (Some p) lt l =
    on_if (λ (w' : World). HasIndex (topic_at s w' t y) a i → HasIndex (topic_at s w t y) a i) p.plan.idle _ _ (λ g. g)
    (set_left s w t y a i (node s p.topic p.cluster) (done s.per_ledger (topic_at s w p.topic p.cluster) p.plan)
    (λ same.
    let size = subst (λ (k : ℕ). a < length (broker_at w k).replicators) (sym same) lt in
    subst (λ (k : ℕ). HasIndex (done s.per_ledger (topic_at s w p.topic p.cluster) p.plan) a i → HasIndex (broker_at w k) a i) same
    (done_left s.per_ledger (topic_at s w p.topic p.cluster) a i p.plan size (l same))))

client_left : (s : Setup) (w : World) (t y a i c : ℕ) (k : Option LinkName) (q : Acted) → HasIndex (topic_at s (client_does s w c k q) t y) a i → HasIndex (topic_at s w t y) a i
unfolding client_does
client_left s w t y a i c k q = on_if (λ (w' : World). HasIndex (topic_at s w' t y) a i → HasIndex (topic_at s w t y) a i) q.idle _ _ (λ g. g) (λ g. g)

pub event_left : (s : Setup) (w : World) (t y a i : ℕ) (e : Event) → a < length (topic_at s w t y).replicators → IndexLeft s t y a i (planned s w e)
    → HasIndex (topic_at s (happens s w e) t y) a i → HasIndex (topic_at s w t y) a i
unfolding happens
event_left s w t y a i (event.Go c) lt l =
    on_if (λ (w' : World). HasIndex (topic_at s w' t y) a i → HasIndex (topic_at s w t y) a i) (has_client s c) _ _ (client_left s w t y a i c _ _) (λ g. g)
event_left s w t y a i (event.Reconnect c) lt l =
    on_if (λ (w' : World). HasIndex (topic_at s w' t y) a i → HasIndex (topic_at s w t y) a i) (has_client s c) _ _ (client_left s w t y a i c _ _) (λ g. g)
event_left s w t y a i (event.Get c) lt l =
    on_if (λ (w' : World). HasIndex (topic_at s w' t y) a i → HasIndex (topic_at s w t y) a i) (has_client s c) _ _ (client_left s w t y a i c _ _) (λ g. g)
event_left s w t y a i e lt l = does_left s w t y a i (planned s w e) lt l

-- the first k writes of what is planned
abbrev pub PartLeft : ℕ → Setup → ℕ → ℕ → ℕ → ℕ → Option Planned → Type 0
PartLeft k s t y a i None = Unit {0}
PartLeft k s t y a i (Some p) = node s p.topic p.cluster ≡ node s t y → LeaveIndex a i (take k p.plan.writes)

pub part_left : (k : ℕ) (s : Setup) (t y a i : ℕ) (o : Option Planned) → IndexLeft s t y a i o → PartLeft k s t y a i o
part_left k s t y a i None l = tt
part_left k s t y a i (Some p) l = λ same. take_leaves_index a i k p.plan.writes (l same)

pub halts_left : (s : Setup) (w : World) (t y a i k : ℕ) (o : Option Planned) → a < length (topic_at s w t y).replicators → PartLeft k s t y a i o
    → HasIndex (topic_at s (halts_planned s w k o) t y) a i → HasIndex (topic_at s w t y) a i
unfolding broker_halts
halts_left s w t y a i k None lt l = λ h. h
halts_left s w t y a i k (Some p) lt l =
    set_left s w t y a i (node s p.topic p.cluster) (halted s.per_ledger (topic_at s w p.topic p.cluster) k p.plan)
    (λ same.
    let size = subst (λ (z : ℕ). a < length (broker_at w z).replicators) (sym same) lt in
    subst (λ (z : ℕ). HasIndex (halted s.per_ledger (topic_at s w p.topic p.cluster) k p.plan) a i → HasIndex (broker_at w z) a i) same
    (halted_left s.per_ledger (topic_at s w p.topic p.cluster) a i k p.plan size (l same)))

pub stop_left : (s : Setup) (w : World) (t y a i : ℕ) → node s t y < length w.brokers → a < length (topic_at s w t y).replicators
    → HasIndex (topic_at s (stops s w) t y) a i → HasIndex (topic_at s w t y) a i
unfolding stops
stop_left s w t y a i there lt =
    subst (λ (b : Broker). HasIndex b a i → HasIndex (topic_at s w t y) a i) (sym (stopped_at w.brokers (λ b. done s.per_ledger b restart) (node s t y) there))
    (done_left s.per_ledger (topic_at s w t y) a i restart lt (restart_index a i))

-- ---- what the replicator of y to a awaits is of y

pub not_awaited : (s : Setup) (w : World) (t y a i : ℕ) (e : Entry) → Replicates s w → t < length s.topics → ArePair s y a
    → (i < length (topic_at s w t y).entries → slice_get (topic_at s w t y).entries i ≡ Some e) → e.ident.origin ≡ a → NotAwaited i (replicator_at (topic_at s w t y) a).pending
not_awaited s w t y a i e h lt pair at of =
    none_awaited i (replicator_at (topic_at s w t y) a).pending
    (λ k d stands same.
    let facts = h.pairs t y a lt pair in
    let p = facts.session.pending k d stands in
    let q = facts.carried.sends p.place _ d.number p.entry p.send in
    let within = slice_get_within (topic_at s w t y).entries d.index p.entry p.at in
    let is : p.entry ≡ e = same_Some _ _ (sym p.at ∙ ap (slice_get (topic_at s w t y).entries) same ∙ at (omega (arith, within, same))) in
    let own : p.entry.ident.origin ≡ y = eqb-true p.entry.ident.origin y (left (p.entry.ident.origin == y) (goes_to a p.entry.to) q.out) in
    pair.2 (sym own ∙ ap (λ (f : Entry). f.ident.origin) is ∙ of))
