-- An accepted line of an entry keeps all that is kept.
use Rattle.std.proofs.Common.{◌≡◌, ℕ, ◌+◌, ◌<◌, true, List, [], ◌∷◌, length, sym, ap, subst, ◌∙◌, ◌==◌, inl, inr}
use Rattle.std.specs.Prelude.{Option, Some, None, slice_get}
use Rattle.std.proofs.lemmas.Bool.{eq-eqb, eqb-true}
use Rattle.world_laws.proofs.Types.{ClusterPosition, Entry, Position}
use Rattle.world_laws.proofs.Types.content
use Rattle.world_laws.proofs.Types.marker
use Rattle.geo_base.specs.Settled.{SettledSoFar}
use Rattle.geo_base.specs.Setup.{Setup}
use Rattle.geo_base.specs.Topic.{accepts}
use Rattle.world_laws.proofs.OnceInOrder.Members.{get_left, get_push}
use Rattle.world_laws.proofs.OnceInOrder.Once.{once_push}
use Rattle.world_laws.proofs.Replicating.Sizes.{IsThere}
use Rattle.world_laws.proofs.Walks.Walk.{by_test}
use Rattle.geo_base.specs.TraceItems.{Appends, Writes}
use Rattle.geo_base.specs.Mirror.{Mirror, Mirrors, acted, mirror_at, told}
use Rattle.geo_base.specs.Audit.{act_refused, is_brought, may_snapshot, may_stand, may_update, unless_broken, is_above}
use Rattle.trace_laws.proofs.Kept.{IsCutIn, Kept, TellsSettled, TopicKept, all_lengths, appended_longer, cut_grows, tells_grows, with_topic}
use Rattle.trace_laws.proofs.Refusals.{not_broken, or_true}
use Rattle.trace_laws.proofs.SnapshotLines.{snapshot_cuts}
use Rattle.trace_laws.proofs.UpdateLines.{brought_update, own_update}
use Rattle.geo_base.proofs.Lists.{length_push}

pub appends_kept : (s : Setup) (a : Mirrors) (settled : SettledSoFar) (t x : ℕ) (p : Position) (e : Entry) (by_position : Option Position) → IsThere s t x → e.ident.origin < length s.clusters
    → Kept s a settled → act_refused s a t x (mirror_at s a t x) (Appends p e by_position) ≡ None → Kept s (told s a (Writes t x (Appends p e by_position))) settled
appends_kept s a settled t x p e by_position there small kept h =
    with_topic s a settled settled t x m' there kept (appended_longer m p e m.subs) (λ u n f k. k) (λ grown. record {
      lengths = length_push m.positions p ∙ (ap (λ (k : ℕ). k + 1) old.lengths ∙ sym (length_push m.entries e));
      origins = λ i f at. elim (get_push m.entries e i f at) [ inl o ↦ old.origins i f o.1 | inr n ↦ subst (λ (z : Entry). z.ident.origin < length s.clusters) n.1 small ];
      once = once_push m.entries e old.once new.1.0;
      only = λ k v at i inside. let o = old.only k v at i inside in (o.0, new_at i o.0 o.1, o.2);
      snapshots = λ i f id local remote at of is. cut_grows s a _ t x local remote lengths grown there (snapshots i f id local remote at of is);
      updates = λ i f n remote at is. tells_grows s a _ settled settled t f.ident.origin n remote lengths grown (λ u n f k. k) there.0 (updates i f n remote at is);
    })
  where
    m : Mirror
    m = mirror_at s a t x

    m' : Mirror
    m' = acted m (Appends p e by_position)

    old : TopicKept s a settled t x m
    old = kept.topics t x there

    lengths : (u v : ℕ) → IsThere s u v → length (mirror_at s a u v).positions ≡ length (mirror_at s a u v).entries
    lengths = all_lengths s a settled kept

    -- rules 2 to 6 hold
    new : Unit {0} × ((accepts m.entries e.ident ≡ true) × (may_stand s a t x e ≡ true) × (may_snapshot s a t x e e.content ≡ true) × (may_update s m x e by_position e.content ≡ true))
    new =
        let r6 = unless_broken 6 (may_update s m x e by_position e.content) None in let r5 = unless_broken 5 (may_snapshot s a t x e e.content) r6 in
        let r4 = unless_broken 4 (may_stand s a t x e) r5 in let r3 = unless_broken 3 (accepts m.entries e.ident) r4 in
        let two = not_broken 2 (is_above m.positions p) r3 h in let three = not_broken 3 (accepts m.entries e.ident) r4 two.1 in
        let four = not_broken 4 (may_stand s a t x e) r5 three.1 in let five = not_broken 5 (may_snapshot s a t x e e.content) r6 four.1 in
        (tt, (three.0, four.0, five.0, (not_broken 6 (may_update s m x e by_position e.content) None five.1).0))

    new_at : (i : ℕ) (f : Entry) → slice_get m.entries i ≡ Some f → slice_get m'.entries i ≡ Some f
    new_at i f at = get_left m.entries (e ∷ []) i f at

    snapshots : (i : ℕ) (f : Entry) (id : List ℕ) (local : Position) (remote : List ClusterPosition) → slice_get m'.entries i ≡ Some f → f.ident.origin ≡ x
        → f.content ≡ content.Marked (marker.Snapshot id local remote) → IsCutIn s a t x local remote
    snapshots i f id local remote at of is =
        elim (get_push m.entries e i f at) [
          | inl o ↦ old.snapshots i f id local remote o.1 of is
          | inr n ↦
              let own = eq-eqb e.ident.origin x (ap (λ (z : Entry). z.ident.origin) n.1 ∙ of) in
              snapshot_cuts s a t x e id local remote new.1.2 own (ap (λ (z : Entry). z.content) n.1 ∙ is)
        ]

    told_new : (n : List ℕ) (remote : List ClusterPosition) → e.content ≡ content.Marked (marker.Update n remote) → TellsSettled s a settled t e.ident.origin n remote
    told_new n remote is =
        by_test (e.ident.origin == x)
        (λ own. subst (λ (z : ℕ). TellsSettled s a settled t z n remote) (sym (eqb-true e.ident.origin x own)) (own_update s a settled t x e by_position n remote old new.1.3 own is))
        (λ other. brought_update s a settled t x e n remote kept there.0 small (or_true (e.ident.origin == x) (is_brought s a t x e) new.1.1 other) is)

    updates : (i : ℕ) (f : Entry) (n : List ℕ) (remote : List ClusterPosition) → slice_get m'.entries i ≡ Some f → f.content ≡ content.Marked (marker.Update n remote)
        → TellsSettled s a settled t f.ident.origin n remote
    updates i f n remote at is =
        elim (get_push m.entries e i f at) [
          | inl o ↦ old.updates i f n remote o.1 is
          | inr l ↦ subst (λ (z : Entry). TellsSettled s a settled t z.ident.origin n remote) l.1 (told_new n remote (ap (λ (z : Entry). z.content) l.1 ∙ is))
        ]
