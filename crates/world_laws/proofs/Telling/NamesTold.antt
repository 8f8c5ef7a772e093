-- An update names only what is told. That of an old update stays as topics grow, and as more is told. A new one is of a snapshot that
-- the mark-delete of its subscription has passed: what its cut covers elsewhere stands here below the mark-delete, so it is told.
use Rattle.std.proofs.Common.{◌≡◌, ℕ, ◌-◌, ◌<◌, ◌≤◌, Bool, true, false, List, [], ◌∷◌, length, refl, sym, subst, ◌∙◌, ◌==◌, arith, inl, inr}
use Rattle.std.specs.Prelude.{Some, None, nat_lt, slice_get, slice_index_or}
use Rattle.std.proofs.lemmas.Bool.{eq-eqb, eqb-true, false≢true, ltb-true}
use Rattle.std.proofs.lemmas.Bool.Decides.{nat_tests}
use Rattle.std.proofs.lemmas.Option.{none-some, same_Some}
use Rattle.world_laws.proofs.Types.{CachedSnapshot, ClusterPosition, Entry, Position, Write}
use Rattle.world_laws.proofs.Types.content
use Rattle.world_laws.proofs.Types.marker
use Rattle.geo_base.specs.Broker.{Broker}
use Rattle.geo_base.specs.Cache.{cut_of}
use Rattle.geo_base.specs.Cuts.{CoversCluster}
use Rattle.geo_base.specs.Entry.{is_data}
use Rattle.geo_base.specs.Laws.{NamesSettled}
use Rattle.geo_base.specs.Plan.{all_written}
use Rattle.geo_base.specs.Settled.{IsSettled, SettledSoFar}
use Rattle.geo_base.specs.Setup.{Setup}
use Rattle.geo_base.specs.Updating.{positions_for}
use Rattle.geo_base.specs.World.{World, site, topic_at}
use Rattle.world_laws.proofs.TopicOrder.Added.{after_is, appended}
use Rattle.world_laws.proofs.Telling.Announcing.{Announced, Announcing, announced}
use Rattle.world_laws.proofs.Snapshotting.Answering.{AnswersAt, Numbered, old_or_new}
use Rattle.world_laws.proofs.OnceInOrder.Appends.{written_entries}
use Rattle.world_laws.proofs.Snapshotting.Building.{IsCached}
use Rattle.world_laws.proofs.Snapshotting.Cuts.{CutsIn, IsCachedCut}
use Rattle.world_laws.proofs.Snapshotting.Grows.{Grown, Lengthened}
use Rattle.world_laws.proofs.Snapshotting.Hearing.{grown_get, grown_old}
use Rattle.world_laws.proofs.Induction.Layers.{Everywhere}
use Rattle.world_laws.proofs.TopicOrder.Ledgers.{of_index}
use Rattle.world_laws.proofs.Snapshotting.Making.{writes_stay}
use Rattle.world_laws.proofs.TopicOrder.Order.{of_source}
use Rattle.world_laws.proofs.Replicating.Pairs.{past_node}
use Rattle.world_laws.proofs.Telling.Passing.{below_mark, names_one}
use Rattle.world_laws.proofs.Replicating.Prefixes.{is_of}
use Rattle.world_laws.proofs.Snapshotting.SecondRound.{Knows}
use Rattle.world_laws.proofs.Replicating.Sizes.{IsThere}
use Rattle.world_laws.proofs.Dispatching.SubFrames.{AllSubs, each_at_place}
use Rattle.world_laws.proofs.Telling.Told.{HasTold, Includes, NamesTo, NamesTold, OnlyTold, UpdateTold}
use Rattle.world_laws.proofs.Walks.Walk.{by_test, left}

-- GROWTH

-- of one other cluster
names_to_grow : (told : SettledSoFar) (t a : ℕ) (n : List ℕ) (remote : List ClusterPosition) (y : ℕ) (b b' : Broker) → Lengthened b b' → Numbered b.entries b.ledgers
    → NamesTo told t a n remote y b → NamesTo told t a n remote y b'
names_to_grow told t a n remote y b b' g numbered h =
    let within = (of_index b.ledgers h.0 h.1 h.3).within in let whole = numbered.whole in (
      h.0,
      h.1,
      h.2,
      g.index h.0 h.1 h.3,
      λ k f le at. h.4 k f le (grown_old b.entries b'.entries b.ledgers b'.ledgers g k f (omega (arith, within, whole, le)) at),
    )

update_grows : (s : Setup) (w w' : World) (told : SettledSoFar) (t a : ℕ) (n : List ℕ) (remote : List ClusterPosition) → t < length s.topics → Everywhere s (AnswersAt s) w → Grown s w w'
    → UpdateTold s w told t a n remote → UpdateTold s w' told t a n remote
update_grows s w w' told t a n remote lt all grown h = λ y small other.
    names_to_grow told t a n remote y (topic_at s w t y) (topic_at s w' t y) (grown t y (lt, small)) (all t y (lt, small)).numbered (h y small other)

-- the updates of a topic that an event leaves alone
pub names_same : (s : Setup) (w w' : World) (told : SettledSoFar) (t a from : ℕ) (es : List Entry) → t < length s.topics → Everywhere s (AnswersAt s) w → Grown s w w'
    → NamesTold s w told t a from es → NamesTold s w' told t a from es
names_same s w w' told t a from es lt all grown h = λ i e n remote since at of is. update_grows s w w' told t a n remote lt all grown (h i e n remote since at of is)

-- as more is told
pub names_more : (s : Setup) (w : World) (told more : SettledSoFar) (t a from : ℕ) (es : List Entry) → Includes told more → NamesTold s w told t a from es
    → NamesTold s w more t a from es
names_more s w told more t a from es includes h = λ i e n remote since at of is y small other.
    let r = h i e n remote since at of is y small other in (r.0, r.1, r.2, r.3, λ k f le there message meant. includes t n f (r.4 k f le there message meant))

-- A NEW UPDATE

-- a snapshot that comes into a cache stands here, so it is a cut
pub cached_cut : (s : Setup) (w : World) (t x : ℕ) (c : CachedSnapshot) → CutsIn s w t x (topic_at s w t x) → IsCached (site s t x) (topic_at s w t x) c
    → IsCachedCut s w t x (topic_at s w t x).ledgers c
cached_cut s w t x c cuts q =
    let local = q.is.1 in let remote = q.is.2 in
    let own : is_of x q.entry ≡ true = left (is_of x q.entry) q.sub.replicated q.is.4 in
    let h = cuts.snapshots q.place q.entry q.is.0 local remote q.stands own q.is.3 in
    let made : CachedSnapshot = record { index = q.local; cut = cut_of x (length s.clusters) local remote } in
    let fact : IsCachedCut s w t x (topic_at s w t x).ledgers made = (q.is.5, h.1) in
    let F : CachedSnapshot → Type 0 = IsCachedCut s w t x (topic_at s w t x).ledgers in
    subst F (sym q.is.6) fact

-- what stands below a mark-delete is told
passed_told : (told : SettledSoFar) (t : ℕ) (n : List ℕ) (c : Broker) (F : CachedSnapshot → Type 0) (remote : List ClusterPosition) → AllSubs (OnlyTold told t c.entries) c
    → (u : Announced F c n remote) → (k : ℕ) (f : Entry) → k ≤ u.snapshot.index → slice_get c.entries k ≡ Some f → is_data f.content ≡ true → IsSettled told t n f
passed_told told t n c F remote only u k f le at message =
    let below = u.below in
    let o = each_at_place (OnlyTold told t c.entries) c.subs u.stands.place u.sub only u.stands.is k (below_mark u.sub.cursor 0 k (omega arith) (omega (arith, le, below))) in
    let same : o.0 ≡ f = same_Some _ _ (sym o.1 ∙ at) in
    let P : Entry → Type 0 = λ e. is_data e.content ≡ true → IsSettled told t u.sub.name e in
    subst (λ (m : List ℕ). IsSettled told t m f) u.name (subst P same o.2 message)

-- c is the topic after the writes that append it
update_named : (s : Setup) (w : World) (told : SettledSoFar) (t x : ℕ) (c : Broker) (n : List ℕ) (remote : List ClusterPosition) → Lengthened (topic_at s w t x) c
    → AllSubs (OnlyTold told t c.entries) c → Announced (IsCachedCut s w t x (topic_at s w t x).ledgers) c n remote → UpdateTold s w told t x n remote
update_named s w told t x c n remote g only u y small other = (
  each.0,
  each.2.0,
  subst (λ (r : List ClusterPosition). positions_for y r ≡ each.0 ∷ []) u.is (names_one y u.snapshot.cut.remote each.0 each.1),
  each.2.1,
  λ k f le at message meant.
      let r = each.2.2 k f le at message meant in
      let low = r.1 in
      passed_told told t n c (IsCachedCut s w t x b.ledgers) remote only u r.0 f (omega (arith, low, local)) (grown_get b.entries c.entries b.ledgers c.ledgers g r.0 f r.2) message,
)
  where
    b : Broker
    b = topic_at s w t x

    local : u.fact.1.0 ≡ u.snapshot.index
    local = same_Some _ _ (sym u.fact.1.1 ∙ u.fact.0)

    each : (p : Position) × (slice_index_or u.snapshot.cut.remote y None ≡ Some p) × CoversCluster s w t x u.fact.1.0 y p
    each = u.fact.1.2 y small other

-- THE TOPIC OF AN EVENT

-- after its writes, or some of them; w' is the world after
pub names_after : (s : Setup) (w w' : World) (told : SettledSoFar) (t x from : ℕ) → IsThere s t x → Everywhere s (AnswersAt s) w → Grown s w w' → (ws : List Write)
    → Announcing (IsCachedCut s w t x (topic_at s w t x).ledgers) (site s t x) (topic_at s w t x) ws
    → AllSubs (OnlyTold told t (all_written s.per_ledger (topic_at s w t x) ws).entries) (all_written s.per_ledger (topic_at s w t x) ws)
    → NamesTold s w told t x from (topic_at s w t x).entries → NamesTold s w' told t x from (all_written s.per_ledger (topic_at s w t x) ws).entries
names_after s w w' told t x from there all grown ws announcing only old i e n remote since at of is =
    update_grows s w w' told t x n remote there.0 all grown
    (elim (old_or_new b.entries (appended ws) i e (subst P (written_entries s.per_ledger b ws ∙ after_is b.entries ws) at)) [
      | inl o ↦ old i e n remote since o.1 of is
      | inr m ↦
          update_named s w told t x c n remote (writes_stay s.per_ledger b ws (all t x there).numbered) only
          (announced (IsCachedCut s w t x b.ledgers) (site s t x) s.per_ledger b ws announcing (i - length b.entries) e n remote m.1 of is)
    ])
  where
    b : Broker
    b = topic_at s w t x

    c : Broker
    c = all_written s.per_ledger b ws

    P : List Entry → Type 0
    P l = slice_get l i ≡ Some e

-- WHEREVER AN UPDATE STANDS

-- one that came from another cluster stands there too
pub update_told : (s : Setup) (w : World) (told : SettledSoFar) (t z i a : ℕ) (e : Entry) (n : List ℕ) (remote : List ClusterPosition) → Knows s w → HasTold s w told → IsThere s t z
    → slice_get (topic_at s w t z).entries i ≡ Some e → is_of a e ≡ true → e.content ≡ content.Marked (marker.Update n remote) → UpdateTold s w told t a n remote
update_told s w told t z i a e n remote k kept there at of is =
    by_test (a == z)
    (λ same. (kept t a (there.0, small)).names i e n remote (omega arith) (subst (λ (x : ℕ). slice_get (topic_at s w t x).entries i ≡ Some e) (sym (eqb-true a z same)) at) of is)
    (λ differ.
    let source = of_source a z (topic_at s w t a).entries (topic_at s w t z).entries (k.prefix t a z (small, there.1, λ same. false≢true (sym differ ∙ eq-eqb a z same))) i e at of in
    (kept t a (there.0, small)).names source.place e n remote (omega arith) source.is of is)
  where
    small : a < length s.clusters
    small = let h = (k.answers t z there).origins i e at in let is_a = eqb-true e.ident.origin a of in omega (arith, h, is_a)

-- so each names what is settled, what is told being that
pub names_settled : (s : Setup) (w : World) (told : SettledSoFar) → Knows s w → HasTold s w told → NamesSettled s w told
names_settled s w told k kept t z i a y n remote small in_y other m = by (nat_lt t (length s.topics)) refl
  where
    by : (b : Bool) → nat_lt t (length s.topics) ≡ b → NamesTo told t a n remote y (topic_at s w t y)
    by true r = update_told s w told t z i a m.entry n remote k kept (ltb-true _ _ r, small) m.stands (eq-eqb m.entry.ident.origin a m.origin) m.is y in_y other
    by false r =
        let past : length s.topics ≤ t = grind (arith, nat_tests, r) in
        let P : Broker → Type 0 = λ b. slice_get b.entries i ≡ Some m.entry in
        absurd (none-some m.entry (subst P (past_node s w.brokers t z k.size past) m.stands))
