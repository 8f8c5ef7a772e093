-- offer: the dispatcher of a subscription takes the least due index. A message goes to a consumer that has a permit; a marker
-- needs none, is never shown to a consumer, and a snapshot of the own cluster enters the cache.
use Rattle.std.specs.Prelude.{ℕ, ◌==◌, ◌&&◌, if◌then◌else◌, List, [], ◌∷◌, length, Option, Some, None, slice_get, option_map}
use Rattle.geo_base.specs.Types.{CachedSnapshot, Consumer, Content, Entry, Out, ClusterRef, Session}
use Rattle.geo_base.specs.Types.change
use Rattle.geo_base.specs.Types.content
use Rattle.geo_base.specs.Types.frame
use Rattle.geo_base.specs.Types.marker
use Rattle.geo_base.specs.Types.peer
use Rattle.geo_base.specs.Types.cluster_ref
use Rattle.geo_base.specs.Types.write
use Rattle.geo_base.specs.Broker.{Broker, Site, session_at, sub_named}
use Rattle.geo_base.specs.Cache.{cached, cut_of}
use Rattle.geo_base.specs.Dispatcher.{consumer_at, least_due, pick}
use Rattle.geo_base.specs.Entry.{is_data, key_bytes}
use Rattle.geo_base.specs.Link.{sends}
use Rattle.geo_base.specs.Plan.{Plan, idle_plan, plan_of, unless_found}
use Rattle.geo_base.specs.Storing.{cursor_write}
use Rattle.geo_base.specs.Subscription.{Subscription}
use Rattle.geo_base.specs.Topic.{index_of, position_at}

-- replicated_from, absent where the own cluster stored the entry first
abbrev pub source_of : ℕ → Entry → Option ClusterRef
source_of own e = if e.ident.origin == own then None else Some (cluster_ref.Known e.ident.origin)

abbrev pub number_of : Option Session → ℕ
number_of None = 0
number_of (Some s) = s.number

abbrev pub message : Site → Broker → ℕ → Entry → Consumer → List Out
message h b i e k =
    sends (peer.Client k.client) (number_of (session_at b k.client)) (frame.Message k.id (position_at b.ledgers i) (source_of h.own e) e)

-- the snapshot that a marker brings into the cache of a replicated subscription: one that the own cluster made, whose local
-- position is stored
abbrev pub own_snapshot : Site → Broker → Subscription → ℕ → Content → Option CachedSnapshot
own_snapshot h b s origin (content.Marked (marker.Snapshot id local remote)) =
    if (origin == h.own) && s.replicated
    then option_map (λ j. record { index = j; cut = cut_of h.own (length h.clusters) local remote }) (index_of b.ledgers local)
    else None
own_snapshot h b s origin c = None

-- a marker is acknowledged on the cursor, and the snapshot that it brings enters the cache first
abbrev pub skips_marker : Site → Broker → Subscription → ℕ → Option CachedSnapshot → Plan
skips_marker h b s i None =
    plan_of (cursor_write h b s (write.Acks s.name (i ∷ []))) (change.Skipped s.name i ∷ change.Acked s.name ∷ []) []
skips_marker h b s i (Some c) =
    plan_of (cursor_write h b (record s { cache = cached s.cache c }) (write.Acks s.name (i ∷ [])))
    (change.Cache s.name c ∷ change.Skipped s.name i ∷ change.Acked s.name ∷ []) []

-- what becomes of the entry at an index, the least that is due
abbrev pub offer_entry : Site → Broker → Subscription → ℕ → Entry → Plan
offer_entry h b s i e =
    if is_data e.content
    then unless_found idle_plan (pick s.kind s.consumers (key_bytes e.meta.key)) (λ at.
    plan_of [] (change.Given s.name i at ∷ []) (message h b i e (consumer_at s.consumers at)))
    else skips_marker h b s i (own_snapshot h b s e.ident.origin e.content)

-- idle where the subscription is not here, nothing is due, or a message is due and no consumer for it has a permit
unfoldable pub offer : Site → Broker → List ℕ → Plan
offer h b n =
    unless_found idle_plan (sub_named b.subs n) (λ s.
    unless_found idle_plan (least_due s (length b.entries)) (λ i.
    unless_found idle_plan (slice_get b.entries i) (λ e.
    offer_entry h b s i e)))
