-- read: the replicator to another cluster looks at the next entry that its cursor lacks. What the own cluster stored first and is
-- to go there is sent, a marker of the other cluster is acted on, and all else is passed over: a replicated message is never
-- replicated again (geo-replication manual).
use Rattle.std.specs.Prelude.{ℕ, ◌==◌, ◌&&◌, if◌then◌else◌, [], ◌∷◌, length, Option, Some, None, slice_get}
use Rattle.geo_base.specs.Types.{Entry}
use Rattle.geo_base.specs.Types.change
use Rattle.geo_base.specs.Types.frame
use Rattle.geo_base.specs.Types.peer
use Rattle.geo_base.specs.Types.cluster_ref
use Rattle.geo_base.specs.Broker.{Broker, Site, replicator_at}
use Rattle.geo_base.specs.Entry.{goes_to}
use Rattle.geo_base.specs.Forwarding.{is_remote}
use Rattle.geo_base.specs.Link.{sends}
use Rattle.geo_base.specs.Markers.{read_content}
use Rattle.geo_base.specs.Plan.{Plan, idle_plan, plan_of}
use Rattle.geo_base.specs.Replicator.{Replicator, index_to_read}
use Rattle.geo_base.specs.Updating.{handled}

-- a SEND under the next number of the session, which names the own cluster as replicated_from
abbrev pub forwards : Site → ℕ → Replicator → ℕ → Entry → Plan
forwards h y s i e =
    plan_of [] (change.Pend y i ∷ []) (sends (peer.Forward y) s.session (frame.Send s.session s.next (Some (cluster_ref.Known h.own)) e))

abbrev pub read_entry : Site → Broker → ℕ → ℕ → Option Entry → Plan
read_entry h b y i None = idle_plan
read_entry h b y i (Some e) =
    if (e.ident.origin == h.own) && goes_to y e.to then forwards h y (replicator_at b y) i e
    else if e.ident.origin == y then read_content h b y i e.content
    else handled y i [] []

abbrev pub read_at : Site → Broker → ℕ → Option ℕ → Plan
read_at h b y None = idle_plan
read_at h b y (Some i) = read_entry h b y i (slice_get b.entries i)

unfoldable pub read : Site → Broker → ℕ → Plan
read h b y =
    if is_remote h y then read_at h b y (index_to_read (replicator_at b y).state (replicator_at b y) (length b.entries)) else idle_plan
