-- What a broker does with the consumers of a client: CommandSubscribe, CommandFlow, CommandUnsubscribe, CommandCloseConsumer.
use Rattle.std.specs.Prelude.{ℕ, nat_lt, Bool, true, false, not, ◌&&◌, ◌||◌, if◌then◌else◌, List, [], ◌∷◌, length, find, Option, Some, None, is_some}
use Rattle.std.specs.List.{list_any}
use Rattle.std.specs.Str.{bytes_eq}
use Rattle.geo_base.specs.Types.{Session, SubKind, Write}
use Rattle.geo_base.specs.Types.change
use Rattle.geo_base.specs.Types.sub_kind
use Rattle.geo_base.specs.Types.write
use Rattle.geo_base.specs.Answers.{consumer_busy, consumer_not_found, refuses, succeeds, unknown_error}
use Rattle.geo_base.specs.Broker.{Broker, Site, sub_named}
use Rattle.geo_base.specs.Name.{is_name}
use Rattle.geo_base.specs.Plan.{Plan, plan_of, quiet_plan}
use Rattle.geo_base.specs.Subscription.{Subscription, has_consumer, is_attached}

abbrev pub same_kind : SubKind → SubKind → Bool
same_kind sub_kind.Exclusive sub_kind.Exclusive = true
same_kind sub_kind.Shared sub_kind.Shared = true
same_kind sub_kind.Failover sub_kind.Failover = true
same_kind sub_kind.KeyShared sub_kind.KeyShared = true
same_kind a b = false

-- the most subscriptions of a topic (own: so that a script's clients, and updates that other clusters send, take bounded memory)
abbrev pub most_subs : ℕ
most_subs = 32

-- a subscription of this name is here or may be made
abbrev pub has_room : Broker → List ℕ → Bool
has_room b n = is_some (sub_named b.subs n) || nat_lt (length b.subs) most_subs

-- consumers are attached that another one can't join: of another kind, or an exclusive one
abbrev pub is_busy : SubKind → Subscription → Bool
is_busy kind s = nat_lt 0 (length s.consumers) && (not (same_kind kind s.kind) || same_kind kind sub_kind.Exclusive)

-- a subscription takes the kind that came, and is replicated once a command said so
abbrev pub altering : Subscription → SubKind → Bool → List Write
altering s kind replicated =
    if same_kind kind s.kind && (s.replicated || not replicated) then [] else write.Alter s.name kind (s.replicated || replicated) ∷ []

-- the consumer comes last in order, without permits
abbrev pub joins : ℕ → Session → List ℕ → ℕ → ℕ → List Write → Plan
joins c s n id request ws = plan_of ws (change.Attach n (record { client = c; id = id; permits = 0 }) ∷ []) (succeeds c s request)

abbrev pub subscribes : ℕ → Session → List ℕ → SubKind → ℕ → ℕ → Bool → Bool → Option Subscription → Plan
subscribes c s n kind id request earliest replicated None = joins c s n id request (write.Create n kind replicated (not earliest) ∷ [])
subscribes c s n kind id request earliest replicated (Some sub) =
    if is_busy kind sub then refuses c s request consumer_busy else joins c s n id request (altering sub kind replicated)

-- a client has one consumer (own)
abbrev pub serve_subscribe : Site → Broker → ℕ → Session → List ℕ → List ℕ → SubKind → ℕ → ℕ → Bool → Bool → Plan
serve_subscribe h b c s topic n kind id request earliest replicated =
    if not (bytes_eq topic h.topic && is_name n && has_room b n) then refuses c s request unknown_error
    else if list_any (is_attached c) b.subs then refuses c s request consumer_busy
    else subscribes c s n kind id request earliest replicated (sub_named b.subs n)

-- the subscription where a client has the consumer of an id
abbrev pub consumed_by : List Subscription → ℕ → ℕ → Option Subscription
consumed_by subs c id = find (has_consumer c id) subs

abbrev pub serve_flow : ℕ → ℕ → Option Subscription → Plan
serve_flow c permits None = quiet_plan []
serve_flow c permits (Some sub) = quiet_plan (change.Permit sub.name c permits ∷ [])

-- a subscription ends with its last consumer's wish alone
abbrev pub serve_unsubscribe : ℕ → Session → ℕ → Option Subscription → Plan
serve_unsubscribe c s request None = refuses c s request consumer_not_found
serve_unsubscribe c s request (Some sub) =
    if nat_lt 1 (length sub.consumers) then refuses c s request unknown_error
    else plan_of (write.Delete sub.name ∷ []) [] (succeeds c s request)

abbrev pub serve_close_consumer : ℕ → Session → ℕ → Option Subscription → Plan
serve_close_consumer c s request None = refuses c s request consumer_not_found
serve_close_consumer c s request (Some sub) = plan_of [] (change.Detach c ∷ []) (succeeds c s request)
