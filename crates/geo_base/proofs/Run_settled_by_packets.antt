-- What is settled, computed: of three messages on three subscriptions, event by event. An ACK settles what it names, also where a
-- stop comes after its write but not before; a creation at Latest what is there; a seek what is below it; and a cumulative ACK on
-- a Shared subscription, a seek to a position where nothing is stored and a creation at Earliest settle nothing.
use Rattle.std.specs.Prelude.{◌≡◌, ℕ, ◌∷◌, ◌++◌, [], List, true, false, Some, None, codes, refl}
use Rattle.geo_base.specs.Types.{Event, Ident, Step}
use Rattle.geo_base.specs.Types.event
use Rattle.geo_base.specs.Types.line
use Rattle.geo_base.specs.Types.step
use Rattle.geo_base.specs.Types.sub_kind
use Rattle.geo_base.specs.Types.targets
use Rattle.geo_base.specs.Client.{reconnect}
use Rattle.geo_base.specs.Getting.{get}
use Rattle.geo_base.specs.Going.{go}
use Rattle.geo_base.specs.Happening.{broker_does, broker_halts, client_does, happens}
use Rattle.geo_base.specs.Offering.{offer}
use Rattle.geo_base.specs.Planned.{planned}
use Rattle.geo_base.specs.Run.{steps}
use Rattle.geo_base.specs.Seeking.{seek}
use Rattle.geo_base.specs.Serving.{serve}
use Rattle.geo_base.specs.Settled.{settled, settled_event, settled_under}
use Rattle.geo_base.specs.Setup.{Setup}

abbrev setup : Setup
setup = record {
  per_ledger = 50000;
  clusters = codes "a" ∷ codes "b" ∷ [];
  topics = codes "t" ∷ [];
  clients =
      record {
        name = codes "p";
        topic = 0;
        cluster = 0;
        lines = line.Produce ∷ line.Pub 0 targets.All None (codes "m0") ∷ line.Pub 1 targets.All None (codes "m1") ∷ line.Pub 2 targets.All None (codes "m2") ∷ [];
      } ∷
      record {
        name = codes "c";
        topic = 0;
        cluster = 0;
        lines = line.Sub (codes "s1") sub_kind.Failover true false ∷ line.Flow 10 ∷ line.Ack (record { origin = 0; producer = codes "p"; seq = 2 }) ∷
            line.AckTo (record { origin = 0; producer = codes "p"; seq = 0 }) ∷ [];
      } ∷
      record { name = codes "d"; topic = 0; cluster = 0; lines = line.Sub (codes "s2") sub_kind.Exclusive false false ∷ [] } ∷
      record {
        name = codes "e";
        topic = 0;
        cluster = 0;
        lines = line.Sub (codes "s3") sub_kind.Shared true false ∷ line.Flow 10 ∷ line.AckTo (record { origin = 0; producer = codes "p"; seq = 1 }) ∷ [];
      } ∷
      [];
}

abbrev message : ℕ → Ident
message n = record { origin = 0; producer = codes "p"; seq = n }

-- a client does its next line, and the broker at a serves it
abbrev next : ℕ → List Step
next c = step.Plain (event.Go c) ∷ step.Plain (event.Serve 0 c) ∷ []

abbrev connected : ℕ → List Step
connected c = step.Plain (event.Reconnect c) ∷ step.Plain (event.Serve 0 c) ∷ []

-- three messages come to a consumer, after the answers to its CONNECT and its SUBSCRIBE
abbrev gets_three : ℕ → ℕ → List Step
gets_three c n =
    step.Plain (event.Offer 0 0 n) ∷ step.Plain (event.Offer 0 0 n) ∷ step.Plain (event.Offer 0 0 n) ∷ step.Plain (event.Get c) ∷ step.Plain (event.Get c) ∷
    step.Plain (event.Get c) ∷ step.Plain (event.Get c) ∷ step.Plain (event.Get c) ∷ []

abbrev published : List Step
published = connected 0 ++ next 0 ++ next 0 ++ next 0 ++ next 0

-- up to where c has acknowledged the last message and the broker has not taken the packet
abbrev acks_last : List Step
acks_last = published ++ connected 1 ++ next 1 ++ next 1 ++ gets_three 1 0 ++ step.Plain (event.Go 1) ∷ []

abbrev served : Event
served = event.Serve 0 1

abbrev acked : List Step
acked = acks_last ++ step.Plain served ∷ next 1

abbrev all_served : List Step
all_served = acked ++ connected 2 ++ next 2 ++ connected 3 ++ next 3 ++ next 3 ++ gets_three 3 2 ++ next 3

abbrev sought : List Step
sought = acked ++ step.Plain (event.Seek 0 0 0 (Some (record { ledger = 7; entry = 0 }))) ∷ step.Plain (event.Seek 0 0 0 (Some (record { ledger = 0; entry = 2 }))) ∷ []

before : settled setup acks_last 0 (codes "s1") ≡ []
unfolding go get reconnect serve offer seek planned broker_does broker_halts client_does happens steps settled_under settled_event
before = refl

one_by_one : settled setup (acks_last ++ step.Plain served ∷ []) 0 (codes "s1") ≡ message 2 ∷ []
unfolding go get reconnect serve offer seek planned broker_does broker_halts client_does happens steps settled_under settled_event
one_by_one = refl

stopped_before : settled setup (acks_last ++ step.Halt 0 served ∷ []) 0 (codes "s1") ≡ []
unfolding go get reconnect serve offer seek planned broker_does broker_halts client_does happens steps settled_under settled_event
stopped_before = refl

stopped_behind : settled setup (acks_last ++ step.Halt 1 served ∷ []) 0 (codes "s1") ≡ message 2 ∷ []
unfolding go get reconnect serve offer seek planned broker_does broker_halts client_does happens steps settled_under settled_event
stopped_behind = refl

up_to_one : settled setup acked 0 (codes "s1") ≡ message 2 ∷ message 0 ∷ []
unfolding go get reconnect serve offer seek planned broker_does broker_halts client_does happens steps settled_under settled_event
up_to_one = refl

at_latest : settled setup all_served 0 (codes "s2") ≡ message 0 ∷ message 1 ∷ message 2 ∷ []
unfolding go get reconnect serve offer seek planned broker_does broker_halts client_does happens steps settled_under settled_event
at_latest = refl

shared_cumulative : settled setup all_served 0 (codes "s3") ≡ []
unfolding go get reconnect serve offer seek planned broker_does broker_halts client_does happens steps settled_under settled_event
shared_cumulative = refl

sought_two : settled setup sought 0 (codes "s1") ≡ message 2 ∷ message 0 ∷ message 0 ∷ message 1 ∷ []
unfolding go get reconnect serve offer seek planned broker_does broker_halts client_does happens steps settled_under settled_event
sought_two = refl
