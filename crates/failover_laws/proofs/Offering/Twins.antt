-- What follows one world follows each that is alike, so what is claimed of the one holds of the other.
use Rattle.std.proofs.Common.{◌≡◌, ℕ, ◌≤◌, true, List, length, refl, sym, ap, subst}
use Rattle.std.specs.Prelude.{Option, Some}
use Rattle.geo_base.specs.Broker.{Broker, sub_named}
use Rattle.geo_base.specs.Happening.{halts_planned, happens, stops}
use Rattle.geo_base.specs.Planned.{Planned, planned}
use Rattle.geo_base.specs.Safe.{IsEntry}
use Rattle.geo_base.specs.Setup.{Setup}
use Rattle.geo_base.specs.World.{World, topic_at}
use Rattle.world_laws.specs.AlikeWorlds.{AreAlike}
use Rattle.world_laws.specs.Starts.{resumed_world}
use Rattle.world_laws.proofs.KeptRuns.AlikeWorlds.{event_alike, halt_alike, planned_alike, stop_alike}
use Rattle.world_laws.proofs.KeptRuns.Loaded.{unused_sound}
use Rattle.failover_laws.specs.Again.{gives}
use Rattle.failover_laws.specs.Covers.{NotOfThen}
use Rattle.failover_laws.specs.UpdatedTo.{HasUpdatedTo}
use Rattle.failover_laws.specs.Since.{AfterEvent, AfterHalt, AfterRound, AfterStop, Idling, Resuming, Since, Starting, leaves, leaves_behind}
use Rattle.failover_laws.specs.Switched.{HasAllOf}

record Twin (s : Setup) (t y : ℕ) (n : List ℕ) (z w : World) : Type 0 where
  world : World
  since : Since s t y n z world
  alike : AreAlike world w

twin : (s : Setup) (t y : ℕ) (n : List ℕ) (z z' w : World) → AreAlike z z' → Since s t y n z' w → Twin s t y n z w
twin s t y n z z' _ h Starting = record { world = z; since = Starting; alike = h }
twin s t y n z z' _ h (AfterEvent w e leave since) =
    let a = twin s t y n z z' w h since in record {
      world = happens s a.world e;
      since = AfterEvent a.world e (subst (λ (o : Option Planned). leaves s t y n o ≡ true) (sym (planned_alike s a.world w e a.alike)) leave) a.since;
      alike = event_alike s a.world w e a.alike;
    }
twin s t y n z z' _ h (AfterHalt w k e leave since) =
    let a = twin s t y n z z' w h since in record {
      world = halts_planned s a.world k (planned s a.world e);
      since = AfterHalt a.world k e (subst (λ (o : Option Planned). leaves_behind k s t y n o ≡ true) (sym (planned_alike s a.world w e a.alike)) leave) a.since;
      alike = halt_alike s a.world w k e a.alike;
    }
twin s t y n z z' _ h (AfterStop w since) =
    let a = twin s t y n z z' w h since in record { world = stops s a.world; since = AfterStop a.world a.since; alike = stop_alike s a.world w a.alike }
twin s t y n z z' _ h (Idling w k since) =
    let a = twin s t y n z z' w h since in record {
      world = record a.world { idle = k };
      since = Idling a.world k a.since;
      alike = record {
        brokers = a.alike.brokers;
        clients = a.alike.clients;
        links = a.alike.links;
        events = a.alike.events;
        idle = refl;
        rounds = a.alike.rounds;
        frame_bytes = a.alike.frame_bytes;
      };
    }
twin s t y n z z' _ h (AfterRound w k since) =
    let a = twin s t y n z z' w h since in record {
      world = record a.world { rounds = k };
      since = AfterRound a.world k a.since;
      alike = record {
        brokers = a.alike.brokers;
        clients = a.alike.clients;
        links = a.alike.links;
        events = a.alike.events;
        idle = a.alike.idle;
        rounds = refl;
        frame_bytes = a.alike.frame_bytes;
      };
    }
twin s t y n z z' _ h (Resuming w since) =
    let a = twin s t y n z z' w h since in record {
      world = resumed_world s a.world;
      since = Resuming a.world a.since;
      alike = record {
        brokers = a.alike.brokers;
        clients = a.alike.clients;
        links = record {
          forward = refl;
          back = refl;
          to_broker = refl;
          to_client = refl;
          left = unused_sound s;
          right = unused_sound s;
        };
        events = a.alike.events;
        idle = a.alike.idle;
        rounds = a.alike.rounds;
        frame_bytes = a.alike.frame_bytes;
      };
    }

pub same_at : (s : Setup) (v w : World) (t x : ℕ) → AreAlike v w → topic_at s v t x ≡ topic_at s w t x
same_at s v w t x h = ap (λ (bs : List Broker). topic_at s (record v { brokers = bs }) t x) h.brokers

pub have_alike : (s : Setup) (v v' z z' : World) (t y x : ℕ) (n : List ℕ) → AreAlike v v' → AreAlike z z' → HasAllOf s v z t y x n → HasAllOf s v' z' t y x n
have_alike s v v' z z' t y x n av az h =
    let bv = same_at s v v' t y av in let bz = same_at s z z' t y az in record {
      index = h.index;
      passed = subst (λ (b : Broker). HasUpdatedTo b n x h.index) bz h.passed;
      high = subst (λ (b : Broker). length b.entries ≤ h.index) bv h.high;
      sub = h.sub;
      here = subst (λ (b : Broker). sub_named b.subs n ≡ Some h.sub) bz h.here;
      all = λ i f at. h.all i f (subst (λ (b : Broker). IsEntry b i f) (sym bv) at);
    }

pub again_alike : (s : Setup) (v v' z z' : World) (t y x : ℕ) (n : List ℕ) → AreAlike v v' → AreAlike z z'
    → ((w : World) → Since s t y n z w → NotOfThen s v w t y n x) → (w : World) → Since s t y n z' w → NotOfThen s v' w t y n x
again_alike s v v' z z' t y x n av az h w since e i f given at meant =
    let bv = same_at s v v' t y av in
    let a = twin s t y n z z' w az since in let ba = same_at s a.world w t y a.alike in
    subst (λ (b : Broker). length b.entries ≤ i) bv
    (h a.world a.since e i f (subst (λ (o : Option Planned). gives s t y n i o ≡ true) (sym (planned_alike s a.world w e a.alike)) given)
    (subst (λ (b : Broker). IsEntry b i f) (sym ba) at) meant)
