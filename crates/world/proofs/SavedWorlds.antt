-- What is saved is the state after the machine's stop, and a file can hold it.
use Rattle.std.proofs.Common.{◌≡◌, ℕ, ◌+◌, suc, List, [], ◌∷◌, length, map, refl, sym, ap, subst, ◌∙◌, arith}
use Rattle.std.specs.Prelude.{None, Some, Result, Ok, Err, slice_index_or}
use Rattle.std.specs.List.{All, AllByRecursion}
use Rattle.std.proofs.lemmas.List.Elements.{All-from_recursion, recursion_from_All}
use Rattle.broker_plans.specs.Storable.{AreStorable}
use Rattle.client.specs.State.{stopped}
use Rattle.cursor_acks.specs.Acks.{AreBelow}
use Rattle.geo_base.specs.declared.entry.Entry.{Entry}
use Rattle.geo_base.specs.Broker.{Broker, Site, no_broker}
use Rattle.geo_base.specs.Client.{Client, unconnected}
use Rattle.geo_base.specs.Happening.{stops}
use Rattle.geo_base.specs.Plan.{done}
use Rattle.geo_base.specs.Run.{all_limits}
use Rattle.geo_base.specs.Seeking.{restart}
use Rattle.geo_base.specs.Replicator.{Replicator, new_replicator, replicator_restarted}
use Rattle.geo_base.specs.Setup.{Setup}
use Rattle.geo_base.specs.Subscription.{Subscription, cleared}
use Rattle.geo_base.specs.World.{World}
use Rattle.message_meta.specs.Known.{IsRest}
use Rattle.durable_parts.specs.Durable.{durable_part}
use Rattle.script_text.specs.Canonical.{declared_alone}
use Rattle.script_text.specs.Script.{Script}
use Rattle.state_file.specs.declared.saved.Saved.{Saved}
use Rattle.state_file.specs.State.{SavedState}
use Rattle.state_nodes.specs.declared.counts.Counts.{Counts}
use Rattle.state_nodes.specs.Nodes.{broker_of}
use Rattle.state_nodes.specs.Writing.{CanWrite, HaveRests}
use Rattle.kept_laws.proofs.Keeping.{counts, stop}
use Rattle.kept_laws.specs.Kept.{all_stopped}
use Rattle.kept_laws.specs.Standing.{Stands, limit_of}
use Rattle.world_laws.proofs.Induction.Reaching.{indexes}
use Rattle.world_laws.specs.Indexes.{HasIndexes, KeepsIndexes}
use Rattle.world.specs.declared.fault.RunFault.{RunFault}
use Rattle.world.specs.declared.fault.RunFault.TheVariants as fault
use Rattle.world.specs.declared.saving.StopParts.{StopParts}
use Rattle.world.specs.Saving.{Saves, behind_stop}
use Rattle.state_file.specs.State.{state_in}
use Rattle.world.specs.World.{IsAt, WorldView, brokers_of, kept_of}
pub use Rattle.geo_base.proofs.Lists.{map_again as twice}

-- ---- a broker after a stop

stop_is : (per : ℕ) (b : Broker) → durable_part (done per b restart) ≡ behind_stop b
unfolding restart
stop_is per b = rw (twice replicator_restarted (λ v. refl) b.replicators, twice cleared (λ v. refl) b.subs) refl

all_stops : (per : ℕ) (bs : List Broker) → map durable_part (map (λ (b : Broker). done per b restart) bs) ≡ map behind_stop bs
all_stops per [] = refl
all_stops per (b ∷ bs) = ap (λ (c : Broker). c ∷ map durable_part (map (λ (d : Broker). done per d restart) bs)) (stop_is per b) ∙ ap (λ (cs : List Broker). behind_stop b ∷ cs) (all_stops per bs)

-- ---- what a file can hold

pub have_rests : (h : Site) (es : List Entry) → AreStorable h es → HaveRests es
have_rests h [] s = λ k d lt. absurd (omega (arith, lt))
have_rests h (e ∷ es) s = All-from_recursion (λ (f : Entry). IsRest f.meta.rest) (e ∷ es) (s.0.read.rest, recursion_from_All (λ (f : Entry). IsRest f.meta.rest) es (have_rests h es s.1))

subs_below : (n : ℕ) (vs : List Subscription) → AllByRecursion (λ (v : Subscription). AreBelow n v.cursor) vs → AllByRecursion (λ (v : Subscription). AreBelow n v.cursor) (map cleared vs)
subs_below n [] h = tt
subs_below n (v ∷ vs) h = (h.0, subs_below n vs h.1)

replicators_below : (n : ℕ) (vs : List Replicator) → ((y : ℕ) → KeepsIndexes n (slice_index_or vs y new_replicator)) → AllByRecursion (λ (v : Replicator). AreBelow n v.cursor) (map replicator_restarted vs)
replicators_below n [] h = tt
replicators_below n (v ∷ vs) h = ((h 0).acked, replicators_below n vs (λ y. h (suc y)))

can_write : (b : Broker) → HaveRests b.entries → HasIndexes b → CanWrite (behind_stop b)
can_write b rests h =
    let n = length b.entries in
    record {
      entries = rests;
      subs = All-from_recursion (λ (v : Subscription). AreBelow n v.cursor) (map cleared b.subs) (subs_below n b.subs h.subs);
      replicators = All-from_recursion (λ (v : Replicator). AreBelow n v.cursor) (map replicator_restarted b.replicators) (replicators_below n b.replicators h.replicators);
    }

all_can : (bs : List Broker) → All (λ (b : Broker). HaveRests b.entries) (map behind_stop bs) → ((z : ℕ) → HasIndexes (slice_index_or bs z no_broker)) → AllByRecursion CanWrite (map behind_stop bs)
all_can [] rests h = tt
all_can (b ∷ bs) rests h = (can_write b (rests 0 (behind_stop b) (omega arith)) (h 0), all_can bs (λ k d lt. rests (suc k) d (omega (arith, lt))) (λ z. h (suc z)))

pub can_hold : (bs : List Broker) (ns : List Broker) → ns ≡ map behind_stop bs → All (λ (b : Broker). HaveRests b.entries) ns → ((z : ℕ) → HasIndexes (slice_index_or bs z no_broker)) → All CanWrite ns
can_hold bs ns is rests h =
    let P : List Broker → Type 0 = λ cs. All (λ (b : Broker). HaveRests b.entries) cs in
    subst (λ (cs : List Broker). All CanWrite cs) (sym is) (All-from_recursion CanWrite (map behind_stop bs) (all_can bs (subst P is rests) h))

-- ---- the state

abbrev counted : ℕ → ℕ → ℕ → ℕ → Counts
counted events idle rounds bytes = record { events = events; idle = idle; rounds = rounds; frame_bytes = bytes }

abbrev saved : Script → Counts → List Broker → List Client → SavedState
saved s c ns ks = record { scenario = declared_alone s.setup s.chance; counts = c; brokers = ns; clients = ks }

same_counts : (s : Setup) (b : WorldView) (w : World) → Stands s (kept_of b) w → counted (b.events + 1) b.idle b.rounds b.frame_bytes ≡ counted (w.events + 1) w.idle w.rounds w.frame_bytes
same_counts s b w h =
    ap (λ (n : ℕ). counted (n + 1) b.idle b.rounds b.frame_bytes) h.events ∙ ap (λ (n : ℕ). counted (w.events + 1) n b.rounds b.frame_bytes) h.idle
    ∙ ap (λ (n : ℕ). counted (w.events + 1) w.idle n b.frame_bytes) h.rounds ∙ ap (λ (n : ℕ). counted (w.events + 1) w.idle w.rounds n) h.frame_bytes

state_is : (s : Script) (b : WorldView) (w : World) (c : Counts) (ns : List Broker) (ks : List Client) → Stands s.setup (kept_of b) w
    → c ≡ counted (b.events + 1) b.idle b.rounds b.frame_bytes → ns ≡ map behind_stop (brokers_of b.brokers) → ks ≡ map unconnected b.clients
    → saved s c ns ks ≡ state_in s (stops s.setup w)
unfolding stops
state_is s b w c ns ks h counts brokers clients =
    let per = s.setup.per_ledger in
    let all_brokers : ns ≡ map durable_part (map (λ (d : Broker). done per d restart) w.brokers) =
    brokers ∙ ap (λ (bs : List Broker). map behind_stop bs) h.brokers ∙ sym (all_stops per w.brokers) in
    ap (λ (d : Counts). saved s d ns ks) (counts ∙ same_counts s.setup b w h)
    ∙ ap (λ (ms : List Broker). saved s (counted (w.events + 1) w.idle w.rounds w.frame_bytes) ms ks) all_brokers
    ∙ ap (λ (ms : List Client). saved s (counted (w.events + 1) w.idle w.rounds w.frame_bytes) (map durable_part (map (λ (d : Broker). done per d restart) w.brokers)) ms) (clients ∙ ap (λ (ms : List Client). map unconnected ms) h.clients)

-- ---- what is answered

saved_counts : (s : Setup) (b : WorldView) (w : World) → Stands s (kept_of b) w → all_limits (stops s w) ≡ limit_of (b.events + 1) b.idle b.frame_bytes
saved_counts s b w h =
    let k = all_stopped (kept_of b) (map (λ (c : Broker). done s.per_ledger c restart) (brokers_of b.brokers)) (map unconnected b.clients) in
    counts s k (stops s w) (stop s (kept_of b) w h)

abbrev Answer : Type 0
Answer = Result Saved RunFault

abbrev refused : RunFault → Answer
refused f = Err f

abbrev IsGiven : Answer → Type 0
IsGiven (Ok v) = Unit {0}
IsGiven r = ⊥

-- a fault of a part of the call
abbrev pub failed : RunFault → Result StopParts RunFault
failed f = Err f

same_fault : (f g : RunFault) → refused f ≡ refused g → failed f ≡ failed g
same_fault f g is = cc

pub saves_past : (s : Script) (b : WorldView) (w : World) (f : RunFault) → Stands s.setup (kept_of b) w
    → ((n : ℕ) → failed f ≡ failed (fault.TooLarge n) → limit_of (b.events + 1) b.idle b.frame_bytes ≡ Some n) → Saves s w (Err f)
saves_past s b w f h large = record { state = tt; within = tt; large = λ n is. saved_counts s.setup b w h ∙ large n (same_fault f (fault.TooLarge n) is) }

pub saves_state : (s : Script) (b : WorldView) (w : World) (v : Saved) → Stands s.setup (kept_of b) w → v.scenario ≡ declared_alone s.setup s.chance
    → v.counts ≡ counted (b.events + 1) b.idle b.rounds b.frame_bytes → map broker_of v.brokers.items ≡ map behind_stop (brokers_of b.brokers)
    → map stopped v.clients.items ≡ map unconnected b.clients → limit_of (b.events + 1) b.idle b.frame_bytes ≡ None → Saves s w (Ok v)
saves_state s b w v h scenario counts brokers clients low =
    let ns = map broker_of v.brokers.items in let ks = map stopped v.clients.items in
    record {
      state =
          ap (λ (k : Script). record { scenario = k; counts = v.counts; brokers = ns; clients = ks }) scenario ∙ state_is s b w v.counts ns ks h counts brokers clients;
      within = saved_counts s.setup b w h ∙ low;
      large = λ n past. absurd (subst IsGiven past tt);
    }

-- a world that a run comes to keeps no index but those of entries
pub have_indexes : (s : Setup) (b : WorldView) → IsAt s b → (z : ℕ) → HasIndexes (slice_index_or (brokers_of b.brokers) z no_broker)
have_indexes s b h z =
    subst (λ (bs : List Broker). HasIndexes (slice_index_or bs z no_broker)) (sym h.stands.brokers) (indexes s h.reached.start h.world h.reached.begins h.reached.from z)
