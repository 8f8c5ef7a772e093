-- In every run what is sent to one consumer in one session rises.
use Rattle.std.proofs.Common.{◌≡◌, ℕ, zero, suc, ◌+◌, ◌*◌, ◌<◌, ◌≤◌, ◌==◌, List, [], ◌∷◌, length, map, refl, sym, subst, ◌∙◌, arith, inl, inr}
use Rattle.std.specs.Prelude.{Option, Some, None, slice_get, slice_index_or, slice_set, take}
use Rattle.std.proofs.lemmas.Bool.{eqb-false, eqb-true}
use Rattle.std.proofs.lemmas.Option.{none-some, same_Some}
use Rattle.world_laws.proofs.Types.{Consumer, Event, Frame, Out, Packet}
use Rattle.world_laws.proofs.Types.event
use Rattle.world_laws.proofs.Types.frame
use Rattle.geo_base.specs.Broker.{Broker, new_broker, no_broker}
use Rattle.geo_base.specs.Client.{Acted, Client, new_client, reconnect}
use Rattle.geo_base.specs.Getting.{get}
use Rattle.geo_base.specs.Going.{go}
use Rattle.geo_base.specs.Happening.{client_does, does_planned, halts_planned, happens}
use Rattle.geo_base.specs.Laws.{IsShort}
use Rattle.geo_base.specs.Link.{Link, next_packet}
use Rattle.geo_base.specs.Planned.{Planned, has_client, planned}
use Rattle.geo_base.specs.Run.{no_limits, run, run_under}
use Rattle.geo_base.specs.Moments.{world_between}
use Rattle.geo_base.specs.Settled.{SettledSoFar}
use Rattle.geo_base.specs.Setup.{Declared, Setup, declared_at}
use Rattle.geo_base.specs.World.{ToClient, World, client_at, delivered, from_client, link_at, node, opening_world, topic_at}
use Rattle.world_laws.proofs.Clients.CalmWalk.{IsSentBy}
use Rattle.world_laws.proofs.Clients.ClientLinks.{Packets, SentDown, SentUp, acts_down, none_down}
use Rattle.world_laws.proofs.Counters.Bounds.{table_has}
use Rattle.world_laws.proofs.Induction.Frames.{at_copies, at_set}
use Rattle.world_laws.proofs.Induction.Short.{client_short, does_short, halts_short, stops_short}
use Rattle.world_laws.proofs.Replicating.Effects.{Each, each_map}
use Rattle.world_laws.proofs.Replicating.Sizes.{IsThere}
use Rattle.world_laws.proofs.Snapshotting.Asked.{Named, named}
use Rattle.world_laws.proofs.Telling.TellingRuns.{IsKeptTelling, between, in_run}
use Rattle.world_laws.proofs.Telling.Told.{nothing_told}
use Rattle.world_laws.proofs.Walks.EventWalk.{HasShape, planned_shape}
use Rattle.world_laws.proofs.Walks.Walk.{by_test, on_if}
use Rattle.consumer_laws.specs.Handed.{handing}
use Rattle.consumer_laws.specs.Rising.{IsRising, LawRising}
use Rattle.consumer_laws.proofs.Rising.Clients.{NewSub, NotSub, get_kinds, go_kinds, go_new, reconnect_kinds, reconnect_new, sends_once, sends_stays}
use Rattle.consumer_laws.proofs.Rising.Facts.{JoinedAt, LineKinds, Moves, RiseWorld, RisesAt, SubTaken, moved_fact}
use Rattle.consumer_laws.proofs.Rising.Links.{CameOf, LessOf, RisesAfter, SubsOnce, SubscribesAs, came_grows}
use Rattle.consumer_laws.proofs.Rising.Nodes.{rise_does, rise_halts, rise_stops}
use Rattle.consumer_laws.proofs.Rising.Subs.{NoneOf, RiseFact, UndueOf}
use Rattle.consumer_laws.proofs.Runs.Events.{HandedOver, around, event_handed, halt_handed, hands_none, idle_handed, more_handed, opening_handed, round_handed, stop_handed}
use Rattle.consumer_laws.proofs.Subscriptions.Plans.{numbers}
use Rattle.consumer_laws.proofs.Worlds.Acting.{other_all}
use Rattle.consumer_laws.proofs.Worlds.BrokerEvents.{Around}
use Rattle.consumer_laws.proofs.Worlds.Facts.{AllAfter, Hands, UpFact}

-- ---- a world with the same brokers, and no packet more on the way to clients

all_moves : (s : Setup) (w w' : World) (b : Broker) (x : ℕ) → ((c y session id : ℕ) → SubTaken w.links y c session id → SubTaken w'.links y c session id) → ((c y : ℕ) → SentDown w'.links c y ≡ SentDown w.links c y) → (ks : List Consumer)
    → Each (Moves (JoinedAt w.links x (numbers b)) (JoinedAt w'.links x (numbers b)) b.ledgers b.ledgers (numbers b) (numbers b) (λ z. SentDown w.links z x) (λ z. SentDown w'.links z x)) ks
all_moves s w w' b x taken down [] = tt
all_moves s w w' b x taken down (k ∷ ks) = (
  record {
    joins = λ h. taken k.client x (numbers b k.client) k.id h;
    none = λ h. subst (Packets (NoneOf (numbers b k.client) k.id)) (sym (down k.client x)) h;
    undue = λ due h. subst (Packets (UndueOf b.ledgers due (numbers b k.client) k.id)) (sym (down k.client x)) h;
  },
  all_moves s w w' b x taken down ks,
)

rise_moved : (s : Setup) (w w' : World) → w'.brokers ≡ w.brokers → ((c : ℕ) → LineKinds (declared_at s c) (client_at s w' c)) → ((c x : ℕ) → IsThere s (declared_at s c).topic x → SubsOnce (SentUp w'.links c x))
    → ((c y session id : ℕ) → SubTaken w.links y c session id → SubTaken w'.links y c session id) → ((c y : ℕ) → SentDown w'.links c y ≡ SentDown w.links c y) → RiseWorld s w → RiseWorld s w'
rise_moved s w w' brokers kinds once taken down r = record {
  kinds = kinds;
  once = once;
  came = λ c x. subst (Packets (CameOf (SubTaken w'.links x c))) (sym (down c x)) (came_grows (SubTaken w.links x c) (SubTaken w'.links x c) (λ session id h. taken c x session id h) (SentDown w.links c x) (r.came c x));
  subs = λ t x there.
      subst (λ (bs : List Broker). RisesAt s w' t x (slice_index_or bs (node s t x) no_broker)) (sym brokers)
      (let b = topic_at s w t x in
      each_map (RiseFact (JoinedAt w.links x (numbers b)) b.ledgers (numbers b) (λ z. SentDown w.links z x)) (RiseFact (JoinedAt w'.links x (numbers b)) b.ledgers (numbers b) (λ z. SentDown w'.links z x))
      (λ v f. moved_fact (JoinedAt w.links x (numbers b)) (JoinedAt w'.links x (numbers b)) b.ledgers b.ledgers (numbers b) (numbers b) (λ z. SentDown w.links z x) (λ z. SentDown w'.links z x) v (all_moves s w w' b x taken down v.consumers) f) b.subs (r.subs t x there));
  links = λ c x there n kind id line one.
      subst (λ (bs : List Broker). AllAfter (RisesAfter (slice_index_or bs (node s (declared_at s c).topic x) no_broker).ledgers id) (SentDown w'.links c x)) (sym brokers)
      (subst (AllAfter (RisesAfter (topic_at s w (declared_at s c).topic x).ledgers id)) (sym (down c x)) (r.links c x there n kind id line one));
}

rise_idle : (s : Setup) (w : World) (n : ℕ) → RiseWorld s w → RiseWorld s (record w { idle = n })
rise_idle s w n r = record { kinds = r.kinds; once = r.once; came = r.came; subs = r.subs; links = r.links }

rise_round : (s : Setup) (w : World) (n : ℕ) → RiseWorld s w → RiseWorld s (record w { rounds = n })
rise_round s w n r = record { kinds = r.kinds; once = r.once; came = r.came; subs = r.subs; links = r.links }

-- ---- events of a client

up_not : (told : SettledSoFar) (t : ℕ) (b : Broker) (d : Declared) (done id session : ℕ) (f : Frame) → done ≤ id → UpFact told t b d done session f → SubscribesAs id f → ⊥
up_not told t b d done id session (frame.Subscribe topic n kind a request consumer earliest replicated) le h is = let lt = h.1 in omega (arith, le, lt, is)
up_not told t b d done id session f le h is = absurd is

fresh_sub : (s : Setup) (told : SettledSoFar) (w : World) (z x : ℕ) → Hands s told w → IsThere s (declared_at s z).topic x → (os : List Out) → (n : NewSub (client_at s w z) os) → Packets (NotSub n.session n.id) (SentUp w.links z x)
fresh_sub s told w z x h there os n = elim n.fresh [
  | inl newer ↦
      each_map (λ (p : Packet). IsSentBy (client_at s w z).connection (declared_at s z) p.session p.frame) (λ (p : Packet). NotSub n.session n.id p.session p.frame) (λ p sent same is. let le = sent.below in absurd (omega (arith, le, newer, same))) (SentUp w.links z x) ((h.meets z).up x)
  | inr later ↦
      let d = declared_at s z in let b = topic_at s w d.topic x in
      each_map (λ (p : Packet). UpFact told d.topic b d (client_at s w z).done p.session p.frame) (λ (p : Packet). NotSub n.session n.id p.session p.frame)
      (λ p f same is. up_not told d.topic b d (client_at s w z).done n.id p.session p.frame later.1 f is) (SentUp w.links z x) (h.up z x there)
]

-- client z does something: its lines in force are of their kinds, and it subscribes anew at most
set_kinds : (s : Setup) (w : World) (z : ℕ) (j : Client) → LineKinds (declared_at s z) j → RiseWorld s w → (c : ℕ) → LineKinds (declared_at s c) (slice_index_or (slice_set w.clients z j) c (new_client (declared_at s c)))
set_kinds s w z j h r c =
    at_set (LineKinds (declared_at s c)) w.clients z c j (new_client (declared_at s c)) (λ same. subst (λ (u : ℕ). LineKinds (declared_at s u) j) same h) (r.kinds c)

-- another client's link stays
others_once : (s : Setup) (w : World) (z stamp c x : ℕ) (os : List Out) → (n : NewSub (client_at s w z) os) → RiseWorld s w → (IsThere s (declared_at s z).topic x → Packets (NotSub n.session n.id) (SentUp w.links z x))
    → IsThere s (declared_at s c).topic x → SubsOnce (SentUp (delivered (from_client z) stamp os w.links) c x)
others_once s w z stamp c x os n r fresh there =
    by_test (z == c)
    (λ same.
    let is = eqb-true z c same in
    let here : IsThere s (declared_at s z).topic x = subst (λ (u : ℕ). IsThere s (declared_at s u).topic x) (sym is) there in
    subst (λ (u : ℕ). SubsOnce (SentUp (delivered (from_client z) stamp os w.links) u x)) is (sends_once z stamp x n.session n.id os w.links n.one (fresh here) (r.once z x here)))
    (λ differ. subst SubsOnce (sym (other_all z stamp c x os w.links (eqb-false z c differ))) (r.once c x there))

rise_goes : (s : Setup) (told : SettledSoFar) (w : World) (z : ℕ) (a : Acted) → LineKinds (declared_at s z) a.client → NewSub (client_at s w z) a.sent → Hands s told w → RiseWorld s w → RiseWorld s (client_does s w z None a)
unfolding client_does
rise_goes s told w z a kinds n h r =
    on_if (RiseWorld s) a.idle _ _ (rise_idle s w (w.idle + 1) r)
    (rise_moved s w _ refl (set_kinds s w z a.client kinds r) (λ c x there. others_once s w z _ c x a.sent n r (λ here. fresh_sub s told w z x h here a.sent n) there)
    (λ c y session id g. sends_stays z _ c y session id a.sent w.links g) (λ c y. acts_down z _ c y None a.sent w.links) r)

rise_gets : (s : Setup) (w : World) (z : ℕ) (o : Option Packet) → RiseWorld s w → RiseWorld s (client_does s w z (Some (ToClient z (client_at s w z).cluster)) (get (declared_at s z) (client_at s w z) o))
unfolding client_does get
rise_gets s w z None r = rise_idle s w (w.idle + 1) r
rise_gets s w z (Some p) r =
    let d = declared_at s z in let k = client_at s w z in
    rise_moved s w _ refl (set_kinds s w z (get d k (Some p)).client (get_kinds d k (Some p) (r.kinds z)) r) (λ c x there. r.once c x there) (λ c y session id g. g)
    (λ c y. acts_down z 0 c y (Some (ToClient z k.cluster)) [] w.links) r

-- ---- events

planned_rises : (s : Setup) (told : SettledSoFar) (w : World) (o : Option Planned) → HasShape s w o → (IsShort w → Around s told w) → (IsShort w → RiseWorld s w) → IsShort (does_planned s w o) → RiseWorld s (does_planned s w o)
planned_rises s told w None shape a r short = rise_idle s w (w.idle + 1) (r short)
planned_rises s told w (Some p) shape a r short = let was = does_short s w p short in rise_does s told w p shape (a was) (r was)

event_rises : (s : Setup) (told : SettledSoFar) (w : World) (e : Event) → (IsShort w → Around s told w) → (IsShort w → RiseWorld s w) → IsShort (happens s w e) → RiseWorld s (happens s w e)
unfolding happens
event_rises s told w (event.Go z) a r =
    let d = declared_at s z in let k = client_at s w z in
    on_if (λ (w' : World). IsShort w' → RiseWorld s w') (has_client s z) _ _
    (λ short. let was = client_short s w z None (go s d k) short in rise_goes s told w z (go s d k) (go_kinds s d k ((r was).kinds z)) (go_new s d k ((r was).kinds z)) (a was).hands (r was))
    (λ short. rise_idle s w (w.idle + 1) (r short))
event_rises s told w (event.Reconnect z) a r =
    let d = declared_at s z in let k = client_at s w z in
    on_if (λ (w' : World). IsShort w' → RiseWorld s w') (has_client s z) _ _
    (λ short. let was = client_short s w z None (reconnect s d k) short in
    rise_goes s told w z (reconnect s d k) (reconnect_kinds s d k ((r was).kinds z)) (reconnect_new s d k ((r was).kinds z)) (a was).hands (r was)) (λ short. rise_idle s w (w.idle + 1) (r short))
event_rises s told w (event.Get z) a r =
    let k = client_at s w z in let o = next_packet (link_at w.links (ToClient z k.cluster)) in
    on_if (λ (w' : World). IsShort w' → RiseWorld s w') (has_client s z) _ _
    (λ short. let was = client_short s w z (Some (ToClient z k.cluster)) (get (declared_at s z) k o) short in rise_gets s w z o (r was)) (λ short. rise_idle s w (w.idle + 1) (r short))
event_rises s told w e a r = planned_rises s told w (planned s w e) (planned_shape s w e) a r

halt_rises : (s : Setup) (told : SettledSoFar) (w : World) (m : ℕ) (o : Option Planned) → HasShape s w o → (IsShort w → Around s told w) → (IsShort w → RiseWorld s w) → IsShort (halts_planned s w m o) → RiseWorld s (halts_planned s w m o)
halt_rises s told w m None shape a r short = rise_idle s w (w.idle + 1) (r short)
halt_rises s told w m (Some p) shape a r short = let was = halts_short s w m p short in rise_halts s w m p shape (a was).now.knows.answers (r was)

-- ---- runs

abbrev Rising : Setup → SettledSoFar → World → Type 0
Rising s told w = HandedOver s told w × (IsShort w → RiseWorld s w)

here_around : (s : Setup) (told : SettledSoFar) (w : World) → HandedOver s told w → IsShort w → Around s told w
here_around s told w h short = around s told told w (λ t n e g. g) h.told_over h short

rising_kept : (s : Setup) → Named s → IsKeptTelling (handing s) s (Rising s)
rising_kept s names = record {
  more = λ told more w inc h. (more_handed s names told more w inc h.0, h.1);
  event = λ told w e h. (event_handed s names told w e h.0, event_rises s told w e (here_around s told w h.0) h.1);
  halts = λ told w m e h. (halt_handed s names told w m e h.0, halt_rises s told w m (planned s w e) (planned_shape s w e) (here_around s told w h.0) h.1);
  stop = λ told w h. (
    stop_handed s names told w h.0,
    λ short. let was = stops_short s w short in rise_stops s w h.0.told_over.0.0.0.0.0.0.0.sized (here_around s told w h.0 was).now.knows.answers (h.1 was),
  );
  idle = λ told w n h. (idle_handed s names told w n h.0, λ short. rise_idle s w n (h.1 short));
  round = λ told w n h. (round_handed s names told w n h.0, λ short. rise_round s w n (h.1 short));
  quiet = hands_none s;
}

new_kinds : (d e : Declared) (ds : List Declared) (c : ℕ) → LineKinds d (slice_index_or (map new_client ds) c (new_client e))
new_kinds d e [] c = record { produce = λ i is. absurd (none-some i is); flow = λ i is. absurd (none-some i is); unanswered = tt }
new_kinds d e (x ∷ ds) zero = record { produce = λ i is. absurd (none-some i is); flow = λ i is. absurd (none-some i is); unanswered = tt }
new_kinds d e (x ∷ ds) (suc c) = new_kinds d e ds c

rise_opening : (s : Setup) → RiseWorld s (opening_world s)
rise_opening s = record {
  kinds = λ c. new_kinds (declared_at s c) (declared_at s c) s.clients c;
  once = λ c x there. table_has (λ (l : Link). SubsOnce l.sent) (length s.clients) (length s.clusters) c x (λ i j p q id lt at_i at_j same a b. absurd (none-some p at_i));
  came = λ c x. none_down s c x (CameOf (SubTaken (opening_world s).links x c));
  subs = λ t x there.
      at_copies (RisesAt s (opening_world s) t x) (length s.topics * length s.clusters) (node s t x) (new_broker (length s.clusters) (length s.clients)) no_broker tt tt;
  links = λ c x there n kind id line one.
      table_has (λ (l : Link). AllAfter (RisesAfter (topic_at s (opening_world s) (declared_at s c).topic x).ledgers id) l.sent) (length s.clients) (length s.clusters) c x (λ k p at. absurd (none-some p at));
}

-- ---- what it says

taken_among : (ps : List Packet) (i j : ℕ) (p : Packet) → i < j → slice_get ps i ≡ Some p → slice_get (take j ps) i ≡ Some p
taken_among [] i j p lt at = absurd (none-some p at)
taken_among (q ∷ ps) i zero p lt at = absurd (omega (arith, lt))
taken_among (q ∷ ps) zero (suc j) p lt at = at
taken_among (q ∷ ps) (suc i) (suc j) p lt at = taken_among ps i j p (omega (arith, lt)) at

each_get : {X : Type 0} (P : X → Type 0) (xs : List X) (i : ℕ) (x : X) → slice_get xs i ≡ Some x → Each P xs → P x
each_get P [] i x at h = absurd (none-some x at)
each_get P (y ∷ xs) zero x at h = subst P (same_Some y x at) h.0
each_get P (y ∷ xs) (suc i) x at h = each_get P xs i x at h.1

rising : (s : Setup) (w : World) → RiseWorld s w → IsRising s w
rising s w r c x n kind id session i j a b topic cluster line one lt first second =
    let ls = (topic_at s w (declared_at s c).topic x).ledgers in let sent = SentDown w.links c x in
    let later : RisesAfter ls id (take j sent) second.packet.session (frame.Message id second.position second.source second.entry) =
    subst (λ (f : Frame). RisesAfter ls id (take j sent) second.packet.session f) second.is (r.links c x (topic, cluster) n kind id line one j second.packet second.at) in
    let less : LessOf ls second.packet.session id second.position first.packet.session (frame.Message id first.position first.source first.entry) =
    subst (λ (f : Frame). LessOf ls second.packet.session id second.position first.packet.session f) first.is
    (each_get (λ (p : Packet). LessOf ls second.packet.session id second.position p.session p.frame) (take j sent) i first.packet (taken_among sent i j first.packet lt first.at) (later refl)) in
    let found = less (first.same ∙ sym second.same) refl in
    let is_a : found.0 ≡ a = same_Some found.0 a (sym found.2 ∙ first.stands) in
    let is_b : found.1 ≡ b = same_Some found.1 b (sym found.3 ∙ second.stands) in
    let less_than = found.4 in omega (arith, is_a, is_b, less_than)

pub rising_holds : LawRising
rising_holds s scripted = record {
  run = λ es short. rising s (run s es) ((in_run (handing s) no_limits s (Rising s) kept start es).1 short);
  limited = λ l es short. rising s (run_under l s es).world ((in_run (handing s) l s (Rising s) kept start es).1 short);
  between = λ l es at short. rising s (world_between l s es at) ((between (handing s) l s (Rising s) kept start es at).1 short);
}
  where
    names : Named s
    names = named s scripted

    kept : IsKeptTelling (handing s) s (Rising s)
    kept = rising_kept s names

    start : Rising s nothing_told (opening_world s)
    start = (opening_handed s names, λ short. rise_opening s)
