-- Whose messages a consumer gets: one of client c at a subscription was made by a sub line of c that names it. So each plan of a broker
-- of topic t keeps it, and sends to c in a session of c alone, which no connection of c is below. A message is sent by an offer alone.
use Rattle.std.proofs.Common.{◌≡◌, ℕ, zero, suc, ◌+◌, ◌<◌, ◌≤◌, Bool, true, false, List, [], ◌∷◌, ◌++◌, map, min, refl, sym, subst, arith, not}
use Rattle.std.specs.Prelude.{Option, Some, None, if◌then◌else◌, drop, is_some, slice_index_or, slice_set, take}
use Rattle.std.specs.Str.{bytes_eq}
use Rattle.std.proofs.lemmas.Option.{none-some, same_Some}
use Rattle.std.proofs.lemmas.Slice.Eq.{bytes_eq-Decides}
use Rattle.world_laws.proofs.Types.{Change, Consumer, Frame, Out, Peer, Session, SubKind, Write}
use Rattle.world_laws.proofs.Types.change
use Rattle.world_laws.proofs.Types.frame
use Rattle.world_laws.proofs.Types.peer
use Rattle.world_laws.proofs.Types.sub_kind
use Rattle.world_laws.proofs.Types.write
use Rattle.geo_base.specs.Broker.{Broker, at_sub, changed, session_at, sub_named, written}
use Rattle.geo_base.specs.Dispatcher.{consumer_at, given, pick, served, used}
use Rattle.geo_base.specs.Plan.{Plan, all_changed, all_written}
use Rattle.geo_base.specs.Setup.{Declared}
use Rattle.geo_base.specs.Subscription.{Subscription, attached, detached, is_of, most_permits, new_subscription, permitted}
use Rattle.world_laws.proofs.Replicating.Effects.{Each, each_both, each_map, each_take}
use Rattle.world_laws.proofs.Induction.Frames.{at_map, at_set}
use Rattle.world_laws.proofs.Merges.PeerWalk.{each_filter, pick_has}
use Rattle.world_laws.proofs.Dispatching.SubFrames.{AllSubs, NamesApart, Only, each_and, each_to}
use Rattle.world_laws.proofs.Walks.Walk.{on_if}
use Rattle.world_laws.specs.SubLines.{IsSubLine}

-- ---- consumers, of client c of topic t, whose declaration is d

abbrev pub IsOwnConsumer : ℕ → ℕ → Declared → List ℕ → Consumer → Type 0
IsOwnConsumer t c d m k = k.client ≡ c → IsSubLine d k.id m × (t ≡ d.topic)

abbrev pub OwnConsumers : ℕ → ℕ → Declared → Subscription → Type 0
OwnConsumers t c d v = Each (IsOwnConsumer t c d v.name) v.consumers

each_mapped : {X : Type 0} (P : X → Type 0) (f : X → X) → ((x : X) → P x → P (f x)) → (xs : List X) → Each P xs → Each P (map f xs)
each_mapped P f k [] h = tt
each_mapped P f k (x ∷ xs) h = (k x h.0, each_mapped P f k xs h.1)

each_drop : {X : Type 0} (P : X → Type 0) (n : ℕ) (xs : List X) → Each P xs → Each P (drop n xs)
each_drop P zero xs h = h
each_drop P (suc n) [] h = tt
each_drop P (suc n) (x ∷ xs) h = each_drop P n xs h.1

each_set : {X : Type 0} (P : X → Type 0) (xs : List X) (i : ℕ) (v : X) → Each P xs → P v → Each P (slice_set xs i v)
each_set P [] i v h p = tt
each_set P (x ∷ xs) zero v h p = (p, h.1)
each_set P (x ∷ xs) (suc i) v h p = (h.0, each_set P xs i v h.1 p)

each_at : {X : Type 0} (P : X → Type 0) (xs : List X) (i : ℕ) (d : X) → Each P xs → P d → P (slice_index_or xs i d)
each_at P [] i d h p = p
each_at P (x ∷ xs) zero d h p = h.0
each_at P (x ∷ xs) (suc i) d h p = each_at P xs i d h.1 p

-- the one that is served
served_own : (P : Consumer → Type 0) → ((k : Consumer) → P k → P (used k)) → (kind : SubKind) (ks : List Consumer) (i : ℕ) → Each P ks → P (consumer_at ks i) → Each P (served kind ks i)
served_own P u sub_kind.Shared ks i h p =
    each_both P (take i ks ++ drop (i + 1) ks) (used (consumer_at ks i) ∷ [])
    (each_both P (take i ks) (drop (i + 1) ks) (each_take P i ks h) (each_drop P (i + 1) ks h)) (u (consumer_at ks i) p, tt)
served_own P u sub_kind.Exclusive ks i h p = each_set P ks i _ h (u (consumer_at ks i) p)
served_own P u sub_kind.Failover ks i h p = each_set P ks i _ h (u (consumer_at ks i) p)
served_own P u sub_kind.KeyShared ks i h p = each_set P ks i _ h (u (consumer_at ks i) p)

-- what leaves names, and consumers' clients and ids
at_sub_own : (t c : ℕ) (d : Declared) (b : Broker) (n : List ℕ) (f : Subscription → Subscription) → ((v : Subscription) → OwnConsumers t c d v → OwnConsumers t c d (f v))
    → AllSubs (OwnConsumers t c d) b → AllSubs (OwnConsumers t c d) (at_sub b n f)
at_sub_own t c d b n f k h =
    each_mapped (OwnConsumers t c d) (λ (v : Subscription). if bytes_eq v.name n then f v else v)
    (λ v m. on_if (OwnConsumers t c d) (bytes_eq v.name n) (f v) v (k v m) m) b.subs h

written_own : (t c : ℕ) (d : Declared) (per : ℕ) (b : Broker) (w : Write) → AllSubs (OwnConsumers t c d) b → AllSubs (OwnConsumers t c d) (written per b w)
written_own t c d per b (write.Create n kind replicated latest) h =
    on_if (λ (e : Broker). AllSubs (OwnConsumers t c d) e) (is_some (sub_named b.subs n)) b _ h (each_both (OwnConsumers t c d) b.subs (new_subscription n kind replicated _ ∷ []) h (tt, tt))
written_own t c d per b (write.Alter n kind replicated) h = at_sub_own t c d b n _ (λ v m. m) h
written_own t c d per b (write.Delete n) h = each_filter (OwnConsumers t c d) _ b.subs h
written_own t c d per b (write.Acks n is) h = at_sub_own t c d b n _ (λ v m. m) h
written_own t c d per b (write.Seek n i) h = at_sub_own t c d b n _ (λ v m. m) h
written_own t c d per b w h = h

pub all_written_own : (t c : ℕ) (d : Declared) (per : ℕ) (b : Broker) (ws : List Write) → AllSubs (OwnConsumers t c d) b → AllSubs (OwnConsumers t c d) (all_written per b ws)
all_written_own t c d per b [] h = h
all_written_own t c d per b (w ∷ ws) h = all_written_own t c d per (written per b w) ws (written_own t c d per b w h)

-- a change that gives nothing, opens no session of c above number m, and attaches no consumer of c but such
abbrev pub IsCalmChange : ℕ → ℕ → Declared → ℕ → Change → Type 0
IsCalmChange t c d m (change.Client z (Some v)) = z ≡ c → v.number ≤ m
IsCalmChange t c d m (change.Attach n k) = IsOwnConsumer t c d n k
IsCalmChange t c d m (change.Given n i at) = ⊥
IsCalmChange t c d m ch = Unit {0}

pub changed_own : (t c : ℕ) (d : Declared) (m : ℕ) (b : Broker) (ch : Change) → IsCalmChange t c d m ch → AllSubs (OwnConsumers t c d) b → AllSubs (OwnConsumers t c d) (changed b ch)
changed_own t c d m b (change.Attach n k) g h = attach b.subs h
  where
    one : (v : Subscription) → OwnConsumers t c d v → (e : Bool) → bytes_eq v.name n ≡ e → OwnConsumers t c d (if e then attached k v else v)
    one v p true is =
        let name : n ≡ v.name = sym ((bytes_eq-Decides v.name n).0 is) in
        each_both (IsOwnConsumer t c d v.name) v.consumers (k ∷ []) p (subst (λ (l : List ℕ). IsOwnConsumer t c d l k) name g, tt)
    one v p false is = p

    attach : (vs : List Subscription) → Each (OwnConsumers t c d) vs → Each (OwnConsumers t c d) (map (λ (v : Subscription). if bytes_eq v.name n then attached k v else v) vs)
    attach [] h = tt
    attach (v ∷ vs) h = (one v h.0 (bytes_eq v.name n) refl, attach vs h.1)
changed_own t c d m b (change.Detach z) g h =
    each_mapped (OwnConsumers t c d) (detached z) (λ v p. each_filter (IsOwnConsumer t c d v.name) (λ (k : Consumer). not (is_of z k)) v.consumers p) b.subs h
changed_own t c d m b (change.Permit n z permits) g h =
    at_sub_own t c d b n (permitted z permits)
    (λ v p. each_mapped (IsOwnConsumer t c d v.name) (λ (k : Consumer). if is_of z k then record k { permits = min most_permits (k.permits + permits) } else k)
    (λ k q. on_if (IsOwnConsumer t c d v.name) (is_of z k) _ k q q) v.consumers p) h
changed_own t c d m b (change.Skipped n i) g h = at_sub_own t c d b n _ (λ v p. p) h
changed_own t c d m b (change.Given n i at) g h = absurd g
changed_own t c d m b (change.Cache n x) g h = at_sub_own t c d b n _ (λ v p. p) h
changed_own t c d m b (change.Acked n) g h = at_sub_own t c d b n _ (λ v p. p) h
changed_own t c d m b (change.Cleared n) g h = at_sub_own t c d b n _ (λ v p. tt) h
changed_own t c d m b change.Forget g h = each_mapped (OwnConsumers t c d) _ (λ v p. tt) b.subs h
changed_own t c d m b ch g h = h

pub all_changed_own : (t c : ℕ) (d : Declared) (m : ℕ) (b : Broker) (cs : List Change) → Each (IsCalmChange t c d m) cs → AllSubs (OwnConsumers t c d) b → AllSubs (OwnConsumers t c d) (all_changed b cs)
all_changed_own t c d m b [] g h = h
all_changed_own t c d m b (x ∷ xs) g h = all_changed_own t c d m (changed b x) xs g.1 (changed_own t c d m b x g.0 h)

-- giving to a consumer that was picked
pub given_own : (t c : ℕ) (d : Declared) (b : Broker) (v : Subscription) (i at : ℕ) → Each (Only v) b.subs → IsOwnConsumer t c d v.name (consumer_at v.consumers at)
    → AllSubs (OwnConsumers t c d) b → AllSubs (OwnConsumers t c d) (changed b (change.Given v.name i at))
given_own t c d b v i at only picked h =
    each_to (λ (u : Subscription). OwnConsumers t c d u × Only v u) (OwnConsumers t c d) (λ (u : Subscription). if bytes_eq u.name v.name then given i at u else u)
    (λ u p. one u p.0 p.1 (bytes_eq u.name v.name) refl) b.subs (each_and (OwnConsumers t c d) (Only v) b.subs h only)
  where
    one : (u : Subscription) → OwnConsumers t c d u → Only v u → (e : Bool) → bytes_eq u.name v.name ≡ e → OwnConsumers t c d (if e then given i at u else u)
    one u p same true is =
        let there : IsOwnConsumer t c d u.name (consumer_at u.consumers at) =
        subst (λ (x : Subscription). IsOwnConsumer t c d x.name (consumer_at x.consumers at)) (sym (same is)) picked in
        served_own (IsOwnConsumer t c d u.name) (λ k q. q) u.kind u.consumers at p there
    one u p same false is = p

-- whom an offer picks is one of the consumers
record IfPermitted (P : Consumer → Type 0) (k : Consumer) : Type 0 where
  own : 0 < k.permits → P k

pub picked_own : (t c : ℕ) (d : Declared) (v : Subscription) (key : List ℕ) (at : ℕ) → pick v.kind v.consumers key ≡ Some at → OwnConsumers t c d v
    → IsOwnConsumer t c d v.name (consumer_at v.consumers at)
picked_own t c d v key at is h =
    let P = IfPermitted (IsOwnConsumer t c d v.name) in
    (each_at P v.consumers at _ (each_map (IsOwnConsumer t c d v.name) P (λ k p. record { own = λ some. p }) v.consumers h) (record { own = λ some. absurd (omega (arith, some)) })).own
    (pick_has v.kind v.consumers key at is)

-- ---- sessions

abbrev pub SessionsBelow : ℕ → ℕ → Broker → Type 0
SessionsBelow c m b = (v : Session) → session_at b c ≡ Some v → v.number ≤ m

pub changed_session : (t c : ℕ) (d : Declared) (m : ℕ) (b : Broker) (ch : Change) → IsCalmChange t c d m ch → SessionsBelow c m b → SessionsBelow c m (changed b ch)
changed_session t c d m b (change.Client z (Some v)) g h =
    at_set (λ (o : Option Session). (u : Session) → o ≡ Some u → u.number ≤ m) b.sessions z c (Some v) None
    (λ same u is. subst (λ (x : Session). x.number ≤ m) (same_Some v u is) (g same)) h
changed_session t c d m b (change.Client z None) g h =
    at_set (λ (o : Option Session). (u : Session) → o ≡ Some u → u.number ≤ m) b.sessions z c None None (λ same u is. absurd (none-some u is)) h
changed_session t c d m b (change.Receiver x r) g h = h
changed_session t c d m b change.Forget g h =
    at_map (λ (o : Option Session). (u : Session) → o ≡ Some u → u.number ≤ m) (λ s. None) (λ o p u is. absurd (none-some u is)) b.sessions c None (λ u is. absurd (none-some u is)) h
changed_session t c d m b ch g h = h

pub all_changed_session : (t c : ℕ) (d : Declared) (m : ℕ) (b : Broker) (cs : List Change) → Each (IsCalmChange t c d m) cs → SessionsBelow c m b → SessionsBelow c m (all_changed b cs)
all_changed_session t c d m b [] g h = h
all_changed_session t c d m b (x ∷ xs) g h = all_changed_session t c d m (changed b x) xs g.1 (changed_session t c d m b x g.0 h)

pub all_written_session : (c m per : ℕ) (b : Broker) (ws : List Write) → SessionsBelow c m b → SessionsBelow c m (all_written per b ws)
all_written_session c m per b [] h = h
all_written_session c m per b (w ∷ ws) h = all_written_session c m per (written per b w) ws (one w)
  where
    one : (w : Write) → SessionsBelow c m (written per b w)
    one (write.Create n kind replicated latest) = on_if (SessionsBelow c m) (is_some (sub_named b.subs n)) _ _ h h
    one w = h

-- ---- a broker of topic t, m being at most the number of c's last connection

pub record Meets (t c m : ℕ) (d : Declared) (b : Broker) : Type 0 where
  pub sessions : SessionsBelow c m b
  pub consumers : AllSubs (OwnConsumers t c d) b
  pub apart : NamesApart b.subs

-- what is sent to c goes out in such a session, and is no message
abbrev pub IsQuiet : Frame → Type 0
IsQuiet (frame.Message id p source e) = ⊥
IsQuiet f = Unit {0}

abbrev pub IsCalmTo : ℕ → ℕ → ℕ → Frame → Peer → Type 0
IsCalmTo c m session f (peer.Client z) = z ≡ c → (session ≤ m) × IsQuiet f
IsCalmTo c m session f q = Unit {0}

abbrev pub IsCalmOut : ℕ → ℕ → Out → Type 0
IsCalmOut c m o = IsCalmTo c m o.session o.frame o.to

pub record IsCalm (t c m : ℕ) (d : Declared) (p : Plan) : Type 0 where
  pub changes : Each (IsCalmChange t c d m) p.changes
  pub sent : Each (IsCalmOut c m) p.sent
