-- What the writes and changes of a plan leave of what is out: one lemma for each form that a plan has.
use Rattle.std.proofs.Common.{◌≡◌, ℕ, Bool, true, false, List, [], ◌∷◌, length, refl, sym, ap, subst, ◌∙◌, ◌==◌, arith, not}
use Rattle.std.specs.Prelude.{Option, Some, None, if◌then◌else◌, ◌&&◌, ◌||◌, is_some, nat_lt, slice_index_or, slice_set}
use Rattle.std.specs.List.{list_any}
use Rattle.std.specs.Str.{bytes_eq}
use Rattle.std.proofs.lemmas.Bool.{eq-eqb, false≢true, lt-ltb}
use Rattle.std.proofs.lemmas.Option.{none-some}
use Rattle.std.proofs.lemmas.Slice.Eq.{bytes_eq-Decides}
use Rattle.world_laws.proofs.Types.{Change, Consumer, Entry, Out, Unacked, Packet, Session, SubKind, Write}
use Rattle.world_laws.proofs.Types.change
use Rattle.world_laws.proofs.Types.sub_kind
use Rattle.world_laws.proofs.Types.write
use Rattle.geo_base.specs.Broker.{Broker, changed, session_at, sub_named, written}
use Rattle.geo_base.specs.Cache.{cached}
use Rattle.geo_base.specs.Dispatcher.{consumer_at, given, skipped_index, pick}
use Rattle.geo_base.specs.Offering.{number_of}
use Rattle.geo_base.specs.Plan.{Plan, all_changed, all_written, done, plan_of}
use Rattle.geo_base.specs.Subscribing.{is_busy, same_kind}
use Rattle.geo_base.specs.Subscription.{Subscription, after_acks, attached, cleared, detached, is_of, new_subscription, permitted, sought, with_acks}
use Rattle.world_laws.proofs.Replicating.Effects.{Each, each_map}
use Rattle.world_laws.proofs.Induction.Frames.{at_set}
use Rattle.world_laws.proofs.Telling.ServeTells.{named_is}
use Rattle.world_laws.proofs.Dispatching.SubFrames.{AllSubs, CreatesNone, NamesApart, Only, at_name, created_subs, done_subs, each_and, each_made, forgotten_subs, only_named, sub_after, sub_changed, sub_then, sub_written}
use Rattle.world_laws.proofs.Walks.Walk.{on_if, on_test}
use Rattle.consumer_laws.proofs.Subscriptions.WhatIsOut.{Makes, OutFact, SubFact, acked_fact, attached_fact, cleared_fact, detached_fact, detached_none, given_fact, kind_is, permitted_fact, GivenTo, IsMade, SameNumbers}

-- a change of memory that needs nothing known: it attaches nobody and gives nothing
abbrev pub EasyChange : Change → Type 0
EasyChange (change.Attach n k) = ⊥
EasyChange (change.Given n i at) = ⊥
EasyChange ch = Unit {0}

-- a write that changes no kind and creates nothing
abbrev pub EasyWrite : Write → Type 0
EasyWrite (write.Alter n kind replicated) = ⊥
EasyWrite (write.Create n kind replicated latest) = ⊥
EasyWrite w = Unit {0}

-- a write that creates nothing, changes no kind and seeks nowhere
abbrev pub CalmWrite : Write → Type 0
CalmWrite (write.Alter n kind replicated) = ⊥
CalmWrite (write.Create n kind replicated latest) = ⊥
CalmWrite (write.Seek n i) = ⊥
CalmWrite w = Unit {0}

pub calm_easy : (w : Write) → CalmWrite w → EasyWrite w
calm_easy (write.Alter n kind replicated) h = absurd h
calm_easy (write.Create n kind replicated latest) h = absurd h
calm_easy (write.Seek n i) h = absurd h
calm_easy (write.Append e) h = tt
calm_easy (write.Delete n) h = tt
calm_easy (write.Acks n is) h = tt
calm_easy (write.ReplicatorAck y i) h = tt
calm_easy (write.SessionNumber y n) h = tt
calm_easy write.Ledger h = tt

pub named_fact : (F : Subscription → Type 0) (n : List ℕ) (f : Subscription → Subscription) (v : Subscription) → (F v → F (f v)) → F v → F (at_name n f v)
named_fact F n f v k h = on_if F (bytes_eq v.name n) (f v) v (k h) h

pub easy_written : (mine : Makes) (es : List Entry) (num : ℕ → ℕ) (sent : ℕ → List Packet) (v : Subscription) (w : Write) → EasyWrite w → SubFact mine es num sent v
    → SubFact mine es num sent (sub_written v w)
easy_written mine es num sent v (write.Alter n kind replicated) e h = absurd e
easy_written mine es num sent v (write.Create n kind replicated latest) e h = absurd e
easy_written mine es num sent v (write.Acks n is) e h =
    named_fact (SubFact mine es num sent) n (with_acks is) v (λ h. record { consumers = h.consumers; out = h.out }) h
easy_written mine es num sent v (write.Seek n i) e h =
    named_fact (SubFact mine es num sent) n (sought i) v (λ h. record { consumers = h.consumers; out = h.out }) h
easy_written mine es num sent v (write.Append x) e h = h
easy_written mine es num sent v (write.Delete n) e h = h
easy_written mine es num sent v (write.ReplicatorAck y i) e h = h
easy_written mine es num sent v (write.SessionNumber y n) e h = h
easy_written mine es num sent v write.Ledger e h = h

pub easy_after : (mine : Makes) (es : List Entry) (num : ℕ → ℕ) (sent : ℕ → List Packet) (v : Subscription) (ws : List Write) → Each EasyWrite ws → SubFact mine es num sent v
    → SubFact mine es num sent (sub_after v ws)
easy_after mine es num sent v [] e h = h
easy_after mine es num sent v (w ∷ ws) e h = easy_after mine es num sent (sub_written v w) ws e.1 (easy_written mine es num sent v w e.0 h)

pub easy_changed : (mine : Makes) (es : List Entry) (num : ℕ → ℕ) (sent : ℕ → List Packet) (v : Subscription) (ch : Change) → EasyChange ch → SubFact mine es num sent v
    → SubFact mine es num sent (sub_changed v ch)
easy_changed mine es num sent v (change.Attach n k) e h = absurd e
easy_changed mine es num sent v (change.Given n i at) e h = absurd e
easy_changed mine es num sent v (change.Detach c) e h = detached_fact mine es num sent c v h
easy_changed mine es num sent v (change.Permit n c permits) e h = named_fact (SubFact mine es num sent) n (permitted c permits) v (permitted_fact mine es num sent c permits v) h
easy_changed mine es num sent v (change.Skipped n i) e h = named_fact (SubFact mine es num sent) n (skipped_index i) v (λ h. record { consumers = h.consumers; out = h.out }) h
easy_changed mine es num sent v (change.Cache n c) e h =
    named_fact (SubFact mine es num sent) n (λ s. record s { cache = cached s.cache c }) v (λ h. record { consumers = h.consumers; out = h.out }) h
easy_changed mine es num sent v (change.Acked n) e h = named_fact (SubFact mine es num sent) n after_acks v (acked_fact mine es num sent v) h
easy_changed mine es num sent v (change.Cleared n) e h = named_fact (SubFact mine es num sent) n cleared v (λ h. cleared_fact mine es num sent v) h
easy_changed mine es num sent v change.Forget e h = cleared_fact mine es num sent v
easy_changed mine es num sent v (change.Receiver x r) e h = h
easy_changed mine es num sent v (change.Client c s) e h = h
easy_changed mine es num sent v (change.Opening y) e h = h
easy_changed mine es num sent v (change.Opened y) e h = h
easy_changed mine es num sent v (change.Pend y i) e h = h
easy_changed mine es num sent v (change.ReadTo y i) e h = h
easy_changed mine es num sent v (change.Unpend y n) e h = h
easy_changed mine es num sent v (change.Building u) e h = h

pub easy_then : (mine : Makes) (es : List Entry) (num : ℕ → ℕ) (sent : ℕ → List Packet) (v : Subscription) (cs : List Change) → Each EasyChange cs → SubFact mine es num sent v
    → SubFact mine es num sent (sub_then v cs)
easy_then mine es num sent v [] e h = h
easy_then mine es num sent v (c ∷ cs) e h = easy_then mine es num sent (sub_changed v c) cs e.1 (easy_changed mine es num sent v c e.0 h)

pub record IsEasy (p : Plan) : Type 0 where
  pub writes : Each EasyWrite p.writes
  pub changes : Each EasyChange p.changes

pub easy_creates : (ws : List Write) → Each EasyWrite ws → Each CreatesNone ws
easy_creates [] h = tt
easy_creates (write.Alter n kind replicated ∷ ws) h = absurd h.0
easy_creates (write.Create n kind replicated latest ∷ ws) h = absurd h.0
easy_creates (write.Append e ∷ ws) h = (tt, easy_creates ws h.1)
easy_creates (write.Delete n ∷ ws) h = (tt, easy_creates ws h.1)
easy_creates (write.Acks n is ∷ ws) h = (tt, easy_creates ws h.1)
easy_creates (write.Seek n i ∷ ws) h = (tt, easy_creates ws h.1)
easy_creates (write.ReplicatorAck y i ∷ ws) h = (tt, easy_creates ws h.1)
easy_creates (write.SessionNumber y n ∷ ws) h = (tt, easy_creates ws h.1)
easy_creates (write.Ledger ∷ ws) h = (tt, easy_creates ws h.1)

pub easy_done : (mine : Makes) (es : List Entry) (num : ℕ → ℕ) (sent : ℕ → List Packet) (per : ℕ) (b : Broker) (p : Plan) → IsEasy p → AllSubs (SubFact mine es num sent) b
    → AllSubs (SubFact mine es num sent) (done per b p)
easy_done mine es num sent per b p e h =
    done_subs (SubFact mine es num sent) (SubFact mine es num sent) per b p (easy_creates p.writes e.writes)
    (λ v f. easy_then mine es num sent (sub_after v p.writes) p.changes e.changes (easy_after mine es num sent v p.writes e.writes f)) h

-- a new subscription has nobody
pub new_fact : (mine : Makes) (es : List Entry) (num : ℕ → ℕ) (sent : ℕ → List Packet) (n : List ℕ) (kind : SubKind) (replicated : Bool) (cursor : List ℕ)
    → SubFact mine es num sent (new_subscription n kind replicated cursor)
new_fact mine es num sent n kind replicated cursor = record { consumers = tt; out = tt }

pub created_done : (mine : Makes) (es : List Entry) (num : ℕ → ℕ) (sent : ℕ → List Packet) (per : ℕ) (b : Broker) (n : List ℕ) (kind : SubKind) (replicated latest : Bool) (p : Plan) → IsEasy p
    → AllSubs (SubFact mine es num sent) b → AllSubs (SubFact mine es num sent) (done per (written per b (write.Create n kind replicated latest)) p)
created_done mine es num sent per b n kind replicated latest p e h =
    easy_done mine es num sent per (written per b (write.Create n kind replicated latest)) p e
    (created_subs (SubFact mine es num sent) per b n kind replicated latest h (new_fact mine es num sent n kind replicated _))

-- ---- a consumer joins

-- each subscription of this name is of this kind
abbrev pub OfKind : List ℕ → SubKind → Subscription → Type 0
OfKind n kind u = bytes_eq u.name n ≡ true → u.kind ≡ kind

attach_one : (mine : Makes) (es : List Entry) (num : ℕ → ℕ) (sent : ℕ → List Packet) (n : List ℕ) (kind : SubKind) (k : Consumer) (u : Subscription) → mine n kind k.client k.id
    → SubFact mine es num sent u × OfKind n kind u → SubFact mine es num sent (at_name n (attached k) u)
attach_one mine es num sent n kind k u made h =
    on_test (SubFact mine es num sent) (bytes_eq u.name n) (attached k u) u
    (λ is.
    let name : n ≡ u.name = sym ((bytes_eq-Decides u.name n).0 is) in
    attached_fact mine es num sent k u (subst (λ (m : List ℕ). mine m u.kind k.client k.id) name (subst (λ (kd : SubKind). mine n kd k.client k.id) (sym (h.1 is)) made)) h.0)
    (λ other. h.0)

-- a subscription that may be joined has nobody, or is of the kind of who joins
free_same : (l a c : Bool) → l ≡ true → (l && (not a || c)) ≡ false → a ≡ true
free_same true true c l h = refl
free_same true false c l h = absurd (false≢true (sym h))
free_same false a c l h = absurd (false≢true l)

pub data Free (kind : SubKind) (v : Subscription) : Type 0 where
  Nobody : v.consumers ≡ [] → Free kind v
  OneKind : kind ≡ v.kind → Free kind v

pub free_is : (kind : SubKind) (v : Subscription) → is_busy kind v ≡ false → Free kind v
free_is kind v free = by v.consumers refl
  where
    by : (ks : List Consumer) → v.consumers ≡ ks → Free kind v
    by [] is = Free.Nobody is
    by (k ∷ ks) is =
        Free.OneKind (kind_is kind v.kind (free_same (nat_lt 0 (length (k ∷ ks))) (same_kind kind v.kind) (same_kind kind sub_kind.Exclusive) (lt-ltb 0 (length (k ∷ ks)) (omega arith))
        (subst (λ (js : List Consumer). (nat_lt 0 (length js) && (not (same_kind kind v.kind) || same_kind kind sub_kind.Exclusive)) ≡ false) is free)))

-- who has nobody has nothing out
none_out : (mine : Makes) (es : List Entry) (num : ℕ → ℕ) (sent : ℕ → List Packet) (v : Subscription) (P : Unacked → Type 0) → v.consumers ≡ [] → SubFact mine es num sent v → Each P v.out
none_out mine es num sent v P none h =
    each_map (OutFact es num sent v.kind v.consumers) P
    (λ o f. absurd (false≢true (subst (λ (ks : List Consumer). list_any (is_of o.client) ks ≡ true) none f.attached))) v.out h.out

pub alter_fact : (mine : Makes) (es : List Entry) (num : ℕ → ℕ) (sent : ℕ → List Packet) (kind : SubKind) (replicated : Bool) (v : Subscription) → Free kind v → SubFact mine es num sent v
    → SubFact mine es num sent (record v { kind = kind; replicated = replicated })
alter_fact mine es num sent kind replicated v (Free.Nobody none) h = record {
  consumers = subst (λ (ks : List Consumer). Each (IsMade mine v.name kind) ks) (sym none) tt;
  out = none_out mine es num sent v (OutFact es num sent kind v.consumers) none h;
}
alter_fact mine es num sent kind replicated v (Free.OneKind same) h = record {
  consumers = subst (λ (kd : SubKind). Each (IsMade mine v.name kd) v.consumers) (sym same) h.consumers;
  out = subst (λ (kd : SubKind). Each (OutFact es num sent kd v.consumers) v.out) (sym same) h.out;
}

-- the subscription that a name finds has that name
pub named_n : (b : Broker) (n : List ℕ) (v : Subscription) → sub_named b.subs n ≡ Some v → v.name ≡ n
named_n b n v named = (bytes_eq-Decides v.name n).0 (named_is b.subs n v named)

pub joined_done : (mine : Makes) (es : List Entry) (num : ℕ → ℕ) (sent : ℕ → List Packet) (per : ℕ) (b : Broker) (n : List ℕ) (kind : SubKind) (k : Consumer) (v : Subscription) (os : List Out)
    → mine n kind k.client k.id → NamesApart b.subs → sub_named b.subs n ≡ Some v → kind ≡ v.kind → AllSubs (SubFact mine es num sent) b
    → AllSubs (SubFact mine es num sent) (done per b (plan_of [] (change.Attach n k ∷ []) os))
joined_done mine es num sent per b n kind k v os made apart named same h =
    let F : Subscription → Type 0 = SubFact mine es num sent in
    done_subs (λ u. F u × Only v u) F per b (plan_of [] (change.Attach n k ∷ []) os) tt
    (λ u f. attach_one mine es num sent n kind k u made (
      f.0,
      λ is.
          let is' : bytes_eq u.name v.name ≡ true = subst (λ (m : List ℕ). bytes_eq u.name m ≡ true) (sym (named_n b n v named)) is in
          subst (λ (x : Subscription). x.kind ≡ kind) (sym (f.1 is')) (sym same),
    ))
    (each_and F (Only v) b.subs h (only_named b.subs n v apart named))

pub altered_done : (mine : Makes) (es : List Entry) (num : ℕ → ℕ) (sent : ℕ → List Packet) (per : ℕ) (b : Broker) (n : List ℕ) (kind : SubKind) (replicated : Bool) (k : Consumer) (v : Subscription)
    (os : List Out) → mine n kind k.client k.id → NamesApart b.subs → sub_named b.subs n ≡ Some v → Free kind v → AllSubs (SubFact mine es num sent) b
    → AllSubs (SubFact mine es num sent) (done per b (plan_of (write.Alter v.name kind replicated ∷ []) (change.Attach n k ∷ []) os))
altered_done mine es num sent per b n kind replicated k v os made apart named free h =
    let F : Subscription → Type 0 = SubFact mine es num sent in
    done_subs (λ u. F u × Only v u) F per b (plan_of (write.Alter v.name kind replicated ∷ []) (change.Attach n k ∷ []) os) (tt, tt)
    (λ u f. attach_one mine es num sent n kind k _ made (altered u f)) (each_and F (Only v) b.subs h (only_named b.subs n v apart named))
  where
    alter : Subscription → Subscription
    alter u = record u { kind = kind; replicated = replicated }

    altered : (u : Subscription) → SubFact mine es num sent u × Only v u → SubFact mine es num sent (at_name v.name alter u) × OfKind n kind (at_name v.name alter u)
    altered u f =
        on_test (λ (x : Subscription). SubFact mine es num sent x × OfKind n kind x) (bytes_eq u.name v.name) (alter u) u
        (λ is. (subst (λ (x : Subscription). SubFact mine es num sent (alter x)) (sym (f.1 is)) (alter_fact mine es num sent kind replicated v free (subst (SubFact mine es num sent) (f.1 is) f.0)), λ e. refl))
        (λ other. (f.0, λ e. absurd (false≢true (sym other ∙ subst (λ (m : List ℕ). bytes_eq u.name m ≡ true) (sym (named_n b n v named)) e))))

pub none_named : (vs : List Subscription) (n : List ℕ) → sub_named vs n ≡ None → Each (λ (u : Subscription). bytes_eq u.name n ≡ false) vs
none_named [] n h = tt
none_named (v ∷ vs) n h = by (bytes_eq v.name n) refl h (none_named vs n)
  where
    by : (t : Bool) → bytes_eq v.name n ≡ t → (if t then Some v else sub_named vs n) ≡ None → (sub_named vs n ≡ None → Each (λ (u : Subscription). bytes_eq u.name n ≡ false) vs)
        → Each (λ (u : Subscription). bytes_eq u.name n ≡ false) (v ∷ vs)
    by true is e ih = absurd (none-some v (sym e))
    by false is e ih = (is, ih e)

pub made_done : (mine : Makes) (es : List Entry) (num : ℕ → ℕ) (sent : ℕ → List Packet) (per : ℕ) (b : Broker) (n : List ℕ) (kind : SubKind) (replicated latest : Bool) (k : Consumer) (os : List Out)
    → mine n kind k.client k.id → sub_named b.subs n ≡ None → AllSubs (SubFact mine es num sent) b
    → AllSubs (SubFact mine es num sent) (done per b (plan_of (write.Create n kind replicated latest ∷ []) (change.Attach n k ∷ []) os))
made_done mine es num sent per b n kind replicated latest k os made none h =
    let F : Subscription → Type 0 = SubFact mine es num sent in
    let G : Subscription → Type 0 = λ u. F u × OfKind n kind u in
    done_subs G F per (written per b (write.Create n kind replicated latest)) (plan_of [] (change.Attach n k ∷ []) os) tt
    (λ u f. attach_one mine es num sent n kind k u made f)
    (created_subs G per b n kind replicated latest
    (each_and F (OfKind n kind) b.subs h (each_map (λ (u : Subscription). bytes_eq u.name n ≡ false) (OfKind n kind) (λ u other e. absurd (false≢true (sym other ∙ e))) b.subs (none_named b.subs n none)))
    (new_fact mine es num sent n kind replicated _, λ e. refl))

-- ---- a message is given
pub gave_done : (mine : Makes) (es : List Entry) (num : ℕ → ℕ) (sent : ℕ → List Packet) (per : ℕ) (b : Broker) (n : List ℕ) (i at : ℕ) (v : Subscription) (key : List ℕ) (os : List Out)
    → NamesApart b.subs → sub_named b.subs n ≡ Some v → pick v.kind v.consumers key ≡ Some at
    → GivenTo es (num (consumer_at v.consumers at).client) (sent (consumer_at v.consumers at).client) (consumer_at v.consumers at).id i
    → AllSubs (SubFact mine es num sent) b → AllSubs (SubFact mine es num sent) (done per b (plan_of [] (change.Given v.name i at ∷ []) os))
gave_done mine es num sent per b n i at v key os apart named picked new h =
    let F : Subscription → Type 0 = SubFact mine es num sent in
    done_subs (λ u. F u × Only v u) F per b (plan_of [] (change.Given v.name i at ∷ []) os) tt
    (λ u f. on_test F (bytes_eq u.name v.name) (given i at u) u
    (λ is. subst (λ (x : Subscription). F (given i at x)) (sym (f.1 is)) (given_fact mine es num sent i at v key picked new (subst F (f.1 is) f.0))) (λ other. f.0))
    (each_and F (Only v) b.subs h (only_named b.subs n v apart named))

-- ---- numbers of sessions

abbrev pub numbers : Broker → ℕ → ℕ
numbers b c = number_of (session_at b c)

abbrev pub KeepsSessions : Change → Type 0
KeepsSessions (change.Client c s) = ⊥
KeepsSessions change.Forget = ⊥
KeepsSessions ch = Unit {0}

written_sessions : (per : ℕ) (b : Broker) (w : Write) → (written per b w).sessions ≡ b.sessions
written_sessions per b (write.Create n kind replicated latest) = on_if (λ (c : Broker). c.sessions ≡ b.sessions) (is_some (sub_named b.subs n)) _ _ refl refl
written_sessions per b w = refl

pub all_written_sessions : (per : ℕ) (b : Broker) (ws : List Write) → (all_written per b ws).sessions ≡ b.sessions
all_written_sessions per b [] = refl
all_written_sessions per b (w ∷ ws) = all_written_sessions per (written per b w) ws ∙ written_sessions per b w

changed_sessions : (b : Broker) (ch : Change) → KeepsSessions ch → (changed b ch).sessions ≡ b.sessions
changed_sessions b (change.Client c s) k = absurd k
changed_sessions b change.Forget k = absurd k
changed_sessions b (change.Attach n x) k = refl
changed_sessions b ch k = refl

pub all_changed_sessions : (b : Broker) (cs : List Change) → Each KeepsSessions cs → (all_changed b cs).sessions ≡ b.sessions
all_changed_sessions b [] k = refl
all_changed_sessions b (c ∷ cs) k = all_changed_sessions (changed b c) cs k.1 ∙ changed_sessions b c k.0

pub same_numbers : (num num' : ℕ → ℕ) → ((c : ℕ) → num' c ≡ num c) → (vs : List Subscription) → Each (SameNumbers num num') vs
same_numbers num num' same [] = tt
same_numbers num num' same (v ∷ vs) = (all v.out, same_numbers num num' same vs)
  where
    all : (os : List Unacked) → Each (λ (o : Unacked). num' o.client ≡ num o.client) os
    all [] = tt
    all (o ∷ os) = (same o.client, all os)

pub kept_numbers : (per : ℕ) (b : Broker) (p : Plan) → Each KeepsSessions p.changes → AllSubs (SameNumbers (numbers b) (numbers (done per b p))) (done per b p)
kept_numbers per b p k =
    same_numbers (numbers b) (numbers (done per b p))
    (λ c. ap (λ (ss : List (Option Session)). number_of (slice_index_or ss c None)) (all_changed_sessions (all_written per b p.writes) p.changes k ∙ all_written_sessions per b p.writes)) (done per b p).subs

-- the session of a client whose consumers left becomes another one
pub left_numbers : (per : ℕ) (b : Broker) (c : ℕ) (o : Option Session) (os : List Out)
    → AllSubs (SameNumbers (numbers b) (numbers (done per b (plan_of [] (change.Detach c ∷ change.Client c o ∷ []) os)))) (done per b (plan_of [] (change.Detach c ∷ change.Client c o ∷ []) os))
left_numbers per b c o os = each_made (SameNumbers (numbers b) num') (detached c) one b.subs
  where
    num' : ℕ → ℕ
    num' z = number_of (slice_index_or (slice_set b.sessions c o) z None)

    other : (z : ℕ) → (z == c) ≡ false → num' z ≡ numbers b z
    other z differ =
        at_set (λ (x : Option Session). number_of x ≡ numbers b z) b.sessions c z o None (λ same. absurd (false≢true (sym differ ∙ eq-eqb z c (sym same)))) refl

    one : (v : Subscription) → SameNumbers (numbers b) num' (detached c v)
    one v = each_map (λ (x : Unacked). (x.client == c) ≡ false) (λ (x : Unacked). num' x.client ≡ numbers b x.client) (λ x differ. other x.client differ) (detached c v).out (detached_none c v)

-- its producers change
pub producer_numbers : (per : ℕ) (b : Broker) (c : ℕ) (s s' : Session) (os : List Out) → session_at b c ≡ Some s → s'.number ≡ s.number
    → AllSubs (SameNumbers (numbers b) (numbers (done per b (plan_of [] (change.Client c (Some s') ∷ []) os)))) (done per b (plan_of [] (change.Client c (Some s') ∷ []) os))
producer_numbers per b c s s' os at same =
    same_numbers (numbers b) (λ z. number_of (slice_index_or (slice_set b.sessions c (Some s')) z None))
    (λ z. at_set (λ (x : Option Session). number_of x ≡ numbers b z) b.sessions c z (Some s') None
    (λ is. same ∙ sym (ap number_of at) ∙ ap (numbers b) is) refl) b.subs

-- a start forgets them all
pub forgotten_numbers : (num num' : ℕ → ℕ) (b : Broker) → AllSubs (SameNumbers num num') (changed b change.Forget)
forgotten_numbers num num' b = forgotten_subs (SameNumbers num num') b (λ v. tt)
