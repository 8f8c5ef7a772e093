-- What each plan of a broker leaves of a subscription where what is sent rises: one lemma for each form that a plan has.
use Rattle.std.proofs.Common.{◌≡◌, ℕ, ◌+◌, ◌<◌, Bool, true, false, List, [], ◌∷◌, filter, refl, sym, subst, ◌∙◌, ◌==◌, inl, inr, not}
use Rattle.std.specs.Prelude.{Some, None, ◌||◌, max, nat_le}
use Rattle.std.specs.List.{list_any}
use Rattle.std.specs.Str.{bytes_eq}
use Rattle.std.proofs.lemmas.Bool.{false≢true}
use Rattle.std.proofs.lemmas.Slice.Eq.{bytes_eq-Decides}
use Rattle.world_laws.proofs.Types.{Change, Consumer, Entry, Out, Packet, SubKind, Write}
use Rattle.world_laws.proofs.Types.change
use Rattle.world_laws.proofs.Types.write
use Rattle.geo_base.specs.Broker.{Broker, Site, sub_named, written}
use Rattle.geo_base.specs.Cache.{cached}
use Rattle.geo_base.specs.Cursor.{has}
use Rattle.geo_base.specs.Dispatcher.{consumer_at, given, is_due, skipped_index, pick}
use Rattle.geo_base.specs.Plan.{Plan, done, plan_of}
use Rattle.geo_base.specs.Settled.{serves_one}
use Rattle.geo_base.specs.Subscription.{Subscription, after_acks, attached, cleared, is_attached, new_subscription, permitted, sought, with_acks}
use Rattle.world_laws.proofs.Dispatching.Remembers.{has_still}
use Rattle.world_laws.proofs.Dispatching.SubFrames.{AllSubs, CreatesNone, NamesApart, Only, at_name, created_subs, done_subs, each_and, only_named, sub_after, sub_changed, sub_then, sub_written}
use Rattle.world_laws.proofs.Replicating.Cursors.{either, or_left, or_right}
use Rattle.world_laws.proofs.Replicating.Effects.{Each, each_map}
use Rattle.world_laws.proofs.Walks.Shapes.{Updates}
use Rattle.world_laws.proofs.Walks.Walk.{on_if, on_test}
use Rattle.consumer_laws.proofs.Subscriptions.Plans.{CalmWrite, EasyChange, Free, OfKind, alter_fact, easy_changed, easy_written, named_n, new_fact, none_named}
use Rattle.consumer_laws.proofs.Subscriptions.WhatIsOut.{GivenTo, Makes, SubFact, attached_fact, cleared_fact, given_fact}
use Rattle.consumer_laws.proofs.Rising.Subs.{Apart, NoneTo, RiseFact, RiseOf, fewer_fact, less_due, rise_altered, rise_attached, rise_cleared, rise_detached, rise_given, rise_permitted}
use Rattle.geo_base.proofs.Sums.{le_of_max}

-- what is out, and what rises
abbrev pub OutRises : Makes → List Entry → (ℕ → ℕ → Type 0) → List ℕ → (ℕ → ℕ) → (ℕ → List Packet) → Subscription → Type 0
OutRises mine es joined ls num sent v = SubFact mine es num sent v × RiseFact joined ls num sent v

calm_creates : (ws : List Write) → Each CalmWrite ws → Each CreatesNone ws
calm_creates [] h = tt
calm_creates (write.Alter n kind replicated ∷ ws) h = absurd h.0
calm_creates (write.Create n kind replicated latest ∷ ws) h = absurd h.0
calm_creates (write.Seek n i ∷ ws) h = absurd h.0
calm_creates (write.Append e ∷ ws) h = (tt, calm_creates ws h.1)
calm_creates (write.Delete n ∷ ws) h = (tt, calm_creates ws h.1)
calm_creates (write.Acks n is ∷ ws) h = (tt, calm_creates ws h.1)
calm_creates (write.ReplicatorAck y i ∷ ws) h = (tt, calm_creates ws h.1)
calm_creates (write.SessionNumber y n ∷ ws) h = (tt, calm_creates ws h.1)
calm_creates (write.Ledger ∷ ws) h = (tt, calm_creates ws h.1)

-- ---- what is due falls

or_falls : (a b c d : Bool) → (c ≡ true → a ≡ true) → (d ≡ true → b ≡ true) → (a || b) ≡ false → (c || d) ≡ false
or_falls true b c d f g h = absurd (false≢true (sym h))
or_falls false true c d f g h = absurd (false≢true (sym h))
or_falls false false true d f g h = absurd (false≢true (f refl))
or_falls false false false true f g h = absurd (false≢true (g refl))
or_falls false false false false f g h = refl

has_filtered : (p : ℕ → Bool) (is : List ℕ) (j : ℕ) → has (filter p is) j ≡ true → has is j ≡ true
has_filtered p [] j h = h
has_filtered p (i ∷ is) j h =
    on_if (λ (l : List ℕ). has l j ≡ true → has (i ∷ is) j ≡ true) (p i) (i ∷ filter p is) (filter p is)
    (λ g. elim (either (i == j) (has (filter p is) j) g) [ inl e ↦ or_left (i == j) (has is j) e | inr k ↦ or_right (i == j) (has is j) (has_filtered p is j k) ])
    (λ g. or_right (i == j) (has is j) (has_filtered p is j g)) h

pub passed_less : (i : ℕ) (v : Subscription) (j : ℕ) → is_due v j ≡ false → is_due (skipped_index i v) j ≡ false
passed_less i v j h =
    less_due v (skipped_index i v) (λ k c. c)
    (λ k g. or_falls (has v.due k) (nat_le v.read_index k) (has (filter (λ m. not (m == i)) v.due) k) (nat_le (max v.read_index (i + 1)) k) (has_filtered (λ m. not (m == i)) v.due k) (le_of_max v.read_index i k) g) j h

acked_less : (v : Subscription) (j : ℕ) → is_due v j ≡ false → is_due (after_acks v) j ≡ false
acked_less v j h =
    less_due v (after_acks v) (λ k c. c)
    (λ k g. or_falls (has v.due k) (nat_le v.read_index k) (has (filter (λ m. not (has v.cursor m)) v.due) k) (nat_le v.read_index k) (has_filtered (λ m. not (has v.cursor m)) v.due k) (λ d. d) g) j h

-- ---- writes and changes

named_both : (F : Subscription → Type 0) (n : List ℕ) (f : Subscription → Subscription) (v : Subscription) → (F v → F (f v)) → F v → F (at_name n f v)
named_both F n f v k h = on_if F (bytes_eq v.name n) (f v) v (k h) h

calm_written : (mine : Makes) (es : List Entry) (joined : ℕ → ℕ → Type 0) (ls : List ℕ) (num : ℕ → ℕ) (sent : ℕ → List Packet) (v : Subscription) (w : Write) → CalmWrite w
    → OutRises mine es joined ls num sent v → OutRises mine es joined ls num sent (sub_written v w)
calm_written mine es joined ls num sent v (write.Alter n kind replicated) e h = absurd e
calm_written mine es joined ls num sent v (write.Create n kind replicated latest) e h = absurd e
calm_written mine es joined ls num sent v (write.Seek n i) e h = absurd e
calm_written mine es joined ls num sent v (write.Acks n is) e h = (
  easy_written mine es num sent v (write.Acks n is) tt h.0,
  named_both (RiseFact joined ls num sent) n (with_acks is) v
      (fewer_fact joined ls num sent v (with_acks is v) refl refl (less_due v (with_acks is v) (λ j c. has_still is v.cursor j c) (λ j g. g))) h.1,
)
calm_written mine es joined ls num sent v (write.Append x) e h = h
calm_written mine es joined ls num sent v (write.Delete n) e h = h
calm_written mine es joined ls num sent v (write.ReplicatorAck y i) e h = h
calm_written mine es joined ls num sent v (write.SessionNumber y n) e h = h
calm_written mine es joined ls num sent v write.Ledger e h = h

calm_after : (mine : Makes) (es : List Entry) (joined : ℕ → ℕ → Type 0) (ls : List ℕ) (num : ℕ → ℕ) (sent : ℕ → List Packet) (v : Subscription) (ws : List Write) → Each CalmWrite ws
    → OutRises mine es joined ls num sent v → OutRises mine es joined ls num sent (sub_after v ws)
calm_after mine es joined ls num sent v [] e h = h
calm_after mine es joined ls num sent v (w ∷ ws) e h = calm_after mine es joined ls num sent (sub_written v w) ws e.1 (calm_written mine es joined ls num sent v w e.0 h)

rise_changed : (mine : Makes) (es : List Entry) (joined : ℕ → ℕ → Type 0) (ls : List ℕ) (num : ℕ → ℕ) (sent : ℕ → List Packet) (v : Subscription) (ch : Change) → EasyChange ch
    → SubFact mine es num sent v → RiseFact joined ls num sent v → RiseFact joined ls num sent (sub_changed v ch)
rise_changed mine es joined ls num sent v (change.Attach n k) e out h = absurd e
rise_changed mine es joined ls num sent v (change.Given n i at) e out h = absurd e
rise_changed mine es joined ls num sent v (change.Detach c) e out h = rise_detached mine es joined ls num sent c v out h
rise_changed mine es joined ls num sent v (change.Permit n c permits) e out h = named_both (RiseFact joined ls num sent) n (permitted c permits) v (rise_permitted joined ls num sent c permits v) h
rise_changed mine es joined ls num sent v (change.Skipped n i) e out h =
    named_both (RiseFact joined ls num sent) n (skipped_index i) v (fewer_fact joined ls num sent v (skipped_index i v) refl refl (passed_less i v)) h
rise_changed mine es joined ls num sent v (change.Cache n c) e out h =
    named_both (RiseFact joined ls num sent) n (λ s. record s { cache = cached s.cache c }) v (fewer_fact joined ls num sent v (record v { cache = cached v.cache c }) refl refl (λ j g. g)) h
rise_changed mine es joined ls num sent v (change.Acked n) e out h =
    named_both (RiseFact joined ls num sent) n after_acks v (fewer_fact joined ls num sent v (after_acks v) refl refl (acked_less v)) h
rise_changed mine es joined ls num sent v (change.Cleared n) e out h = named_both (RiseFact joined ls num sent) n cleared v (λ g. rise_cleared joined ls num sent v) h
rise_changed mine es joined ls num sent v change.Forget e out h = rise_cleared joined ls num sent v
rise_changed mine es joined ls num sent v (change.Receiver x r) e out h = h
rise_changed mine es joined ls num sent v (change.Client c s) e out h = h
rise_changed mine es joined ls num sent v (change.Opening y) e out h = h
rise_changed mine es joined ls num sent v (change.Opened y) e out h = h
rise_changed mine es joined ls num sent v (change.Pend y i) e out h = h
rise_changed mine es joined ls num sent v (change.ReadTo y i) e out h = h
rise_changed mine es joined ls num sent v (change.Unpend y n) e out h = h
rise_changed mine es joined ls num sent v (change.Building u) e out h = h

calm_then : (mine : Makes) (es : List Entry) (joined : ℕ → ℕ → Type 0) (ls : List ℕ) (num : ℕ → ℕ) (sent : ℕ → List Packet) (v : Subscription) (cs : List Change) → Each EasyChange cs
    → OutRises mine es joined ls num sent v → OutRises mine es joined ls num sent (sub_then v cs)
calm_then mine es joined ls num sent v [] e h = h
calm_then mine es joined ls num sent v (c ∷ cs) e h =
    calm_then mine es joined ls num sent (sub_changed v c) cs e.1 (easy_changed mine es num sent v c e.0 h.0, rise_changed mine es joined ls num sent v c e.0 h.0 h.1)

pub calm_done : (mine : Makes) (es : List Entry) (joined : ℕ → ℕ → Type 0) (ls : List ℕ) (num : ℕ → ℕ) (sent : ℕ → List Packet) (per : ℕ) (b : Broker) (p : Plan) → Each CalmWrite p.writes
    → Each EasyChange p.changes → AllSubs (OutRises mine es joined ls num sent) b → AllSubs (OutRises mine es joined ls num sent) (done per b p)
calm_done mine es joined ls num sent per b p ws cs h =
    done_subs (OutRises mine es joined ls num sent) (OutRises mine es joined ls num sent) per b p (calm_creates p.writes ws)
    (λ v f. calm_then mine es joined ls num sent (sub_after v p.writes) p.changes cs (calm_after mine es joined ls num sent v p.writes ws f)) h

fresh_both : (mine : Makes) (es : List Entry) (joined : ℕ → ℕ → Type 0) (ls : List ℕ) (num : ℕ → ℕ) (sent : ℕ → List Packet) (n : List ℕ) (kind : SubKind) (replicated : Bool) (cursor : List ℕ)
    → OutRises mine es joined ls num sent (new_subscription n kind replicated cursor)
fresh_both mine es joined ls num sent n kind replicated cursor = (new_fact mine es num sent n kind replicated cursor, record { joins = tt; one = λ one. (tt, tt) })

pub new_done : (mine : Makes) (es : List Entry) (joined : ℕ → ℕ → Type 0) (ls : List ℕ) (num : ℕ → ℕ) (sent : ℕ → List Packet) (per : ℕ) (b : Broker) (n : List ℕ) (kind : SubKind) (replicated latest : Bool) (p : Plan)
    → Each CalmWrite p.writes → Each EasyChange p.changes → AllSubs (OutRises mine es joined ls num sent) b
    → AllSubs (OutRises mine es joined ls num sent) (done per (written per b (write.Create n kind replicated latest)) p)
new_done mine es joined ls num sent per b n kind replicated latest p ws cs h =
    calm_done mine es joined ls num sent per (written per b (write.Create n kind replicated latest)) p ws cs
    (created_subs (OutRises mine es joined ls num sent) per b n kind replicated latest h (fresh_both mine es joined ls num sent n kind replicated _))

-- ---- a seek

sought_both : (mine : Makes) (es : List Entry) (joined : ℕ → ℕ → Type 0) (ls : List ℕ) (num : ℕ → ℕ) (sent : ℕ → List Packet) (n : List ℕ) (i : ℕ) (u : Subscription) → OutRises mine es joined ls num sent u
    → OutRises mine es joined ls num sent (at_name n cleared (at_name n (sought i) u))
sought_both mine es joined ls num sent n i u h = (
  named_both (SubFact mine es num sent) n cleared x (λ g. cleared_fact mine es num sent x) (easy_written mine es num sent u (write.Seek n i) tt h.0),
  on_test (RiseFact joined ls num sent) (bytes_eq x.name n) (cleared x) x (λ is. rise_cleared joined ls num sent x)
      (on_test (λ (y : Subscription). bytes_eq y.name n ≡ false → RiseFact joined ls num sent y) (bytes_eq u.name n) (sought i u) u (λ is other. absurd (false≢true (sym other ∙ is))) (λ off other. h.1)),
)
  where
    x : Subscription
    x = at_name n (sought i) u

pub sought_done : (mine : Makes) (es : List Entry) (joined : ℕ → ℕ → Type 0) (ls : List ℕ) (num : ℕ → ℕ) (sent : ℕ → List Packet) (per : ℕ) (h : Site) (b : Broker) (n : List ℕ) (i : ℕ) (v : Subscription) (ws : List Write)
    → Updates h b v ws → AllSubs (OutRises mine es joined ls num sent) b
    → AllSubs (OutRises mine es joined ls num sent) (done per b (plan_of (write.Seek n i ∷ ws) (change.Cleared n ∷ []) []))
sought_done mine es joined ls num sent per h b n i v ws Updates.NoUpdate f =
    done_subs (OutRises mine es joined ls num sent) (OutRises mine es joined ls num sent) per b (plan_of (write.Seek n i ∷ []) (change.Cleared n ∷ []) []) (tt, tt) (λ u g. sought_both mine es joined ls num sent n i u g) f
sought_done mine es joined ls num sent per h b n i v ws (Updates.Update cut replicated passed) f =
    done_subs (OutRises mine es joined ls num sent) (OutRises mine es joined ls num sent) per b (plan_of (write.Seek n i ∷ ws) (change.Cleared n ∷ []) []) (tt, (tt, tt)) (λ u g. sought_both mine es joined ls num sent n i u g) f

-- ---- a consumer joins

none_any : {X : Type 0} (p : X → Bool) (xs : List X) → list_any p xs ≡ false → Each (λ x. p x ≡ false) xs
none_any p [] h = tt
none_any p (x ∷ xs) h = (first_off (p x) (list_any p xs) h, none_any p xs (second_off (p x) (list_any p xs) h))
  where
    first_off : (a b : Bool) → (a || b) ≡ false → a ≡ false
    first_off true b e = e
    first_off false b e = refl

    second_off : (a b : Bool) → (a || b) ≡ false → b ≡ false
    second_off true b e = absurd (false≢true (sym e))
    second_off false b e = e

-- who joins: made by its client, by a SUBSCRIBE that was taken, with nothing sent to it
pub record MayAttach (mine : Makes) (joined : ℕ → ℕ → Type 0) (num : ℕ → ℕ) (sent : ℕ → List Packet) (n : List ℕ) (kind : SubKind) (k : Consumer) (vs : List Subscription) : Type 0 where
  pub made : mine n kind k.client k.id
  pub joins : joined k.client k.id
  pub none : NoneTo num sent k
  pub free : list_any (is_attached k.client) vs ≡ false

abbrev IsFree : Consumer → Subscription → Type 0
IsFree k u = is_attached k.client u ≡ false

attach_both : (mine : Makes) (es : List Entry) (joined : ℕ → ℕ → Type 0) (ls : List ℕ) (num : ℕ → ℕ) (sent : ℕ → List Packet) (n : List ℕ) (kind : SubKind) (k : Consumer) (vs : List Subscription) (u : Subscription)
    → MayAttach mine joined num sent n kind k vs → OutRises mine es joined ls num sent u → OfKind n kind u → IsFree k u → OutRises mine es joined ls num sent (at_name n (attached k) u)
attach_both mine es joined ls num sent n kind k vs u m h of_kind free =
    on_test (OutRises mine es joined ls num sent) (bytes_eq u.name n) (attached k u) u
    (λ is.
    let name : n ≡ u.name = sym ((bytes_eq-Decides u.name n).0 is) in (
      attached_fact mine es num sent k u (subst (λ (a : List ℕ). mine a u.kind k.client k.id) name (subst (λ (kd : SubKind). mine n kd k.client k.id) (sym (of_kind is)) m.made)) h.0,
      rise_attached joined ls num sent k u m.joins m.none free h.1,
    ))
    (λ other. h)

pub joins_done : (mine : Makes) (es : List Entry) (joined : ℕ → ℕ → Type 0) (ls : List ℕ) (num : ℕ → ℕ) (sent : ℕ → List Packet) (per : ℕ) (b : Broker) (n : List ℕ) (kind : SubKind) (k : Consumer) (v : Subscription)
    (os : List Out) → MayAttach mine joined num sent n kind k b.subs → NamesApart b.subs → sub_named b.subs n ≡ Some v → kind ≡ v.kind → AllSubs (OutRises mine es joined ls num sent) b
    → AllSubs (OutRises mine es joined ls num sent) (done per b (plan_of [] (change.Attach n k ∷ []) os))
joins_done mine es joined ls num sent per b n kind k v os m apart named same h =
    let F : Subscription → Type 0 = OutRises mine es joined ls num sent in
    done_subs (λ u. (F u × Only v u) × IsFree k u) F per b (plan_of [] (change.Attach n k ∷ []) os) tt
    (λ u f. attach_both mine es joined ls num sent n kind k b.subs u m f.0.0
    (λ is.
    let is' : bytes_eq u.name v.name ≡ true = subst (λ (a : List ℕ). bytes_eq u.name a ≡ true) (sym (named_n b n v named)) is in
    subst (λ (x : Subscription). x.kind ≡ kind) (sym (f.0.1 is')) (sym same)) f.1)
    (each_and (λ u. F u × Only v u) (IsFree k) b.subs (each_and F (Only v) b.subs h (only_named b.subs n v apart named)) (none_any (is_attached k.client) b.subs m.free))

pub alters_done : (mine : Makes) (es : List Entry) (joined : ℕ → ℕ → Type 0) (ls : List ℕ) (num : ℕ → ℕ) (sent : ℕ → List Packet) (per : ℕ) (b : Broker) (n : List ℕ) (kind : SubKind) (replicated : Bool) (k : Consumer)
    (v : Subscription) (os : List Out) → MayAttach mine joined num sent n kind k b.subs → NamesApart b.subs → sub_named b.subs n ≡ Some v → Free kind v → AllSubs (OutRises mine es joined ls num sent) b
    → AllSubs (OutRises mine es joined ls num sent) (done per b (plan_of (write.Alter v.name kind replicated ∷ []) (change.Attach n k ∷ []) os))
alters_done mine es joined ls num sent per b n kind replicated k v os m apart named free h =
    let F : Subscription → Type 0 = OutRises mine es joined ls num sent in
    done_subs (λ u. (F u × Only v u) × IsFree k u) F per b (plan_of (write.Alter v.name kind replicated ∷ []) (change.Attach n k ∷ []) os) (tt, tt)
    (λ u f. let a = altered u f.0 f.1 in attach_both mine es joined ls num sent n kind k b.subs (at_name v.name alter u) m a.0 a.1 a.2)
    (each_and (λ u. F u × Only v u) (IsFree k) b.subs (each_and F (Only v) b.subs h (only_named b.subs n v apart named)) (none_any (is_attached k.client) b.subs m.free))
  where
    alter : Subscription → Subscription
    alter u = record u { kind = kind; replicated = replicated }

    altered : (u : Subscription) → OutRises mine es joined ls num sent u × Only v u → IsFree k u
        → OutRises mine es joined ls num sent (at_name v.name alter u) × OfKind n kind (at_name v.name alter u) × IsFree k (at_name v.name alter u)
    altered u f off =
        on_test (λ (x : Subscription). OutRises mine es joined ls num sent x × OfKind n kind x × IsFree k x) (bytes_eq u.name v.name) (alter u) u
        (λ is. (
          subst (λ (x : Subscription). OutRises mine es joined ls num sent (alter x)) (sym (f.1 is)) (
              let g = subst (OutRises mine es joined ls num sent) (f.1 is) f.0 in (alter_fact mine es num sent kind replicated v free g.0, rise_altered joined ls num sent kind replicated v free g.1)
              ),
          λ e. refl,
          off,
        ))
        (λ other. (f.0, λ e. absurd (false≢true (sym other ∙ subst (λ (a : List ℕ). bytes_eq u.name a ≡ true) (sym (named_n b n v named)) e)), off))

pub makes_done : (mine : Makes) (es : List Entry) (joined : ℕ → ℕ → Type 0) (ls : List ℕ) (num : ℕ → ℕ) (sent : ℕ → List Packet) (per : ℕ) (b : Broker) (n : List ℕ) (kind : SubKind) (replicated latest : Bool) (k : Consumer)
    (os : List Out) → MayAttach mine joined num sent n kind k b.subs → sub_named b.subs n ≡ None → AllSubs (OutRises mine es joined ls num sent) b
    → AllSubs (OutRises mine es joined ls num sent) (done per b (plan_of (write.Create n kind replicated latest ∷ []) (change.Attach n k ∷ []) os))
makes_done mine es joined ls num sent per b n kind replicated latest k os m none h =
    let F : Subscription → Type 0 = OutRises mine es joined ls num sent in
    let G : Subscription → Type 0 = λ u. (F u × OfKind n kind u) × IsFree k u in
    done_subs G F per (written per b (write.Create n kind replicated latest)) (plan_of [] (change.Attach n k ∷ []) os) tt
    (λ u f. attach_both mine es joined ls num sent n kind k b.subs u m f.0.0 f.0.1 f.1)
    (created_subs G per b n kind replicated latest
    (each_and (λ u. F u × OfKind n kind u) (IsFree k) b.subs
    (each_and F (OfKind n kind) b.subs h (each_map (λ (u : Subscription). bytes_eq u.name n ≡ false) (OfKind n kind) (λ u other e. absurd (false≢true (sym other ∙ e))) b.subs (none_named b.subs n none)))
    (none_any (is_attached k.client) b.subs m.free))
    ((fresh_both mine es joined ls num sent n kind replicated _, λ e. refl), refl))

-- ---- a message is given

pub gives_done : (mine : Makes) (es : List Entry) (joined : ℕ → ℕ → Type 0) (ls : List ℕ) (num : ℕ → ℕ) (sent : ℕ → List Packet) (per : ℕ) (b : Broker) (n : List ℕ) (i at : ℕ) (v : Subscription) (key : List ℕ) (os : List Out)
    → NamesApart b.subs → sub_named b.subs n ≡ Some v → pick v.kind v.consumers key ≡ Some at → 0 < (consumer_at v.consumers at).permits
    → GivenTo es (num (consumer_at v.consumers at).client) (sent (consumer_at v.consumers at).client) (consumer_at v.consumers at).id i
    → SubFact mine es num sent v → Each (λ (k : Consumer). joined k.client k.id) v.consumers
    → (serves_one v.kind ≡ true → Apart v.consumers × RiseOf ls num sent (is_due (given i at v)) v.consumers)
    → AllSubs (λ (u : Subscription). bytes_eq u.name v.name ≡ false → OutRises mine es joined ls num sent u) b
    → AllSubs (OutRises mine es joined ls num sent) (done per b (plan_of [] (change.Given v.name i at ∷ []) os))
gives_done mine es joined ls num sent per b n i at v key os apart named picked permit new out joins one h =
    let F : Subscription → Type 0 = OutRises mine es joined ls num sent in
    let H : Subscription → Type 0 = λ u. bytes_eq u.name v.name ≡ false → F u in
    done_subs (λ u. H u × Only v u) F per b (plan_of [] (change.Given v.name i at ∷ []) os) tt
    (λ u f. on_test F (bytes_eq u.name v.name) (given i at u) u
    (λ is. subst (λ (x : Subscription). F (given i at x)) (sym (f.1 is)) (given_fact mine es num sent i at v key picked new out, rise_given joined ls num sent i at v key picked permit joins one)) (λ other. f.0 other))
    (each_and H (Only v) b.subs h (only_named b.subs n v apart named))
