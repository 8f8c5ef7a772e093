-- What is out: with a consumer that is attached, and where one consumer at a time is served, with the first, to whom a message of it was
-- sent in the session that its client has open. What each change in memory does to that, of one subscription.
use Rattle.std.proofs.Common.{◌≡◌, ℕ, zero, suc, ◌+◌, ◌<◌, Bool, true, false, List, [], ◌∷◌, ◌++◌, filter, map, refl, sym, ap, subst, ◌∙◌, ◌==◌, arith, not}
use Rattle.std.specs.Prelude.{Option, Some, None, if◌then◌else◌, ◌||◌, cond, drop, min, nat_lt, slice_get, slice_set, take}
use Rattle.std.specs.List.{list_any}
use Rattle.std.proofs.lemmas.Bool.{eqb-true, false≢true}
use Rattle.std.proofs.lemmas.Option.{none-some, same_Some}
use Rattle.world_laws.proofs.Types.{Consumer, Entry, Unacked, Packet, ClusterRef, Position, SubKind}
use Rattle.world_laws.proofs.Types.frame
use Rattle.world_laws.proofs.Types.sub_kind
use Rattle.geo_base.specs.Cursor.{has}
use Rattle.geo_base.specs.Dispatcher.{consumer_at, given, if_permitted, pick, served, used, with_out}
use Rattle.geo_base.specs.Settled.{serves_one}
use Rattle.geo_base.specs.Subscribing.{same_kind}
use Rattle.geo_base.specs.Subscription.{Subscription, after_acks, attached, cleared, detached, is_of, most_permits, permitted}
use Rattle.world_laws.proofs.Dispatching.Dispatched.{permitted_there, served_stay}
use Rattle.world_laws.proofs.Replicating.Effects.{Each, each_both, each_map}
use Rattle.world_laws.proofs.OnceInOrder.Members.{get_left}
use Rattle.world_laws.proofs.Merges.PeerWalk.{each_filter, pick_has}
use Rattle.world_laws.proofs.Dispatching.Remembers.{any_kept, any_left, not_false}
use Rattle.world_laws.proofs.Walks.Walk.{on_if, on_test}
pub use Rattle.geo_base.proofs.Bools.{not_true_false as not_true}

-- ---- what was sent

-- a packet of this session brings the entry e to the consumer of this id
pub record Brings (session id : ℕ) (e : Entry) (p : Packet) : Type 0 where
  pub in_session : p.session ≡ session
  pub position : Position
  pub source : Option ClusterRef
  pub is : p.frame ≡ frame.Message id position source e

-- one of some packets does
pub record Carried (ps : List Packet) (session id : ℕ) (e : Entry) : Type 0 where
  pub place : ℕ
  pub packet : Packet
  pub at : slice_get ps place ≡ Some packet
  pub brings : Brings session id e packet

pub carried_more : (ps qs : List Packet) (session id : ℕ) (e : Entry) → Carried ps session id e → Carried (ps ++ qs) session id e
carried_more ps qs session id e c = record { place = c.place; packet = c.packet; at = get_left ps qs c.place c.packet c.at; brings = c.brings }

-- ---- one subscription, es being the topic's entries, num the number of each client's session, sent what was sent to each

-- the entry at an index was sent
pub record GivenTo (es : List Entry) (session : ℕ) (ps : List Packet) (id i : ℕ) : Type 0 where
  pub entry : Entry
  pub stands : slice_get es i ≡ Some entry
  pub carried : Carried ps session id entry

abbrev pub HeadOf : List Entry → (ℕ → ℕ) → (ℕ → List Packet) → List Consumer → Unacked → Type 0
HeadOf es num sent [] o = ⊥
HeadOf es num sent (k ∷ ks) o = (o.client ≡ k.client) × GivenTo es (num k.client) (sent k.client) k.id o.index

pub record OutFact (es : List Entry) (num : ℕ → ℕ) (sent : ℕ → List Packet) (kind : SubKind) (ks : List Consumer) (o : Unacked) : Type 0 where
  pub attached : list_any (is_of o.client) ks ≡ true
  pub head : serves_one kind ≡ true → HeadOf es num sent ks o

-- Mine: what made the consumer of a client and an id, of a subscription of this name and kind
abbrev pub Makes : Type 1
Makes = List ℕ → SubKind → ℕ → ℕ → Type 0

abbrev pub IsMade : Makes → List ℕ → SubKind → Consumer → Type 0
IsMade mine n kind k = mine n kind k.client k.id

pub record SubFact (mine : Makes) (es : List Entry) (num : ℕ → ℕ) (sent : ℕ → List Packet) (v : Subscription) : Type 0 where
  pub consumers : Each (IsMade mine v.name v.kind) v.consumers
  pub out : Each (OutFact es num sent v.kind v.consumers) v.out

-- ---- where the context grows

pub record Grows (mine mine' : Makes) (es es' : List Entry) (num num' : ℕ → ℕ) (sent sent' : ℕ → List Packet) : Type 0 where
  pub made : (n : List ℕ) (kind : SubKind) (c id : ℕ) → mine n kind c id → mine' n kind c id
  pub entries : (i : ℕ) (e : Entry) → slice_get es i ≡ Some e → slice_get es' i ≡ Some e
  pub packets : (c : ℕ) (session id : ℕ) (e : Entry) → Carried (sent c) session id e → Carried (sent' c) session id e

head_grows : (mine mine' : Makes) (es es' : List Entry) (num num' : ℕ → ℕ) (sent sent' : ℕ → List Packet) → Grows mine mine' es es' num num' sent sent' → (ks : List Consumer) (o : Unacked)
    → num' o.client ≡ num o.client → HeadOf es num sent ks o → HeadOf es' num' sent' ks o
head_grows mine mine' es es' num num' sent sent' g [] o same h = absurd h
head_grows mine mine' es es' num num' sent sent' g (k ∷ ks) o same h =
    let there : num' k.client ≡ num k.client = subst (λ (c : ℕ). num' c ≡ num c) h.0 same in
    let x = h.1 in (
      h.0,
      record {
        entry = x.entry;
        stands = g.entries o.index x.entry x.stands;
        carried = subst (λ (m : ℕ). Carried (sent' k.client) m k.id x.entry) (sym there) (g.packets k.client (num k.client) k.id x.entry x.carried);
      },
    )

abbrev pub SameNumbers : (ℕ → ℕ) → (ℕ → ℕ) → Subscription → Type 0
SameNumbers num num' v = Each (λ (o : Unacked). num' o.client ≡ num o.client) v.out

pub each_two : {X : Type 0} (P Q R : X → Type 0) → ((x : X) → P x → Q x → R x) → (xs : List X) → Each P xs → Each Q xs → Each R xs
each_two P Q R f [] h k = tt
each_two P Q R f (x ∷ xs) h k = (f x h.0 k.0, each_two P Q R f xs h.1 k.1)

pub fact_grows : (mine mine' : Makes) (es es' : List Entry) (num num' : ℕ → ℕ) (sent sent' : ℕ → List Packet) → Grows mine mine' es es' num num' sent sent' → (v : Subscription)
    → SameNumbers num num' v → SubFact mine es num sent v → SubFact mine' es' num' sent' v
fact_grows mine mine' es es' num num' sent sent' g v same h = record {
  consumers = each_map (IsMade mine v.name v.kind) (IsMade mine' v.name v.kind) (λ k m. g.made v.name v.kind k.client k.id m) v.consumers h.consumers;
  out = each_two (OutFact es num sent v.kind v.consumers) (λ (o : Unacked). num' o.client ≡ num o.client) (OutFact es' num' sent' v.kind v.consumers)
      (λ o f e. record { attached = f.attached; head = λ one. head_grows mine mine' es es' num num' sent sent' g v.consumers o e (f.head one) }) v.out h.out same;
}

-- ---- changes in memory

pub cleared_fact : (mine : Makes) (es : List Entry) (num : ℕ → ℕ) (sent : ℕ → List Packet) (v : Subscription) → SubFact mine es num sent (cleared v)
cleared_fact mine es num sent v = record { consumers = tt; out = tt }

pub acked_fact : (mine : Makes) (es : List Entry) (num : ℕ → ℕ) (sent : ℕ → List Packet) (v : Subscription) → SubFact mine es num sent v → SubFact mine es num sent (after_acks v)
acked_fact mine es num sent v h = record {
  consumers = h.consumers;
  out = each_filter (OutFact es num sent v.kind v.consumers) (λ (o : Unacked). not (has v.cursor o.index)) v.out h.out;
}

head_attached : (es : List Entry) (num : ℕ → ℕ) (sent : ℕ → List Packet) (ks : List Consumer) (k : Consumer) (o : Unacked) → HeadOf es num sent ks o → HeadOf es num sent (ks ++ k ∷ []) o
head_attached es num sent [] k o h = absurd h
head_attached es num sent (x ∷ ks) k o h = h

pub attached_fact : (mine : Makes) (es : List Entry) (num : ℕ → ℕ) (sent : ℕ → List Packet) (k : Consumer) (v : Subscription) → mine v.name v.kind k.client k.id → SubFact mine es num sent v
    → SubFact mine es num sent (attached k v)
attached_fact mine es num sent k v made h = record {
  consumers = each_both (IsMade mine v.name v.kind) v.consumers (k ∷ []) h.consumers (made, tt);
  out = each_map (OutFact es num sent v.kind v.consumers) (OutFact es num sent v.kind (v.consumers ++ k ∷ []))
      (λ o f. record { attached = any_left (is_of o.client) v.consumers (k ∷ []) f.attached; head = λ one. head_attached es num sent v.consumers k o (f.head one) }) v.out h.out;
}

-- permits change no consumer's client and id
abbrev permits_more : ℕ → ℕ → Consumer → Consumer
permits_more c n k = if is_of c k then record k { permits = min most_permits (k.permits + n) } else k

same_made : (mine : Makes) (m : List ℕ) (kind : SubKind) (c n : ℕ) (k : Consumer) → IsMade mine m kind k → IsMade mine m kind (permits_more c n k)
same_made mine m kind c n k h = on_if (IsMade mine m kind) (is_of c k) (record k { permits = min most_permits (k.permits + n) }) k h h

permits_made : (mine : Makes) (m : List ℕ) (kind : SubKind) (c n : ℕ) (ks : List Consumer) → Each (IsMade mine m kind) ks → Each (IsMade mine m kind) (map (permits_more c n) ks)
permits_made mine m kind c n [] h = tt
permits_made mine m kind c n (k ∷ ks) h = (same_made mine m kind c n k h.0, permits_made mine m kind c n ks h.1)

permits_head : (es : List Entry) (num : ℕ → ℕ) (sent : ℕ → List Packet) (c n : ℕ) (ks : List Consumer) (o : Unacked) → HeadOf es num sent ks o → HeadOf es num sent (map (permits_more c n) ks) o
permits_head es num sent c n [] o h = absurd h
permits_head es num sent c n (k ∷ ks) o h =
    on_if (λ (x : Consumer). (o.client ≡ x.client) × GivenTo es (num x.client) (sent x.client) x.id o.index) (is_of c k) (record k { permits = min most_permits (k.permits + n) }) k h h

permits_any : (c n z : ℕ) (ks : List Consumer) → list_any (is_of z) ks ≡ true → list_any (is_of z) (map (permits_more c n) ks) ≡ true
permits_any c n z ks h = subst (λ (t : Bool). t ≡ true) (sym (same ks)) h
  where
    one : (k : Consumer) → is_of z (permits_more c n k) ≡ is_of z k
    one k = on_if (λ (x : Consumer). is_of z x ≡ is_of z k) (is_of c k) (record k { permits = min most_permits (k.permits + n) }) k refl refl

    same : (js : List Consumer) → list_any (is_of z) (map (permits_more c n) js) ≡ list_any (is_of z) js
    same [] = refl
    same (k ∷ js) = λ i. (one k i) || (same js i)

pub permitted_fact : (mine : Makes) (es : List Entry) (num : ℕ → ℕ) (sent : ℕ → List Packet) (c n : ℕ) (v : Subscription) → SubFact mine es num sent v → SubFact mine es num sent (permitted c n v)
permitted_fact mine es num sent c n v h = record {
  consumers = permits_made mine v.name v.kind c n v.consumers h.consumers;
  out = each_map (OutFact es num sent v.kind v.consumers) (OutFact es num sent v.kind (map (permits_more c n) v.consumers))
      (λ o f. record { attached = permits_any c n o.client v.consumers f.attached; head = λ one. permits_head es num sent c n v.consumers o (f.head one) }) v.out h.out;
}

-- a client leaves
head_detached : (es : List Entry) (num : ℕ → ℕ) (sent : ℕ → List Packet) (c : ℕ) (ks : List Consumer) (o : Unacked) → (o.client == c) ≡ false → HeadOf es num sent ks o
    → HeadOf es num sent (filter (λ (k : Consumer). not (is_of c k)) ks) o
head_detached es num sent c [] o other h = absurd h
head_detached es num sent c (k ∷ ks) o other h =
    let stays : not (is_of c k) ≡ true = not_false (is_of c k) (subst (λ (z : ℕ). (z == c) ≡ false) h.0 other) in
    subst (λ (t : Bool). HeadOf es num sent (cond t (k ∷ filter (λ (x : Consumer). not (is_of c x)) ks) (filter (λ (x : Consumer). not (is_of c x)) ks)) o) (sym stays) h

any_detached : (c z : ℕ) (ks : List Consumer) → (z == c) ≡ false → list_any (is_of z) ks ≡ true → list_any (is_of z) (filter (λ (k : Consumer). not (is_of c k)) ks) ≡ true
any_detached c z ks other h =
    any_kept (is_of z) (λ (k : Consumer). not (is_of c k)) (λ k is. not_false (is_of c k) (subst (λ (e : ℕ). (e == c) ≡ false) (sym (eqb-true k.client z is)) other)) ks h

-- what is left of a list has passed the test
pub each_passed : {X : Type 0} (P Q : X → Type 0) (p : X → Bool) → ((x : X) → p x ≡ true → P x → Q x) → (xs : List X) → Each P xs → Each Q (filter p xs)
each_passed P Q p f [] h = tt
each_passed P Q p f (x ∷ xs) h =
    let rest = each_passed P Q p f xs h.1 in
    on_test (Each Q) (p x) (x ∷ filter p xs) (filter p xs) (λ is. (f x is h.0, rest)) (λ out. rest)

pub detached_fact : (mine : Makes) (es : List Entry) (num : ℕ → ℕ) (sent : ℕ → List Packet) (c : ℕ) (v : Subscription) → SubFact mine es num sent v → SubFact mine es num sent (detached c v)
detached_fact mine es num sent c v h = record {
  consumers = each_filter (IsMade mine v.name v.kind) (λ (k : Consumer). not (is_of c k)) v.consumers h.consumers;
  out = each_passed (OutFact es num sent v.kind v.consumers) (OutFact es num sent v.kind (filter (λ (k : Consumer). not (is_of c k)) v.consumers))
      (λ (o : Unacked). not (o.client == c))
      (λ o left f.
      let other = not_true (o.client == c) left in
      record { attached = any_detached c o.client v.consumers other f.attached; head = λ one. head_detached es num sent c v.consumers o other (f.head one) }) v.out h.out;
}

-- and then nothing is out with it
pub detached_none : (c : ℕ) (v : Subscription) → Each (λ (o : Unacked). (o.client == c) ≡ false) (detached c v).out
detached_none c v =
    each_passed (λ (o : Unacked). Unit {0}) (λ (o : Unacked). (o.client == c) ≡ false) (λ (o : Unacked). not (o.client == c)) (λ o left u. not_true (o.client == c) left) v.out (all v.out)
  where
    all : (os : List Unacked) → Each (λ (o : Unacked). Unit {0}) os
    all [] = tt
    all (o ∷ os) = (tt, all os)

-- ---- a message is given

each_with_out : (P : Unacked → Type 0) (xs : List Unacked) (o : Unacked) → P o → Each P xs → Each P (with_out xs o)
each_with_out P [] o p h = (p, tt)
each_with_out P (x ∷ xs) o p h =
    on_if (Each P) (nat_lt o.index x.index) (o ∷ x ∷ xs) _ (p, h)
    (on_if (Each P) (x.index == o.index) (o ∷ xs) (x ∷ with_out xs o) (p, h.1) (h.0, each_with_out P xs o p h.1))

-- where one is served, it is the first, and it has a permit
pub record FirstPicked (ks : List Consumer) (at : ℕ) : Type 0 where
  pub zero_at : at ≡ 0
  pub first : Consumer
  pub rest : List Consumer
  pub is : ks ≡ first ∷ rest

first_there : (ks : List Consumer) (at : ℕ) → if_permitted ks 0 ≡ Some at → FirstPicked ks at
first_there [] at h = absurd (none-some at h)
first_there (k ∷ ks) at h = by (nat_lt 0 k.permits) h
  where
    by : (t : Bool) → (if t then Some 0 else None) ≡ Some at → FirstPicked (k ∷ ks) at
    by true e = record { zero_at = sym (same_Some 0 at e); first = k; rest = ks; is = refl }
    by false e = absurd (none-some at e)

pub first_picked : (kind : SubKind) (ks : List Consumer) (key : List ℕ) (at : ℕ) → serves_one kind ≡ true → pick kind ks key ≡ Some at → FirstPicked ks at
first_picked sub_kind.Exclusive ks key at one h = first_there ks at h
first_picked sub_kind.Failover ks key at one h = first_there ks at h
first_picked sub_kind.Shared ks key at one h = absurd (false≢true one)
first_picked sub_kind.KeyShared ks key at one h = absurd (false≢true one)

-- the first stays the first
served_head : (es : List Entry) (num : ℕ → ℕ) (sent : ℕ → List Packet) (kind : SubKind) (ks : List Consumer) (at : ℕ) (o : Unacked) → serves_one kind ≡ true → at ≡ 0
    → HeadOf es num sent ks o → HeadOf es num sent (served kind ks at) o
served_head es num sent sub_kind.Shared ks at o one is h = absurd (false≢true one)
served_head es num sent sub_kind.KeyShared ks at o one is h = absurd (false≢true one)
served_head es num sent sub_kind.Exclusive ks at o one is h = subst (λ (a : ℕ). HeadOf es num sent (slice_set ks a (used (consumer_at ks a))) o) (sym is) (by ks h)
  where
    by : (js : List Consumer) → HeadOf es num sent js o → HeadOf es num sent (slice_set js 0 (used (consumer_at js 0))) o
    by [] g = absurd g
    by (k ∷ js) g = g
served_head es num sent sub_kind.Failover ks at o one is h = subst (λ (a : ℕ). HeadOf es num sent (slice_set ks a (used (consumer_at ks a))) o) (sym is) (by ks h)
  where
    by : (js : List Consumer) → HeadOf es num sent js o → HeadOf es num sent (slice_set js 0 (used (consumer_at js 0))) o
    by [] g = absurd g
    by (k ∷ js) g = g

-- the consumers who are served keep who made them
pub served_made : (mine : Makes) (n : List ℕ) (kind : SubKind) (ks : List Consumer) (at : ℕ) → 0 < (consumer_at ks at).permits → Each (IsMade mine n kind) ks → Each (IsMade mine n kind) (served kind ks at)
served_made mine n kind ks at permit h = served_own kind
  where
    P : Consumer → Type 0
    P = IsMade mine n kind

    there : (js : List Consumer) (a : ℕ) → 0 < (consumer_at js a).permits → Each P js → P (consumer_at js a)
    there [] a lt g = absurd (omega (arith, lt))
    there (k ∷ js) zero lt g = g.0
    there (k ∷ js) (suc a) lt g = there js a lt g.1

    taken : (a : ℕ) (js : List Consumer) → Each P js → Each P (take a js)
    taken zero js g = tt
    taken (suc a) [] g = tt
    taken (suc a) (k ∷ js) g = (g.0, taken a js g.1)

    dropped : (a : ℕ) (js : List Consumer) → Each P js → Each P (drop a js)
    dropped zero js g = g
    dropped (suc a) [] g = tt
    dropped (suc a) (k ∷ js) g = dropped a js g.1

    set : (js : List Consumer) (a : ℕ) (k : Consumer) → P k → Each P js → Each P (slice_set js a k)
    set [] a k p g = tt
    set (j ∷ js) zero k p g = (p, g.1)
    set (j ∷ js) (suc a) k p g = (g.0, set js a k p g.1)

    one : P (used (consumer_at ks at))
    one = there ks at permit h

    served_own : (kd : SubKind) → Each P (served kd ks at)
    served_own sub_kind.Shared =
        each_both P (take at ks ++ drop (at + 1) ks) (used (consumer_at ks at) ∷ []) (each_both P (take at ks) (drop (at + 1) ks) (taken at ks h) (dropped (at + 1) ks h)) (one, tt)
    served_own sub_kind.Exclusive = set ks at (used (consumer_at ks at)) one h
    served_own sub_kind.Failover = set ks at (used (consumer_at ks at)) one h
    served_own sub_kind.KeyShared = set ks at (used (consumer_at ks at)) one h

pub given_fact : (mine : Makes) (es : List Entry) (num : ℕ → ℕ) (sent : ℕ → List Packet) (i at : ℕ) (v : Subscription) (key : List ℕ) → pick v.kind v.consumers key ≡ Some at
    → GivenTo es (num (consumer_at v.consumers at).client) (sent (consumer_at v.consumers at).client) (consumer_at v.consumers at).id i
    → SubFact mine es num sent v → SubFact mine es num sent (given i at v)
given_fact mine es num sent i at v key picked new h = record {
  consumers = served_made mine v.name v.kind v.consumers at permit h.consumers;
  out = each_with_out (OutFact es num sent v.kind ks') v.out o
      (record { attached = served_stay v.kind o.client at v.consumers (permitted_there at v.consumers permit); head = λ one. now one })
      (each_map (OutFact es num sent v.kind v.consumers) (OutFact es num sent v.kind ks')
      (λ x f. record {
        attached = served_stay v.kind x.client at v.consumers f.attached;
        head = λ one. served_head es num sent v.kind v.consumers at x one (first_picked v.kind v.consumers key at one picked).zero_at (f.head one);
      }) v.out h.out);
}
  where
    ks' : List Consumer
    ks' = served v.kind v.consumers at

    o : Unacked
    o = record { index = i; client = (consumer_at v.consumers at).client }

    permit : 0 < (consumer_at v.consumers at).permits
    permit = pick_has v.kind v.consumers key at picked

    now : serves_one v.kind ≡ true → HeadOf es num sent ks' o
    now one =
        let f = first_picked v.kind v.consumers key at one picked in
        let was : HeadOf es num sent v.consumers o =
        subst (λ (js : List Consumer). HeadOf es num sent js o) (sym f.is) (
          subst (λ (a : ℕ). (consumer_at v.consumers a).client ≡ f.first.client) (sym f.zero_at) (ap (λ (js : List Consumer). (consumer_at js 0).client) f.is),
          subst (λ (k : Consumer). GivenTo es (num k.client) (sent k.client) k.id i) (ap (consumer_at v.consumers) f.zero_at ∙ ap (λ (js : List Consumer). consumer_at js 0) f.is) new,
        ) in
        served_head es num sent v.kind v.consumers at o one f.zero_at was

-- ---- kinds

pub kind_is : (a b : SubKind) → same_kind a b ≡ true → a ≡ b
kind_is sub_kind.Exclusive sub_kind.Exclusive h = refl
kind_is sub_kind.Shared sub_kind.Shared h = refl
kind_is sub_kind.Failover sub_kind.Failover h = refl
kind_is sub_kind.KeyShared sub_kind.KeyShared h = refl
kind_is a b h = absurd (false≢true h)
