-- What a topic knows of requests that it has read and of answers that it has heard: each request of y that its replicator to y acknowledged is
-- answered; and each answer to the snapshot in the making that it acknowledged was heard. All of one broker at cluster x.
use Rattle.std.proofs.Common.{cond, ◌≡◌, ℕ, zero, suc, ◌+◌, ◌-◌, ◌^◌, ◌<◌, ◌≤◌, Bool, true, false, List, [], ◌∷◌, ◌++◌, length, filter, refl, sym, ap, subst, ◌∙◌, ◌==◌, arith, inl, inr, not}
use Rattle.std.specs.Prelude.{Some, if◌then◌else◌, ◌&&◌, ◌||◌, nat_lt}
use Rattle.std.specs.Str.{bytes_eq}
use Rattle.std.proofs.lemmas.Bool.{eq-eqb, eqb-true, false≢true}
use Rattle.std.proofs.lemmas.List.{length-append}
use Rattle.std.proofs.lemmas.Option.{none-some, same_Some}
use Rattle.std.proofs.lemmas.Slice.Eq.{bytes_eq-Decides}
use Rattle.world_laws.proofs.Types.{SnapshotBuilder, ClusterPosition, Content, Entry, ClusterRef, Position, Progress}
use Rattle.world_laws.proofs.Types.content
use Rattle.world_laws.proofs.Types.marker
use Rattle.world_laws.proofs.Types.cluster_ref
use Rattle.world_laws.proofs.Types.progress
use Rattle.world_laws.proofs.Types.targets
use Rattle.geo_base.specs.Broker.{Broker, Site, replicator_at}
use Rattle.geo_base.specs.SnapshotBuilder.{Heard, counts, current_id, judged, on_response, second_id, with_response}
use Rattle.geo_base.specs.Cursor.{has}
use Rattle.geo_base.specs.Entry.{is_data, means_cluster}
use Rattle.geo_base.specs.Markers.{heard_from}
use Rattle.geo_base.specs.Topic.{position_at}
use Rattle.world_laws.proofs.Replicating.Cursors.{or_left, or_right}
use Rattle.world_laws.proofs.Replicating.Prefixes.{is_of}
use Rattle.world_laws.proofs.Snapshotting.Answering.{AnswerAt, RequestAt, is_request, not_own, old_or_new, own_added}
use Rattle.world_laws.proofs.Snapshotting.Building.{builder_then}
use Rattle.world_laws.proofs.Snapshotting.Hearing.{Stays, grown_get}
use Rattle.world_laws.proofs.TopicOrder.Added.{Added, Adds}
use Rattle.world_laws.proofs.Walks.Shapes.{Hears}
use Rattle.world_laws.proofs.Walks.Walk.{on_if, on_test}

-- ---- a list that has them all is long enough

abbrev without : ℕ → List ℕ → List ℕ
without m xs = filter (λ x. not (x == m)) xs

shorter : (m : ℕ) (xs : List ℕ) → length (without m xs) ≤ length xs
shorter m [] = omega arith
shorter m (x ∷ xs) = by (x == m) (shorter m xs)
  where
    by : (b : Bool) → length (without m xs) ≤ length xs → length (cond (not b) (x ∷ without m xs) (without m xs)) ≤ suc (length xs)
    by true le = omega (arith, le)
    by false le = omega (arith, le)

less_by_one : (m : ℕ) (xs : List ℕ) → has xs m ≡ true → length (without m xs) < length xs
less_by_one m [] h = absurd (false≢true h)
less_by_one m (x ∷ xs) h = by (x == m) refl h (less_by_one m xs) (shorter m xs)
  where
    by : (b : Bool) → (x == m) ≡ b → (b || has xs m) ≡ true → (has xs m ≡ true → length (without m xs) < length xs) → length (without m xs) ≤ length xs
        → length (cond (not b) (x ∷ without m xs) (without m xs)) < suc (length xs)
    by true e h ih le = omega (arith, le)
    by false e h ih le = let lt = ih h in omega (arith, lt)

still_in : (m c : ℕ) (xs : List ℕ) → (c ≡ m → ⊥) → has xs c ≡ true → has (without m xs) c ≡ true
still_in m c [] other h = h
still_in m c (x ∷ xs) other h = by (x == m) refl (x == c) refl h (still_in m c xs other)
  where
    by : (b : Bool) → (x == m) ≡ b → (d : Bool) → (x == c) ≡ d → (d || has xs c) ≡ true → (has xs c ≡ true → has (without m xs) c ≡ true)
        → has (cond (not b) (x ∷ without m xs) (without m xs)) c ≡ true
    by true e true f h ih = absurd (other (sym (eqb-true x c f) ∙ eqb-true x m e))
    by true e false f h ih = ih h
    by false e true f h ih = ap (λ (b : Bool). b || has (without m xs) c) f
    by false e false f h ih = ap (λ (b : Bool). b || has (without m xs) c) f ∙ ih h

pub all_of_them : (n : ℕ) (xs : List ℕ) → ((c : ℕ) → c < n → has xs c ≡ true) → n ≤ length xs
all_of_them zero xs h = omega arith
all_of_them (suc n) xs h =
    let rest = all_of_them n (without n xs) (λ c lt. still_in n c xs (λ is. omega (arith, is, lt)) (h c (omega (arith, lt)))) in
    let less = less_by_one n xs (h n (omega arith)) in omega (arith, rest, less)

-- ---- what is known

-- an own answer for y to this id stands here
pub record AnswersTo (x : ℕ) (es : List Entry) (y : ℕ) (id : List ℕ) : Type 0 where
  pub index : ℕ
  pub answer : ClusterPosition
  pub entry : Entry
  pub at : AnswerAt x es index id answer entry
  pub to : entry.to ≡ targets.Only (2 ^ y)

-- what own markers say, and what was read of others'
pub record Pursues (x : ℕ) (b : Broker) : Type 0 where
  pub all : (k : ℕ) (id : List ℕ) → (r : RequestAt x b.entries k id) → r.entry.to ≡ targets.All
  pub names : (k : ℕ) (id : List ℕ) (answer : ClusterPosition) (e : Entry) → AnswerAt x b.entries k id answer e → answer.cluster ≡ cluster_ref.Known x
  pub answered : (y q : ℕ) (id : List ℕ) → (x ≡ y → ⊥) → RequestAt y b.entries q id → has (replicator_at b y).cursor q ≡ true → AnswersTo x b.entries y id
  pub heard : (u : SnapshotBuilder) (y p : ℕ) (answer : ClusterPosition) (e : Entry) → b.builder ≡ Some u → (x ≡ y → ⊥) → AnswerAt y b.entries p (current_id u) answer e
      → means_cluster y answer.cluster ≡ true → has (replicator_at b y).cursor p ≡ true → has u.heard y ≡ true
  pub asked : (u : SnapshotBuilder) → b.builder ≡ Some u → (k : ℕ) × RequestAt x b.entries k (current_id u)
  pub waits : (u : SnapshotBuilder) → b.builder ≡ Some u → nat_lt (length u.heard + 1) u.clusters ≡ true
  pub going : (u : SnapshotBuilder) → b.builder ≡ Some u → u.finished ≡ false

abbrev is_response : Content → Bool
is_response (content.Marked (marker.Response id answer)) = true
is_response c = false

-- ---- a new own marker

new_all : (h : Site) (b : Broker) (id : List ℕ) (e : Entry) → Added h b e → is_of h.own e ≡ true → is_request e.content ≡ true → e.to ≡ targets.All
new_all h b id e (Added.Published e' own message) of is = absurd (unlike e.content message is)
  where
    unlike : (c : Content) → is_data c ≡ true → is_request c ≡ true → ⊥
    unlike content.Data h k = false≢true k
    unlike (content.Marked m) h k = false≢true h
    unlike (content.Unread m) h k = false≢true h
new_all h b id e (Added.Came e' z small other from) of is = absurd (not_own h.own z e other from of)
new_all h b id e (Added.Asked none) of is = refl
new_all h b id e (Added.AskedAgain y i f id' answer u u' next is' heard) of is = refl
new_all h b id e (Added.Responded y i f id' source small other at of_f asks) of is = absurd (false≢true is)
new_all h b id e (Added.Completed y i f id' answer u u' next is' heard) of is = absurd (false≢true is)
new_all h b id e (Added.Updated v cut) of is = absurd (false≢true is)

abbrev answering : Content → ClusterRef
answering (content.Marked (marker.Response id answer)) = answer.cluster
answering c = cluster_ref.Known 0

new_names : (h : Site) (b : Broker) (e : Entry) → Added h b e → is_of h.own e ≡ true → is_response e.content ≡ true → answering e.content ≡ cluster_ref.Known h.own
new_names h b e (Added.Published e' own message) of is = absurd (unlike e.content message is)
  where
    unlike : (c : Content) → is_data c ≡ true → is_response c ≡ true → ⊥
    unlike content.Data h k = false≢true k
    unlike (content.Marked m) h k = false≢true h
    unlike (content.Unread m) h k = false≢true h
new_names h b e (Added.Came e' z small other from) of is = absurd (not_own h.own z e other from of)
new_names h b e (Added.Asked none) of is = absurd (false≢true is)
new_names h b e (Added.AskedAgain y i f id' answer u u' next is' heard) of is = absurd (false≢true is)
new_names h b e (Added.Responded y i f id' source small other at of_f asks) of is = refl
new_names h b e (Added.Completed y i f id' answer u u' next is' heard) of is = absurd (false≢true is)
new_names h b e (Added.Updated v cut) of is = absurd (false≢true is)

-- whatever is appended, own requests go to all
pub all_grows : (h : Site) (b : Broker) (more : List Entry) → Adds h b more → ((k : ℕ) (id : List ℕ) → (r : RequestAt h.own b.entries k id) → r.entry.to ≡ targets.All)
    → (k : ℕ) (id : List ℕ) → (r : RequestAt h.own (b.entries ++ more) k id) → r.entry.to ≡ targets.All
all_grows h b more adds old k id r =
    elim (old_or_new b.entries more k r.entry r.at) [
      | inl o ↦ old k id (record { entry = r.entry; at = o.1; of = r.of; asks = r.asks })
      | inr n ↦ new_all h b id r.entry (own_added h b more adds (k - length b.entries) r.entry n.1 r.of).added r.of (ap is_request r.asks.1)
    ]

-- and own answers name their cluster
pub names_grow : (h : Site) (b : Broker) (more : List Entry) → Adds h b more
    → ((k : ℕ) (id : List ℕ) (answer : ClusterPosition) (e : Entry) → AnswerAt h.own b.entries k id answer e → answer.cluster ≡ cluster_ref.Known h.own)
    → (k : ℕ) (id : List ℕ) (answer : ClusterPosition) (e : Entry) → AnswerAt h.own (b.entries ++ more) k id answer e → answer.cluster ≡ cluster_ref.Known h.own
names_grow h b more adds old k id answer e a =
    elim (old_or_new b.entries more k e a.at) [
      | inl o ↦ old k id answer e (record { at = o.1; of = a.of; is = a.is })
      | inr n ↦
          sym (ap answering a.is) ∙ new_names h b e (own_added h b more adds (k - length b.entries) e n.1 a.of).added a.of (ap is_response a.is)
    ]

pub answers_to_grows : (x y : ℕ) (es es' : List Entry) (ls ls' : List ℕ) (id : List ℕ) → Stays es es' ls ls' → AnswersTo x es y id → AnswersTo x es' y id
answers_to_grows x y es es' ls ls' id g a = record {
  index = a.index;
  answer = a.answer;
  entry = a.entry;
  at = record { at = grown_get es es' ls ls' g a.index a.entry a.at.at; of = a.at.of; is = a.at.is };
  to = a.to;
}

-- ---- what an answer makes of a builder

abbrev is_kept : Progress → Bool
is_kept progress.Kept = true
is_kept p = false

abbrev is_second : Progress → Bool
is_second progress.SecondRound = true
is_second p = false

-- it waits for more, and has heard all that it had heard
pub record Waits (u u' : SnapshotBuilder) : Type 0 where
  pub same : current_id u' ≡ current_id u
  pub more : (c : ℕ) → has u.heard c ≡ true → has u'.heard c ≡ true
  pub waits : nat_lt (length u'.heard + 1) u'.clusters ≡ true
  pub going : u'.finished ≡ u.finished

-- it begins its second round
pub record BeginsSecond (u u' : SnapshotBuilder) : Type 0 where
  pub first : u.second ≡ false
  pub id : current_id u' ≡ second_id u.id
  pub none : u'.heard ≡ []
  pub many : (u'.clusters == 2) ≡ false
  pub clusters : u'.clusters ≡ u.clusters
  pub going : u'.finished ≡ u.finished

kept_waits : (u : SnapshotBuilder) (id : List ℕ) (y : ℕ) (remote local : Position) → let r = on_response u id y remote local in is_kept r.progress ≡ true → Waits u r.builder
kept_waits u id y remote local =
    on_test K (counts u id y) _ _
    (λ _. let v = with_response u y remote local in
    on_test K (nat_lt (length v.heard + 1) v.clusters) _ _
    (λ more is. record { same = refl; more = λ c h. or_right (y == c) (has u.heard c) h; waits = more; going = refl })
    (λ _. on_if K (v.second || (v.clusters == 2)) _ _ (λ is. absurd (false≢true is)) (λ is. absurd (false≢true is)))) (λ _ is. absurd (false≢true is))
  where
    K : Heard → Type 0
    K r = is_kept r.progress ≡ true → Waits u r.builder

second_begins : (u : SnapshotBuilder) (id : List ℕ) (y : ℕ) (remote local : Position) → let r = on_response u id y remote local in is_second r.progress ≡ true → BeginsSecond u r.builder
second_begins u id y remote local =
    on_test K (counts u id y) _ _
    (λ _. let v = with_response u y remote local in
    on_test K (nat_lt (length v.heard + 1) v.clusters) _ _ (λ more is. absurd (false≢true is))
    (λ _. on_test K (v.second || (v.clusters == 2)) _ _ (λ last is. absurd (false≢true is))
    (λ other is. record {
      first = neither u.second (u.clusters == 2) other;
      id = refl;
      none = refl;
      many = nor u.second (u.clusters == 2) other;
      clusters = refl;
      going = refl;
    }))) (λ _ is. absurd (false≢true is))
  where
    K : Heard → Type 0
    K r = is_second r.progress ≡ true → BeginsSecond u r.builder

    neither : (a b : Bool) → (a || b) ≡ false → a ≡ false
    neither true b h = h
    neither false b h = refl

    nor : (a b : Bool) → (a || b) ≡ false → b ≡ false
    nor true b h = absurd (false≢true (sym h))
    nor false b h = h

pub waits_after : (b : Broker) (y i : ℕ) (id : List ℕ) (answer : ClusterPosition) (u u' : SnapshotBuilder) → Hears b y i id answer u progress.Kept u' → Waits u u'
waits_after b y i id answer u u' heard =
    let K : Heard → Type 0 = λ r. is_kept r.progress ≡ true → Waits u r.builder in
    subst K heard (kept_waits u id y answer.position (position_at b.ledgers i)) refl

pub begins_after : (b : Broker) (y i : ℕ) (id : List ℕ) (answer : ClusterPosition) (u u' : SnapshotBuilder) → Hears b y i id answer u progress.SecondRound u' → BeginsSecond u u'
begins_after b y i id answer u u' heard =
    let K : Heard → Type 0 = λ r. is_second r.progress ≡ true → BeginsSecond u r.builder in
    subst K heard (second_begins u id y answer.position (position_at b.ledgers i)) refl

-- an answer to the current request that is read is heard
longer : (id : List ℕ) → id ≡ second_id id → ⊥
longer id is = let size = ap (λ (l : List ℕ). length l) is ∙ length-append id (47 ∷ 50 ∷ []) in omega (arith, size)

pub heard_now : (h : Site) (b : Broker) (y i : ℕ) (id : List ℕ) (answer : ClusterPosition) (u : SnapshotBuilder) → u.finished ≡ false → (y == u.own) ≡ false → nat_lt y u.clusters ≡ true
    → (v : SnapshotBuilder) → builder_then (Some u) (heard_from h b y i (on_response u id y answer.position (position_at b.ledgers i))).changes ≡ Some v → id ≡ current_id v → has v.heard y ≡ true
heard_now h b y i id answer u open_ other small =
    on_test K (counts u id y) _ _ yes not_counted
  where
    K : Heard → Type 0
    K r = (v : SnapshotBuilder) → builder_then (Some u) (heard_from h b y i r).changes ≡ Some v → id ≡ current_id v → has v.heard y ≡ true

    w : SnapshotBuilder
    w = with_response u y answer.position (position_at b.ledgers i)

    yes : counts u id y ≡ true → K (judged w)
    yes counted =
        on_test K (nat_lt (length w.heard + 1) w.clusters) _ _
        (λ more v is same. subst (λ (z : SnapshotBuilder). has z.heard y ≡ true) (same_Some w v is) (or_left (y == y) (has u.heard y) (eq-eqb y y refl)))
        (λ _. on_test K (w.second || (w.clusters == 2)) _ _ (λ last v is same. absurd (none-some v is))
        (λ first v is same.
        let mine : id ≡ current_id u = (bytes_eq-Decides id (current_id u)).0 (second_of (not u.finished) (bytes_eq id (current_id u)) (y == u.own) (nat_lt y u.clusters) (has u.heard y) counted) in
        let round : current_id u ≡ u.id = ap (λ (t : Bool). if t then second_id u.id else u.id) (first_not u.second (u.clusters == 2) first) in
        let next : id ≡ second_id u.id = same ∙ ap (λ (z : SnapshotBuilder). current_id z) (sym (same_Some _ v is)) in
        absurd (longer u.id (sym round ∙ sym mine ∙ next))))
      where
        second_of : (a c d e f : Bool) → (a && c && not d && e && not f) ≡ true → c ≡ true
        second_of a c d e f h = grind (arith, h)

        first_not : (a c : Bool) → (a || c) ≡ false → a ≡ false
        first_not true c h = h
        first_not false c h = refl

    not_counted : counts u id y ≡ false → K (record { progress = progress.Ignored; builder = u })
    not_counted none v is same =
        let it : u ≡ v = same_Some u v is in
        let mine : bytes_eq id (current_id u) ≡ true = (bytes_eq-Decides id (current_id u)).1 (same ∙ ap (λ (z : SnapshotBuilder). current_id z) (sym it)) in
        subst (λ (z : SnapshotBuilder). has z.heard y ≡ true) it
        (left_one (not u.finished) (bytes_eq id (current_id u)) (y == u.own) (nat_lt y u.clusters) (has u.heard y) none (ap not open_) mine other small)
      where
        left_one : (a c d e f : Bool) → (a && c && not d && e && not f) ≡ false → a ≡ true → c ≡ true → d ≡ false → e ≡ true → f ≡ true
        left_one a c d e f h ha hc hd he = grind (arith, h, ha, hc, hd, he)
