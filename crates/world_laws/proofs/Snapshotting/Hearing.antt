-- A response keeps the facts of the builder.
use Rattle.std.proofs.Common.{◌≡◌, ℕ, zero, suc, ◌+◌, ◌<◌, ◌≤◌, Bool, true, false, List, [], ◌∷◌, ◌++◌, length, refl, sym, ap, subst, ◌∙◌, ◌==◌, arith, inl, inr, ◌⊎◌}
use Rattle.std.specs.Prelude.{Option, Some, None, slice_get, slice_index_or, slice_set, nat_lt, not, ◌||◌, ◌&&◌, if◌then◌else◌}
use Rattle.std.proofs.lemmas.Option.{same_Some, slice_get_within}
use Rattle.std.proofs.lemmas.Bool.{eqb-true, eq-eqb, false≢true}
use Rattle.std.proofs.lemmas.Bool.Decides.{nat_tests}
use Rattle.std.proofs.lemmas.List.{get_or-set_other, get_or-set_same, length-set}
use Rattle.std.proofs.lemmas.Slice.Eq.{bytes_eq-Decides}
use Rattle.std.specs.Str.{bytes_eq}
use Rattle.world_laws.proofs.Types.{SnapshotBuilder, ClusterPosition, Entry, Position}
use Rattle.geo_base.specs.SnapshotBuilder.{Heard, counts, current_id, judged, on_response, second_id, snapshot_id, with_response}
use Rattle.world_laws.proofs.OnceInOrder.Members.{below_or, get_left, get_within}
use Rattle.geo_base.specs.Cursor.{has}
use Rattle.geo_base.specs.Position.{later_position, position_le, position_lt}
use Rattle.geo_base.specs.Topic.{index_of, position_at}
use Rattle.world_laws.proofs.Snapshotting.SnapshotFacts.{Counted, FirstCounted, Made, NotYet}
use Rattle.world_laws.proofs.Snapshotting.Answering.{AnswerAt, RequestAt}
use Rattle.world_laws.proofs.Snapshotting.Everyone.{apart, everyone}
use Rattle.world_laws.proofs.Walks.Walk.{by_test, on_test}

-- the later of two positions is not before either
later_left : (p a b : Position) → position_le p a ≡ true → position_le p (later_position a b) ≡ true
later_left p a b h = by (position_lt a b) refl
  where
    by : (t : Bool) → position_lt a b ≡ t → position_le p (if t then b else a) ≡ true
    by true lt = grind (arith, nat_tests, h, lt)
    by false lt = h

later_right : (a b : Position) → position_le b (later_position a b) ≡ true
later_right a b = by (position_lt a b) refl
  where
    by : (t : Bool) → position_lt a b ≡ t → position_le b (if t then b else a) ≡ true
    by true lt = grind (arith, nat_tests)
    by false lt = grind (arith, nat_tests, lt)

-- a position that is not after 0:0 is 0:0
not_after : (p : Position) → position_lt (record { ledger = 0; entry = 0 }) p ≡ false → p ≡ record { ledger = 0; entry = 0 }
not_after p h =
    let a : p.ledger ≡ 0 = grind (arith, nat_tests, h) in
    let b : p.entry ≡ 0 = grind (arith, nat_tests, h) in
    λ i. record { ledger = a i; entry = b i }

-- what a remote position is after a response of c that names p
data Remote (second : Bool) (ps : List (Option Position)) (c : ℕ) (p : Position) (y : ℕ) (q : Position) : Type 0 where
  Before : slice_index_or ps y None ≡ Some q → Remote second ps c p y q
  New : second ≡ false → c ≡ y → p ≡ q → Remote second ps c p y q

remote_of : (second : Bool) (ps : List (Option Position)) (c : ℕ) (p : Position) (y : ℕ) (q : Position) → c < length ps
    → slice_index_or (if second then ps else slice_set ps c (Some p)) y None ≡ Some q → Remote second ps c p y q
remote_of true ps c p y q lt h = Remote.Before h
remote_of false ps c p y q lt h =
    by_test (c == y)
    (λ e. let is = eqb-true c y e in
    let P : ℕ → Type 0 = λ n. slice_index_or (slice_set ps c (Some p)) n None ≡ Some q in
    Remote.New refl is (same_Some _ _ (sym (get_or-set_same ps c (Some p) None lt) ∙ subst P (sym is) h)))
    (λ e. Remote.Before (sym (get_or-set_other ps c y (Some p) None (λ is. false≢true (sym e ∙ eq-eqb c y (sym is)))) ∙ h))

record Counting (u : SnapshotBuilder) (id : List ℕ) (c : ℕ) : Type 0 where
  same : id ≡ current_id u
  other : (c == u.own) ≡ false
  small : c < u.clusters
  new : has u.heard c ≡ false

five : (a b c d e : Bool) → (a && b && not c && d && not e) ≡ true → (b ≡ true) × (c ≡ false) × (d ≡ true) × (e ≡ false)
five a b c d e h = (grind (arith, h), grind (arith, h), grind (arith, h), grind (arith, h))

counting : (u : SnapshotBuilder) (id : List ℕ) (c : ℕ) → counts u id c ≡ true → Counting u id c
counting u id c h =
    let f = five (not u.finished) (bytes_eq id (current_id u)) (c == u.own) (nat_lt c u.clusters) (has u.heard c) h in
    record { same = (bytes_eq-Decides id (current_id u)).0 f.0; other = f.1; small = grind (arith, nat_tests, f.2); new = f.3 }

-- an answer that stands here counts for what it names
answer_counts : (y i : ℕ) (es : List Entry) (ls : List ℕ) (id : List ℕ) (answer : ClusterPosition) (e : Entry) (local : Position)
    → AnswerAt y es i id answer e → Counted y es ls id answer.position (later_position local (position_at ls i))
answer_counts y i es ls id answer e local at =
    record { index = i; entry = e; answer = answer; heard = at; names = refl; low = later_right local (position_at ls i) }

abbrev counted_on : (y : ℕ) (es : List Entry) (ls : List ℕ) (id : List ℕ) (p local here : Position) → Counted y es ls id p local → Counted y es ls id p (later_position local here)
counted_on y es ls id p local here c =
    record { index = c.index; entry = c.entry; answer = c.answer; heard = c.heard; names = c.names; low = later_left (position_at ls c.index) local here c.low }

-- which id an answer that counts has
first_id : (u : SnapshotBuilder) (id : List ℕ) → id ≡ current_id u → u.second ≡ false → id ≡ u.id
first_id u id same first = same ∙ ap (λ (b : Bool). if b then second_id u.id else u.id) first

later_id : (u : SnapshotBuilder) (id : List ℕ) → id ≡ current_id u → u.second ≡ true → id ≡ second_id u.id
later_id u id same second = same ∙ ap (λ (b : Bool). if b then second_id u.id else u.id) second

-- one more answer that counts keeps the facts
pub with_more : (n x y i : ℕ) (name : List ℕ) (es : List Entry) (ls : List ℕ) (u : SnapshotBuilder) (id : List ℕ) (answer : ClusterPosition) (e : Entry)
    → Made n x name es ls u → counts u id y ≡ true → AnswerAt y es i id answer e → index_of ls (position_at ls i) ≡ Some i
    → Made n x name es ls (with_response u y answer.position (position_at ls i))
with_more n x y i name es ls u id answer e made h at stored = record {
  own = made.own;
  clusters = made.clusters;
  asked = made.asked;
  places = on_test (λ (l : List (Option Position)). length l ≡ n) u.second u.cut.remote (slice_set u.cut.remote y (Some answer.position))
      (λ _. made.places) (λ _. length-set u.cut.remote y (Some answer.position) ∙ made.places);
  empty = on_test (λ (l : List (Option Position)). slice_index_or l x None ≡ None) u.second u.cut.remote (slice_set u.cut.remote y (Some answer.position))
      (λ _. made.empty) (λ _. get_or-set_other u.cut.remote y x (Some answer.position) None (λ e. not_own (sym e)) ∙ made.empty);
  others = λ c heard. others c (by_test (y == c) inl (λ e. inr (second_of (y == c) (has u.heard c) heard e)));
  distinct = subst (λ (b : Bool). (not b && apart u.heard) ≡ true) (sym k.new) made.distinct;
  local = λ _. local;
  zero = λ _ none. absurd (omega (arith, none));
  first = λ z p kept. first z p (remote_of u.second u.cut.remote y answer.position z p within kept);
  one = λ first c heard. one first c (by_test (y == c) inl (λ e. inr (second_of (y == c) (has u.heard c) heard e)));
  all = λ second c small other.
      let a = made.all second c small other in
      (a.0, subst (λ (b : Bool). slice_index_or (if b then u.cut.remote else slice_set u.cut.remote y (Some answer.position)) c None ≡ Some a.0) (sym second) a.1);
  again = λ second c heard. again second c (by_test (y == c) inl (λ e. inr (second_of (y == c) (has u.heard c) heard e)));
}
  where
    k : Counting u id y
    k = counting u id y h

    here : Position
    here = position_at ls i

    within : y < length u.cut.remote
    within = omega (arith, k.small, made.clusters, made.places)

    not_own : y ≡ x → ⊥
    not_own e = false≢true (sym k.other ∙ eq-eqb y u.own (e ∙ sym made.own))

    second_of : (a b : Bool) → (a || b) ≡ true → a ≡ false → b ≡ true
    second_of true b h k = absurd (false≢true (sym k))
    second_of false b h k = h

    others : (c : ℕ) → ((y == c) ≡ true) ⊎ (has u.heard c ≡ true) → (c < n) × (c ≡ x → ⊥)
    others c (inl e) =
        let is = eqb-true y c e in (omega (arith, k.small, made.clusters, is), λ h. not_own (is ∙ h))
    others c (inr heard) = made.others c heard

    nothing_or : position_lt u.cut.local here ≡ false → u.second ≡ false → (m : ℕ) → length u.heard ≡ m → (l : ℕ) × (index_of ls u.cut.local ≡ Some l)
    nothing_or lt round zero none =
        let z = made.zero round none in
        let P : Position → Type 0 = λ p. position_lt p here ≡ false in
        (i, ap (index_of ls) (z ∙ sym (not_after here (subst P z lt))) ∙ stored)
    nothing_or lt round (suc m) some = made.local (inr (omega (arith, some)))

    local : (l : ℕ) × (index_of ls (later_position u.cut.local here) ≡ Some l)
    local = by (position_lt u.cut.local here) refl
      where
        old : position_lt u.cut.local here ≡ false → (l : ℕ) × (index_of ls u.cut.local ≡ Some l)
        old lt = by_test u.second (λ second. made.local (inl second)) (λ round. nothing_or lt round (length u.heard) refl)

        by : (t : Bool) → position_lt u.cut.local here ≡ t → (l : ℕ) × (index_of ls (if t then here else u.cut.local) ≡ Some l)
        by true lt = (i, stored)
        by false lt = old lt

    first : (z : ℕ) (p : Position) → Remote u.second u.cut.remote y answer.position z p → FirstCounted x z es ls (with_response u y answer.position here) p
    first z p (Remote.Before kept) =
        let f = made.first z p kept in record { counted = counted_on z es ls u.id p u.cut.local here f.counted; early = f.early }
    first z p (Remote.New round is names) =
        let P : ℕ → Position → Type 0 = λ z p. FirstCounted x z es ls (with_response u y answer.position here) p in
        let Q : List ℕ → Type 0 = λ id. Counted y es ls id answer.position (later_position u.cut.local here) in
        let f : P y answer.position = record {
          counted = subst Q (first_id u id k.same round) (answer_counts y i es ls id answer e u.cut.local at);
          early = λ second. absurd (false≢true (sym round ∙ second));
        } in
        subst (P z) names (subst (λ z. P z answer.position) is f)

    one : u.second ≡ false → (c : ℕ) → ((y == c) ≡ true) ⊎ (has u.heard c ≡ true)
        → (p : Position) × (slice_index_or (if u.second then u.cut.remote else slice_set u.cut.remote y (Some answer.position)) c None ≡ Some p)
    one round c o =
        let T : Bool → Type 0 = λ b. (p : Position) × (slice_index_or (if b then u.cut.remote else slice_set u.cut.remote y (Some answer.position)) c None ≡ Some p) in
        subst T (sym round) (by o)
      where
        new : (y == c) ≡ true → (p : Position) × (slice_index_or (slice_set u.cut.remote y (Some answer.position)) c None ≡ Some p)
        new e =
            let P : ℕ → Type 0 = λ c. slice_index_or (slice_set u.cut.remote y (Some answer.position)) c None ≡ Some answer.position in
            (answer.position, subst P (eqb-true y c e) (get_or-set_same u.cut.remote y (Some answer.position) None within))

        by : ((y == c) ≡ true) ⊎ (has u.heard c ≡ true) → (p : Position) × (slice_index_or (slice_set u.cut.remote y (Some answer.position)) c None ≡ Some p)
        by (inl e) = new e
        by (inr heard) =
            let o = made.one round c heard in
            by_test (y == c) new (λ e. (o.0, get_or-set_other u.cut.remote y c (Some answer.position) None (λ is. false≢true (sym e ∙ eq-eqb y c (sym is))) ∙ o.1))

    again : u.second ≡ true → (c : ℕ) → ((y == c) ≡ true) ⊎ (has u.heard c ≡ true) → (p : Position) × Counted c es ls (second_id u.id) p (later_position u.cut.local here)
    again second c (inl here_is) =
        let P : ℕ → Type 0 = λ c. (p : Position) × Counted c es ls (second_id u.id) p (later_position u.cut.local here) in
        let Q : List ℕ → Type 0 = λ id. Counted y es ls id answer.position (later_position u.cut.local here) in
        subst P (eqb-true y c here_is) (answer.position, subst Q (later_id u id k.same second) (answer_counts y i es ls id answer e u.cut.local at))
    again second c (inr heard) =
        let a = made.again second c heard in (a.0, counted_on c es ls (second_id u.id) a.0 u.cut.local here a.1)

-- what a response makes of a builder, u1 being it with the response where that counts
pub record Outcome (n x : ℕ) (name : List ℕ) (es : List Entry) (ls : List ℕ) (u' : SnapshotBuilder) : Type 0 where
  pub made : Made n x name es ls u'

-- a round ends: all were heard (by counting), and no second request stands yet
judge : (n x : ℕ) (name : List ℕ) (es : List Entry) (ls : List ℕ) (u : SnapshotBuilder) → Made n x name es ls u → 0 < length u.heard → NotYet x es u
    → (nat_lt (length u.heard + 1) u.clusters ≡ false → (c : ℕ) → c < n → (c ≡ x → ⊥) → has u.heard c ≡ true)
    → Made n x name es ls (judged u).builder
judge n x name es ls u made some not_yet all_heard =
    on_test (λ (r : Heard). Made n x name es ls r.builder) (nat_lt (length u.heard + 1) u.clusters) _ _
    (λ _. made)
    (λ ended. on_test (λ (r : Heard). Made n x name es ls r.builder) (u.second || (u.clusters == 2)) _ _ (λ _. finished) (λ goes. second ended (neither u.second (u.clusters == 2) goes)))
  where
    neither : (a b : Bool) → (a || b) ≡ false → a ≡ false
    neither true b h = h
    neither false b h = refl

    finished : Made n x name es ls (record u { finished = true })
    finished = record {
      own = made.own;
      clusters = made.clusters;
      asked = made.asked;
      places = made.places;
      empty = made.empty;
      others = made.others;
      distinct = made.distinct;
      local = made.local;
      zero = made.zero;
      first = λ y p k. let f = made.first y p k in record { counted = f.counted; early = f.early };
      one = made.one;
      all = made.all;
      again = made.again;
    }

    second : nat_lt (length u.heard + 1) u.clusters ≡ false → u.second ≡ false → Made n x name es ls (record u { second = true; heard = [] })
    second ended round = record {
      own = made.own;
      clusters = made.clusters;
      asked = made.asked;
      places = made.places;
      empty = made.empty;
      others = λ c h. absurd (false≢true h);
      distinct = refl;
      local = λ _. made.local (inr some);
      zero = λ h. absurd (false≢true (sym h));
      first = λ y p k. record { counted = (made.first y p k).counted; early = λ _ i g at of asks. absurd (not_yet round i (record { entry = g; at = at; of = of; asks = asks })) };
      one = λ h. absurd (false≢true (sym h));
      all = λ _ c small other. made.one round c (all_heard ended c small other);
      again = λ _ c h. absurd (false≢true h);
    }

-- a list of heard clusters that is long enough has all of them but the own one
pub all_heard : (n x : ℕ) (name : List ℕ) (es : List Entry) (ls : List ℕ) (u : SnapshotBuilder) → x < n → Made n x name es ls u → nat_lt (length u.heard + 1) u.clusters ≡ false
    → (c : ℕ) → c < n → (c ≡ x → ⊥) → has u.heard c ≡ true
all_heard n x name es ls u small made ended c lt other = rest (x == c) refl (everyone n (x ∷ u.heard) different below many c lt)
  where
    own_not : has u.heard x ≡ false
    own_not = by_test (has u.heard x) (λ there. absurd ((made.others x there).1 refl)) (λ gone. gone)

    different : apart (x ∷ u.heard) ≡ true
    different = subst (λ (b : Bool). (not b && apart u.heard) ≡ true) (sym own_not) made.distinct

    below : (d : ℕ) → has (x ∷ u.heard) d ≡ true → d < n
    below d there = by_test (x == d) (λ e. subst (λ (k : ℕ). k < n) (eqb-true x d e) small)
        (λ e. (made.others d (subst (λ (b : Bool). (b || has u.heard d) ≡ true) e there)).0)

    many : n ≤ length (x ∷ u.heard)
    many = let is = made.clusters in let le : u.clusters ≤ length u.heard + 1 = grind (arith, nat_tests, ended) in omega (arith, is, le)

    rest : (t : Bool) → (x == c) ≡ t → (t || has u.heard c) ≡ true → has u.heard c ≡ true
    rest true e h = absurd (other (sym (eqb-true x c e)))
    rest false e h = h

-- one response, whatever it is
pub heard_more : (n x y i : ℕ) (name : List ℕ) (es : List Entry) (ls : List ℕ) (u : SnapshotBuilder) (id : List ℕ) (answer : ClusterPosition) (e : Entry)
    → x < n → Made n x name es ls u → NotYet x es u → AnswerAt y es i id answer e → index_of ls (position_at ls i) ≡ Some i
    → Made n x name es ls (on_response u id y answer.position (position_at ls i)).builder
heard_more n x y i name es ls u id answer e small made not_yet at stored =
    on_test (λ (r : Heard). Made n x name es ls r.builder) (counts u id y) _ _
    (λ h. judge n x name es ls (with_response u y answer.position (position_at ls i)) (with_more n x y i name es ls u id answer e made h at stored) (omega arith) not_yet
    (λ ended. all_heard n x name es ls (with_response u y answer.position (position_at ls i)) small (with_more n x y i name es ls u id answer e made h at stored) ended))
    (λ _. made)

-- growth: more entries, and positions that stay
pub record Stays (es es' : List Entry) (ls ls' : List ℕ) : Type 0 where
  pub more : List Entry
  pub is : es' ≡ es ++ more
  pub position : (k : ℕ) → k < length es → position_at ls' k ≡ position_at ls k
  pub index : (p : Position) (i : ℕ) → index_of ls p ≡ Some i → index_of ls' p ≡ Some i

pub grown_get : (es es' : List Entry) (ls ls' : List ℕ) (g : Stays es es' ls ls') (k : ℕ) (e : Entry) → slice_get es k ≡ Some e → slice_get es' k ≡ Some e
grown_get es es' ls ls' g k e at = let P : List Entry → Type 0 = λ l. slice_get l k ≡ Some e in subst P (sym g.is) (get_left es g.more k e at)

pub grown_old : (es es' : List Entry) (ls ls' : List ℕ) (g : Stays es es' ls ls') (k : ℕ) (e : Entry) → k < length es → slice_get es' k ≡ Some e → slice_get es k ≡ Some e
grown_old es es' ls ls' g k e lt at = let P : List Entry → Type 0 = λ l. slice_get l k ≡ Some e in sym (get_within es g.more k lt) ∙ subst P g.is at

pub request_stays : (x k : ℕ) (es es' : List Entry) (ls ls' : List ℕ) (id : List ℕ) → Stays es es' ls ls' → RequestAt x es k id → RequestAt x es' k id
request_stays x k es es' ls ls' id g r = record { entry = r.entry; at = grown_get es es' ls ls' g k r.entry r.at; of = r.of; asks = r.asks }

abbrev counted_stays : (y : ℕ) (es es' : List Entry) (ls ls' : List ℕ) (id : List ℕ) (p local : Position) → Stays es es' ls ls' → Counted y es ls id p local → Counted y es' ls' id p local
counted_stays y es es' ls ls' id p local g c = record {
  index = c.index;
  entry = c.entry;
  answer = c.answer;
  heard = record { at = grown_get es es' ls ls' g c.index c.entry c.heard.at; of = c.heard.of; is = c.heard.is };
  names = c.names;
  low = subst (λ q. position_le q local ≡ true) (sym (g.position c.index (slice_get_within es c.index c.entry c.heard.at))) c.low;
}

-- whatever the new entries are
pub made_grows : (n x : ℕ) (name : List ℕ) (es es' : List Entry) (ls ls' : List ℕ) (u : SnapshotBuilder) → Stays es es' ls ls' → Made n x name es ls u → Made n x name es' ls' u
made_grows n x name es es' ls ls' u g made = record {
  own = made.own;
  clusters = made.clusters;
  asked =
      let a = made.asked in
      let lt = slice_get_within es a.0 a.2.entry a.2.at in
      (a.0, a.1 ∙ ap (snapshot_id name) (sym (g.position a.0 lt)), request_stays x a.0 es es' ls ls' u.id g a.2);
  places = made.places;
  empty = made.empty;
  others = made.others;
  distinct = made.distinct;
  local = λ some. let l = made.local some in (l.0, g.index u.cut.local l.0 l.1);
  zero = made.zero;
  first = λ y p kept.
      let f = made.first y p kept in
      record {
        counted = counted_stays y es es' ls ls' u.id p u.cut.local g f.counted;
        early = λ second i q at of asks. elim (below_or i (length es)) [
          | inl low ↦ f.early second i q (grown_old es es' ls ls' g i q low at) of asks
          | inr high ↦ let lt = slice_get_within es f.counted.index f.counted.entry f.counted.heard.at in omega (arith, lt, high)
        ];
      };
  one = made.one;
  all = made.all;
  again = λ second c heard. let a = made.again second c heard in (a.0, counted_stays c es es' ls ls' (second_id u.id) a.0 u.cut.local g a.1);
}
