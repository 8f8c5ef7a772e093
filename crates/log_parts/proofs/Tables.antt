-- One row of a table in place of another, of the same peer.
use Rattle.std.proofs.Common.{◌≡◌, ℕ, suc, ◌+◌, ◌<◌, ◌≤◌, Bool, true, false, List, [], ◌∷◌, length, refl, sym, ap, subst, ◌∙◌, arith}
use Rattle.std.specs.Prelude.{Option, Some, None, if◌then◌else◌, get_or, slice_set}
use Rattle.std.proofs.lemmas.Bool.{eqb-true, false≢true}
use Rattle.geo_base.specs.declared.packet.Peer.{Peer}
use Rattle.geo_base.specs.declared.packet.Peer.TheVariants as peer
use Rattle.log_parts.specs.declared.table.EndRow.{EndRow}
use Rattle.wire_ends.specs.Looks.{Looked}
use Rattle.log_parts.specs.Peers.{same_peer}
use Rattle.log_parts.specs.Rows.{at_peer, has_peer, place_from}
use Rattle.geo_base.proofs.Sums.{eq_itself}
use Rattle.geo_base.proofs.Results.{some_number}

-- ---- peers

pub peer_itself : (p : Peer) → same_peer p p ≡ true
peer_itself (peer.Forward x) = eq_itself x
peer_itself (peer.Back x) = eq_itself x
peer_itself (peer.Client x) = eq_itself x
peer_itself (peer.Broker x) = eq_itself x

pub same_is : (p q : Peer) → same_peer p q ≡ true → p ≡ q
same_is (peer.Forward x) (peer.Forward y) e = ap peer.Forward (eqb-true x y e)
same_is (peer.Forward x) (peer.Back y) e = absurd (false≢true e)
same_is (peer.Forward x) (peer.Client y) e = absurd (false≢true e)
same_is (peer.Forward x) (peer.Broker y) e = absurd (false≢true e)
same_is (peer.Back x) (peer.Forward y) e = absurd (false≢true e)
same_is (peer.Back x) (peer.Back y) e = ap peer.Back (eqb-true x y e)
same_is (peer.Back x) (peer.Client y) e = absurd (false≢true e)
same_is (peer.Back x) (peer.Broker y) e = absurd (false≢true e)
same_is (peer.Client x) (peer.Forward y) e = absurd (false≢true e)
same_is (peer.Client x) (peer.Back y) e = absurd (false≢true e)
same_is (peer.Client x) (peer.Client y) e = ap peer.Client (eqb-true x y e)
same_is (peer.Client x) (peer.Broker y) e = absurd (false≢true e)
same_is (peer.Broker x) (peer.Forward y) e = absurd (false≢true e)
same_is (peer.Broker x) (peer.Back y) e = absurd (false≢true e)
same_is (peer.Broker x) (peer.Client y) e = absurd (false≢true e)
same_is (peer.Broker x) (peer.Broker y) e = ap peer.Broker (eqb-true x y e)

-- ---- places

-- the first row of a peer stands at a place
pub data IsPlace {E : Type 0} (q : Peer) : List (EndRow E) → ℕ → Type 0 where
  first : (r : EndRow E) (rs : List (EndRow E)) → same_peer r.peer q ≡ true → IsPlace q (r ∷ rs) 0
  later : (r : EndRow E) (rs : List (EndRow E)) (i : ℕ) → same_peer r.peer q ≡ false → IsPlace q rs i → IsPlace q (r ∷ rs) (suc i)

pub record Placed {E : Type 0} (q : Peer) (rs : List (EndRow E)) (k j : ℕ) : Type 0 where
  pub at : ℕ
  pub is : j ≡ k + at
  pub place : IsPlace q rs at

none_some : (j : ℕ) → ◌≡◌ {A = Option ℕ} None (Some j) → ⊥
none_some j e = cc

pub placed : {E : Type 0} (q : Peer) (rs : List (EndRow E)) (k j : ℕ) → place_from k rs q ≡ Some j → Placed q rs k j
placed q [] k j e = absurd (none_some j e)
placed {E} q (r ∷ rs) k j e = by (same_peer r.peer q) refl e (λ f. placed q rs (suc k) j f)
  where
    by : (t : Bool) → same_peer r.peer q ≡ t → (if t then Some k else place_from (suc k) rs q) ≡ Some j → (place_from (suc k) rs q ≡ Some j → Placed q rs (suc k) j) → Placed q (r ∷ rs) k j
    by true is e rest = record { at = 0; is = let s = some_number k j e in omega (arith, s); place = IsPlace.first r rs is }
    by false is e rest = let p = rest e in record { at = suc p.at; is = let s = p.is in omega (arith, s); place = IsPlace.later r rs p.at is p.place }

pub place_has : {E : Type 0} (q : Peer) (rs : List (EndRow E)) (k : ℕ) → place_from k rs q ≡ None → has_peer rs q ≡ false
place_has q [] k e = refl
place_has {E} q (r ∷ rs) k e = by (same_peer r.peer q) e (λ f. place_has q rs (suc k) f)
  where
    by : (t : Bool) → (if t then Some k else place_from (suc k) rs q) ≡ None → (place_from (suc k) rs q ≡ None → has_peer rs q ≡ false) → (if t then true else has_peer rs q) ≡ false
    by true e rest = absurd (none_some k (sym e))
    by false e rest = rest e

pub place_some : {E : Type 0} (q : Peer) (rs : List (EndRow E)) (i : ℕ) → IsPlace q rs i → has_peer rs q ≡ true
place_some q _ _ (IsPlace.first r rs is) = rw is refl
place_some q _ _ (IsPlace.later r rs i is p) = rw is (place_some q rs i p)

pub place_within : {E : Type 0} (q : Peer) (rs : List (EndRow E)) (i : ℕ) → IsPlace q rs i → i < length rs
place_within q _ _ (IsPlace.first r rs is) = omega arith
place_within q _ _ (IsPlace.later r rs i is p) = let lt = place_within q rs i p in omega (arith, lt)

-- what stands there
at_or : {E X : Type 0} (f : EndRow E → X) (d : X) (q : Peer) (rs : List (EndRow E)) (i : ℕ) (o : EndRow E) → IsPlace q rs i → at_peer f d rs q ≡ f (get_or rs i o)
at_or f d q _ _ o (IsPlace.first a rs is) = rw is refl
at_or f d q _ _ o (IsPlace.later a rs i is p) = rw is (at_or f d q rs i o p)

peer_or : {E : Type 0} (q : Peer) (rs : List (EndRow E)) (i : ℕ) (o : EndRow E) → IsPlace q rs i → same_peer (get_or rs i o).peer q ≡ true
peer_or q _ _ o (IsPlace.first a rs is) = is
peer_or q _ _ o (IsPlace.later a rs i is p) = peer_or q rs i o p

-- another row of the same peer there
pub at_set : {E X : Type 0} (f : EndRow E → X) (d : X) (q p : Peer) (rs : List (EndRow E)) (i : ℕ) (r : EndRow E) → IsPlace q rs i → same_peer r.peer q ≡ true
    → at_peer f d (slice_set rs i r) p ≡ (if same_peer q p then f r else at_peer f d rs p)
at_set {E} {X} f d q p _ _ r (IsPlace.first a rs is) own =
    ap (λ (t : Peer). if same_peer t p then f r else at_peer f d rs p) (same_is r.peer q own) ∙ by (same_peer q p) refl
  where
    by : (t : Bool) → same_peer q p ≡ t → (if t then f r else at_peer f d rs p) ≡ (if t then f r else (if same_peer a.peer p then f a else at_peer f d rs p))
    by true e = refl
    by false e = let other : same_peer a.peer p ≡ false = ap (λ (t : Peer). same_peer t p) (same_is a.peer q is) ∙ e in rw other refl
at_set {E} {X} f d q p _ _ r (IsPlace.later a rs i is place) own = by (same_peer a.peer p) refl (at_set f d q p rs i r place own)
  where
    no_other : (t : Bool) → same_peer q p ≡ t → a.peer ≡ p → same_peer q p ≡ false
    no_other true g same = absurd (false≢true (sym is ∙ rw (same, same_is q p g) (peer_itself p)))
    no_other false g same = g

    by : (t : Bool) → same_peer a.peer p ≡ t → at_peer f d (slice_set rs i r) p ≡ (if same_peer q p then f r else at_peer f d rs p)
        → (if t then f a else at_peer f d (slice_set rs i r) p) ≡ (if same_peer q p then f r else (if t then f a else at_peer f d rs p))
    by true e rest = let other : same_peer q p ≡ false = no_other (same_peer q p) refl (same_is a.peer p e) in rw other refl
    by false e rest = rest

pub place_one : {E : Type 0} (q : Peer) (rs : List (EndRow E)) (k j : ℕ) → place_from k rs q ≡ Some j → has_peer rs q ≡ true
place_one q rs k j e = place_some q rs (placed q rs k j e).at (placed q rs k j e).place

-- ---- the row that a search found

pub record IsRow {E : Type 0} (q : Peer) (rs : List (EndRow E)) (i : ℕ) (r : EndRow E) : Type 0 where
  pub place : IsPlace q rs i
  pub is : r ≡ get_or rs i r

pub row_of : {E : Type 0} (q : Peer) (rs : List (EndRow E)) (o : Option ℕ) (i : ℕ) (r : EndRow E) → o ≡ place_from 0 rs q → o ≡ Some i → r ≡ get_or rs i r → IsRow q rs i r
row_of q rs o i r searched found is =
    let p = placed q rs 0 i (sym searched ∙ found) in
    let same : p.at ≡ i = let s = p.is in omega (arith, s) in
    record { place = subst (IsPlace q rs) same p.place; is = is }

pub row_within : {E : Type 0} (q : Peer) (rs : List (EndRow E)) (o : Option ℕ) (i : ℕ) → o ≡ place_from 0 rs q → o ≡ Some i → i < length rs
row_within q rs o i searched found =
    let p = placed q rs 0 i (sym searched ∙ found) in let lt = place_within q rs p.at p.place in let s = p.is in omega (arith, lt, s)

-- a peer that has a row is found
pub row_none : {E : Type 0} (q : Peer) (rs : List (EndRow E)) (o : Option ℕ) → o ≡ place_from 0 rs q → o ≡ None → has_peer rs q ≡ true → ⊥
row_none q rs o searched none has = false≢true (sym (place_has q rs 0 (sym searched ∙ none)) ∙ has)

pub row_at : {E X : Type 0} (f : EndRow E → X) (d : X) (q : Peer) (rs : List (EndRow E)) (i : ℕ) (r : EndRow E) → IsRow q rs i r → at_peer f d rs q ≡ f r
row_at f d q rs i r row = at_or f d q rs i r row.place ∙ ap f (sym row.is)

own_row : {E : Type 0} (q : Peer) (rs : List (EndRow E)) (i : ℕ) (r new : EndRow E) → IsRow q rs i r → new.peer ≡ r.peer → same_peer new.peer q ≡ true
own_row q rs i r new row peer = ap (λ (p : Peer). same_peer p q) (peer ∙ ap (λ (a : EndRow _). a.peer) row.is) ∙ peer_or q rs i r row.place

pub set_one : {E X : Type 0} (f : EndRow E → X) (d : X) (q p : Peer) (rs : List (EndRow E)) (i : ℕ) (r new : EndRow E) → IsRow q rs i r → new.peer ≡ r.peer
    → at_peer f d (slice_set rs i new) p ≡ (if same_peer q p then f new else at_peer f d rs p)
set_one f d q p rs i r new row peer = at_set f d q p rs i new row.place (own_row q rs i r new row peer)

-- at the row's own peer what it was before
own_before : {E X : Type 0} (f : EndRow E → X) (d : X) (q p : Peer) (rs : List (EndRow E)) (i : ℕ) (r : EndRow E) → IsRow q rs i r → same_peer q p ≡ true → at_peer f d rs p ≡ f r
own_before f d q p rs i r row same = ap (λ (a : Peer). at_peer f d rs a) (sym (same_is q p same)) ∙ row_at f d q rs i r row

pub set_by : {E X : Type 0} (f : EndRow E → X) (d : X) (q p : Peer) (rs : List (EndRow E)) (i : ℕ) (r new : EndRow E) (g : X → X) → IsRow q rs i r → new.peer ≡ r.peer → f new ≡ g (f r)
    → at_peer f d (slice_set rs i new) p ≡ (if same_peer q p then g (at_peer f d rs p) else at_peer f d rs p)
set_by {E} {X} f d q p rs i r new g row peer is = set_one f d q p rs i r new row peer ∙ by (same_peer q p) refl
  where
    by : (t : Bool) → same_peer q p ≡ t → (if t then f new else at_peer f d rs p) ≡ (if t then g (at_peer f d rs p) else at_peer f d rs p)
    by true e = is ∙ ap g (sym (own_before f d q p rs i r row e))
    by false e = refl

pub set_same : {E X : Type 0} (f : EndRow E → X) (d : X) (q p : Peer) (rs : List (EndRow E)) (i : ℕ) (r new : EndRow E) → IsRow q rs i r → new.peer ≡ r.peer → f new ≡ f r
    → at_peer f d (slice_set rs i new) p ≡ at_peer f d rs p
set_same {E} {X} f d q p rs i r new row peer is = set_by f d q p rs i r new (λ x. x) row peer is ∙ by (same_peer q p)
  where
    by : (t : Bool) → (if t then at_peer f d rs p else at_peer f d rs p) ≡ at_peer f d rs p
    by true = refl
    by false = refl

pub set_least : {E : Type 0} (f : EndRow E → ℕ) (q p : Peer) (rs : List (EndRow E)) (i : ℕ) (r new : EndRow E) (used : ℕ) → IsRow q rs i r → new.peer ≡ r.peer → f r ≤ f new + used
    → at_peer f 0 rs p ≤ at_peer f 0 (slice_set rs i new) p + (if same_peer q p then used else 0)
set_least {E} f q p rs i r new used row peer le = let one = set_one f 0 q p rs i r new row peer in rw one (by (same_peer q p) refl)
  where
    by : (t : Bool) → same_peer q p ≡ t → at_peer f 0 rs p ≤ (if t then f new else at_peer f 0 rs p) + (if t then used else 0)
    by true e = let before = own_before f 0 q p rs i r row e in omega (arith, before, le)
    by false e = omega arith

pub set_more : {E : Type 0} (f : EndRow E → ℕ) (q p : Peer) (rs : List (EndRow E)) (i : ℕ) (r new : EndRow E) → IsRow q rs i r → new.peer ≡ r.peer → f r ≤ f new
    → at_peer f 0 rs p ≤ at_peer f 0 (slice_set rs i new) p
set_more {E} f q p rs i r new row peer le = let one = set_one f 0 q p rs i r new row peer in rw one (by (same_peer q p) refl)
  where
    by : (t : Bool) → same_peer q p ≡ t → at_peer f 0 rs p ≤ (if t then f new else at_peer f 0 rs p)
    by true e = let before = own_before f 0 q p rs i r row e in omega (arith, before, le)
    by false e = omega arith

-- what was put there
pub set_own : {E X : Type 0} (f : EndRow E → X) (d : X) (q : Peer) (rs : List (EndRow E)) (i : ℕ) (r new : EndRow E) → IsRow q rs i r → new.peer ≡ r.peer
    → at_peer f d (slice_set rs i new) q ≡ f new
set_own f d q rs i r new row peer = let one = set_one f d q q rs i r new row peer in let own = peer_itself q in one ∙ rw own refl

-- nothing is of a peer that has no row
none_of : {E X : Type 0} (f : EndRow E → X) (d : X) (q : Peer) (rs : List (EndRow E)) → has_peer rs q ≡ false → at_peer f d rs q ≡ d
none_of f d q [] h = refl
none_of {E} {X} f d q (r ∷ rs) h = by (same_peer r.peer q) h (λ k. none_of f d q rs k)
  where
    by : (t : Bool) → (if t then true else has_peer rs q) ≡ false → (has_peer rs q ≡ false → at_peer f d rs q ≡ d) → (if t then f r else at_peer f d rs q) ≡ d
    by true h rest = absurd (false≢true (sym h))
    by false h rest = rest h

pub row_gone : {E X : Type 0} (f : EndRow E → X) (d : X) (q : Peer) (rs : List (EndRow E)) (o : Option ℕ) → o ≡ place_from 0 rs q → o ≡ None → at_peer f d rs q ≡ d
row_gone f d q rs o searched none = none_of f d q rs (place_has q rs 0 (sym searched ∙ none))

-- a look at the row's end
pub set_looked : {E : Type 0} (f : EndRow E → ℕ) (q : Peer) (rs : List (EndRow E)) (i : ℕ) (r new : EndRow E) → IsRow q rs i r → new.peer ≡ r.peer → Looked (f r) (f new)
    → Looked (at_peer f 0 rs q) (at_peer f 0 (slice_set rs i new) q)
set_looked f q rs i r new row peer looked =
    let before = row_at f 0 q rs i r row in let after = set_own f 0 q rs i r new row peer in
    rw (before, after) looked
