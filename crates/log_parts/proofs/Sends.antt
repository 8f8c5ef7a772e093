-- How many places the parcels to a peer take.
use Rattle.std.proofs.Common.{◌≡◌, ℕ, zero, suc, ◌+◌, ◌^◌, ◌<◌, ◌≤◌, Bool, true, false, List, [], ◌∷◌, length, refl, sym, ap, subst, ◌∙◌, arith}
use Rattle.std.specs.Prelude.{if◌then◌else◌, drop, slice_index_or}
use Rattle.std.specs.List.{AllByRecursion}
use Rattle.std.proofs.lemmas.Bool.{eq-eqb}
use Rattle.std.proofs.lemmas.List.{at_drop_more, drop_all}
use Rattle.geo_base.specs.declared.packet.Peer.{Peer}
use Rattle.geo_base.specs.declared.packet.Peer.TheVariants as peer
use Rattle.log_parts.specs.declared.sending.Addressed.{Addressed}
use Rattle.log_parts.specs.declared.table.EndRow.{EndRow}
use Rattle.log_parts.specs.Peers.{same_peer}
use Rattle.wire_ends.specs.declared.packet.WirePacket.{WirePacket}
use Rattle.wire_ends.specs.Looks.{Looked}
use Rattle.log_parts.specs.Rows.{LooksRise, SamePeers, SameSends, free_to, has_peer, looks_to}
use Rattle.log_parts.specs.Sending.{ArePeers, HasRoom, HasRoomFor, LacksRoom, behind_run, places_to}
use Rattle.log_parts.proofs.Tables.{same_is}

next_at : (q : Peer) (as' : List Addressed) (i : ℕ) (d : Addressed) → i < length as'
    → places_to q (drop i as') ≡ (if same_peer (slice_index_or as' i d).to q then (slice_index_or as' i d).parcel.places + places_to q (drop (i + 1) as') else places_to q (drop (i + 1) as'))
next_at q as' i d h = at_drop_more (places_to q) as' i d h

pub more_places : (q : Peer) (as' : List Addressed) (i n m : ℕ) (d : Addressed) → i < length as' → same_peer (slice_index_or as' i d).to q ≡ true → m ≡ n + (slice_index_or as' i d).parcel.places
    → n + places_to q (drop i as') ≡ places_to q as' → m + places_to q (drop (i + 1) as') ≡ places_to q as'
more_places q as' i n m d h own is all =
    let at : places_to q (drop i as') ≡ (slice_index_or as' i d).parcel.places + places_to q (drop (i + 1) as') =
    next_at q as' i d h ∙ ap (λ (t : Bool). if t then (slice_index_or as' i d).parcel.places + places_to q (drop (i + 1) as') else places_to q (drop (i + 1) as')) own in
    omega (arith, at, is, all)

pub no_places : (q : Peer) (as' : List Addressed) (i n : ℕ) (d : Addressed) → i < length as' → same_peer (slice_index_or as' i d).to q ≡ false
    → n + places_to q (drop i as') ≡ places_to q as' → n + places_to q (drop (i + 1) as') ≡ places_to q as'
no_places q as' i n d h other all =
    let at : places_to q (drop i as') ≡ places_to q (drop (i + 1) as') =
    next_at q as' i d h ∙ ap (λ (t : Bool). if t then (slice_index_or as' i d).parcel.places + places_to q (drop (i + 1) as') else places_to q (drop (i + 1) as')) other in
    omega (arith, at, all)

pub last_places : (q : Peer) (as' : List Addressed) (i n : ℕ) → length as' ≤ i → n + places_to q (drop i as') ≡ places_to q as' → n ≡ places_to q as'
last_places q as' i n h all = let nothing : places_to q (drop i as') ≡ 0 = ap (places_to q) (drop_all i as' h) in omega (arith, nothing, all)

pub many_places : (q : Peer) (as' : List Addressed) (i n : ℕ) (d : Addressed) → i < length as' → same_peer (slice_index_or as' i d).to q ≡ true → 2 ^ 64 ≤ n + (slice_index_or as' i d).parcel.places
    → n + places_to q (drop i as') ≡ places_to q as' → 2 ^ 64 ≤ places_to q as'
many_places q as' i n d h own large all =
    let at : places_to q (drop i as') ≡ (slice_index_or as' i d).parcel.places + places_to q (drop (i + 1) as') =
    next_at q as' i d h ∙ ap (λ (t : Bool). if t then (slice_index_or as' i d).parcel.places + places_to q (drop (i + 1) as') else places_to q (drop (i + 1) as')) own in
    omega (arith, at, large, all)

-- ---- room for all, from room at each parcel's own peer

some_places : (q : Peer) (as' : List Addressed) (m n : ℕ) → AllByRecursion (λ (a : Addressed). same_peer a.to q ≡ true → m ≤ n) as' → (0 < places_to q as' → m ≤ n)
some_places q [] m n h lt = absurd (omega (arith, lt))
some_places q (a ∷ as') m n h lt = by (same_peer a.to q) refl lt (some_places q as' m n h.1)
  where
    by : (t : Bool) → same_peer a.to q ≡ t → 0 < (if t then a.parcel.places + places_to q as' else places_to q as') → (0 < places_to q as' → m ≤ n) → m ≤ n
    by true e lt rest = h.0 e
    by false e lt rest = rest lt

at_peers : {E : Type 0} (free : E → ℕ) (rs : List (EndRow E)) (all as' : List Addressed) (q : Peer) → AllByRecursion (λ (a : Addressed). places_to a.to all ≤ free_to free rs a.to) as'
    → AllByRecursion (λ (a : Addressed). same_peer a.to q ≡ true → places_to q all ≤ free_to free rs q) as'
at_peers free rs all [] q h = tt
at_peers free rs all (a ∷ as') q h = (λ e. subst (λ (p : Peer). places_to p all ≤ free_to free rs p) (same_is a.to q e) h.0, at_peers free rs all as' q h.1)

pub room_of : {E : Type 0} (free : E → ℕ) (rs : List (EndRow E)) (as' : List Addressed) → AllByRecursion (λ (a : Addressed). places_to a.to as' ≤ free_to free rs a.to) as' → HasRoom free rs as'
room_of free rs as' h = λ q. by q (places_to q as') refl
  where
    by : (q : Peer) (m : ℕ) → places_to q as' ≡ m → places_to q as' ≤ free_to free rs q
    by q zero e = omega (arith, e)
    by q (suc m) e = some_places q as' (places_to q as') (free_to free rs q) (at_peers free rs as' as' q h) (omega (arith, e))

-- ---- one parcel after another

next_is : (as' : List Addressed) (i : ℕ) (d : Addressed) → i < length as' → drop i as' ≡ slice_index_or as' i d ∷ drop (i + 1) as'
next_is as' i d h = at_drop_more (λ (l : List Addressed). l) as' i d h

pub peer_at : {E : Type 0} (rs : List (EndRow E)) (as' : List Addressed) (i : ℕ) (d : Addressed) → i < length as' → ArePeers rs as' → has_peer rs (slice_index_or as' i d).to ≡ true
peer_at rs [] i d lt h = absurd (omega (arith, lt))
peer_at rs (a ∷ as') zero d lt h = h.0
peer_at rs (a ∷ as') (suc i) d lt h = peer_at rs as' i d (omega (arith, lt)) h.1

pub still_peers : {E : Type 0} (rs rs' : List (EndRow E)) (as' : List Addressed) → ArePeers rs as' → SamePeers rs rs' → ArePeers rs' as'
still_peers rs rs' [] h same = tt
still_peers rs rs' (a ∷ as') h same = (same a.to ∙ h.0, still_peers rs rs' as' h.1 same)

pub room_none : {E : Type 0} (free : E → ℕ) (rs : List (EndRow E)) (as' : List Addressed) (i : ℕ) → length as' ≤ i → HasRoomFor free rs as' (drop i as')
room_none free rs as' i h = subst (HasRoomFor free rs as') (sym (drop_all i as' h)) tt

-- those of a run have room where the first has
room_of_run : {E : Type 0} (free : E → ℕ) (rs : List (EndRow E)) (all as' : List Addressed) (q : Peer) → places_to q all ≤ free_to free rs q → HasRoomFor free rs all (behind_run q as')
    → HasRoomFor free rs all as'
room_of_run free rs all [] q here = λ rest. tt
room_of_run free rs all (a ∷ as') q here = by (same_peer a.to q) refl (room_of_run free rs all as' q here)
  where
    by : (t : Bool) → same_peer a.to q ≡ t → (HasRoomFor free rs all (behind_run q as') → HasRoomFor free rs all as')
        → HasRoomFor free rs all (if t then behind_run q as' else a ∷ as') → HasRoomFor free rs all (a ∷ as')
    by true e more rest = (subst (λ (p : Peer). places_to p all ≤ free_to free rs p) (sym (same_is a.to q e)) here, more rest)
    by false e more rest = rest

pub room_more : {E : Type 0} (sent : E → List WirePacket) (free : E → ℕ) (rs rs' : List (EndRow E)) (as' : List Addressed) (i end : ℕ) (d : Addressed)
    → places_to (slice_index_or as' i d).to as' ≤ free_to free rs (slice_index_or as' i d).to → SameSends sent free rs rs'
    → drop end as' ≡ behind_run (slice_index_or as' i d).to (drop i as') → HasRoomFor free rs' as' (drop end as') → HasRoomFor free rs' as' (drop i as')
room_more sent free rs rs' as' i end d here same run rest =
    let q = (slice_index_or as' i d).to in let more = same.free q in
    room_of_run free rs' as' (drop i as') q (omega (arith, here, more)) (subst (HasRoomFor free rs' as') run rest)

-- ---- where a run ends
same_own : (q : Peer) → same_peer q q ≡ true
same_own (peer.Forward x) = eq-eqb x x refl
same_own (peer.Back x) = eq-eqb x x refl
same_own (peer.Client x) = eq-eqb x x refl
same_own (peer.Broker x) = eq-eqb x x refl

behind_next : (q : Peer) (as' : List Addressed) (i : ℕ) (d : Addressed) → i < length as'
    → behind_run q (drop i as') ≡ (if same_peer (slice_index_or as' i d).to q then behind_run q (drop (i + 1) as') else drop i as')
behind_next q as' i d lt =
    let is = next_is as' i d lt in
    ap (behind_run q) is ∙ ap (λ (l : List Addressed). if same_peer (slice_index_or as' i d).to q then behind_run q (drop (i + 1) as') else l) (sym is)

pub run_on : (q : Peer) (as' ps : List Addressed) (i : ℕ) (d : Addressed) → i < length as' → same_peer (slice_index_or as' i d).to q ≡ true
    → behind_run q (drop i as') ≡ behind_run q ps → behind_run q (drop (i + 1) as') ≡ behind_run q ps
run_on q as' ps i d lt own h =
    sym (behind_next q as' i d lt ∙ ap (λ (t : Bool). if t then behind_run q (drop (i + 1) as') else drop i as') own) ∙ h

pub run_begun : (as' : List Addressed) (i : ℕ) (d : Addressed) → i < length as' → behind_run (slice_index_or as' i d).to (drop (i + 1) as') ≡ behind_run (slice_index_or as' i d).to (drop i as')
run_begun as' i d lt = let q = (slice_index_or as' i d).to in run_on q as' (drop i as') i d lt (same_own q) refl

pub run_over : (q : Peer) (as' ps : List Addressed) (i : ℕ) (d : Addressed) → i < length as' → same_peer (slice_index_or as' i d).to q ≡ false
    → behind_run q (drop i as') ≡ behind_run q ps → drop i as' ≡ behind_run q ps
run_over q as' ps i d lt other h =
    sym (behind_next q as' i d lt ∙ ap (λ (t : Bool). if t then behind_run q (drop (i + 1) as') else drop i as') other) ∙ h

pub run_past : (q : Peer) (as' ps : List Addressed) (i : ℕ) → length as' ≤ i → behind_run q (drop i as') ≡ behind_run q ps → drop i as' ≡ behind_run q ps
run_past q as' ps i le h = let none = drop_all i as' le in none ∙ (sym (ap (behind_run q) none) ∙ h)

-- where an end has too few
pub lacks_here : {E : Type 0} (free looks : E → ℕ) (old new : List (EndRow E)) (as' : List Addressed) (q : Peer) → free_to free new q < places_to q as' → Looked (looks_to looks old q) (looks_to looks new q)
    → LacksRoom free looks old new as'
lacks_here free looks old new as' q few looked = record { peer = q; few = few; looked = looked }

pub lacks_later : {E : Type 0} (free looks : E → ℕ) (old mid new : List (EndRow E)) (as' : List Addressed) → LooksRise looks old mid → LacksRoom free looks mid new as' → LacksRoom free looks old new as'
lacks_later free looks old mid new as' rise lacks =
    let up = rise lacks.peer in let more = lacks.looked.0 in
    record {
      peer = lacks.peer;
      few = lacks.few;
      looked = (omega (arith, up, more), λ le. let top = lacks.looked.1 (omega (arith, le, up)) in omega (arith, top, le, more));
    }
