-- What pieces give, and how they are joined.
use Rattle.std.proofs.Common.{◌≡◌, ℕ, ◌+◌, ◌<◌, true, false, List, [], ◌∷◌, ◌++◌, length, refl, sym, ap, subst, ◌∙◌, arith}
use Rattle.std.specs.Prelude.{Option, Some, None, ◌==◌, nat_le, slice_get, take, zero, suc}
use Rattle.std.specs.List.{concat}
use Rattle.std.proofs.lemmas.Bool.Decides.{nat_tests}
use Rattle.std.proofs.lemmas.List.{append-nil, append_assoc, length-append, take_all}
use Rattle.std.proofs.Math.Seq.{take-append_seam}
use Rattle.wire_ends.specs.declared.packet.WirePacket.{WirePacket}
use Rattle.wire_ends.specs.declared.piece.Piece.{Piece}
use Rattle.wire_ends.specs.Joined.{Grows, Joined, with_piece, with_pieces}
use Rattle.wire_ends.specs.Looks.{Stays}
use Rattle.wire_ends.specs.Parcels.{Packed, as_parts, pieces_of}
use Rattle.wire_ends.specs.PieceEnds.{IsAtRest, PieceState, untaken}
use Rattle.wire_ends.specs.Pieces.{Begun, begun_after, begun_at_end, begun_by, cut_off, gives, head_gives, packets_from, still_begun, whole_of, with_part}
use Rattle.geo_base.proofs.Bools.{if_false, if_true}

by_zero : {P : Type 0} (n : ℕ) → (n ≡ 0 → P) → (0 < n → P) → P
by_zero zero f g = f refl
by_zero (suc n) f g = g (omega arith)

none_left : (xs : List ℕ) → length xs ≡ 0 → xs ≡ []
none_left [] e = refl
none_left (x ∷ xs) e = absurd (omega (arith, e))

-- LISTS OF PIECES, ONE BEHIND ANOTHER

pub packets_append : (o : Option Begun) (ps qs : List Piece) → packets_from o (ps ++ qs) ≡ packets_from o ps ++ packets_from (begun_at_end o ps) qs
packets_append o [] qs = refl
packets_append o (p ∷ ps) qs =
    ap (λ (ws : List WirePacket). gives o p ++ ws) (packets_append (begun_after o p) ps qs)
    ∙ sym (append_assoc (gives o p) (packets_from (begun_after o p) ps) (packets_from (begun_at_end (begun_after o p) ps) qs))

pub begun_append : (o : Option Begun) (ps qs : List Piece) → begun_at_end o (ps ++ qs) ≡ begun_at_end (begun_at_end o ps) qs
begun_append o [] qs = refl
begun_append o (p ∷ ps) qs = begun_append (begun_after o p) ps qs

-- PARTS

dropped : (parts : List (List ℕ)) → packets_from None (as_parts parts) ≡ []
dropped [] = refl
dropped (x ∷ xs) = dropped xs

none_begun : (parts : List (List ℕ)) → begun_at_end None (as_parts parts) ≡ None
none_begun [] = refl
none_begun (x ∷ xs) = none_begun xs

-- what one part gives, by whether all bytes are there
gives_by : (w : Begun) (ps : List Piece) (xs : List WirePacket) (o : Option Begun) → whole_of w ≡ xs → still_begun w ≡ o
    → whole_of w ++ packets_from (still_begun w) ps ≡ xs ++ packets_from o ps
gives_by w ps xs o e f =
    ap (λ (ys : List WirePacket). ys ++ packets_from (still_begun w) ps) e ∙ ap (λ (q : Option Begun). xs ++ packets_from q ps) f

-- the packet that a begun one becomes with the rest of its bytes
abbrev pub packet_with : Begun → List ℕ → WirePacket
packet_with b more = record { session = b.session; stamp = b.stamp; frame = b.bytes ++ more }

last_part : (b : Begun) (x : List ℕ) (xs : List (List ℕ)) → b.len ≡ length b.bytes + length (x ++ concat xs) → length (concat xs) ≡ 0
    → packets_from (Some b) (as_parts (x ∷ xs)) ≡ packet_with b (x ++ concat xs) ∷ []
last_part b x xs fits rest =
    let w = with_part b x in
    let all : b.len ≡ length (b.bytes ++ x) = omega (arith, fits, rest, length-append b.bytes x, length-append x (concat xs)) in
    let test : nat_le w.len (length w.bytes) ≡ true = grind (arith, nat_tests, all) in
    let frame : take b.len (b.bytes ++ x) ≡ b.bytes ++ (x ++ concat xs) =
    take_all b.len (b.bytes ++ x) (omega (arith, all)) ∙ ap (λ (m : List ℕ). b.bytes ++ m) (sym (append-nil x) ∙ ap (λ (m : List ℕ). x ++ m) (sym (none_left (concat xs) rest))) in
    gives_by w (as_parts xs) _ _ (if_true _ _ _ test) (if_true _ _ _ test)
    ∙ ap (λ (ys : List WirePacket). (record { session = b.session; stamp = b.stamp; frame = take b.len (b.bytes ++ x) } ∷ []) ++ ys) (dropped xs)
    ∙ ap (λ (f : List ℕ). (record { session = b.session; stamp = b.stamp; frame = f }) ∷ []) frame

pub parts_give : (b : Begun) (parts : List (List ℕ)) → b.len ≡ length b.bytes + length (concat parts) → 0 < length (concat parts)
    → packets_from (Some b) (as_parts parts) ≡ packet_with b (concat parts) ∷ []
parts_give b [] fits some = absurd (omega (arith, some))
parts_give b (x ∷ xs) fits some = by_zero (length (concat xs)) (last_part b x xs fits) (λ more.
    let w = with_part b x in
    let less : length (b.bytes ++ x) < b.len = omega (arith, fits, more, length-append b.bytes x, length-append x (concat xs)) in
    let test : nat_le w.len (length w.bytes) ≡ false = grind (arith, nat_tests, less) in
    let left : w.len ≡ length w.bytes + length (concat xs) = omega (arith, fits, length-append b.bytes x, length-append x (concat xs)) in
    gives_by w (as_parts xs) [] (Some w) (if_false _ _ _ test) (if_false _ _ _ test)
    ∙ parts_give w xs left more
    ∙ ap (λ (f : List ℕ). (record { session = b.session; stamp = b.stamp; frame = f }) ∷ []) (append_assoc b.bytes x (concat xs)))

last_ends : (b : Begun) (x : List ℕ) (xs : List (List ℕ)) → b.len ≡ length b.bytes + length (x ++ concat xs) → length (concat xs) ≡ 0
    → begun_at_end (Some b) (as_parts (x ∷ xs)) ≡ None
last_ends b x xs fits rest =
    let w = with_part b x in
    let all : b.len ≡ length (b.bytes ++ x) = omega (arith, fits, rest, length-append b.bytes x, length-append x (concat xs)) in
    let test : nat_le w.len (length w.bytes) ≡ true = grind (arith, nat_tests, all) in
    ap (λ (o : Option Begun). begun_at_end o (as_parts xs)) (if_true _ None (Some w) test) ∙ none_begun xs

pub parts_end : (b : Begun) (parts : List (List ℕ)) → b.len ≡ length b.bytes + length (concat parts) → 0 < length (concat parts)
    → begun_at_end (Some b) (as_parts parts) ≡ None
parts_end b [] fits some = absurd (omega (arith, some))
parts_end b (x ∷ xs) fits some = by_zero (length (concat xs)) (last_ends b x xs fits) (λ more.
    let w = with_part b x in
    let less : length (b.bytes ++ x) < b.len = omega (arith, fits, more, length-append b.bytes x, length-append x (concat xs)) in
    let test : nat_le w.len (length w.bytes) ≡ false = grind (arith, nat_tests, less) in
    let left : w.len ≡ length w.bytes + length (concat xs) = omega (arith, fits, length-append b.bytes x, length-append x (concat xs)) in
    ap (λ (o : Option Begun). begun_at_end o (as_parts xs)) (if_false _ None (Some w) test) ∙ parts_end w xs left more)

-- PARCELS

some_bytes : (n : ℕ) → (suc n == 0) ≡ false
some_bytes n = grind (arith, nat_tests)

-- a head with all its parts is one packet, and none is left that has begun
headed : (session stamp : ℕ) (frame : List ℕ) (parts : List (List ℕ)) → concat parts ≡ frame
    → head_gives session stamp (length frame) ++ packets_from (begun_by session stamp (length frame)) (as_parts parts) ≡ record { session = session; stamp = stamp; frame = frame } ∷ []
headed session stamp [] parts cut = ap (λ (ys : List WirePacket). (record { session = session; stamp = stamp; frame = [] }) ∷ ys) (dropped parts)
headed session stamp (b ∷ bs) parts cut =
    let n : ℕ = length (b ∷ bs) in let t : (n == 0) ≡ false = some_bytes (length bs) in
    ap (λ (ws : List WirePacket). ws ++ packets_from (begun_by session stamp n) (as_parts parts)) (if_false (n == 0) _ _ t)
    ∙ ap (λ (o : Option Begun). packets_from o (as_parts parts)) (if_false (n == 0) _ _ t)
    ∙ parts_give (record { session = session; stamp = stamp; len = n; bytes = [] }) parts (omega (arith, ap length cut)) (subst (λ (f : List ℕ). 0 < length f) (sym cut) (omega arith))
    ∙ ap (λ (f : List ℕ). (record { session = session; stamp = stamp; frame = f }) ∷ []) cut

head_ends : (session stamp : ℕ) (frame : List ℕ) (parts : List (List ℕ)) → concat parts ≡ frame → begun_at_end (begun_by session stamp (length frame)) (as_parts parts) ≡ None
head_ends session stamp [] parts cut = none_begun parts
head_ends session stamp (b ∷ bs) parts cut =
    let n : ℕ = length (b ∷ bs) in
    ap (λ (o : Option Begun). begun_at_end o (as_parts parts)) (if_false (n == 0) _ _ (some_bytes (length bs)))
    ∙ parts_end (record { session = session; stamp = stamp; len = n; bytes = [] }) parts (omega (arith, ap length cut)) (subst (λ (f : List ℕ). 0 < length f) (sym cut) (omega arith))

-- a parcel after any pieces gives its packet; one that had begun before is cut off
pub parcel_gives : (o : Option Begun) (ps : List Piece) (p : Packed) → concat p.parts ≡ p.packet.frame
    → packets_from o (ps ++ pieces_of p) ≡ packets_from o ps ++ (cut_off (begun_at_end o ps) ++ p.packet ∷ [])
parcel_gives o ps p cut =
    let q = begun_at_end o ps in
    packets_append o ps (pieces_of p)
    ∙ ap (λ (ws : List WirePacket). packets_from o ps ++ ws)
    (append_assoc (cut_off q) _ _ ∙ ap (λ (ws : List WirePacket). cut_off q ++ ws) (headed p.packet.session p.packet.stamp p.packet.frame p.parts cut))

pub parcel_ends : (o : Option Begun) (ps : List Piece) (p : Packed) → concat p.parts ≡ p.packet.frame → begun_at_end o (ps ++ pieces_of p) ≡ None
parcel_ends o ps p cut = begun_append o ps (pieces_of p) ∙ head_ends p.packet.session p.packet.stamp p.packet.frame p.parts cut

-- GATHERING

pub next_piece : (j : Joined) (p : Piece) (ps : List Piece) → with_pieces (with_piece j p) ps ≡ with_pieces j (p ∷ ps)
next_piece j p ps =
    ap (λ (ws : List WirePacket). record { begun = begun_at_end (begun_after j.begun p) ps; whole = ws })
    (append_assoc j.whole (gives j.begun p) (packets_from (begun_after j.begun p) ps))

pub no_piece : (j : Joined) → with_pieces j [] ≡ j
no_piece j = ap (λ (ws : List WirePacket). record { begun = j.begun; whole = ws }) (append-nil j.whole)

pub stays_more : {X : Type 0} (xs ys : List X) → Stays (slice_get xs 0) (slice_get (xs ++ ys) 0)
stays_more [] ys = tt
stays_more (x ∷ xs) ys = refl

pub stays_on : {X : Type 0} (a b c : Option X) → Stays a b → Stays b c → Stays a c
stays_on None b c h k = tt
stays_on {X = X} (Some x) b c h k = subst (λ (o : Option X). Stays o c) h k

pub grows_more : {X : Type 0} (xs ys : List X) → Grows xs (xs ++ ys)
grows_more xs ys = take-append_seam xs ys

head_or : {X : Type 0} → X → List X → X
head_or d [] = d
head_or d (x ∷ xs) = x

tail_of : {X : Type 0} → List X → List X
tail_of [] = []
tail_of (x ∷ xs) = xs

pub grows_on : {X : Type 0} (a b c : List X) → Grows a b → Grows b c → Grows a c
unfolding head_or tail_of
grows_on [] b c h k = refl
grows_on (x ∷ a) [] c h k = absurd (omega (arith, ap length h))
grows_on (x ∷ a) (y ∷ b) [] h k = absurd (omega (arith, ap length k))
grows_on (x ∷ a) (y ∷ b) (z ∷ c) h k =
    ap (λ w. w ∷ take (length a) c) (ap (head_or z) k ∙ ap (head_or y) h)
    ∙ ap (λ r. x ∷ r) (grows_on a b c (ap tail_of h) (ap tail_of k))

pub grows_stays : {X : Type 0} (a b : List X) → Grows a b → Stays (slice_get a 0) (slice_get b 0)
unfolding head_or
grows_stays [] b h = tt
grows_stays (x ∷ a) [] h = absurd (omega (arith, ap length h))
grows_stays (x ∷ a) (y ∷ b) h = ap (λ w. Some w) (ap (head_or x) h)

-- what is to be taken, where no piece is left
pub all_shown : (j : Joined) (ps : List Piece) → ps ≡ [] → j.whole ++ packets_from j.begun ps ≡ j.whole
all_shown j ps none = ap (λ (qs : List Piece). j.whole ++ packets_from j.begun qs) none ∙ append-nil j.whole

-- SENDING

module _ (old new : PieceState) (p : Packed) (same : new.gathered ≡ old.gathered) (more : new.pieces ≡ old.pieces ++ pieces_of p) (cut : concat p.parts ≡ p.packet.frame) where
  pub sent_untaken : untaken new ≡ untaken old ++ (cut_off (begun_at_end old.gathered.begun old.pieces) ++ p.packet ∷ [])
  sent_untaken =
      ap (λ (j : Joined). j.whole ++ packets_from j.begun new.pieces) same
      ∙ ap (λ (ps : List Piece). old.gathered.whole ++ packets_from old.gathered.begun ps) more
      ∙ ap (λ (ws : List WirePacket). old.gathered.whole ++ ws) (parcel_gives old.gathered.begun old.pieces p cut)
      ∙ sym (append_assoc old.gathered.whole _ _)

  pub sent_rests : IsAtRest new
  sent_rests =
      ap (λ (j : Joined). begun_at_end j.begun new.pieces) same
      ∙ ap (λ (ps : List Piece). begun_at_end old.gathered.begun ps) more
      ∙ parcel_ends old.gathered.begun old.pieces p cut
