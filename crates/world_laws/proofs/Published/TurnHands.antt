-- What a client has in hand: of its pub lines that are done each is awaited, and was sent in its connection, or stands. What it sends next
-- is in turn.
use Rattle.std.proofs.Common.{◌≡◌, ◌==◌, ℕ, ◌+◌, ◌<◌, ◌≤◌, Bool, true, false, List, [], ◌∷◌, ◌++◌, length, map, refl, sym, ap, subst, ◌∙◌, arith, inl, inr, ◌⊎◌, length-append}
use Rattle.std.specs.Prelude.{Option, Some, None, if◌then◌else◌, ◌||◌, slice_get}
use Rattle.std.proofs.lemmas.Bool.{eq-eqb, eqb-true, false≢true}
use Rattle.std.proofs.lemmas.List.Folds.{list_any-append}
use Rattle.std.proofs.lemmas.List.{append-nil, append_assoc}
use Rattle.std.proofs.lemmas.Option.{none-some, same_Some, slice_get_within}
use Rattle.world_laws.proofs.Types.{Entry, Frame, Out, Packet, ClusterRef}
use Rattle.world_laws.proofs.Types.frame
use Rattle.geo_base.specs.Client.{Client}
use Rattle.geo_base.specs.Getting.{publishes, seq_of, without_seq}
use Rattle.geo_base.specs.Setup.{Declared}
use Rattle.geo_base.specs.World.{stamped}
use Rattle.world_laws.specs.Publishing.{PubsRise, is_awaited}
use Rattle.world_laws.proofs.Dispatching.Remembers.{any_left, any_right}
use Rattle.world_laws.proofs.OnceInOrder.Members.{below_or, get_last, get_within}
use Rattle.world_laws.proofs.Published.Awaiting.{its_seq, still_or_first}
use Rattle.world_laws.proofs.Published.InTurn.{Asks, Earlier, HasSeq, IsInTurn, Turns, asks_same, earlier_longer, has_longer}
use Rattle.world_laws.proofs.Replicating.Cursors.{either, or_left, or_right}
use Rattle.world_laws.proofs.Replicating.Effects.{Each}
use Rattle.world_laws.proofs.Walks.Walk.{on_if}

-- ---- indexes in ascending order, from lo on and below hi

abbrev pub Ascends : ℕ → List ℕ → ℕ → Type 0
Ascends lo [] hi = lo ≤ hi
Ascends lo (n ∷ ns) hi = (lo ≤ n) × Ascends (n + 1) ns hi

-- bounds may be wider
ascends_lower : (lo lo' : ℕ) (ns : List ℕ) (hi : ℕ) → lo ≤ lo' → Ascends lo' ns hi → Ascends lo ns hi
ascends_lower lo lo' [] hi le h = omega (arith, le, h)
ascends_lower lo lo' (n ∷ ns) hi le h = (let a = h.0 in omega (arith, le, a), h.1)

ascends_higher : (lo : ℕ) (ns : List ℕ) (hi : ℕ) → Ascends lo ns hi → Ascends lo ns (hi + 1)
ascends_higher lo [] hi h = omega (arith, h)
ascends_higher lo (n ∷ ns) hi h = (h.0, ascends_higher (n + 1) ns hi h.1)

-- one more, and one less
ascends_last : (lo : ℕ) (ns : List ℕ) (hi : ℕ) → Ascends lo ns hi → Ascends lo (ns ++ hi ∷ []) (hi + 1)
ascends_last lo [] hi h = (h, omega arith)
ascends_last lo (n ∷ ns) hi h = (h.0, ascends_last (n + 1) ns hi h.1)

ascends_without : (d : Declared) (lo : ℕ) (ns : List ℕ) (hi q : ℕ) → Ascends lo ns hi → Ascends lo (without_seq d ns q) hi
ascends_without d lo [] hi q h = h
ascends_without d lo (n ∷ ns) hi q h =
    on_if (λ (l : List ℕ). Ascends lo l hi) (publishes d q n) ns (n ∷ without_seq d ns q) (ascends_lower lo (n + 1) ns hi (let a = h.0 in omega (arith, a)) h.1)
    (h.0, ascends_without d (n + 1) ns hi q h.1)

-- none of them is below lo
pub ascends_above : (lo : ℕ) (ns : List ℕ) (hi j : ℕ) → Ascends lo ns hi → is_awaited j ns ≡ true → lo ≤ j
ascends_above lo [] hi j h at = absurd (false≢true at)
ascends_above lo (n ∷ ns) hi j h at =
    elim (either (n == j) (is_awaited j ns) at) [
      | inl e ↦ let same = eqb-true n j e in let a = h.0 in omega (arith, a, same)
      | inr later ↦ let a = h.0 in let b = ascends_above (n + 1) ns hi j h.1 later in omega (arith, a, b)
    ]

pub ascends_low : (lo : ℕ) (ns : List ℕ) (hi : ℕ) → Ascends lo ns hi → lo ≤ hi
ascends_low lo [] hi h = h
ascends_low lo (n ∷ ns) hi h = let a = h.0 in let b = ascends_low (n + 1) ns hi h.1 in omega (arith, a, b)

-- ---- in hand

-- done lines are awaited or stand, what is awaited was sent in connection m, and ascends
pub record Hand (d : Declared) (es : List Entry) (us : List Packet) (done : ℕ) (is : List ℕ) (on : Bool) (m : ℕ) : Type 0 where
  pub answered : (n q : ℕ) → seq_of (slice_get d.lines n) ≡ Some q → n < done → (is_awaited n is ≡ true) ⊎ HasSeq d es q
  pub sent : on ≡ true → (n q : ℕ) → seq_of (slice_get d.lines n) ≡ Some q → is_awaited n is ≡ true → Earlier us (length us) m q
  pub ascends : Ascends 0 is done

abbrev pub HandOf : Declared → List Entry → List Packet → Client → Type 0
HandOf d es us k = Hand d es us k.done k.unanswered k.connected k.connection

-- a link grows
length_more : (us more : List Packet) → length us ≤ length (us ++ more)
length_more [] more = omega arith
length_more (u ∷ us) more = let h = length_more us more in omega (arith, h)

pub earlier_on : (us more : List Packet) (session r : ℕ) → Earlier us (length us) session r → Earlier (us ++ more) (length (us ++ more)) session r
earlier_on us more session r h = earlier_longer us more (length us) (length (us ++ more)) session r (length_more us more) h

-- as topic and link grow
pub hand_longer : (d : Declared) (es more : List Entry) (us ups : List Packet) (done : ℕ) (is : List ℕ) (on : Bool) (m : ℕ) → Hand d es us done is on m → Hand d (es ++ more) (us ++ ups) done is on m
hand_longer d es more us ups done is on m h = record {
  answered = λ n q at lt. elim (h.answered n q at lt) [ inl w ↦ inl w | inr s ↦ inr (has_longer d es more q s) ];
  sent = λ c n q at w. earlier_on us ups m q (h.sent c n q at w);
  ascends = h.ascends;
}

-- a line is done that publishes nothing
pub hand_past : (d : Declared) (es : List Entry) (us : List Packet) (done : ℕ) (is : List ℕ) (on : Bool) (m : ℕ) → seq_of (slice_get d.lines done) ≡ None → Hand d es us done is on m → Hand d es us (done + 1) is on m
hand_past d es us done is on m silent h = record {
  answered = λ n q at lt. elim (below_or n done) [
    | inl low ↦ h.answered n q at low
    | inr high ↦ let same : done ≡ n = omega (arith, lt, high) in absurd (none-some q (sym silent ∙ subst (λ (j : ℕ). seq_of (slice_get d.lines j) ≡ Some q) (sym same) at))
  ];
  sent = h.sent;
  ascends = ascends_higher 0 is done h.ascends;
}

-- or that publishes
pub hand_pub : (d : Declared) (es : List Entry) (us : List Packet) (done : ℕ) (is : List ℕ) (on : Bool) (m q : ℕ) (p : Packet) → seq_of (slice_get d.lines done) ≡ Some q → p.session ≡ m → Asks q p.frame
    → Hand d es us done is on m → Hand d es (us ++ p ∷ []) (done + 1) (is ++ done ∷ []) on m
hand_pub d es us done is on m q p of session asks h = record {
  answered = λ n r at lt. elim (below_or n done) [
    | inl low ↦ elim (h.answered n r at low) [ inl w ↦ inl (any_left (λ j. j == n) is (done ∷ []) w) | inr s ↦ inr s ]
    | inr high ↦ let same : done ≡ n = omega (arith, lt, high) in inl (any_right (λ j. j == n) is (done ∷ []) (or_left (done == n) false (eq-eqb done n same)))
  ];
  sent = λ c n r at w. by c n r at (either_of n w);
  ascends = ascends_last 0 is done h.ascends;
}
  where
    either_of : (n : ℕ) → is_awaited n (is ++ done ∷ []) ≡ true → (is_awaited n is ≡ true) ⊎ (done ≡ n)
    either_of n w = elim (either (is_awaited n is) (is_awaited n (done ∷ [])) (sym (list_any-append (λ j. j == n) is (done ∷ [])) ∙ w)) [
      | inl a ↦ inl a
      | inr b ↦ inr (elim (either (done == n) false b) [ inl e ↦ eqb-true done n e | inr f ↦ absurd (false≢true f) ])
    ]

    last : slice_get (us ++ p ∷ []) (length us) ≡ Some p
    last = get_last us p

    longer : length us < length (us ++ p ∷ [])
    longer = slice_get_within (us ++ p ∷ []) (length us) p last

    by : on ≡ true → (n r : ℕ) → seq_of (slice_get d.lines n) ≡ Some r → (is_awaited n is ≡ true) ⊎ (done ≡ n) → Earlier (us ++ p ∷ []) (length (us ++ p ∷ [])) m r
    by c n r at (inl w) = earlier_on us (p ∷ []) m r (h.sent c n r at w)
    by c n r at (inr same) =
        let seq : q ≡ r = same_Some q r (sym of ∙ subst (λ (j : ℕ). seq_of (slice_get d.lines j) ≡ Some r) (sym same) at) in
        record { place = length us; packet = p; before = longer; is = last; same = session; asks = subst (λ (z : ℕ). Asks z p.frame) seq asks }

-- the line of a smaller id is an earlier line
pub earlier_line : (d : Declared) (i j q r : ℕ) → PubsRise d → seq_of (slice_get d.lines i) ≡ Some q → seq_of (slice_get d.lines j) ≡ Some r → r < q → j < i
earlier_line d i j q r rise at_i at_j lt =
    elim (below_or j i) [
      | inl low ↦ low
      | inr high ↦ elim (below_or i j) [
        | inl above ↦ let more = rise i j q r above at_i at_j in absurd (omega (arith, lt, more))
        | inr le ↦ let same : i ≡ j = omega (arith, high, le) in let one = same_Some q r (sym at_i ∙ subst (λ (z : ℕ). seq_of (slice_get d.lines z) ≡ Some r) (sym same) at_j) in absurd (omega (arith, lt, one))
      ]
    ]

-- so what it publishes next is in turn
pub pub_in_turn : (d : Declared) (es : List Entry) (us : List Packet) (done : ℕ) (is : List ℕ) (m q : ℕ) (p : Packet) → PubsRise d → seq_of (slice_get d.lines done) ≡ Some q → p.session ≡ m → Asks q p.frame
    → Hand d es us done is true m → IsInTurn d es us (length us) p
pub_in_turn d es us done is m q p rise of session asks h z r asks' line lt =
    let same : q ≡ z = asks_same p.frame q z asks asks' in
    let low = earlier_line d done line.0 q r rise of line.1 (subst (λ (x : ℕ). r < x) (sym same) lt) in
    elim (h.answered line.0 r line.1 low) [
      | inl w ↦ inr (subst (λ (x : ℕ). Earlier us (length us) x r) (sym session) (h.sent refl line.0 r line.1 w))
      | inr s ↦ inl s
    ]

-- what is awaited after an answer was awaited before it
awaited_before : (d : Declared) (is : List ℕ) (q n : ℕ) → is_awaited n (without_seq d is q) ≡ true → is_awaited n is ≡ true
awaited_before d [] q n w = w
awaited_before d (i ∷ is) q n w = by (publishes d q i) (awaited_before d is q n) w
  where
    by : (b : Bool) → (is_awaited n (without_seq d is q) ≡ true → is_awaited n is ≡ true) → is_awaited n (if b then is else i ∷ without_seq d is q) ≡ true → ((i == n) || is_awaited n is) ≡ true
    by true ih w = or_right (i == n) (is_awaited n is) w
    by false ih w = elim (either (i == n) (is_awaited n (without_seq d is q)) w) [
      | inl e ↦ or_left (i == n) (is_awaited n is) e
      | inr l ↦ or_right (i == n) (is_awaited n is) (ih l)
    ]

-- an answer takes a publish out of hand
pub hand_answered : (d : Declared) (es : List Entry) (us : List Packet) (done : ℕ) (is : List ℕ) (on : Bool) (m q : ℕ) → HasSeq d es q → Hand d es us done is on m → Hand d es us done (without_seq d is q) on m
hand_answered d es us done is on m q stands h = record {
  answered = λ n r at lt. elim (h.answered n r at lt) [
    | inl w ↦ elim (still_or_first d is q n w) [
      | inl still ↦ inl still
      | inr it ↦ inr (subst (HasSeq d es) (sym (its_seq d q n r it at)) stands)
    ]
    | inr s ↦ inr s
  ];
  sent = λ c n r at w. h.sent c n r at (awaited_before d is q n w);
  ascends = ascends_without d 0 is done q h.ascends;
}

-- ---- what a client sends

-- one more packet, which is in turn
pub turns_push : (d : Declared) (es : List Entry) (us : List Packet) (p : Packet) → IsInTurn d es us (length us) p
    → (p.frame ≡ frame.Connect → (j : ℕ) (p' : Packet) → slice_get us j ≡ Some p' → p'.session < p.session) → Turns d es us → Turns d es (us ++ p ∷ [])
turns_push d es us p turn begins h = record {
  order = λ i q at z r asks line lt. elim (below_or i (length us)) [
    | inl low ↦ elim (h.order i q (sym (get_within us (p ∷ []) i low) ∙ at) z r asks line lt) [ inl s ↦ inl s | inr e ↦ inr (earlier_longer us (p ∷ []) i i q.session r (omega arith) e) ]
    | inr high ↦
        let here = last_place us p i q high at in
        let same : p ≡ q = here.1 in
        elim (turn z r (subst (λ (x : Packet). Asks z x.frame) (sym same) asks) line lt) [
          | inl s ↦ inl s
          | inr e ↦ inr (subst (λ (x : Packet). Earlier (us ++ p ∷ []) i x.session r) same (earlier_longer us (p ∷ []) (length us) i p.session r high e))
        ]
  ];
  begun = λ i j q q' lt at connects at'. elim (below_or i (length us)) [
    | inl low ↦ h.begun i j q q' lt (sym (get_within us (p ∷ []) i low) ∙ at) connects (sym (get_within us (p ∷ []) j (omega (arith, lt, low))) ∙ at')
    | inr high ↦
        let here = last_place us p i q high at in
        let same : p ≡ q = here.1 in let place = here.0 in
        subst (λ (x : Packet). q'.session < x.session) same
        (begins (ap (λ (x : Packet). x.frame) same ∙ connects) j q' (sym (get_within us (p ∷ []) j (omega (arith, lt, place))) ∙ at'))
  ];
}
  where
    last_place : (us : List Packet) (p : Packet) (i : ℕ) (q : Packet) → length us ≤ i → slice_get (us ++ p ∷ []) i ≡ Some q → (i ≡ length us) × (p ≡ q)
    last_place us p i q le at =
        let lt = slice_get_within (us ++ p ∷ []) i q at in let size = length-append us (p ∷ []) in
        let place : i ≡ length us = omega (arith, le, lt, size) in
        (place, same_Some p q (sym (get_last us p) ∙ subst (λ (n : ℕ). slice_get (us ++ p ∷ []) n ≡ Some q) place at))

-- a frame that is no SEND and no CONNECT
abbrev pub IsPlain : Frame → Type 0
IsPlain (frame.Send id seq source e) = ⊥
IsPlain frame.Connect = ⊥
IsPlain f = Unit {0}

plain_asks : (q : ℕ) (f : Frame) → IsPlain f → Asks q f → ⊥
plain_asks q (frame.Send id seq source e) h a = h
plain_asks q f h a = a

plain_connect : (f : Frame) → IsPlain f → f ≡ frame.Connect → ⊥
plain_connect f h is = subst IsPlain is h

-- a SEND is no CONNECT
abbrev IsSending : Frame → Type 0
IsSending (frame.Send id seq source e) = Unit {0}
IsSending f = ⊥

pub no_connect : (id seq : ℕ) (source : Option ClusterRef) (e : Entry) → frame.Send id seq source e ≡ frame.Connect → ⊥
no_connect id seq source e is = subst IsSending is tt

pub turns_plain : (d : Declared) (es : List Entry) (us : List Packet) (stamp : ℕ) (os : List Out) → Each (λ (o : Out). IsPlain o.frame) os → Turns d es us → Turns d es (us ++ map (stamped stamp) os)
turns_plain d es us stamp [] plain h = subst (Turns d es) (sym (append-nil us)) h
turns_plain d es us stamp (o ∷ os) plain h =
    subst (Turns d es) (append_assoc us (stamped stamp o ∷ []) (map (stamped stamp) os))
    (turns_plain d es (us ++ stamped stamp o ∷ []) stamp os plain.1
    (turns_push d es us (stamped stamp o) (λ q r asks line lt. absurd (plain_asks q o.frame plain.0 asks)) (λ is j p at. absurd (plain_connect o.frame plain.0 is)) h))
