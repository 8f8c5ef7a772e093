-- What a client sends where it connects is in turn: its publishes without a receipt go out in the order of its lines.
use Rattle.std.proofs.Common.{◌≡◌, ◌==◌, ℕ, ◌+◌, ◌<◌, Bool, true, List, [], ◌∷◌, ◌++◌, length, map, refl, sym, ap, subst, ◌∙◌, arith, inl, inr, ◌⊎◌}
use Rattle.std.specs.Prelude.{Option, Some, None, slice_get}
use Rattle.std.proofs.lemmas.Bool.{eqb-true, false≢true}
use Rattle.std.proofs.lemmas.List.{append-nil, append_assoc, map-append}
use Rattle.std.proofs.lemmas.Option.{none-some, same_Some, slice_get_within}
use Rattle.world_laws.proofs.Types.{Entry, Line, Out, Packet, Targets}
use Rattle.world_laws.proofs.Types.frame
use Rattle.world_laws.proofs.Types.line
use Rattle.world_laws.proofs.Types.peer
use Rattle.geo_base.specs.Client.{Client, command, command_at, commands_at, connects, id_of, published}
use Rattle.geo_base.specs.Getting.{seq_of}
use Rattle.geo_base.specs.Setup.{Declared, Setup}
use Rattle.geo_base.specs.World.{stamped}
use Rattle.world_laws.specs.Publishing.{PubsRise, is_awaited}
use Rattle.world_laws.proofs.Dispatching.SubFrames.{each_at_place}
use Rattle.world_laws.proofs.OnceInOrder.Members.{get_last}
use Rattle.world_laws.proofs.Published.Homes.{NoPub}
use Rattle.world_laws.proofs.Published.InTurn.{Earlier, HasSeq, IsInTurn, Turns}
use Rattle.world_laws.proofs.Published.TurnHands.{Ascends, Hand, IsPlain, ascends_above, ascends_low, earlier_line, earlier_on, no_connect, turns_plain, turns_push}
use Rattle.world_laws.proofs.Replicating.Cursors.{either}
use Rattle.world_laws.proofs.Replicating.Effects.{Each, each_both}

-- a line that publishes nothing
pub quiet_plain : (s : Setup) (d : Declared) (k : Client) (i : ℕ) (o : Option Line) → seq_of o ≡ None → Each (λ (a : Out). IsPlain a.frame) (command s d k i o)
quiet_plain s d k i None silent = tt
quiet_plain s d k i (Some line.Produce) silent = (tt, tt)
quiet_plain s d k i (Some (line.Sub n kind earliest replicated)) silent = (tt, tt)
quiet_plain s d k i (Some (line.Flow permits)) silent = (tt, tt)
quiet_plain s d k i (Some (line.Pub n to key text)) silent = absurd (none-some n (sym silent))
quiet_plain s d k i (Some l) silent = tt

quiet_at_plain : (s : Setup) (d : Declared) (k : Client) (o : Option ℕ) → NoPub d o → Each (λ (a : Out). IsPlain a.frame) (command_at s d k o)
quiet_at_plain s d k None silent = tt
quiet_at_plain s d k (Some i) silent = quiet_plain s d k i (slice_get d.lines i) silent

-- the packets of a connection m of which W says that they were sent
abbrev AllEarlier : Declared → List Packet → ℕ → (ℕ → Type 0) → Type 0
AllEarlier d us m W = (n q : ℕ) → seq_of (slice_get d.lines n) ≡ Some q → W n → Earlier us (length us) m q

-- each pub line below hi was sent, is to be sent, or stands
abbrev AllKnown : Declared → List Entry → (ℕ → Type 0) → List ℕ → ℕ → Type 0
AllKnown d es W is hi = (n q : ℕ) → seq_of (slice_get d.lines n) ≡ Some q → n < hi → W n ⊎ ((is_awaited n is ≡ true) ⊎ HasSeq d es q)

-- so far: the link is in turn, and those were sent
record Sent (d : Declared) (es : List Entry) (us : List Packet) (m : ℕ) (W : ℕ → Type 0) : Type 0 where
  turns : Turns d es us
  earlier : AllEarlier d us m W

-- one line more that publishes nothing
one_quiet : (s : Setup) (d : Declared) (k : Client) (es : List Entry) (us : List Packet) (stamp n : ℕ) (W : ℕ → Type 0) (o : Option Line) → seq_of o ≡ None → slice_get d.lines n ≡ o
    → Sent d es us k.connection W → Sent d es (us ++ map (stamped stamp) (command s d k n o)) k.connection (λ j. W j ⊎ (n ≡ j))
one_quiet s d k es us stamp n W o silent at h = record {
  turns = turns_plain d es us stamp (command s d k n o) (quiet_plain s d k n o silent) h.turns;
  earlier = λ j q at' w. elim w [
    | inl was ↦ earlier_on us (map (stamped stamp) (command s d k n o)) k.connection q (h.earlier j q at' was)
    | inr same ↦ absurd (none-some q (sym silent ∙ (ap seq_of (sym at) ∙ subst (λ (z : ℕ). seq_of (slice_get d.lines z) ≡ Some q) (sym same) at')))
  ];
}

-- or that publishes
one_pub : (s : Setup) (d : Declared) (k : Client) (es : List Entry) (us : List Packet) (stamp n : ℕ) (is : List ℕ) (hi : ℕ) (W : ℕ → Type 0) (seq : ℕ) (to : Targets) (key : Option (List ℕ)) (text : List ℕ) → PubsRise d
    → slice_get d.lines n ≡ Some (line.Pub seq to key text) → n < hi → Ascends (n + 1) is hi → AllKnown d es W (n ∷ is) hi → Sent d es us k.connection W
    → Sent d es (us ++ map (stamped stamp) (command s d k n (Some (line.Pub seq to key text)))) k.connection (λ j. W j ⊎ (n ≡ j))
one_pub s d k es us stamp n is hi W seq to key text rise at lt asc known h = record {
  turns = turns_push d es us p turn (λ is. absurd (no_connect (id_of k.produce) seq None (published s d k seq to key text) is)) h.turns;
  earlier = λ j q at' w. elim w [
    | inl was ↦ earlier_on us (p ∷ []) k.connection q (h.earlier j q at' was)
    | inr same ↦ record {
      place = length us;
      packet = p;
      before = slice_get_within (us ++ p ∷ []) (length us) p last;
      is = last;
      same = refl;
      asks = same_Some seq q (sym of ∙ subst (λ (z : ℕ). seq_of (slice_get d.lines z) ≡ Some q) (sym same) at');
    }
  ];
}
  where
    p : Packet
    p = stamped stamp (record { to = peer.Broker k.cluster; session = k.connection; frame = frame.Send (id_of k.produce) seq None (published s d k seq to key text) })

    of : seq_of (slice_get d.lines n) ≡ Some seq
    of = ap seq_of at

    last : slice_get (us ++ p ∷ []) (length us) ≡ Some p
    last = get_last us p

    turn : IsInTurn d es us (length us) p
    turn q r asks line less =
        let low = earlier_line d n line.0 q r rise (of ∙ ap (λ (z : ℕ). Some z) asks) line.1 less in
        elim (known line.0 r line.1 (omega (arith, low, lt))) [
          | inl was ↦ inr (h.earlier line.0 r line.1 was)
          | inr other ↦ elim other [
            | inl later ↦ let le = ascends_above n (n ∷ is) hi line.0 (omega arith, asc) later in absurd (omega (arith, low, le))
            | inr stands ↦ inl stands
          ]
        ]

one_sent : (s : Setup) (d : Declared) (k : Client) (es : List Entry) (us : List Packet) (stamp n : ℕ) (is : List ℕ) (hi : ℕ) (W : ℕ → Type 0) (o : Option Line) → PubsRise d → slice_get d.lines n ≡ o → n < hi → Ascends (n + 1) is hi
    → AllKnown d es W (n ∷ is) hi → Sent d es us k.connection W → Sent d es (us ++ map (stamped stamp) (command s d k n o)) k.connection (λ j. W j ⊎ (n ≡ j))
one_sent s d k es us stamp n is hi W None rise at lt asc known h = one_quiet s d k es us stamp n W None refl at h
one_sent s d k es us stamp n is hi W (Some (line.Pub seq to key text)) rise at lt asc known h = one_pub s d k es us stamp n is hi W seq to key text rise at lt asc known h
one_sent s d k es us stamp n is hi W (Some l) rise at lt asc known h = one_quiet s d k es us stamp n W (Some l) refl at h

-- all lines of a list
all_sent : (s : Setup) (d : Declared) (k : Client) (es : List Entry) (us : List Packet) (stamp lo : ℕ) (is : List ℕ) (hi : ℕ) (W : ℕ → Type 0) → PubsRise d → Ascends lo is hi → AllKnown d es W is hi → Sent d es us k.connection W
    → Sent d es (us ++ map (stamped stamp) (commands_at s d k is)) k.connection (λ j. W j ⊎ (is_awaited j is ≡ true))
all_sent s d k es us stamp lo [] hi W rise asc known h =
    let U : List Packet → Type 0 = λ l. Sent d es l k.connection (λ j. W j ⊎ (is_awaited j [] ≡ true)) in
    subst U (sym (append-nil us)) (record {
      turns = h.turns;
      earlier = λ j q at w. elim w [ inl was ↦ h.earlier j q at was | inr none ↦ absurd (false≢true none) ];
    })
all_sent s d k es us stamp lo (n ∷ is) hi W rise asc known h =
    let cs = command s d k n (slice_get d.lines n) in let us' = us ++ map (stamped stamp) cs in
    let W' : ℕ → Type 0 = λ j. W j ⊎ (n ≡ j) in
    let low = ascends_low (n + 1) is hi asc.1 in
    let one = one_sent s d k es us stamp n is hi W (slice_get d.lines n) rise refl (omega (arith, low)) asc.1 known h in
    let more = all_sent s d k es us' stamp (n + 1) is hi W' rise asc.1 (known_next known) one in
    let whole : us' ++ map (stamped stamp) (commands_at s d k is) ≡ us ++ map (stamped stamp) (cs ++ commands_at s d k is) =
    append_assoc us (map (stamped stamp) cs) (map (stamped stamp) (commands_at s d k is)) ∙ ap (λ (l : List Packet). us ++ l) (sym (map-append (stamped stamp) cs (commands_at s d k is))) in
    let U : List Packet → Type 0 = λ l. Sent d es l k.connection (λ j. W j ⊎ (is_awaited j (n ∷ is) ≡ true)) in
    subst U whole (record {
      turns = more.turns;
      earlier = λ j q at w. more.earlier j q at (next_of j w);
    })
  where
    known_next : AllKnown d es W (n ∷ is) hi → AllKnown d es (λ j. W j ⊎ (n ≡ j)) is hi
    known_next known j q at lt = elim (known j q at lt) [
      | inl was ↦ inl (inl was)
      | inr other ↦ elim other [
        | inl w ↦ elim (either (n == j) (is_awaited j is) w) [ inl e ↦ inl (inr (eqb-true n j e)) | inr l ↦ inr (inl l) ]
        | inr stands ↦ inr (inr stands)
      ]
    ]

    next_of : (j : ℕ) → W j ⊎ (is_awaited j (n ∷ is) ≡ true) → (W j ⊎ (n ≡ j)) ⊎ (is_awaited j is ≡ true)
    next_of j w = elim w [
      | inl was ↦ inl (inl was)
      | inr a ↦ elim (either (n == j) (is_awaited j is) a) [ inl e ↦ inl (inr (eqb-true n j e)) | inr l ↦ inr l ]
    ]

-- ---- a connection

-- the sessions before it are smaller
each_session : (us : List Packet) (m j : ℕ) (p : Packet) → Each (λ (u : Packet). u.session < m) us → slice_get us j ≡ Some p → p.session < m
each_session us m j p h at = each_at_place (λ (u : Packet). u.session < m) us j p h at

pub connects_in_turn : (s : Setup) (d : Declared) (k : Client) (es : List Entry) (us : List Packet) (stamp m : ℕ) (on : Bool) → PubsRise d → NoPub d k.produce → NoPub d k.sub → NoPub d k.flow
    → Each (λ (u : Packet). u.session < k.connection) us → Hand d es us k.done k.unanswered on m → Turns d es us
    → let us' = us ++ map (stamped stamp) (connects s d k).sent in Turns d es us' × Hand d es us' k.done k.unanswered true k.connection
connects_in_turn s d k es us stamp m on rise produce sub flow below hand turns = (
  subst (Turns d es) whole sent.turns,
  record {
    answered = hand.answered;
    sent = λ c n q at w. subst (λ (l : List Packet). Earlier l (length l) k.connection q) whole (sent.earlier n q at (inr w));
    ascends = hand.ascends;
  },
)
  where
    f : Out → Packet
    f = stamped stamp

    P : Out → Type 0
    P a = IsPlain a.frame

    a : List Out
    a = command_at s d k k.produce

    b : List Out
    b = command_at s d k k.sub

    c : List Out
    c = command_at s d k k.flow

    e : List Out
    e = commands_at s d k k.unanswered

    first : Packet
    first = f (record { to = peer.Broker k.cluster; session = k.connection; frame = frame.Connect })

    us1 : List Packet
    us1 = us ++ first ∷ []

    begun : Turns d es us1
    begun = turns_push d es us first (λ q r asks line lt. absurd asks) (λ is j p at. each_session us k.connection j p below at) turns

    quiet : Each P (a ++ (b ++ c))
    quiet = each_both P a (b ++ c) (quiet_at_plain s d k k.produce produce) (each_both P b c (quiet_at_plain s d k k.sub sub) (quiet_at_plain s d k k.flow flow))

    us2 : List Packet
    us2 = us1 ++ map f (a ++ (b ++ c))

    sent : Sent d es (us2 ++ map f e) k.connection (λ j. ⊥ ⊎ (is_awaited j k.unanswered ≡ true))
    sent = all_sent s d k es us2 stamp 0 k.unanswered k.done (λ j. ⊥) rise hand.ascends (λ n q at lt. inr (hand.answered n q at lt))
        (record { turns = turns_plain d es us1 stamp (a ++ (b ++ c)) quiet begun; earlier = λ n q at w. absurd w })

    whole : us2 ++ map f e ≡ us ++ map f (connects s d k).sent
    whole =
        append_assoc us1 (map f (a ++ (b ++ c))) (map f e) ∙ ap (λ (l : List Packet). us1 ++ l) (sym (map-append f (a ++ (b ++ c)) e) ∙ ap (λ (l : List Out). map f l) (append_assoc a (b ++ c) e ∙ ap (λ (l : List Out). a ++ l) (append_assoc b c e)))
        ∙ append_assoc us (first ∷ []) (map f (a ++ (b ++ (c ++ e))))
