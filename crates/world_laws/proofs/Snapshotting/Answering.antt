-- What a topic knows of its own markers: whom an answer answers, what it names, and that a request says whose it is. All over
-- values: the entries es of the topic at cluster x and the lengths ls of its ledgers, n being how many clusters there are.
use Rattle.std.proofs.Common.{◌≡◌, ℕ, zero, suc, ◌+◌, ◌-◌, ◌^◌, ◌<◌, ◌≤◌, Bool, true, false, List, [], ◌∷◌, ◌++◌, length, refl, sym, ap, subst, ◌∙◌, arith, inl, inr, ◌⊎◌}
use Rattle.std.specs.Prelude.{Some, slice_get, is_some}
use Rattle.std.proofs.lemmas.Bool.{eqb-true, false≢true}
use Rattle.std.proofs.lemmas.Option.{none-some, same_Some, slice_get_within}
use Rattle.world_laws.proofs.Types.{Change, ClusterPosition, Content, Entry, ClusterRef, Position, Write}
use Rattle.world_laws.proofs.Types.change
use Rattle.world_laws.proofs.Types.content
use Rattle.world_laws.proofs.Types.marker
use Rattle.world_laws.proofs.Types.cluster_ref
use Rattle.world_laws.proofs.Types.targets
use Rattle.world_laws.proofs.Types.write
use Rattle.geo_base.specs.Broker.{Broker, Site, changed, sub_named, written}
use Rattle.geo_base.specs.Entry.{is_data}
use Rattle.geo_base.specs.Plan.{all_written}
use Rattle.geo_base.specs.Position.{no_position}
use Rattle.geo_base.specs.Setup.{Setup}
use Rattle.geo_base.specs.Topic.{grown, index_of, position_at}
use Rattle.geo_base.specs.World.{site}
use Rattle.world_laws.proofs.TopicOrder.Added.{Added, Adds, after_is, appended}
use Rattle.world_laws.proofs.OnceInOrder.Appends.{written_entries}
use Rattle.world_laws.proofs.Induction.Layers.{IsDurable}
use Rattle.world_laws.proofs.TopicOrder.Ledgers.{at_index, grown_some, opened_some, still_grown, still_opened, total, total_grown, total_opened}
use Rattle.world_laws.proofs.OnceInOrder.Members.{below_or, get_left, get_right, get_within}
use Rattle.world_laws.proofs.Replicating.Prefixes.{is_of}
use Rattle.world_laws.proofs.Walks.Walk.{on_if}

-- a request of an id
abbrev pub Asks : List ℕ → Entry → Type 0
Asks id e = (source : ClusterRef) × (e.content ≡ content.Marked (marker.Request id source))

-- an own request of x stands at index k
pub record RequestAt (x : ℕ) (es : List Entry) (k : ℕ) (id : List ℕ) : Type 0 where
  pub entry : Entry
  pub at : slice_get es k ≡ Some entry
  pub of : is_of x entry ≡ true
  pub asks : Asks id entry

-- an own answer of y, the entry e, stands at index k
pub record AnswerAt (y : ℕ) (es : List Entry) (k : ℕ) (id : List ℕ) (answer : ClusterPosition) (e : Entry) : Type 0 where
  pub at : slice_get es k ≡ Some e
  pub of : is_of y e ≡ true
  pub is : e.content ≡ content.Marked (marker.Response id answer)

-- what y knows of each of its own answers: whom it answers, where the request stands, what it names
pub record Answers (n y : ℕ) (es : List Entry) (ls : List ℕ) (k : ℕ) (id : List ℕ) (answer : ClusterPosition) (e : Entry) : Type 0 where
  pub asker : ℕ
  pub small : asker < n
  pub other : asker ≡ y → ⊥
  pub to : e.to ≡ targets.Only (2 ^ asker)
  pub index : ℕ
  pub below : index < k
  pub request : RequestAt asker es index id
  pub names : index_of ls answer.position ≡ Some (k - 1)

abbrev pub AllAnswers : ℕ → ℕ → List Entry → List ℕ → Type 0
AllAnswers n y es ls = (k : ℕ) (id : List ℕ) (answer : ClusterPosition) (e : Entry) → AnswerAt y es k id answer e → Answers n y es ls k id answer e

-- the ledgers have as many entries as there are
pub record Numbered (es : List Entry) (ls : List ℕ) : Type 0 where
  pub some : 0 < length ls
  pub whole : total ls ≡ length es

pub record Answering (n x : ℕ) (es : List Entry) (ls : List ℕ) : Type 0 where
  pub numbered : Numbered es ls
  pub origins : (k : ℕ) (e : Entry) → slice_get es k ≡ Some e → e.ident.origin < n
  pub answers : AllAnswers n x es ls
  pub sources : (k : ℕ) (e : Entry) (id : List ℕ) (source : ClusterRef) → slice_get es k ≡ Some e → is_of x e ≡ true → e.content ≡ content.Marked (marker.Request id source)
      → source ≡ cluster_ref.Known x

-- WRITES

-- a fact of entries and ledgers that one more entry keeps, and one more ledger, is kept by all writes
one_write : (T : List Entry → List ℕ → Type 0) (per : ℕ) → ((e : Entry) (es : List Entry) (ls : List ℕ) → T es ls → T (es ++ e ∷ []) (grown per ls))
    → ((es : List Entry) (ls : List ℕ) → T es ls → T es (ls ++ 0 ∷ [])) → (b : Broker) (w : Write) → T b.entries b.ledgers
    → T (written per b w).entries (written per b w).ledgers
one_write T per append opens b (write.Append e) h = append e b.entries b.ledgers h
one_write T per append opens b write.Ledger h = opens b.entries b.ledgers h
one_write T per append opens b (write.Create n kind replicated latest) h = on_if (λ (c : Broker). T c.entries c.ledgers) (is_some (sub_named b.subs n)) _ _ h h
one_write T per append opens b w h = h

pub all_writes : (T : List Entry → List ℕ → Type 0) (per : ℕ) → ((e : Entry) (es : List Entry) (ls : List ℕ) → T es ls → T (es ++ e ∷ []) (grown per ls))
    → ((es : List Entry) (ls : List ℕ) → T es ls → T es (ls ++ 0 ∷ [])) → (b : Broker) (ws : List Write) → T b.entries b.ledgers
    → T (all_written per b ws).entries (all_written per b ws).ledgers
all_writes T per append opens b [] h = h
all_writes T per append opens b (w ∷ ws) h = all_writes T per append opens (written per b w) ws (one_write T per append opens b w h)

-- the topic stays numbered, and each position that was stored keeps its index
pub record Steady (before : List ℕ) (es : List Entry) (ls : List ℕ) : Type 0 where
  pub numbered : Numbered es ls
  pub index : (p : Position) (i : ℕ) → index_of before p ≡ Some i → index_of ls p ≡ Some i

one_longer : (es : List Entry) (e : Entry) → length (es ++ e ∷ []) ≡ length es + 1
one_longer [] e = refl
one_longer (a ∷ es) e = let h = one_longer es e in omega (arith, h)

pub writes_steady : (per : ℕ) (b : Broker) (ws : List Write) → Numbered b.entries b.ledgers → Steady b.ledgers (all_written per b ws).entries (all_written per b ws).ledgers
writes_steady per b ws numbered = all_writes (Steady b.ledgers) per append opens b ws (record { numbered = numbered; index = λ p i h. h })
  where
    append : (e : Entry) (es : List Entry) (ls : List ℕ) → Steady b.ledgers es ls → Steady b.ledgers (es ++ e ∷ []) (grown per ls)
    append e es ls h = record {
      numbered = record {
        some = grown_some per ls h.numbered.some;
        whole = total_grown per ls h.numbered.some ∙ ap (λ (n : ℕ). n + 1) h.numbered.whole ∙ sym (one_longer es e);
      };
      index = λ p i at. still_grown per ls p i h.numbered.some (h.index p i at);
    }

    opens : (es : List Entry) (ls : List ℕ) → Steady b.ledgers es ls → Steady b.ledgers es (ls ++ 0 ∷ [])
    opens es ls h = record {
      numbered = record { some = opened_some ls; whole = total_opened ls ∙ h.numbered.whole };
      index = λ p i at. still_opened ls p i (h.index p i at);
    }

-- WHAT IS NEW

-- an entry of a list that was lengthened stands where it stood, or is new
pub old_or_new : (es more : List Entry) (k : ℕ) (e : Entry) → slice_get (es ++ more) k ≡ Some e
    → ((k < length es) × (slice_get es k ≡ Some e)) ⊎ ((length es ≤ k) × (slice_get more (k - length es) ≡ Some e))
old_or_new es more k e at =
    elim (below_or k (length es)) [
      | inl low ↦ inl (low, sym (get_within es more k low) ∙ at)
      | inr high ↦
          let back : length es + (k - length es) ≡ k = omega (arith, high) in
          inr (high, sym (get_right es more (k - length es)) ∙ ap (slice_get (es ++ more)) back ∙ at)
    ]

-- a new own entry is the only one
pub record Alone (h : Site) (b : Broker) (j : ℕ) (e : Entry) : Type 0 where
  pub first : j ≡ 0
  pub added : Added h b e

only_one : (f : Entry) (j : ℕ) (e : Entry) → slice_get (f ∷ []) j ≡ Some e → (j ≡ 0) × (f ≡ e)
only_one f zero e at = (refl, same_Some _ _ at)
only_one f (suc j) e at = absurd (none-some e at)

one_of_two : (f g : Entry) (j : ℕ) (e : Entry) → slice_get (f ∷ g ∷ []) j ≡ Some e → (f ≡ e) ⊎ (g ≡ e)
one_of_two f g zero e at = inl (same_Some _ _ at)
one_of_two f g (suc j) e at = inr (only_one g j e at).1

pub not_own : (own z : ℕ) (e : Entry) → (z ≡ own → ⊥) → e.ident.origin ≡ z → is_of own e ≡ true → ⊥
not_own own z e other of own_is = other (sym of ∙ eqb-true e.ident.origin own own_is)

pub own_added : (h : Site) (b : Broker) (more : List Entry) → Adds h b more → (j : ℕ) (e : Entry) → slice_get more j ≡ Some e → is_of h.own e ≡ true → Alone h b j e
own_added h b more Adds.Nothing j e at of = absurd (none-some e at)
own_added h b more (Adds.One f a) j e at of = let o = only_one f j e at in record { first = o.0; added = subst (Added h b) o.1 a }
own_added h b more (Adds.Two f g z small other of_f of_g) j e at of =
    let P : Entry → Type 0 = λ a. a.ident.origin ≡ z in
    let of_e : P e = elim (one_of_two f g j e at) [ inl is ↦ subst P is of_f | inr is ↦ subst P is of_g ] in
    absurd (not_own h.own z e other of_e of)

added_origin : (h : Site) (b : Broker) (e : Entry) → h.own < length h.clusters → Added h b e → e.ident.origin < length h.clusters
added_origin h b e lt (Added.Published e' of is_message) = omega (arith, lt, of)
added_origin h b e lt (Added.Came e' z small other of) = omega (arith, small, of)
added_origin h b e lt (Added.Asked none) = lt
added_origin h b e lt (Added.AskedAgain y i f id answer u u' next is heard) = lt
added_origin h b e lt (Added.Responded y i f id source small other at of is) = lt
added_origin h b e lt (Added.Completed y i f id answer u u' next is heard) = lt
added_origin h b e lt (Added.Updated v cut) = lt

adds_origin : (h : Site) (b : Broker) (more : List Entry) → h.own < length h.clusters → Adds h b more → (j : ℕ) (e : Entry) → slice_get more j ≡ Some e
    → e.ident.origin < length h.clusters
adds_origin h b more lt Adds.Nothing j e at = absurd (none-some e at)
adds_origin h b more lt (Adds.One f a) j e at =
    let P : Entry → Type 0 = λ a. a.ident.origin < length h.clusters in subst P (only_one f j e at).1 (added_origin h b f lt a)
adds_origin h b more lt (Adds.Two f g z small other of_f of_g) j e at =
    let P : Entry → Type 0 = λ a. a.ident.origin < length h.clusters in
    let in_f : f.ident.origin < length h.clusters = omega (arith, small, of_f) in
    let in_g : g.ident.origin < length h.clusters = omega (arith, small, of_g) in
    elim (one_of_two f g j e at) [ inl is ↦ subst P is in_f | inr is ↦ subst P is in_g ]

-- CONTENTS

abbrev pub is_request : Content → Bool
is_request (content.Marked (marker.Request id source)) = true
is_request c = false

abbrev source_of : Content → ClusterRef
source_of (content.Marked (marker.Request id source)) = source
source_of c = cluster_ref.Known 0

abbrev is_response : Content → Bool
is_response (content.Marked (marker.Response id answer)) = true
is_response c = false

abbrev answered_id : Content → List ℕ
answered_id (content.Marked (marker.Response id answer)) = id
answered_id c = []

abbrev named_position : Content → Position
named_position (content.Marked (marker.Response id answer)) = answer.position
named_position c = no_position

-- GROWTH

request_grows : (x k : ℕ) (es more : List Entry) (id : List ℕ) → RequestAt x es k id → RequestAt x (es ++ more) k id
request_grows x k es more id r = record { entry = r.entry; at = get_left es more k r.entry r.at; of = r.of; asks = r.asks }

answers_grow : (n y k : ℕ) (es more : List Entry) (ls ls' : List ℕ) (id : List ℕ) (answer : ClusterPosition) (e : Entry)
    → ((p : Position) (i : ℕ) → index_of ls p ≡ Some i → index_of ls' p ≡ Some i) → Answers n y es ls k id answer e → Answers n y (es ++ more) ls' k id answer e
answers_grow n y k es more ls ls' id answer e index a = record {
  asker = a.asker;
  small = a.small;
  other = a.other;
  to = a.to;
  index = a.index;
  below = a.below;
  request = request_grows a.asker a.index es more id a.request;
  names = index answer.position (k - 1) a.names;
}

-- a new own answer names the entry before it
new_answer : (h : Site) (b : Broker) (more : List Entry) (ls' : List ℕ) (id : List ℕ) (answer : ClusterPosition) (e : Entry) → Steady b.ledgers (b.entries ++ more) ls'
    → Numbered b.entries b.ledgers → is_of h.own e ≡ true → e.content ≡ content.Marked (marker.Response id answer) → Added h b e
    → Answers (length h.clusters) h.own (b.entries ++ more) ls' (length b.entries) id answer e
new_answer h b more ls' id answer e steady numbered of is (Added.Published e' own message) = absurd (false≢true (sym (ap is_data is) ∙ message))
new_answer h b more ls' id answer e steady numbered of is (Added.Came e' z small other from) = absurd (not_own h.own z e other from of)
new_answer h b more ls' id answer e steady numbered of is (Added.Asked none) = absurd (false≢true (ap is_response is))
new_answer h b more ls' id answer e steady numbered of is (Added.AskedAgain y i f id' answer' u u' next is' heard) = absurd (false≢true (ap is_response is))
new_answer h b more ls' id answer e steady numbered of is (Added.Completed y i f id' answer' u u' next is' heard) = absurd (false≢true (ap is_response is))
new_answer h b more ls' id answer e steady numbered of is (Added.Updated v cut) = absurd (false≢true (ap is_response is))
new_answer h b more ls' id answer e steady numbered of is (Added.Responded y i f id' source small other at of_f asks) =
    let below : i < length b.entries = slice_get_within b.entries i f at in
    let whole = numbered.whole in
    let last : length b.entries - 1 < total b.ledgers = omega (arith, below, whole) in
    let same : id' ≡ id = ap answered_id is in
    let P : List ℕ → Type 0 = λ l. Asks l f in
    record {
      asker = y;
      small = small;
      other = other;
      to = refl;
      index = i;
      below = below;
      request = record { entry = f; at = get_left b.entries more i f at; of = of_f; asks = subst P same (source, asks) };
      names = ap (index_of ls') (sym (ap named_position is)) ∙ steady.index (position_at b.ledgers (length b.entries - 1)) (length b.entries - 1) (at_index b.ledgers (length b.entries - 1) last);
    }

-- a new own request says whose it is
new_source : (h : Site) (b : Broker) (id : List ℕ) (source : ClusterRef) (e : Entry) → is_of h.own e ≡ true → e.content ≡ content.Marked (marker.Request id source)
    → Added h b e → source ≡ cluster_ref.Known h.own
new_source h b id source e of is (Added.Published e' own message) = absurd (false≢true (sym (ap is_data is) ∙ message))
new_source h b id source e of is (Added.Came e' z small other from) = absurd (not_own h.own z e other from of)
new_source h b id source e of is (Added.Asked none) = sym (ap source_of is)
new_source h b id source e of is (Added.AskedAgain y i f id' answer' u u' next is' heard) = sym (ap source_of is)
new_source h b id source e of is (Added.Completed y i f id' answer' u u' next is' heard) = absurd (false≢true (ap is_request is))
new_source h b id source e of is (Added.Updated v cut) = absurd (false≢true (ap is_request is))
new_source h b id source e of is (Added.Responded y i f id' source' small other at of_f asks) = absurd (false≢true (ap is_request is))

-- whatever is appended
answering_grows : (h : Site) (b : Broker) (more : List Entry) (ls' : List ℕ) → h.own < length h.clusters → Adds h b more → Steady b.ledgers (b.entries ++ more) ls'
    → Answering (length h.clusters) h.own b.entries b.ledgers → Answering (length h.clusters) h.own (b.entries ++ more) ls'
answering_grows h b more ls' lt adds steady a = record {
  numbered = steady.numbered;
  origins = λ k e at. elim (old_or_new b.entries more k e at) [
    | inl old ↦ a.origins k e old.1
    | inr new ↦ adds_origin h b more lt adds (k - length b.entries) e new.1
  ];
  answers = λ k id answer e is. elim (old_or_new b.entries more k e is.at) [
    | inl old ↦
        answers_grow (length h.clusters) h.own k b.entries more b.ledgers ls' id answer e steady.index
        (a.answers k id answer e (record { at = old.1; of = is.of; is = is.is }))
    | inr new ↦
        let alone = own_added h b more adds (k - length b.entries) e new.1 is.of in
        let here : length b.entries ≡ k = omega (arith, new.0, alone.first) in
        let P : ℕ → Type 0 = λ k. Answers (length h.clusters) h.own (b.entries ++ more) ls' k id answer e in
        subst P here (new_answer h b more ls' id answer e steady a.numbered is.of is.is alone.added)
  ];
  sources = λ k e id source at of is. elim (old_or_new b.entries more k e at) [
    | inl old ↦ a.sources k e id source old.1 of is
    | inr new ↦ new_source h b id source e of is (own_added h b more adds (k - length b.entries) e new.1 of).added
  ];
}

-- of the topic at cluster x
abbrev pub AnswersAt : Setup → ℕ → Broker → Type 0
AnswersAt s x b = Answering (length s.clusters) x b.entries b.ledgers

answering_writes : (s : Setup) (t x : ℕ) (b : Broker) (ws : List Write) → x < length s.clusters → Adds (site s t x) b (appended ws) → AnswersAt s x b
    → AnswersAt s x (all_written s.per_ledger b ws)
answering_writes s t x b ws lt adds a =
    let b' = all_written s.per_ledger b ws in
    let is : b'.entries ≡ b.entries ++ appended ws = written_entries s.per_ledger b ws ∙ after_is b.entries ws in
    let steady = subst (λ (es : List Entry). Steady b.ledgers es b'.ledgers) is (writes_steady s.per_ledger b ws a.numbered) in
    subst (λ (es : List Entry). Answering (length s.clusters) x es b'.ledgers) (sym is) (answering_grows (site s t x) b (appended ws) b'.ledgers lt adds steady a)

answering_changes : (s : Setup) (x : ℕ) (b : Broker) (c : Change) → AnswersAt s x b → AnswersAt s x (changed b c)
answering_changes s x b (change.Receiver z r) a = a
answering_changes s x b c a = a

pub answering_durable : (s : Setup) → IsDurable s (AnswersAt s)
answering_durable s = record {
  opening = λ x lt. record {
    numbered = record { some = omega arith; whole = refl };
    origins = λ k e at. absurd (none-some e at);
    answers = λ k id answer e is. absurd (none-some e is.at);
    sources = λ k e id source at. absurd (none-some e at);
  };
  writes = answering_writes s;
  changes = answering_changes s;
}
