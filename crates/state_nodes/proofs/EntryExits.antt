-- The payload of an entry makes it whole.
use Rattle.std.proofs.Common.{◌≡◌, ℕ, ◌+◌, ◌-◌, ◌<◌, ◌≤◌, Bool, true, false, List, [], ◌∷◌, ◌++◌, Result, Ok, Err, refl, sym, ap, subst, ◌∙◌}
use Rattle.std.specs.Prelude.{nat_le, IfOk}
use Rattle.geo_base.specs.declared.entry.Entry.{Entry}
use Rattle.geo_base.specs.declared.entry.Ident.{Ident}
use Rattle.geo_base.specs.Sizes.{entry_size, most_entry_size}
use Rattle.state_items.specs.Stored.{IsStored}
use Rattle.state_items.specs.declared.fault.ItemFault.{ItemFault}
use Rattle.state_items.specs.declared.fault.ItemFault.TheVariants as item_fault
use Rattle.state_items.specs.declared.rule.Rule.TheVariants as rule
use Rattle.state_items.specs.Reading.{Fails, Read, broken, text_at}
use Rattle.state_items.specs.Telling.{Many, Tells, TellsFault, goes, stops}
use Rattle.state_items.proofs.Many as told
use Rattle.state_nodes.specs.declared.heading.Heading.{Heading}
use Rattle.state_nodes.specs.TopicSoFar.{EntryList}
use Rattle.state_nodes.specs.Entries.{AreEntries, IsEntry, IsHeading, IsPayload, IsSized, ident_of, is_next, sized}

small : (names : List (List ℕ)) (h : Heading) (item payload rest : List ℕ) (e : Entry) → IsStored names h.meta h.origin payload e → nat_le (entry_size names e) most_entry_size ≡ true → IsSized names h item payload rest (Ok (e, rest))
small names h item payload rest e stored so =
    let same : sized names item e rest ≡ Ok (e, rest) = rw so refl in
    record { entry = e; stored = stored; is = sym same }

large : (names : List (List ℕ)) (h : Heading) (item payload rest : List ℕ) (e : Entry) → IsStored names h.meta h.origin payload e → nat_le (entry_size names e) most_entry_size ≡ false → IsSized names h item payload rest (Err (broken item rule.Entry))
large names h item payload rest e stored not_so =
    let same : sized names item e rest ≡ Err (broken item rule.Entry) = rw not_so refl in
    record { entry = e; stored = stored; is = sym same }

pub sized_is : (names : List (List ℕ)) (h : Heading) (bytes payload kept rest : List ℕ) (e : Entry) (b : Bool) → text_at bytes ≡ Ok (payload, rest) → kept ≡ payload → IsStored names h.meta h.origin kept e → b ≡ nat_le (entry_size names e) most_entry_size → b ≡ true → IsPayload names h bytes (Ok (e, rest))
sized_is names h bytes payload kept rest e b read same stored is so =
    goes (payload, rest) (sym read) (small names h bytes payload rest e (subst (λ (p : List ℕ). IsStored names h.meta h.origin p e) same stored) (sym is ∙ so))

abbrev same : ℕ → List ℕ → ℕ → Ident
same o p s = record { origin = o; producer = p; seq = s }

pub ident_is : (names : List (List ℕ)) (h : Heading) (payload : List ℕ) (e : Entry) → IsStored names h.meta h.origin payload e → e.ident ≡ ident_of h
ident_is names h payload e s =
    ap (λ (o : ℕ). same o e.ident.producer e.ident.seq) s.origin
    ∙ ap (λ (p : List ℕ). same h.origin p e.ident.seq) s.producer
    ∙ ap (λ (n : ℕ). same h.origin h.meta.producer n) s.seq

pub payload_stops : (names : List (List ℕ)) (h : Heading) (bytes : List ℕ) (e : ItemFault) → Fails e (text_at bytes) → TellsFault e (IsPayload names h bytes)
payload_stops names h bytes item_fault.Memory f = tt
payload_stops names h bytes (item_fault.Broken b) f = stops b (sym f) refl

pub large_refused : (names : List (List ℕ)) (h : Heading) (bytes payload kept rest : List ℕ) (e : Entry) (b : Bool) (f : ItemFault) → text_at bytes ≡ Ok (payload, rest) → kept ≡ payload → IsStored names h.meta h.origin kept e → b ≡ nat_le (entry_size names e) most_entry_size → b ≡ false → f ≡ item_fault.Broken (broken bytes rule.Entry) → TellsFault f (IsPayload names h bytes)
large_refused names h bytes payload kept rest e b f read same stored is not_so told =
    let stored' : IsStored names h.meta h.origin payload e = subst (λ (p : List ℕ). IsStored names h.meta h.origin p e) same stored in
    subst (λ (y : ItemFault). TellsFault y (IsPayload names h bytes)) (sym told) (goes (payload, rest) (sym read) (large names h bytes payload rest e stored' (sym is ∙ not_so)))

-- ---- an entry

pub text_stops : (names : List (List ℕ)) (own : ℕ) (before : List Entry) (bytes : List ℕ) (e : ItemFault) → Fails e (text_at bytes) → TellsFault e (IsEntry names own before bytes)
text_stops names own before bytes item_fault.Memory f = tt
text_stops names own before bytes (item_fault.Broken b) f = stops b (sym f) refl

pub heading_stops : (names : List (List ℕ)) (own : ℕ) (before : List Entry) (bytes text rest : List ℕ) (e : ItemFault) → text_at bytes ≡ Ok (text, rest) → TellsFault e (IsHeading names own before bytes text) → TellsFault e (IsEntry names own before bytes)
heading_stops names own before bytes text rest item_fault.Memory read h = tt
heading_stops names own before bytes text rest (item_fault.Broken b) read h = goes (text, rest) (sym read) (stops b h refl)

pub payload_told : {X : Type 0} (names : List (List ℕ)) (own : ℕ) (before : List Entry) (bytes text rest : List ℕ) (h : Heading) (view : X → Entry × List ℕ) (r : Result X ItemFault) → text_at bytes ≡ Ok (text, rest) → IsHeading names own before bytes text (Ok h) → Tells view r (IsPayload names h rest) → Tells view r (IsEntry names own before bytes)
payload_told names own before bytes text rest h view (Ok x) read is p = goes (text, rest) (sym read) (goes h is p)
payload_told names own before bytes text rest h view (Err item_fault.Memory) read is p = tt
payload_told names own before bytes text rest h view (Err (item_fault.Broken b)) read is p = goes (text, rest) (sym read) (goes h is p)

pub next_told : {Y : Type 0} (own : ℕ) (before : List Entry) (h : Heading) (r : Result (Entry × Y) ItemFault) → is_next own before (ident_of h) ≡ true → IfOk r (λ x. x.0.ident ≡ ident_of h) → IfOk r (λ x. is_next own before x.0.ident ≡ true)
next_told own before h (Ok x) next is = ap (λ (i : Ident). is_next own before i) is ∙ next
next_told own before h (Err e) next is = tt

-- ---- entries one after the other

-- each answer of what is left after the topic_so_far's entries is one of all
pub record EntriesGo (names : List (List ℕ)) (own count i : ℕ) (topic_so_far : EntryList) (bytes whole : List ℕ) : Type 0 where
  pub own_same : topic_so_far.own ≡ own
  pub goes_on : (answer : Read (List Entry)) → Many (IsEntry names own) (count - i) topic_so_far.entries bytes answer → AreEntries names own count whole answer

pub entries_begin : (names : List (List ℕ)) (own count : ℕ) (topic_so_far : EntryList) (bytes : List ℕ) → topic_so_far ≡ record { own = own; entries = [] } → EntriesGo names own count 0 topic_so_far bytes bytes
entries_begin names own count topic_so_far bytes e =
    subst (λ (b : EntryList). EntriesGo names own count 0 b bytes bytes) (sym e) (record { own_same = refl; goes_on = λ answer h. told.begins (IsEntry names own) count bytes answer h })

pub entry_more : (names : List (List ℕ)) (own count i : ℕ) (topic_so_far new : EntryList) (bytes after whole : List ℕ) (e : Entry) → i < count → new ≡ record { own = topic_so_far.own; entries = topic_so_far.entries ++ e ∷ [] } → IsEntry names topic_so_far.own topic_so_far.entries bytes (Ok (e, after))
    → EntriesGo names own count i topic_so_far bytes whole → EntriesGo names own count (i + 1) new after whole
entry_more names own count i topic_so_far new bytes after whole e lt pushed h so_far =
    let here : IsEntry names own topic_so_far.entries bytes (Ok (e, after)) = subst (λ (o : ℕ). IsEntry names o topic_so_far.entries bytes (Ok (e, after))) so_far.own_same h in
    subst (λ (b : EntryList). EntriesGo names own count (i + 1) b after whole) (sym pushed) (record {
      own_same = so_far.own_same;
      goes_on = told.goes_on (IsEntry names own) count i topic_so_far.entries (topic_so_far.entries ++ e ∷ []) bytes e after (AreEntries names own count whole) lt refl here so_far.goes_on;
    })

pub entry_ends : (names : List (List ℕ)) (own count i : ℕ) (topic_so_far : EntryList) (bytes whole : List ℕ) (e : ItemFault) → i < count → TellsFault e (IsEntry names topic_so_far.own topic_so_far.entries bytes) → EntriesGo names own count i topic_so_far bytes whole → TellsFault e (AreEntries names own count whole)
entry_ends names own count i topic_so_far bytes whole e lt h so_far =
    let here : TellsFault e (IsEntry names own topic_so_far.entries bytes) = subst (λ (o : ℕ). TellsFault e (IsEntry names o topic_so_far.entries bytes)) so_far.own_same h in
    told.ends (IsEntry names own) e count i topic_so_far.entries bytes (AreEntries names own count whole) lt here so_far.goes_on

pub entries_done : (names : List (List ℕ)) (own count i : ℕ) (topic_so_far : EntryList) (items : List Entry) (bytes whole : List ℕ) → count ≤ i → items ≡ topic_so_far.entries → EntriesGo names own count i topic_so_far bytes whole → AreEntries names own count whole (Ok (items, bytes))
entries_done names own count i topic_so_far items bytes whole le same so_far =
    subst (λ (xs : List Entry). AreEntries names own count whole (Ok (xs, bytes))) (sym same)
    (told.is_done (IsEntry names own) count i topic_so_far.entries bytes (AreEntries names own count whole) le so_far.goes_on)
