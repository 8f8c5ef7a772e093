-- The durable part of a broker is read again as it was written.
use Rattle.std.proofs.Common.{◌≡◌, ℕ, ◌<◌, ◌≤◌, ◌^◌, ◌==◌, true, List, [], ◌++◌, length, Ok, refl, sym, ap, ◌∙◌, append_assoc, arith}
use Rattle.std.specs.Prelude.{nat_lt, nat_le, Option, Some}
use Rattle.std.specs.List.{flat_map, sum}
use Rattle.std.proofs.lemmas.Bool.Decides.{nat_tests}
use Rattle.state_items.specs.EntryTexts.{entry_text, metadata_text}
use Rattle.state_items.specs.Told.{IsSaid}
use Rattle.state_items.proofs.Told.{some_said}
use Rattle.geo_base.specs.declared.entry.Entry.{Entry}
use Rattle.geo_base.specs.declared.entry.Ident.{Ident}
use Rattle.geo_base.specs.Broker.{Broker}
use Rattle.geo_base.specs.Sizes.{entry_size, most_entry_size}
use Rattle.message_meta.specs.Metadata.{Metadata}
use Rattle.state_items.specs.declared.rule.Rule.TheVariants as rule
use Rattle.state_items.specs.Reading.{text_at}
use Rattle.state_items.specs.Telling.{Then}
use Rattle.state_items.specs.Texts.{number, text}
use Rattle.state_items.proofs.Again.{number_again, text_again, within_again}
use Rattle.state_items.proofs.Again as again
use Rattle.state_items.proofs.Many as told
use Rattle.state_nodes.specs.declared.heading.Heading.{Heading}
use Rattle.state_nodes.specs.Entries.{AreEntries, IsEntry, IsHeading, IsPayload, ident_of, is_next, sized, something, with_origin}
use Rattle.state_nodes.specs.Fitting.{IsDurable, IsNextEntry}
use Rattle.state_nodes.specs.Ledgers.{entry_count, ledgers_at, ledgers_text, length_at}
use Rattle.state_nodes.specs.Nodes.{IsNode, behind_entries, counted_ledgers_at, node_text, shares_at}
use Rattle.state_nodes.specs.Replicators.{replicators_text}
use Rattle.state_nodes.specs.Subs.{subs_text}
use Rattle.state_nodes.proofs.Back.{replicators_again, subs_again}
use Rattle.frame_values.specs.Texts.{payload_text}

-- ---- an entry

abbrev heading : Metadata → ℕ → Heading
heading m x = record { meta = m; origin = x }

abbrev ident : ℕ → List ℕ → ℕ → Ident
ident o p s = record { origin = o; producer = p; seq = s }

same_ident : (names : List (List ℕ)) (own : ℕ) (e : Entry) (m : Metadata) → IsSaid names own e m → ident_of (heading m e.ident.origin) ≡ e.ident
same_ident names own e m h = ap (λ (p : List ℕ). ident e.ident.origin p m.seq) h.producer ∙ ap (λ (s : ℕ). ident e.ident.origin e.ident.producer s) h.seq

heading_again : (names : List (List ℕ)) (own : ℕ) (before : List Entry) (item : List ℕ) (e : Entry) (m : Metadata) → IsSaid names own e m → is_next own before e.ident ≡ true → IsHeading names own before item (metadata_text names own e) (Ok (heading m e.ident.origin))
heading_again names own before item e m h next =
    let next' : is_next own before (ident_of (heading m e.ident.origin)) ≡ true = ap (λ (i : Ident). is_next own before i) (same_ident names own e m h) ∙ next in
    let made : with_origin own before item m (Some e.ident.origin) ≡ Ok (heading m e.ident.origin) = rw next' refl in
    record { said = Some m; says = something m h.text; is = sym (ap (λ (o : Option ℕ). with_origin own before item m o) h.origin ∙ made) }

payload_again : (names : List (List ℕ)) (own : ℕ) (e : Entry) (m : Metadata) (rest : List ℕ) → IsSaid names own e m → length (payload_text names e.content e.payload) < 2 ^ 32 → entry_size names e ≤ most_entry_size → IsPayload names (heading m e.ident.origin) (text (payload_text names e.content e.payload) ++ rest) (Ok (e, rest))
payload_again names own e m rest h short small =
    let p : List ℕ = payload_text names e.content e.payload in
    let so : nat_le (entry_size names e) most_entry_size ≡ true = grind (arith, nat_tests, small) in
    let whole : sized names (text p ++ rest) e rest ≡ Ok (e, rest) = rw so refl in
    Then.goes (p, rest) (sym (text_again p rest short)) (record { entry = e; stored = h.stored; is = sym whole })

pub entry_again : (names : List (List ℕ)) (own : ℕ) (before : List Entry) (e : Entry) (rest : List ℕ) → IsNextEntry names own before e → IsEntry names own before (entry_text names own e ++ rest) (Ok (e, rest))
entry_again names own before e rest h =
    let m = some_said names own e h.texts h.told in
    let t : List ℕ = metadata_text names own e in
    let p : List ℕ = payload_text names e.content e.payload in
    let regrouped : entry_text names own e ++ rest ≡ text t ++ (text p ++ rest) = append_assoc (text t) (text p) rest in
    let read : text_at (entry_text names own e ++ rest) ≡ Ok (t, text p ++ rest) = ap text_at regrouped ∙ text_again t (text p ++ rest) h.metadata in
    Then.goes (t, text p ++ rest) (sym read) (Then.goes (heading m.0 e.ident.origin) (heading_again names own before (entry_text names own e ++ rest) e m.0 m.1 h.next) (payload_again names own e m.0 rest m.1 h.payload h.small))

-- ---- a broker

length_again : (per : ℕ) → per < 2 ^ 64 → (before : List ℕ) (l : ℕ) (rest : List ℕ) → l ≤ per → length_at per before (number l ++ rest) ≡ Ok (l, rest)
length_again per lt before l rest le = within_again per l rule.Ledgers rest le (omega (arith, le, lt))

ledgers_again : (per : ℕ) (names : List (List ℕ)) (own : ℕ) (b : Broker) (rest : List ℕ) → IsDurable per names own b → counted_ledgers_at per (ledgers_text b.ledgers ++ (number (length b.entries) ++ rest)) ≡ Ok ((b.ledgers, length b.entries), rest)
unfolding counted_ledgers_at ledgers_at entry_count
ledgers_again per names own b rest h =
    let opened : nat_lt 0 (length b.ledgers) ≡ true = grind (arith, nat_tests, h.opened) in
    let together : (sum b.ledgers == length b.entries) ≡ true = grind (arith, nat_tests, h.together) in
    ap (counted_ledgers_at per) (append_assoc (number (length b.ledgers)) (flat_map number b.ledgers) (number (length b.entries) ++ rest))
    ∙ rw (number_again (length b.ledgers) (flat_map number b.ledgers ++ (number (length b.entries) ++ rest)) h.ledgers_few, opened, again.many_again (length_at per) number (λ before l. l ≤ per) (length_again per h.per_ledger) b.ledgers [] (number (length b.entries) ++ rest) h.ledgers, number_again (length b.entries) rest h.few, together) refl

behind_again : (per : ℕ) (names : List (List ℕ)) (own : ℕ) (b : Broker) (rest : List ℕ) → IsDurable per names own b
    → behind_entries 2 own (length names) b.ledgers b.entries (subs_text (length b.entries) b.subs ++ (replicators_text (length b.entries) own b.replicators ++ rest)) ≡ Ok (b, rest)
unfolding behind_entries shares_at
behind_again per names own b rest h =
    rw (← h.all_replicators, subs_again (length b.entries) h.few b.subs (replicators_text (length b.entries) own b.replicators ++ rest) h.subs, replicators_again (length b.entries) own h.few b.replicators rest h.replicators) (ap (λ (x : Broker). Ok (x, rest)) h.durable)

pub node_again : (per : ℕ) (names : List (List ℕ)) (own : ℕ) (b : Broker) (rest : List ℕ) → IsDurable per names own b → IsNode 2 per names own (node_text names own b ++ rest) (Ok (b, rest))
node_again per names own b rest h =
    let es : List ℕ = flat_map (entry_text names own) b.entries in
    let n : List ℕ = number (length b.entries) in
    let ss : List ℕ = subs_text (length b.entries) b.subs in
    let rs : List ℕ = replicators_text (length b.entries) own b.replicators in
    let left : List ℕ = es ++ (ss ++ (rs ++ rest)) in
    let inner : ((n ++ es) ++ (ss ++ rs)) ++ rest ≡ n ++ left =
    append_assoc (n ++ es) (ss ++ rs) rest ∙ append_assoc n es ((ss ++ rs) ++ rest) ∙ ap (λ (x : List ℕ). n ++ (es ++ x)) (append_assoc ss rs rest) in
    let regrouped : node_text names own b ++ rest ≡ ledgers_text b.ledgers ++ (n ++ left) =
    append_assoc (ledgers_text b.ledgers) ((n ++ es) ++ (ss ++ rs)) rest ∙ ap (λ (x : List ℕ). ledgers_text b.ledgers ++ x) inner in
    let read : counted_ledgers_at per (node_text names own b ++ rest) ≡ Ok ((b.ledgers, length b.entries), left) =
    ap (counted_ledgers_at per) regrouped ∙ ledgers_again per names own b left h in
    let entries : AreEntries names own (length b.entries) left (Ok (b.entries, ss ++ (rs ++ rest))) =
    told.many_again (IsEntry names own) (entry_text names own) (IsNextEntry names own) (entry_again names own) b.entries [] (ss ++ (rs ++ rest)) h.entries in
    Then.goes ((b.ledgers, length b.entries), left) (sym read) (Then.goes (b.entries, ss ++ (rs ++ rest)) entries (sym (behind_again per names own b rest h)))
