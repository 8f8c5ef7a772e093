-- The scenario is one that a script can declare.
use Rattle.std.proofs.Common.{◌≡◌, ℕ, zero, suc, ◌^◌, ◌<◌, ◌≤◌, nat_lt, ◌==◌, Bool, true, false, not, List, [], ◌∷◌, length, map, refl, sym, subst, arith}
use Rattle.std.specs.Prelude.{All, None, Some, codes, slice_get}
use Rattle.std.specs.List.{list_all, list_any, fold}
use Rattle.std.specs.Str.{bytes_eq}
use Rattle.std.proofs.lemmas.Bool.Decides.{nat_tests}
use Rattle.std.proofs.lemmas.List.Folds.{list_all-append, list_any-append}
use Rattle.std.proofs.lemmas.List.Filters.{length-filter_both}
use Rattle.std.proofs.lemmas.List.Sums.{fold-append}
use Rattle.std.proofs.lemmas.List.Elements.{All-cons, All-nil}
use Rattle.std.proofs.lemmas.List.{length-append}
use Rattle.geo_base.specs.declared.client.Line.TheVariants as line
use Rattle.geo_base.specs.declared.entry.Targets.TheVariants as targets
use Rattle.geo_base.specs.Name.{is_name}
use Rattle.geo_base.specs.Scripted.{AreDistinct, IsScripted, clients_of, is_declared, is_line, is_move}
use Rattle.geo_base.specs.Setup.{Declared, Setup, sub_names, with_line}
use Rattle.script_text.specs.Scenario.{IsClient, has_printable_text}
use Rattle.script_generator.specs.Scenario.{at, consumer_lines, generated_clients, generated_setup, producer_lines, publishes, stays}
use Rattle.geo_base.proofs.Bools.{both_true}

-- ---- distinct names

others_differ : (x : List ℕ) (ns : List (List ℕ)) (j : ℕ) (n : List ℕ) → list_all (λ y. not (bytes_eq x y)) ns ≡ true → slice_get ns j ≡ Some n → bytes_eq x n ≡ false
others_differ x [] j n h at = absurd cc
others_differ x (y ∷ ys) zero n h at = let first = (both_true (not (bytes_eq x y)) (list_all (λ z. not (bytes_eq x z)) ys) h).0 in grind (arith, nat_tests)
others_differ x (y ∷ ys) (suc j) n h at = others_differ x ys j n (both_true (not (bytes_eq x y)) (list_all (λ z. not (bytes_eq x z)) ys) h).1 at

distinct_none : AreDistinct []
distinct_none i j m n less a b = absurd cc

distinct_more : (x : List ℕ) (ns : List (List ℕ)) → list_all (λ y. not (bytes_eq x y)) ns ≡ true → AreDistinct ns → AreDistinct (x ∷ ns)
distinct_more x ns h rest zero zero m n less a b = absurd (omega arith)
distinct_more x ns h rest zero (suc j) m n less a b =
    let same : x ≡ m = cc in
    rw (sym same) (others_differ x ns j n h b)
distinct_more x ns h rest (suc i) zero m n less a b = absurd (omega arith)
distinct_more x ns h rest (suc i) (suc j) m n less a b = rest i j m n (omega arith) a b

three_distinct : AreDistinct (codes "a" ∷ codes "b" ∷ codes "c" ∷ [])
three_distinct =
    distinct_more (codes "a") (codes "b" ∷ codes "c" ∷ []) refl
    (distinct_more (codes "b") (codes "c" ∷ []) refl (distinct_more (codes "c") [] refl distinct_none))

one_distinct : AreDistinct (codes "t" ∷ [])
one_distinct = distinct_more (codes "t") [] refl distinct_none

four_distinct : AreDistinct (codes "pa" ∷ codes "pb" ∷ codes "pc" ∷ codes "d" ∷ [])
four_distinct =
    distinct_more (codes "pa") (codes "pb" ∷ codes "pc" ∷ codes "d" ∷ []) refl
    (distinct_more (codes "pb") (codes "pc" ∷ codes "d" ∷ []) refl
    (distinct_more (codes "pc") (codes "d" ∷ []) refl (distinct_more (codes "d") [] refl distinct_none)))

-- ---- lines

publishes_are_lines : (n : ℕ) → n ≤ 1000 → list_all (is_line generated_setup) (publishes n) ≡ true
unfolding publishes generated_setup
publishes_are_lines zero h = refl
publishes_are_lines (suc n) h =
    let rest = publishes_are_lines n (omega arith) in
    let small : nat_lt n (2 ^ 63) ≡ true = grind (arith, nat_tests) in
    rw (list_all-append, rest, small) refl

publishes_stay : (n : ℕ) → list_any is_move (publishes n) ≡ false
unfolding publishes
publishes_stay zero = refl
publishes_stay (suc n) = let rest = publishes_stay n in rw (list_any-append, rest) refl

publishes_name_none : (names : List (List ℕ)) (n : ℕ) → fold with_line names (publishes n) ≡ names
unfolding publishes
publishes_name_none names zero = refl
publishes_name_none names (suc n) = let rest = publishes_name_none names n in rw (fold-append, rest) refl

producer_ok : (name : List ℕ) (x n : ℕ) → is_name name ≡ true → x < 3 → n ≤ 1000 → is_declared generated_setup (at name x (producer_lines n)) ≡ true
unfolding generated_setup producer_lines
producer_ok name x n named within few =
    let cluster : nat_lt x 3 ≡ true = grind (arith, nat_tests) in
    rw (named, cluster, publishes_are_lines n few, publishes_stay n) refl

consumer_ok : is_declared generated_setup (at (codes "d") 0 consumer_lines) ≡ true
unfolding generated_setup consumer_lines stays
consumer_ok = refl

four : {X : Type 0} (p : X → Bool) (a b c d : X) → p a ≡ true → p b ≡ true → p c ≡ true → p d ≡ true → list_all p (a ∷ b ∷ c ∷ d ∷ []) ≡ true
four p a b c d ha hb hc hd = rw (ha, hb, hc, hd) refl

clients_ok : list_all (is_declared generated_setup) generated_clients ≡ true
unfolding generated_clients
clients_ok = four (is_declared generated_setup) (at (codes "pa") 0 (producer_lines 667)) (at (codes "pb") 1 (producer_lines 667)) (at (codes "pc") 2 (producer_lines 666)) (at (codes "d") 0 consumer_lines)
    (producer_ok (codes "pa") 0 667 refl (omega arith) (omega arith)) (producer_ok (codes "pb") 1 667 refl (omega arith) (omega arith)) (producer_ok (codes "pc") 2 666 refl (omega arith) (omega arith)) consumer_ok

-- ---- few lines, printable texts

many_publishes : (n : ℕ) → length (publishes n) ≡ n
unfolding publishes
many_publishes zero = refl
many_publishes (suc n) = omega (arith, many_publishes n, length-append (publishes n) (line.Pub n targets.All None (codes "x") ∷ []))

publishes_print : (n : ℕ) → list_all has_printable_text (publishes n) ≡ true
unfolding publishes
publishes_print zero = refl
publishes_print (suc n) = let rest = publishes_print n in rw (list_all-append, rest) refl

producer_is : (name : List ℕ) (x n : ℕ) → n ≤ 1000 → IsClient (at name x (producer_lines n))
unfolding producer_lines
producer_is name x n few = record { few = omega (arith, many_publishes n); texts = publishes_print n }

many_lines : length consumer_lines ≡ 281
unfolding consumer_lines stays
many_lines = refl

lines_print : list_all has_printable_text consumer_lines ≡ true
unfolding consumer_lines stays
lines_print = refl

consumer_is : IsClient (at (codes "d") 0 consumer_lines)
consumer_is = record { few = omega (arith, many_lines); texts = lines_print }

four_are : (P : Declared → Type 0) (a b c d : Declared) → P a → P b → P c → P d → All P (a ∷ b ∷ c ∷ d ∷ [])
four_are P a b c d ha hb hc hd =
    All-cons P a (b ∷ c ∷ d ∷ []) ha (All-cons P b (c ∷ d ∷ []) hb (All-cons P c (d ∷ []) hc (All-cons P d [] hd (All-nil P))))

clients_known : All IsClient generated_clients
unfolding generated_clients
clients_known =
    four_are IsClient (at (codes "pa") 0 (producer_lines 667)) (at (codes "pb") 1 (producer_lines 667)) (at (codes "pc") 2 (producer_lines 666)) (at (codes "d") 0 consumer_lines) (producer_is (codes "pa") 0 667 (omega arith)) (producer_is (codes "pb") 1 667 (omega arith)) (producer_is (codes "pc") 2 666 (omega arith)) consumer_is

-- ---- the topic's clients and subscriptions

the_clients : generated_setup.clients ≡ generated_clients
unfolding generated_setup
the_clients = refl

four_clients : length generated_setup.clients ≡ 4
unfolding generated_setup generated_clients
four_clients = refl

few_of : (s : Setup) (t : ℕ) → length (clients_of s t) ≤ length s.clients
few_of s t = omega (arith, length-filter_both (λ (d : Declared). d.topic == t) (λ (d : Declared). not (d.topic == t)) (λ d. refl) s.clients)

few_clients : (t : ℕ) → length (clients_of generated_setup t) ≤ 32
few_clients t = omega (arith, few_of generated_setup t, four_clients)

pub one_sub : sub_names generated_setup 0 ≡ codes "s" ∷ []
unfolding generated_setup generated_clients producer_lines consumer_lines stays
one_sub = rw (publishes_name_none [] 667, publishes_name_none [] 667, publishes_name_none [] 666) refl

no_sub : (t : ℕ) → (0 == t) ≡ false → sub_names generated_setup t ≡ []
unfolding generated_setup generated_clients
no_sub t e = rw e refl

few_subs : (t : ℕ) → length (sub_names generated_setup t) ≤ 32
few_subs t = by (0 == t) refl
  where
    by : (b : Bool) → (0 == t) ≡ b → length (sub_names generated_setup t) ≤ 32
    by true e = let zero_is : t ≡ 0 = grind (arith, nat_tests) in rw (zero_is, one_sub) (omega arith)
    by false e = rw (no_sub t e) (omega arith)

-- ---- the whole

ledger_ok : (1 ≤ generated_setup.per_ledger) × (generated_setup.per_ledger ≤ 1000000)
unfolding generated_setup
ledger_ok = (omega arith, omega arith)

clusters_ok : (2 ≤ length generated_setup.clusters) × (length generated_setup.clusters ≤ 8)
unfolding generated_setup
clusters_ok = (omega arith, omega arith)

topics_ok : (1 ≤ length generated_setup.topics) × (length generated_setup.topics ≤ 16)
unfolding generated_setup
topics_ok = (omega arith, omega arith)

cluster_names_ok : (list_all is_name generated_setup.clusters ≡ true) × AreDistinct generated_setup.clusters
unfolding generated_setup
cluster_names_ok = (refl, three_distinct)

topic_names_ok : (list_all is_name generated_setup.topics ≡ true) × AreDistinct generated_setup.topics
unfolding generated_setup
topic_names_ok = (refl, one_distinct)

clients_named : AreDistinct (map (λ (d : Declared). d.name) generated_setup.clients)
unfolding generated_setup generated_clients
clients_named = four_distinct

clients_declared : list_all (is_declared generated_setup) generated_setup.clients ≡ true
clients_declared = subst (λ (ds : List Declared). list_all (is_declared generated_setup) ds ≡ true) (sym the_clients) clients_ok

pub clients_are : All IsClient generated_setup.clients
clients_are = subst (λ (ds : List Declared). All IsClient ds) (sym the_clients) clients_known

pub scripted : IsScripted generated_setup
scripted = record {
  ledger = ledger_ok;
  clusters = clusters_ok;
  topics = topics_ok;
  cluster_names = cluster_names_ok;
  topic_names = topic_names_ok;
  clients = (clients_declared, clients_named);
  of_a_topic = λ t. (few_clients t, few_subs t);
}
