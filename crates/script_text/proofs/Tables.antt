-- Names that are told apart, put into a table one by one.
use Rattle.std.proofs.Common.{◌≡◌, ℕ, ◌+◌, ◌<◌, ◌==◌, nat_lt, true, false, ◌&&◌, Some, List, [], ◌∷◌, ◌++◌, length, fold, map, take, get_or, arith, refl, sym, ap, ◌∙◌, subst}
use Rattle.std.specs.List.{list_all, range_with_len}
use Rattle.std.specs.Str.{bytes_eq}
use Rattle.std.proofs.lemmas.Bool.{and_from, and_parts, cond_both}
use Rattle.std.proofs.lemmas.List.{get_or-map, get_or-take, length-map, length-take-le, map_more, take-map, take_more}
use Rattle.std.proofs.lemmas.List.Elements.{All-from_get_or}
use Rattle.std.proofs.lemmas.List.Folds.{list_all-append, list_any_none}
use Rattle.std.proofs.lemmas.List.FromFn.{map-range_with_len_more}
use Rattle.std.proofs.lemmas.Option.{slice_get-get_or}
use Rattle.geo_base.specs.declared.client.Line.{Line}
use Rattle.geo_base.specs.declared.client.Line.TheVariants as line
use Rattle.geo_base.specs.Name.{is_name}
use Rattle.geo_base.specs.Scripted.{AreDistinct, is_declared, is_line, stays_or_is_silent}
use Rattle.geo_base.specs.Setup.{Declared, Setup, sub_names, with_client, with_line, with_name}
use Rattle.script_rows.specs.NameBytes.{is_among}
use Rattle.script_rows.specs.NameWords.{Word}
use Rattle.script_rows.specs.declared.names.Member.{Member}
use Rattle.script_rows.specs.Names.{Names}
use Rattle.script_text.specs.Naming.{member_of, names_of}
use Rattle.script_text.proofs.Distinct.{AreDistinct-nil, AreDistinct-push}

-- ---- the next name is new
pub fresh : (xs : List Word) (i : ℕ) (x : Word) → AreDistinct xs → i < length xs → x ≡ get_or xs i x → is_among (take i xs) x ≡ false
fresh xs i x apart within is =
    let few : length (take i xs) ≡ i = length-take-le i xs (omega arith) in
    list_any_none (λ n. bytes_eq n x) (take i xs) (All-from_get_or (λ n. bytes_eq n x ≡ false) (take i xs) [] (λ k before. rw (get_or-take i xs k [] (omega (arith, few))) (apart k i (get_or xs k []) x (omega (arith, few)) (slice_get-get_or xs k [] (omega (arith, few))) (slice_get-get_or xs i x within ∙ ap Some (sym is)))))

abbrev pub names_of_clients : List Declared → List Word
names_of_clients ds = map (λ (d : Declared). d.name) ds

-- with the names of the first i clients
pub fresh_after : (ds : List Declared) (i : ℕ) (d : Declared) → AreDistinct (names_of_clients ds) → i < length ds → d ≡ get_or ds i d → is_among (names_of_clients (take i ds)) d.name ≡ false
fresh_after ds i d apart within is =
    let many : length (names_of_clients ds) ≡ length ds = length-map ds (λ (e : Declared). e.name) in
    let named : get_or (names_of_clients ds) i d.name ≡ d.name = get_or-map (λ (e : Declared). e.name) ds i d d.name within ∙ ap (λ (e : Declared). e.name) (sym is) in
    subst (λ (names : List Word). is_among names d.name ≡ false) (take-map (λ (e : Declared). e.name) i ds) (fresh (names_of_clients ds) i d.name apart (omega (arith, many)) (sym named))

-- ---- a topic's subscriptions
apart_name : (names : List Word) (n : Word) → AreDistinct names → AreDistinct (with_name names n)
apart_name names n d =
    cond_both (is_among names n) names (names ++ n ∷ []) AreDistinct (λ _. d) (λ new. AreDistinct-push names n new d)

apart_line : (names : List Word) (l : Line) → AreDistinct names → AreDistinct (with_line names l)
apart_line names (line.Sub n kind earliest replicated) d = apart_name names n d
apart_line names l d = d

apart_lines : (names : List Word) (ls : List Line) → AreDistinct names → AreDistinct (fold with_line names ls)
apart_lines names [] d = d
apart_lines names (l ∷ ls) d = apart_lines (with_line names l) ls (apart_line names l d)

apart_clients : (t : ℕ) (names : List Word) (ds : List Declared) → AreDistinct names → AreDistinct (fold (with_client t) names ds)
apart_clients t names [] d = d
apart_clients t names (e ∷ ds) d =
    apart_clients t (with_client t names e) ds (cond_both (e.topic == t) (fold with_line names e.lines) names AreDistinct (λ _. apart_lines names e.lines d) (λ _. d))

pub subs_apart : (s : Setup) (t : ℕ) → AreDistinct (sub_names s t)
subs_apart s t = apart_clients t [] s.clients AreDistinct-nil

-- ---- each is a name
abbrev pub AreNamed : List Word → Type 0
AreNamed names = list_all is_name names ≡ true

named_name : (names : List Word) (n : Word) → is_name n ≡ true → AreNamed names → AreNamed (with_name names n)
named_name names n is all =
    cond_both (is_among names n) names (names ++ n ∷ []) AreNamed (λ _. all) (λ new. rw (list_all-append is_name names (n ∷ [])) (and_from (list_all is_name names) (is_name n && true) all (and_from (is_name n) true is refl)))

named_line : (s : Setup) (names : List Word) (l : Line) → is_line s l ≡ true → AreNamed names → AreNamed (with_line names l)
named_line s names (line.Sub n kind earliest replicated) is all = named_name names n is all
named_line s names l is all = all

named_lines : (s : Setup) (names : List Word) (ls : List Line) → list_all (is_line s) ls ≡ true → AreNamed names → AreNamed (fold with_line names ls)
named_lines s names [] are all = all
named_lines s names (l ∷ ls) are all =
    let parts = and_parts (is_line s l) (list_all (is_line s) ls) are in
    named_lines s (with_line names l) ls parts.1 (named_line s names l parts.0 all)

-- what a declared client is known by
pub declared_parts : (s : Setup) (d : Declared) → is_declared s d ≡ true → (is_name d.name ≡ true) × (list_all (is_line s) d.lines ≡ true)
declared_parts s d k =
    let four = and_parts (is_name d.name && nat_lt d.topic (length s.topics) && nat_lt d.cluster (length s.clusters) && list_all (is_line s) d.lines) (stays_or_is_silent d.lines) k in
    let three = and_parts (is_name d.name && nat_lt d.topic (length s.topics) && nat_lt d.cluster (length s.clusters)) (list_all (is_line s) d.lines) four.0 in
    let two = and_parts (is_name d.name && nat_lt d.topic (length s.topics)) (nat_lt d.cluster (length s.clusters)) three.0 in
    ((and_parts (is_name d.name) (nat_lt d.topic (length s.topics)) two.0).0, three.1)

named_clients : (s : Setup) (t : ℕ) (names : List Word) (ds : List Declared) → list_all (is_declared s) ds ≡ true → AreNamed names → AreNamed (fold (with_client t) names ds)
named_clients s t names [] are all = all
named_clients s t names (e ∷ ds) are all =
    let parts = and_parts (is_declared s e) (list_all (is_declared s) ds) are in
    named_clients s t (with_client t names e) ds parts.1 (cond_both (e.topic == t) (fold with_line names e.lines) names AreNamed (λ _. named_lines s names e.lines (declared_parts s e parts.0).1 all) (λ _. all))

pub subs_named : (s : Setup) (t : ℕ) → list_all (is_declared s) s.clients ≡ true → AreNamed (sub_names s t)
subs_named s t are = named_clients s t [] s.clients are refl

pub clients_named : (s : Setup) (ds : List Declared) → list_all (is_declared s) ds ≡ true → AreNamed (names_of_clients ds)
clients_named s [] are = refl
clients_named s (d ∷ ds) are =
    let parts = and_parts (is_declared s d) (list_all (is_declared s) ds) are in
    and_from (is_name d.name) (list_all is_name (names_of_clients ds)) (declared_parts s d parts.0).0 (clients_named s ds parts.1)

-- ---- one more
pub one_taken : {X : Type 0} (xs : List X) (i : ℕ) (x : X) → i < length xs → x ≡ get_or xs i x → take i xs ++ x ∷ [] ≡ take (i + 1) xs
one_taken xs i x within is = ap (λ y. take i xs ++ y ∷ []) is ∙ sym (take_more xs i x within)

pub one_mapped : {X Y : Type 0} (f : X → Y) (xs : List X) (i : ℕ) (x : X) → i < length xs → x ≡ get_or xs i x → map f (take i xs) ++ f x ∷ [] ≡ map f (take (i + 1) xs)
one_mapped f xs i x within is = ap (λ y. map f (take i xs) ++ f y ∷ []) is ∙ sym (map_more f xs i x within)

pub one_table : (s : Setup) (t : ℕ) → map (sub_names s) (range_with_len 0 t) ++ sub_names s t ∷ [] ≡ map (sub_names s) (range_with_len 0 (t + 1))
one_table s t = sym (map-range_with_len_more (sub_names s) 0 t t (omega arith))

-- ---- all names
abbrev pub names_with : List Word → List Word → List Word → List Member → List (List Word) → Names
names_with cs ts us ms ss = record { clusters = cs; topics = ts; clients = us; members = ms; subs = ss }

pub names_made : (s : Setup) (cs ts us : List Word) (ms : List Member) (ss : List (List Word)) → cs ≡ s.clusters → ts ≡ s.topics → us ≡ map (λ (d : Declared). d.name) s.clients → ms ≡ map member_of s.clients → ss ≡ map (sub_names s) (range_with_len 0 (length s.topics)) → names_with cs ts us ms ss ≡ names_of s
names_made s cs ts us ms ss c t u m q =
    ap (λ (x : List Word). names_with x ts us ms ss) c ∙ (ap (λ (x : List Word). names_with s.clusters x us ms ss) t ∙ (ap (λ (x : List Word). names_with s.clusters s.topics x ms ss) u ∙ (ap (λ (x : List Member). names_with s.clusters s.topics (map (λ (d : Declared). d.name) s.clients) x ss) m ∙ ap (λ (x : List (List Word)). names_with s.clusters s.topics (map (λ (d : Declared). d.name) s.clients) (map member_of s.clients) x) q)))
