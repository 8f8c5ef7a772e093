-- What was saved is loaded again.
use Rattle.std.proofs.Common.{◌≡◌, ℕ, suc, ◌+◌, ◌-◌, ◌%◌, ◌<◌, ◌^◌, ◌==◌, true, false, List, [], ◌∷◌, ◌++◌, length, get_or, take, Ok, refl, sym, ap, subst, ◌∙◌, append_assoc, arith}
use Rattle.std.specs.Prelude.{nat_lt}
use Rattle.std.specs.Str.{bytes_eq}
use Rattle.std.proofs.lemmas.Bool.Decides.{nat_tests}
use Rattle.std.proofs.lemmas.List.{append-nil, drop_at, get_or_at, length-append, take_at}
use Rattle.geo_base.specs.Broker.{Broker}
use Rattle.geo_base.specs.Client.{Client}
use Rattle.geo_base.specs.Setup.{Declared, Setup, nobody}
use Rattle.script_text.specs.Canonical.{declarations_text}
use Rattle.script_text.specs.Rules.{script_of}
use Rattle.script_text.specs.Script.{Script}
use Rattle.state_nodes.specs.Clients.{client_at, client_text}
use Rattle.state_nodes.proofs.ClientBack.{client_again}
use Rattle.state_items.specs.Reading.{◌>>=◌, Read, many, number_at, word_at}
use Rattle.state_items.specs.Telling.{Many, Then}
use Rattle.state_items.specs.Texts.{number, word}
use Rattle.state_items.proofs.Again.{number_again, number_long, word_again, word_long}
use Rattle.state_nodes.specs.Counts.{counts_text}
use Rattle.state_nodes.specs.Nodes.{node_text}
use Rattle.state_nodes.proofs.Back.{counts_again}
use Rattle.state_nodes.proofs.NodeBack.{node_again}
use Rattle.state_file.specs.Fitting.{AreClients, AreDurable, IsState}
use Rattle.state_file.specs.Loading.{IsLoaded, whole}
use Rattle.state_file.specs.Reading.{AreNodes, IsBody, IsNodeBehind, client_behind, declarations_at, head_at, magic_at, so_many, tail_at, version_at}
use Rattle.state_file.proofs.Declared.{same}
use Rattle.state_file.specs.State.{SavedState}
use Rattle.state_file.specs.Texts.{body_text, clients_text, declared_text, magic, nodes_from, state_text}
use Rattle.geo_base.proofs.Lists.{bytes_eq_itself}

-- ---- the declarations

many_again : (s : Script) (rest : List ℕ) → script_of (declarations_text s.setup s.chance) ≡ Ok s → so_many (length (declarations_text s.setup s.chance)) (declarations_text s.setup s.chance ++ rest) ≡ Ok (s, rest)
many_again s rest back =
    let t : List ℕ = declarations_text s.setup s.chance in
    same (length t) (t ++ rest) t rest s true (omega (arith, length-append t rest)) (sym (take_at t rest (length t) refl)) (sym (drop_at t rest (length t) refl)) back (sym (bytes_eq_itself t)) refl

declared_again : (s : Script) (rest : List ℕ) → script_of (declarations_text s.setup s.chance) ≡ Ok s → length (declarations_text s.setup s.chance) < 2 ^ 64 → declarations_at (declared_text s ++ rest) ≡ Ok (s, rest)
unfolding declarations_at
declared_again s rest back short =
    let t : List ℕ = declarations_text s.setup s.chance in
    ap declarations_at (append_assoc (number (length t)) t rest) ∙ rw (number_again (length t) (t ++ rest) short) (many_again s rest back)

-- ---- brokers

nodes_again : (s : Setup) (bs before : List Broker) (rest : List ℕ) → AreDurable s (length before) bs → Many (IsNodeBehind 2 s) (length bs) before (nodes_from s.clusters (length before) bs ++ rest) (Ok (before ++ bs, rest))
nodes_again s [] before rest h = ap (λ (xs : List Broker). Ok (xs, rest)) (append-nil before)
nodes_again s (b ∷ bs) before rest h =
    let own : ℕ = length before % length s.clusters in
    let len : length before + 1 ≡ length (before ++ b ∷ []) = omega (arith, length-append before (b ∷ [])) in
    let behind : List ℕ = nodes_from s.clusters (length (before ++ b ∷ [])) bs ++ rest in
    let regrouped : node_text s.clusters own b ++ behind ≡ nodes_from s.clusters (length before) (b ∷ bs) ++ rest =
    sym (append_assoc (node_text s.clusters own b) (nodes_from s.clusters (length before + 1) bs) rest ∙ ap (λ (k : ℕ). node_text s.clusters own b ++ (nodes_from s.clusters k bs ++ rest)) len) in
    let others : Many (IsNodeBehind 2 s) (length bs) (before ++ b ∷ []) behind (Ok (before ++ b ∷ bs, rest)) =
    subst (λ (xs : List Broker). Many (IsNodeBehind 2 s) (length bs) (before ++ b ∷ []) behind (Ok (xs, rest))) (append_assoc before (b ∷ []) bs)
    (nodes_again s bs (before ++ b ∷ []) rest (subst (λ (k : ℕ). AreDurable s k bs) len h.1)) in
    subst (λ (t : List ℕ). Many (IsNodeBehind 2 s) (suc (length bs)) before t (Ok (before ++ b ∷ bs, rest))) regrouped
    (Then.goes (b, behind) (node_again s.per_ledger s.clusters own b behind h.0) others)

-- ---- clients

client_here : (s : Setup) (ds : List Declared) (d : Declared) (before : List Client) (front : List Declared) (bytes : List ℕ) → s.clients ≡ front ++ d ∷ ds → length front ≡ length before → client_behind s before bytes ≡ client_at (length s.clusters) d.lines bytes
client_here s ds d before front bytes e len =
    ap (λ (x : Declared). client_at (length s.clusters) x.lines bytes) (ap (λ (xs : List Declared). get_or xs (length before) nobody) e ∙ get_or_at front d ds nobody (length before) len)

clients_again : (s : Setup) (ds front : List Declared) (ks before : List Client) (rest : List ℕ) → s.clients ≡ front ++ ds → length front ≡ length before → AreClients (length s.clusters) ds ks → many (client_behind s) (length ds) before (clients_text ks ++ rest) ≡ Ok (before ++ ks, rest)
unfolding many
clients_again s [] front [] before rest e len h = ap (λ (xs : List Client). Ok (xs, rest)) (sym (append-nil before))
clients_again s [] front (k ∷ ks) before rest e len h = absurd h
clients_again s (d ∷ ds) front [] before rest e len h = absurd h
clients_again s (d ∷ ds) front (k ∷ ks) before rest e len h =
    let e' : s.clients ≡ (front ++ d ∷ []) ++ ds = e ∙ sym (append_assoc front (d ∷ []) ds) in
    let len' : length (front ++ d ∷ []) ≡ length (before ++ k ∷ []) = omega (arith, length-append front (d ∷ []), length-append before (k ∷ []), len) in
    let here : client_behind s before (client_text k ++ (clients_text ks ++ rest)) ≡ Ok (k, clients_text ks ++ rest) =
    client_here s ds d before front (client_text k ++ (clients_text ks ++ rest)) e len ∙ client_again (length s.clusters) d.lines k (clients_text ks ++ rest) h.0 in
    ap (λ (b : List ℕ). many (client_behind s) (suc (length ds)) before b) (append_assoc (client_text k) (clients_text ks) rest)
    ∙ rw here (clients_again s ds (front ++ d ∷ []) ks (before ++ k ∷ []) rest e' len' h.1 ∙ ap (λ (xs : List Client). Ok (xs, rest)) (append_assoc before (k ∷ []) ks))

-- ---- the whole

head_again : (s : SavedState) (rest : List ℕ) → IsState s → length (declarations_text s.scenario.setup s.scenario.chance) < 2 ^ 64 → head_at (declared_text s.scenario ++ (counts_text s.counts ++ rest)) ≡ Ok ((s.scenario, s.counts), rest)
unfolding head_at
head_again s rest h short = rw (declared_again s.scenario (counts_text s.counts ++ rest) h.declared short, counts_again s.counts rest h.counts) refl

tail_again : (s : SavedState) (size : ℕ) → IsState s → tail_at size size s.scenario s.counts s.brokers (clients_text s.clients) ≡ Ok s
unfolding tail_at
tail_again s size h =
    let read : many (client_behind s.scenario.setup) (length s.scenario.setup.clients) [] (clients_text s.clients) ≡ Ok (s.clients, []) =
    ap (λ (b : List ℕ). many (client_behind s.scenario.setup) (length s.scenario.setup.clients) [] b) (sym (append-nil (clients_text s.clients)))
    ∙ clients_again s.scenario.setup s.scenario.setup.clients [] s.clients [] [] refl refl h.clients in
    let ended : ((size - 0) == size) ≡ true = grind (arith, nat_tests) in
    rw (read, ended) refl

body_again : (s : SavedState) → IsState s → IsBody 2 (length (body_text s)) (body_text s) (Ok s)
body_again s h =
    let d : List ℕ = declared_text s.scenario in
    let t : List ℕ = declarations_text s.scenario.setup s.scenario.chance in
    let c : List ℕ = counts_text s.counts in
    let ns : List ℕ = nodes_from s.scenario.setup.clusters 0 s.brokers in
    let ks : List ℕ = clients_text s.clients in
    let short : length t < 2 ^ 64 = omega (arith, h.short, length-append d (c ++ (ns ++ ks)), length-append (number (length t)) t) in
    let brokers : Many (IsNodeBehind 2 s.scenario.setup) (length s.brokers) [] (ns ++ ks) (Ok (s.brokers, ks)) = nodes_again s.scenario.setup s.brokers [] ks h.brokers in
    let all_ : AreNodes 2 s.scenario.setup (ns ++ ks) (Ok (s.brokers, ks)) =
    subst (λ (n : ℕ). Many (IsNodeBehind 2 s.scenario.setup) n [] (ns ++ ks) (Ok (s.brokers, ks))) h.all_nodes brokers in
    Then.goes ((s.scenario, s.counts), ns ++ ks) (sym (head_again s (ns ++ ks) h short)) (Then.goes (s.brokers, ks) all_ (sym (tail_again s (length (body_text s)) h)))

magic_again : (m rest : List ℕ) → length m ≡ 8 → bytes_eq m magic ≡ true → magic_at (m ++ rest) ≡ Ok (m, rest)
unfolding magic_at
magic_again m rest len eq =
    let there : nat_lt (length (m ++ rest)) 8 ≡ false = grind (arith, nat_tests, length-append m rest, len) in
    rw (there, take_at m rest 8 len, drop_at m rest 8 len, eq) refl

version_again : (rest : List ℕ) → version_at (magic ++ (word 2 ++ rest)) ≡ Ok (2, rest)
unfolding version_at
version_again rest =
    ap (λ (r : Read (List ℕ)). r >>= λ f. word_at f.1) (magic_again magic (word 2 ++ rest) refl (bytes_eq_itself magic)) ∙ word_again 2 rest (omega arith)

pub state_again : (s : SavedState) (more : List ℕ) → IsState s → IsLoaded (state_text s ++ more) (Ok (s, length (state_text s)))
state_again s more h =
    let b : List ℕ = body_text s in
    let n : List ℕ = number (length b) in
    let regrouped : state_text s ++ more ≡ magic ++ (word 2 ++ (n ++ (b ++ more))) =
    append_assoc magic (word 2 ++ (n ++ b)) more ∙ ap (λ (x : List ℕ). magic ++ x) (append_assoc (word 2) (n ++ b) more ∙ ap (λ (x : List ℕ). word 2 ++ x) (append_assoc n b more)) in
    let version : version_at (state_text s ++ more) ≡ Ok (2, n ++ (b ++ more)) = ap version_at regrouped ∙ version_again (n ++ (b ++ more)) in
    let size : number_at (n ++ (b ++ more)) ≡ Ok (length b, b ++ more) = number_again (length b) (b ++ more) (omega (arith, h.short)) in
    let body : IsBody 2 (length b) (take (length b) (b ++ more)) (Ok s) = subst (λ (t : List ℕ). IsBody 2 (length b) t (Ok s)) (sym (take_at b more (length b) refl)) (body_again s h) in
    let len : 20 + length b ≡ length (state_text s) = omega (arith, length-append magic (word 2 ++ (n ++ b)), length-append (word 2) (n ++ b), length-append n b, word_long 2, number_long (length b)) in
    whole (2, n ++ (b ++ more)) (length b, b ++ more) s version refl size body (ap (λ (k : ℕ). Ok (s, k)) (sym len))
