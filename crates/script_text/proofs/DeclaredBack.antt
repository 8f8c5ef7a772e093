-- The lines of settings, clusters, topics and clients that are written read back.
use Rattle.std.proofs.Common.{◌≡◌, ℕ, ◌-◌, ◌<◌, ◌≤◌, nat_lt, ◌==◌, Bool, true, false, ◌&&◌, List, [], ◌∷◌, ◌++◌, length, map, filter, Option, None, Some, Result, Ok, codes, arith, refl, sym, ap, ◌∙◌, subst}
use Rattle.std.specs.Fmt.{decimal}
use Rattle.std.specs.List.{list_all}
use Rattle.std.specs.Prelude.{IfSome, unwrap_or}
use Rattle.std.proofs.Math.Seq.{get_or-append_seam, take-append_seam}
use Rattle.std.proofs.lemmas.Bool.{and_from, and_parts, eq-eqb, eqb-true, ltb-true}
use Rattle.std.proofs.lemmas.List.{append_assoc, append-nil, length-append, map-append}
use Rattle.std.proofs.lemmas.List.Elements.{filter-append}
use Rattle.geo_base.specs.Name.{is_name}
use Rattle.geo_base.specs.Scripted.{AreDistinct, is_declared, is_line, stays_or_is_silent}
use Rattle.geo_base.specs.Setup.{Declared, Setup}
use Rattle.script_rows.specs.NameBytes.{is_among, name_at}
use Rattle.script_rows.specs.Numbers.{number_of}
use Rattle.script_rows.specs.NameWords.{Word}
use Rattle.script_rows.specs.declared.fault.Rule.{Rule}
use Rattle.script_rows.specs.declared.kind.Kind.TheVariants as kind
use Rattle.script_rows.specs.declared.line_kind.LineKind.TheVariants as row
use Rattle.script_rows.specs.declared.progress.Progress.{Progress}
use Rattle.script_rows.specs.declared.value.Value.{Value}
use Rattle.script_rows.specs.declared.value.Value.TheVariants as value
use Rattle.script_rows.specs.Names.{count_of, nothing_seen}
use Rattle.script_rows.specs.Rows.{columns_of, rank}
use Rattle.script_rows.specs.Written.{AreFit}
use Rattle.script_rows.proofs.Back.{is_name_at}
use Rattle.script_rows.proofs.Plain.{are_plain, is_plain}
use Rattle.script_text.specs.declared.chance.Chance.{Chance}
use Rattle.script_text.specs.Adding.{new_client, with_values}
use Rattle.script_text.specs.Canonical.{chance_text, clients_text, ledger_text, names_text, row_text}
use Rattle.script_text.specs.Drafts.{so_far}
use Rattle.script_text.specs.Lines.{TextLine, lines_of}
use Rattle.script_text.specs.Naming.{names_of}
use Rattle.script_text.specs.Rules.{at_line, judged, lowest, script_from}
use Rattle.script_text.specs.Scenario.{IsChance}
use Rattle.script_text.specs.Script.{Declarations, SoFar, no_line, nothing_declared, setup_with}
use Rattle.script_text.proofs.KeptRows.{chance_kept, client_kept, cluster_kept, geo_kept, ledger_kept, nothing_kept, topic_kept}
use Rattle.script_text.proofs.NewNames.{client_new, cluster_new, home_ok, topic_new}
use Rattle.script_text.proofs.PlainWords.{name_plain, number_plain}
use Rattle.script_text.proofs.RowsBack.{IsAt, Reaches, is_after, plain_row, row_and, said, same_reaches, stands}
use Rattle.script_text.proofs.Said.{lost_read, topics_counted}
use Rattle.script_text.proofs.ScheduleBack.{first_line, line_with}
use Rattle.script_text.proofs.Tables.{fresh}

one_plain : (w : Word) → is_plain w ≡ true → are_plain (w ∷ []) ≡ true
one_plain w plain = and_from (is_plain w) true plain refl

more_plain : (w : Word) (ws : List Word) → is_plain w ≡ true → are_plain ws ≡ true → are_plain (w ∷ ws) ≡ true
more_plain w ws plain all = and_from (is_plain w) (are_plain ws) plain all

-- ---- geo 1
abbrev pub headed : Declarations
headed = with_values nothing_declared (kind.Other row.Geo) (value.Item 0 ∷ [])

head_judged : judged 1 no_line (line_with (codes "geo 1")) ≡ Ok (so_far headed)
unfolding lowest
head_judged = refl

pub head_goes : (more : List ℕ) → script_from 1 no_line (lines_of (codes "geo 1\n" ++ more)) ≡ script_from 2 (so_far headed) (lines_of more)
head_goes more =
    ap (λ (ls : List TextLine). script_from 1 no_line ls) (first_line (codes "geo 1") more refl) ∙ ap (λ (r : Result SoFar Rule). at_line 1 r (λ s'. script_from 2 s' (lines_of more))) head_judged

pub head_at : IsAt 2 headed
head_at = record {
  kept = geo_kept 1 nothing_declared (value.Item 0 ∷ []) (omega arith) nothing_kept;
  begun = refl;
  quiet = λ _. refl;
}

-- ---- ledger N
ledger_row : (entries : ℕ) → 1 ≤ entries → entries ≤ 1000000 → Reaches 1 2 headed (codes "ledger" ++ row_text (decimal entries ∷ [])) None (setup_with entries [] [] [])
ledger_row entries least most =
    let vs : List Value = value.Item entries ∷ [] in
    let fits : AreFit (names_of headed.setup) nothing_seen (columns_of (kind.Other row.Ledger)) vs = (omega arith, ((least, most), omega arith), refl) in
    plain_row 1 2 headed (codes "ledger") (decimal entries ∷ []) (kind.Other row.Ledger) (decimal entries ∷ []) vs head_at refl (one_plain (decimal entries) (number_plain entries (omega arith))) (_, _, refl, refl) refl refl refl fits (omega arith) refl refl (ledger_kept 2 headed (names_of headed.setup).subs vs fits (omega arith) head_at.kept) (omega arith)

pub ledger_back : (entries : ℕ) → 1 ≤ entries → entries ≤ 1000000 → Reaches 1 2 headed (ledger_text entries) None (setup_with entries [] [] [])
ledger_back entries least most = by (entries == 50000) refl
  where
    by : (b : Bool) → (entries == 50000) ≡ b → Reaches 1 2 headed (ledger_text entries) None (setup_with entries [] [] [])
    by true is =
        let text : ledger_text entries ≡ [] = rw is refl in
        subst (λ (t : List ℕ). Reaches 1 2 headed t None (setup_with entries [] [] [])) (sym text) (same_reaches 1 2 headed [] None (setup_with 50000 [] [] []) (setup_with entries [] [] []) (ap (λ (n : ℕ). setup_with n [] [] []) (sym (eqb-true entries 50000 is))) (stands 1 2 headed head_at (omega arith)))
    by false is =
        let text : ledger_text entries ≡ codes "ledger" ++ row_text (decimal entries ∷ []) = rw is refl in
        subst (λ (t : List ℕ). Reaches 1 2 headed t None (setup_with entries [] [] [])) (sym text) (ledger_row entries least most)

-- ---- chance NUMBER LOST TWICE RESTART
chance_row : (n : ℕ) (p : Progress) (s : Setup) (c : Chance) → IsAt n (said p None s) → rank p.last ≤ 1 → IsChance c → Reaches 1 n (said p None s) (chance_text (Some c)) (Some c) s
chance_row n p s c is early k =
    let vs : List Value = value.Item c.number ∷ value.Item c.lost ∷ value.Item c.twice ∷ value.Item c.restart ∷ [] in
    let ws : List Word = decimal c.number ∷ decimal c.lost ∷ decimal c.twice ∷ decimal c.restart ∷ [] in
    let lost : unwrap_or (number_of 1000 (decimal c.lost)) 0 ≡ c.lost = lost_read c.lost (omega (arith, k.fates)) in
    let room : c.twice ≤ 1000 - unwrap_or (number_of 1000 (decimal c.lost)) 0 = omega (arith, lost, k.fates) in
    let fits : AreFit (names_of s) nothing_seen (columns_of (kind.Other row.Chance)) vs = (omega arith, ((omega arith, omega (arith, k.number)), omega arith), (omega arith, (omega arith, omega (arith, k.fates)), (omega arith, (omega arith, room), (omega arith, ((omega arith, k.restart), omega arith), refl)))) in
    let plain : are_plain ws ≡ true = more_plain (decimal c.number) (decimal c.lost ∷ decimal c.twice ∷ decimal c.restart ∷ []) (number_plain c.number (omega (arith, k.number))) (more_plain (decimal c.lost) (decimal c.twice ∷ decimal c.restart ∷ []) (number_plain c.lost (omega (arith, k.fates))) (more_plain (decimal c.twice) (decimal c.restart ∷ []) (number_plain c.twice (omega (arith, k.fates))) (one_plain (decimal c.restart) (number_plain c.restart (omega (arith, k.restart)))))) in
    plain_row 1 n (said p None s) (codes "chance") ws (kind.Other row.Chance) ws vs is refl plain (_, _, refl, refl) refl refl refl fits early (is.quiet refl) refl (chance_kept n (said p None s) (names_of s).subs vs fits early is.kept) (omega arith)

pub chance_back : (n : ℕ) (p : Progress) (s : Setup) (c : Option Chance) → IsAt n (said p None s) → rank p.last ≤ 1 → IfSome c IsChance → Reaches 1 n (said p None s) (chance_text c) c s
chance_back n p s None is early k = stands 1 n (said p None s) is early
chance_back n p s (Some c) is early k = chance_row n p s c is early k

-- ---- names in their order
-- the next name is none of those before it
pub next_new : (xs : List Word) (w : Word) (ws : List Word) → AreDistinct (xs ++ w ∷ ws) → is_among xs w ≡ false
next_new xs w ws apart =
    subst (λ (names : List Word). is_among names w ≡ false) (take-append_seam xs (w ∷ ws)) (fresh (xs ++ w ∷ ws) (length xs) w apart (omega (arith, length-append xs (w ∷ ws))) (sym (get_or-append_seam xs w ws w)))

pub moved : {X : Type 0} (xs : List X) (x : X) (ys : List X) → (xs ++ x ∷ []) ++ ys ≡ xs ++ x ∷ ys
moved xs x ys = append_assoc xs (x ∷ []) ys

-- ---- cluster X
cluster_row : (n : ℕ) (p : Progress) (c : Option Chance) (per : ℕ) (xs : List Word) (w : Word) → IsAt n (said p c (setup_with per xs [] [])) → rank p.last ≤ 2 → is_name w ≡ true → is_among xs w ≡ false → length xs < 8 → Reaches 2 n (said p c (setup_with per xs [] [])) (codes "cluster" ++ row_text (w ∷ [])) c (setup_with per (xs ++ w ∷ []) [] [])
cluster_row n p c per xs w is early name new few =
    let s = setup_with per xs [] [] in
    let vs : List Value = value.Name w ∷ [] in
    let fits : AreFit (names_of s) nothing_seen (columns_of (kind.Other row.Cluster)) vs = (omega arith, (name, cluster_new (names_of s) nothing_seen w name new few), refl) in
    plain_row 2 n (said p c s) (codes "cluster") (w ∷ []) (kind.Other row.Cluster) (w ∷ []) vs is refl (one_plain w (name_plain w name)) (_, _, refl, refl) refl refl refl fits early refl refl (cluster_kept n (said p c s) (names_of s).subs vs fits early is.kept) (omega arith)

pub clusters_back : (ws : List Word) (n : ℕ) (p : Progress) (c : Option Chance) (per : ℕ) (xs : List Word) → IsAt n (said p c (setup_with per xs [] [])) → rank p.last ≤ 2 → list_all is_name ws ≡ true → AreDistinct (xs ++ ws) → length (xs ++ ws) ≤ 8 → Reaches 2 n (said p c (setup_with per xs [] [])) (names_text (codes "cluster") ws) c (setup_with per (xs ++ ws) [] [])
clusters_back [] n p c per xs is early names apart few =
    same_reaches 2 n (said p c (setup_with per xs [] [])) [] c (setup_with per xs [] []) (setup_with per (xs ++ []) [] []) (ap (λ (ys : List Word). setup_with per ys [] []) (sym (append-nil xs))) (stands 2 n (said p c (setup_with per xs [] [])) is early)
clusters_back (w ∷ ws) n p c per xs is early names apart few =
    let d = said p c (setup_with per xs [] []) in
    let name = and_parts (is_name w) (list_all is_name ws) names in
    let all = moved xs w ws in
    let r = cluster_row n p c per xs w is early name.0 (next_new xs w ws apart) (omega (arith, few, length-append xs (w ∷ ws))) in
    let more = clusters_back ws r.after r.last c per (xs ++ w ∷ []) (is_after 2 n d (codes "cluster" ++ row_text (w ∷ [])) c (setup_with per (xs ++ w ∷ []) [] []) r) r.early name.1 (subst AreDistinct (sym all) apart) (omega (arith, few, ap length all)) in
    same_reaches 2 n d (names_text (codes "cluster") (w ∷ ws)) c (setup_with per ((xs ++ w ∷ []) ++ ws) [] []) (setup_with per (xs ++ w ∷ ws) [] []) (ap (λ (ys : List Word). setup_with per ys [] []) all) (row_and 2 2 n d (codes "cluster") (w ∷ []) (names_text (codes "cluster") ws) c c (setup_with per (xs ++ w ∷ []) [] []) (setup_with per ((xs ++ w ∷ []) ++ ws) [] []) r more)

-- ---- topic T
topic_row : (n : ℕ) (p : Progress) (c : Option Chance) (per : ℕ) (xs ts : List Word) (w : Word) → IsAt n (said p c (setup_with per xs ts [])) → rank p.last ≤ 3 → 2 ≤ length xs → is_name w ≡ true → is_among ts w ≡ false → length ts < 16 → Reaches 3 n (said p c (setup_with per xs ts [])) (codes "topic" ++ row_text (w ∷ [])) c (setup_with per xs (ts ++ w ∷ []) [])
topic_row n p c per xs ts w is early pair name new few =
    let s = setup_with per xs ts [] in
    let vs : List Value = value.Name w ∷ [] in
    let fits : AreFit (names_of s) nothing_seen (columns_of (kind.Other row.Topic)) vs = (omega arith, (name, topic_new (names_of s) nothing_seen w name new few pair), refl) in
    plain_row 3 n (said p c s) (codes "topic") (w ∷ []) (kind.Other row.Topic) (w ∷ []) vs is refl (one_plain w (name_plain w name)) (_, _, refl, refl) refl refl refl fits early refl refl (topic_kept n (said p c s) (names_of s).subs vs fits early is.kept) (omega arith)

pub topics_back : (ws : List Word) (n : ℕ) (p : Progress) (c : Option Chance) (per : ℕ) (xs ts : List Word) → IsAt n (said p c (setup_with per xs ts [])) → rank p.last ≤ 3 → 2 ≤ length xs → list_all is_name ws ≡ true → AreDistinct (ts ++ ws) → length (ts ++ ws) ≤ 16 → Reaches 3 n (said p c (setup_with per xs ts [])) (names_text (codes "topic") ws) c (setup_with per xs (ts ++ ws) [])
topics_back [] n p c per xs ts is early pair names apart few =
    same_reaches 3 n (said p c (setup_with per xs ts [])) [] c (setup_with per xs ts []) (setup_with per xs (ts ++ []) []) (ap (λ (ys : List Word). setup_with per xs ys []) (sym (append-nil ts))) (stands 3 n (said p c (setup_with per xs ts [])) is early)
topics_back (w ∷ ws) n p c per xs ts is early pair names apart few =
    let d = said p c (setup_with per xs ts []) in
    let name = and_parts (is_name w) (list_all is_name ws) names in
    let all = moved ts w ws in
    let r = topic_row n p c per xs ts w is early pair name.0 (next_new ts w ws apart) (omega (arith, few, length-append ts (w ∷ ws))) in
    let more = topics_back ws r.after r.last c per xs (ts ++ w ∷ []) (is_after 3 n d (codes "topic" ++ row_text (w ∷ [])) c (setup_with per xs (ts ++ w ∷ []) []) r) r.early pair name.1 (subst AreDistinct (sym all) apart) (omega (arith, few, ap length all)) in
    same_reaches 3 n d (names_text (codes "topic") (w ∷ ws)) c (setup_with per xs ((ts ++ w ∷ []) ++ ws) []) (setup_with per xs (ts ++ w ∷ ws) []) (ap (λ (ys : List Word). setup_with per xs ys []) all) (row_and 3 3 n d (codes "topic") (w ∷ []) (names_text (codes "topic") ws) c c (setup_with per xs (ts ++ w ∷ []) []) (setup_with per xs ((ts ++ w ∷ []) ++ ws) []) r more)

-- ---- client C T X
-- what is known of a client
pub record IsClientOf (s : Setup) (d : Declared) : Type 0 where
  pub name : is_name d.name ≡ true
  pub topic : d.topic < length s.topics
  pub cluster : d.cluster < length s.clusters
  pub lines : list_all (is_line s) d.lines ≡ true
  pub silent : stays_or_is_silent d.lines ≡ true

pub client_of : (s : Setup) (d : Declared) → is_declared s d ≡ true → IsClientOf s d
client_of s d k =
    let four = and_parts (is_name d.name && nat_lt d.topic (length s.topics) && nat_lt d.cluster (length s.clusters) && list_all (is_line s) d.lines) (stays_or_is_silent d.lines) k in
    let three = and_parts (is_name d.name && nat_lt d.topic (length s.topics) && nat_lt d.cluster (length s.clusters)) (list_all (is_line s) d.lines) four.0 in
    let two = and_parts (is_name d.name && nat_lt d.topic (length s.topics)) (nat_lt d.cluster (length s.clusters)) three.0 in
    let one = and_parts (is_name d.name) (nat_lt d.topic (length s.topics)) two.0 in
    record {
      name = one.0;
      topic = ltb-true _ _ one.1;
      cluster = ltb-true _ _ two.1;
      lines = three.1;
      silent = four.1;
    }

-- a client before its lines
abbrev pub bare : Declared → Declared
bare d = new_client d.name d.topic d.cluster

abbrev pub names_in : List Declared → List Word
names_in ds = map (λ (d : Declared). d.name) ds

abbrev pub of_topic : ℕ → List Declared → List Declared
of_topic t ds = filter (λ (d : Declared). d.topic == t) ds

room_for : (es : List Declared) (d : Declared) (more : List Declared) → length (of_topic d.topic (es ++ d ∷ more)) ≤ 32 → length (of_topic d.topic es) < 32
room_for es d more few =
    let here : of_topic d.topic (d ∷ more) ≡ d ∷ of_topic d.topic more = rw (same_topic d.topic) refl in
    omega (arith, few, ap length (filter-append (λ (e : Declared). e.topic == d.topic) es (d ∷ more)), ap length here, length-append (of_topic d.topic es) (of_topic d.topic (d ∷ more)))
  where
    same_topic : (t : ℕ) → (t == t) ≡ true
    same_topic t = eq-eqb t t refl

client_row : (n : ℕ) (p : Progress) (c : Option Chance) (per : ℕ) (xs ts : List Word) (es : List Declared) (d : Declared) → IsAt n (said p c (setup_with per xs ts es)) → rank p.last ≤ 4 → is_name d.name ≡ true → d.topic < length ts → d.cluster < length xs → is_among (names_in es) d.name ≡ false → length (of_topic d.topic es) < 32 → Reaches 4 n (said p c (setup_with per xs ts es)) (codes "client" ++ row_text (d.name ∷ name_at ts d.topic ∷ name_at xs d.cluster ∷ [])) c (setup_with per xs ts (es ++ bare d ∷ []))
client_row n p c per xs ts es d is early name topic cluster new few =
    let s = setup_with per xs ts es in
    let ws : List Word = d.name ∷ name_at ts d.topic ∷ name_at xs d.cluster ∷ [] in
    let vs : List Value = value.Name d.name ∷ value.Item d.topic ∷ value.Item d.cluster ∷ [] in
    let counted : count_of (names_of s) d.topic < 32 = omega (arith, few, topics_counted d.topic es) in
    let topics = is.kept.topics.names in
    let fits : AreFit (names_of s) nothing_seen (columns_of (kind.Other row.Client)) vs = (omega arith, (name, client_new (names_of s) nothing_seen d.name name new), (omega arith, (topic, home_ok (names_of s) nothing_seen d.topic topics topic counted), (omega arith, cluster, refl))) in
    let some : 0 < n = omega (arith, is.kept.clients.few) in
    let plain : are_plain ws ≡ true = more_plain d.name (name_at ts d.topic ∷ name_at xs d.cluster ∷ []) (name_plain d.name name) (more_plain (name_at ts d.topic) (name_at xs d.cluster ∷ []) (name_plain (name_at ts d.topic) (is_name_at ts d.topic topics topic)) (one_plain (name_at xs d.cluster) (name_plain (name_at xs d.cluster) (is_name_at xs d.cluster is.kept.clusters.names cluster)))) in
    plain_row 4 n (said p c s) (codes "client") ws (kind.Other row.Client) ws vs is refl plain (_, _, refl, refl) refl refl refl fits early refl refl (client_kept n (said p c s) (names_of s).subs vs fits early some is.kept) (omega arith)

pub clients_back : (ds : List Declared) (n : ℕ) (p : Progress) (c : Option Chance) (s : Setup) (es : List Declared) → IsAt n (said p c (setup_with s.per_ledger s.clusters s.topics es)) → rank p.last ≤ 4 → list_all (is_declared s) ds ≡ true → AreDistinct (names_in es ++ names_in ds) → ((t : ℕ) → length (of_topic t (es ++ map bare ds)) ≤ 32) → Reaches 4 n (said p c (setup_with s.per_ledger s.clusters s.topics es)) (clients_text s.clusters s.topics ds) c (setup_with s.per_ledger s.clusters s.topics (es ++ map bare ds))
clients_back [] n p c s es is early known apart few =
    let d = said p c (setup_with s.per_ledger s.clusters s.topics es) in
    same_reaches 4 n d [] c (setup_with s.per_ledger s.clusters s.topics es) (setup_with s.per_ledger s.clusters s.topics (es ++ [])) (ap (λ (fs : List Declared). setup_with s.per_ledger s.clusters s.topics fs) (sym (append-nil es))) (stands 4 n d is early)
clients_back (e ∷ ds) n p c s es is early known apart few =
    let d = said p c (setup_with s.per_ledger s.clusters s.topics es) in
    let ws : List Word = e.name ∷ name_at s.topics e.topic ∷ name_at s.clusters e.cluster ∷ [] in
    let parts = and_parts (is_declared s e) (list_all (is_declared s) ds) known in
    let k = client_of s e parts.0 in
    let all = moved es (bare e) (map bare ds) in
    let named : names_in (es ++ bare e ∷ []) ≡ names_in es ++ e.name ∷ [] = map-append (λ (f : Declared). f.name) es (bare e ∷ []) in
    let r = client_row n p c s.per_ledger s.clusters s.topics es e is early k.name k.topic k.cluster (next_new (names_in es) e.name (names_in ds) apart) (room_for es (bare e) (map bare ds) (few e.topic)) in
    let more = clients_back ds r.after r.last c s (es ++ bare e ∷ []) (is_after 4 n d (codes "client" ++ row_text ws) c (setup_with s.per_ledger s.clusters s.topics (es ++ bare e ∷ [])) r) r.early parts.1 (subst AreDistinct (sym (ap (λ (us : List Word). us ++ names_in ds) named ∙ moved (names_in es) e.name (names_in ds))) apart) (λ t. subst (λ (fs : List Declared). length (of_topic t fs) ≤ 32) (sym all) (few t)) in
    same_reaches 4 n d (clients_text s.clusters s.topics (e ∷ ds)) c (setup_with s.per_ledger s.clusters s.topics ((es ++ bare e ∷ []) ++ map bare ds)) (setup_with s.per_ledger s.clusters s.topics (es ++ bare e ∷ map bare ds)) (ap (λ (fs : List Declared). setup_with s.per_ledger s.clusters s.topics fs) all) (row_and 4 4 n d (codes "client") ws (clients_text s.clusters s.topics ds) c c (setup_with s.per_ledger s.clusters s.topics (es ++ bare e ∷ [])) (setup_with s.per_ledger s.clusters s.topics ((es ++ bare e ∷ []) ++ map bare ds)) r more)
