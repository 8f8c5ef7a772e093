-- What is declared is written so that it reads back.
use Rattle.std.proofs.Common.{◌≡◌, ℕ, ◌<◌, ◌≤◌, ◌==◌, Bool, true, false, List, [], ◌∷◌, ◌++◌, append_assoc, length, map, Option, None, Result, Ok, Err, IfOk, codes, arith, refl, sym, ap, ◌∙◌, subst}
use Rattle.std.proofs.lemmas.Bool.{ne_eqb}
use Rattle.std.proofs.lemmas.List.{append-nil}
use Rattle.geo_base.specs.Setup.{Declared, Setup}
use Rattle.script_text.specs.declared.chance.Chance.{Chance}
use Rattle.script_text.specs.Canonical.{all_lines_text, chance_text, clients_text, declarations_text, declared_alone, ledger_text, names_text}
use Rattle.script_text.specs.Drafts.{so_far}
use Rattle.script_text.specs.Kept.{IsKept}
use Rattle.script_text.specs.Lines.{lines_of}
use Rattle.script_text.specs.Rules.{script_from, script_of}
use Rattle.script_text.specs.Scenario.{IsScenario}
use Rattle.script_text.specs.Script.{Script, setup_with}
use Rattle.script_rows.specs.declared.progress.Progress.{Progress}
use Rattle.script_text.proofs.DeclaredBack.{bare, chance_back, clients_back, clusters_back, head_goes, headed, ledger_back, of_topic, topics_back}
use Rattle.script_text.proofs.LinesBack.{all_lines_back}
use Rattle.script_text.proofs.RowsBack.{is_after, said}

-- a client has its topic before its lines
bare_topics : (t : ℕ) (ds : List Declared) → length (of_topic t (map bare ds)) ≡ length (of_topic t ds)
bare_topics t [] = refl
bare_topics t (d ∷ ds) = by (d.topic == t) refl (bare_topics t ds)
  where
    by : (b : Bool) → (d.topic == t) ≡ b → length (of_topic t (map bare ds)) ≡ length (of_topic t ds) → length (of_topic t (map bare (d ∷ ds))) ≡ length (of_topic t (d ∷ ds))
    by true here same = rw here (omega (arith, same))
    by false other same = rw other same

ended : (n : ℕ) (p : Progress) (chance : Option Chance) (s : Setup) → p.begun ≡ true → 0 < length s.topics → script_from n (so_far (said p chance s)) (lines_of []) ≡ Ok (declared_alone s chance)
ended n p chance s begun some =
    let topics : (length s.topics == 0) ≡ false = ne_eqb (length s.topics) 0 (λ none. omega (arith, none, some)) in
    rw (begun, topics) refl

-- what stands after the text is read as what is declared there meets it
pub record IsDeclaredBy (s : Script) : Type 0 where
  pub after : ℕ
  pub last : Progress
  pub reads : (more : List ℕ) → script_of (declarations_text s.setup s.chance ++ more) ≡ script_from after (so_far (said last s.chance s.setup)) (lines_of more)
  pub kept : IsKept after (said last s.chance s.setup)
  pub begun : last.begun ≡ true

then : (a b c d e f more : List ℕ) → (a ++ (b ++ (c ++ (d ++ (e ++ f))))) ++ more ≡ a ++ (b ++ (c ++ (d ++ (e ++ (f ++ more)))))
then a b c d e f more = simp append_assoc

pub declared_read : (s : Script) → IsScenario s → IsDeclaredBy s
declared_read script k =
    let s = script.setup in
    let c = script.chance in
    let per = s.per_ledger in
    let xs = s.clusters in
    let ts = s.topics in
    let a = setup_with per [] [] [] in
    let b = setup_with per xs [] [] in
    let e = setup_with per xs ts [] in
    let f = setup_with per xs ts (map bare s.clients) in
    let ledger = ledger_back per k.setup.ledger.0 k.setup.ledger.1 in
    let chances = chance_back ledger.after ledger.last a c (is_after 1 2 headed (ledger_text per) None a ledger) ledger.early k.chance in
    let clusters = clusters_back xs chances.after chances.last c per [] (is_after 1 ledger.after (said ledger.last None a) (chance_text c) c a chances) (omega (arith, chances.early)) k.setup.cluster_names.0 k.setup.cluster_names.1 k.setup.clusters.1 in
    let topics = topics_back ts clusters.after clusters.last c per xs [] (is_after 2 chances.after (said chances.last c a) (names_text (codes "cluster") xs) c b clusters) (omega (arith, clusters.early)) k.setup.clusters.0 k.setup.topic_names.0 k.setup.topic_names.1 k.setup.topics.1 in
    let clients = clients_back s.clients topics.after topics.last c s [] (is_after 3 clusters.after (said clusters.last c b) (names_text (codes "topic") ts) c e topics) (omega (arith, topics.early)) k.setup.clients.0 k.setup.clients.1 (λ t. subst (λ (m : ℕ). m ≤ 32) (sym (bare_topics t s.clients)) (k.setup.of_a_topic t).0) in
    let lines = all_lines_back s.clients clients.after clients.last c s [] k.setup refl k.setup.clients.0 k.clients (is_after 4 topics.after (said topics.last c e) (clients_text xs ts s.clients) c f clients) (omega (arith, clients.early)) in
    let last = all_lines_text xs s.clients in
    record {
      after = lines.after;
      last = lines.last;
      reads = λ more.
          let rest = last ++ more in
          let with_clients = clients_text xs ts s.clients ++ rest in
          let with_topics = names_text (codes "topic") ts ++ with_clients in
          let with_clusters = names_text (codes "cluster") xs ++ with_topics in
          ap (λ (bytes : List ℕ). script_of (codes "geo 1\n" ++ bytes)) (then (ledger_text per) (chance_text c) (names_text (codes "cluster") xs) (names_text (codes "topic") ts) (clients_text xs ts s.clients) last more) ∙ (head_goes (ledger_text per ++ (chance_text c ++ with_clusters)) ∙ (ledger.reads (chance_text c ++ with_clusters) ∙ (chances.reads with_clusters ∙ (clusters.reads with_topics ∙ (topics.reads with_clients ∙ (clients.reads rest ∙ lines.reads more))))));
      kept = lines.kept;
      begun = lines.begun;
    }

pub declarations_back : (s : Script) → IsScenario s → script_of (declarations_text s.setup s.chance) ≡ Ok (declared_alone s.setup s.chance)
declarations_back s k =
    let r = declared_read s k in
    ap script_of (sym (append-nil (declarations_text s.setup s.chance))) ∙ (r.reads [] ∙ ended r.after r.last s.chance s.setup r.begun (omega (arith, k.setup.topics.0)))

pub text_reads : (s : Script) (text : List ℕ) → IsScenario s → text ≡ declarations_text s.setup s.chance → script_of text ≡ Ok (declared_alone s.setup s.chance)
text_reads s text k is = ap script_of is ∙ declarations_back s k

-- and of whatever comes of writing it
pub written_reads : {E : Type 0} (s : Script) (r : Result (List ℕ) E) → IsScenario s → IfOk r (λ text. text ≡ declarations_text s.setup s.chance) → IfOk r (λ text. script_of text ≡ Ok (declared_alone s.setup s.chance))
written_reads s (Ok text) k is = text_reads s text k is
written_reads s (Err e) k is = tt
