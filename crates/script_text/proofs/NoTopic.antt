-- A topic that is not declared has no subscription.
use Rattle.std.proofs.Common.{◌≡◌, ℕ, ◌<◌, ◌≤◌, ◌==◌, true, ◌&&◌, nat_lt, List, [], ◌∷◌, length, fold, arith, refl, ap, ◌∙◌}
use Rattle.std.specs.List.{list_all}
use Rattle.std.proofs.lemmas.Bool.{and_parts, cond_both, eqb-true, ltb-true}
use Rattle.geo_base.specs.Name.{is_name}
use Rattle.geo_base.specs.Scripted.{is_declared, is_line, stays_or_is_silent}
use Rattle.geo_base.specs.Setup.{Declared, Setup, sub_names, with_client, with_line}
use Rattle.script_rows.specs.NameWords.{Word}
pub use Rattle.geo_base.proofs.Lists.{get_none_past as past_none}

topic_declared : (s : Setup) (d : Declared) → is_declared s d ≡ true → d.topic < length s.topics
topic_declared s d k =
    let four = and_parts (is_name d.name && nat_lt d.topic (length s.topics) && nat_lt d.cluster (length s.clusters) && list_all (is_line s) d.lines) (stays_or_is_silent d.lines) k in
    let three = and_parts (is_name d.name && nat_lt d.topic (length s.topics) && nat_lt d.cluster (length s.clusters)) (list_all (is_line s) d.lines) four.0 in
    let two = and_parts (is_name d.name && nat_lt d.topic (length s.topics)) (nat_lt d.cluster (length s.clusters)) three.0 in
    ltb-true _ _ (and_parts (is_name d.name) (nat_lt d.topic (length s.topics)) two.0).1

none_added : (s : Setup) (t : ℕ) (names : List Word) (ds : List Declared) → length s.topics ≤ t → list_all (is_declared s) ds ≡ true → fold (with_client t) names ds ≡ names
none_added s t names [] past all = refl
none_added s t names (d ∷ ds) past all =
    let parts = and_parts (is_declared s d) (list_all (is_declared s) ds) all in
    let same : with_client t names d ≡ names = cond_both (d.topic == t) (fold with_line names d.lines) names (λ (ns : List Word). ns ≡ names) (λ here. absurd (omega (arith, eqb-true _ _ here, topic_declared s d parts.0))) (λ _. refl) in
    ap (λ (ns : List Word). fold (with_client t) ns ds) same ∙ none_added s t names ds past parts.1

pub none_past : (s : Setup) (t : ℕ) → length s.topics ≤ t → list_all (is_declared s) s.clients ≡ true → sub_names s t ≡ []
none_past s t past all = none_added s t [] s.clients past all
