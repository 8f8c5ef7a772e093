-- Words in a row, some of which are groups of words.
use Rattle.std.proofs.Common.{◌≡◌, ℕ, ◌<◌, List, [], ◌∷◌, ◌++◌, length, map, refl, sym, ap, append_assoc, ◌∙◌, arith}
use Rattle.std.proofs.lemmas.List.{append-nil}
use Rattle.std.specs.Prelude.{codes, decimal, slice_index_or}
use Rattle.geo_base.specs.declared.entry.Content.{Content}
use Rattle.geo_base.specs.declared.entry.Content.TheVariants as content
use Rattle.geo_base.specs.declared.entry.Entry.{Entry}
use Rattle.geo_base.specs.declared.marker.ClusterPosition.{ClusterPosition}
use Rattle.geo_base.specs.declared.marker.Marker.{Marker}
use Rattle.geo_base.specs.declared.marker.Marker.TheVariants as marker
use Rattle.geo_base.specs.declared.position.Position.{Position}
use Rattle.geo_base.specs.Report.{entry_line, printed, shown_cluster_position, shown_content, shown_ident, shown_marker, shown_position, shown_targets, words}
use Rattle.report_lines.specs.Entries.{entry_words}
use Rattle.report_lines.specs.Spaced.{spaced}

-- words, the first of which stands and each other one after a space
pub words_spaced : (w : List ℕ) (ws : List (List ℕ)) → words (w ∷ ws) ≡ w ++ spaced ws
words_spaced w [] = sym (append-nil w)
words_spaced w (v ∷ ws) = ap (λ (t : List ℕ). w ++ (32 ∷ t)) (words_spaced v ws)

-- a word before some others
words_more : (w : List ℕ) (ws : List (List ℕ)) → 0 < length ws → words (w ∷ ws) ≡ w ++ (32 ∷ words ws)
words_more w [] some = absurd (omega (arith, some))
words_more w (v ∷ ws) some = refl

marker_some : (names : List (List ℕ)) (m : Marker) → 0 < length (shown_marker names m)
marker_some names (marker.Request id source) = omega arith
marker_some names (marker.Response id answer) = omega arith
marker_some names (marker.Snapshot id local remote) = omega arith
marker_some names (marker.Update n remote) = omega arith

content_some : (names : List (List ℕ)) (e : Entry) (c : Content) → 0 < length (shown_content names e c)
content_some names e content.Data = omega arith
content_some names e (content.Marked m) = marker_some names m
content_some names e (content.Unread kind) = omega arith

-- six words, the second to the fourth in a group of their own; s separates
regrouped : (place origin producer seq to what s : List ℕ)
    → place ++ (s ++ ((origin ++ (s ++ (producer ++ (s ++ seq)))) ++ (s ++ (to ++ (s ++ what)))))
    ≡ place ++ (s ++ (origin ++ (s ++ (producer ++ (s ++ (seq ++ (s ++ (to ++ (s ++ what)))))))))
regrouped place origin producer seq to what s = simp append_assoc

words_are : (names : List (List ℕ)) (p : Position) (e : Entry)
    → shown_position p ++ (32 ∷ (words (shown_ident names e.ident) ++ (32 ∷ (shown_targets names e.to ++ (32 ∷ words (shown_content names e e.content))))))
    ≡ words (entry_words names p e)
words_are names p e =
    let what = shown_content names e e.content in let to = shown_targets names e.to in
    rw (words_more to what (content_some names e e.content))
    (regrouped (shown_position p) (slice_index_or names e.ident.origin []) (printed e.ident.producer) (decimal e.ident.seq) to (words what) (32 ∷ []))

-- seven parts after what stands there
joined : (old a b c d e f g : List ℕ) → ((((((old ++ a) ++ b) ++ c) ++ d) ++ e) ++ f) ++ g ≡ old ++ (a ++ (b ++ (c ++ (d ++ (e ++ (f ++ g))))))
joined old a b c d e f g = simp append_assoc

pub words_whole : (names : List (List ℕ)) (p : Position) (e : Entry) (old place two ident four to six what : List ℕ)
    → place ≡ old ++ shown_position p → two ≡ place ++ 32 ∷ [] → ident ≡ two ++ words (shown_ident names e.ident)
    → four ≡ ident ++ 32 ∷ [] → to ≡ four ++ shown_targets names e.to → six ≡ to ++ 32 ∷ [] → what ≡ six ++ words (shown_content names e e.content)
    → what ≡ old ++ words (entry_words names p e)
words_whole names p e old place two ident four to six what e1 e2 e3 e4 e5 e6 e7 =
    rw (e7, e6, e5, e4, e3, e2, e1)
    (joined old (shown_position p) (32 ∷ []) (words (shown_ident names e.ident)) (32 ∷ []) (shown_targets names e.to) (32 ∷ []) (words (shown_content names e e.content))
    ∙ ap (λ (text : List ℕ). old ++ text) (words_are names p e))

-- and the line
pub line_whole : (names : List (List ℕ)) (p : Position) (e : Entry) (old first what all : List ℕ)
    → first ≡ old ++ codes "entry " → what ≡ first ++ words (entry_words names p e) → all ≡ what ++ 10 ∷ [] → all ≡ old ++ (entry_line names p e ++ 10 ∷ [])
line_whole names p e old first what all e1 e2 e3 = rw (e3, e2, e1) (simp append_assoc)

-- a snapshot, and an update
pub snapshot_whole : (names : List (List ℕ)) (id : List ℕ) (local : Position) (remote : List ClusterPosition) (old text with : List ℕ)
    → text ≡ old ++ (codes "snapshot" ++ (32 ∷ (printed id ++ (32 ∷ shown_position local)))) → with ≡ text ++ spaced (map (shown_cluster_position names) remote)
    → with ≡ old ++ words (shown_marker names (marker.Snapshot id local remote))
snapshot_whole names id local remote old text with is added =
    let rest = map (shown_cluster_position names) remote in
    rw (added, is, words_spaced (shown_position local) rest) (simp append_assoc)

pub update_whole : (names : List (List ℕ)) (sub : List ℕ) (remote : List ClusterPosition) (old text with : List ℕ)
    → text ≡ old ++ (codes "update" ++ (32 ∷ printed sub)) → with ≡ text ++ spaced (map (shown_cluster_position names) remote)
    → with ≡ old ++ words (shown_marker names (marker.Update sub remote))
update_whole names sub remote old text with is added =
    let rest = map (shown_cluster_position names) remote in
    rw (added, is, words_spaced (printed sub) rest) (simp append_assoc)
