-- One step of a loop that reads the parts of a word or of a line: what was read so far, and what the rest says.
use Rattle.std.proofs.Common.{◌≡◌, ℕ, true, List, [], ◌∷◌, ◌++◌, option_map, sym, ◌∙◌}
use Rattle.std.specs.Prelude.{Option, Some, nat_le}
use Rattle.std.specs.Str.{bytes_eq}
use Rattle.std.proofs.Common.{false}
use Rattle.std.specs.Prelude.{codes}
use Rattle.cursor_acks.specs.declared.range.IndexRange.{IndexRange}
use Rattle.geo_base.specs.declared.marker.ClusterPosition.{ClusterPosition}
use Rattle.script_rows.specs.NameWords.{Word, cut_by}
use Rattle.script_rows.proofs.WordParts.{one_more}
use Rattle.trace_lines.specs.declared.line.ToldPositions.{ToldPositions}
use Rattle.trace_lines.specs.Entries.{cluster_positions_of, told_positions_of}
use Rattle.trace_lines.specs.Ranges.{last_of, least_behind, range_in, ranges_from}
use Rattle.trace_lines.specs.Words.{cluster_position_of}
use Rattle.trace_lines.proofs.Apart.{last_behind}
use Rattle.trace_lines.proofs.Told.{behind, one_more_told}

pub ranges_so_far : (done new : List IndexRange) (last : Option ℕ) (parts : List Word) (w : Word) (ws : List Word) (r : IndexRange) (whole : Option (List IndexRange)) → parts ≡ w ∷ ws
    → range_in (cut_by 45 w) ≡ Some r → nat_le (least_behind last) r.first ≡ true → new ≡ done ++ r ∷ [] → option_map (λ (rs : List IndexRange). done ++ rs) (ranges_from last parts) ≡ whole
    → (option_map (λ (rs : List IndexRange). new ++ rs) (ranges_from (Some r.last) ws) ≡ whole) × (Some r.last ≡ last_of new)
ranges_so_far done new last parts w ws r whole cut reads follows pushed so_far =
    let step : option_map (λ (rs : List IndexRange). done ++ rs) (ranges_from last parts) ≡ option_map (λ (rs : List IndexRange). (done ++ r ∷ []) ++ rs) (ranges_from (Some r.last) ws) =
    rw (cut, reads, follows) (one_more done r (ranges_from (Some r.last) ws)) in
    (rw pushed (sym step ∙ so_far), rw pushed (sym (last_behind done r)))

pub positions_so_far : (clusters : List Word) (done new : List ClusterPosition) (words : List Word) (w : Word) (ws : List Word) (r : ClusterPosition) (whole : Option (List ClusterPosition))
    → words ≡ w ∷ ws → cluster_position_of clusters w ≡ Some r → new ≡ done ++ r ∷ []
    → option_map (λ (rs : List ClusterPosition). done ++ rs) (cluster_positions_of clusters words) ≡ whole
    → option_map (λ (rs : List ClusterPosition). new ++ rs) (cluster_positions_of clusters ws) ≡ whole
positions_so_far clusters done new words w ws r whole cut reads pushed so_far =
    let step : option_map (λ (rs : List ClusterPosition). done ++ rs) (cluster_positions_of clusters words) ≡ option_map (λ (rs : List ClusterPosition). (done ++ r ∷ []) ++ rs) (cluster_positions_of clusters ws) =
    rw (cut, reads) (one_more done r (cluster_positions_of clusters ws)) in
    rw pushed (sym step ∙ so_far)

pub told_so_far : (clusters : List Word) (done new : List ClusterPosition) (words : List Word) (w : Word) (ws : List Word) (r : ClusterPosition) (whole : Option ToldPositions)
    → words ≡ w ∷ ws → bytes_eq w (codes "by") ≡ false → cluster_position_of clusters w ≡ Some r → new ≡ done ++ r ∷ []
    → option_map (behind done) (told_positions_of clusters words) ≡ whole → option_map (behind new) (told_positions_of clusters ws) ≡ whole
told_so_far clusters done new words w ws r whole cut other reads pushed so_far =
    let step : option_map (behind done) (told_positions_of clusters words) ≡ option_map (behind (done ++ r ∷ [])) (told_positions_of clusters ws) =
    rw (cut, other, reads) (one_more_told done r (told_positions_of clusters ws)) in
    rw pushed (sym step ∙ so_far)
