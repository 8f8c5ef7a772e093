-- What was read so far, and what the rest of a line says.
use Rattle.std.proofs.Common.{◌≡◌, ◌<◌, List, [], ◌∷◌, ◌++◌, length, Option, Some, None, option_map, ap, arith, refl}
use Rattle.std.specs.List.{join_with_byte, list_all}
use Rattle.std.proofs.lemmas.List.{append_assoc}
use Rattle.std.proofs.lemmas.List.Splits.{join_with_byte-slice_split}
use Rattle.geo_base.specs.declared.entry.Content.TheVariants as content
use Rattle.geo_base.specs.declared.marker.ClusterPosition.{ClusterPosition}
use Rattle.script_rows.specs.NameWords.{Word, given}
use Rattle.script_rows.specs.Words.{◌>>=◌, words_of}
use Rattle.script_rows.proofs.WordParts.{has_parts}
use Rattle.trace_lines.specs.Words.{is_printable}
use Rattle.trace_lines.specs.declared.line.ToldPositions.{ToldPositions}
use Rattle.trace_lines.specs.declared.line.What.{What}
use Rattle.trace_lines.specs.Entries.{data_of}
use Rattle.trace_lines.specs.Words.{key_of}

-- positions in front of those of the rest
abbrev pub behind : List ClusterPosition → ToldPositions → ToldPositions
behind rs t = record { remote = rs ++ t.remote; by = t.by }

pub one_more_told : (rs : List ClusterPosition) (r : ClusterPosition) (rest : Option ToldPositions)
    → option_map (behind rs) (rest >>= λ (t : ToldPositions). Some (record { remote = r ∷ t.remote; by = t.by })) ≡ option_map (behind (rs ++ r ∷ [])) rest
one_more_told rs r None = refl
one_more_told rs r (Some t) = rw (append_assoc rs (r ∷ []) t.remote) refl

-- a message's text is all that is left of the line
abbrev pub data_with : Word → Word → Option What
data_with k text = do
  key ← key_of k
  payload ← given (list_all is_printable text) text
  Some (record { content = content.Data; key = key; payload = payload; by = None })

pub data_words : (k text : Word) → data_of (k ∷ words_of text) ≡ data_with k text
data_words k text = by (words_of text) (has_parts _ text) (join_with_byte-slice_split 32 text)
  where
    by : (ws : List Word) → 0 < length ws → join_with_byte 32 ws ≡ text → data_of (k ∷ ws) ≡ data_with k text
    by [] some whole = absurd (omega (arith, some))
    by (w ∷ ws) some whole = ap (λ (t : Word). data_with k t) whole
