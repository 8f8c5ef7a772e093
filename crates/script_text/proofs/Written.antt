-- Words and lines that are written one after the other.
use Rattle.std.proofs.Common.{◌≡◌, ℕ, List, [], ◌∷◌, ◌++◌, codes, sym, ap, ◌∙◌}
use Rattle.std.proofs.lemmas.List.{append_assoc, append-nil}
use Rattle.geo_base.specs.declared.client.Line.{Line}
use Rattle.geo_base.specs.Setup.{Declared}
use Rattle.script_rows.specs.NameBytes.{name_at}
use Rattle.script_rows.specs.NameWords.{Word}
use Rattle.script_rows.specs.Written.{spaced}
use Rattle.script_text.specs.Canonical.{all_lines_text, clients_text, line_words, lines_text, names_text, pushed, row_text}

pub pushed_is : (out : List ℕ) (ws : List Word) → pushed out ws ≡ out ++ spaced ws
pushed_is out [] = sym (append-nil out)
pushed_is out (w ∷ ws) = pushed_is (out ++ 32 ∷ w) ws ∙ append_assoc out (32 ∷ w) (spaced ws)

-- a line with its first word and its line feed
pub row_is : (out head : List ℕ) (ws : List Word) → pushed (out ++ head) ws ++ 10 ∷ [] ≡ out ++ (head ++ row_text ws)
row_is out head ws =
    ap (λ (t : List ℕ). t ++ 10 ∷ []) (pushed_is (out ++ head) ws) ∙ (append_assoc (out ++ head) (spaced ws) (10 ∷ []) ∙ append_assoc out head (row_text ws))

-- and what is written after it
row_then : (out head : List ℕ) (ws : List Word) (more : List ℕ) → (pushed (out ++ head) ws ++ 10 ∷ []) ++ more ≡ out ++ (head ++ (row_text ws ++ more))
row_then out head ws more =
    ap (λ (t : List ℕ). t ++ more) (row_is out head ws) ∙ (append_assoc out (head ++ row_text ws) more ∙ ap (λ (t : List ℕ). out ++ t) (append_assoc head (row_text ws) more))

pub name_then : (out head : List ℕ) (w : Word) (ws : List Word) → (pushed (out ++ head) (w ∷ []) ++ 10 ∷ []) ++ names_text head ws ≡ out ++ names_text head (w ∷ ws)
name_then out head w ws = row_then out head (w ∷ []) (names_text head ws)

pub client_then : (out : List ℕ) (clusters topics : List Word) (d : Declared) (ds : List Declared) → (pushed (out ++ codes "client") (d.name ∷ name_at topics d.topic ∷ name_at clusters d.cluster ∷ []) ++ 10 ∷ []) ++ clients_text clusters topics ds ≡ out ++ clients_text clusters topics (d ∷ ds)
client_then out clusters topics d ds =
    row_then out (codes "client") (d.name ∷ name_at topics d.topic ∷ name_at clusters d.cluster ∷ []) (clients_text clusters topics ds)

pub line_then : (out : List ℕ) (clusters : List Word) (client : Word) (l : Line) (ls : List Line) → (pushed (out ++ codes "do") (client ∷ line_words clusters l) ++ 10 ∷ []) ++ lines_text clusters client ls ≡ out ++ lines_text clusters client (l ∷ ls)
line_then out clusters client l ls =
    row_then out (codes "do") (client ∷ line_words clusters l) (lines_text clusters client ls)

pub lines_then : (out : List ℕ) (clusters : List Word) (d : Declared) (ds : List Declared) → (out ++ lines_text clusters d.name d.lines) ++ all_lines_text clusters ds ≡ out ++ all_lines_text clusters (d ∷ ds)
lines_then out clusters d ds = append_assoc out (lines_text clusters d.name d.lines) (all_lines_text clusters ds)

pub nothing : (out : List ℕ) → out ≡ out ++ []
nothing out = sym (append-nil out)

-- all parts, one after the other
pub all_written : (a b c d e f g : List ℕ) → (((((a ++ b) ++ c) ++ d) ++ e) ++ f) ++ g ≡ a ++ (b ++ (c ++ (d ++ (e ++ (f ++ g)))))
all_written a b c d e f g =
    append_assoc ((((a ++ b) ++ c) ++ d) ++ e) f g ∙ (append_assoc (((a ++ b) ++ c) ++ d) e (f ++ g) ∙ (append_assoc ((a ++ b) ++ c) d (e ++ (f ++ g)) ∙ (append_assoc (a ++ b) c (d ++ (e ++ (f ++ g))) ∙ append_assoc a b (c ++ (d ++ (e ++ (f ++ g)))))))
