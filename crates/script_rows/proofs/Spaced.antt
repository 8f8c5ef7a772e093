-- Words that are written one after the other.
use Rattle.std.proofs.Common.{◌≡◌, ℕ, ◌≤◌, List, [], ◌∷◌, ◌++◌, length, drop, codes, refl, ap, ◌∙◌, sym}
use Rattle.std.specs.Fmt.{decimal}
use Rattle.std.specs.List.{join_with_byte}
use Rattle.std.proofs.lemmas.List.{append_assoc, append-nil, drop_all}
use Rattle.geo_base.specs.declared.event.Event.{Event}
use Rattle.script_rows.specs.NameWords.{Word}
use Rattle.script_rows.specs.declared.column.Column.{Column}
use Rattle.script_rows.specs.declared.value.Value.{Value}
use Rattle.script_rows.specs.Names.{Names, Seen}
use Rattle.script_rows.specs.Written.{event_words, spaced, words_in}

pub one_word : (out : List ℕ) (w : Word) (ws : List Word) → out ++ spaced (w ∷ ws) ≡ ((out ++ 32 ∷ []) ++ w) ++ spaced ws
one_word out w ws = rw (append_assoc (out ++ 32 ∷ []) w (spaced ws), append_assoc out (32 ∷ []) (w ++ spaced ws)) refl

nothing_more : (n : Names) (s : Seen) (cs : List Column) → words_in n s cs [] ≡ []
nothing_more n s [] = refl
nothing_more n s (c ∷ cs) = refl

pub all_written : (n : Names) (s : Seen) (cs : List Column) (vs : List Value) (i : ℕ) (out : List ℕ) → length vs ≤ i → out ++ spaced (words_in n s cs (drop i vs)) ≡ out
all_written n s cs vs i out past = rw (drop_all i vs past, nothing_more n s cs) (append-nil out)

-- words joined by spaces
pub joined : (w : Word) (ws : List Word) → join_with_byte 32 (w ∷ ws) ≡ w ++ spaced ws
joined w [] = sym (append-nil w)
joined w (x ∷ xs) = ap (λ (t : List ℕ). w ++ 32 ∷ t) (joined x xs)

pub word_joined : (out : List ℕ) (w : Word) (ws : List Word) → (out ++ w) ++ spaced ws ≡ out ++ join_with_byte 32 (w ∷ ws)
word_joined out w ws = append_assoc out w (spaced ws) ∙ ap (λ (t : List ℕ). out ++ t) (sym (joined w ws))

-- the words of a halted event
pub halt_joined : (n : Names) (e : Event) (out : List ℕ) (k : ℕ) → (((out ++ codes "halt ") ++ decimal k) ++ codes " ") ++ join_with_byte 32 (event_words n e) ≡ out ++ join_with_byte 32 (codes "halt" ∷ decimal k ∷ event_words n e)
halt_joined n e out k =
    rw (append_assoc ((out ++ codes "halt ") ++ decimal k) (codes " ") (join_with_byte 32 (event_words n e)), append_assoc (out ++ codes "halt ") (decimal k) (codes " " ++ join_with_byte 32 (event_words n e)), append_assoc out (codes "halt ") (decimal k ++ (codes " " ++ join_with_byte 32 (event_words n e)))) refl
