-- A line of a write begins no event.
use Rattle.std.proofs.Common.{◌≡◌, ◌∙◌, ℕ, Bool, false, if◌then◌else◌, List, [], ◌∷◌, Option, Some, None, ap, codes, sym}
use Rattle.std.specs.Str.{bytes_eq}
use Rattle.geo_base.specs.TraceItems.{Act, Begins, Item, Writes}
use Rattle.script_rows.specs.NameWords.{Word}
use Rattle.script_rows.specs.Words.{◌>>=◌, words_of}
use Rattle.trace_lines.specs.Lines.{act_of, event_of, item_of, item_read, write_of}
use Rattle.trace_lines.specs.Names.{DeclaredNames}
use Rattle.trace_lines.specs.Words.{declared}

-- an item that begins no event, where there is one
abbrev BeginsNone : Option Item → Type 0
BeginsNone item = (number : ℕ) → item ≡ Some (Begins number) → ⊥

nothing : BeginsNone None
nothing number is = cc

writes : (topic cluster : ℕ) (act : Act) → BeginsNone (Some (Writes topic cluster act))
writes topic cluster act number is = cc

behind : {A : Type 0} (part : Option A) (f : A → Option Item) → ((a : A) → BeginsNone (f a)) → BeginsNone (part >>= f)
behind None f none = nothing
behind (Some a) f none = none a

write_begins_none : (s : DeclaredNames) (k : Word) (ws : List Word) (number : ℕ) → write_of s k ws ≡ Some (Begins number) → ⊥
write_begins_none s k [] = nothing
write_begins_none s k (t ∷ []) = nothing
write_begins_none s k (t ∷ c ∷ ws) =
    behind (declared s.topics t) (λ (topic : ℕ). declared s.clusters c >>= λ (cluster : ℕ). act_of s.clusters cluster k ws >>= λ (act : Act). Some (Writes topic cluster act))
    (λ topic. behind (declared s.clusters c) (λ (cluster : ℕ). act_of s.clusters cluster k ws >>= λ (act : Act). Some (Writes topic cluster act))
    (λ cluster. behind (act_of s.clusters cluster k ws) (λ (act : Act). Some (Writes topic cluster act)) (writes topic cluster)))

-- a line whose first word is not that of an event begins none
pub begins_none : (s : DeclaredNames) (line : List ℕ) (k : Word) (ws : List Word) (number : ℕ) → words_of line ≡ k ∷ ws → bytes_eq k (codes "event") ≡ false → item_read s line ≡ Some (Begins number) → ⊥
unfolding item_read
begins_none s line k ws number are other is =
    write_begins_none s k ws number (sym (ap (item_of s) are ∙ ap (λ (b : Bool). if b then event_of ws else write_of s k ws) other) ∙ is)
