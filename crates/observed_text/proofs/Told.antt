-- One line more is read, or refused.
use Rattle.std.proofs.Common.{◌≡◌, ℕ, ◌+◌, ◌<◌, Bool, List, [], ◌∷◌, length, refl, sym, ap, ◌∙◌, arith}
use Rattle.std.specs.Prelude.{Option, Some, None, Result, Err}
use Rattle.observed_text.proofs.Pieces.{some_piece}
use Rattle.audit.specs.AuditOf.{names_of}
use Rattle.geo_base.specs.Setup.{Setup}
use Rattle.observation.specs.Observed.{Observation}
use Rattle.script_rows.specs.NameWords.{Word, cut_by}
use Rattle.script_text.specs.Script.{Fault}
use Rattle.observed_text.specs.Lines.{line_said}
use Rattle.observed_text.specs.Observing.{SoFar, all_observed, headed, lines_observed, nothing_told, read_observation, refused, taken, unless_refused}
use Rattle.observed_text.specs.Starts.{head_of}

line_read : (s : Setup) (r : SoFar) (n : ℕ) (l : Word) (ls : List Word) → 0 < length ls
    → lines_observed s r n (l ∷ ls) ≡ unless_refused n (refused s r (line_said (names_of s) l)) (lines_observed s (taken s r (line_said (names_of s) l)) (n + 1) ls)
line_read s r n l [] some = absurd (omega (arith, some))
line_read s r n l (m ∷ ls) some = refl

pub line_goes_on : (s : Setup) (r q : SoFar) (n : ℕ) (l bytes behind : List ℕ) → cut_by 10 bytes ≡ l ∷ cut_by 10 behind → refused s r (line_said (names_of s) l) ≡ None
    → q ≡ taken s r (line_said (names_of s) l) → lines_observed s q (n + 1) (cut_by 10 behind) ≡ lines_observed s r n (cut_by 10 bytes)
line_goes_on s r q n l bytes behind cut none is =
    ap (λ (p : SoFar). lines_observed s p (n + 1) (cut_by 10 behind)) is
    ∙ sym (ap (lines_observed s r n) cut ∙ (line_read s r n l (cut_by 10 behind) (some_piece 10 behind)
    ∙ ap (λ (o : Option ℕ). unless_refused n o (lines_observed s (taken s r (line_said (names_of s) l)) (n + 1) (cut_by 10 behind))) none))

abbrev pub at_line : ℕ → ℕ → Result Observation Fault
at_line n rule = Err (record { line = n; rule = rule })

pub line_ends : (s : Setup) (r : SoFar) (n : ℕ) (l bytes behind : List ℕ) (rule : ℕ) → cut_by 10 bytes ≡ l ∷ cut_by 10 behind → refused s r (line_said (names_of s) l) ≡ Some rule
    → lines_observed s r n (cut_by 10 bytes) ≡ at_line n rule
line_ends s r n l bytes behind rule cut broken =
    ap (lines_observed s r n) cut ∙ (line_read s r n l (cut_by 10 behind) (some_piece 10 behind)
    ∙ ap (λ (o : Option ℕ). unless_refused n o (lines_observed s (taken s r (line_said (names_of s) l)) (n + 1) (cut_by 10 behind))) broken)

-- all of it, by its head
pub by_head : (s : Setup) (n : ℕ) (h bytes behind : List ℕ) (o : Option Bool) → cut_by 10 bytes ≡ h ∷ cut_by 10 behind → o ≡ head_of h
    → all_observed s n (cut_by 10 bytes) ≡ headed s n o (cut_by 10 behind)
by_head s n h bytes behind o cut is = ap (all_observed s n) cut ∙ (by (cut_by 10 behind) (some_piece 10 behind) ∙ ap (λ (q : Option Bool). headed s n q (cut_by 10 behind)) (sym is))
  where
    by : (ls : List Word) → 0 < length ls → all_observed s n (h ∷ ls) ≡ headed s n (head_of h) ls
    by [] some = absurd (omega (arith, some))
    by (l ∷ ls) some = refl

-- and what the bytes say, by theirs
pub bytes_read : (s : Setup) (n : ℕ) (h bytes behind : List ℕ) (quiet : Bool) → cut_by 10 bytes ≡ h ∷ cut_by 10 behind → Some quiet ≡ head_of h
    → read_observation s n bytes ≡ lines_observed s (nothing_told s quiet) (n + 1) (cut_by 10 behind)
unfolding read_observation
bytes_read s n h bytes behind quiet cut is = by_head s n h bytes behind (Some quiet) cut is
