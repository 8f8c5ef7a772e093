-- What a line of an observation says after the head, where it has a form (own).
use Rattle.std.specs.Prelude.{ℕ, Bool, ◌||◌, if◌then◌else◌, List, [], ◌∷◌, Option, Some, None, codes}
use Rattle.std.specs.Str.{bytes_eq}
use Rattle.geo_base.specs.declared.entry.Ident.{Ident}
use Rattle.script_rows.specs.NameWords.{Word}
use Rattle.script_rows.specs.Words.{◌>>=◌, words_of}
use Rattle.trace_lines.specs.Names.{DeclaredNames}
use Rattle.trace_lines.specs.Lines.{entry_of}
use Rattle.trace_lines.specs.Ranges.{ranges_of}
use Rattle.trace_lines.specs.Words.{declared, number, position_of, sub_of, text_of}
use Rattle.observed_text.specs.declared.line.Line.{Line}
use Rattle.observed_text.specs.declared.line.Line.TheVariants as line
use Rattle.observed_text.specs.declared.line.Logged.{Logged}
use Rattle.observed_text.specs.declared.line.Logged.TheVariants as logged
use Rattle.observed_text.specs.declared.line.Read.{Read}
use Rattle.observed_text.specs.declared.line.Read.TheVariants as read

-- a message by its cluster, its producer and its sequence id
abbrev pub ident_of : List Word → Word → Word → Word → Option Ident
ident_of clusters o n q = do
  origin ← declared clusters o
  seq ← number q
  producer ← text_of n
  Some (record { origin = origin; producer = producer; seq = seq })

-- ---- what was read of a topic at a cluster

abbrev pub entry_said : List Word → List Word → Option Read
entry_said clusters ws = do
  placed ← entry_of clusters ws
  Some (read.Entry placed.0 placed.1)

abbrev pub cursor_said : List Word → Option Read
cursor_said (n ∷ r ∷ []) = do
  ranges ← ranges_of r
  sub ← sub_of n
  Some (read.Cursor sub ranges)
cursor_said ws = None

abbrev pub brought_said : List Word → List Word → Option Read
brought_said clusters (c ∷ r ∷ []) = do
  to ← declared clusters c
  ranges ← ranges_of r
  Some (read.Brought to ranges)
brought_said clusters ws = None

abbrev pub below_said : List Word → Option Read
below_said (n ∷ i ∷ []) = do
  index ← number i
  sub ← sub_of n
  Some (read.Below sub index)
below_said ws = None

abbrev pub unsure_said : List Word → Option Read
unsure_said (n ∷ []) = do
  sub ← sub_of n
  Some (read.Unsure sub)
unsure_said ws = None

-- a line that ends here
abbrev pub alone : Read → List Word → Option Read
alone r [] = Some r
alone r (w ∷ ws) = None

-- k is the first word of the line
abbrev pub read_said : List Word → Word → List Word → Option Read
read_said clusters k ws =
    if bytes_eq k (codes "entry") then entry_said clusters ws
    else if bytes_eq k (codes "cursor") then cursor_said ws
    else if bytes_eq k (codes "brought") then brought_said clusters ws
    else if bytes_eq k (codes "below") then below_said ws
    else if bytes_eq k (codes "unsure") then unsure_said ws
    else if bytes_eq k (codes "unread") then alone read.Unread ws
    else if bytes_eq k (codes "trimmed") then alone read.Trimmed ws
    else None

abbrev pub at_cluster : DeclaredNames → Word → ℕ → List Word → Option Line
at_cluster s k t [] = None
at_cluster s k t (c ∷ ws) = do
  cluster ← declared s.clusters c
  read ← read_said s.clusters k ws
  Some (line.Reads t cluster read)

-- ---- what is logged of a topic

abbrev pub done_said : List Word → List Word → Option Logged
done_said clusters (n ∷ o ∷ p ∷ q ∷ []) = do
  ident ← ident_of clusters o p q
  sub ← sub_of n
  Some (logged.Done sub ident)
done_said clusters ws = None

abbrev pub receipt_said : List Word → List Word → Option Logged
receipt_said clusters (o ∷ p ∷ q ∷ l ∷ []) = do
  ident ← ident_of clusters o p q
  position ← position_of l
  Some (logged.Receipt ident position)
receipt_said clusters ws = None

abbrev pub is_logged : Word → Bool
is_logged k = bytes_eq k (codes "done") || bytes_eq k (codes "receipt")

abbrev pub logged_said : List Word → Word → List Word → Option Logged
logged_said clusters k ws = if bytes_eq k (codes "done") then done_said clusters ws else receipt_said clusters ws

abbrev pub in_logs : DeclaredNames → Word → ℕ → List Word → Option Line
in_logs s k t ws = do
  logged ← logged_said s.clusters k ws
  Some (line.Logs t logged)

-- ---- a line

abbrev pub of_topic : DeclaredNames → Word → ℕ → List Word → Option Line
of_topic s k t ws = if is_logged k then in_logs s k t ws else at_cluster s k t ws

abbrev pub line_of : DeclaredNames → List Word → Option Line
line_of s (k ∷ t ∷ ws) = do
  topic ← declared s.topics t
  of_topic s k topic ws
line_of s ws = None

unfoldable pub line_said : DeclaredNames → List ℕ → Option Line
line_said s bytes = line_of s (words_of bytes)
