-- Reading a state, item by item, up to the first one that breaks a rule.
use Rattle.std.specs.Prelude.{◌≡◌, ℕ, ◌-◌, ◌*◌, ◌%◌, ◌==◌, nat_lt, if◌then◌else◌, List, [], length, take, drop, Option, Some, None, Result, Ok, Err}
use Rattle.std.specs.Str.{bytes_eq}
use Rattle.geo_base.specs.Broker.{Broker}
use Rattle.geo_base.specs.Client.{Client}
use Rattle.geo_base.specs.Setup.{Setup, declared_at}
use Rattle.script_text.specs.Canonical.{declarations_text}
use Rattle.script_text.specs.Rules.{script_of}
use Rattle.script_text.specs.Script.{Fault, Script}
use Rattle.state_nodes.specs.Clients.{client_at}
use Rattle.state_items.specs.declared.rule.Rule.TheVariants as rule
use Rattle.state_items.specs.Reading.{◌>>=◌, Answer, Read, broken, judge, many, number_at, word_at}
use Rattle.state_items.specs.Telling.{Many, Then}
use Rattle.state_file.specs.State.{SavedState}
use Rattle.state_file.specs.Texts.{magic}
use Rattle.state_nodes.specs.declared.counts.Counts.{Counts}
use Rattle.state_nodes.specs.Counts.{counts_at}
use Rattle.state_nodes.specs.Nodes.{IsNode}

-- the first eight bytes, and the version after them
unfoldable pub magic_at : List ℕ → Read (List ℕ)
magic_at bytes =
    if nat_lt (length bytes) 8 then Err (broken bytes rule.Whole)
    else (judge (bytes_eq (take 8 bytes) magic) bytes rule.Magic >>= λ same. Ok (take 8 bytes, drop 8 bytes))

unfoldable pub version_at : List ℕ → Read ℕ
version_at bytes = do
  front ← magic_at bytes
  word_at front.1

-- ---- the declarations

-- a text that is canonical: that of the script that it says
abbrev pub canonical : List ℕ → Result Script Fault → Option Script
canonical text (Ok s) = if bytes_eq (declarations_text s.setup s.chance) text then Some s else None
canonical text (Err f) = None

abbrev pub scripted : List ℕ → List ℕ → Option Script → Read Script
scripted item rest None = Err (broken item rule.Declarations)
scripted item rest (Some s) = Ok (s, rest)

-- the bytes of the declarations are an item of their own, after their length
abbrev pub so_many : ℕ → List ℕ → Read Script
so_many n bytes =
    if nat_lt (length bytes) n then Err (broken bytes rule.Whole)
    else scripted bytes (drop n bytes) (canonical (take n bytes) (script_of (take n bytes)))

unfoldable pub declarations_at : List ℕ → Read Script
declarations_at bytes = do
  n ← number_at bytes
  so_many n.0 n.1

-- what stands before the brokers
unfoldable pub head_at : List ℕ → Read (Script × Counts)
head_at bytes = do
  script ← declarations_at bytes
  counts ← counts_at script.1
  Ok ((script.0, counts.0), counts.1)

-- ---- brokers and clients

-- a broker after others: its number is how many they are
abbrev pub IsNodeBehind : ℕ → Setup → List Broker → List ℕ → Read Broker → Type 0
IsNodeBehind version s before bytes answer = IsNode version s.per_ledger s.clusters (length before % length s.clusters) bytes answer

abbrev pub AreNodes : ℕ → Setup → List ℕ → Read (List Broker) → Type 0
AreNodes version s bytes answer = Many (IsNodeBehind version s) (length s.topics * length s.clusters) [] bytes answer

abbrev pub client_behind : Setup → List Client → List ℕ → Read Client
client_behind s before bytes = client_at (length s.clusters) (declared_at s (length before)).lines bytes

-- what stands after the brokers of a body of size bytes, of which whole are there: nothing after the last client
unfoldable pub tail_at : ℕ → ℕ → Script → Counts → List Broker → List ℕ → Answer SavedState
tail_at size whole script counts brokers bytes = do
  clients ← many (client_behind script.setup) (length script.setup.clients) [] bytes
  ended ← judge ((whole - length clients.1) == size) clients.1 rule.End
  Ok (record { scenario = script; counts = counts; brokers = brokers; clients = clients.0 })

-- the body of a file of a version: size bytes, as many of them as there are
abbrev pub IsBody : ℕ → ℕ → List ℕ → Answer SavedState → Type 0
IsBody version size body answer =
    Then (λ r. r ≡ head_at body)
    (λ h r. Then (AreNodes version h.0.0.setup h.1) (λ ns q. q ≡ tail_at size (length body) h.0.0 h.0.1 ns.0 ns.1) r)
    answer
