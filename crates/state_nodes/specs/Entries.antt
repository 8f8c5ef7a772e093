-- The entries of a topic at a cluster. Names are those of the clusters, by their numbers; own is the cluster's number.
use Rattle.std.specs.Prelude.{◌≡◌, ℕ, ◌==◌, nat_le, Bool, true, ◌&&◌, if◌then◌else◌, List, [], Option, Some, None, Ok, Err}
use Rattle.std.specs.Str.{bytes_eq}
use Rattle.geo_base.specs.declared.entry.Entry.{Entry}
use Rattle.geo_base.specs.declared.entry.Ident.{Ident}
use Rattle.geo_base.specs.Entry.{marker_producer}
use Rattle.geo_base.specs.Sizes.{entry_size, most_entry_size}
use Rattle.geo_base.specs.Topic.{accepts, next_marker}
use Rattle.state_items.specs.Origins.{origin_of}
use Rattle.state_items.specs.Stored.{IsStored}
use Rattle.message_meta.specs.Metadata.{IsMetaText, Metadata}
use Rattle.state_nodes.specs.declared.heading.Heading.{Heading}
use Rattle.state_items.specs.declared.rule.Rule.TheVariants as rule
use Rattle.state_items.specs.Reading.{◌>>=◌, Answer, Read, broken, judge, text_at}
use Rattle.state_items.specs.Telling.{Many, Then}

-- What bytes say as metadata, where they say anything.
pub data Says (bytes : List ℕ) : Option Metadata → Type 0 where
  something : (m : Metadata) → IsMetaText bytes m → Says bytes (Some m)
  nothing : ((m : Metadata) → IsMetaText bytes m → ⊥) → Says bytes None

abbrev pub ident_of : Heading → Ident
ident_of h = record { origin = h.origin; producer = h.meta.producer; seq = h.meta.seq }

-- the own markers of a cluster are numbered 0, 1, 2 and so on (own)
abbrev pub is_in_turn : ℕ → List Entry → Ident → Bool
is_in_turn own before i =
    if (i.origin == own) && bytes_eq i.producer marker_producer then i.seq == next_marker own before else true

abbrev pub is_next : ℕ → List Entry → Ident → Bool
is_next own before i = accepts before i && is_in_turn own before i

-- the item at the front of the bytes is the metadata's text; no origin is a name that no cluster has
abbrev pub with_origin : ℕ → List Entry → List ℕ → Metadata → Option ℕ → Answer Heading
with_origin own before item m None = Err (broken item rule.Entry)
with_origin own before item m (Some x) =
    judge (is_next own before (ident_of (record { meta = m; origin = x }))) item rule.Identity >>= λ new. Ok (record { meta = m; origin = x })

abbrev pub headed : List (List ℕ) → ℕ → List Entry → List ℕ → Option Metadata → Answer Heading
headed names own before item None = Err (broken item rule.Entry)
headed names own before item (Some m) = with_origin own before item m (origin_of names own m.replicated_from)

-- what the text of metadata is an answer of
pub record IsHeading (names : List (List ℕ)) (own : ℕ) (before : List Entry) (item bytes : List ℕ) (answer : Answer Heading) : Type 0 where
  pub said : Option Metadata
  pub says : Says bytes said
  pub is : answer ≡ headed names own before item said

-- an entry is judged by its size at its payload
abbrev pub sized : List (List ℕ) → List ℕ → Entry → List ℕ → Read Entry
sized names item e rest = judge (nat_le (entry_size names e) most_entry_size) item rule.Entry >>= λ small. Ok (e, rest)

pub record IsSized (names : List (List ℕ)) (h : Heading) (item payload rest : List ℕ) (answer : Read Entry) : Type 0 where
  pub entry : Entry
  pub stored : IsStored names h.meta h.origin payload entry
  pub is : answer ≡ sized names item entry rest

-- the payload of an entry
abbrev pub IsPayload : List (List ℕ) → Heading → List ℕ → Read Entry → Type 0
IsPayload names h bytes answer = Then (λ r. r ≡ text_at bytes) (λ p r. IsSized names h bytes p.0 p.1 r) answer

-- an entry after others
abbrev pub IsEntry : List (List ℕ) → ℕ → List Entry → List ℕ → Read Entry → Type 0
IsEntry names own before bytes answer =
    Then (λ r. r ≡ text_at bytes) (λ t r. Then (IsHeading names own before bytes t.0) (λ h q. IsPayload names h t.1 q) r) answer

abbrev pub AreEntries : List (List ℕ) → ℕ → ℕ → List ℕ → Read (List Entry) → Type 0
AreEntries names own count bytes answer = Many (IsEntry names own) count [] bytes answer
