-- What a client knows: the names of the clusters and topics, and what is declared of itself.
use Rattle.std.specs.Prelude.{ℕ, nat_le, Bool, true, ◌&&◌, List, [], length}
use Rattle.geo_base.specs.declared.client.Line.{Line}
use Rattle.geo_base.specs.declared.client.Line.TheVariants as line
use Rattle.geo_base.specs.Name.{is_name}
use Rattle.geo_base.specs.Scripted.{is_optional_name, most_text_bytes}
use Rattle.geo_base.specs.Setup.{Declared, Setup}

-- a setup as far as a client's events look at it: they ask for the names of clusters and topics alone
abbrev pub known_setup : List (List ℕ) → List (List ℕ) → Setup
known_setup clusters topics = record { per_ledger = 0; clusters = clusters; topics = topics; clients = [] }

pub record Site : Type 0 where
  pub setup : Setup
  pub declared : Declared

-- A line whose frame is small: a key and a subscription are names, and a text has at most 1,024 bytes. Each line that a script
-- can declare is one.
abbrev pub is_short_line : Line → Bool
is_short_line (line.Pub seq to key text) = is_optional_name key && nat_le (length text) most_text_bytes
is_short_line (line.Sub n kind earliest replicated) = is_name n
is_short_line l = true
