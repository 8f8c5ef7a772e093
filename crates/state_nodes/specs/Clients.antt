-- What a stop leaves of a client with these lines, among so many clusters.
use Rattle.std.specs.Prelude.{ℕ, ◌+◌, ◌-◌, ◌==◌, nat_lt, nat_le, Bool, true, false, ◌&&◌, ◌||◌, not, if◌then◌else◌, List, [], ◌++◌, length, Option, Some, None, is_some, slice_get, Ok}
use Rattle.std.specs.Option.{option_map_or}
use Rattle.std.specs.Str.{is_utf8}
use Rattle.geo_base.specs.declared.client.Line.{Line}
use Rattle.geo_base.specs.declared.client.Line.TheVariants as line
use Rattle.geo_base.specs.declared.entry.Ident.{Ident}
use Rattle.geo_base.specs.Client.{Client}
use Rattle.geo_base.specs.Going.{most_unanswered}
use Rattle.geo_base.specs.Scripted.{is_produce}
use Rattle.state_items.specs.declared.rule.Rule.TheVariants as rule
use Rattle.state_items.specs.Reading.{◌>>=◌, Read, judge, list_at, many, number_at, number_within, text_at}
use Rattle.state_items.specs.Texts.{list, number, text}
use Rattle.state_nodes.specs.declared.clients.ClientProgress.{ClientProgress}
use Rattle.state_nodes.specs.declared.clients.Tally.{Tally}
use Rattle.state_nodes.specs.declared.force.Force.{Force}
use Rattle.state_nodes.specs.declared.force.LineKind.{LineKind}
use Rattle.state_nodes.specs.declared.force.LineKind.TheVariants as line_kind
use Rattle.state_items.specs.Limits.{most_count}

abbrev pub is_pub : Line → Bool
is_pub (line.Pub seq to key text) = true
is_pub l = false

abbrev pub is_sub : Line → Bool
is_sub (line.Sub n kind earliest replicated) = true
is_sub l = false

abbrev pub is_flow : Line → Bool
is_flow (line.Flow permits) = true
is_flow l = false

abbrev pub kind_test : LineKind → Line → Bool
kind_test line_kind.Produce l = is_produce l
kind_test line_kind.Sub l = is_sub l
kind_test line_kind.Flow l = is_flow l
kind_test line_kind.Publish l = is_pub l

-- ---- texts

-- a line's index and one more, 0 where there is none
abbrev pub index_text : Option ℕ → List ℕ
index_text None = number 0
index_text (Some i) = number (i + 1)

abbrev pub ident_text : Ident → List ℕ
ident_text i = number i.origin ++ (text i.producer ++ number i.seq)

abbrev pub place_text : Client → List ℕ
place_text k = number k.cluster ++ (number k.connection ++ number k.done)

abbrev pub force_text : Client → List ℕ
force_text k = index_text k.produce ++ (index_text k.sub ++ index_text k.flow)

abbrev pub tally_text : Client → List ℕ
tally_text k = number k.receipts ++ (number k.duplicates ++ number k.errors)

abbrev pub client_text : Client → List ℕ
client_text k = place_text k ++ (force_text k ++ (list number k.unanswered ++ (tally_text k ++ list ident_text k.got)))

-- ---- reading

unfoldable pub place_at : ℕ → List Line → List ℕ → Read ClientProgress
place_at clusters lines bytes = do
  cluster ← number_at bytes
  there ← judge (nat_lt cluster.0 clusters) bytes rule.Client
  connection ← number_within most_count rule.Count cluster.1
  done ← number_within (length lines) rule.Client connection.1
  Ok (record { cluster = cluster.0; connection = connection.0; done = done.0 }, done.1)

abbrev pub index_of : ℕ → Option ℕ
index_of n = if n == 0 then None else Some (n - 1)

-- a line of a kind stands at an index below those that are done
abbrev pub is_done : (Line → Bool) → List Line → ℕ → ℕ → Bool
is_done kind lines done i = nat_lt i done && option_map_or kind (slice_get lines i) false

abbrev pub is_in_force : (Line → Bool) → List Line → ℕ → Option ℕ → Bool
is_in_force kind lines done None = true
is_in_force kind lines done (Some i) = is_done kind lines done i

unfoldable pub index_at : (Line → Bool) → List Line → ℕ → List ℕ → Read (Option ℕ)
index_at kind lines done bytes = do
  n ← number_at bytes
  one ← judge (is_in_force kind lines done (index_of n.0)) bytes rule.Client
  Ok (index_of n.0, n.1)

-- no flow line is in force without a sub line
unfoldable pub force_at : List Line → ℕ → List ℕ → Read Force
force_at lines done bytes = do
  produce ← index_at is_produce lines done bytes
  sub ← index_at is_sub lines done produce.1
  flow ← index_at is_flow lines done sub.1
  flows ← judge (not (is_some flow.0) || is_some sub.0) sub.1 rule.Client
  Ok (record { produce = produce.0; sub = sub.0; flow = flow.0 }, flow.1)

unfoldable pub publish_at : List Line → ℕ → List ℕ → List ℕ → Read ℕ
publish_at lines done before bytes = do
  n ← number_at bytes
  one ← judge (is_done is_pub lines done n.0) bytes rule.Client
  Ok n

-- publishes wait for their receipts only where a produce line is in force
unfoldable pub unanswered_at : List Line → ℕ → Option ℕ → List ℕ → Read (List ℕ)
unanswered_at lines done produce bytes = do
  count ← number_at bytes
  few ← judge (nat_le count.0 most_unanswered && ((count.0 == 0) || is_some produce)) bytes rule.Client
  many (publish_at lines done) count.0 [] count.1

unfoldable pub tally_at : List ℕ → Read Tally
tally_at bytes = do
  receipts ← number_within most_count rule.Count bytes
  duplicates ← number_within most_count rule.Count receipts.1
  errors ← number_within most_count rule.Count duplicates.1
  Ok (record { receipts = receipts.0; duplicates = duplicates.0; errors = errors.0 }, errors.1)

unfoldable pub ident_at : ℕ → List Ident → List ℕ → Read Ident
ident_at clusters before bytes = do
  origin ← number_at bytes
  known ← judge (nat_lt origin.0 clusters) bytes rule.Client
  producer ← text_at origin.1
  readable ← judge (is_utf8 producer.0) origin.1 rule.Client
  seq ← number_at producer.1
  Ok (record { origin = origin.0; producer = producer.0; seq = seq.0 }, seq.1)

abbrev pub client_with : ClientProgress → Force → List ℕ → Tally → List Ident → Client
client_with p f unanswered t got = record {
  cluster = p.cluster;
  connection = p.connection;
  connected = false;
  done = p.done;
  produce = f.produce;
  sub = f.sub;
  flow = f.flow;
  unanswered = unanswered;
  held = [];
  receipts = t.receipts;
  duplicates = t.duplicates;
  errors = t.errors;
  got = got;
}

unfoldable pub client_at : ℕ → List Line → List ℕ → Read Client
client_at clusters lines bytes = do
  place ← place_at clusters lines bytes
  force ← force_at lines place.0.done place.1
  unanswered ← unanswered_at lines place.0.done force.0.produce force.1
  tally ← tally_at unanswered.1
  got ← list_at (ident_at clusters) tally.1
  Ok (client_with place.0 force.0 unanswered.0 tally.0 got.0, got.1)
