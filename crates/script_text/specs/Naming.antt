-- What the lines of a script may name, by what is declared.
use Rattle.std.specs.Prelude.{length, map}
use Rattle.std.specs.List.{list_any, range_with_len}
use Rattle.geo_base.specs.Scripted.{is_move, is_produce}
use Rattle.geo_base.specs.Setup.{Declared, Setup, sub_names}
use Rattle.script_rows.specs.declared.names.Member.{Member}
use Rattle.script_rows.specs.Names.{Names}

-- what is asked of a client: its topic, and whether it produces or moves
abbrev pub member_of : Declared → Member
member_of d = record { topic = d.topic; produces = list_any is_produce d.lines; moves = list_any is_move d.lines }

-- clusters, topics and clients are numbered from 0, each in the order of their lines; the subscriptions of a topic in the order
-- of its clients and of their `sub` lines
abbrev pub names_of : Setup → Names
names_of s = record {
  clusters = s.clusters;
  topics = s.topics;
  clients = map (λ (d : Declared). d.name) s.clients;
  members = map member_of s.clients;
  subs = map (sub_names s) (range_with_len 0 (length s.topics));
}
