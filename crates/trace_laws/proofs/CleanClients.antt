-- What a client of a script sends is clean.
use Rattle.std.proofs.Common.{◌≡◌, ℕ, zero, suc, ◌^◌, ◌==◌, true, List, [], ◌∷◌, length, All, refl, arith, nat_lt}
use Rattle.std.specs.Prelude.{Option, Some, None, ◌&&◌, IfSome, is_some, nat_le, slice_get}
use Rattle.std.specs.List.{list_all}
use Rattle.std.proofs.lemmas.Bool.{ltb-true}
use Rattle.std.proofs.lemmas.List.Elements.{All-get_or}
use Rattle.world_laws.proofs.Types.{Held, Ident, Line, Out, Packet, Position}
use Rattle.world_laws.proofs.Types.event
use Rattle.world_laws.proofs.Types.line
use Rattle.geo_base.specs.Client.{Acted, Client, command, command_at, commands_at, connected_to, connects, reconnect}
use Rattle.geo_base.specs.Getting.{get}
use Rattle.geo_base.specs.Going.{acks_all, acks_one, acks_to, first_held, go, go_line, most_unanswered, past}
use Rattle.geo_base.specs.Happening.{client_acted}
use Rattle.geo_base.specs.Name.{is_name}
use Rattle.geo_base.specs.Planned.{has_client}
use Rattle.geo_base.specs.Scripted.{IsScripted, is_declared, is_line, is_optional_name, most_text_bytes, names_some, stays_or_is_silent}
use Rattle.geo_base.specs.Setup.{Declared, Setup, declared_at, nobody}
use Rattle.world_laws.proofs.Merges.ClientRoams.{all_index}
use Rattle.world_laws.proofs.Replicating.Effects.{Each, each_both}
use Rattle.world_laws.proofs.Walks.Walk.{left, on_if, right}
use Rattle.script_text.specs.Scenario.{IsClient, has_printable_text}
use Rattle.trace_laws.proofs.Words.{IsKey, name_token}
use Rattle.trace_laws.proofs.CleanPlans.{SendsClean}

-- a line of a client, whose text is printable
abbrev CanSay : Setup → Line → Type 0
CanSay s l = (is_line s l ≡ true) × (has_printable_text l ≡ true)

lines_at : (s : Setup) (ls : List Line) (i : ℕ) → list_all (is_line s) ls ≡ true → list_all has_printable_text ls ≡ true → IfSome (slice_get ls i) (CanSay s)
lines_at s [] i h k = tt
lines_at s (l ∷ ls) zero h k = (left (is_line s l) (list_all (is_line s) ls) h, left (has_printable_text l) (list_all has_printable_text ls) k)
lines_at s (l ∷ ls) (suc i) h k = lines_at s ls i (right (is_line s l) (list_all (is_line s) ls) h) (right (has_printable_text l) (list_all has_printable_text ls) k)

-- a client of a script
record HasLines (s : Setup) (d : Declared) : Type 0 where
  name : is_name d.name ≡ true
  lines : (i : ℕ) → IfSome (slice_get d.lines i) (CanSay s)

has_lines : (s : Setup) → IsScripted s → All IsClient s.clients → (c : ℕ) → has_client s c ≡ true → HasLines s (declared_at s c)
has_lines s scripted texts c has =
    let d = declared_at s c in
    let lt = ltb-true c (length s.clients) has in
    let all : is_declared s d ≡ true = all_index (is_declared s) s.clients c nobody scripted.clients.0 lt in
    let client : IsClient d = All-get_or IsClient s.clients c nobody lt texts in
    let one = left (is_name d.name && nat_lt d.topic (length s.topics) && nat_lt d.cluster (length s.clusters) && list_all (is_line s) d.lines) (stays_or_is_silent d.lines) all in
    let two = left (is_name d.name && nat_lt d.topic (length s.topics) && nat_lt d.cluster (length s.clusters)) (list_all (is_line s) d.lines) one in
    let three = left (is_name d.name && nat_lt d.topic (length s.topics)) (nat_lt d.cluster (length s.clusters)) two in
    record {
      name = left (is_name d.name) (nat_lt d.topic (length s.topics)) three;
      lines = λ i. lines_at s d.lines i (right (is_name d.name && nat_lt d.topic (length s.topics) && nat_lt d.cluster (length s.clusters)) (list_all (is_line s) d.lines) one) client.texts;
    }

abbrev AllClean : List Out → Type 0
AllClean os = Each SendsClean os

key_named : (key : Option (List ℕ)) → is_optional_name key ≡ true → IsKey key
key_named None h = tt
key_named (Some k) h = h

command_clean : (s : Setup) (d : Declared) (k : Client) (i : ℕ) (o : Option Line) → HasLines s d → IfSome o (CanSay s) → AllClean (command s d k i o)
command_clean s d k i None h is = tt
command_clean s d k i (Some line.Produce) h is = (tt, tt)
command_clean s d k i (Some (line.Sub n kind earliest replicated)) h is = (tt, tt)
command_clean s d k i (Some (line.Flow permits)) h is = (tt, tt)
command_clean s d k i (Some (line.Pub seq to key text)) h is =
    let three = left (nat_lt seq (2 ^ 63) && names_some (length s.clusters) to && is_optional_name key) (nat_le (length text) most_text_bytes) is.0 in
    let low = ltb-true seq (2 ^ 63) (left (nat_lt seq (2 ^ 63)) (names_some (length s.clusters) to) (left (nat_lt seq (2 ^ 63) && names_some (length s.clusters) to) (is_optional_name key) three)) in (
      record {
        producer = name_token d.name h.name;
        seq = omega (arith, low);
        publish_time = refl;
        content = (key_named key (right (nat_lt seq (2 ^ 63) && names_some (length s.clusters) to) (is_optional_name key) three), is.1);
      },
      tt,
    )
command_clean s d k i (Some l) h is = tt

at_clean : (s : Setup) (d : Declared) (k : Client) (o : Option ℕ) → HasLines s d → AllClean (command_at s d k o)
at_clean s d k None h = tt
at_clean s d k (Some i) h = command_clean s d k i (slice_get d.lines i) h (h.lines i)

all_clean : (s : Setup) (d : Declared) (k : Client) (is : List ℕ) → HasLines s d → AllClean (commands_at s d k is)
all_clean s d k [] h = tt
all_clean s d k (i ∷ is) h = each_both SendsClean (command_at s d k (Some i)) (commands_at s d k is) (at_clean s d k (Some i) h) (all_clean s d k is h)

connects_clean : (s : Setup) (d : Declared) (k : Client) → HasLines s d → AllClean (connects s d k).sent
connects_clean s d k h = (
  tt,
  each_both SendsClean (command_at s d k k.produce) _ (at_clean s d k k.produce h)
      (each_both SendsClean (command_at s d k k.sub) _ (at_clean s d k k.sub h)
      (each_both SendsClean (command_at s d k k.flow) (commands_at s d k k.unanswered) (at_clean s d k k.flow h) (all_clean s d k k.unanswered h))),
)

abbrev ActsClean : Acted → Type 0
ActsClean a = AllClean a.sent

one_clean : (k : Client) (i : Ident) (o : Option Position) → ActsClean (acks_one k i o)
one_clean k i None = tt
one_clean k i (Some p) = (tt, tt)

to_clean : (k : Client) (o : Option Position) → ActsClean (acks_to k o)
to_clean k None = tt
to_clean k (Some p) = (tt, tt)

acks_clean : (k : Client) (hs : List Held) → ActsClean (acks_all k hs)
acks_clean k [] = tt
acks_clean k (h ∷ hs) = (tt, tt)

line_clean : (s : Setup) (d : Declared) (k : Client) (o : Option Line) → HasLines s d → IfSome o (CanSay s) → ActsClean (go_line s d k o)
line_clean s d k None h is = tt
line_clean s d k (Some line.Produce) h is = (tt, tt)
line_clean s d k (Some (line.Pub seq to key text)) h is =
    on_if ActsClean (is_some k.produce && nat_lt (length k.unanswered) most_unanswered) _ _ (command_clean s d k k.done (Some (line.Pub seq to key text)) h is) tt
line_clean s d k (Some (line.Sub n kind earliest replicated)) h is = (tt, tt)
line_clean s d k (Some (line.Flow permits)) h is = on_if ActsClean (is_some k.sub) _ _ (tt, tt) tt
line_clean s d k (Some (line.Ack i)) h is = one_clean k i (first_held k.held i)
line_clean s d k (Some (line.AckTo i)) h is = to_clean k (first_held k.held i)
line_clean s d k (Some line.AckAll) h is = acks_clean k k.held
line_clean s d k (Some line.Unsub) h is = on_if ActsClean (is_some k.sub) _ _ (tt, tt) tt
line_clean s d k (Some line.Close) h is = on_if ActsClean (is_some k.sub) _ _ (tt, tt) tt
line_clean s d k (Some line.CloseProducer) h is = on_if ActsClean (is_some k.produce && (length k.unanswered == 0)) _ _ (tt, tt) tt
line_clean s d k (Some line.Ping) h is = (tt, tt)
line_clean s d k (Some (line.Move x)) h is = connects_clean s d (connected_to x (past k)) h

go_clean : (s : Setup) (d : Declared) (k : Client) → HasLines s d → ActsClean (go s d k)
unfolding go
go_clean s d k h = on_if ActsClean k.connected _ _ (line_clean s d k (slice_get d.lines k.done) h (h.lines k.done)) tt

reconnect_clean : (s : Setup) (d : Declared) (k : Client) → HasLines s d → ActsClean (reconnect s d k)
unfolding reconnect
reconnect_clean s d k h = connects_clean s d (connected_to k.cluster k) h

get_clean : (d : Declared) (k : Client) (o : Option Packet) → ActsClean (get d k o)
unfolding get
get_clean d k None = tt
get_clean d k (Some p) = tt

pub goes_clean : (s : Setup) → IsScripted s → All IsClient s.clients → (c : ℕ) → has_client s c ≡ true → (k : Client) → Each SendsClean (client_acted s k (event.Go c) None).sent
goes_clean s scripted texts c has k = go_clean s (declared_at s c) k (has_lines s scripted texts c has)

pub reconnects_clean : (s : Setup) → IsScripted s → All IsClient s.clients → (c : ℕ) → has_client s c ≡ true → (k : Client) → Each SendsClean (client_acted s k (event.Reconnect c) None).sent
reconnects_clean s scripted texts c has k = reconnect_clean s (declared_at s c) k (has_lines s scripted texts c has)

pub gets_clean : (s : Setup) (c : ℕ) (k : Client) (o : Option Packet) → Each SendsClean (client_acted s k (event.Get c) o).sent
gets_clean s c k o = get_clean (declared_at s c) k o
