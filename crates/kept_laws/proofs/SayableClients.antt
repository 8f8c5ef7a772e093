-- What a client of a script sends can be written.
use Rattle.std.proofs.Common.{◌≡◌, ℕ, ◌^◌, ◌==◌, true, List, [], ◌∷◌, length, arith, nat_lt}
use Rattle.std.specs.Prelude.{Option, Some, None, ◌&&◌, IfSome, is_some, nat_le, slice_get}
use Rattle.std.specs.List.{list_all}
use Rattle.std.proofs.lemmas.Bool.{ltb-true}
use Rattle.world_laws.proofs.Types.{Held, Ident, Line, Out, Packet, Position}
use Rattle.world_laws.proofs.Types.event
use Rattle.world_laws.proofs.Types.line
use Rattle.geo_base.specs.Client.{Acted, Client, command, command_at, commands_at, connected_to, connects, reconnect}
use Rattle.geo_base.specs.Getting.{get}
use Rattle.geo_base.specs.Going.{acks_all, acks_one, acks_to, first_held, go, go_line, most_unanswered, past}
use Rattle.geo_base.specs.Happening.{client_acted}
use Rattle.geo_base.specs.Name.{is_name}
use Rattle.geo_base.specs.Planned.{has_client}
use Rattle.geo_base.specs.Scripted.{IsScripted, is_declared, is_line, is_optional_name, most_text_bytes, names_some, stays_or_is_silent}
use Rattle.geo_base.specs.Setup.{Declared, Setup, declared_at, nobody}
use Rattle.world_laws.proofs.Merges.ClientRoams.{all_index}
use Rattle.world_laws.proofs.Replicating.Effects.{Each, each_both}
use Rattle.world_laws.proofs.Walks.Walk.{left, on_if, right}
use Rattle.kept_laws.proofs.Ascii.{IsNameText, name_text}
use Rattle.kept_laws.proofs.Doing.{lines_at}
use Rattle.kept_laws.proofs.SayablePlans.{SendsSayable}

-- a client of a script
record HasLines (s : Setup) (d : Declared) : Type 0 where
  name : is_name d.name ≡ true
  lines : (i : ℕ) → IfSome (slice_get d.lines i) (λ l. is_line s l ≡ true)

has_lines : (s : Setup) → IsScripted s → (c : ℕ) → has_client s c ≡ true → HasLines s (declared_at s c)
has_lines s scripted c has =
    let d = declared_at s c in
    let all : is_declared s d ≡ true = all_index (is_declared s) s.clients c nobody scripted.clients.0 (ltb-true c (length s.clients) has) in
    let one = left (is_name d.name && nat_lt d.topic (length s.topics) && nat_lt d.cluster (length s.clusters) && list_all (is_line s) d.lines) (stays_or_is_silent d.lines) all in
    let two = left (is_name d.name && nat_lt d.topic (length s.topics) && nat_lt d.cluster (length s.clusters)) (list_all (is_line s) d.lines) one in
    let three = left (is_name d.name && nat_lt d.topic (length s.topics)) (nat_lt d.cluster (length s.clusters)) two in
    record {
      name = left (is_name d.name) (nat_lt d.topic (length s.topics)) three;
      lines = λ i. lines_at s d.lines i (right (is_name d.name && nat_lt d.topic (length s.topics) && nat_lt d.cluster (length s.clusters)) (list_all (is_line s) d.lines) one);
    }

abbrev AllSay : List Out → Type 0
AllSay os = Each SendsSayable os

key_text : (key : Option (List ℕ)) → is_optional_name key ≡ true → IfSome key IsNameText
key_text None h = tt
key_text (Some k) h = name_text k h

command_says : (s : Setup) (d : Declared) (k : Client) (i : ℕ) (o : Option Line) → HasLines s d → IfSome o (λ l. is_line s l ≡ true) → AllSay (command s d k i o)
command_says s d k i None h is = tt
command_says s d k i (Some line.Produce) h is = (tt, tt)
command_says s d k i (Some (line.Sub n kind earliest replicated)) h is = (tt, tt)
command_says s d k i (Some (line.Flow permits)) h is = (tt, tt)
command_says s d k i (Some (line.Pub seq to key text)) h is =
    let three = left (nat_lt seq (2 ^ 63) && names_some (length s.clusters) to && is_optional_name key) (nat_le (length text) most_text_bytes) is in
    let low = ltb-true seq (2 ^ 63) (left (nat_lt seq (2 ^ 63)) (names_some (length s.clusters) to) (left (nat_lt seq (2 ^ 63) && names_some (length s.clusters) to) (is_optional_name key) three)) in (
      record {
        producer = name_text d.name h.name;
        seq = omega (arith, low);
        publish_time = omega arith;
        key = key_text key (right (nat_lt seq (2 ^ 63) && names_some (length s.clusters) to) (is_optional_name key) three);
        content = tt;
      },
      tt,
    )
command_says s d k i (Some l) h is = tt

at_says : (s : Setup) (d : Declared) (k : Client) (o : Option ℕ) → HasLines s d → AllSay (command_at s d k o)
at_says s d k None h = tt
at_says s d k (Some i) h = command_says s d k i (slice_get d.lines i) h (h.lines i)

all_say : (s : Setup) (d : Declared) (k : Client) (is : List ℕ) → HasLines s d → AllSay (commands_at s d k is)
all_say s d k [] h = tt
all_say s d k (i ∷ is) h = each_both SendsSayable (command_at s d k (Some i)) (commands_at s d k is) (at_says s d k (Some i) h) (all_say s d k is h)

connects_says : (s : Setup) (d : Declared) (k : Client) → HasLines s d → AllSay (connects s d k).sent
connects_says s d k h = (
  tt,
  each_both SendsSayable (command_at s d k k.produce) _ (at_says s d k k.produce h)
      (each_both SendsSayable (command_at s d k k.sub) _ (at_says s d k k.sub h)
      (each_both SendsSayable (command_at s d k k.flow) (commands_at s d k k.unanswered) (at_says s d k k.flow h) (all_say s d k k.unanswered h))),
)

abbrev ActsSayable : Acted → Type 0
ActsSayable a = AllSay a.sent

one_says : (k : Client) (i : Ident) (o : Option Position) → ActsSayable (acks_one k i o)
one_says k i None = tt
one_says k i (Some p) = (tt, tt)

to_says : (k : Client) (o : Option Position) → ActsSayable (acks_to k o)
to_says k None = tt
to_says k (Some p) = (tt, tt)

acks_say : (k : Client) (hs : List Held) → ActsSayable (acks_all k hs)
acks_say k [] = tt
acks_say k (h ∷ hs) = (tt, tt)

line_says : (s : Setup) (d : Declared) (k : Client) (o : Option Line) → HasLines s d → IfSome o (λ l. is_line s l ≡ true) → ActsSayable (go_line s d k o)
line_says s d k None h is = tt
line_says s d k (Some line.Produce) h is = (tt, tt)
line_says s d k (Some (line.Pub seq to key text)) h is =
    on_if ActsSayable (is_some k.produce && nat_lt (length k.unanswered) most_unanswered) _ _ (command_says s d k k.done (Some (line.Pub seq to key text)) h is) tt
line_says s d k (Some (line.Sub n kind earliest replicated)) h is = (tt, tt)
line_says s d k (Some (line.Flow permits)) h is = on_if ActsSayable (is_some k.sub) _ _ (tt, tt) tt
line_says s d k (Some (line.Ack i)) h is = one_says k i (first_held k.held i)
line_says s d k (Some (line.AckTo i)) h is = to_says k (first_held k.held i)
line_says s d k (Some line.AckAll) h is = acks_say k k.held
line_says s d k (Some line.Unsub) h is = on_if ActsSayable (is_some k.sub) _ _ (tt, tt) tt
line_says s d k (Some line.Close) h is = on_if ActsSayable (is_some k.sub) _ _ (tt, tt) tt
line_says s d k (Some line.CloseProducer) h is = on_if ActsSayable (is_some k.produce && (length k.unanswered == 0)) _ _ (tt, tt) tt
line_says s d k (Some line.Ping) h is = (tt, tt)
line_says s d k (Some (line.Move x)) h is = connects_says s d (connected_to x (past k)) h

go_says : (s : Setup) (d : Declared) (k : Client) → HasLines s d → ActsSayable (go s d k)
unfolding go
go_says s d k h = on_if ActsSayable k.connected _ _ (line_says s d k (slice_get d.lines k.done) h (h.lines k.done)) tt

reconnect_says : (s : Setup) (d : Declared) (k : Client) → HasLines s d → ActsSayable (reconnect s d k)
unfolding reconnect
reconnect_says s d k h = connects_says s d (connected_to k.cluster k) h

get_says : (d : Declared) (k : Client) (o : Option Packet) → ActsSayable (get d k o)
unfolding get
get_says d k None = tt
get_says d k (Some p) = tt

pub goes_say : (s : Setup) → IsScripted s → (c : ℕ) → has_client s c ≡ true → (k : Client) → Each SendsSayable (client_acted s k (event.Go c) None).sent
goes_say s scripted c has k = go_says s (declared_at s c) k (has_lines s scripted c has)

pub reconnects_say : (s : Setup) → IsScripted s → (c : ℕ) → has_client s c ≡ true → (k : Client) → Each SendsSayable (client_acted s k (event.Reconnect c) None).sent
reconnects_say s scripted c has k = reconnect_says s (declared_at s c) k (has_lines s scripted c has)

pub gets_say : (s : Setup) (c : ℕ) (k : Client) (o : Option Packet) → Each SendsSayable (client_acted s k (event.Get c) o).sent
gets_say s c k o = get_says (declared_at s c) k o
