-- What a client sends: the commands of its lines, which are those of a script.
use Rattle.std.proofs.Common.{◌≡◌, ℕ, zero, suc, ◌+◌, ◌*◌, ◌^◌, ◌≤◌, Bool, true, List, [], ◌∷◌, ◌++◌, length, map, take, refl, arith}
use Rattle.std.specs.Prelude.{Option, Some, None, IfSome, ◌&&◌, nat_le, nat_lt, ◌==◌, is_some, slice_get}
use Rattle.std.specs.List.{list_all}
use Rattle.std.proofs.lemmas.Bool.{leb-true, ltb-true}
use Rattle.world_laws.proofs.Types.{Entry, Held, Ident, Line, Out, Packet, Position, Targets}
use Rattle.world_laws.proofs.Types.event
use Rattle.world_laws.proofs.Types.line
use Rattle.world_laws.proofs.Types.targets
use Rattle.geo_base.specs.Client.{Acted, Client, command, command_at, commands_at, connected_to, connects, published, reconnect, target_names}
use Rattle.geo_base.specs.Entry.{goes_to}
use Rattle.geo_base.specs.Getting.{get}
use Rattle.geo_base.specs.Going.{acks_all, acks_one, acks_to, first_held, go, go_line, most_acks, most_unanswered, past}
use Rattle.geo_base.specs.Happening.{client_acted}
use Rattle.geo_base.specs.Name.{is_name}
use Rattle.geo_base.specs.Planned.{has_client}
use Rattle.geo_base.specs.Scripted.{IsScripted, is_declared, is_line, is_optional_name, names_some, stays_or_is_silent}
use Rattle.geo_base.specs.Setup.{Declared, Setup, declared_at, nobody, topic_name}
use Rattle.geo_base.specs.Sizes.{optional_text, repeated_text}
use Rattle.world_laws.specs.Plain.{IsPlainEntry}
use Rattle.world_laws.proofs.Merges.ClientRoams.{all_index}
use Rattle.world_laws.proofs.Replicating.Effects.{Each, each_both}
use Rattle.world_laws.proofs.FrameContents.NewEntries.{IsFit}
use Rattle.world_laws.proofs.FrameContents.OwnSizes.{AreShort, bytes_most, name_most, names_short, number_most}
use Rattle.world_laws.proofs.FrameContents.Sending.{SentOut}
use Rattle.world_laws.proofs.Walks.Walk.{on_if}

-- what a script declares of a client. What it publishes is plain, and so has E
record Scripted (E : Entry → Type 0) (s : Setup) (d : Declared) : Type 0 where
  plain : (e : Entry) → IsPlainEntry s.clusters None e → E e
  name : length d.name ≤ 16
  lines : (i : ℕ) → IfSome (slice_get d.lines i) (λ l. is_line s l ≡ true)
  topics : AreShort s.topics
  clusters : AreShort s.clusters
  few : length s.clusters ≤ 8

lines_at : (s : Setup) (ls : List Line) (i : ℕ) → list_all (is_line s) ls ≡ true → IfSome (slice_get ls i) (λ l. is_line s l ≡ true)
lines_at s [] i h = tt
lines_at s (l ∷ ls) zero h = grind (arith, h)
lines_at s (l ∷ ls) (suc i) h = lines_at s ls i (grind (arith, h))

first : (a b c d e : Bool) → (a && b && c && d && e) ≡ true → (a ≡ true) × (d ≡ true)
first a b c d e h = (grind (arith, h), grind (arith, h))

scripted : (E : Entry → Type 0) (s : Setup) → IsScripted s → ((e : Entry) → IsPlainEntry s.clusters None e → E e) → (c : ℕ) → has_client s c ≡ true → Scripted E s (declared_at s c)
scripted E s h plain c has =
    let d = declared_at s c in
    let declared : is_declared s d ≡ true = all_index (is_declared s) s.clients c nobody h.clients.0 (ltb-true c (length s.clients) has) in
    let parts = first (is_name d.name) (nat_lt d.topic (length s.topics)) (nat_lt d.cluster (length s.clusters)) (list_all (is_line s) d.lines) (stays_or_is_silent d.lines) declared in
    record {
      plain = plain;
      name = name_most d.name parts.0;
      lines = λ i. lines_at s d.lines i parts.1;
      topics = names_short s.topics h.topic_names.0;
      clusters = names_short s.clusters h.cluster_names.0;
      few = h.clusters.1;
    }

-- the message that a line publishes is small
listed_most : (k : ℕ) (to : Targets) (names : List (List ℕ)) → AreShort names → repeated_text 7 (target_names k to names) ≤ 36 * length names
listed_most k targets.All names short = omega arith
listed_most k (targets.Only bits) [] short = omega arith
listed_most k (targets.Only bits) (n ∷ ns) short =
    let rest = listed_most (k + 1) (targets.Only bits) ns (λ x. short (suc x)) in
    let one = bytes_most 7 (length n) in
    let le = short zero in
    on_if (λ (l : List (List ℕ)). repeated_text 7 l ≤ 36 * length (n ∷ ns)) (goes_to k (targets.Only bits)) _ _ (omega (arith, rest, one, le)) (omega (arith, rest))

key_most : (key : Option (List ℕ)) → is_optional_name key ≡ true → optional_text 6 key ≤ 36
key_most None h = omega arith
key_most (Some k) h = omega (arith, bytes_most 6 (length k), name_most k h)

published_small : (E : Entry → Type 0) (s : Setup) (d : Declared) (k : Client) (seq : ℕ) (to : Targets) (key : Option (List ℕ)) (text : List ℕ) → Scripted E s d → is_optional_name key ≡ true → length text ≤ 1024
    → IsFit s.clusters (published s d k seq to key text)
published_small E s d k seq to key text h named short =
    omega (arith, bytes_most 1 (length d.name), h.name, number_most 2 seq, number_most 3 0, key_most key named, listed_most 0 to s.clusters h.clusters, h.few, short)

record PubParts (s : Setup) (to : Targets) (key : Option (List ℕ)) (text : List ℕ) : Type 0 where
  some : names_some (length s.clusters) to ≡ true
  named : is_optional_name key ≡ true
  short : length text ≤ 1024

pub_parts : (s : Setup) (seq : ℕ) (to : Targets) (key : Option (List ℕ)) (text : List ℕ) → is_line s (line.Pub seq to key text) ≡ true → PubParts s to key text
pub_parts s seq to key text h =
    let p = four (nat_lt seq (2 ^ 63)) (names_some (length s.clusters) to) (is_optional_name key) (nat_le (length text) 1024) h in
    record { some = p.0; named = p.1; short = leb-true (length text) 1024 p.2 }
  where
    four : (a b c d : Bool) → (a && b && c && d) ≡ true → (b ≡ true) × (c ≡ true) × (d ≡ true)
    four a b c d e = (grind (arith, e), grind (arith, e), grind (arith, e))

-- commands
abbrev OfSetup : Type 0 → (Entry → Type 0) → Setup → List Out → Type 0
OfSetup B E s os = Each (SentOut B E s.clusters) os

topic_short : (E : Entry → Type 0) (s : Setup) (d : Declared) → Scripted E s d → length (topic_name s d.topic) ≤ 1024
topic_short E s d h = let t = h.topics d.topic in omega (arith, t)

name_short : (E : Entry → Type 0) (s : Setup) (d : Declared) → Scripted E s d → length d.name ≤ 1024
name_short E s d h = let n = h.name in omega (arith, n)

command_sends : (B : Type 0) (E : Entry → Type 0) (s : Setup) (d : Declared) (k : Client) (i : ℕ) (o : Option Line) → Scripted E s d → IfSome o (λ l. is_line s l ≡ true) → OfSetup B E s (command s d k i o)
command_sends B E s d k i None h is = tt
command_sends B E s d k i (Some line.Produce) h is = (record { carried = tt; small = λ b. (topic_short E s d h, name_short E s d h) }, tt)
command_sends B E s d k i (Some (line.Sub n kind earliest replicated)) h is =
    (record { carried = tt; small = λ b. (topic_short E s d h, (let le = name_most n is in omega (arith, le)), name_short E s d h) }, tt)
command_sends B E s d k i (Some (line.Flow permits)) h is = (record { carried = tt; small = λ b. tt }, tt)
command_sends B E s d k i (Some (line.Pub seq to key text)) h is =
    let p = pub_parts s seq to key text is in (
      record {
        carried = (tt, h.plain (published s d k seq to key text) (record { listed = refl; some = p.some; from = tt; content = tt; rest = refl }));
        small = λ b. record { entry = published_small E s d k seq to key text h p.named p.short; from = tt };
      },
      tt,
    )
command_sends B E s d k i (Some l) h is = tt

at_sends : (B : Type 0) (E : Entry → Type 0) (s : Setup) (d : Declared) (k : Client) (o : Option ℕ) → Scripted E s d → OfSetup B E s (command_at s d k o)
at_sends B E s d k None h = tt
at_sends B E s d k (Some i) h = command_sends B E s d k i (slice_get d.lines i) h (h.lines i)

all_sends : (B : Type 0) (E : Entry → Type 0) (s : Setup) (d : Declared) (k : Client) (is : List ℕ) → Scripted E s d → OfSetup B E s (commands_at s d k is)
all_sends B E s d k [] h = tt
all_sends B E s d k (i ∷ is) h =
    each_both (SentOut B E s.clusters) (command_at s d k (Some i)) (commands_at s d k is) (at_sends B E s d k (Some i) h) (all_sends B E s d k is h)

connect_sends : (B : Type 0) (E : Entry → Type 0) (s : Setup) (d : Declared) (k : Client) → Scripted E s d → OfSetup B E s (connects s d k).sent
connect_sends B E s d k h =
    let F = SentOut B E s.clusters in
    let flow = each_both F (command_at s d k k.flow) (commands_at s d k k.unanswered) (at_sends B E s d k k.flow h) (all_sends B E s d k k.unanswered h) in
    let sub = each_both F (command_at s d k k.sub) (command_at s d k k.flow ++ commands_at s d k k.unanswered) (at_sends B E s d k k.sub h) flow in
    (record { carried = tt; small = λ b. tt }, each_both F (command_at s d k k.produce) (command_at s d k k.sub ++ (command_at s d k k.flow ++ commands_at s d k k.unanswered)) (at_sends B E s d k k.produce h) sub)

abbrev ActsFor : Type 0 → (Entry → Type 0) → Setup → Acted → Type 0
ActsFor B E s a = OfSetup B E s a.sent

ack_sends : (B : Type 0) (E : Entry → Type 0) (s : Setup) (k : Client) (i : Ident) (o : Option Position) → ActsFor B E s (acks_one k i o)
ack_sends B E s k i None = tt
ack_sends B E s k i (Some p) = (record { carried = tt; small = λ b. omega arith }, tt)

ack_to_sends : (B : Type 0) (E : Entry → Type 0) (s : Setup) (k : Client) (o : Option Position) → ActsFor B E s (acks_to k o)
ack_to_sends B E s k None = tt
ack_to_sends B E s k (Some p) = (record { carried = tt; small = λ b. omega arith }, tt)

few_positions : (n : ℕ) (hs : List Held) → length (map (λ (g : Held). g.position) (take n hs)) ≤ n
few_positions zero hs = omega arith
few_positions (suc n) [] = omega arith
few_positions (suc n) (h ∷ hs) = omega (arith, few_positions n hs)

ack_all_sends : (B : Type 0) (E : Entry → Type 0) (s : Setup) (k : Client) (hs : List Held) → ActsFor B E s (acks_all k hs)
ack_all_sends B E s k [] = tt
ack_all_sends B E s k (h ∷ hs) = (record { carried = tt; small = λ b. few_positions most_acks (h ∷ hs) }, tt)

line_sends : (B : Type 0) (E : Entry → Type 0) (s : Setup) (d : Declared) (k : Client) (o : Option Line) → Scripted E s d → IfSome o (λ l. is_line s l ≡ true) → ActsFor B E s (go_line s d k o)
line_sends B E s d k None h is = tt
line_sends B E s d k (Some line.Produce) h is = command_sends B E s d (record (past k) { produce = Some k.done }) k.done (Some line.Produce) h is
line_sends B E s d k (Some (line.Pub seq to key text)) h is =
    on_if (ActsFor B E s) (is_some k.produce && nat_lt (length k.unanswered) most_unanswered) _ _ (command_sends B E s d k k.done (Some (line.Pub seq to key text)) h is) tt
line_sends B E s d k (Some (line.Sub n kind earliest replicated)) h is = command_sends B E s d k k.done (Some (line.Sub n kind earliest replicated)) h is
line_sends B E s d k (Some (line.Flow permits)) h is = on_if (ActsFor B E s) (is_some k.sub) _ _ (command_sends B E s d k k.done (Some (line.Flow permits)) h is) tt
line_sends B E s d k (Some (line.Ack i)) h is = ack_sends B E s k i (first_held k.held i)
line_sends B E s d k (Some (line.AckTo i)) h is = ack_to_sends B E s k (first_held k.held i)
line_sends B E s d k (Some line.AckAll) h is = ack_all_sends B E s k k.held
line_sends B E s d k (Some line.Unsub) h is = on_if (ActsFor B E s) (is_some k.sub) _ _ (record { carried = tt; small = λ b. tt }, tt) tt
line_sends B E s d k (Some line.Close) h is = on_if (ActsFor B E s) (is_some k.sub) _ _ (record { carried = tt; small = λ b. tt }, tt) tt
line_sends B E s d k (Some line.CloseProducer) h is =
    on_if (ActsFor B E s) (is_some k.produce && (length k.unanswered == 0)) _ _ (record { carried = tt; small = λ b. tt }, tt) tt
line_sends B E s d k (Some line.Ping) h is = (record { carried = tt; small = λ b. tt }, tt)
line_sends B E s d k (Some (line.Move x)) h is = connect_sends B E s d (connected_to x (past k)) h

go_sends : (B : Type 0) (E : Entry → Type 0) (s : Setup) (d : Declared) (k : Client) → Scripted E s d → ActsFor B E s (go s d k)
unfolding go
go_sends B E s d k h = on_if (ActsFor B E s) k.connected _ _ (line_sends B E s d k (slice_get d.lines k.done) h (h.lines k.done)) tt

reconnect_sends : (B : Type 0) (E : Entry → Type 0) (s : Setup) (d : Declared) (k : Client) → Scripted E s d → ActsFor B E s (reconnect s d k)
unfolding reconnect
reconnect_sends B E s d k h = connect_sends B E s d (connected_to k.cluster k) h

get_sends : (B : Type 0) (E : Entry → Type 0) (s : Setup) (d : Declared) (k : Client) (o : Option Packet) → ActsFor B E s (get d k o)
unfolding get
get_sends B E s d k None = tt
get_sends B E s d k (Some p) = tt

-- whatever a client does
pub goes_with : (B : Type 0) (E : Entry → Type 0) (s : Setup) → IsScripted s → ((e : Entry) → IsPlainEntry s.clusters None e → E e) → (c : ℕ) → has_client s c ≡ true → (k : Client) (o : Option Packet) → Each (SentOut B E s.clusters) (client_acted s k (event.Go c) o).sent
goes_with B E s h plain c has k o = go_sends B E s (declared_at s c) k (scripted E s h plain c has)

pub reconnects_with : (B : Type 0) (E : Entry → Type 0) (s : Setup) → IsScripted s → ((e : Entry) → IsPlainEntry s.clusters None e → E e) → (c : ℕ) → has_client s c ≡ true → (k : Client) (o : Option Packet)
    → Each (SentOut B E s.clusters) (client_acted s k (event.Reconnect c) o).sent
reconnects_with B E s h plain c has k o = reconnect_sends B E s (declared_at s c) k (scripted E s h plain c has)

pub gets_with : (B : Type 0) (E : Entry → Type 0) (s : Setup) (c : ℕ) (k : Client) (o : Option Packet) → Each (SentOut B E s.clusters) (client_acted s k (event.Get c) o).sent
gets_with B E s c k o = get_sends B E s (declared_at s c) k o
