-- Each row that breaks no rule keeps what is kept.
use Rattle.std.proofs.Common.{◌≡◌, ℕ, ◌+◌, ◌<◌, ◌≤◌, ◌^◌, nat_lt, ◌==◌, Bool, true, false, not, ◌&&◌, ◌||◌, List, [], ◌∷◌, ◌++◌, length, map, filter, slice_index_or, All, arith, refl, sym, ap, subst, ◌∙◌}
use Rattle.std.specs.List.{list_all, list_any}
use Rattle.std.specs.Str.{bytes_eq}
use Rattle.std.proofs.Math.Bool.{or-false, or-true}
use Rattle.std.proofs.Math.Seq.{map-set_same}
use Rattle.std.proofs.lemmas.Bool.{and_from, and_parts, cond_both, eqb-true, leb-false, ltb-false, or_left}
use Rattle.std.proofs.lemmas.List.{length_push, length-append, length-map, length-set, map-append}
use Rattle.std.proofs.lemmas.List.Elements.{All-nil, All-push, All-set, All-get_or, All-head, All-tail, All-weaker, filter-append}
use Rattle.std.proofs.lemmas.List.Folds.{list_all-append, list_any-append}
use Rattle.geo_base.specs.declared.client.Line.{Line}
use Rattle.geo_base.specs.declared.client.Line.TheVariants as line
use Rattle.geo_base.specs.Name.{is_name}
use Rattle.geo_base.specs.Scripted.{AreDistinct, clients_of, is_line, is_move, is_produce, stays_or_is_silent}
use Rattle.geo_base.specs.Setup.{Declared, Setup, declared_at, nobody, sub_names}
use Rattle.script_rows.specs.NameBytes.{is_among}
use Rattle.script_rows.specs.NameWords.{Word}
use Rattle.script_rows.specs.declared.act_kind.ActKind.{ActKind}
use Rattle.script_rows.specs.declared.act_kind.ActKind.TheVariants as act
use Rattle.script_rows.specs.declared.column.Column.TheVariants as column
use Rattle.script_rows.specs.declared.fault.Rule.TheVariants as rule
use Rattle.script_rows.specs.declared.kind.Kind.TheVariants as kind
use Rattle.script_rows.specs.declared.line_kind.LineKind.TheVariants as row
use Rattle.script_rows.specs.declared.names.Member.{Member}
use Rattle.script_rows.specs.declared.value.Value.{Value}
use Rattle.script_rows.specs.Columns.{is_other_role, seen_after}
use Rattle.script_rows.specs.Names.{Names, Seen, in_role, nothing_seen, subs_of}
use Rattle.script_rows.specs.Rows.{act_columns, columns_of, rank, role_of}
use Rattle.script_rows.specs.Values.{first, item_at, line_of, name_at, rest, sub_kind_numbered}
use Rattle.script_rows.specs.Written.{AreFit, AreNames, word_of}
use Rattle.script_text.specs.Adding.{new_client, one_more, with_client, with_cluster, with_ledger, with_line, with_topic, with_values}
use Rattle.script_text.specs.Kept.{AreKeptClients, IsKept, IsKeptClient, IsKeptLine, names_of_clients}
use Rattle.script_text.specs.Naming.{member_of}
use Rattle.script_text.specs.Scenario.{has_printable_text}
use Rattle.script_text.specs.Script.{Declarations, nothing_declared}
use Rattle.script_text.specs.Subs.{AreNoted, noted_names}
use Rattle.script_text.proofs.Alike.{noted_among, noted_count}
use Rattle.script_text.proofs.Distinct.{AreDistinct-nil, AreDistinct-push, among_names}
use Rattle.script_text.proofs.Noting.{member_is}
use Rattle.script_text.proofs.Said.{chance_said, client_said, cluster_said, doer_said, doer_topic, ledger_said, line_in, sub_said, topic_said}
use Rattle.script_text.proofs.SubNames.{few_kept, few_with_sub, subs_of_pushed}

pub All-none : {X : Type 0} (P : X → Type 0) (xs : List X) → length xs ≡ 0 → All P xs
All-none P [] none = All-nil P
All-none P (x ∷ xs) none = absurd (omega arith)

list_all-push : {X : Type 0} (p : X → Bool) (xs : List X) (x : X) → list_all p xs ≡ true → p x ≡ true → list_all p (xs ++ x ∷ []) ≡ true
list_all-push p xs x all is =
    rw (list_all-append p xs (x ∷ [])) (and_from (list_all p xs) (p x && true) all (and_from (p x) true is refl))

names_push : (names : List Word) (w : Word) → AreNames names → is_name w ≡ true → is_among names w ≡ false → AreNames (names ++ w ∷ [])
names_push names w k is new =
    record { each = list_all-push is_name names w k.each is; apart = AreDistinct-push names w new k.apart }

-- ---- one more line
more_lines : (n : ℕ) (s : Setup) (d : Declared) → IsKeptClient n s d → IsKeptClient (n + 1) s d
more_lines n s d k = record {
  name = k.name;
  topic = k.topic;
  cluster = k.cluster;
  lines = k.lines;
  silent = k.silent;
  few = omega (arith, k.few);
}

all_more_lines : (n : ℕ) (s : Setup) (ds : List Declared) → All (IsKeptClient n s) ds → All (IsKeptClient (n + 1) s) ds
all_more_lines n s ds all = All-weaker (IsKeptClient n s) (IsKeptClient (n + 1) s) (more_lines n s) ds all

more_clients : (n : ℕ) (s : Setup) → AreKeptClients n s → AreKeptClients (n + 1) s
more_clients n s k = record {
  each = all_more_lines n s s.clients k.each;
  apart = k.apart;
  few = omega (arith, k.few);
  of_topic = k.of_topic;
  subs = k.subs;
}

-- what a line that declares nothing leaves
pub skipped_kept : (n : ℕ) (d : Declarations) → IsKept n d → IsKept (n + 1) d
skipped_kept n d k = record {
  ledger = k.ledger;
  chance = k.chance;
  clusters = k.clusters;
  topics = k.topics;
  clients = more_clients n d.setup k.clients;
  no_topics = k.no_topics;
  no_clients = k.no_clients;
}

pub nothing_kept : IsKept 1 nothing_declared
nothing_kept = record {
  ledger = (omega arith, omega arith);
  chance = tt;
  clusters = record { names = record { each = refl; apart = AreDistinct-nil }; few = omega arith };
  topics = record { names = record { each = refl; apart = AreDistinct-nil }; few = omega arith; pair = λ some. absurd (omega arith) };
  clients = record {
    each = All-nil (IsKeptClient 1 nothing_declared.setup);
    apart = AreDistinct-nil;
    few = omega arith;
    of_topic = λ t. omega arith;
    subs = λ t. omega arith;
  };
  no_topics = λ _. refl;
  no_clients = λ _. refl;
}

pub geo_kept : (n : ℕ) (d : Declarations) (vs : List Value) → rank d.progress.last ≤ 0 → IsKept n d → IsKept (n + 1) (with_values d (kind.Other row.Geo) vs)
geo_kept n d vs early k = record {
  ledger = k.ledger;
  chance = k.chance;
  clusters = k.clusters;
  topics = k.topics;
  clients = more_clients n d.setup k.clients;
  no_topics = λ _. k.no_topics (omega (arith, early));
  no_clients = λ _. k.no_clients (omega (arith, early));
}

pub chance_kept : (n : ℕ) (d : Declarations) (ss : List (List Word)) (vs : List Value) → AreFit (noted_names d.setup ss) nothing_seen (columns_of (kind.Other row.Chance)) vs → rank d.progress.last ≤ 1 → IsKept n d → IsKept (n + 1) (with_values d (kind.Other row.Chance) vs)
chance_kept n d ss vs f early k = record {
  ledger = k.ledger;
  chance = chance_said (noted_names d.setup ss) vs f;
  clusters = k.clusters;
  topics = k.topics;
  clients = more_clients n d.setup k.clients;
  no_topics = λ _. k.no_topics (omega (arith, early));
  no_clients = λ _. k.no_clients (omega (arith, early));
}

pub ledger_kept : (n : ℕ) (d : Declarations) (ss : List (List Word)) (vs : List Value) → AreFit (noted_names d.setup ss) nothing_seen (columns_of (kind.Other row.Ledger)) vs → rank d.progress.last ≤ 1 → IsKept n d → IsKept (n + 1) (with_values d (kind.Other row.Ledger) vs)
ledger_kept n d ss vs f early k =
    let clients = k.no_clients (omega (arith, early)) in
    record {
      ledger = ledger_said (noted_names d.setup ss) vs f;
      chance = k.chance;
      clusters = k.clusters;
      topics = k.topics;
      clients = record {
        each = All-none (IsKeptClient (n + 1) (with_ledger d.setup (item_at vs 0))) d.setup.clients clients;
        apart = k.clients.apart;
        few = omega (arith, k.clients.few);
        of_topic = k.clients.of_topic;
        subs = k.clients.subs;
      };
      no_topics = λ _. k.no_topics (omega (arith, early));
      no_clients = λ _. clients;
    }

pub cluster_kept : (n : ℕ) (d : Declarations) (ss : List (List Word)) (vs : List Value) → AreFit (noted_names d.setup ss) nothing_seen (columns_of (kind.Other row.Cluster)) vs → rank d.progress.last ≤ 2 → IsKept n d → IsKept (n + 1) (with_values d (kind.Other row.Cluster) vs)
cluster_kept n d ss vs f early k =
    let w = name_at vs 0 in
    let said = cluster_said (noted_names d.setup ss) vs f in
    let topics = k.no_topics (omega (arith, early)) in
    let clients = k.no_clients (omega (arith, early)) in
    record {
      ledger = k.ledger;
      chance = k.chance;
      clusters = record {
        names = names_push d.setup.clusters w k.clusters.names said.0 (said.1 rule.NameTwice);
        few = omega (arith, length_push d.setup.clusters w, leb-false 8 (length d.setup.clusters) (said.1 rule.Clusters));
      };
      topics = record { names = k.topics.names; few = k.topics.few; pair = λ some. absurd (omega (arith, topics, some)) };
      clients = record {
        each = All-none (IsKeptClient (n + 1) (with_cluster d.setup w)) d.setup.clients clients;
        apart = k.clients.apart;
        few = omega (arith, k.clients.few);
        of_topic = k.clients.of_topic;
        subs = k.clients.subs;
      };
      no_topics = λ _. topics;
      no_clients = λ _. clients;
    }

pub topic_kept : (n : ℕ) (d : Declarations) (ss : List (List Word)) (vs : List Value) → AreFit (noted_names d.setup ss) nothing_seen (columns_of (kind.Other row.Topic)) vs → rank d.progress.last ≤ 3 → IsKept n d → IsKept (n + 1) (with_values d (kind.Other row.Topic) vs)
topic_kept n d ss vs f early k =
    let w = name_at vs 0 in
    let said = topic_said (noted_names d.setup ss) vs f in
    let clients = k.no_clients (omega (arith, early)) in
    record {
      ledger = k.ledger;
      chance = k.chance;
      clusters = k.clusters;
      topics = record {
        names = names_push d.setup.topics w k.topics.names said.0 (said.1 rule.NameTwice);
        few = omega (arith, length_push d.setup.topics w, leb-false 16 (length d.setup.topics) (said.1 rule.Topics));
        pair = λ _. ltb-false (length d.setup.clusters) 2 (said.1 rule.Lone);
      };
      clients = record {
        each = All-none (IsKeptClient (n + 1) (with_topic d.setup w)) d.setup.clients clients;
        apart = k.clients.apart;
        few = omega (arith, k.clients.few);
        of_topic = k.clients.of_topic;
        subs = k.clients.subs;
      };
      no_topics = λ late. absurd (omega arith);
      no_clients = λ _. clients;
    }

-- ---- a client
abbrev pub KnowsMore : Setup → List Declared → Type 0
KnowsMore s ds =
    (p : Word) → list_any (λ (d : Declared). bytes_eq d.name p) s.clients ≡ true → list_any (λ (d : Declared). bytes_eq d.name p) ds ≡ true

known_wider : (s : Setup) (ds : List Declared) → KnowsMore s ds → (l : Line) → is_line s l ≡ true → is_line (record s { clients = ds }) l ≡ true
known_wider s ds more (line.Ack i) e =
    let parts = and_parts (nat_lt i.origin (length s.clusters) && nat_lt i.seq (2 ^ 63)) (list_any (λ (d : Declared). bytes_eq d.name i.producer) s.clients) e in
    and_from (nat_lt i.origin (length s.clusters) && nat_lt i.seq (2 ^ 63)) (list_any (λ (d : Declared). bytes_eq d.name i.producer) ds) parts.0 (more i.producer parts.1)
known_wider s ds more (line.AckTo i) e =
    let parts = and_parts (nat_lt i.origin (length s.clusters) && nat_lt i.seq (2 ^ 63)) (list_any (λ (d : Declared). bytes_eq d.name i.producer) s.clients) e in
    and_from (nat_lt i.origin (length s.clusters) && nat_lt i.seq (2 ^ 63)) (list_any (λ (d : Declared). bytes_eq d.name i.producer) ds) parts.0 (more i.producer parts.1)
known_wider s ds more l e = e

-- a client knows the same lines among other clients
client_wider : (n : ℕ) (s : Setup) (ds : List Declared) → KnowsMore s ds → (d : Declared) → IsKeptClient n s d → IsKeptClient n (record s { clients = ds }) d
client_wider n s ds more d k = record {
  name = k.name;
  topic = k.topic;
  cluster = k.cluster;
  lines = All-weaker (IsKeptLine s) (IsKeptLine (record s { clients = ds })) (λ (l : Line) (m : IsKeptLine s l). record { known = known_wider s ds more l m.known; text = m.text }) d.lines k.lines;
  silent = k.silent;
  few = k.few;
}

pushed_more : (s : Setup) (d : Declared) → KnowsMore s (s.clients ++ d ∷ [])
pushed_more s d p is =
    rw (list_any-append (λ (e : Declared). bytes_eq e.name p) s.clients (d ∷ [])) (or_left (list_any (λ (e : Declared). bytes_eq e.name p) s.clients) (list_any (λ (e : Declared). bytes_eq e.name p) (d ∷ [])) is)

-- one more client of a topic, or of another one
of_topic_pushed : (t : ℕ) (ds : List Declared) (d : Declared) → length (filter (λ (e : Declared). e.topic == t) ds) ≤ 32 → (d.topic ≡ t → length (filter (λ (e : Declared). e.topic == t) ds) < 32) → length (filter (λ (e : Declared). e.topic == t) (ds ++ d ∷ [])) ≤ 32
of_topic_pushed t ds d few room =
    rw (filter-append (λ (e : Declared). e.topic == t) ds (d ∷ [])) (cond_both (d.topic == t) (d ∷ []) [] (λ (es : List Declared). length (filter (λ (e : Declared). e.topic == t) ds ++ es) ≤ 32) (λ same. omega (arith, room (eqb-true _ _ same), length-append (filter (λ (e : Declared). e.topic == t) ds) (d ∷ []))) (λ _. omega (arith, length-append {A = Declared} (filter (λ (e : Declared). e.topic == t) ds) [])))

pub client_kept : (n : ℕ) (d : Declarations) (ss : List (List Word)) (vs : List Value) → AreFit (noted_names d.setup ss) nothing_seen (columns_of (kind.Other row.Client)) vs → rank d.progress.last ≤ 4 → 0 < n → IsKept n d → IsKept (n + 1) (with_values d (kind.Other row.Client) vs)
client_kept n d ss vs f early some k =
    let s = d.setup in
    let e = new_client (name_at vs 0) (item_at vs 1) (item_at vs 2) in
    let said = client_said s ss vs k.topics.names f in
    let after = with_client s e in
    let new : is_among (names_of_clients s) (name_at vs 0) ≡ false = said.named.1 rule.NameTwice in
    record {
      ledger = k.ledger;
      chance = k.chance;
      clusters = k.clusters;
      topics = k.topics;
      clients = record {
        each = All-push (IsKeptClient (n + 1) after) s.clients e (All-weaker (IsKeptClient (n + 1) s) (IsKeptClient (n + 1) after) (client_wider (n + 1) s (s.clients ++ e ∷ []) (pushed_more s e)) s.clients (all_more_lines n s s.clients k.clients.each)) (record {
          name = said.named.0;
          topic = said.topic;
          cluster = said.cluster;
          lines = All-nil (IsKeptLine after);
          silent = refl;
          few = omega arith;
        });
        apart = rw (map-append (λ (c : Declared). c.name) s.clients (e ∷ [])) (AreDistinct-push (names_of_clients s) (name_at vs 0) new k.clients.apart);
        few = omega (arith, length_push s.clients e, k.clients.few);
        of_topic = λ (t : ℕ). of_topic_pushed t s.clients e (k.clients.of_topic t) (λ same. subst (λ (u : ℕ). length (clients_of s u) < 32) same said.few);
        subs = λ (t : ℕ). rw (subs_of_pushed s e t refl) (k.clients.subs t);
      };
      no_topics = λ late. absurd (omega arith);
      no_clients = λ late. absurd (omega arith);
    }

-- ---- a client's line
any_more : (p : Line → Bool) (ls : List Line) (l : Line) → list_any p (ls ++ l ∷ []) ≡ (list_any p ls || p l)
any_more p ls l =
    list_any-append p ls (l ∷ []) ∙ ap (λ (b : Bool). list_any p ls || b) (or-false (p l))

-- what a line makes of its client
pub record IsNoted (d : Declared) (k : ActKind) (l : Line) : Type 0 where
  pub role : in_role (member_of d) (role_of k) ≡ member_of (one_more d l)
  pub silent : stays_or_is_silent d.lines ≡ true → is_other_role (member_of d) (role_of k) ≡ false → stays_or_is_silent (d.lines ++ l ∷ []) ≡ true

abbrev pub member_with : ℕ → Bool → Bool → Member
member_with t p m = record { topic = t; produces = p; moves = m }

-- by what is there of both kinds of line after it
noted_by : (d : Declared) (k : ActKind) (l : Line) (p m : Bool) → list_any is_produce (d.lines ++ l ∷ []) ≡ p → list_any is_move (d.lines ++ l ∷ []) ≡ m → in_role (member_of d) (role_of k) ≡ member_with d.topic p m → (stays_or_is_silent d.lines ≡ true → is_other_role (member_of d) (role_of k) ≡ false → not (p && m) ≡ true) → IsNoted d k l
noted_by d k l p m produces moves role silent = record {
  role = role ∙ sym (ap (λ (b : Bool). member_with d.topic b (list_any is_move (d.lines ++ l ∷ []))) produces ∙ ap (λ (b : Bool). member_with d.topic p b) moves);
  silent = λ stays other. ap (λ (b : Bool). not (b && list_any is_move (d.lines ++ l ∷ []))) produces ∙ (ap (λ (b : Bool). not (p && b)) moves ∙ silent stays other);
}

-- a line of this kind is not added
none_more : (p : Line → Bool) (ls : List Line) (l : Line) → p l ≡ false → list_any p (ls ++ l ∷ []) ≡ list_any p ls
none_more p ls l none =
    any_more p ls l ∙ (ap (λ (b : Bool). list_any p ls || b) none ∙ or-false (list_any p ls))

noted_plain : (d : Declared) (k : ActKind) (l : Line) → in_role (member_of d) (role_of k) ≡ member_of d → is_produce l ≡ false → is_move l ≡ false → IsNoted d k l
noted_plain d k l plain p m =
    noted_by d k l (list_any is_produce d.lines) (list_any is_move d.lines) (none_more is_produce d.lines l p) (none_more is_move d.lines l m) plain (λ stays other. stays)

noted_produce : (d : Declared) → IsNoted d act.Produce line.Produce
noted_produce d =
    noted_by d act.Produce line.Produce true (list_any is_move d.lines) (any_more is_produce d.lines line.Produce ∙ or-true (list_any is_produce d.lines)) (none_more is_move d.lines line.Produce refl) refl (λ stays other. ap not other)

noted_move : (d : Declared) (x : ℕ) → IsNoted d act.Move (line.Move x)
noted_move d x =
    noted_by d act.Move (line.Move x) (list_any is_produce d.lines) true (none_more is_produce d.lines (line.Move x) refl) (any_more is_move d.lines (line.Move x) ∙ or-true (list_any is_move d.lines)) refl (λ stays other. ap (λ (b : Bool). not (b && true)) other)

pub line_noted : (d : Declared) (k : ActKind) (vs : List Value) → IsNoted d k (line_of k vs)
line_noted d act.Produce vs = noted_produce d
line_noted d act.Move vs = noted_move d (item_at vs 0)
line_noted d act.Pub vs = noted_plain d act.Pub (line_of act.Pub vs) refl refl refl
line_noted d act.Sub vs = noted_plain d act.Sub (line_of act.Sub vs) refl refl refl
line_noted d act.Flow vs = noted_plain d act.Flow (line_of act.Flow vs) refl refl refl
line_noted d act.Ack vs = noted_plain d act.Ack (line_of act.Ack vs) refl refl refl
line_noted d act.AckTo vs = noted_plain d act.AckTo (line_of act.AckTo vs) refl refl refl
line_noted d act.AckAll vs = noted_plain d act.AckAll line.AckAll refl refl refl
line_noted d act.Unsub vs = noted_plain d act.Unsub line.Unsub refl refl refl
line_noted d act.Close vs = noted_plain d act.Close line.Close refl refl refl
line_noted d act.CloseProducer vs = noted_plain d act.CloseProducer line.CloseProducer refl refl refl
line_noted d act.Ping vs = noted_plain d act.Ping line.Ping refl refl refl

-- the names of clients are names
client_names : (n : ℕ) (s : Setup) (ds : List Declared) → All (IsKeptClient n s) ds → list_all is_name (map (λ (d : Declared). d.name) ds) ≡ true
client_names n s [] all = refl
client_names n s (d ∷ ds) all =
    and_from (is_name d.name) (list_all is_name (map (λ (e : Declared). e.name) ds)) (All-head (IsKeptClient n s) d ds all).name (client_names n s ds (All-tail (IsKeptClient n s) d ds all))

pub clients_names : (n : ℕ) (s : Setup) → AreKeptClients n s → AreNames (names_of_clients s)
clients_names n s k = record { each = client_names n s s.clients k.each; apart = k.apart }

topics_counted : (t : ℕ) (ds : List Declared) → length (filter (λ (d : Declared). d.topic == t) ds) ≡ length (filter (λ (u : ℕ). u == t) (map (λ (d : Declared). d.topic) ds))
topics_counted t [] = refl
topics_counted t (d ∷ ds) =
    cond_both (d.topic == t) (d ∷ filter (λ (e : Declared). e.topic == t) ds) (filter (λ (e : Declared). e.topic == t) ds) (λ (es : List Declared). length es ≡ length (filter (λ (u : ℕ). u == t) (map (λ (e : Declared). e.topic) (d ∷ ds)))) (λ same. rw same (omega (arith, topics_counted t ds))) (λ other. rw other (topics_counted t ds))

same_clients : (s : Setup) (ds : List Declared) → map (λ (d : Declared). d.name) ds ≡ names_of_clients s → KnowsMore s ds
same_clients s ds same p is =
    sym (among_names ds p) ∙ (ap (λ (ns : List Word). is_among ns p) same ∙ (among_names s.clients p ∙ is))

-- a line names at most one subscription more, and none where its topic has 32
subs_fit : (n : ℕ) (s : Setup) (ss : List (List Word)) (k : ActKind) (vs : List Value) (c t : ℕ) → c < length s.clients → (is_among (sub_names s (declared_at s c).topic) (name_at vs 0) ≡ false → k ≡ act.Sub → length (sub_names s (declared_at s c).topic) < 32) → length (sub_names s t) ≤ 32 → length (sub_names (with_line s c (line_of k vs)) t) ≤ 32
subs_fit n s ss act.Sub vs c t within room few = few_with_sub s c (name_at vs 0) (sub_kind_numbered (item_at vs 1)) (item_at vs 2 == 1) (item_at vs 3 == 1) t within (λ new. room new refl) few
subs_fit n s ss act.Produce vs c t within room few = few_kept s c line.Produce t within refl few
subs_fit n s ss act.Pub vs c t within room few = few_kept s c (line_of act.Pub vs) t within refl few
subs_fit n s ss act.Flow vs c t within room few = few_kept s c (line_of act.Flow vs) t within refl few
subs_fit n s ss act.Ack vs c t within room few = few_kept s c (line_of act.Ack vs) t within refl few
subs_fit n s ss act.AckTo vs c t within room few = few_kept s c (line_of act.AckTo vs) t within refl few
subs_fit n s ss act.AckAll vs c t within room few = few_kept s c line.AckAll t within refl few
subs_fit n s ss act.Unsub vs c t within room few = few_kept s c line.Unsub t within refl few
subs_fit n s ss act.Close vs c t within room few = few_kept s c line.Close t within refl few
subs_fit n s ss act.CloseProducer vs c t within room few = few_kept s c line.CloseProducer t within refl few
subs_fit n s ss act.Ping vs c t within room few = few_kept s c line.Ping t within refl few
subs_fit n s ss act.Move vs c t within room few = few_kept s c (line_of act.Move vs) t within refl few

-- what is known of a client's line
pub record IsLineSaid (s : Setup) (c : ℕ) (k : ActKind) (l : Line) : Type 0 where
  pub within : c < length s.clients
  pub mixed : is_other_role (member_of (declared_at s c)) (role_of k) ≡ false
  pub known : is_line s l ≡ true
  pub room : (t : ℕ) → length (sub_names (with_line s c l) t) ≤ 32

sub_room : (s : Setup) (ss : List (List Word)) (k : ActKind) (vs : List Value) (c : ℕ) (t : ℕ) → (declared_at s c).topic ≡ t → t < length s.topics → AreNoted s ss → (k ≡ act.Sub → is_among (slice_index_or ss t []) (name_at vs 0) ≡ false → length (slice_index_or ss t []) < 32) → is_among (sub_names s (declared_at s c).topic) (name_at vs 0) ≡ false → k ≡ act.Sub → length (sub_names s (declared_at s c).topic) < 32
sub_room s ss k vs c t topic there noted room new is =
    let old : is_among (slice_index_or ss t []) (name_at vs 0) ≡ false = noted_among s ss t (name_at vs 0) noted ∙ subst (λ (u : ℕ). is_among (sub_names s u) (name_at vs 0) ≡ false) topic new in
    subst (λ (u : ℕ). length (sub_names s u) < 32) (sym topic) (omega (arith, room is old, noted_count s ss t noted))

sub_only : (m : Names) (z : Seen) (k : ActKind) (vs : List Value) → AreFit m z (act_columns k) vs → k ≡ act.Sub → is_among (subs_of m z.topic) (name_at vs 0) ≡ false → length (subs_of m z.topic) < 32
sub_only m z act.Sub vs f is new = sub_said m z vs f new
sub_only m z k vs f is new = cc

line_said : (n : ℕ) (s : Setup) (ss : List (List Word)) (k : ActKind) (vs : List Value) → AreNoted s ss → AreFit (noted_names s ss) nothing_seen (columns_of (kind.Do k)) vs → AreKeptClients n s → IsLineSaid s (item_at vs 0) k (line_of k (rest vs))
line_said n s ss k vs noted f clients =
    let m = noted_names s ss in
    let c = item_at vs 0 in
    let names = clients_names n s clients in
    let doer = doer_said m (role_of k) (act_columns k) vs names f in
    let within : c < length s.clients = omega (arith, doer.within, length-map s.clients (λ (d : Declared). d.name)) in
    let topic = doer_topic m vs names doer.within ∙ ap (λ (x : Member). x.topic) (member_is s ss c within) in
    let client : IsKeptClient n s (declared_at s c) = All-get_or (IsKeptClient n s) s.clients c nobody within clients.each in
    let seen = seen_after m nothing_seen (column.Doer (role_of k)) (word_of m nothing_seen (column.Doer (role_of k)) (first vs)) in
    record {
      within = within;
      mixed = ap (λ (x : Member). is_other_role x (role_of k)) (sym (member_is s ss c within)) ∙ doer.mixed;
      known = line_in s ss seen k (rest vs) f.2;
      room = λ (t : ℕ). subs_fit n s ss k (rest vs) c t within (sub_room s ss k (rest vs) c seen.topic (sym topic) (subst (λ (u : ℕ). u < length s.topics) (sym topic) client.topic) noted (sub_only m seen k (rest vs) f.2)) (clients.subs t);
    }

pub line_kept : (n : ℕ) (d : Declarations) (ss : List (List Word)) (k : ActKind) (vs : List Value) → AreNoted d.setup ss → AreFit (noted_names d.setup ss) nothing_seen (columns_of (kind.Do k)) vs → has_printable_text (line_of k (rest vs)) ≡ true → rank d.progress.last ≤ 5 → IsKept n d → IsKept (n + 1) (with_values d (kind.Do k) vs)
line_kept n d ss k vs noted f text early kept =
    let s = d.setup in
    let c = item_at vs 0 in
    let l = line_of k (rest vs) in
    let old = declared_at s c in
    let e = one_more old l in
    let after = with_line s c l in
    let said = line_said n s ss k vs noted f kept.clients in
    let same_names : map (λ (b : Declared). b.name) after.clients ≡ names_of_clients s = map-set_same (λ (b : Declared). b.name) s.clients c e nobody refl in
    let same_topics : map (λ (b : Declared). b.topic) after.clients ≡ map (λ (b : Declared). b.topic) s.clients = map-set_same (λ (b : Declared). b.topic) s.clients c e nobody refl in
    let more = same_clients s after.clients same_names in
    let had : IsKeptClient n s old = All-get_or (IsKeptClient n s) s.clients c nobody said.within kept.clients.each in
    let has = client_wider n s after.clients more old had in
    let others = All-weaker (IsKeptClient (n + 1) s) (IsKeptClient (n + 1) after) (client_wider (n + 1) s after.clients more) s.clients (all_more_lines n s s.clients kept.clients.each) in
    let new : IsKeptLine after l = record { known = known_wider s after.clients more l said.known; text = text } in
    record {
      ledger = kept.ledger;
      chance = kept.chance;
      clusters = kept.clusters;
      topics = kept.topics;
      clients = record {
        each = All-set (IsKeptClient (n + 1) after) s.clients c e (record {
          name = has.name;
          topic = has.topic;
          cluster = has.cluster;
          lines = All-push (IsKeptLine after) old.lines l has.lines new;
          silent = (line_noted old k (rest vs)).silent has.silent said.mixed;
          few = omega (arith, length_push old.lines l, has.few);
        }) others;
        apart = subst AreDistinct (sym same_names) kept.clients.apart;
        few = omega (arith, length-set s.clients c e, kept.clients.few);
        of_topic = λ (t : ℕ). subst (λ (m : ℕ). m ≤ 32) (topics_counted t s.clients ∙ (ap (λ (ts : List ℕ). length (filter (λ (b : ℕ). b == t) ts)) (sym same_topics) ∙ sym (topics_counted t after.clients))) (kept.clients.of_topic t);
        subs = said.room;
      };
      no_topics = λ late. absurd (omega arith);
      no_clients = λ late. absurd (omega arith);
    }
