-- The entries of a topic are told of any bytes, and so is the durable part of a broker.
use Rattle.std.proofs.Common.{◌≡◌, ℕ, List, [], length, Ok, refl, sym}
use Rattle.std.specs.Prelude.{Option, Some, None, nat_le}
use Rattle.geo_base.specs.declared.entry.Entry.{Entry}
use Rattle.geo_base.specs.Broker.{Broker}
use Rattle.geo_base.specs.Sizes.{entry_size, most_entry_size}
use Rattle.pb_fields.specs.Canonical.{text}
use Rattle.pb_fields.proofs.Messages.{message_sound}
use Rattle.message_meta.specs.Metadata.{Metadata}
use Rattle.message_meta.specs.Table.{rows}
use Rattle.frame_values.specs.Values.{targets_of}
use Rattle.state_items.specs.declared.rule.Rule.TheVariants as rule
use Rattle.state_items.specs.Reading.{text_at}
use Rattle.state_items.specs.Telling.{Then}
use Rattle.state_items.proofs.Known.{told}
use Rattle.state_items.specs.Stored.{IsStored}
use Rattle.state_nodes.specs.Entries.{AreEntries, IsEntry, IsHeading, IsPayload, IsSized, Says, headed, nothing, sized, something}
use Rattle.state_nodes.specs.Nodes.{IsNode, behind_entries, counted_ledgers_at}
use Rattle.codec_laws.specs.Answers.{AreBytes, right, wrong}
use Rattle.codec_laws.specs.Contents.{HasContent}
use Rattle.codec_laws.proofs.Contained.{content_answer}
use Rattle.codec_laws.proofs.Metas.{MetaAnswer, meta_answer}
use Rattle.file_laws.proofs.Leaving.{SomeAnswer, behind, many_some, many_told_leaves, tested, text_leaves, then_some}
use Rattle.file_laws.proofs.Shares.{behind_entries_leave, counted_leave}

-- ---- metadata

of_meta : (bytes : List ℕ) → MetaAnswer bytes → (o : Option Metadata) × Says bytes o
of_meta bytes (right m h) = (Some m, something m h)
of_meta bytes (wrong e h) = (None, nothing (λ m is. message_sound rows bytes is.fields e is.text is.means.message h))

pub says_some : (bytes : List ℕ) → AreBytes bytes → (o : Option Metadata) × Says bytes o
says_some bytes are = of_meta bytes (meta_answer bytes are)

heading_some : (names : List (List ℕ)) (own : ℕ) (before : List Entry) (item bytes : List ℕ) → AreBytes bytes → SomeAnswer (IsHeading names own before item bytes)
heading_some names own before item bytes are =
    let said = says_some bytes are in
    (headed names own before item said.0, record { said = said.0; says = said.1; is = refl })

-- ---- the entry

entry_with : (names : List (List ℕ)) (m : Metadata) (x : ℕ) (payload : List ℕ) → HasContent names m.marker payload → (e : Entry) × IsStored names m x payload e
entry_with names m x payload c = (
  record {
    ident = record { origin = x; producer = m.producer; seq = m.seq };
    content = c.content;
    to = targets_of names m.replicate_to;
    meta = record { publish_time = m.publish_time; key = m.key; names = m.replicate_to; rest = text m.rest };
    payload = c.kept;
  },
  record { origin = refl; producer = refl; seq = refl; publish_time = refl; key = refl; listed = refl; to = refl; rest = refl; content = c.is },
)

pub stored_some : (names : List (List ℕ)) (m : Metadata) (x : ℕ) (payload : List ℕ) → AreBytes payload → (e : Entry) × IsStored names m x payload e
stored_some names m x payload are = entry_with names m x payload (content_answer names m.marker payload are)

sized_some : (names : List (List ℕ)) (h : _) (item payload rest : List ℕ) → AreBytes payload → SomeAnswer (IsSized names h item payload rest)
sized_some names h item payload rest are =
    let e = stored_some names h.meta h.origin payload are in
    (sized names item e.0 rest, record { entry = e.0; stored = e.1; is = refl })

payload_some : (names : List (List ℕ)) (h : _) (bytes : List ℕ) → AreBytes bytes → SomeAnswer (IsPayload names h bytes)
payload_some names h bytes are =
    then_some (λ r. r ≡ text_at bytes) (λ p r. IsSized names h bytes p.0 p.1 r) (text_at bytes) refl (λ p is. sized_some names h bytes p.0 p.1 (text_leaves bytes p (sym is) are).0)

pub entry_some : (names : List (List ℕ)) (own : ℕ) (before : List Entry) (bytes : List ℕ) → AreBytes bytes → SomeAnswer (IsEntry names own before bytes)
entry_some names own before bytes are =
    then_some (λ r. r ≡ text_at bytes) (λ t r. Then (IsHeading names own before bytes t.0) (λ h q. IsPayload names h t.1 q) r) (text_at bytes) refl
    (λ t is.
    let parts = text_leaves bytes t (sym is) are in
    let heading = heading_some names own before bytes t.0 parts.0 in
    then_some (IsHeading names own before bytes t.0) (λ h q. IsPayload names h t.1 q) heading.0 heading.1 (λ h k. payload_some names h t.1 parts.1))

-- what stands after it
payload_leaves : (names : List (List ℕ)) (h : _) (bytes : List ℕ) (x : Entry × List ℕ) → IsPayload names h bytes (Ok x) → AreBytes bytes → AreBytes x.1
payload_leaves names h bytes x k are =
    let p = told (λ r. r ≡ text_at bytes) (λ p r. IsSized names h bytes p.0 p.1 r) x k in
    behind (p.next.entry, p.first.1) x (tested (nat_le (entry_size names p.next.entry) most_entry_size) bytes rule.Entry (λ small. Ok (p.next.entry, p.first.1)) x (sym p.next.is)) (text_leaves bytes p.first (sym p.is) are).1

entry_leaves : (names : List (List ℕ)) (own : ℕ) (before : List Entry) (bytes : List ℕ) (x : Entry × List ℕ) → IsEntry names own before bytes (Ok x) → AreBytes bytes → AreBytes x.1
entry_leaves names own before bytes x k are =
    let t = told (λ r. r ≡ text_at bytes) (λ t r. Then (IsHeading names own before bytes t.0) (λ h q. IsPayload names h t.1 q) r) x k in
    let h = told (IsHeading names own before bytes t.first.0) (λ h q. IsPayload names h t.first.1 q) x t.next in
    payload_leaves names h.first t.first.1 x h.next (text_leaves bytes t.first (sym t.is) are).1

pub entries_some : (names : List (List ℕ)) (own count : ℕ) (bytes : List ℕ) → AreBytes bytes → SomeAnswer (AreEntries names own count bytes)
entries_some names own count bytes are = many_some (IsEntry names own) (entry_some names own) (entry_leaves names own) count [] bytes are

entries_leave : (names : List (List ℕ)) (own count : ℕ) (bytes : List ℕ) (x : List Entry × List ℕ) → AreEntries names own count bytes (Ok x) → AreBytes bytes → AreBytes x.1
entries_leave names own count bytes x k are = many_told_leaves (IsEntry names own) (entry_leaves names own) count [] bytes x k are

-- ---- a broker

pub node_some : (version per : ℕ) (names : List (List ℕ)) (own : ℕ) (bytes : List ℕ) → AreBytes bytes → SomeAnswer (IsNode version per names own bytes)
node_some version per names own bytes are =
    then_some (λ r. r ≡ counted_ledgers_at per bytes)
    (λ ls r. Then (AreEntries names own ls.0.1 ls.1) (λ es q. q ≡ behind_entries version own (length names) ls.0.0 es.0 es.1) r) (counted_ledgers_at per bytes) refl
    (λ ls is.
    let entries = entries_some names own ls.0.1 ls.1 (counted_leave per bytes ls (sym is) are) in
    then_some (AreEntries names own ls.0.1 ls.1) (λ es q. q ≡ behind_entries version own (length names) ls.0.0 es.0 es.1) entries.0 entries.1
    (λ es k. (behind_entries version own (length names) ls.0.0 es.0 es.1, refl)))

pub node_leaves : (version per : ℕ) (names : List (List ℕ)) (own : ℕ) (bytes : List ℕ) (x : Broker × List ℕ) → IsNode version per names own bytes (Ok x) → AreBytes bytes → AreBytes x.1
node_leaves version per names own bytes x k are =
    let ls = told (λ r. r ≡ counted_ledgers_at per bytes) (λ ls r. Then (AreEntries names own ls.0.1 ls.1) (λ es q. q ≡ behind_entries version own (length names) ls.0.0 es.0 es.1) r) x k in
    let es = told (AreEntries names own ls.first.0.1 ls.first.1) (λ es q. q ≡ behind_entries version own (length names) ls.first.0.0 es.0 es.1) x ls.next in
    behind_entries_leave version own (length names) ls.first.0.0 es.first.0 es.first.1 x (sym es.next)
    (entries_leave names own ls.first.0.1 ls.first.1 es.first es.is (counted_leave per bytes ls.first (sym ls.is) are))
