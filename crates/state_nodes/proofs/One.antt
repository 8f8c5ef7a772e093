-- Bytes are the durable part of one broker.
use Rattle.std.proofs.Common.{◌≡◌, ℕ, List, [], refl, sym, ap, ◌∙◌}
use Rattle.std.specs.Prelude.{Option, Some, length}
use Rattle.state_items.proofs.One.{stored_one}
use Rattle.geo_base.specs.declared.entry.Entry.{Entry}
use Rattle.geo_base.specs.Broker.{Broker}
use Rattle.message_meta.specs.Metadata.{Metadata}
use Rattle.message_meta.proofs.Meaning.{meta_text_one}
use Rattle.state_items.specs.Reading.{Answer, Read, text_at}
use Rattle.state_items.specs.Telling.{Then}
use Rattle.state_items.proofs.Many.{many_one}
use Rattle.state_items.proofs.Telling.{then_one}
use Rattle.state_nodes.specs.declared.heading.Heading.{Heading}
use Rattle.state_nodes.specs.Entries.{AreEntries, IsEntry, IsHeading, IsPayload, IsSized, Says, headed, nothing, sized, something}
use Rattle.state_nodes.specs.Nodes.{IsNode, behind_entries, counted_ledgers_at}

says_one : (bytes : List ℕ) (a b : Option Metadata) → Says bytes a → Says bytes b → a ≡ b
says_one bytes a b (something m h) (something n k) = ap (λ (x : Metadata). Some x) (meta_text_one bytes m n h k)
says_one bytes a b (something m h) (nothing k) = absurd (k m h)
says_one bytes a b (nothing h) (something n k) = absurd (h n k)
says_one bytes a b (nothing h) (nothing k) = refl

heading_one : (names : List (List ℕ)) (own : ℕ) (before : List Entry) (item bytes : List ℕ) (a b : Answer Heading) → IsHeading names own before item bytes a → IsHeading names own before item bytes b → a ≡ b
heading_one names own before item bytes a b h k =
    h.is ∙ ap (λ (m : Option Metadata). headed names own before item m) (says_one bytes h.said k.said h.says k.says) ∙ sym k.is

sized_one : (names : List (List ℕ)) (h : Heading) (item payload rest : List ℕ) (a b : Read Entry) → IsSized names h item payload rest a → IsSized names h item payload rest b → a ≡ b
sized_one names h item payload rest a b p q =
    p.is ∙ ap (λ (e : Entry). sized names item e rest) (stored_one names h.meta h.origin payload p.entry q.entry p.stored q.stored) ∙ sym q.is

payload_one : (names : List (List ℕ)) (h : Heading) (bytes : List ℕ) (a b : Read Entry) → IsPayload names h bytes a → IsPayload names h bytes b → a ≡ b
payload_one names h bytes a b p q =
    then_one (λ r. r ≡ text_at bytes) (λ x r. IsSized names h bytes x.0 x.1 r) (λ c d i j. i ∙ sym j) (λ x c d i j. sized_one names h bytes x.0 x.1 c d i j) a b p q

pub entry_one : (names : List (List ℕ)) (own : ℕ) (before : List Entry) (bytes : List ℕ) (a b : Read Entry) → IsEntry names own before bytes a → IsEntry names own before bytes b → a ≡ b
entry_one names own before bytes a b p q =
    then_one (λ r. r ≡ text_at bytes) (λ t r. Then (IsHeading names own before bytes t.0) (λ h s. IsPayload names h t.1 s) r) (λ c d i j. i ∙ sym j)
    (λ t c d i j. then_one (IsHeading names own before bytes t.0) (λ h s. IsPayload names h t.1 s) (heading_one names own before bytes t.0) (λ h e f k l. payload_one names h t.1 e f k l) c d i j) a b p q

entries_one : (names : List (List ℕ)) (own count : ℕ) (bytes : List ℕ) (a b : Read (List Entry)) → AreEntries names own count bytes a → AreEntries names own count bytes b → a ≡ b
entries_one names own count bytes a b p q = many_one (IsEntry names own) (entry_one names own) count [] bytes a b p q

pub node_one : (version per : ℕ) (names : List (List ℕ)) (own : ℕ) (bytes : List ℕ) (a b : Read Broker) → IsNode version per names own bytes a → IsNode version per names own bytes b → a ≡ b
node_one version per names own bytes a b p q =
    then_one (λ r. r ≡ counted_ledgers_at per bytes) (λ ls r. Then (AreEntries names own ls.0.1 ls.1) (λ es s. s ≡ behind_entries version own (length names) ls.0.0 es.0 es.1) r) (λ c d i j. i ∙ sym j)
    (λ ls c d i j. then_one (AreEntries names own ls.0.1 ls.1) (λ es s. s ≡ behind_entries version own (length names) ls.0.0 es.0 es.1) (entries_one names own ls.0.1 ls.1) (λ es e f k l. k ∙ sym l) c d i j) a b p q
