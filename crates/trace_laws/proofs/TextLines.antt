-- Each line of a trace reads back as the item that it was written from.
use Rattle.std.proofs.Common.{◌≡◌, ℕ, ◌^◌, ◌<◌, ◌==◌, Bool, true, false, List, [], ◌∷◌, ◌++◌, length, Option, Some, None, codes, refl, sym, ap, ◌∙◌, subst}
use Rattle.std.specs.Fmt.{decimal}
use Rattle.std.specs.List.{join_with_byte, list_all}
use Rattle.std.proofs.lemmas.Bool.{and_from, and_parts}
use Rattle.std.proofs.lemmas.List.Folds.{list_all-append}
use Rattle.geo_base.specs.declared.entry.Content.{Content}
use Rattle.geo_base.specs.declared.entry.Content.TheVariants as content
use Rattle.geo_base.specs.declared.entry.Entry.{Entry}
use Rattle.geo_base.specs.Metadata.{Metadata}
use Rattle.geo_base.specs.declared.marker.Marker.{Marker}
use Rattle.geo_base.specs.declared.planned.Cause.{Cause}
use Rattle.geo_base.specs.declared.planned.Cause.TheVariants as cause
use Rattle.geo_base.specs.declared.position.Position.{Position}
use Rattle.geo_base.specs.Client.{target_names}
use Rattle.geo_base.specs.Name.{is_name}
use Rattle.geo_base.specs.Report.{printed, shown_content, shown_key, shown_position, shown_targets, words}
use Rattle.geo_base.specs.Setup.{Setup}
use Rattle.geo_base.specs.TraceItems.{Act, Acks, Appends, Begins, Creates, Deletes, Item, Seeks, Writes}
use Rattle.geo_base.specs.TraceText.{item_line, ranges_of, shown_by, shown_cause, shown_ranges, shown_start}
use Rattle.script_rows.specs.NameBytes.{name_at}
use Rattle.script_rows.specs.NameWords.{Word}
use Rattle.script_rows.specs.Words.{words_of}
use Rattle.script_rows.specs.Written.{AreNames}
use Rattle.script_rows.proofs.Back.{is_name_at}
use Rattle.cursor_acks.proofs.Sets.{Rising}
use Rattle.trace_lines.specs.Entries.{entry_with, what_of}
use Rattle.trace_lines.specs.Lines.{cause_of, item_of, item_read}
use Rattle.trace_lines.specs.Words.{is_printable}
use Rattle.world_laws.proofs.Replicating.Effects.{Each}
use Rattle.world_laws.proofs.Snapshotting.Ids.{IsSmall}
use Rattle.audit.specs.AuditOf.{names_of}
use Rattle.trace_laws.proofs.Bytes.{Lacks, cut_front, cut_joined, lacks}
use Rattle.trace_laws.proofs.Words.{declared_back, is_plain, key_plain, name_plain, number_plain, number_reads, plain_printable, position_back, position_plain, printed_plain, printed_same, sub_back, text_back, token_plain, unspaced}
use Rattle.trace_laws.proofs.TextLists.{targets_back, targets_plain}
use Rattle.trace_laws.proofs.Ranges.{AreSmall, acked_back, acked_plain}
use Rattle.trace_laws.proofs.Entries.{IsBy, IsToldContent, IsToldEntry, data_back, marker_back, marker_plain, marker_words}

-- ---- what a line can tell

abbrev pub IsToldCause : Cause → Type 0
IsToldCause cause.Client = Unit {0}
IsToldCause cause.Marker = Unit {0}
IsToldCause (cause.Update p) = IsSmall p
IsToldCause c = ⊥

abbrev pub IsToldAct : List Word → ℕ → Act → Type 0
IsToldAct names x (Appends p e by) = IsSmall p × IsToldEntry names e × IsBy e.content (e.ident.origin == x) by
IsToldAct names x (Creates n latest) = is_name n ≡ true
IsToldAct names x (Deletes n) = is_name n ≡ true
IsToldAct names x (Acks n is c) = (is_name n ≡ true) × Rising 0 is × AreSmall is × IsToldCause c
IsToldAct names x (Seeks n i) = (is_name n ≡ true) × (i < 2 ^ 64)

abbrev pub IsToldItem : Setup → Item → Type 0
IsToldItem s (Begins n) = n < 2 ^ 64
IsToldItem s (Writes t x a) = (t < length s.topics) × (x < length s.clusters) × IsToldAct s.clusters x a

pub record HasNames (s : Setup) : Type 0 where
  pub clusters : AreNames s.clusters
  pub topics : AreNames s.topics

-- ---- words and lines

words_joined : (ws : List Word) → words ws ≡ join_with_byte 32 ws
words_joined [] = refl
words_joined (w ∷ []) = refl
words_joined (w ∷ v ∷ ws) = ap (λ (t : List ℕ). w ++ (32 ∷ t)) (words_joined (v ∷ ws))

all_unspaced : (ws : List Word) → list_all is_plain ws ≡ true → Each (Lacks 32) ws
all_unspaced [] all = tt
all_unspaced (w ∷ ws) all = let parts = and_parts (is_plain w) (list_all is_plain ws) all in (unspaced w parts.0, all_unspaced ws parts.1)

words_printable : (ws : List Word) → list_all (λ w. list_all is_printable w) ws ≡ true → list_all is_printable (words ws) ≡ true
words_printable [] all = refl
words_printable (w ∷ []) all = (and_parts (list_all is_printable w) true all).0
words_printable (w ∷ v ∷ ws) all =
    let parts = and_parts (list_all is_printable w) (list_all (λ x. list_all is_printable x) (v ∷ ws)) all in
    rw (list_all-append is_printable w (32 ∷ words (v ∷ ws)))
    (and_from (list_all is_printable w) (list_all is_printable (32 ∷ words (v ∷ ws))) parts.0 (words_printable (v ∷ ws) parts.1))

plain_words : (ws : List Word) → list_all is_plain ws ≡ true → list_all (λ w. list_all is_printable w) ws ≡ true
plain_words [] all = refl
plain_words (w ∷ ws) all =
    let parts = and_parts (is_plain w) (list_all is_plain ws) all in
    and_from (list_all is_printable w) (list_all (λ x. list_all is_printable x) ws) (plain_printable w parts.0) (plain_words ws parts.1)

-- the words of a line, each byte of which is printable
record IsCutAgain (line : List ℕ) (ws : List Word) : Type 0 where
  cut : words_of line ≡ ws
  printable : list_all is_printable line ≡ true

cut_again : (w : Word) (ws : List Word) → list_all is_plain (w ∷ ws) ≡ true → IsCutAgain (words (w ∷ ws)) (w ∷ ws)
cut_again w ws all =
    let each = all_unspaced (w ∷ ws) all in
    record { cut = ap words_of (words_joined (w ∷ ws)) ∙ cut_joined 32 w ws each.0 each.1; printable = words_printable (w ∷ ws) (plain_words (w ∷ ws) all) }

-- a text may have spaces
cut_text : (w : Word) (ws : List Word) (text : List ℕ) → list_all is_plain (w ∷ ws) ≡ true → list_all is_printable text ≡ true
    → IsCutAgain (words (w ∷ (ws ++ text ∷ []))) (w ∷ (ws ++ words_of text))
cut_text w ws text all shown =
    let each = all_unspaced (w ∷ ws) all in
    record {
      cut = ap words_of (words_joined (w ∷ (ws ++ text ∷ []))) ∙ cut_front 32 w ws text each.0 each.1;
      printable =
          words_printable (w ∷ (ws ++ text ∷ []))
          (rw (list_all-append (λ x. list_all is_printable x) (w ∷ ws) (text ∷ []))
          (and_from (list_all (λ x. list_all is_printable x) (w ∷ ws)) (list_all (λ x. list_all is_printable x) (text ∷ [])) (plain_words (w ∷ ws) all) (rw shown refl)));
    }

-- a line that says an item
pub record IsLineOf (s : Setup) (i : Item) (line : List ℕ) : Type 0 where
  pub read : item_of (names_of s) (words_of line) ≡ Some i
  pub printable : list_all is_printable line ≡ true

says : (s : Setup) (i : Item) (line : List ℕ) (ws : List Word) → IsCutAgain line ws → item_of (names_of s) ws ≡ Some i → IsLineOf s i line
says s i line ws c reads = record { read = ap (item_of (names_of s)) c.cut ∙ reads; printable = c.printable }

-- ---- the name of a topic or of a cluster
at_plain : (names : List Word) (i : ℕ) → AreNames names → i < length names → is_plain (name_at names i) ≡ true
at_plain names i are within = name_plain (name_at names i) (is_name_at names i are within)

-- the words in front of what an entry is
abbrev head_words : Setup → ℕ → ℕ → Position → Entry → List Word
head_words s t x p e =
    name_at s.topics t ∷ name_at s.clusters x ∷ shown_position p ∷ name_at s.clusters e.ident.origin ∷ printed e.ident.producer ∷ decimal e.ident.seq ∷ shown_targets s.clusters e.to ∷ []

head_plain : (s : Setup) (t x : ℕ) (p : Position) (e : Entry) → HasNames s → t < length s.topics → x < length s.clusters → IsSmall p → IsToldEntry s.clusters e
    → list_all is_plain (head_words s t x p e) ≡ true
head_plain s t x p e names topic cluster small told =
    rw (
      at_plain s.topics t names.topics topic,
      at_plain s.clusters x names.clusters cluster,
      position_plain p small,
      at_plain s.clusters e.ident.origin names.clusters told.origin,
      printed_plain e.ident.producer (token_plain e.ident.producer told.producer),
      token_plain e.ident.producer told.producer,
      number_plain e.ident.seq told.seq,
      targets_plain s.clusters e.to names.clusters told.to,
    ) refl

-- ---- an entry

entry_same : (names : List Word) (e : Entry) (by : Option Position) → IsToldEntry names e → entry_with names e.ident e.to (record { content = e.content; key = e.meta.key; payload = e.payload; by = by }) ≡ e
entry_same names e by told =
    ap (λ (m : Metadata). record { ident = e.ident; content = e.content; to = e.to; meta = m; payload = e.payload }) meta
  where
    meta : record { publish_time = 0; key = e.meta.key; names = target_names 0 e.to names; rest = [] } ≡ e.meta
    meta =
        ap (λ (n : ℕ). record { publish_time = n; key = e.meta.key; names = target_names 0 e.to names; rest = [] }) (sym told.publish_time)
        ∙ (ap (λ (ns : List Word). record { publish_time = e.meta.publish_time; key = e.meta.key; names = ns; rest = [] }) (sym told.listed)
        ∙ ap (λ (bytes : List ℕ). record { publish_time = e.meta.publish_time; key = e.meta.key; names = e.meta.names; rest = bytes }) (sym told.rest))

append_back : (s : Setup) (t x : ℕ) (p : Position) (e : Entry) (by : Option Position) (ws : List Word) → HasNames s → t < length s.topics → x < length s.clusters → IsSmall p
    → IsToldEntry s.clusters e → what_of s.clusters (e.ident.origin == x) ws ≡ Some (record { content = e.content; key = e.meta.key; payload = e.payload; by = by })
    → item_of (names_of s) (codes "append" ∷ (head_words s t x p e ++ ws)) ≡ Some (Writes t x (Appends p e by))
append_back s t x p e by ws names topic cluster small told what =
    rw (
      declared_back s.topics t names.topics topic,
      declared_back s.clusters x names.clusters cluster,
      position_back p small,
      declared_back s.clusters e.ident.origin names.clusters told.origin,
      text_back e.ident.producer told.producer,
      number_reads e.ident.seq told.seq,
      targets_back s.clusters e.to names.clusters told.to,
      what,
    )
    (ap (λ (f : Entry). Some (Writes t x (Appends p f by))) (entry_same s.clusters e by told))

marked_back : (s : Setup) (t x : ℕ) (p : Position) (e : Entry) (by : Option Position) (m : Marker) → HasNames s → t < length s.topics → x < length s.clusters → IsSmall p
    → IsToldEntry s.clusters e → e.content ≡ content.Marked m → IsToldContent s.clusters e.meta.key e.payload (content.Marked m) → IsBy (content.Marked m) (e.ident.origin == x) by
    → IsLineOf s (Writes t x (Appends p e by)) (words (codes "append" ∷ (head_words s t x p e ++ marker_words s.clusters m by)))
marked_back s t x p e by m names topic cluster small told is h of =
    let ws = head_words s t x p e ++ marker_words s.clusters m by in
    says s (Writes t x (Appends p e by)) (words (codes "append" ∷ ws)) (codes "append" ∷ ws)
    (cut_again (codes "append") ws
    (rw (list_all-append is_plain (head_words s t x p e) (marker_words s.clusters m by))
    (and_from (list_all is_plain (head_words s t x p e)) (list_all is_plain (marker_words s.clusters m by)) (head_plain s t x p e names topic cluster small told)
    (marker_plain s.clusters (e.ident.origin == x) m by names.clusters h.2 of))))
    (append_back s t x p e by (marker_words s.clusters m by) names topic cluster small told same)
  where
    Says : Content → Option Word → List ℕ → Type 0
    Says c key payload = what_of s.clusters (e.ident.origin == x) (marker_words s.clusters m by) ≡ Some (record { content = c; key = key; payload = payload; by = by })

    same : Says e.content e.meta.key e.payload
    same =
        subst (Says e.content e.meta.key) (sym h.1)
        (subst (λ (k : Option Word). Says e.content k []) (sym h.0) (subst (λ (c : Content). Says c None []) (sym is) (marker_back s.clusters (e.ident.origin == x) m by names.clusters h.2 of)))

message_back : (s : Setup) (t x : ℕ) (p : Position) (e : Entry) (by : Option Position) → HasNames s → t < length s.topics → x < length s.clusters → IsSmall p
    → IsToldEntry s.clusters e → e.content ≡ content.Data → IsToldContent s.clusters e.meta.key e.payload content.Data → by ≡ None
    → IsLineOf s (Writes t x (Appends p e by)) (words (codes "append" ∷ (head_words s t x p e ++ (codes "data" ∷ shown_key e.meta.key ∷ printed e.payload ∷ shown_by by))))
message_back s t x p e by names topic cluster small told is h none = subst B (sym none) plain
  where
    B : Option Position → Type 0
    B o = IsLineOf s (Writes t x (Appends p e o)) (words (codes "append" ∷ (head_words s t x p e ++ (codes "data" ∷ shown_key e.meta.key ∷ printed e.payload ∷ shown_by o))))

    Says : Content → Type 0
    Says c =
        what_of s.clusters (e.ident.origin == x) (codes "data" ∷ shown_key e.meta.key ∷ words_of (printed e.payload)) ≡ Some (record { content = c; key = e.meta.key; payload = e.payload; by = None })

    front : List Word
    front = head_words s t x p e ++ (codes "data" ∷ shown_key e.meta.key ∷ [])

    front_plain : list_all is_plain (codes "append" ∷ front) ≡ true
    front_plain =
        rw (list_all-append is_plain (head_words s t x p e) (codes "data" ∷ shown_key e.meta.key ∷ []))
        (and_from (list_all is_plain (head_words s t x p e)) (list_all is_plain (codes "data" ∷ shown_key e.meta.key ∷ [])) (head_plain s t x p e names topic cluster small told)
        (rw (key_plain e.meta.key h.0) refl))

    shown : list_all is_printable (printed e.payload) ≡ true
    shown = rw (printed_same e.payload h.1) h.1

    plain : B None
    plain =
        says s (Writes t x (Appends p e None)) (words (codes "append" ∷ (front ++ printed e.payload ∷ []))) (codes "append" ∷ (front ++ words_of (printed e.payload)))
        (cut_text (codes "append") front (printed e.payload) front_plain shown)
        (append_back s t x p e None (codes "data" ∷ shown_key e.meta.key ∷ words_of (printed e.payload)) names topic cluster small told
        (subst Says (sym is) (data_back s.clusters (e.ident.origin == x) e.meta.key e.payload h.0 h.1)))

entry_back : (s : Setup) (t x : ℕ) (p : Position) (e : Entry) (by : Option Position) → HasNames s → t < length s.topics → x < length s.clusters → IsSmall p
    → IsToldEntry s.clusters e → IsBy e.content (e.ident.origin == x) by → IsLineOf s (Writes t x (Appends p e by)) (item_line s (Writes t x (Appends p e by)))
unfolding item_line
entry_back s t x p e by names topic cluster small told of = go e.content refl told.content of
  where
    go : (c : Content) → e.content ≡ c → IsToldContent s.clusters e.meta.key e.payload c → IsBy c (e.ident.origin == x) by
        → IsLineOf s (Writes t x (Appends p e by)) (words (codes "append" ∷ (head_words s t x p e ++ (shown_content s.clusters e c ++ shown_by by))))
    go content.Data is h none = message_back s t x p e by names topic cluster small told is h none
    go (content.Marked m) is h b = marked_back s t x p e by m names topic cluster small told is h b
    go (content.Unread k) is h b = absurd h

-- ---- the other lines

-- what stands after the first word
abbrev place_words : Setup → ℕ → ℕ → List Word → List Word
place_words s t x ws = name_at s.topics t ∷ name_at s.clusters x ∷ ws

place_plain : (s : Setup) (t x : ℕ) (k : Word) (ws : List Word) → HasNames s → t < length s.topics → x < length s.clusters → is_plain k ≡ true → list_all is_plain ws ≡ true
    → list_all is_plain (k ∷ place_words s t x ws) ≡ true
place_plain s t x k ws names topic cluster kind rest = rw (kind, at_plain s.topics t names.topics topic, at_plain s.clusters x names.clusters cluster, rest) refl

create_back : (s : Setup) (t x : ℕ) (n : List ℕ) (latest : Bool) → HasNames s → t < length s.topics → x < length s.clusters → is_name n ≡ true
    → IsLineOf s (Writes t x (Creates n latest)) (words (codes "create" ∷ place_words s t x (n ∷ shown_start latest ∷ [])))
create_back s t x n true names topic cluster named =
    let ws = place_words s t x (n ∷ codes "latest" ∷ []) in
    says s _ _ (codes "create" ∷ ws) (cut_again (codes "create") ws (place_plain s t x (codes "create") (n ∷ codes "latest" ∷ []) names topic cluster refl (rw (name_plain n named) refl)))
    (rw (declared_back s.topics t names.topics topic, declared_back s.clusters x names.clusters cluster, sub_back n named) refl)
create_back s t x n false names topic cluster named =
    let ws = place_words s t x (n ∷ codes "earliest" ∷ []) in
    says s _ _ (codes "create" ∷ ws) (cut_again (codes "create") ws (place_plain s t x (codes "create") (n ∷ codes "earliest" ∷ []) names topic cluster refl (rw (name_plain n named) refl)))
    (rw (declared_back s.topics t names.topics topic, declared_back s.clusters x names.clusters cluster, sub_back n named) refl)

delete_back : (s : Setup) (t x : ℕ) (n : List ℕ) → HasNames s → t < length s.topics → x < length s.clusters → is_name n ≡ true
    → IsLineOf s (Writes t x (Deletes n)) (words (codes "delete" ∷ place_words s t x (n ∷ [])))
delete_back s t x n names topic cluster named =
    let ws = place_words s t x (n ∷ []) in
    says s _ _ (codes "delete" ∷ ws) (cut_again (codes "delete") ws (place_plain s t x (codes "delete") (n ∷ []) names topic cluster refl (rw (name_plain n named) refl)))
    (rw (declared_back s.topics t names.topics topic, declared_back s.clusters x names.clusters cluster, sub_back n named) refl)

seek_back : (s : Setup) (t x : ℕ) (n : List ℕ) (i : ℕ) → HasNames s → t < length s.topics → x < length s.clusters → is_name n ≡ true → i < 2 ^ 64
    → IsLineOf s (Writes t x (Seeks n i)) (words (codes "seek" ∷ place_words s t x (n ∷ decimal i ∷ [])))
seek_back s t x n i names topic cluster named small =
    let ws = place_words s t x (n ∷ decimal i ∷ []) in
    says s _ _ (codes "seek" ∷ ws) (cut_again (codes "seek") ws (place_plain s t x (codes "seek") (n ∷ decimal i ∷ []) names topic cluster refl (rw (name_plain n named, number_plain i small) refl)))
    (rw (declared_back s.topics t names.topics topic, declared_back s.clusters x names.clusters cluster, sub_back n named, number_reads i small) refl)

cause_back : (c : Cause) → IsToldCause c → cause_of (shown_cause c) ≡ Some c
cause_back cause.Client h = refl
cause_back cause.Marker h = refl
cause_back (cause.Update p) h = rw (position_back p h) refl
cause_back cause.Plain h = absurd h
cause_back cause.Seek h = absurd h

cause_plain : (c : Cause) → IsToldCause c → list_all is_plain (shown_cause c) ≡ true
cause_plain cause.Client h = refl
cause_plain cause.Marker h = refl
cause_plain (cause.Update p) h = rw (position_plain p h) refl
cause_plain cause.Plain h = absurd h
cause_plain cause.Seek h = absurd h

ack_back : (s : Setup) (t x : ℕ) (n is : List ℕ) (c : Cause) → HasNames s → t < length s.topics → x < length s.clusters → IsToldAct s.clusters x (Acks n is c)
    → IsLineOf s (Writes t x (Acks n is c)) (words (codes "ack" ∷ place_words s t x (n ∷ shown_ranges (ranges_of is) ∷ shown_cause c)))
ack_back s t x n is c names topic cluster (named, rising, small, told) =
    let ws = place_words s t x (n ∷ shown_ranges (ranges_of is) ∷ shown_cause c) in
    let back = acked_back is rising small in
    says s _ _ (codes "ack" ∷ ws)
    (cut_again (codes "ack") ws
    (place_plain s t x (codes "ack") (n ∷ shown_ranges (ranges_of is) ∷ shown_cause c) names topic cluster refl (rw (name_plain n named, acked_plain is rising small, cause_plain c told) refl)))
    (rw (declared_back s.topics t names.topics topic, declared_back s.clusters x names.clusters cluster, sub_back n named, back.read, cause_back c told)
    (ap (λ (js : List ℕ). Some (Writes t x (Acks n js c))) back.indexes))

begins_back : (s : Setup) (n : ℕ) → n < 2 ^ 64 → IsLineOf s (Begins n) (words (codes "event" ∷ decimal n ∷ []))
begins_back s n small =
    says s _ _ (codes "event" ∷ decimal n ∷ []) (cut_again (codes "event") (decimal n ∷ []) (rw (number_plain n small) refl)) (rw (number_reads n small) refl)

line_back : (s : Setup) (i : Item) → HasNames s → IsToldItem s i → IsLineOf s i (item_line s i)
unfolding item_line
line_back s (Begins n) names small = begins_back s n small
line_back s (Writes t x (Appends p e by)) names (topic, cluster, told) = entry_back s t x p e by names topic cluster told.0 told.1 told.2
line_back s (Writes t x (Creates n latest)) names (topic, cluster, named) = create_back s t x n latest names topic cluster named
line_back s (Writes t x (Acks n is c)) names (topic, cluster, told) = ack_back s t x n is c names topic cluster told
line_back s (Writes t x (Deletes n)) names (topic, cluster, named) = delete_back s t x n names topic cluster named
line_back s (Writes t x (Seeks n i)) names (topic, cluster, told) = seek_back s t x n i names topic cluster told.0 told.1

pub item_back : (s : Setup) (i : Item) → HasNames s → IsToldItem s i → item_read (names_of s) (item_line s i) ≡ Some i
unfolding item_read
item_back s i names told = (line_back s i names told).read

-- a line has no line feed
pub no_feed : (s : Setup) (i : Item) → HasNames s → IsToldItem s i → Lacks 10 (item_line s i)
no_feed s i names told = lacks is_printable 10 refl (item_line s i) (line_back s i names told).printable
