-- The lines of the clients that are written read back.
use Rattle.std.proofs.Common.{◌≡◌, ℕ, ◌+◌, ◌<◌, ◌≤◌, nat_le, Bool, true, false, not, ◌&&◌, List, [], ◌∷◌, ◌++◌, length, map, slice_set, Option, Some, codes, arith, refl, sym, ap, ◌∙◌, subst}
use Rattle.std.specs.Fmt.{decimal}
use Rattle.std.specs.List.{list_all, join_with_byte}
use Rattle.std.proofs.Math.Seq.{set-append_seam}
use Rattle.std.proofs.lemmas.Bool.{and_from, and_parts, lt-leb, or_from}
use Rattle.std.proofs.lemmas.List.{append-nil}
use Rattle.std.proofs.lemmas.List.Elements.{All-head, All-tail}
use Rattle.std.proofs.lemmas.List.Folds.{list_all-append}
use Rattle.std.proofs.lemmas.Slice.Eq.{bytes_eq-Decides}
use Rattle.std.specs.Prelude.{All}
use Rattle.geo_base.specs.declared.client.Line.{Line}
use Rattle.geo_base.specs.declared.client.Line.TheVariants as line
use Rattle.geo_base.specs.declared.entry.Targets.{Targets}
use Rattle.geo_base.specs.Name.{is_name}
use Rattle.geo_base.specs.Scripted.{IsScripted, is_declared, is_line}
use Rattle.geo_base.specs.Setup.{Declared, Setup, sub_names}
use Rattle.script_rows.specs.NameBytes.{is_among, name_at}
use Rattle.script_rows.specs.NameWords.{Word}
use Rattle.script_rows.specs.declared.act_kind.ActKind.TheVariants as act
use Rattle.script_rows.specs.declared.column.Column.{Column}
use Rattle.script_rows.specs.declared.column.Column.TheVariants as column
use Rattle.script_rows.specs.declared.column.Role.TheVariants as role
use Rattle.script_rows.specs.declared.fault.Rule.{Rule}
use Rattle.script_rows.specs.declared.fault.Rule.TheVariants as rule
use Rattle.script_rows.specs.declared.heading.Heading.TheVariants as heading
use Rattle.script_rows.specs.declared.kind.Kind.TheVariants as kind
use Rattle.script_rows.specs.declared.names.Member.{Member}
use Rattle.script_rows.specs.declared.progress.Progress.{Progress}
use Rattle.script_rows.specs.declared.value.Value.{Value}
use Rattle.script_rows.specs.declared.value.Value.TheVariants as value
use Rattle.script_rows.specs.Columns.{cell_breaks, is_other_role, seen_after, value_of}
use Rattle.script_rows.specs.Judging.{cells_break, heading_of, values_of}
use Rattle.script_rows.specs.Names.{Names, Seen, member_at, nothing_seen, subs_of}
use Rattle.script_rows.specs.Rows.{act_columns, columns_of, rank, role_of}
use Rattle.script_rows.specs.Values.{line_of}
use Rattle.script_rows.specs.Words.{words_of}
use Rattle.script_rows.specs.Written.{AreDeclared, AreFit, key_word, spaced, targets_word, words_in}
use Rattle.script_rows.proofs.Back.{number_at, value_back}
use Rattle.script_rows.proofs.Gathered.{gathered_last}
use Rattle.script_rows.proofs.Plain.{are_plain, is_plain, is_shown}
use Rattle.script_rows.proofs.Spaced.{joined}
use Rattle.script_text.specs.declared.chance.Chance.{Chance}
use Rattle.script_text.specs.Adding.{one_more, with_line, with_values}
use Rattle.script_text.specs.Canonical.{all_lines_text, line_words, lines_text, row_text}
use Rattle.script_text.specs.Kept.{IsKept}
use Rattle.script_text.specs.Naming.{names_of}
use Rattle.script_text.specs.Scenario.{IsClient, has_printable_text}
use Rattle.script_text.proofs.Accepted.{kept_declared}
use Rattle.script_text.proofs.DeclaredBack.{IsClientOf, bare, client_of, moved, names_in}
use Rattle.script_text.proofs.Distinct.{among_names}
use Rattle.script_text.proofs.KeptRows.{line_kept}
use Rattle.script_text.proofs.LineWords.{AreThere, HasRoom, act_heads, act_of, and_plain, cells_are, is_pub, key_plain, line_cells, line_fits, line_made, line_plain, line_values, narrow, pub_parts, same_cells, words_are}
use Rattle.script_text.proofs.Named.{names_declared, subs_at}
use Rattle.script_text.proofs.NewNames.{cell_ok, doer_ok}
use Rattle.script_text.proofs.PartRead.{IsLineOf, among_others, doer_member, doer_name, doer_within, here_at, part, role_ok, room_left, same_names, self_noted, setup_at}
use Rattle.script_text.proofs.PlainWords.{are_shown, cut_first, name_plain, number_plain, plain_shown, row_shown}
use Rattle.script_text.proofs.RowsBack.{IsAt, IsRow, Reaches, both_read, is_after, plain_row, row_and, row_reaches, said, same_reaches, stands}
use Rattle.script_text.proofs.Tables.{clients_named}
use Rattle.script_text.proofs.TargetsBack.{IsTargetsBack, targets_back}

-- ---- the names that the line may name
there : (s : Setup) (done : List Declared) (d : Declared) (more : List Declared) (before : List Line) (l : Line) (after : List Line) → IsLineOf s done d more before l after → AreThere s (names_of (setup_at s (among_others done d before more)))
there s done d more before l after k =
    let same : names_in (among_others done d before more) ≡ names_in s.clients = same_names done d before more ∙ ap names_in (sym k.clients) in
    record {
      clusters = refl;
      names = record { each = k.scripted.cluster_names.0; apart = k.scripted.cluster_names.1 };
      clients = subst (λ (ws : List Word). list_all is_name ws ≡ true) (sym same) (clients_named s s.clients k.scripted.clients.0);
      same = λ p. ap (λ (ws : List Word). is_among ws p) same ∙ among_names s.clients p;
    }

-- what the words after the client's name know of its topic
abbrev pub seen_at : Setup → List Declared → Declared → List Declared → List Line → Line → Seen
seen_at s done d more before l =
    let n = names_of (setup_at s (among_others done d before more)) in
    seen_after n nothing_seen (column.Doer (role_of (act_of l))) (name_at n.clients (length done))

topic_seen : (s : Setup) (done : List Declared) (d : Declared) (more : List Declared) (before : List Line) (l : Line) → AreDeclared (names_of (setup_at s (among_others done d before more))) → (seen_at s done d more before l).topic ≡ d.topic
topic_seen s done d more before l names =
    let n = names_of (setup_at s (among_others done d before more)) in
    ap (λ (i : ℕ). (member_at n i).topic) (number_at n.clients (length done) names.clients (doer_within s done d before more)) ∙ ap (λ (m : Member). m.topic) (doer_member s done d before more)

sub_room : (s : Setup) (done : List Declared) (d : Declared) (more : List Declared) (before : List Line) (l : Line) (after : List Line) (z : Seen) (sub : Word) → IsLineOf s done d more before l after → z.topic ≡ d.topic → ((names : List Word) → is_among names sub ≡ false → length names < 32 → (not (is_among names sub) && nat_le 32 (length names)) ≡ false) → (is_among (sub_names (setup_at s (among_others done d before more)) d.topic) sub ≡ false → length (sub_names (setup_at s (among_others done d before more)) d.topic) < 32) → (not (is_among (subs_of (names_of (setup_at s (among_others done d before more))) z.topic) sub) && nat_le 32 (length (subs_of (names_of (setup_at s (among_others done d before more))) z.topic))) ≡ false
sub_room s done d more before l after z sub k topic has room =
    let t = setup_at s (among_others done d before more) in
    let same : subs_of (names_of t) z.topic ≡ sub_names t d.topic = ap (λ (u : ℕ). subs_of (names_of t) u) topic ∙ subs_at t d.topic k.known.topic in
    subst (λ (names : List Word). (not (is_among names sub) && nat_le 32 (length names)) ≡ false) (sym same) (by (is_among (sub_names t d.topic) sub) refl)
  where
    by : (b : Bool) → is_among (sub_names (setup_at s (among_others done d before more)) d.topic) sub ≡ b → (not (is_among (sub_names (setup_at s (among_others done d before more)) d.topic) sub) && nat_le 32 (length (sub_names (setup_at s (among_others done d before more)) d.topic))) ≡ false
    by true old = rw old refl
    by false new = has (sub_names (setup_at s (among_others done d before more)) d.topic) new (room new)

few_enough : (sub : Word) (names : List Word) → is_among names sub ≡ false → length names < 32 → (not (is_among names sub) && nat_le 32 (length names)) ≡ false
few_enough sub names new few = rw new (lt-leb 32 (length names) few)

has_room : (s : Setup) (done : List Declared) (d : Declared) (more : List Declared) (before : List Line) (l : Line) (after : List Line) → IsLineOf s done d more before l after → AreDeclared (names_of (setup_at s (among_others done d before more))) → HasRoom (names_of (setup_at s (among_others done d before more))) (seen_at s done d more before l) l
has_room s done d more before (line.Sub sub j earliest replicated) after k names =
    let l = line.Sub sub j earliest replicated in
    sub_room s done d more before l after (seen_at s done d more before l) sub k (topic_seen s done d more before l names) (few_enough sub) (room_left s done d more before l after sub k ((bytes_eq-Decides sub sub).1 refl) (λ q same. (bytes_eq-Decides sub q).0 same))
has_room s done d more before line.Produce after k names = tt
has_room s done d more before (line.Pub seq to key text) after k names = tt
has_room s done d more before (line.Flow permits) after k names = tt
has_room s done d more before (line.Ack i) after k names = tt
has_room s done d more before (line.AckTo i) after k names = tt
has_room s done d more before line.AckAll after k names = tt
has_room s done d more before line.Unsub after k names = tt
has_room s done d more before line.Close after k names = tt
has_room s done d more before line.CloseProducer after k names = tt
has_room s done d more before line.Ping after k names = tt
has_room s done d more before (line.Move x) after k names = tt

-- ---- one line
abbrev pub row_values : List Declared → Line → List Value
row_values done l = value.Item (length done) ∷ line_values l

row_fits : (s : Setup) (done : List Declared) (d : Declared) (more : List Declared) (before : List Line) (l : Line) (after : List Line) → IsLineOf s done d more before l after → AreDeclared (names_of (setup_at s (among_others done d before more))) → AreFit (names_of (setup_at s (among_others done d before more))) nothing_seen (columns_of (kind.Do (act_of l))) (row_values done l)
row_fits s done d more before l after k names =
    let n = names_of (setup_at s (among_others done d before more)) in
    let r = role_of (act_of l) in
    let within = doer_within s done d before more in
    let apart : is_other_role (member_at n (length done)) r ≡ false = ap (λ (m : Member). is_other_role m r) (doer_member s done d before more) ∙ role_ok d before l after k.lines k.known.silent in
    (omega arith, (within, doer_ok n nothing_seen r (length done) names.clients within apart), line_fits s n (seen_at s done d more before l) l (there s done d more before l after k) k.line_known (has_room s done d more before l after k names))

row_kept : (n : ℕ) (p : Progress) (c : Option Chance) (s : Setup) (done : List Declared) (d : Declared) (more : List Declared) (before : List Line) (l : Line) (after : List Line) → IsLineOf s done d more before l after → rank p.last ≤ 5 → (is : IsAt n (said p c (setup_at s (among_others done d before more)))) → IsKept (n + 1) (with_values (said p c (setup_at s (among_others done d before more))) (kind.Do (act_of l)) (row_values done l))
row_kept n p c s done d more before l after k early is =
    let t = setup_at s (among_others done d before more) in
    let declared = kept_declared n (said p c t) is.kept in
    line_kept n (said p c t) (names_of t).subs (act_of l) (row_values done l) (self_noted t declared.clients) (row_fits s done d more before l after k (names_declared t declared)) (subst (λ (m : Line). has_printable_text m ≡ true) (sym (line_made l)) k.printable) early is.kept

grown : (s : Setup) (done : List Declared) (d : Declared) (more : List Declared) (before : List Line) (l : Line) → with_line (setup_at s (among_others done d before more)) (length done) (line_of (act_of l) (line_values l)) ≡ setup_at s (among_others done d (before ++ l ∷ []) more)
grown s done d more before l =
    let t = setup_at s (among_others done d before more) in
    ap (λ (m : Line). with_line t (length done) m) (line_made l) ∙ (ap (λ (e : Declared). setup_at s (slice_set (among_others done d before more) (length done) (one_more e l))) (here_at s done d before more) ∙ ap (setup_at s) (set-append_seam done (part d before) (map bare more) (part d (before ++ l ∷ []))))

abbrev pub RowReads : ℕ → Progress → Option Chance → Setup → List Declared → Declared → List Declared → List Line → Line → Type 0
RowReads n p c s done d more before l =
    Reaches 5 n (said p c (setup_at s (among_others done d before more))) (codes "do" ++ row_text (d.name ∷ line_words s.clusters l)) c (setup_at s (among_others done d (before ++ l ∷ []) more))

-- a line without a text
line_row : (n : ℕ) (p : Progress) (c : Option Chance) (s : Setup) (done : List Declared) (d : Declared) (more : List Declared) (before : List Line) (l : Line) (after : List Line) → IsLineOf s done d more before l after → IsAt n (said p c (setup_at s (among_others done d before more))) → rank p.last ≤ 5 → is_pub l ≡ false → RowReads n p c s done d more before l
line_row n p c s done d more before l after k is early other =
    let t = setup_at s (among_others done d before more) in
    let m = names_of t in
    let names = names_declared t (kept_declared n (said p c t) is.kept) in
    let ws : List Word = d.name ∷ line_words s.clusters l in
    let cells : List Word = d.name ∷ line_cells s.clusters l in
    let z = seen_at s done d more before l in
    let heads : heading_of (codes "do" ∷ ws) ≡ heading.Headed (kind.Do (act_of l)) cells = ap (λ (us : List Word). heading_of (codes "do" ∷ d.name ∷ us)) (words_are s.clusters l) ∙ (act_heads d.name (act_of l) (line_cells s.clusters l) ∙ ap (λ (us : List Word). heading.Headed (kind.Do (act_of l)) (d.name ∷ us)) (same_cells l (line_cells s.clusters l) other)) in
    let same : words_in m nothing_seen (columns_of (kind.Do (act_of l))) (row_values done l) ≡ cells = ap (λ (u : Word). u ∷ words_in m z (act_columns (act_of l)) (line_values l)) (doer_name s done d before more) ∙ ap (λ (us : List Word). d.name ∷ us) (cells_are m z l) in
    let plain : are_plain ws ≡ true = and_plain d.name (line_words s.clusters l) (name_plain d.name k.known.name) (line_plain s m l (there s done d more before l after k) k.line_known other) in
    same_reaches 5 n (said p c t) (codes "do" ++ row_text ws) c (with_line t (length done) (line_of (act_of l) (line_values l))) (setup_at s (among_others done d (before ++ l ∷ []) more)) (grown s done d more before l) (plain_row 5 n (said p c t) (codes "do") ws (kind.Do (act_of l)) cells (row_values done l) is refl plain (_, _, refl, refl) heads same (narrow l other) (row_fits s done d more before l after k names) early refl refl (row_kept n p c s done d more before l after k early is) (omega arith))

-- ---- a line with a text
cons_values : (n : Names) (z : Seen) (c : Column) (w : Word) (v : Value) (cs : List Column) (ws : List Word) (vs : List Value) → value_of n z c w ≡ Some v → values_of n (seen_after n z c w) cs ws ≡ Some vs → values_of n z (c ∷ cs) (w ∷ ws) ≡ Some (v ∷ vs)
cons_values n z c w v cs ws vs one more = rw (one, more) refl

targets_ok : (n : Names) (z : Seen) (t : Targets) (r : Rule) → IsTargetsBack n.clusters t → cell_breaks n z column.Targets (targets_word n.clusters t) r ≡ false
targets_ok n z t rule.Form b = rw b.value refl
targets_ok n z t rule.LongName b = b.long
targets_ok n z t rule.Undeclared b = b.stranger
targets_ok n z t rule.TargetTwice b = b.repeat
targets_ok n z t r b = refl

pub_row : (n : ℕ) (p : Progress) (c : Option Chance) (s : Setup) (done : List Declared) (d : Declared) (more : List Declared) (before : List Line) (seq : ℕ) (to : Targets) (key : Option Word) (text : List ℕ) (after : List Line) → IsLineOf s done d more before (line.Pub seq to key text) after → IsAt n (said p c (setup_at s (among_others done d before more))) → rank p.last ≤ 5 → RowReads n p c s done d more before (line.Pub seq to key text)
pub_row n p c s done d more before seq to key text after k is early =
    let l = line.Pub seq to key text in
    let t = setup_at s (among_others done d before more) in
    let m = names_of t in
    let names = names_declared t (kept_declared n (said p c t) is.kept) in
    let parts = pub_parts s seq to key text k.line_known in
    let back = targets_back s.clusters to (record { each = k.scripted.cluster_names.0; apart = k.scripted.cluster_names.1 }) parts.to_in in
    let sw : Word = decimal seq in
    let tw : Word = targets_word s.clusters to in
    let kw : Word = key_word key in
    let w : Word = name_at m.clients (length done) in
    let ws : List Word = d.name ∷ codes "pub" ∷ sw ∷ tw ∷ kw ∷ text ∷ [] in
    let z = seen_at s done d more before l in
    let fits = row_fits s done d more before l after k names in
    let seq_plain : is_plain sw ≡ true = number_plain seq (omega (arith, parts.seq_in)) in
    let cut : words_of (codes "do" ++ spaced ws) ≡ codes "do" ∷ d.name ∷ codes "pub" ∷ sw ∷ tw ∷ kw ∷ words_of text = ap words_of (sym (joined (codes "do") ws)) ∙ (cut_first (codes "do") (join_with_byte 32 ws) refl ∙ ap (λ (us : List Word). codes "do" ∷ us) (cut_first d.name (join_with_byte 32 (codes "pub" ∷ sw ∷ tw ∷ kw ∷ text ∷ [])) (name_plain d.name k.known.name) ∙ ap (λ (us : List Word). d.name ∷ us) (cut_first (codes "pub") (join_with_byte 32 (sw ∷ tw ∷ kw ∷ text ∷ [])) refl ∙ ap (λ (us : List Word). codes "pub" ∷ us) (cut_first sw (join_with_byte 32 (tw ∷ kw ∷ text ∷ [])) seq_plain ∙ ap (λ (us : List Word). sw ∷ us) (cut_first tw (join_with_byte 32 (kw ∷ text ∷ [])) back.plain ∙ ap (λ (us : List Word). tw ∷ us) (cut_first kw text (key_plain key parts.key_in))))))) in
    let head : heading_of (words_of (codes "do" ++ spaced ws)) ≡ heading.Headed (kind.Do act.Pub) (w ∷ sw ∷ tw ∷ kw ∷ text ∷ []) = ap heading_of cut ∙ (act_heads d.name act.Pub (sw ∷ tw ∷ kw ∷ words_of text) ∙ (ap (λ (us : List Word). heading.Headed (kind.Do act.Pub) (d.name ∷ sw ∷ tw ∷ kw ∷ us)) (gathered_last text) ∙ ap (λ (u : Word). heading.Headed (kind.Do act.Pub) (u ∷ sw ∷ tw ∷ kw ∷ text ∷ [])) (sym (doer_name s done d before more)))) in
    let to_value : value_of m z column.Targets tw ≡ Some (value.Targets to) = rw back.value refl in
    let text_value : values_of m z (column.Text ∷ []) (text ∷ []) ≡ Some (value.Text text ∷ []) = refl in
    let values : values_of m nothing_seen (columns_of (kind.Do act.Pub)) (w ∷ sw ∷ tw ∷ kw ∷ text ∷ []) ≡ Some (row_values done l) = cons_values m nothing_seen (column.Doer role.Plain) w (value.Item (length done)) (act_columns act.Pub) (sw ∷ tw ∷ kw ∷ text ∷ []) (line_values l) (value_back m nothing_seen (column.Doer role.Plain) (value.Item (length done)) names refl fits.1) (cons_values m z column.Seq sw (value.Seq seq) (column.Targets ∷ column.Key ∷ column.Text ∷ []) (tw ∷ kw ∷ text ∷ []) (value.Targets to ∷ value.Key key ∷ value.Text text ∷ []) (value_back m z column.Seq (value.Seq seq) names refl fits.2.1) (cons_values m z column.Targets tw (value.Targets to) (column.Key ∷ column.Text ∷ []) (kw ∷ text ∷ []) (value.Key key ∷ value.Text text ∷ []) to_value (cons_values m z column.Key kw (value.Key key) (column.Text ∷ []) (text ∷ []) (value.Text text ∷ []) (value_back m z column.Key (value.Key key) names refl fits.2.2.2.1) text_value))) in
    let unbroken : (r : Rule) → cells_break m r nothing_seen (columns_of (kind.Do act.Pub)) (w ∷ sw ∷ tw ∷ kw ∷ text ∷ []) ≡ false = λ r. or_from (cell_breaks m nothing_seen (column.Doer role.Plain) w r) (cells_break m r z (act_columns act.Pub) (sw ∷ tw ∷ kw ∷ text ∷ [])) (cell_ok m r nothing_seen (column.Doer role.Plain) (value.Item (length done)) names refl fits.1) (or_from (cell_breaks m z column.Seq sw r) (cells_break m r z (column.Targets ∷ column.Key ∷ column.Text ∷ []) (tw ∷ kw ∷ text ∷ [])) (cell_ok m r z column.Seq (value.Seq seq) names refl fits.2.1) (or_from (cell_breaks m z column.Targets tw r) (cells_break m r z (column.Key ∷ column.Text ∷ []) (kw ∷ text ∷ [])) (targets_ok m z to r back) (or_from (cell_breaks m z column.Key kw r) (cells_break m r z (column.Text ∷ []) (text ∷ [])) (cell_ok m r z column.Key (value.Key key) names refl fits.2.2.2.1) (or_from (cell_breaks m z column.Text text r) false (cell_ok m r z column.Text (value.Text text) names refl fits.2.2.2.2.1) refl)))) in
    let shown : are_shown ws ≡ true = and_shown d.name (codes "pub" ∷ sw ∷ tw ∷ kw ∷ text ∷ []) (plain_shown d.name (name_plain d.name k.known.name)) (and_shown (codes "pub") (sw ∷ tw ∷ kw ∷ text ∷ []) refl (and_shown sw (tw ∷ kw ∷ text ∷ []) (plain_shown sw seq_plain) (and_shown tw (kw ∷ text ∷ []) (plain_shown tw back.plain) (and_shown kw (text ∷ []) (plain_shown kw (key_plain key parts.key_in)) (and_shown text [] k.printable refl))))) in
    let row : IsRow (said p c t) (kind.Do act.Pub) (w ∷ sw ∷ tw ∷ kw ∷ text ∷ []) (row_values done l) (codes "do" ++ spaced ws) = record {
      shown = row_shown (codes "do") ws refl shown;
      said = (_, _, refl, refl);
      head = head;
      values = values;
      unbroken = unbroken;
      order = early;
      once = refl;
      declares = refl;
    } in
    same_reaches 5 n (said p c t) (codes "do" ++ row_text ws) c (with_line t (length done) (line_of act.Pub (line_values l))) (setup_at s (among_others done d (before ++ l ∷ []) more)) (grown s done d more before l) (row_reaches 5 n (said p c t) (codes "do") ws (kind.Do act.Pub) (w ∷ sw ∷ tw ∷ kw ∷ text ∷ []) (row_values done l) is.begun is.quiet row (row_kept n p c s done d more before l after k early is) (omega arith))
  where
    and_shown : (x : Word) (xs : List Word) → list_all is_shown x ≡ true → are_shown xs ≡ true → are_shown (x ∷ xs) ≡ true
    and_shown x xs one all = and_from (list_all is_shown x) (are_shown xs) one all

any_row : (n : ℕ) (p : Progress) (c : Option Chance) (s : Setup) (done : List Declared) (d : Declared) (more : List Declared) (before : List Line) (l : Line) (after : List Line) → IsLineOf s done d more before l after → IsAt n (said p c (setup_at s (among_others done d before more))) → rank p.last ≤ 5 → RowReads n p c s done d more before l
any_row n p c s done d more before (line.Pub seq to key text) after k is early =
    pub_row n p c s done d more before seq to key text after k is early
any_row n p c s done d more before line.Produce after k is early =
    line_row n p c s done d more before line.Produce after k is early refl
any_row n p c s done d more before (line.Sub sub j earliest replicated) after k is early =
    line_row n p c s done d more before (line.Sub sub j earliest replicated) after k is early refl
any_row n p c s done d more before (line.Flow permits) after k is early =
    line_row n p c s done d more before (line.Flow permits) after k is early refl
any_row n p c s done d more before (line.Ack i) after k is early =
    line_row n p c s done d more before (line.Ack i) after k is early refl
any_row n p c s done d more before (line.AckTo i) after k is early =
    line_row n p c s done d more before (line.AckTo i) after k is early refl
any_row n p c s done d more before line.AckAll after k is early =
    line_row n p c s done d more before line.AckAll after k is early refl
any_row n p c s done d more before line.Unsub after k is early =
    line_row n p c s done d more before line.Unsub after k is early refl
any_row n p c s done d more before line.Close after k is early =
    line_row n p c s done d more before line.Close after k is early refl
any_row n p c s done d more before line.CloseProducer after k is early =
    line_row n p c s done d more before line.CloseProducer after k is early refl
any_row n p c s done d more before line.Ping after k is early =
    line_row n p c s done d more before line.Ping after k is early refl
any_row n p c s done d more before (line.Move x) after k is early =
    line_row n p c s done d more before (line.Move x) after k is early refl

-- ---- all lines of a client
-- the whole, and one client of it
pub record IsClientIn (s : Setup) (done : List Declared) (d : Declared) (more : List Declared) : Type 0 where
  pub scripted : IsScripted s
  pub clients : s.clients ≡ done ++ d ∷ more
  pub known : IsClientOf s d
  pub is_client : IsClient d

line_in : (s : Setup) (done : List Declared) (d : Declared) (more : List Declared) (before : List Line) (l : Line) (after : List Line) → IsClientIn s done d more → d.lines ≡ before ++ l ∷ after → IsLineOf s done d more before l after
line_in s done d more before l after k lines =
    let each : (p : Line → Bool) → list_all p d.lines ≡ true → p l ≡ true = λ p all. (and_parts (p l) (list_all p after) (and_parts (list_all p before) (list_all p (l ∷ after)) (sym (list_all-append p before (l ∷ after)) ∙ subst (λ (ls : List Line). list_all p ls ≡ true) lines all)).1).0 in
    record {
      scripted = k.scripted;
      clients = k.clients;
      lines = lines;
      known = k.known;
      line_known = each (is_line s) k.known.lines;
      printable = each has_printable_text k.is_client.texts;
    }

lines_back : (after : List Line) (n : ℕ) (p : Progress) (c : Option Chance) (s : Setup) (done : List Declared) (d : Declared) (more : List Declared) (before : List Line) → IsClientIn s done d more → d.lines ≡ before ++ after → IsAt n (said p c (setup_at s (among_others done d before more))) → rank p.last ≤ 5 → Reaches 5 n (said p c (setup_at s (among_others done d before more))) (lines_text s.clusters d.name after) c (setup_at s (among_others done d (before ++ after) more))
lines_back [] n p c s done d more before k lines is early =
    let t = setup_at s (among_others done d before more) in
    same_reaches 5 n (said p c t) [] c t (setup_at s (among_others done d (before ++ []) more)) (ap (λ (ls : List Line). setup_at s (among_others done d ls more)) (sym (append-nil before))) (stands 5 n (said p c t) is early)
lines_back (l ∷ after) n p c s done d more before k lines is early =
    let t = setup_at s (among_others done d before more) in
    let u = setup_at s (among_others done d (before ++ l ∷ []) more) in
    let v = setup_at s (among_others done d ((before ++ l ∷ []) ++ after) more) in
    let all = moved before l after in
    let ws : List Word = d.name ∷ line_words s.clusters l in
    let r = any_row n p c s done d more before l after (line_in s done d more before l after k lines) is early in
    let rest = lines_back after r.after r.last c s done d more (before ++ l ∷ []) k (lines ∙ sym all) (is_after 5 n (said p c t) (codes "do" ++ row_text ws) c u r) r.early in
    same_reaches 5 n (said p c t) (lines_text s.clusters d.name (l ∷ after)) c v (setup_at s (among_others done d (before ++ l ∷ after) more)) (ap (λ (ls : List Line). setup_at s (among_others done d ls more)) all) (row_and 5 5 n (said p c t) (codes "do") ws (lines_text s.clusters d.name after) c c u v r rest)

-- ---- all clients
pub all_lines_back : (ds : List Declared) (n : ℕ) (p : Progress) (c : Option Chance) (s : Setup) (done : List Declared) → IsScripted s → s.clients ≡ done ++ ds → list_all (is_declared s) ds ≡ true → All IsClient ds → IsAt n (said p c (setup_at s (done ++ map bare ds))) → rank p.last ≤ 5 → Reaches 5 n (said p c (setup_at s (done ++ map bare ds))) (all_lines_text s.clusters ds) c (setup_at s (done ++ ds))
all_lines_back [] n p c s done scripted clients known all is early = stands 5 n (said p c (setup_at s (done ++ []))) is early
all_lines_back (d ∷ ds) n p c s done scripted clients known all is early =
    let parts = and_parts (is_declared s d) (list_all (is_declared s) ds) known in
    let k : IsClientIn s done d ds = record { scripted = scripted; clients = clients; known = client_of s d parts.0; is_client = All-head IsClient d ds all } in
    let t = setup_at s (done ++ bare d ∷ map bare ds) in
    let u = setup_at s (done ++ d ∷ map bare ds) in
    let v = setup_at s ((done ++ d ∷ []) ++ ds) in
    let now = moved done d (map bare ds) in
    let end = moved done d ds in
    let r : Reaches 5 n (said p c t) (lines_text s.clusters d.name d.lines) c u = lines_back d.lines n p c s done d ds [] k refl is early in
    let at = is_after 5 n (said p c t) (lines_text s.clusters d.name d.lines) c u r in
    let rest = all_lines_back ds r.after r.last c s (done ++ d ∷ []) scripted (clients ∙ sym end) parts.1 (All-tail IsClient d ds all) (subst (λ (es : List Declared). IsAt r.after (said r.last c (setup_at s es))) (sym now) at) r.early in
    let here : Reaches 5 r.after (said r.last c u) (all_lines_text s.clusters ds) c v = subst (λ (es : List Declared). Reaches 5 r.after (said r.last c (setup_at s es)) (all_lines_text s.clusters ds) c v) now rest in
    same_reaches 5 n (said p c t) (all_lines_text s.clusters (d ∷ ds)) c v (setup_at s (done ++ d ∷ ds)) (ap (setup_at s) end) (both_read 5 5 n (said p c t) (lines_text s.clusters d.name d.lines) (all_lines_text s.clusters ds) c c u v r here)
