-- The rows of a client's lines: the kind, the values and the words of each.
use Rattle.std.proofs.Common.{◌≡◌, ℕ, ◌<◌, ◌≤◌, ◌^◌, nat_lt, nat_le, ◌==◌, Bool, true, false, not, ◌&&◌, List, [], ◌∷◌, length, Option, None, Some, codes, inl, inr, arith, refl, sym, ap, ◌∙◌, subst}
use Rattle.std.specs.Fmt.{decimal}
use Rattle.std.specs.List.{list_all, list_any}
use Rattle.std.specs.Str.{bytes_eq}
use Rattle.std.proofs.lemmas.Bool.{and_from, and_parts, leb-true, ltb-true, or_cases}
use Rattle.std.proofs.lemmas.Slice.Eq.{bytes_eq-Decides}
use Rattle.std.specs.Prelude.{⊤}
use Rattle.geo_base.specs.declared.client.Line.{Line}
use Rattle.geo_base.specs.declared.client.Line.TheVariants as line
use Rattle.geo_base.specs.declared.entry.Ident.{Ident}
use Rattle.geo_base.specs.declared.entry.Targets.{Targets}
use Rattle.geo_base.specs.declared.entry.Targets.TheVariants as targets
use Rattle.geo_base.specs.declared.frame.SubKind.{SubKind}
use Rattle.geo_base.specs.declared.frame.SubKind.TheVariants as sub_kind
use Rattle.geo_base.specs.Name.{is_name}
use Rattle.geo_base.specs.Scripted.{is_known, is_line, is_optional_name, most_text_bytes, names_some}
use Rattle.geo_base.specs.Setup.{Declared, Setup}
use Rattle.script_rows.specs.NameBytes.{is_among, name_at}
use Rattle.script_rows.specs.NameWords.{Word}
use Rattle.script_rows.specs.declared.act_kind.ActKind.{ActKind}
use Rattle.script_rows.specs.declared.act_kind.ActKind.TheVariants as act
use Rattle.script_rows.specs.declared.heading.Heading.TheVariants as heading
use Rattle.script_rows.specs.declared.kind.Kind.TheVariants as kind
use Rattle.script_rows.specs.declared.value.Value.{Value}
use Rattle.script_rows.specs.declared.value.Value.TheVariants as value
use Rattle.script_rows.specs.Judging.{act_cells, do_headed, heading_of}
use Rattle.script_rows.specs.Names.{Names, Seen, subs_of}
use Rattle.script_rows.specs.Rows.{act_columns, act_of_word, act_word, columns_of}
use Rattle.script_rows.specs.Values.{line_of, sub_kind_numbered}
use Rattle.script_rows.specs.Written.{AreFit, AreNames, IsKeyValue, IsTargetsValue, key_word, targets_word, words_in}
use Rattle.script_rows.proofs.Back.{is_name_at, no_targets}
use Rattle.script_rows.proofs.Plain.{are_plain, is_plain}
use Rattle.script_text.specs.Canonical.{ident_words, kind_word, line_words, replication_word, start_word}
use Rattle.script_text.proofs.NewNames.{producer_ok, sub_ok}
use Rattle.script_text.proofs.PlainWords.{name_plain, number_plain}

-- ---- kinds, values and words
abbrev pub act_of : Line → ActKind
act_of line.Produce = act.Produce
act_of (line.Pub seq to key text) = act.Pub
act_of (line.Sub sub k earliest replicated) = act.Sub
act_of (line.Flow permits) = act.Flow
act_of (line.Ack i) = act.Ack
act_of (line.AckTo i) = act.AckTo
act_of line.AckAll = act.AckAll
act_of line.Unsub = act.Unsub
act_of line.Close = act.Close
act_of line.CloseProducer = act.CloseProducer
act_of line.Ping = act.Ping
act_of (line.Move x) = act.Move

abbrev pub kind_number : SubKind → ℕ
kind_number sub_kind.Exclusive = 0
kind_number sub_kind.Shared = 1
kind_number sub_kind.Failover = 2
kind_number sub_kind.KeyShared = 3

abbrev pub flag : Bool → ℕ
flag true = 1
flag false = 0

abbrev pub ident_values : Ident → List Value
ident_values i = value.Item i.origin ∷ value.Name i.producer ∷ value.Seq i.seq ∷ []

abbrev pub line_values : Line → List Value
line_values (line.Pub seq to key text) = value.Seq seq ∷ value.Targets to ∷ value.Key key ∷ value.Text text ∷ []
line_values (line.Sub sub k earliest replicated) =
    value.Name sub ∷ value.Item (kind_number k) ∷ value.Item (flag earliest) ∷ value.Item (flag replicated) ∷ []
line_values (line.Flow permits) = value.Item permits ∷ []
line_values (line.Ack i) = ident_values i
line_values (line.AckTo i) = ident_values i
line_values (line.Move x) = value.Item x ∷ []
line_values l = []

-- the words after the line's own
abbrev pub line_cells : List Word → Line → List Word
line_cells xs (line.Pub seq to key text) = decimal seq ∷ targets_word xs to ∷ key_word key ∷ text ∷ []
line_cells xs (line.Sub sub k earliest replicated) =
    sub ∷ kind_word k ∷ start_word earliest ∷ replication_word replicated ∷ []
line_cells xs (line.Flow permits) = decimal permits ∷ []
line_cells xs (line.Ack i) = ident_words xs i
line_cells xs (line.AckTo i) = ident_words xs i
line_cells xs (line.Move x) = name_at xs x ∷ []
line_cells xs l = []

abbrev pub is_pub : Line → Bool
is_pub (line.Pub seq to key text) = true
is_pub l = false

-- ---- the values make the line
sub_kind_back : (k : SubKind) → sub_kind_numbered (kind_number k) ≡ k
sub_kind_back sub_kind.Exclusive = refl
sub_kind_back sub_kind.Shared = refl
sub_kind_back sub_kind.Failover = refl
sub_kind_back sub_kind.KeyShared = refl

flag_back : (b : Bool) → (flag b == 1) ≡ b
flag_back true = refl
flag_back false = refl

pub line_made : (l : Line) → line_of (act_of l) (line_values l) ≡ l
line_made line.Produce = refl
line_made (line.Pub seq to key text) = refl
line_made (line.Sub sub k earliest replicated) =
    ap (λ (j : SubKind). line.Sub sub j (flag earliest == 1) (flag replicated == 1)) (sub_kind_back k) ∙ (ap (λ (b : Bool). line.Sub sub k b (flag replicated == 1)) (flag_back earliest) ∙ ap (λ (b : Bool). line.Sub sub k earliest b) (flag_back replicated))
line_made (line.Flow permits) = refl
line_made (line.Ack i) = refl
line_made (line.AckTo i) = refl
line_made line.AckAll = refl
line_made line.Unsub = refl
line_made line.Close = refl
line_made line.CloseProducer = refl
line_made line.Ping = refl
line_made (line.Move x) = refl

-- ---- the words are those of its row
pub words_are : (xs : List Word) (l : Line) → line_words xs l ≡ act_word (act_of l) ∷ line_cells xs l
words_are xs line.Produce = refl
words_are xs (line.Pub seq to key text) = refl
words_are xs (line.Sub sub k earliest replicated) = refl
words_are xs (line.Flow permits) = refl
words_are xs (line.Ack i) = refl
words_are xs (line.AckTo i) = refl
words_are xs line.AckAll = refl
words_are xs line.Unsub = refl
words_are xs line.Close = refl
words_are xs line.CloseProducer = refl
words_are xs line.Ping = refl
words_are xs (line.Move x) = refl

sub_words : (n : Names) (z : Seen) (sub : Word) (k : SubKind) (earliest replicated : Bool) → words_in n z (act_columns act.Sub) (line_values (line.Sub sub k earliest replicated)) ≡ line_cells n.clusters (line.Sub sub k earliest replicated)
sub_words n z sub sub_kind.Exclusive true true = refl
sub_words n z sub sub_kind.Exclusive true false = refl
sub_words n z sub sub_kind.Exclusive false true = refl
sub_words n z sub sub_kind.Exclusive false false = refl
sub_words n z sub sub_kind.Shared true true = refl
sub_words n z sub sub_kind.Shared true false = refl
sub_words n z sub sub_kind.Shared false true = refl
sub_words n z sub sub_kind.Shared false false = refl
sub_words n z sub sub_kind.Failover true true = refl
sub_words n z sub sub_kind.Failover true false = refl
sub_words n z sub sub_kind.Failover false true = refl
sub_words n z sub sub_kind.Failover false false = refl
sub_words n z sub sub_kind.KeyShared true true = refl
sub_words n z sub sub_kind.KeyShared true false = refl
sub_words n z sub sub_kind.KeyShared false true = refl
sub_words n z sub sub_kind.KeyShared false false = refl

pub cells_are : (n : Names) (z : Seen) (l : Line) → words_in n z (act_columns (act_of l)) (line_values l) ≡ line_cells n.clusters l
cells_are n z line.Produce = refl
cells_are n z (line.Pub seq to key text) = refl
cells_are n z (line.Sub sub k earliest replicated) = sub_words n z sub k earliest replicated
cells_are n z (line.Flow permits) = refl
cells_are n z (line.Ack i) = refl
cells_are n z (line.AckTo i) = refl
cells_are n z line.AckAll = refl
cells_are n z line.Unsub = refl
cells_are n z line.Close = refl
cells_are n z line.CloseProducer = refl
cells_are n z line.Ping = refl
cells_are n z (line.Move x) = refl

-- ---- the heading
act_back : (k : ActKind) → act_of_word (act_word k) ≡ Some k
act_back act.Produce = refl
act_back act.Pub = refl
act_back act.Sub = refl
act_back act.Flow = refl
act_back act.Ack = refl
act_back act.AckTo = refl
act_back act.AckAll = refl
act_back act.Unsub = refl
act_back act.Close = refl
act_back act.CloseProducer = refl
act_back act.Ping = refl
act_back act.Move = refl

pub act_heads : (c : Word) (k : ActKind) (ws : List Word) → heading_of (codes "do" ∷ c ∷ act_word k ∷ ws) ≡ heading.Headed (kind.Do k) (c ∷ act_cells k ws)
act_heads c k ws = ap (λ (o : Option ActKind). do_headed c ws o) (act_back k)

pub same_cells : (l : Line) (ws : List Word) → is_pub l ≡ false → act_cells (act_of l) ws ≡ ws
same_cells line.Produce ws other = refl
same_cells (line.Pub seq to key text) ws other = cc
same_cells (line.Sub sub k earliest replicated) ws other = refl
same_cells (line.Flow permits) ws other = refl
same_cells (line.Ack i) ws other = refl
same_cells (line.AckTo i) ws other = refl
same_cells line.AckAll ws other = refl
same_cells line.Unsub ws other = refl
same_cells line.Close ws other = refl
same_cells line.CloseProducer ws other = refl
same_cells line.Ping ws other = refl
same_cells (line.Move x) ws other = refl

pub narrow : (l : Line) → is_pub l ≡ false → no_targets (columns_of (kind.Do (act_of l))) ≡ true
narrow line.Produce other = refl
narrow (line.Pub seq to key text) other = cc
narrow (line.Sub sub k earliest replicated) other = refl
narrow (line.Flow permits) other = refl
narrow (line.Ack i) other = refl
narrow (line.AckTo i) other = refl
narrow line.AckAll other = refl
narrow line.Unsub other = refl
narrow line.Close other = refl
narrow line.CloseProducer other = refl
narrow line.Ping other = refl
narrow (line.Move x) other = refl

-- ---- a line's parts
pub record IsPub (s : Setup) (seq : ℕ) (to : Targets) (key : Option Word) (text : List ℕ) : Type 0 where
  pub seq_in : seq < 2 ^ 63
  pub to_in : names_some (length s.clusters) to ≡ true
  pub key_in : is_optional_name key ≡ true
  pub text_in : length text ≤ 1024

pub pub_parts : (s : Setup) (seq : ℕ) (to : Targets) (key : Option Word) (text : List ℕ) → is_line s (line.Pub seq to key text) ≡ true → IsPub s seq to key text
pub_parts s seq to key text k =
    let three = and_parts (nat_lt seq (2 ^ 63) && names_some (length s.clusters) to && is_optional_name key) (nat_le (length text) most_text_bytes) k in
    let two = and_parts (nat_lt seq (2 ^ 63) && names_some (length s.clusters) to) (is_optional_name key) three.0 in
    let one = and_parts (nat_lt seq (2 ^ 63)) (names_some (length s.clusters) to) two.0 in
    record { seq_in = ltb-true _ _ one.0; to_in = one.1; key_in = two.1; text_in = leb-true _ _ three.1 }

pub record IsIdent (s : Setup) (i : Ident) : Type 0 where
  pub origin : i.origin < length s.clusters
  pub seq : i.seq < 2 ^ 63
  pub known : list_any (λ (d : Declared). bytes_eq d.name i.producer) s.clients ≡ true

pub ident_parts : (s : Setup) (i : Ident) → is_known s i ≡ true → IsIdent s i
ident_parts s i k =
    let two = and_parts (nat_lt i.origin (length s.clusters) && nat_lt i.seq (2 ^ 63)) (list_any (λ (d : Declared). bytes_eq d.name i.producer) s.clients) k in
    let one = and_parts (nat_lt i.origin (length s.clusters)) (nat_lt i.seq (2 ^ 63)) two.0 in
    record { origin = ltb-true _ _ one.0; seq = ltb-true _ _ one.1; known = two.1 }

flow_parts : (permits : ℕ) → (nat_lt 0 permits && nat_le permits 1000000) ≡ true → (1 ≤ permits) × (permits ≤ 1000000)
flow_parts permits k =
    let parts = and_parts (nat_lt 0 permits) (nat_le permits 1000000) k in
    let some : 0 < permits = ltb-true _ _ parts.0 in
    (omega arith, leb-true _ _ parts.1)

-- ---- the words have no spaces, but for a text
pub key_plain : (key : Option Word) → is_optional_name key ≡ true → is_plain (key_word key) ≡ true
key_plain None is = refl
key_plain (Some k) is = name_plain k is

kind_plain : (k : SubKind) → is_plain (kind_word k) ≡ true
kind_plain sub_kind.Exclusive = refl
kind_plain sub_kind.Shared = refl
kind_plain sub_kind.Failover = refl
kind_plain sub_kind.KeyShared = refl

start_plain : (b : Bool) → is_plain (start_word b) ≡ true
start_plain true = refl
start_plain false = refl

replication_plain : (b : Bool) → is_plain (replication_word b) ≡ true
replication_plain true = refl
replication_plain false = refl

pub and_plain : (w : Word) (ws : List Word) → is_plain w ≡ true → are_plain ws ≡ true → are_plain (w ∷ ws) ≡ true
and_plain w ws plain all = and_from (is_plain w) (are_plain ws) plain all

pub producer_named : (ws : List Word) (p : Word) → list_all is_name ws ≡ true → is_among ws p ≡ true → is_name p ≡ true
producer_named [] p all is = cc
producer_named (w ∷ ws) p all is =
    let parts = and_parts (is_name w) (list_all is_name ws) all in
    elim (or_cases (bytes_eq w p) (is_among ws p) is) [
      | inl same ↦ subst (λ (v : Word). is_name v ≡ true) ((bytes_eq-Decides w p).0 same) parts.0
      | inr later ↦ producer_named ws p parts.1 later
    ]

-- what is known of the names that a line may name
pub record AreThere (s : Setup) (n : Names) : Type 0 where
  pub clusters : n.clusters ≡ s.clusters
  pub names : AreNames s.clusters
  pub clients : list_all is_name n.clients ≡ true
  pub same : (p : Word) → is_among n.clients p ≡ list_any (λ (d : Declared). bytes_eq d.name p) s.clients

ident_named : (s : Setup) (n : Names) (i : Ident) → AreThere s n → IsIdent s i → is_name i.producer ≡ true
ident_named s n i t k = producer_named n.clients i.producer t.clients (t.same i.producer ∙ k.known)

ident_plain : (s : Setup) (n : Names) (i : Ident) → AreThere s n → IsIdent s i → are_plain (ident_words s.clusters i) ≡ true
ident_plain s n i t k =
    and_plain (name_at s.clusters i.origin) (i.producer ∷ decimal i.seq ∷ []) (name_plain (name_at s.clusters i.origin) (is_name_at s.clusters i.origin t.names k.origin)) (and_plain i.producer (decimal i.seq ∷ []) (name_plain i.producer (ident_named s n i t k)) (and_plain (decimal i.seq) [] (number_plain i.seq (omega (arith, k.seq))) refl))

act_plain : (k : ActKind) → is_plain (act_word k) ≡ true
act_plain act.Produce = refl
act_plain act.Pub = refl
act_plain act.Sub = refl
act_plain act.Flow = refl
act_plain act.Ack = refl
act_plain act.AckTo = refl
act_plain act.AckAll = refl
act_plain act.Unsub = refl
act_plain act.Close = refl
act_plain act.CloseProducer = refl
act_plain act.Ping = refl
act_plain act.Move = refl

cells_plain : (s : Setup) (n : Names) (l : Line) → AreThere s n → is_line s l ≡ true → is_pub l ≡ false → are_plain (line_cells s.clusters l) ≡ true
cells_plain s n line.Produce t is other = refl
cells_plain s n (line.Pub seq to key text) t is other = cc
cells_plain s n (line.Sub sub k earliest replicated) t is other =
    and_plain sub (kind_word k ∷ start_word earliest ∷ replication_word replicated ∷ []) (name_plain sub is) (and_plain (kind_word k) (start_word earliest ∷ replication_word replicated ∷ []) (kind_plain k) (and_plain (start_word earliest) (replication_word replicated ∷ []) (start_plain earliest) (and_plain (replication_word replicated) [] (replication_plain replicated) refl)))
cells_plain s n (line.Flow permits) t is other =
    and_plain (decimal permits) [] (number_plain permits (omega (arith, (flow_parts permits is).1))) refl
cells_plain s n (line.Ack i) t is other = ident_plain s n i t (ident_parts s i is)
cells_plain s n (line.AckTo i) t is other = ident_plain s n i t (ident_parts s i is)
cells_plain s n line.AckAll t is other = refl
cells_plain s n line.Unsub t is other = refl
cells_plain s n line.Close t is other = refl
cells_plain s n line.CloseProducer t is other = refl
cells_plain s n line.Ping t is other = refl
cells_plain s n (line.Move x) t is other =
    and_plain (name_at s.clusters x) [] (name_plain (name_at s.clusters x) (is_name_at s.clusters x t.names (ltb-true _ _ is))) refl

pub line_plain : (s : Setup) (n : Names) (l : Line) → AreThere s n → is_line s l ≡ true → is_pub l ≡ false → are_plain (line_words s.clusters l) ≡ true
line_plain s n l t is other =
    subst (λ (ws : List Word). are_plain ws ≡ true) (sym (words_are s.clusters l)) (and_plain (act_word (act_of l)) (line_cells s.clusters l) (act_plain (act_of l)) (cells_plain s n l t is other))

-- ---- the values fit
targets_fit : (many : ℕ) (to : Targets) → names_some many to ≡ true → IsTargetsValue many (value.Targets to)
targets_fit many targets.All is = tt
targets_fit many (targets.Only bits) is =
    let parts = and_parts (nat_lt 0 bits) (nat_lt bits (2 ^ many)) is in (ltb-true _ _ parts.0, ltb-true _ _ parts.1)

key_fit : (key : Option Word) → is_optional_name key ≡ true → IsKeyValue (value.Key key)
key_fit None is = tt
key_fit (Some k) is = is

kind_small : (k : SubKind) → kind_number k < 4
kind_small sub_kind.Exclusive = omega arith
kind_small sub_kind.Shared = omega arith
kind_small sub_kind.Failover = omega arith
kind_small sub_kind.KeyShared = omega arith

flag_small : (b : Bool) → flag b < 2
flag_small true = omega arith
flag_small false = omega arith

ident_fits : (s : Setup) (n : Names) (z : Seen) (i : Ident) → AreThere s n → IsIdent s i → AreFit n z (act_columns act.Ack) (ident_values i)
ident_fits s n z i t k =
    let origin : i.origin < length n.clusters = omega (arith, k.origin, ap length t.clusters) in
    (omega arith, origin, (omega arith, (ident_named s n i t k, producer_ok n (record z { cluster = name_at n.clusters i.origin }) i.producer (ident_named s n i t k) (t.same i.producer ∙ k.known)), (omega arith, k.seq, refl)))

-- there is room for the subscription that a line names
abbrev pub HasRoom : Names → Seen → Line → Type 0
HasRoom n z (line.Sub sub k earliest replicated) =
    (not (is_among (subs_of n z.topic) sub) && nat_le 32 (length (subs_of n z.topic))) ≡ false
HasRoom n z l = ⊤

pub line_fits : (s : Setup) (n : Names) (z : Seen) (l : Line) → AreThere s n → is_line s l ≡ true → HasRoom n z l → AreFit n z (act_columns (act_of l)) (line_values l)
line_fits s n z line.Produce t is room = refl
line_fits s n z (line.Pub seq to key text) t is room =
    let k = pub_parts s seq to key text is in
    (omega arith, k.seq_in, (omega arith, subst (λ (xs : List Word). IsTargetsValue (length xs) (value.Targets to)) (sym t.clusters) (targets_fit (length s.clusters) to k.to_in), (omega arith, key_fit key k.key_in, (omega arith, k.text_in, refl))))
line_fits s n z (line.Sub sub k earliest replicated) t is room =
    (omega arith, (is, sub_ok n z sub is room), (omega arith, (kind_small k, refl), (omega arith, (flag_small earliest, refl), (omega arith, (flag_small replicated, refl), refl))))
line_fits s n z (line.Flow permits) t is room = (omega arith, (flow_parts permits is, omega arith), refl)
line_fits s n z (line.Ack i) t is room = ident_fits s n z i t (ident_parts s i is)
line_fits s n z (line.AckTo i) t is room = ident_fits s n z i t (ident_parts s i is)
line_fits s n z line.AckAll t is room = refl
line_fits s n z line.Unsub t is room = refl
line_fits s n z line.Close t is room = refl
line_fits s n z line.CloseProducer t is room = refl
line_fits s n z line.Ping t is room = refl
line_fits s n z (line.Move x) t is room =
    let within : x < length s.clusters = ltb-true _ _ is in
    (omega arith, omega (arith, within, ap length t.clusters), refl)
