-- What a word of a line says reads back.
use Rattle.std.proofs.Common.{◌≡◌, ℕ, zero, suc, ◌-◌, ◌^◌, ◌<◌, nat_le, nat_lt, ◌==◌, Bool, true, false, ◌&&◌, ◌||◌, List, [], ◌∷◌, ◌++◌, length, Option, Some, None, codes, arith, refl, sym, ap, ◌∙◌, subst, length-append}
use Rattle.std.specs.Prelude.{slice_index_or}
use Rattle.std.specs.Fmt.{decimal}
use Rattle.std.specs.List.{list_all}
use Rattle.std.specs.Str.{bytes_eq}
use Rattle.std.proofs.lemmas.Bool.{and_from, and_parts, both_ways, false_from_ne_true, lt-ltb, or_left}
use Rattle.std.proofs.lemmas.Bool.Decides.{nat_tests}
use Rattle.std.proofs.lemmas.List.Folds.{list_all-append, list_any_at}
use Rattle.std.proofs.lemmas.List.Splits.{slice_split_at, slice_split_none}
use Rattle.std.proofs.lemmas.Slice.Eq.{bytes_eq-Decides}
use Rattle.geo_base.specs.declared.marker.ClusterPosition.{ClusterPosition}
use Rattle.geo_base.specs.declared.marker.ClusterRef.{ClusterRef}
use Rattle.geo_base.specs.declared.marker.ClusterRef.TheVariants as cluster_ref
use Rattle.geo_base.specs.declared.position.Position.{Position}
use Rattle.geo_base.specs.SnapshotBuilder.{second_id, snapshot_id}
use Rattle.geo_base.specs.Name.{is_name, name_byte}
use Rattle.geo_base.specs.Report.{printed, shown_cluster_position, shown_key, shown_position}
use Rattle.geo_base.specs.Sizes.{cluster_ref_name}
use Rattle.script_rows.specs.NameBytes.{is_among, name_at}
use Rattle.script_rows.specs.Numbers.{is_digit}
use Rattle.script_rows.specs.NameWords.{Word, cut_by}
use Rattle.script_rows.proofs.Digits.{decimal_digits, number_back}
use Rattle.script_rows.specs.Written.{AreNames}
use Rattle.script_rows.proofs.Back.{is_name_at, number_at}
use Rattle.trace_lines.specs.Words.{cluster_position_of, declared, is_printable, is_text, key_of, number, place_of, position_of, sub_of, text_of}
use Rattle.world_laws.specs.Plain.{IsCluster}
use Rattle.world_laws.proofs.Snapshotting.Ids.{IsSmall}
use Rattle.trace_laws.proofs.Bytes.{Lacks, lacks, weaker}

-- ---- texts without a space
abbrev pub is_visible : ℕ → Bool
is_visible b = nat_lt 32 b && nat_le b 126

abbrev pub is_plain : Word → Bool
is_plain w = list_all is_visible w

-- a word that is not empty
abbrev pub is_token : Word → Bool
is_token w = nat_lt 0 (length w) && is_plain w

name_visible : (b : ℕ) → name_byte b ≡ true → is_visible b ≡ true
name_visible b h = grind (arith, nat_tests, h)

digit_visible : (b : ℕ) → is_digit b ≡ true → is_visible b ≡ true
digit_visible b h = grind (arith, nat_tests, h)

visible_printable : (b : ℕ) → is_visible b ≡ true → is_printable b ≡ true
visible_printable b h = grind (arith, nat_tests, h)

pub name_bytes : (n : Word) → is_name n ≡ true → list_all name_byte n ≡ true
name_bytes n is = (and_parts (nat_lt 0 (length n) && nat_le (length n) 16) (list_all name_byte n) is).1

pub name_plain : (n : Word) → is_name n ≡ true → is_plain n ≡ true
name_plain n is = weaker name_byte is_visible name_visible n (name_bytes n is)

pub name_token : (n : Word) → is_name n ≡ true → is_token n ≡ true
name_token n is =
    and_from (nat_lt 0 (length n)) (is_plain n)
    (and_parts (nat_lt 0 (length n)) (nat_le (length n) 16) (and_parts (nat_lt 0 (length n) && nat_le (length n) 16) (list_all name_byte n) is).0).0
    (name_plain n is)

pub number_plain : (n : ℕ) → n < 2 ^ 64 → is_plain (decimal n) ≡ true
number_plain n small = weaker is_digit is_visible digit_visible (decimal n) (decimal_digits n small)

pub token_plain : (w : Word) → is_token w ≡ true → is_plain w ≡ true
token_plain w is = (and_parts (nat_lt 0 (length w)) (is_plain w) is).1

pub plain_printable : (w : Word) → is_plain w ≡ true → list_all is_printable w ≡ true
plain_printable w is = weaker is_visible is_printable visible_printable w is

token_text : (w : Word) → is_token w ≡ true → is_text w ≡ true
token_text w is =
    let parts = and_parts (nat_lt 0 (length w)) (is_plain w) is in
    and_from (nat_lt 0 (length w)) (list_all is_printable w) parts.0 (plain_printable w parts.1)

pub unspaced : (w : Word) → is_plain w ≡ true → Lacks 32 w
unspaced w is = lacks is_visible 32 refl w is

-- a report shows a text of printable bytes as itself
pub printed_same : (t : List ℕ) → list_all is_printable t ≡ true → printed t ≡ t
printed_same [] all = refl
printed_same (b ∷ t) all =
    let parts = and_parts (is_printable b) (list_all is_printable t) all in rw (parts.0, printed_same t parts.1) refl

pub printed_plain : (t : List ℕ) → is_plain t ≡ true → printed t ≡ t
printed_plain t is = printed_same t (plain_printable t is)

pub text_back : (t : List ℕ) → is_token t ≡ true → text_of (printed t) ≡ Some t
text_back t is = rw (printed_plain t (token_plain t is), token_text t is) refl

pub name_back : (n : List ℕ) → is_name n ≡ true → sub_of (printed n) ≡ Some n
name_back n is = rw (printed_plain n (name_plain n is), is) refl

pub sub_back : (n : List ℕ) → is_name n ≡ true → sub_of n ≡ Some n
sub_back n is = rw is refl

-- ---- names that are declared
among_at : (names : List Word) (i : ℕ) → i < length names → is_among names (name_at names i) ≡ true
among_at names i within =
    list_any_at (λ n. bytes_eq n (name_at names i)) names i [] within ((bytes_eq-Decides (name_at names i) (name_at names i)).1 refl)

pub declared_back : (names : List Word) (i : ℕ) → AreNames names → i < length names → declared names (name_at names i) ≡ Some i
declared_back names i are within = rw (among_at names i within, number_at names i are within) refl

-- ---- numbers and positions
pub number_reads : (n : ℕ) → n < 2 ^ 64 → number (decimal n) ≡ Some n
number_reads n small = number_back (2 ^ 64 - 1) n (omega (arith, small)) small

position_split : (p : Position) → IsSmall p → cut_by 58 (shown_position p) ≡ decimal p.ledger ∷ decimal p.entry ∷ []
position_split p small =
    slice_split_at (λ b. b == 58) (decimal p.ledger) 58 (decimal p.entry) (lacks is_digit 58 refl (decimal p.ledger) (decimal_digits p.ledger small.ledger)) refl
    ∙ ap (λ (ws : List Word). decimal p.ledger ∷ ws) (slice_split_none (λ b. b == 58) (decimal p.entry) (lacks is_digit 58 refl (decimal p.entry) (decimal_digits p.entry small.entry)))

pub position_back : (p : Position) → IsSmall p → position_of (shown_position p) ≡ Some p
position_back p small = rw (position_split p small, number_reads p.ledger small.ledger, number_reads p.entry small.entry) refl

-- the bytes of a position
abbrev is_position_byte : ℕ → Bool
is_position_byte b = is_digit b || (b == 58)

position_byte_visible : (b : ℕ) → is_position_byte b ≡ true → is_visible b ≡ true
position_byte_visible b h = grind (arith, nat_tests, h)

position_bytes : (p : Position) → IsSmall p → list_all is_position_byte (shown_position p) ≡ true
position_bytes p small =
    let each : (n : ℕ) → n < 2 ^ 64 → list_all is_position_byte (decimal n) ≡ true =
    λ n lt. weaker is_digit is_position_byte (λ b is. or_left (is_digit b) (b == 58) is) (decimal n) (decimal_digits n lt) in
    rw (list_all-append is_position_byte (decimal p.ledger) (58 ∷ decimal p.entry))
    (and_from (list_all is_position_byte (decimal p.ledger)) (list_all is_position_byte (58 ∷ decimal p.entry)) (each p.ledger small.ledger) (each p.entry small.entry))

pub position_plain : (p : Position) → IsSmall p → is_plain (shown_position p) ≡ true
position_plain p small = weaker is_position_byte is_visible position_byte_visible (shown_position p) (position_bytes p small)

-- ---- keys

-- a key that is a name is no `-`
no_dash : (k : Word) → is_name k ≡ true → bytes_eq k (codes "-") ≡ false
no_dash k is =
    false_from_ne_true (bytes_eq k (codes "-")) (λ same. both_ways (is_name (codes "-")) refl (subst (λ (w : Word). is_name w ≡ true) ((bytes_eq-Decides k (codes "-")).0 same) is))

abbrev pub IsKey : Option Word → Type 0
IsKey None = Unit {0}
IsKey (Some k) = is_name k ≡ true

pub key_back : (key : Option Word) → IsKey key → key_of (shown_key key) ≡ Some key
key_back None is = refl
key_back (Some k) is = rw (printed_plain k (name_plain k is), no_dash k is, token_text k (name_token k is)) refl

pub key_plain : (key : Option Word) → IsKey key → is_plain (shown_key key) ≡ true
key_plain None is = refl
key_plain (Some k) is = rw (printed_plain k (name_plain k is)) (name_plain k is)

-- ---- places
place_word : (names : List Word) (x : ℕ) → AreNames names → x < length names → printed (cluster_ref_name names (cluster_ref.Known x)) ≡ name_at names x
place_word names x are within = printed_plain (name_at names x) (name_plain (name_at names x) (is_name_at names x are within))

named_back : (names : List Word) (x : ℕ) → AreNames names → x < length names → place_of names (name_at names x) ≡ Some (cluster_ref.Known x)
named_back names x are within =
    rw (token_text (name_at names x) (name_token (name_at names x) (is_name_at names x are within)), among_at names x within, number_at names x are within) refl

pub place_back : (names : List Word) (p : ClusterRef) → AreNames names → IsCluster names p → place_of names (printed (cluster_ref_name names p)) ≡ Some p
place_back names (cluster_ref.Known x) are within = ap (place_of names) (place_word names x are within) ∙ named_back names x are within
place_back names (cluster_ref.Stranger n) are within = absurd within

pub place_plain : (names : List Word) (p : ClusterRef) → AreNames names → IsCluster names p → is_plain (printed (cluster_ref_name names p)) ≡ true
place_plain names (cluster_ref.Known x) are within =
    subst (λ (w : Word). is_plain w ≡ true) (sym (place_word names x are within)) (name_plain (name_at names x) (is_name_at names x are within))
place_plain names (cluster_ref.Stranger n) are within = absurd within

-- ---- the position of a cluster
abbrev pub IsTold : List Word → ClusterPosition → Type 0
IsTold names r = IsCluster names r.cluster × IsSmall r.position

place_bytes : (names : List Word) (p : ClusterRef) → AreNames names → IsCluster names p → list_all name_byte (printed (cluster_ref_name names p)) ≡ true
place_bytes names (cluster_ref.Known x) are within =
    subst (λ (w : Word). list_all name_byte w ≡ true) (sym (place_word names x are within)) (name_bytes (name_at names x) (is_name_at names x are within))
place_bytes names (cluster_ref.Stranger n) are within = absurd within

pair_split : (names : List Word) (r : ClusterPosition) → AreNames names → IsTold names r
    → cut_by 61 (shown_cluster_position names r) ≡ printed (cluster_ref_name names r.cluster) ∷ shown_position r.position ∷ []
pair_split names r are told =
    let c = printed (cluster_ref_name names r.cluster) in
    slice_split_at (λ b. b == 61) c 61 (shown_position r.position) (lacks name_byte 61 refl c (place_bytes names r.cluster are told.0)) refl
    ∙ ap (λ (ws : List Word). c ∷ ws) (slice_split_none (λ b. b == 61) (shown_position r.position) (lacks is_position_byte 61 refl (shown_position r.position) (position_bytes r.position told.1)))

pub cluster_position_back : (names : List Word) (r : ClusterPosition) → AreNames names → IsTold names r → cluster_position_of names (shown_cluster_position names r) ≡ Some r
cluster_position_back names r are told =
    rw (pair_split names r are told, place_back names r.cluster are told.0, position_back r.position told.1) refl

one_is_not_two : (w l e : Word) → w ∷ [] ≡ l ∷ e ∷ [] → ⊥
one_is_not_two w l e same = omega (arith, ap length same)

-- it is no `by`
pub no_by : (names : List Word) (r : ClusterPosition) → AreNames names → IsTold names r → bytes_eq (shown_cluster_position names r) (codes "by") ≡ false
no_by names r are told =
    let w = shown_cluster_position names r in
    false_from_ne_true (bytes_eq w (codes "by")) (λ same.
    one_is_not_two (codes "by") (printed (cluster_ref_name names r.cluster)) (shown_position r.position)
    (ap (λ (v : Word). cut_by 61 v) (sym ((bytes_eq-Decides w (codes "by")).0 same)) ∙ pair_split names r are told))

pub cluster_position_plain : (names : List Word) (r : ClusterPosition) → AreNames names → IsTold names r → is_plain (shown_cluster_position names r) ≡ true
cluster_position_plain names r are told =
    let c = printed (cluster_ref_name names r.cluster) in
    rw (list_all-append is_visible c (61 ∷ shown_position r.position))
    (and_from (is_plain c) (is_plain (61 ∷ shown_position r.position)) (place_plain names r.cluster are told.0) (position_plain r.position told.1))

-- ---- ids of snapshots

-- a text without a space, and more of it
token_more : (t : Word) (b : ℕ) (v : Word) → is_plain t ≡ true → is_plain (b ∷ v) ≡ true → is_token (t ++ b ∷ v) ≡ true
token_more t b v first rest =
    let l = length-append t (b ∷ v) in
    and_from (nat_lt 0 (length (t ++ b ∷ v))) (is_plain (t ++ b ∷ v)) (lt-ltb 0 (length (t ++ b ∷ v)) (omega (arith, l)))
    (rw (list_all-append is_visible t (b ∷ v)) (and_from (is_plain t) (is_plain (b ∷ v)) first rest))

pub id_token : (n : Word) (p : Position) → is_plain n ≡ true → IsSmall p → is_token (snapshot_id n p) ≡ true
id_token n p plain small = token_more n 58 (shown_position p) plain (position_plain p small)

pub second_token : (id : Word) → is_token id ≡ true → is_token (second_id id) ≡ true
second_token id is = token_more id 47 (50 ∷ []) (token_plain id is) refl

-- a name of some that are all names; past the end there is the empty one
pub named_plain : (ns : List Word) (x : ℕ) → list_all is_name ns ≡ true → is_plain (slice_index_or ns x []) ≡ true
named_plain [] x h = refl
named_plain (n ∷ ns) zero h = name_plain n (and_parts (is_name n) (list_all is_name ns) h).0
named_plain (n ∷ ns) (suc x) h = named_plain ns x (and_parts (is_name n) (list_all is_name ns) h).1
