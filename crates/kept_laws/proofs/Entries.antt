-- A plain entry that can be written has texts, which tell it and are short.
use Rattle.std.proofs.Common.{◌≡◌, ℕ, suc, ◌+◌, ◌*◌, ◌^◌, ◌<◌, ◌≤◌, ◌==◌, Bool, true, false, List, [], ◌∷◌, ◌++◌, length, map, refl, sym, ap, subst, ◌∙◌, arith}
use Rattle.std.specs.Prelude.{Option, Some, None, IfSome, if◌then◌else◌}
use Rattle.std.specs.List.{AllByRecursion, list_all}
use Rattle.std.specs.Option.{option_map}
use Rattle.std.specs.Str.{IsUtf8}
use Rattle.std.proofs.lemmas.Bool.{eqb-true}
use Rattle.std.proofs.lemmas.Grind.{flat_map-append}
use Rattle.std.proofs.lemmas.List.{length-append, length-map}
use Rattle.geo_base.specs.declared.entry.Content.{Content}
use Rattle.geo_base.specs.declared.entry.Content.TheVariants as content
use Rattle.geo_base.specs.declared.entry.Entry.{Entry}
use Rattle.geo_base.specs.declared.entry.Targets.{Targets}
use Rattle.geo_base.specs.declared.entry.Targets.TheVariants as targets
use Rattle.geo_base.specs.declared.marker.Marker.{Marker}
use Rattle.geo_base.specs.declared.marker.Marker.TheVariants as marker
use Rattle.geo_base.specs.declared.marker.ClusterRef.{ClusterRef}
use Rattle.geo_base.specs.declared.marker.ClusterRef.TheVariants as cluster_ref
use Rattle.geo_base.specs.Client.{target_names}
use Rattle.geo_base.specs.Entry.{goes_to}
use Rattle.geo_base.specs.Name.{is_name}
use Rattle.geo_base.specs.Scripted.{AreDistinct}
use Rattle.geo_base.specs.Sizes.{entry_size, marker_type, metadata_size, most_entry_size, payload_size, cluster_ref_name, tag_size, varint_size}
use Rattle.marker_codec.proofs.Lengths.{sizes}
use Rattle.message_meta.specs.Canonical.{IsMetadata, canonical_fields, optional_fields, required_fields}
use Rattle.message_meta.specs.Metadata.{IsMetaText, Metadata}
use Rattle.message_meta.proofs.Written.{canonical_is}
use Rattle.pb_fields.specs.declared.field.Field.{Field}
use Rattle.pb_fields.specs.Canonical.{field_text, optional, text}
use Rattle.pb_fields.specs.Field.{IsField, bytes_field, varint_field}
use Rattle.pb_fields.proofs.Parts.{AllByRecursion-append, AllByRecursion-map, AllByRecursion-optional}
use Rattle.frame_values.specs.Coded.{IsMarkerRight}
use Rattle.frame_values.specs.Texts.{marker_number, metadata_of, payload_text}
use Rattle.frame_values.proofs.Counting.{varint_most}
use Rattle.frame_values.proofs.Sized.{field_size, fields_size, length-text}
use Rattle.frame_laws.proofs.Plain.{entry_told, source_told}
use Rattle.state_items.specs.Origins.{number_of, origin_of}
use Rattle.state_items.specs.EntryTexts.{HasTexts, metadata_text, source_of, with_rest}
use Rattle.state_items.specs.Told.{IsTold}
use Rattle.world_laws.specs.Plain.{IsPlainContent, IsPlainEntry}
use Rattle.world_laws.proofs.Walks.Walk.{left, on_if, right}
use Rattle.kept_laws.proofs.Ascii.{IsNameText, low_utf8, name_text, named_text}
use Rattle.kept_laws.proofs.Markers.{bytes_fit, marker_right, number_fits}
use Rattle.kept_laws.proofs.Sayable.{IsSayable, IsSayableContent}

-- ---- fields of metadata

-- a field that can be written, and is short
record IsShortField (f : Field) : Type 0 where
  fits : IsField f
  short : field_size f ≤ 64

short_sum : (a b l : ℕ) → a < 11 → b < 11 → l ≤ 16 → a + (b + l) ≤ 64
short_sum a b l ha hb hl = omega (arith, ha, hb, hl)

short_pair : (a b : ℕ) → a < 11 → b < 11 → a + b ≤ 64
short_pair a b ha hb = omega (arith, ha, hb)

short_bytes : (n : ℕ) (t : List ℕ) → 0 < n → n < 2 ^ 29 → IsNameText t → IsShortField (bytes_field n t)
short_bytes n t low high h = record {
  fits = bytes_fit n t low high (let s = h.short in omega (arith, s));
  short = short_sum (tag_size n) (varint_size (length t)) (length t) (varint_most (n * 8)) (varint_most (length t)) h.short;
}

short_number : (n k : ℕ) → 0 < n → n < 2 ^ 29 → k < 2 ^ 64 → IsShortField (varint_field n k)
short_number n k low high fits =
    record { fits = number_fits n k low high fits; short = short_pair (tag_size n) (varint_size k) (varint_most (n * 8)) (varint_most k) }

all_fit : (fs : List Field) → AllByRecursion IsShortField fs → AllByRecursion IsField fs
all_fit [] h = tt
all_fit (f ∷ fs) h = (h.0.fits, all_fit fs h.1)

all_short : (fs : List Field) → AllByRecursion IsShortField fs → fields_size fs ≤ 64 * length fs
all_short [] h = omega arith
all_short (f ∷ fs) h = let s = h.0.short in let t = all_short fs h.1 in sum_up (field_size f) (fields_size fs) (length fs) s t
  where
    sum_up : (a b n : ℕ) → a ≤ 64 → b ≤ 64 * n → a + b ≤ 64 * suc n
    sum_up a b n ha hb = omega (arith, ha, hb)

-- ---- what a plain entry says

targets_all : (P : List ℕ → Type 0) (x : ℕ) (to : Targets) (ns : List (List ℕ)) → AllByRecursion P ns → AllByRecursion P (target_names x to ns)
targets_all P x targets.All ns h = tt
targets_all P x (targets.Only bits) [] h = tt
targets_all P x (targets.Only bits) (n ∷ ns) h =
    on_if (AllByRecursion P) (goes_to x (targets.Only bits)) _ _ (h.0, targets_all P (x + 1) (targets.Only bits) ns h.1) (targets_all P (x + 1) (targets.Only bits) ns h.1)

targets_few : (x : ℕ) (to : Targets) (ns : List (List ℕ)) → length (target_names x to ns) ≤ length ns
targets_few x targets.All ns = omega arith
targets_few x (targets.Only bits) [] = omega arith
targets_few x (targets.Only bits) (n ∷ ns) =
    let h = targets_few (x + 1) (targets.Only bits) ns in
    on_if (λ (ms : List (List ℕ)). length ms ≤ length (n ∷ ns)) (goes_to x (targets.Only bits)) _ _ (omega (arith, h)) (omega (arith, h))

names_texts : (ns : List (List ℕ)) → list_all is_name ns ≡ true → AllByRecursion IsNameText ns
names_texts [] h = tt
names_texts (n ∷ ns) h = (name_text n (left (is_name n) (list_all is_name ns) h), names_texts ns (right (is_name n) (list_all is_name ns) h))

texts_utf8 : (ts : List (List ℕ)) → AllByRecursion IsNameText ts → AllByRecursion IsUtf8 ts
texts_utf8 [] h = tt
texts_utf8 (t ∷ ts) h = (low_utf8 t h.0.low, texts_utf8 ts h.1)

some_utf8 : (o : Option (List ℕ)) → IfSome o IsNameText → IfSome o IsUtf8
some_utf8 None h = tt
some_utf8 (Some t) h = low_utf8 t h.low

source_text : (names : List (List ℕ)) (own origin : ℕ) → list_all is_name names ≡ true → IfSome (option_map (cluster_ref_name names) (source_of own origin)) IsNameText
source_text names own origin all =
    on_if (λ (o : Option ClusterRef). IfSome (option_map (cluster_ref_name names) o) IsNameText) (origin == own) None (Some (cluster_ref.Known origin)) tt (named_text names origin all)

type_small : (m : Marker) → marker_type m < 2 ^ 64
type_small (marker.Request id source) = omega arith
type_small (marker.Response id answer) = omega arith
type_small (marker.Snapshot id local remote) = omega arith
type_small (marker.Update sub remote) = omega arith

number_small : (names : List (List ℕ)) (c : Content) (payload : List ℕ) → IsPlainContent names c payload → IfSome (marker_number c) (λ n. n < 2 ^ 64)
number_small names content.Data payload h = tt
number_small names (content.Marked m) payload h = type_small m
number_small names (content.Unread k) payload h = absurd h

-- a name of some, in a setup of few clusters
pub record AreNames (names : List (List ℕ)) : Type 0 where
  pub all_ : list_all is_name names ≡ true
  pub apart : AreDistinct names
  pub few : length names ≤ 8

abbrev stated : List (List ℕ) → ℕ → Entry → Metadata
stated names own e = metadata_of names (source_of own e.ident.origin) e []

optional_few : {X : Type 0} (make : X → Field) (o : Option X) → length (optional make o) ≤ 1
optional_few make None = omega arith
optional_few make (Some x) = omega arith

listed : (names : List (List ℕ)) (e : Entry) → AreNames names → IsPlainEntry names None e → AllByRecursion IsNameText e.meta.names
listed names e ns plain = subst (λ (ts : List (List ℕ)). AllByRecursion IsNameText ts) (sym plain.listed) (targets_all IsNameText 0 e.to names (names_texts names ns.all_))

listed_few : (names : List (List ℕ)) (e : Entry) → AreNames names → IsPlainEntry names None e → length e.meta.names ≤ 8
listed_few names e ns plain =
    let t = targets_few 0 e.to names in let f = ns.few in let l = ap (λ (ts : List (List ℕ)). length ts) plain.listed in omega (arith, t, f, l)

required_short : (names : List (List ℕ)) (own : ℕ) (e : Entry) → IsSayable e → AllByRecursion IsShortField (required_fields (stated names own e))
required_short names own e say = (
  short_bytes 1 e.ident.producer (omega arith) (omega arith) say.producer,
  (short_number 2 e.ident.seq (omega arith) (omega arith) say.seq, (short_number 3 e.meta.publish_time (omega arith) (omega arith) say.publish_time, tt)),
)

optional_short : (names : List (List ℕ)) (own : ℕ) (e : Entry) → AreNames names → IsPlainEntry names None e → IsSayable e → AllByRecursion IsShortField (optional_fields (stated names own e))
optional_short names own e ns plain say =
    AllByRecursion-append IsShortField (optional (bytes_field 5) (stated names own e).replicated_from) _
    (AllByRecursion-optional IsNameText IsShortField (bytes_field 5) (stated names own e).replicated_from (λ t h. short_bytes 5 t (omega arith) (omega arith) h) (source_text names own e.ident.origin ns.all_))
    (AllByRecursion-append IsShortField (optional (bytes_field 6) e.meta.key) _
    (AllByRecursion-optional IsNameText IsShortField (bytes_field 6) e.meta.key (λ t h. short_bytes 6 t (omega arith) (omega arith) h) say.key)
    (AllByRecursion-append IsShortField (map (bytes_field 7) e.meta.names) _
    (AllByRecursion-map IsNameText IsShortField (bytes_field 7) e.meta.names (λ t h. short_bytes 7 t (omega arith) (omega arith) h) (listed names e ns plain))
    (AllByRecursion-optional (λ n. n < 2 ^ 64) IsShortField (varint_field 20) (marker_number e.content) (λ n h. short_number 20 n (omega arith) (omega arith) h)
    (number_small names e.content e.payload plain.content))))

fields_short : (names : List (List ℕ)) (own : ℕ) (e : Entry) → AreNames names → IsPlainEntry names None e → IsSayable e → AllByRecursion IsShortField (canonical_fields (stated names own e))
fields_short names own e ns plain say =
    AllByRecursion-append IsShortField (required_fields (stated names own e)) (optional_fields (stated names own e) ++ []) (required_short names own e say)
    (AllByRecursion-append IsShortField (optional_fields (stated names own e)) [] (optional_short names own e ns plain say) tt)

fields_few : (names : List (List ℕ)) (own : ℕ) (e : Entry) → AreNames names → IsPlainEntry names None e → length (canonical_fields (stated names own e)) ≤ 14
fields_few names own e ns plain =
    let m = stated names own e in
    let a : List Field = optional (bytes_field 5) m.replicated_from in
    let b : List Field = optional (bytes_field 6) e.meta.key in
    let c : List Field = map (bytes_field 7) e.meta.names in
    let d : List Field = optional (varint_field 20) (marker_number e.content) in
    let fa = optional_few (bytes_field 5) m.replicated_from in
    let fb = optional_few (bytes_field 6) e.meta.key in
    let fc = length-map e.meta.names (bytes_field 7) in
    let fd = optional_few (varint_field 20) (marker_number e.content) in
    let n = listed_few names e ns plain in
    omega (
      arith,
      fa,
      fb,
      fc,
      fd,
      n,
      length-append (required_fields m) (optional_fields m ++ []),
      length-append (optional_fields m) [],
      length-append a (b ++ (c ++ d)),
      length-append b (c ++ d),
      length-append c d,
    )

metadata_fits : (names : List (List ℕ)) (own : ℕ) (e : Entry) → AreNames names → IsPlainEntry names None e → IsSayable e → IsMetadata (stated names own e)
metadata_fits names own e ns plain say = record {
  fields = all_fit (canonical_fields (stated names own e)) (fields_short names own e ns plain say);
  producer = low_utf8 e.ident.producer say.producer.low;
  replicated_from = some_utf8 (stated names own e).replicated_from (source_text names own e.ident.origin ns.all_);
  key = some_utf8 e.meta.key say.key;
  replicate_to = texts_utf8 e.meta.names (listed names e ns plain);
  rest = tt;
}

-- ---- texts

parts : (r o f : List Field) → text (r ++ (o ++ f)) ≡ text r ++ (text o ++ text f)
parts r o f = flat_map-append field_text r (o ++ f) ∙ ap (λ (t : List ℕ). text r ++ t) (flat_map-append field_text o f)

stated_text : (names : List (List ℕ)) (own : ℕ) (e : Entry) → e.meta.rest ≡ [] → text (canonical_fields (stated names own e)) ≡ metadata_text names own e
stated_text names own e none =
    parts (required_fields (stated names own e)) (optional_fields (stated names own e)) []
    ∙ ap (λ (t : List ℕ). with_rest (stated names own e) t) (sym none)

metadata_short : (names : List (List ℕ)) (own : ℕ) (e : Entry) → AreNames names → IsPlainEntry names None e → IsSayable e → length (metadata_text names own e) < 2 ^ 32
metadata_short names own e ns plain say =
    let fs = canonical_fields (stated names own e) in
    let same = ap (λ (t : List ℕ). length t) (stated_text names own e plain.rest) in
    let size = length-text fs in
    let most = all_short fs (fields_short names own e ns plain say) in
    let few = fields_few names own e ns plain in
    bounded (length (metadata_text names own e)) (length (text fs)) (fields_size fs) (length fs) same size most few
  where
    bounded : (a b c n : ℕ) → b ≡ a → b ≡ c → c ≤ 64 * n → n ≤ 14 → a < 2 ^ 32
    bounded a b c n e f g h = omega (arith, e, f, g, h)

payload_length : (names : List (List ℕ)) (c : Content) (bs : List ℕ) → length (payload_text names c bs) ≡ payload_size names c bs
payload_length names content.Data bs = refl
payload_length names (content.Unread k) bs = refl
payload_length names (content.Marked m) [] = sizes names m
payload_length names (content.Marked m) (b ∷ bs) = refl

payload_short : (names : List (List ℕ)) (e : Entry) → entry_size names e ≤ most_entry_size → length (payload_text names e.content e.payload) < 2 ^ 32
payload_short names e small =
    bounded (length (payload_text names e.content e.payload)) (metadata_size e) (payload_size names e.content e.payload) (payload_length names e.content e.payload) small
  where
    bounded : (a m p : ℕ) → a ≡ p → m + p ≤ most_entry_size → a < 2 ^ 32
    bounded a m p is le = omega (arith, is, le)

content_right : (names : List (List ℕ)) (c : Content) (payload : List ℕ) → AreNames names → IsPlainContent names c payload → payload_size names c payload < 2 ^ 64 → IsSayableContent c → IsMarkerRight names c payload
content_right names content.Data payload ns plain size say = tt
content_right names (content.Unread k) payload ns plain size say = tt
content_right names (content.Marked m) [] ns plain size say = marker_right names m ns.all_ plain size say
content_right names (content.Marked m) (b ∷ bs) ns plain size say = tt

payload_fits : (names : List (List ℕ)) (e : Entry) → entry_size names e ≤ most_entry_size → payload_size names e.content e.payload < 2 ^ 64
payload_fits names e small = bounded (metadata_size e) (payload_size names e.content e.payload) small
  where
    bounded : (m p : ℕ) → m + p ≤ most_entry_size → p < 2 ^ 64
    bounded m p le = omega (arith, le)

has_texts : (names : List (List ℕ)) (own : ℕ) (e : Entry) → AreNames names → IsPlainEntry names None e → IsSayable e → entry_size names e ≤ most_entry_size → HasTexts names own e
has_texts names own e ns plain say small = record {
  metadata = record {
    fields = [];
    rest = plain.rest;
    text = subst (λ (t : List ℕ). IsMetaText t (stated names own e)) (stated_text names own e plain.rest) (canonical_is (stated names own e) (metadata_fits names own e ns plain say));
  };
  marker = content_right names e.content e.payload ns plain.content (payload_fits names e small) say.content;
}

-- ---- and they tell it

told_origin : (names : List (List ℕ)) (own x : ℕ) → AreNames names → x < length names → origin_of names own (option_map (cluster_ref_name names) (source_of own x)) ≡ Some x
told_origin names own x ns lt = by (x == own) refl
  where
    number : Option ClusterRef → Option ℕ
    number None = None
    number (Some p) = number_of p

    by : (t : Bool) → (x == own) ≡ t → origin_of names own (option_map (cluster_ref_name names) (if t then None else Some (cluster_ref.Known x))) ≡ Some x
    by true is = ap (λ (n : ℕ). Some n) (sym (eqb-true x own is))
    by false is = sym (ap number (source_told names (Some (cluster_ref.Known x)) ns.apart lt))

is_told : (names : List (List ℕ)) (own : ℕ) (e : Entry) → AreNames names → IsPlainEntry names None e → e.ident.origin < length names → IsTold names own e
is_told names own e ns plain lt =
    let told = entry_told names None e ns.apart plain in record { to = told.to; from = told_origin names own e.ident.origin ns lt; content = told.content }

-- all of it
pub record IsWritten (names : List (List ℕ)) (own : ℕ) (e : Entry) : Type 0 where
  pub texts : HasTexts names own e
  pub told : IsTold names own e
  pub metadata : length (metadata_text names own e) < 2 ^ 32
  pub payload : length (payload_text names e.content e.payload) < 2 ^ 32
  pub small : entry_size names e ≤ most_entry_size

pub written : (names : List (List ℕ)) (own : ℕ) (e : Entry) → AreNames names → IsPlainEntry names None e → IsSayable e → e.ident.origin < length names → entry_size names e ≤ most_entry_size → IsWritten names own e
written names own e ns plain say lt small = record {
  texts = has_texts names own e ns plain say small;
  told = is_told names own e ns plain lt;
  metadata = metadata_short names own e ns plain say;
  payload = payload_short names e small;
  small = small;
}
