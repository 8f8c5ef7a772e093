-- An entry that a file holds can be written again, and its texts tell it.
use Rattle.std.proofs.Common.{◌≡◌, ℕ, ◌+◌, ◌<◌, ◌≤◌, ◌==◌, Bool, true, false, List, [], ◌∷◌, ◌++◌, length, refl, sym, ap, subst, ◌∙◌, arith}
use Rattle.std.specs.Prelude.{Option, Some, None, if◌then◌else◌, is_none}
use Rattle.std.specs.List.{AllByRecursion}
use Rattle.std.specs.Str.{bytes_eq}
use Rattle.std.proofs.lemmas.Bool.{eqb-true, false≢true}
use Rattle.std.proofs.lemmas.Option.{none-some, same_Some}
use Rattle.broker_plans.specs.Storable.{AreStorable, IsStorable, marker_slack, most_stored}
use Rattle.state_items.specs.Origins.{number_of, origin_of}
use Rattle.geo_base.specs.declared.entry.Entry.{Entry}
use Rattle.geo_base.specs.declared.marker.ClusterRef.TheVariants as cluster_ref
use Rattle.geo_base.specs.Broker.{Site}
use Rattle.geo_base.specs.Entry.{is_own_marker}
use Rattle.geo_base.specs.Sizes.{entry_size, most_entry_size}
use Rattle.geo_base.specs.Topic.{accepts, next_marker}
use Rattle.message_meta.specs.Known.{IsRest}
use Rattle.message_meta.specs.Metadata.{IsMetaText, Metadata}
use Rattle.message_meta.specs.Table.{rows}
use Rattle.pb_fields.specs.declared.field.Field.{Field}
use Rattle.pb_fields.specs.declared.message.Row.{Row}
use Rattle.pb_fields.specs.Canonical.{text}
use Rattle.pb_fields.specs.Field.{IsField}
use Rattle.pb_fields.specs.Message.{IsUnknown, row_of, unknown}
use Rattle.pb_fields.proofs.Written.{text-fields}
use Rattle.state_items.specs.Fitting.{AllFit}
use Rattle.state_nodes.specs.Entries.{is_in_turn}
use Rattle.state_nodes.specs.Known.{IsKnownEntry}
use Rattle.broker.proofs.ReadFrames.{content_has}
use Rattle.frame_values.proofs.Known.{content_told}
use Rattle.frame_values.specs.Told.{IsToldEntry}
use Rattle.frame_values.specs.Values.{place_from, targets_of}
use Rattle.world_laws.specs.Starts.{AreStored, IsNextStored}
use Rattle.geo_base.proofs.Bools.{and_first, and_second}

-- ---- its texts tell it

pub entry_told : (names : List (List ℕ)) (own : ℕ) (before : List Entry) (e : Entry) → IsKnownEntry names own before e → IsToldEntry names None e
entry_told names own before e h = record {
  to = h.stored.to ∙ ap (λ (ns : List (List ℕ)). targets_of names ns) (sym h.stored.listed);
  from = refl;
  content = content_told names h.meta.marker h.payload e.content e.payload h.stored.content;
}

-- ---- it can be written again

none_there : (o : Option Row) → is_none o ≡ true → o ≡ None
none_there None h = refl
none_there (Some r) h = absurd (false≢true h)

each_unknown : (fs : List Field) → AllByRecursion (IsUnknown rows) (unknown rows fs)
each_unknown [] = tt
each_unknown (f ∷ fs) = by (is_none (row_of rows f.number)) refl (each_unknown fs)
  where
    by : (b : Bool) → is_none (row_of rows f.number) ≡ b → AllByRecursion (IsUnknown rows) (unknown rows fs) → AllByRecursion (IsUnknown rows) (if b then f ∷ unknown rows fs else unknown rows fs)
    by true e h = (none_there (row_of rows f.number) e, h)
    by false e h = h

each_writable : (fs : List Field) → AllByRecursion IsField fs → AllByRecursion IsField (unknown rows fs)
each_writable [] h = tt
each_writable (f ∷ fs) h = by (is_none (row_of rows f.number)) (each_writable fs h.1)
  where
    by : (b : Bool) → AllByRecursion IsField (unknown rows fs) → AllByRecursion IsField (if b then f ∷ unknown rows fs else unknown rows fs)
    by true k = (h.0, k)
    by false k = k

rest_known : (rest bytes : List ℕ) (m : Metadata) → IsMetaText bytes m → rest ≡ text m.rest → IsRest rest
rest_known rest bytes m h is = record {
  fields = unknown rows h.fields;
  is = is ∙ ap text (sym h.means.rest);
  writable = each_writable h.fields (text-fields h.text);
  unknown = each_unknown h.fields;
}

pub entry_rest : (names : List (List ℕ)) (own : ℕ) (before : List Entry) (e : Entry) → IsKnownEntry names own before e → IsRest e.meta.rest
entry_rest names own before e h = rest_known e.meta.rest h.text h.meta h.says h.stored.rest

within_most : (own origin size : ℕ) → size ≤ most_entry_size → size ≤ most_stored own origin
within_most own origin size le = by (origin == own)
  where
    by : (b : Bool) → size ≤ (if b then most_entry_size + marker_slack else most_entry_size)
    by true = omega (arith, le)
    by false = le

entry_storable : (h : Site) (before : List Entry) (e : Entry) → IsKnownEntry h.clusters h.own before e → IsStorable h e
entry_storable h before e k = record {
  read = record { rest = entry_rest h.clusters h.own before e k; marker = content_has h.clusters k.meta.marker k.payload e.content e.payload k.stored.content };
  size = within_most h.own e.ident.origin (entry_size h.clusters e) k.small;
}

-- ---- all entries

pub fit_each : {X : Type 0} (Fits : List X → X → Type 0) (P : X → Type 0) → ((before : List X) (x : X) → Fits before x → P x) → (xs before : List X) → AllFit Fits before xs → AllByRecursion P xs
fit_each Fits P f [] before h = tt
fit_each Fits P f (x ∷ xs) before h = (f before x h.0, fit_each Fits P f xs (before ++ x ∷ []) h.1)

pub all_storable : (h : Site) (es : List Entry) → AllFit (IsKnownEntry h.clusters h.own) [] es → AreStorable h es
all_storable h es k = fit_each (IsKnownEntry h.clusters h.own) (IsStorable h) (entry_storable h) es [] k

pub all_told : (names : List (List ℕ)) (own : ℕ) (es : List Entry) → AllFit (IsKnownEntry names own) [] es → AllByRecursion (IsToldEntry names None) es
all_told names own es k = fit_each (IsKnownEntry names own) (IsToldEntry names None) (entry_told names own) es [] k

-- ---- which cluster stored it first

number_within : (ms : List (List ℕ)) (j : ℕ) (n : List ℕ) (x : ℕ) → number_of (place_from j ms n) ≡ Some x → x < j + length ms
number_within [] j n x h = absurd (none-some x h)
number_within (m ∷ ms) j n x h = by (bytes_eq m n) h (number_within ms (j + 1) n x)
  where
    by : (b : Bool) → number_of (if b then cluster_ref.Known j else place_from (j + 1) ms n) ≡ Some x → (number_of (place_from (j + 1) ms n) ≡ Some x → x < j + 1 + length ms) → x < j + length (m ∷ ms)
    by true e later = let same = same_Some j x e in omega (arith, same)
    by false e later = let lt = later e in omega (arith, lt)

origin_within : (names : List (List ℕ)) (own : ℕ) (o : Option (List ℕ)) (x : ℕ) → own < length names → origin_of names own o ≡ Some x → x < length names
origin_within names own None x lt h = subst (λ (n : ℕ). n < length names) (same_Some own x h) lt
origin_within names own (Some n) x lt h = let within = number_within names 0 n x h in omega (arith, within)

turn_is : (own : ℕ) (before : List Entry) (e : Entry) → is_in_turn own before e.ident ≡ true → is_own_marker own e ≡ true → e.ident.seq ≡ next_marker own before
turn_is own before e turn marker = eqb-true e.ident.seq (next_marker own before) (by (is_own_marker own e) marker turn)
  where
    by : (b : Bool) → b ≡ true → (if b then e.ident.seq == next_marker own before else true) ≡ true → (e.ident.seq == next_marker own before) ≡ true
    by true is h = h
    by false is h = absurd (false≢true is)

next_stored : (names : List (List ℕ)) (own : ℕ) (before : List Entry) (e : Entry) → own < length names → IsKnownEntry names own before e → IsNextStored (length names) own before e
next_stored names own before e lt h =
    let new = accepts before e.ident in
    let turn = is_in_turn own before e.ident in
    record {
      origin = origin_within names own h.meta.replicated_from e.ident.origin lt h.origin;
      new = and_first new turn h.next;
      marker = λ marker. turn_is own before e (and_second new turn h.next) marker;
    }

pub all_stored : (names : List (List ℕ)) (own : ℕ) (es before : List Entry) → own < length names → AllFit (IsKnownEntry names own) before es → AreStored (length names) own before es
all_stored names own [] before lt h = tt
all_stored names own (e ∷ es) before lt h = (next_stored names own before e lt h.0, all_stored names own es (before ++ e ∷ []) lt h.1)
