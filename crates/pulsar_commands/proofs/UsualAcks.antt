-- ACKs of the usual form, read and written.
use Rattle.std.proofs.Common.{◌≡◌, ℕ, ◌+◌, ◌<◌, ◌≤◌, ◌^◌, List, [], ◌∷◌, ◌++◌, Option, Some, None, length, map, take, drop, get_or, refl, sym, ap, subst, ◌∙◌, append_assoc, append-nil, length-append, arith, add-one}
use Rattle.std.specs.List.{AllByRecursion, last_or}
use Rattle.std.proofs.Math.Seq.{take-suc}
use Rattle.std.proofs.lemmas.Grind.{flat_map-append}
use Rattle.std.proofs.lemmas.List.{map-append, take-append-drop}
use Rattle.geo_base.specs.declared.frame.AckKind.{AckKind}
use Rattle.geo_base.specs.declared.frame.AckKind.TheVariants as ack_kind
use Rattle.geo_base.specs.declared.position.Position.{Position}
use Rattle.pb_fields.specs.declared.field.Field.{Field}
use Rattle.pb_fields.specs.declared.field.Value.{Value}
use Rattle.pb_fields.specs.declared.field.Value.TheVariants as value
use Rattle.pb_fields.specs.Buffer.{Filled, Puts}
use Rattle.pb_fields.specs.Canonical.{field_text, text, varint}
use Rattle.pb_fields.specs.Embedded.{FitsWith}
use Rattle.pb_fields.specs.Field.{IsField, bytes_field, varint_field}
use Rattle.pb_fields.specs.Front.{Fronts, IsShortNumber}
use Rattle.pb_fields.specs.Message.{last_value, values}
use Rattle.pb_fields.specs.Text.{IsText, end}
use Rattle.pb_fields.proofs.Buffers.{put_same, put_then}
use Rattle.pb_fields.proofs.Fronts.{absent_fronts}
use Rattle.pb_fields.proofs.Parts.{AllByRecursion-append, AllByRecursion-map, values-map, values-map_other}
use Rattle.pb_fields.proofs.Sizes.{length_bytes_field, length_small, length_varint_field}
use Rattle.pulsar_commands.specs.declared.command.Command.TheVariants as command
use Rattle.pulsar_commands.specs.declared.kind.Kind.TheVariants as kind
use Rattle.pulsar_commands.specs.Canonical.{IsPosition, IsWritable, body_text, command_text, id_field, id_text}
use Rattle.pulsar_commands.specs.Part.{AreIds, IsIdText}
use Rattle.pulsar_commands.specs.Part as part
use Rattle.pulsar_commands.specs.Parts.{ack_number}
use Rattle.pulsar_commands.specs.Table.{rows_of}
use Rattle.pulsar_commands.specs.Text.{IdRight}
use Rattle.pulsar_commands.specs.Usual.{FrontIds, IsHeldText}
use Rattle.pulsar_commands.proofs.Told.{held_content, part_fits}
use Rattle.pulsar_commands.proofs.UsualCommands.{length-two}

-- ---- read

-- fields after fields
both_fronts : (a b c : List ℕ) (fs gs : List Field) → Fronts a fs b → Fronts b gs c → Fronts a (fs ++ gs) c
both_fronts a b c fs gs h k = record {
  text = λ hs t. subst (λ (l : List Field). IsText a l) (sym (append_assoc fs gs hs)) (h.text (gs ++ hs) (k.text hs t));
  writable = AllByRecursion-append IsField fs gs h.writable k.writable;
}

pub front_is : (content a b : List ℕ) (id n : ℕ) (k : AckKind) → Fronts content (varint_field 1 id ∷ []) a → Fronts a (varint_field 2 n ∷ []) b → n ≡ ack_number k → Fronts content (varint_field 1 id ∷ varint_field 2 (ack_number k) ∷ []) b
front_is content a b id n k one two is =
    subst (λ (m : ℕ). Fronts content (varint_field 1 id ∷ varint_field 2 m ∷ []) b) is (both_fronts content a b (varint_field 1 id ∷ []) (varint_field 2 n ∷ []) one two)

pub one_id : (bytes content after : List ℕ) (p : Position) → Fronts bytes (bytes_field 3 content ∷ []) after → IdRight 0 content → IsIdText content p → FrontIds bytes (p ∷ []) after
one_id bytes content after p fronts right said = record { contents = content ∷ []; fronts = fronts; right = (right, tt); said = (said, tt) }

pub no_ids : (bytes : List ℕ) (ps : List Position) → ps ≡ [] → FrontIds bytes ps bytes
no_ids bytes ps none = subst (λ (qs : List Position). FrontIds bytes qs bytes) (sym none) (record { contents = []; fronts = absent_fronts bytes; right = tt; said = tt })

AreIds-append : (vs : List Value) (ps : List Position) (ws : List Value) (qs : List Position) → AreIds vs ps → AreIds ws qs → AreIds (vs ++ ws) (ps ++ qs)
AreIds-append [] [] ws qs h k = k
AreIds-append (v ∷ vs) (p ∷ ps) ws qs h k = (h.0, AreIds-append vs ps ws qs h.1 k)
AreIds-append [] (p ∷ ps) ws qs h k = absurd h
AreIds-append (v ∷ vs) [] ws qs h k = absurd h

-- positions after positions
pub more_ids : (a b c : List ℕ) (ps qs rs : List Position) → FrontIds a ps b → FrontIds b qs c → rs ≡ ps ++ qs → FrontIds a rs c
more_ids a b c ps qs rs h k is =
    subst (λ (x : List Position). FrontIds a x c) (sym is) (record {
      contents = h.contents ++ k.contents;
      fronts = subst (λ (fs : List Field). Fronts a fs c) (sym (map-append (bytes_field 3) h.contents k.contents)) (both_fronts a b c (map (bytes_field 3) h.contents) (map (bytes_field 3) k.contents) h.fronts k.fronts);
      right = AllByRecursion-append (IdRight 0) h.contents k.contents h.right k.right;
      said = subst (λ (vs : List Value). AreIds vs (ps ++ qs)) (sym (map-append value.Bytes h.contents k.contents)) (AreIds-append (map value.Bytes h.contents) ps (map value.Bytes k.contents) qs h.said k.said);
    })

ack_below : (k : AckKind) → ack_number k < 2
ack_below ack_kind.Individual = omega arith
ack_below ack_kind.Cumulative = omega arith

-- the two numbers, and the positions after them
pub ack_is : (content rest : List ℕ) (id : ℕ) (k : AckKind) (ps : List Position) → Fronts content (varint_field 1 id ∷ varint_field 2 (ack_number k) ∷ []) rest → FrontIds rest ps [] → IsHeldText kind.Ack content (command.Ack id k ps)
ack_is content rest id k ps front ids = record {
  held = varint_field 1 id ∷ varint_field 2 n ∷ fs;
  text = front.text fs (subst (λ (l : List Field). IsText rest l) (append-nil fs) (ids.fronts.text [] end));
  right = record {
    fit = (
      (part_fits (rows_of kind.Ack) (part.number 1 id) refl front.writable.0.value).0,
      (
        (part_fits (rows_of kind.Ack) (part.number 2 n) refl front.writable.1.0.value).0,
        AllByRecursion-map (IdRight 0) (FitsWith IdRight (rows_of kind.Ack)) (bytes_field 3) ids.contents (λ c right. held_content (rows_of kind.Ack) 3 _ c refl refl right) ids.right,
      ),
    );
    complete = refl;
  };
  known = (is_known, tt);
  tells = record { kind = refl; says = (first, (second, (third, tt))) };
}
  where
    n : ℕ
    n = ack_number k

    fs : List Field
    fs = map (bytes_field 3) ids.contents

    held : List Field
    held = varint_field 1 id ∷ varint_field 2 n ∷ fs

    first : last_value 1 held ≡ Some (value.Varint id)
    first = ap (λ (vs : List Value). last_or None (value.Varint id ∷ vs)) (values-map_other 1 3 value.Bytes ids.contents (λ e. omega (arith, e)))

    second : last_value 2 held ≡ Some (value.Varint n)
    second = ap (λ (vs : List Value). last_or None (value.Varint n ∷ vs)) (values-map_other 2 3 value.Bytes ids.contents (λ e. omega (arith, e)))

    third : AreIds (values 3 held) ps
    third = subst (λ (vs : List Value). AreIds vs ps) (sym (values-map 3 value.Bytes ids.contents)) ids.said

    same_number : (x y : ℕ) → ◌≡◌ {A = Option Value} (Some (value.Varint x)) (Some (value.Varint y)) → x ≡ y
    same_number x y e = cc

    is_known : (m : ℕ) → last_value 2 held ≡ Some (value.Varint m) → m < 2
    is_known m is = subst (λ (x : ℕ). x < 2) (same_number n m (sym second ∙ is)) (ack_below k)

-- ---- how long

short : (n : ℕ) → 0 < n → n < 16 → IsShortNumber n
short n above below = record { above_zero = above; below = below }

abbrev id_fields : List Position → List Field
id_fields ps = map (id_field 3) ps

more_length : (ps : List Position) (p : Position) (one : ℕ) → one ≡ length (id_text p) → one < 23 → length (text (id_fields (ps ++ p ∷ []))) ≡ length (text (id_fields ps)) + (2 + one)
more_length ps p one is few =
    let made : text (id_fields (ps ++ p ∷ [])) ≡ text (id_fields ps) ++ text (id_fields (p ∷ [])) =
    ap (λ (fs : List Field). text fs) (map-append (id_field 3) ps (p ∷ [])) ∙ flat_map-append field_text (id_fields ps) (id_fields (p ∷ [])) in
    let whole : length (text (id_fields (ps ++ p ∷ []))) ≡ length (text (id_fields ps)) + length (text (id_fields (p ∷ []))) =
    ap (λ (bs : List ℕ). length bs) made ∙ length-append (text (id_fields ps)) (text (id_fields (p ∷ []))) in
    let last : length (text (id_fields (p ∷ []))) ≡ length (field_text (id_field 3 p)) = ap (λ (bs : List ℕ). length bs) (append-nil (field_text (id_field 3 p))) in
    let own : length (field_text (id_field 3 p)) ≡ 2 + length (id_text p) = length_bytes_field 3 (id_text p) (short 3 (omega arith) (omega arith)) (omega (arith, is, few)) in
    omega (arith, whole, last, own, is)

-- one position more is counted
pub ids_more : (ps : List Position) (i : ℕ) (p : Position) (size one : ℕ) → i < length ps → p ≡ get_or ps i p → one ≡ length (id_text p) → one < 23 → size ≡ length (text (map (id_field 3) (take i ps))) → size + (2 + one) ≡ length (text (map (id_field 3) (take (i + 1) ps)))
ids_more ps i p size one within at is few counted =
    let taken : take (i + 1) ps ≡ take i ps ++ p ∷ [] = ap (λ (k : ℕ). take k ps) (add-one i) ∙ take-suc ps i p within ∙ ap (λ (q : Position). take i ps ++ q ∷ []) (sym at) in
    let whole : length (text (id_fields (take (i + 1) ps))) ≡ length (text (id_fields (take i ps ++ p ∷ []))) = ap (λ (qs : List Position). length (text (id_fields qs))) taken in
    omega (arith, whole, more_length (take i ps) p one is few, counted)

pub body_length : (id : ℕ) (k : AckKind) (ps : List Position) → length (body_text (command.Ack id k ps)) ≡ length (field_text (varint_field 1 id)) + length (field_text (varint_field 2 (ack_number k))) + length (text (map (id_field 3) ps))
body_length id k ps =
    let a : List ℕ = field_text (varint_field 1 id) in
    let b : List ℕ = field_text (varint_field 2 (ack_number k)) in
    let c : List ℕ = text (id_fields ps ++ []) in
    let last : length c ≡ length (text (id_fields ps)) = ap (λ (fs : List Field). length (text fs)) (append-nil (id_fields ps)) in
    omega (arith, length-append a (b ++ c), length-append b c, last)

pub ack_length : (id : ℕ) (k : AckKind) (ps : List Position) (body : ℕ) → body ≡ length (body_text (command.Ack id k ps))
    → length (command_text (command.Ack id k ps)) ≡ length (field_text (varint_field 1 10)) + length (field_text (varint_field 10 body)) + body
ack_length id k ps body is =
    let content : List ℕ = body_text (command.Ack id k ps) in
    let size : List ℕ = varint (length content) in
    let tag : length (varint 82) ≡ 1 = length_small 82 (omega arith) in
    let own : length (field_text (bytes_field 10 content)) ≡ 1 + length size + length content = omega (arith, tag, length-append (varint 82) (size ++ content), length-append size content) in
    let head : length (field_text (varint_field 10 body)) ≡ 1 + length (varint body) = length_varint_field 10 body (short 10 (omega arith) (omega arith)) in
    let same : length (varint body) ≡ length size = ap (λ (m : ℕ). length (varint m)) is in
    omega (arith, length-two (field_text (varint_field 1 10)) (field_text (bytes_field 10 content)), own, head, same, is)

-- ---- put into a buffer

ids_text : (ps qs : List Position) → text (id_fields (ps ++ qs)) ≡ text (id_fields ps) ++ text (id_fields qs)
ids_text ps qs = ap (λ (fs : List Field). text fs) (map-append (id_field 3) ps qs) ∙ flat_map-append field_text (id_fields ps) (id_fields qs)

one_more : (ps : List Position) (i : ℕ) (p : Position) → i < length ps → p ≡ get_or ps i p → take (i + 1) ps ≡ take i ps ++ p ∷ []
one_more ps i p within at = ap (λ (k : ℕ). take k ps) (add-one i) ∙ take-suc ps i p within ∙ ap (λ (q : Position). take i ps ++ q ∷ []) (sym at)

next_text : (ps : List Position) (i : ℕ) (p : Position) → i < length ps → p ≡ get_or ps i p → text (map (id_field 3) (take i ps)) ++ field_text (id_field 3 p) ≡ text (map (id_field 3) (take (i + 1) ps))
next_text ps i p within at =
    ap (λ (bs : List ℕ). text (id_fields (take i ps)) ++ bs) (sym (append-nil (field_text (id_field 3 p)))) ∙ sym (ids_text (take i ps) (p ∷ [])) ∙ ap (λ (qs : List Position). text (id_fields qs)) (sym (one_more ps i p within at))

-- one position more is put
pub next_put : (a b c : Filled) (ps : List Position) (i : ℕ) (p : Position) → i < length ps → p ≡ get_or ps i p → Puts a (text (map (id_field 3) (take i ps))) b → Puts b (field_text (id_field 3 p)) c → Puts a (text (map (id_field 3) (take (i + 1) ps))) c
next_put a b c ps i p within at one two = put_same a c _ _ (next_text ps i p within at) (put_then a b c (text (map (id_field 3) (take i ps))) (field_text (id_field 3 p)) one two)

pub next_position : (ps : List Position) (i : ℕ) (p : Position) → i < length ps → p ≡ get_or ps i p → AllByRecursion IsPosition (take i ps) → IsPosition p → AllByRecursion IsPosition (take (i + 1) ps)
next_position ps i p within at before one = subst (λ (qs : List Position). AllByRecursion IsPosition qs) (sym (one_more ps i p within at)) (AllByRecursion-append IsPosition (take i ps) (p ∷ []) before (one, tt))

-- room for all is room for the next
pub next_room : (a b : Filled) (ps : List Position) (i : ℕ) (p : Position) → i < length ps → p ≡ get_or ps i p → length (text (map (id_field 3) ps)) ≤ a.spare → Puts a (text (map (id_field 3) (take i ps))) b → length (field_text (id_field 3 p)) ≤ b.spare
next_room a b ps i p within at room one =
    let next : length (text (map (id_field 3) (take i ps)) ++ field_text (id_field 3 p)) ≡ length (text (map (id_field 3) (take (i + 1) ps))) = ap (λ (bs : List ℕ). length bs) (next_text ps i p within at) in
    let whole : length (text (id_fields (take (i + 1) ps ++ drop (i + 1) ps))) ≡ length (text (id_fields ps)) = ap (λ (qs : List Position). length (text (id_fields qs))) (take-append-drop (i + 1) ps) in
    let cut : length (text (id_fields (take (i + 1) ps ++ drop (i + 1) ps))) ≡ length (text (id_fields (take (i + 1) ps))) + length (text (id_fields (drop (i + 1) ps))) =
    ap (λ (bs : List ℕ). length bs) (ids_text (take (i + 1) ps) (drop (i + 1) ps)) ∙ length-append (text (id_fields (take (i + 1) ps))) (text (id_fields (drop (i + 1) ps))) in
    omega (arith, room, one.spare, next, whole, cut, length-append (text (map (id_field 3) (take i ps))) (field_text (id_field 3 p)))

pub body_put : (a b c d : Filled) (id n : ℕ) (k : AckKind) (ps : List Position) → Puts a (field_text (varint_field 1 id)) b → Puts b (field_text (varint_field 2 n)) c → n ≡ ack_number k → Puts c (text (map (id_field 3) ps)) d → Puts a (body_text (command.Ack id k ps)) d
body_put a b c d id n k ps one two is three =
    let kind : Puts b (field_text (varint_field 2 (ack_number k))) c = subst (λ (m : ℕ). Puts b (field_text (varint_field 2 m)) c) is two in
    let ids : Puts c (text (id_fields ps ++ [])) d = put_same c d (text (id_fields ps)) (text (id_fields ps ++ [])) (ap (λ (fs : List Field). text fs) (sym (append-nil (id_fields ps)))) three in
    put_then a b d (field_text (varint_field 1 id)) (field_text (varint_field 2 (ack_number k)) ++ text (id_fields ps ++ [])) one (put_then b c d (field_text (varint_field 2 (ack_number k))) (text (id_fields ps ++ [])) kind ids)

pub ack_writable : (id : ℕ) (k : AckKind) (ps : List Position) (size : ℕ) → id < 2 ^ 64 → AllByRecursion IsPosition ps → size ≡ length (body_text (command.Ack id k ps)) → size < 5000000 → IsWritable (command.Ack id k ps)
ack_writable id k ps size fits written sized few = record {
  parts = (fits, (let kind : ack_number k < 2 ^ 64 = omega (arith, ack_below k) in kind, (written, tt)));
  length = let small : length (body_text (command.Ack id k ps)) < 2 ^ 64 = omega (arith, sized, few) in small;
}
