-- Commands of the usual form, read and written.
use Rattle.std.proofs.Common.{◌≡◌, ℕ, ◌+◌, ◌<◌, ◌^◌, List, [], ◌∷◌, ◌++◌, Some, length, refl, sym, ap, subst, ◌∙◌, append-nil, length-append, arith}
use Rattle.geo_base.specs.declared.position.Position.{Position}
use Rattle.pb_fields.specs.declared.field.Field.{Field}
use Rattle.std.specs.List.{AllByRecursion}
use Rattle.pb_fields.specs.Buffer.{Filled, Puts}
use Rattle.pb_fields.specs.Canonical.{field_text, head_text, varint}
use Rattle.pb_fields.specs.Field.{bytes_field, varint_field}
use Rattle.pb_fields.specs.Front.{Fronts, IsShortNumber}
use Rattle.pb_fields.specs.Text.{IsText, end}
use Rattle.pb_fields.proofs.Buffers.{content_put, put_two}
use Rattle.pb_fields.proofs.Heads.{head_content}
use Rattle.pb_fields.proofs.Sizes.{length_bytes_field, length_small, length_varint_field}
use Rattle.pulsar_commands.specs.declared.command.Command.{Command}
use Rattle.pulsar_commands.specs.declared.command.Command.TheVariants as command
use Rattle.pulsar_commands.specs.declared.kind.Kind.{Kind}
use Rattle.pulsar_commands.specs.declared.kind.Kind.TheVariants as kind
use Rattle.pulsar_commands.specs.declared.view.CommandView.{CommandView}
use Rattle.pulsar_commands.specs.declared.view.CommandView.TheVariants as view
use Rattle.pulsar_commands.specs.Canonical.{IsPart, IsWritable, body_text, command_text, id_field, id_text}
use Rattle.pulsar_commands.specs.Part.{IsIdText}
use Rattle.pulsar_commands.specs.Part as part
use Rattle.pulsar_commands.specs.Parts.{kind_of, parts}
use Rattle.pulsar_commands.specs.Table.{kind_number, rows_of}
use Rattle.pulsar_commands.specs.Text.{IdRight, IsCommand, IsCommandText, usual}
use Rattle.pulsar_commands.specs.Usual.{IsHeldText, command_viewed}
use Rattle.pulsar_commands.proofs.Told.{held_content, part_fits}
use Rattle.pulsar_commands.proofs.Usual.{bounds, usual_last, usual_right, usual_type}

-- ---- read

-- nothing follows
pub alone : (bytes rest : List ℕ) (f : Field) → Fronts bytes (f ∷ []) rest → rest ≡ [] → IsText bytes (f ∷ [])
alone bytes rest f h nothing = h.text [] (subst (λ (x : List ℕ). IsText x []) (sym nothing) end)

pub send_is : (content a b c : List ℕ) (id seq n : ℕ) → Fronts content (varint_field 1 id ∷ []) a → Fronts a (varint_field 2 seq ∷ []) b → Fronts b (varint_field 3 n ∷ []) c → c ≡ [] → IsHeldText kind.Send content (command.Send id seq n)
send_is content a b c id seq n one two three nothing = record {
  held = varint_field 1 id ∷ varint_field 2 seq ∷ varint_field 3 n ∷ [];
  text = one.text _ (two.text _ (alone b c (varint_field 3 n) three nothing));
  right = record {
    fit = (
      (part_fits (rows_of kind.Send) (part.number 1 id) refl one.writable.0.value).0,
      ((part_fits (rows_of kind.Send) (part.number 2 seq) refl two.writable.0.value).0, ((part_fits (rows_of kind.Send) (part.number_or 3 1 n) refl three.writable.0.value).0, tt)),
    );
    complete = refl;
  };
  known = tt;
  tells = record { kind = refl; says = (refl, (refl, (refl, tt))) };
}

pub receipt_is : (content a b held : List ℕ) (id seq : ℕ) (p : Position) → Fronts content (varint_field 1 id ∷ []) a → Fronts a (varint_field 2 seq ∷ []) b → IsText b (bytes_field 3 held ∷ []) → IdRight 0 held → IsIdText held p
    → IsHeldText kind.SendReceipt content (command.SendReceipt id seq (Some p))
receipt_is content a b held id seq p one two three right said = record {
  held = varint_field 1 id ∷ varint_field 2 seq ∷ bytes_field 3 held ∷ [];
  text = one.text _ (two.text _ three);
  right = record {
    fit = (
      (part_fits (rows_of kind.SendReceipt) (part.number 1 id) refl one.writable.0.value).0,
      ((part_fits (rows_of kind.SendReceipt) (part.number 2 seq) refl two.writable.0.value).0, (held_content (rows_of kind.SendReceipt) 3 _ held refl refl right, tt)),
    );
    complete = refl;
  };
  known = tt;
  tells = record { kind = refl; says = (refl, (refl, (said, tt))) };
}

pub message_is : (content a held : List ℕ) (id : ℕ) (p : Position) → Fronts content (varint_field 1 id ∷ []) a → IsText a (bytes_field 2 held ∷ []) → IdRight 0 held → IsIdText held p → IsHeldText kind.Message content (command.Message id p)
message_is content a held id p one two right said = record {
  held = varint_field 1 id ∷ bytes_field 2 held ∷ [];
  text = one.text _ two;
  right = record {
    fit = ((part_fits (rows_of kind.Message) (part.number 1 id) refl one.writable.0.value).0, (held_content (rows_of kind.Message) 2 _ held refl refl right, tt));
    complete = refl;
  };
  known = tt;
  tells = record { kind = refl; says = (refl, (said, tt)) };
}

-- the type and the command's own field say the command that the own field's content is a text of
pub held_is : (k : Kind) (content : List ℕ) (c : Command) → IsHeldText k content c → IsCommand (usual k content) c
held_is k content c h = record {
  kind = k;
  type = usual_type k content;
  held = h.held;
  holds = record { right = usual_right k content h.held h.text h.right; last = usual_last k content h.held h.text; known = h.known };
  tells = h.tells;
}

-- the type, and the command's own field
pub usual_command_is : (bytes rest content : List ℕ) (n m : ℕ) (k : Kind) (c : Command) → Fronts bytes (varint_field 1 n ∷ []) rest → n ≡ kind_number k → m ≡ kind_number k → IsText rest (bytes_field m content ∷ []) → IsHeldText k content c → IsCommandText bytes c
usual_command_is bytes rest content n m k c one named placed two h = record {
  fields = usual k content;
  text = subst (λ (fs : List Field). IsText bytes fs) same (one.text _ two);
  means = held_is k content c h;
}
  where
    same : varint_field 1 n ∷ bytes_field m content ∷ [] ≡ usual k content
    same = rw (named, placed) refl

-- ---- how long

pub length-two : (a b : List ℕ) → length (a ++ (b ++ [])) ≡ length a + length b
length-two a b = length-append a (b ++ []) ∙ ap (λ (bs : List ℕ). length a + length bs) (append-nil b)

length-three : (a b c : List ℕ) → length (a ++ (b ++ (c ++ []))) ≡ length a + length b + length c
length-three a b c = omega (arith, length-append a (b ++ (c ++ [])), length-two b c)

position_length : (n : ℕ) (p : Position) → IsShortNumber n → length (id_text p) < 128 → length (field_text (id_field n p)) ≡ 2 + length (id_text p)
position_length n p short few = length_bytes_field n (id_text p) short few

pub send_length : (id seq n : ℕ) → length (body_text (command.Send id seq n)) ≡ length (field_text (varint_field 1 id)) + length (field_text (varint_field 2 seq)) + length (field_text (varint_field 3 n))
send_length id seq n = length-three (field_text (varint_field 1 id)) (field_text (varint_field 2 seq)) (field_text (varint_field 3 n))

short : (n : ℕ) → 0 < n → n < 16 → IsShortNumber n
short n above below = record { above_zero = above; below = below }

pub receipt_length : (id seq : ℕ) (p : Position) (size : ℕ) → size ≡ length (id_text p) → size < 23 → length (body_text (command.SendReceipt id seq (Some p))) ≡ length (field_text (varint_field 1 id)) + length (field_text (varint_field 2 seq)) + (2 + size)
receipt_length id seq p size is few =
    let placed : length (field_text (id_field 3 p)) ≡ 2 + length (id_text p) = position_length 3 p (short 3 (omega arith) (omega arith)) (omega (arith, is, few)) in
    omega (arith, placed, is, length-three (field_text (varint_field 1 id)) (field_text (varint_field 2 seq)) (field_text (id_field 3 p)))

pub message_length : (id : ℕ) (p : Position) (size : ℕ) → size ≡ length (id_text p) → size < 23 → length (body_text (command.Message id p)) ≡ length (field_text (varint_field 1 id)) + (2 + size)
message_length id p size is few =
    let placed : length (field_text (id_field 2 p)) ≡ 2 + length (id_text p) = position_length 2 p (short 2 (omega arith) (omega arith)) (omega (arith, is, few)) in
    omega (arith, placed, is, length-two (field_text (varint_field 1 id)) (field_text (id_field 2 p)))

viewed_short : (v : CommandView) → kind_number (kind_of (command_viewed v)) < 16
viewed_short (view.Send id seq n) = omega arith
viewed_short (view.SendReceipt id seq p) = omega arith
viewed_short (view.Message id p) = omega arith

pub viewed_number : (v : CommandView) (n : ℕ) → n ≡ kind_number (kind_of (command_viewed v)) → IsShortNumber n
viewed_number v n is = short n (omega (arith, is, (bounds (kind_of (command_viewed v))).0)) (omega (arith, is, viewed_short v))

-- its type takes two bytes, and so do the tag and the length of its own field
short_length : (v : CommandView) → length (body_text (command_viewed v)) < 128 → length (command_text (command_viewed v)) ≡ 2 + 2 + length (body_text (command_viewed v))
short_length v few =
    let c : Command = command_viewed v in
    let k : ℕ = kind_number (kind_of c) in
    let above : 1 < k = (bounds (kind_of c)).0 in
    let below : k < 16 = viewed_short v in
    let type : length (field_text (varint_field 1 k)) ≡ 1 + length (varint k) = length_varint_field 1 k (short 1 (omega arith) (omega arith)) in
    let one : length (varint k) ≡ 1 = length_small k (omega (arith, below)) in
    let own : length (field_text (bytes_field k (body_text c))) ≡ 2 + length (body_text c) = length_bytes_field k (body_text c) (short k (omega (arith, above)) below) few in
    omega (arith, type, one, own, length-two (field_text (varint_field 1 k)) (field_text (bytes_field k (body_text c))))

pub command_length : (v : CommandView) (size : ℕ) → size ≡ length (body_text (command_viewed v)) → size < 60 → length (command_text (command_viewed v)) ≡ 2 + 2 + size
command_length v size is few = omega (arith, is, short_length v (omega (arith, is, few)))

-- the fields of a body
pub receipt_fields : (id seq : ℕ) (p : Position) → length (body_text (command.SendReceipt id seq (Some p))) ≡ length (field_text (varint_field 1 id)) + length (field_text (varint_field 2 seq)) + length (field_text (id_field 3 p))
receipt_fields id seq p = length-three (field_text (varint_field 1 id)) (field_text (varint_field 2 seq)) (field_text (id_field 3 p))

pub message_fields : (id : ℕ) (p : Position) → length (body_text (command.Message id p)) ≡ length (field_text (varint_field 1 id)) + length (field_text (id_field 2 p))
message_fields id p = length-two (field_text (varint_field 1 id)) (field_text (id_field 2 p))

-- ---- put into a buffer

pub command_put : (a b d e : Filled) (c : Command) (n m size : ℕ) → Puts a (field_text (varint_field 1 m)) b → m ≡ n → Puts b (head_text n size) d → n ≡ kind_number (kind_of c) → size ≡ length (body_text c) → Puts d (body_text c) e → Puts a (command_text c) e
command_put a b d e c n m size one same two named sized body =
    let k : ℕ = kind_number (kind_of c) in
    let first : Puts a (field_text (varint_field 1 k)) b = subst (λ (x : ℕ). Puts a (field_text (varint_field 1 x)) b) (same ∙ named) one in
    let head : Puts b (head_text k (length (body_text c))) d = subst (λ (x : ℕ). Puts b (head_text k x) d) sized (subst (λ (x : ℕ). Puts b (head_text x size) d) named two) in
    put_two a b e (field_text (varint_field 1 k)) (field_text (bytes_field k (body_text c))) first (content_put b d e k (body_text c) head body)

-- what it takes, piece by piece
pub pieces_length : (c : Command) → length (command_text c) ≡ length (field_text (varint_field 1 (kind_number (kind_of c)))) + length (head_text (kind_number (kind_of c)) (length (body_text c))) + length (body_text c)
pieces_length c =
    let k : ℕ = kind_number (kind_of c) in
    let body : List ℕ = body_text c in
    let own : length (head_text k (length body) ++ body) ≡ length (field_text (bytes_field k body)) = ap (λ (bs : List ℕ). length bs) (head_content k body) in
    omega (arith, own, length-append (head_text k (length body)) body, length-two (field_text (varint_field 1 k)) (field_text (bytes_field k body)))

-- what is left for the body after the type and the head
pub body_left : (v : CommandView) (size : ℕ) → size ≡ length (command_text (command_viewed v)) → size < 64 → size ≡ 4 + length (body_text (command_viewed v))
body_left v size is few =
    let short : length (body_text (command_viewed v)) < 128 = omega (arith, is, few, pieces_length (command_viewed v)) in
    omega (arith, is, short_length v short)

pub command_writable : (v : CommandView) (size : ℕ) → size ≡ length (command_text (command_viewed v)) → size < 64 → AllByRecursion IsPart (parts (command_viewed v)) → IsWritable (command_viewed v)
command_writable v size is few written = record { parts = written; length = let fits : length (body_text (command_viewed v)) < 2 ^ 64 = omega (arith, few, body_left v size is few) in fits }
