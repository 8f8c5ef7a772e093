-- The canonical text of a command: every field that it has a value for, by ascending numbers.
use Rattle.std.specs.Prelude.{◌≡◌, ◌++◌, ℕ, ◌<◌, ◌^◌, if◌then◌else◌, List, [], ◌∷◌, map, length, IsUtf8, IfSome}
use Rattle.std.specs.List.{flat_map, AllByRecursion}
use Rattle.geo_base.specs.declared.position.Position.{Position}
use Rattle.pb_fields.specs.declared.field.Field.{Field}
use Rattle.pb_fields.specs.Field.{varint_field, bytes_field}
use Rattle.pb_fields.specs.Canonical as canonical
use Rattle.pulsar_commands.specs.declared.command.Command.{Command}
use Rattle.pulsar_commands.specs.Table.{kind_number}
use Rattle.pulsar_commands.specs.Part.{Part}
use Rattle.pulsar_commands.specs.Part as part
use Rattle.pulsar_commands.specs.Parts.{kind_of, parts}

-- the canonical text of a position
abbrev pub id_text : Position → List ℕ
id_text p = canonical.text (varint_field 1 p.ledger ∷ varint_field 2 p.entry ∷ [])

abbrev pub id_field : ℕ → Position → Field
id_field n p = bytes_field n (id_text p)

abbrev pub part_fields : Part → List Field
part_fields (part.text n t) = bytes_field n t ∷ []
part_fields (part.optional_text n t) = canonical.optional (bytes_field n) t
part_fields (part.number n k) = varint_field n k ∷ []
part_fields (part.optional_number n k) = canonical.optional (varint_field n) k
part_fields (part.number_or n absent k) = varint_field n k ∷ []
part_fields (part.flag n b) = varint_field n (if b then 1 else 0) ∷ []
part_fields (part.id n p) = id_field n p ∷ []
part_fields (part.optional_id n p) = canonical.optional (id_field n) p
part_fields (part.ids n ps) = map (id_field n) ps

-- the command's own message
abbrev pub body_text : Command → List ℕ
body_text c = canonical.text (flat_map part_fields (parts c))

-- the BaseCommand
abbrev pub command_fields : Command → List Field
command_fields c = varint_field 1 (kind_number (kind_of c)) ∷ bytes_field (kind_number (kind_of c)) (body_text c) ∷ []

abbrev pub command_text : Command → List ℕ
command_text c = canonical.text (command_fields c)

-- ---- what can be written: numbers and lengths have 64 bits, texts are UTF-8

pub record IsTextOf64 (t : List ℕ) : Type 0 where
  pub utf8 : IsUtf8 t
  pub length : length t < 2 ^ 64

pub record IsPosition (p : Position) : Type 0 where
  pub ledger : p.ledger < 2 ^ 64
  pub entry : p.entry < 2 ^ 64

abbrev pub IsPart : Part → Type 0
IsPart (part.text n t) = IsTextOf64 t
IsPart (part.optional_text n t) = IfSome t IsTextOf64
IsPart (part.number n k) = k < 2 ^ 64
IsPart (part.optional_number n k) = IfSome k (λ k. k < 2 ^ 64)
IsPart (part.number_or n absent k) = k < 2 ^ 64
IsPart (part.flag n b) = Unit {0}
IsPart (part.id n p) = IsPosition p
IsPart (part.optional_id n p) = IfSome p IsPosition
IsPart (part.ids n ps) = AllByRecursion IsPosition ps

pub record IsWritable (c : Command) : Type 0 where
  pub parts : AllByRecursion IsPart (parts c)
  pub length : length (body_text c) < 2 ^ 64

-- ---- what writing appends

-- new is old with the canonical fields of a part, which can be written
pub record WritesPart (old : List ℕ) (p : Part) (new : List ℕ) : Type 0 where
  pub appends : new ≡ old ++ canonical.text (part_fields p)
  pub writable : IsPart p

pub record Writes (old : List ℕ) (ps : List Part) (new : List ℕ) : Type 0 where
  pub appends : new ≡ old ++ canonical.text (flat_map part_fields ps)
  pub writable : AllByRecursion IsPart ps
