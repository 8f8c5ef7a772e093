-- A field's text by what precedes its content.
use Rattle.std.proofs.Common.{◌≡◌, ℕ, ◌*◌, ◌+◌, List, ◌++◌, length, append_assoc}
use Rattle.pb_fields.specs.Canonical.{field_text, head_text, varint}
use Rattle.pb_fields.specs.Field.{bytes_field}

pub head_content : (n : ℕ) (content : List ℕ) → head_text n (length content) ++ content ≡ field_text (bytes_field n content)
head_content n content = append_assoc (varint (8 * n + 2)) (varint (length content)) content
