-- How long canonical texts are, where tags have one byte.
use Rattle.std.proofs.Common.{◌≡◌, ℕ, ◌+◌, ◌*◌, ◌/◌, ◌^◌, ◌<◌, ◌≤◌, List, ◌++◌, length, ap, arith, length-append}
use Rattle.pb_fields.specs.Canonical.{field_text, varint}
use Rattle.pb_fields.specs.Field.{bytes_field, varint_field}
use Rattle.pb_fields.specs.Front.{IsShortNumber}
use Rattle.pb_fields.proofs.Written.{varint-is, varint-more, varint-small}

pub length_small : (n : ℕ) → n < 128 → length (varint n) ≡ 1
length_small n lt = ap (λ (bytes : List ℕ). length bytes) (varint-small n lt)

pub length_more : (n : ℕ) → 128 ≤ n → n < 2 ^ 64 → length (varint n) ≡ 1 + length (varint (n / 128))
length_more n le lt = let more = ap (λ (bytes : List ℕ). length bytes) (varint-more n le lt) in omega (arith, more)

pub length_most : (n : ℕ) → n < 2 ^ 64 → length (varint n) < 11
length_most n lt = let h = (varint-is n lt).at_most_ten in omega (arith, h)

pub length_varint_field : (n v : ℕ) → IsShortNumber n → length (field_text (varint_field n v)) ≡ 1 + length (varint v)
length_varint_field n v short =
    let tag : length (varint (8 * n + 0)) ≡ 1 = length_small (8 * n + 0) (omega (arith, short.below)) in
    omega (arith, tag, length-append (varint (8 * n + 0)) (varint v))

pub length_bytes_field : (n : ℕ) (content : List ℕ) → IsShortNumber n → length content < 128 → length (field_text (bytes_field n content)) ≡ 2 + length content
length_bytes_field n content short few =
    let tag : length (varint (8 * n + 2)) ≡ 1 = length_small (8 * n + 2) (omega (arith, short.below)) in
    let size : length (varint (length content)) ≡ 1 = length_small (length content) few in
    omega (arith, tag, size, length-append (varint (8 * n + 2)) (varint (length content) ++ content), length-append (varint (length content)) content)
