-- What is written of a field whose tag and varint have a byte each.
use Rattle.std.proofs.Common.{◌≡◌, ◌∙◌, ℕ, ◌+◌, ◌*◌, ◌<◌, List, [], ◌∷◌, ◌++◌, ap, sym, arith}
use Rattle.pb_fields.specs.Canonical.{field_text, head_text, varint}
use Rattle.pb_fields.specs.Field.{varint_field}
use Rattle.pb_fields.proofs.Written.{varint-small}

two_bytes : (t u : ℕ) → t < 128 → u < 128 → varint t ++ varint u ≡ t ∷ u ∷ []
two_bytes t u low small = ap (λ (bytes : List ℕ). bytes ++ varint u) (varint-small t low) ∙ ap (λ (bytes : List ℕ). t ∷ bytes) (varint-small u small)

written : (old new : List ℕ) (t u k n : ℕ) → t < 128 → n < 128 → t ≡ k → u ≡ n → new ≡ old ++ t ∷ u ∷ [] → new ≡ old ++ (varint k ++ varint n)
written old new t u k n low small tag same is =
    is ∙ ap (λ (bytes : List ℕ). old ++ bytes) (ap (λ (m : ℕ). t ∷ m ∷ []) same ∙ sym (two_bytes t n low small) ∙ ap (λ (m : ℕ). varint m ++ varint n) tag)

pub varint_written : (old new : List ℕ) (t u n v : ℕ) → n < 16 → v < 128 → t ≡ 8 * n → u ≡ v → new ≡ old ++ t ∷ u ∷ [] → new ≡ old ++ field_text (varint_field n v)
varint_written old new t u n v few small tag same is = written old new t u (8 * n + 0) v (omega (arith, tag, few)) small (omega (arith, tag)) same is

pub head_written : (old new : List ℕ) (t u n len : ℕ) → n < 16 → len < 128 → t ≡ 8 * n + 2 → u ≡ len → new ≡ old ++ t ∷ u ∷ [] → new ≡ old ++ head_text n len
head_written old new t u n len few small tag same is = written old new t u (8 * n + 2) len (omega (arith, tag, few)) small tag same is
