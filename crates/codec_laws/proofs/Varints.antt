-- A varint stands at the front of any bytes, or none does.
use Rattle.std.proofs.Common.{◌≡◌, ℕ, zero, suc, ◌+◌, ◌*◌, ◌%◌, ◌^◌, ◌<◌, ◌≤◌, List, length, drop, get_or, arith, ◌⊎◌, inl, inr}
use Rattle.std.proofs.lemmas.Bool.{cases_lt, cases_eq}
use Rattle.pb_fields.specs.declared.fault.FieldFault.{FieldFault}
use Rattle.pb_fields.specs.declared.fault.FieldFault.TheVariants as fault
use Rattle.pb_fields.specs.Varint.{TakesVarint}
use Rattle.pb_fields.specs.Faults.{BrokenVarint}
use Rattle.pb_fields.proofs.Varints.{HasRead, HasRead-none, HasRead-more, HasRead-last, HasRead-ends, HasRead-too_large}
use Rattle.codec_laws.specs.Answers.{AreBytes, HasAnswer, right, wrong}
use Rattle.codec_laws.proofs.AnswerBytes.{byte_at}

-- the number and the bytes after it
abbrev pub VarintAnswer : List ℕ → Type 0
VarintAnswer bytes = HasAnswer {X = ℕ × List ℕ} {E = FieldFault} (λ v. TakesVarint bytes v.0 v.1) (λ why. BrokenVarint bytes why)

-- whether a byte is a tenth one above 1
tenth : (i b : ℕ) → (i ≡ 9 → b ≤ 1) ⊎ ((i ≡ 9) × (1 < b))
tenth i b =
    elim (cases_eq i 9) [
      | inr other ↦ inl (λ e. absurd (other e))
      | inl nine ↦ elim (cases_lt 1 b) [ inl above ↦ inr (nine, above) | inr small ↦ inl (λ e. small) ]
    ]

-- what comes after some groups that go on, of which ten may be
varint_from : (left : ℕ) (bytes : List ℕ) (i n : ℕ) → left + i ≡ 10 → AreBytes bytes → HasRead bytes i n → VarintAnswer bytes
varint_from zero bytes i n so are h = absurd (let le = h.within in omega arith)
varint_from (suc left) bytes i n so are h =
    elim (cases_lt i (length bytes)) [
      | inr le ↦ wrong fault.Truncated (HasRead-ends bytes i n h le)
      | inl lt ↦ elim (tenth i (get_or bytes i 0)) [
        | inr big ↦ wrong fault.Varint (HasRead-too_large bytes i n h lt big.0 big.1)
        | inl fits ↦ elim (cases_lt (get_or bytes i 0) 128) [
          | inl small ↦ right (n + (get_or bytes i 0 % 128) * 2 ^ (7 * i), drop (i + 1) bytes) (HasRead-last bytes i n h lt small fits)
          | inr goes ↦ varint_from left bytes (i + 1) (n + (get_or bytes i 0 % 128) * 2 ^ (7 * i)) (omega arith) are (HasRead-more bytes i n h lt goes (byte_at bytes are i) fits)
        ]
      ]
    ]

pub varint_answer : (bytes : List ℕ) → AreBytes bytes → VarintAnswer bytes
varint_answer bytes are = varint_from 10 bytes 0 0 (omega arith) are (HasRead-none bytes)
