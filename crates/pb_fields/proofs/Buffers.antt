-- What is put into a buffer, piece by piece.
use Rattle.std.proofs.Common.{◌≡◌, ◌∙◌, ℕ, ◌+◌, ◌*◌, ◌/◌, ◌^◌, ◌<◌, ◌≤◌, List, [], ◌∷◌, ◌++◌, length, inl, inr, ap, sym, subst, append_assoc, append-nil, length-append, arith}
use Rattle.std.specs.Prelude.{bit_and, bit_or}
use Rattle.std.proofs.lemmas.Bool.{cases_lt}
use Rattle.pb_fields.specs.Buffer.{Filled, Puts}
use Rattle.pb_fields.specs.Canonical.{field_text, head_text, varint}
use Rattle.pb_fields.specs.Field.{bytes_field, varint_field}
use Rattle.pb_fields.proofs.Heads.{head_content}
use Rattle.pb_fields.proofs.Written.{goes_on, varint-more, varint-small}

-- ---- pieces one after another

pub put_then : (a b c : Filled) (first rest : List ℕ) → Puts a first b → Puts b rest c → Puts a (first ++ rest) c
put_then a b c first rest one two = record {
  bytes = two.bytes ∙ ap (λ (bytes : List ℕ). bytes ++ rest) one.bytes ∙ append_assoc a.bytes first rest;
  spare = omega (arith, one.spare, two.spare, length-append first rest);
}

-- room for all is room for what is left of it after the first piece
pub room_then : (a b : Filled) (first rest : List ℕ) → Puts a first b → length (first ++ rest) ≤ a.spare → length rest ≤ b.spare
room_then a b first rest one room = omega (arith, room, one.spare, length-append first rest)

pub room_first : (first rest : List ℕ) (s : ℕ) → length (first ++ rest) ≤ s → length first ≤ s
room_first first rest s room = omega (arith, room, length-append first rest)

-- the same bytes, said in another way
pub put_same : (a b : Filled) (this that : List ℕ) → this ≡ that → Puts a this b → Puts a that b
put_same a b this that same one = subst (λ (bytes : List ℕ). Puts a bytes b) same one

pub put_none : (a : Filled) → Puts a [] a
put_none a = record { bytes = sym (append-nil a.bytes); spare = omega arith }

pub put_last : (a b : Filled) (more : List ℕ) → Puts a more b → Puts a (more ++ []) b
put_last a b more one = put_same a b more (more ++ []) (sym (append-nil more)) one

pub put_two : (a b c : Filled) (x y : List ℕ) → Puts a x b → Puts b y c → Puts a (x ++ (y ++ [])) c
put_two a b c x y one two = put_then a b c x (y ++ []) one (put_last b c y two)

pub put_three : (a b c d : Filled) (x y z : List ℕ) → Puts a x b → Puts b y c → Puts c z d → Puts a (x ++ (y ++ (z ++ []))) d
put_three a b c d x y z one two three = put_then a b d x (y ++ (z ++ [])) one (put_two b c d y z two three)

-- ---- a varint, byte by byte

-- a byte that goes on, and the rest
pub number_goes_on : (a b c : Filled) (n : ℕ) → 128 ≤ n → n < 2 ^ 64 → Puts a (bit_or 128 (bit_and n 127) ∷ []) b → Puts b (varint (n / 128)) c → Puts a (varint n) c
number_goes_on a b c n le lt one two =
    let byte : ℕ = bit_or 128 (bit_and n 127) in
    put_same a c (byte ∷ varint (n / 128)) (varint n) (ap (λ (k : ℕ). k ∷ varint (n / 128)) (goes_on n) ∙ sym (varint-more n le lt)) (put_then a b c (byte ∷ []) (varint (n / 128)) one two)

pub room_goes_on : (a b : Filled) (byte n : ℕ) → 128 ≤ n → n < 2 ^ 64 → Puts a (byte ∷ []) b → length (varint n) ≤ a.spare → length (varint (n / 128)) ≤ b.spare
room_goes_on a b byte n le lt one room = omega (arith, room, one.spare, ap (λ (bytes : List ℕ). length bytes) (varint-more n le lt))

pub number_ends : (a b : Filled) (n : ℕ) → n < 128 → Puts a (n ∷ []) b → Puts a (varint n) b
number_ends a b n lt one = put_same a b (n ∷ []) (varint n) (sym (varint-small n lt)) one

pub some_byte : (n s : ℕ) → n < 2 ^ 64 → length (varint n) ≤ s → 0 < s
some_byte n s lt room =
    elim (cases_lt n 128) [
      | inl small ↦ omega (arith, room, ap (λ (bytes : List ℕ). length bytes) (varint-small n small))
      | inr le ↦ omega (arith, room, ap (λ (bytes : List ℕ). length bytes) (varint-more n le lt))
    ]

-- ---- a tag of one byte, and what follows it

pub tag_put : (a b : Filled) (t k : ℕ) → t ≡ k → k < 128 → Puts a (t ∷ []) b → Puts a (varint k) b
tag_put a b t k is small one = number_ends a b k small (put_same a b (t ∷ []) (k ∷ []) (ap (λ (n : ℕ). n ∷ []) is) one)

pub varint_put : (a b c : Filled) (t n v : ℕ) → t ≡ 8 * n + 0 → n < 16 → Puts a (t ∷ []) b → Puts b (varint v) c → Puts a (field_text (varint_field n v)) c
varint_put a b c t n v is few one two = put_then a b c (varint (8 * n + 0)) (varint v) (tag_put a b t (8 * n + 0) is (omega (arith, few)) one) two

pub head_put : (a b c : Filled) (t n len : ℕ) → t ≡ 8 * n + 2 → n < 16 → Puts a (t ∷ []) b → Puts b (varint len) c → Puts a (head_text n len) c
head_put a b c t n len is few one two = put_then a b c (varint (8 * n + 2)) (varint len) (tag_put a b t (8 * n + 2) is (omega (arith, few)) one) two

pub tag_room : (a b : Filled) (t k : ℕ) (rest : List ℕ) → k < 128 → Puts a (t ∷ []) b → length (varint k ++ rest) ≤ a.spare → length rest ≤ b.spare
tag_room a b t k rest small one room = omega (arith, room, one.spare, length-append (varint k) rest, ap (λ (bytes : List ℕ). length bytes) (varint-small k small))

pub tag_fits : (k s : ℕ) (rest : List ℕ) → k < 128 → length (varint k ++ rest) ≤ s → 0 < s
tag_fits k s rest small room = omega (arith, room, length-append (varint k) rest, ap (λ (bytes : List ℕ). length bytes) (varint-small k small))

-- ---- a content after its head

pub content_put : (a b c : Filled) (n : ℕ) (content : List ℕ) → Puts a (head_text n (length content)) b → Puts b content c → Puts a (field_text (bytes_field n content)) c
content_put a b c n content one two = put_same a c (head_text n (length content) ++ content) (field_text (bytes_field n content)) (head_content n content) (put_then a b c (head_text n (length content)) content one two)

-- the room of a field is that of its head and its content
pub content_room : (n s : ℕ) (content : List ℕ) → length (field_text (bytes_field n content)) ≤ s → length (head_text n (length content) ++ content) ≤ s
content_room n s content room = omega (arith, room, ap (λ (bytes : List ℕ). length bytes) (head_content n content))
