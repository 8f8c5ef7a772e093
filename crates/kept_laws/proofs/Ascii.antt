-- Texts of bytes below 128: names, numbers and what is made of them.
use Rattle.std.proofs.Common.{◌≡◌, ℕ, zero, suc, ◌^◌, ◌<◌, ◌≤◌, nat_le, nat_lt, Bool, true, List, [], ◌∷◌, length, arith, refl}
use Rattle.std.specs.Prelude.{◌&&◌, decimal, slice_index_or}
use Rattle.std.specs.List.{list_all}
use Rattle.std.specs.Str.{IsAscii, IsUtf8, is_utf8}
use Rattle.std.proofs.lemmas.Bool.{leb-true, ltb-true}
use Rattle.std.proofs.lemmas.Bool.Decides.{nat_tests}
use Rattle.std.proofs.lemmas.Str.{IsUtf8-from_ascii, is_utf8-from_IsUtf8}
use Rattle.std.proofs.lemmas.Str.Ascii.{IsAscii-nil, IsAscii-cons}
use Rattle.geo_base.specs.SnapshotBuilder.{second_id, snapshot_id}
use Rattle.geo_base.specs.Entry.{marker_producer}
use Rattle.geo_base.specs.Name.{is_name, most_name_bytes, name_byte}
use Rattle.script_rows.proofs.Digits.{decimal_digits}
use Rattle.script_rows.specs.Numbers.{is_digit}
use Rattle.world_laws.proofs.Types.{Position}
use Rattle.world_laws.proofs.Replicating.Effects.{Each, each_both}
use Rattle.world_laws.proofs.Snapshotting.Ids.{IsSmall}
use Rattle.world_laws.proofs.Walks.Walk.{left, right}

abbrev pub IsLow : ℕ → Type 0
IsLow b = b < 128

abbrev pub AreLow : List ℕ → Type 0
AreLow t = Each IsLow t

low_ascii : (t : List ℕ) → AreLow t → IsAscii t
low_ascii [] h = IsAscii-nil
low_ascii (b ∷ t) h = IsAscii-cons b t h.0 (low_ascii t h.1)

pub low_utf8 : (t : List ℕ) → AreLow t → IsUtf8 t
low_utf8 t h = IsUtf8-from_ascii t (low_ascii t h)

pub low_readable : (t : List ℕ) → AreLow t → is_utf8 t ≡ true
low_readable t h = is_utf8-from_IsUtf8 t (low_utf8 t h)

all_low : (p : ℕ → Bool) → ((b : ℕ) → p b ≡ true → b < 128) → (t : List ℕ) → list_all p t ≡ true → AreLow t
all_low p k [] h = tt
all_low p k (b ∷ t) h = (k b (left (p b) (list_all p t) h), all_low p k t (right (p b) (list_all p t) h))

name_byte_low : (b : ℕ) → name_byte b ≡ true → b < 128
name_byte_low b h = grind (arith, nat_tests, h)

digit_low : (b : ℕ) → is_digit b ≡ true → b < 128
digit_low b h = grind (arith, nat_tests, h)

pub name_low : (n : List ℕ) → is_name n ≡ true → AreLow n
name_low n h = all_low name_byte name_byte_low n (right (nat_lt 0 (length n) && nat_le (length n) most_name_bytes) (list_all name_byte n) h)

pub decimal_low : (n : ℕ) → n < 2 ^ 64 → AreLow (decimal n)
decimal_low n lt = all_low is_digit digit_low (decimal n) (decimal_digits n lt)

pub marker_producer_low : AreLow marker_producer
marker_producer_low = all_low (λ b. nat_lt b 128) (λ b h. ltb-true b 128 h) marker_producer refl

pub id_low : (n : List ℕ) (p : Position) → AreLow n → IsSmall p → AreLow (snapshot_id n p)
id_low n p h small =
    each_both IsLow n _ h
    (omega arith, each_both IsLow (decimal p.ledger) _ (decimal_low p.ledger small.ledger) (omega arith, decimal_low p.entry small.entry))

pub second_low : (id : List ℕ) → AreLow id → AreLow (second_id id)
second_low id h = each_both IsLow id (47 ∷ 50 ∷ []) h (omega arith, (omega arith, tt))

-- a name of some that are all names; past the end there is the empty one
pub named_low : (ns : List (List ℕ)) (x : ℕ) → list_all is_name ns ≡ true → AreLow (slice_index_or ns x [])
named_low [] x h = tt
named_low (n ∷ ns) zero h = name_low n (left (is_name n) (list_all is_name ns) h)
named_low (n ∷ ns) (suc x) h = named_low ns x (right (is_name n) (list_all is_name ns) h)

-- a text of a name's length at most
pub record IsNameText (t : List ℕ) : Type 0 where
  pub low : AreLow t
  pub short : length t ≤ 16

pub name_text : (n : List ℕ) → is_name n ≡ true → IsNameText n
name_text n h = record {
  low = name_low n h;
  short = leb-true (length n) most_name_bytes (right (nat_lt 0 (length n)) (nat_le (length n) most_name_bytes) (left (nat_lt 0 (length n) && nat_le (length n) most_name_bytes) (list_all name_byte n) h));
}

pub marker_producer_text : IsNameText marker_producer
marker_producer_text = record { low = marker_producer_low; short = leb-true (length marker_producer) 16 refl }

pub named_text : (ns : List (List ℕ)) (x : ℕ) → list_all is_name ns ≡ true → IsNameText (slice_index_or ns x [])
named_text [] x h = record { low = tt; short = omega arith }
named_text (n ∷ ns) zero h = name_text n (left (is_name n) (list_all is_name ns) h)
named_text (n ∷ ns) (suc x) h = named_text ns x (right (is_name n) (list_all is_name ns) h)
