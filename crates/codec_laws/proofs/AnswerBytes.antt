-- Parts of bytes are bytes.
use Rattle.std.proofs.Common.{◌≡◌, ℕ, zero, suc, ◌<◌, ◌^◌, List, [], ◌∷◌, ◌++◌, get_or, take, drop, subst, sym, arith}
use Rattle.std.specs.Int.{w32, w64, from_le_bytes, from_be_bytes}
use Rattle.std.proofs.lemmas.List.{take-append-drop}
use Rattle.codec_laws.specs.Answers.{AreBytes}

pub byte_at : (bytes : List ℕ) → AreBytes bytes → (i : ℕ) → get_or bytes i 0 < 256
byte_at [] are i = omega arith
byte_at (b ∷ bytes) are zero = are.0
byte_at (b ∷ bytes) are (suc i) = byte_at bytes are.1 i

pub both : (a b : List ℕ) → AreBytes (a ++ b) → AreBytes a × AreBytes b
both [] b are = (tt, are)
both (x ∷ a) b are = let rest = both a b are.1 in ((are.0, rest.0), rest.1)

pub joined_are : (a b : List ℕ) → AreBytes a → AreBytes b → AreBytes (a ++ b)
joined_are [] b own more = more
joined_are (x ∷ a) b own more = (own.0, joined_are a b own.1 more)

pub parts_are : (bytes a b : List ℕ) → bytes ≡ a ++ b → AreBytes bytes → AreBytes a × AreBytes b
parts_are bytes a b e are = both a b (subst (λ (z : List ℕ). AreBytes z) e are)

pub cut_are : (n : ℕ) (bytes : List ℕ) → AreBytes bytes → AreBytes (take n bytes) × AreBytes (drop n bytes)
cut_are n bytes are = parts_are bytes (take n bytes) (drop n bytes) (sym (take-append-drop n bytes)) are

-- ---- numbers of bytes

pub le_below_4 : (bs : List ℕ) → ((i : ℕ) → get_or bs i 0 < 256) → from_le_bytes w32 bs < 2 ^ 32
le_below_4 bs small = omega (arith, small 0, small 1, small 2, small 3)

pub le_below_8 : (bs : List ℕ) → ((i : ℕ) → get_or bs i 0 < 256) → from_le_bytes w64 bs < 2 ^ 64
le_below_8 bs small = omega (arith, small 0, small 1, small 2, small 3, small 4, small 5, small 6, small 7)

pub be_below_4 : (bs : List ℕ) → ((i : ℕ) → get_or bs i 0 < 256) → from_be_bytes w32 bs < 2 ^ 32
be_below_4 bs small = omega (arith, small 0, small 1, small 2, small 3)
