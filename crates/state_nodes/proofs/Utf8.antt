-- The test of bytes that are a text.
use Rattle.std.proofs.Common.{◌≡◌, ℕ, Bool, true, false, List, refl}
use Rattle.std.specs.Str.{IsUtf8, is_utf8}
use Rattle.std.proofs.lemmas.Str.{IsUtf8-from_is_utf8, is_utf8-from_IsUtf8}

pub is_text : (bs : List ℕ) → IsUtf8 bs → is_utf8 bs ≡ true
is_text bs h = is_utf8-from_IsUtf8 bs h

decided : (bs : List ℕ) (b : Bool) → (IsUtf8 bs → ⊥) → is_utf8 bs ≡ b → is_utf8 bs ≡ false
decided bs true h e = absurd (h (IsUtf8-from_is_utf8 bs e))
decided bs false h e = e

pub no_text : (bs : List ℕ) → (IsUtf8 bs → ⊥) → is_utf8 bs ≡ false
no_text bs h = decided bs (is_utf8 bs) h refl
