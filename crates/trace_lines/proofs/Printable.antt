-- Printable bytes are ASCII, so they are a text.
use Rattle.std.proofs.Common.{◌≡◌, ℕ, ◌<◌, nat_lt, nat_le, true, List, [], ◌∷◌, length, arith}
use Rattle.std.specs.List.{list_all}
use Rattle.std.specs.Str.{IsAscii, IsUtf8}
use Rattle.std.proofs.lemmas.Bool.{and_parts, leb-true}
use Rattle.std.proofs.lemmas.Str.{IsUtf8-from_ascii}
use Rattle.std.proofs.lemmas.Str.Ascii.{IsAscii-cons, IsAscii-nil}
use Rattle.trace_lines.specs.Words.{is_printable}
use Rattle.trace_lines.specs.Words.{is_text}

printable_below : (b : ℕ) → is_printable b ≡ true → b < 128
printable_below b is = omega (arith, leb-true _ _ (and_parts (nat_le 32 b) (nat_le b 126) is).1)

printable_ascii : (w : List ℕ) → list_all is_printable w ≡ true → IsAscii w
printable_ascii [] all = IsAscii-nil
printable_ascii (b ∷ bs) all =
    let parts = and_parts (is_printable b) (list_all is_printable bs) all in IsAscii-cons b bs (printable_below b parts.0) (printable_ascii bs parts.1)

pub text_utf8 : (w : List ℕ) → is_text w ≡ true → IsUtf8 w
text_utf8 w is = IsUtf8-from_ascii w (printable_ascii w (and_parts (nat_lt 0 (length w)) (list_all is_printable w) is).1)
