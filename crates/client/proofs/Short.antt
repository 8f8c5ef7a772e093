-- Lines that are short, and how they are found.
use Rattle.std.proofs.Common.{◌≡◌, ℕ, zero, suc, Bool, true, false, ◌&&◌, nat_le, List, [], ◌∷◌, length, refl}
use Rattle.std.specs.Prelude.{Some, slice_get}
use Rattle.std.specs.List.{list_all}
use Rattle.geo_base.specs.declared.client.Line.{Line}
use Rattle.geo_base.specs.declared.client.Line.TheVariants as line
use Rattle.geo_base.specs.Name.{is_name}
use Rattle.geo_base.specs.Scripted.{is_declared, is_line, is_optional_name, names_some}
use Rattle.geo_base.specs.Setup.{Declared, Setup}
use Rattle.client.specs.Site.{is_short_line}
use Rattle.std.specs.Prelude.{nat_lt, ◌^◌}
use Rattle.geo_base.specs.Scripted.{stays_or_is_silent}
use Rattle.geo_base.proofs.Bools.{and_fourth_of_five, both_true}

pub short_at : (ls : List Line) (i : ℕ) (l : Line) → list_all is_short_line ls ≡ true → slice_get ls i ≡ Some l → is_short_line l ≡ true
short_at [] i l h at = absurd cc
short_at (m ∷ ms) zero l h at = let first = (both_true (is_short_line m) (list_all is_short_line ms) h).0 in cc
short_at (m ∷ ms) (suc i) l h at = short_at ms i l (both_true (is_short_line m) (list_all is_short_line ms) h).1 at

last_two : (a b c d : Bool) → (a && b && c && d) ≡ true → (c && d) ≡ true
last_two true true c d h = h
last_two true false c d h = absurd cc
last_two false b c d h = absurd cc

-- each line that a script can declare is short
short_line : (s : Setup) (l : Line) → is_line s l ≡ true → is_short_line l ≡ true
short_line s line.Produce h = refl
short_line s (line.Pub seq to key text) h = last_two (nat_lt seq (2 ^ 63)) (names_some (length s.clusters) to) (is_optional_name key) (nat_le (length text) 1024) h
short_line s (line.Sub n kind earliest replicated) h = h
short_line s (line.Flow permits) h = refl
short_line s (line.Ack ident) h = refl
short_line s (line.AckTo ident) h = refl
short_line s line.AckAll h = refl
short_line s line.Unsub h = refl
short_line s line.Close h = refl
short_line s line.CloseProducer h = refl
short_line s line.Ping h = refl
short_line s (line.Move x) h = refl

short_all : (s : Setup) (ls : List Line) → list_all (is_line s) ls ≡ true → list_all is_short_line ls ≡ true
short_all s [] h = refl
short_all s (l ∷ ls) h =
    let parts = both_true (is_line s l) (list_all (is_line s) ls) h in
    rw (short_line s l parts.0) (short_all s ls parts.1)

pub declared_short : (s : Setup) (d : Declared) → is_declared s d ≡ true → list_all is_short_line d.lines ≡ true
declared_short s d h =
    short_all s d.lines (and_fourth_of_five (is_name d.name) (nat_lt d.topic (length s.topics)) (nat_lt d.cluster (length s.clusters)) (list_all (is_line s) d.lines) (stays_or_is_silent d.lines) h)
