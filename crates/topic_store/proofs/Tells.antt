-- A table tells its topic: after an entry that it called new, and after one that it has seen.
use Rattle.std.proofs.Common.{◌≡◌, ℕ, ◌+◌, ◌≤◌, ◌==◌, nat_lt, Bool, true, false, List, [], ◌∷◌, ◌++◌, refl, ap, sym, subst, ◌∙◌, arith}
use Rattle.std.specs.Prelude.{Option, Some, not, ◌&&◌, ◌||◌, ◌↔◌, if◌then◌else◌}
use Rattle.std.specs.Str.{bytes_eq}
use Rattle.std.proofs.lemmas.Bool.Decides.{nat_tests}
use Rattle.std.proofs.lemmas.Slice.Eq.{bytes_eq-Decides}
use Rattle.geo_base.specs.declared.entry.Entry.{Entry}
use Rattle.geo_base.specs.declared.entry.Ident.{Ident}
use Rattle.geo_base.specs.Entry.{same_stream}
use Rattle.geo_base.specs.Topic.{accepts}
use Rattle.topic_store.specs.declared.stream.Stream.{Stream}
use Rattle.topic_store.specs.declared.table.Verdict.TheVariants as judged
use Rattle.topic_store.specs.Table.{highest, is_stream, noted, stream_of, verdict, Row, Tells}
use Rattle.geo_base.proofs.Bools.{and_assoc, and_with_false, and_with_true, both_true, ifs_join, ifs_swap}

-- tests

-- streams

same_parts : (s t : Stream) → is_stream s t ≡ true → (s.origin ≡ t.origin) × (s.producer ≡ t.producer)
same_parts s t h =
    let both = both_true (s.origin == t.origin) (bytes_eq s.producer t.producer) h in
    let origin : s.origin ≡ t.origin = grind (arith, nat_tests, both.0) in
    (origin, (bytes_eq-Decides s.producer t.producer).0 both.1)

-- streams that are one are told from a third alike
is_stream-right : (s t q : Stream) → is_stream s t ≡ true → is_stream q s ≡ is_stream q t
is_stream-right s t q h = let p = same_parts s t h in rw (p.0, p.1) refl

is_stream-left : (s t q : Stream) → is_stream s t ≡ true → is_stream s q ≡ is_stream t q
is_stream-left s t q h = let p = same_parts s t h in rw (p.0, p.1) refl

is_stream-self : (s : Stream) → is_stream s s ≡ true
is_stream-self s =
    let origin : (s.origin == s.origin) ≡ true = grind (arith, nat_tests) in
    rw origin ((bytes_eq-Decides s.producer s.producer).1 refl)

-- a note changes the highest of its stream alone

highest_step : (rows : List Row) (s q : Stream) (n : ℕ) (r : Row) (b : Bool) → is_stream s r.0 ≡ b → highest (noted rows s n) q ≡ (if is_stream q s then Some n else highest rows q) → highest (if b then (r.0, n) ∷ rows else r ∷ noted rows s n) q ≡ (if is_stream q s then Some n else if is_stream q r.0 then Some r.1 else highest rows q)
highest_step rows s q n r true e h =
    rw (is_stream-right s r.0 q e) (ifs_join (is_stream q r.0) (Some n) (Some r.1) (highest rows q))
highest_step rows s q n r false e h =
    ap (λ (o : Option ℕ). if is_stream q r.0 then Some r.1 else o) h
    ∙ ifs_swap (is_stream q r.0) (is_stream q s) (Some r.1) (Some n) (highest rows q) (λ c d. let one = is_stream-left q s r.0 d in absurd (cc))

pub highest-noted : (rows : List Row) (s q : Stream) (n : ℕ) → highest (noted rows s n) q ≡ (if is_stream q s then Some n else highest rows q)
highest-noted [] s q n = refl
highest-noted (r ∷ rows) s q n = highest_step rows s q n r (is_stream s r.0) refl (highest-noted rows s q n)

-- what one entry says of a name
abbrev allows : Entry → Ident → Bool
allows e i = not (same_stream e.ident i) || nat_lt e.ident.seq i.seq

accepts-append : (es : List Entry) (e : Entry) (i : Ident) → accepts (es ++ e ∷ []) i ≡ (accepts es i && allows e i)
accepts-append [] e i = and_with_true (allows e i)
accepts-append (d ∷ es) e i = ap (λ b. allows d i && b) (accepts-append es e i) ∙ and_assoc (allows d i) (accepts es i) (allows e i)

-- names of one stream are told from others alike
same_for : (a b e : Ident) → same_stream a b ≡ true → same_stream e a ≡ same_stream e b
same_for a b e h = is_stream-right (stream_of a) (stream_of b) (stream_of e) h

later : (x : Bool) (m j k : ℕ) → (not x || nat_lt m j) ≡ true → j ≤ k → (not x || nat_lt m k) ≡ true
later true m j k h le = grind (arith, nat_tests)
later false m j k h le = refl

allows_later : (e : Entry) (a b : Ident) → allows e a ≡ true → same_stream a b ≡ true → a.seq ≤ b.seq → allows e b ≡ true
allows_later e a b h s le =
    let P : Bool → Type 0 = λ x. (not x || nat_lt e.ident.seq b.seq) ≡ true in
    subst P (same_for a b e.ident s) (later (same_stream e.ident a) e.ident.seq a.seq b.seq h le)

accepts_later : (es : List Entry) (a b : Ident) → accepts es a ≡ true → same_stream a b ≡ true → a.seq ≤ b.seq → accepts es b ≡ true
accepts_later [] a b h s le = refl
accepts_later (e ∷ es) a b h s le =
    let both = both_true (allows e a) (accepts es a) h in
    rw (allows_later e a b both.0 s le) (accepts_later es a b both.1 s le)

other_stream : (x a y : Bool) → x ≡ false → (a && (not x || y)) ≡ a
other_stream true a y h = absurd (cc)
other_stream false a y h = and_with_true a

last_of_stream : (x a y : Bool) → x ≡ true → (y ≡ true → a ≡ true) → (a && (not x || y)) ≡ y
last_of_stream true a true h k = rw (k refl) refl
last_of_stream true a false h k = and_with_false a
last_of_stream false a y h k = absurd (cc)

seen_of_stream : (x a y : Bool) → x ≡ true → (a ≡ true → y ≡ true) → (a && (not x || y)) ≡ a
seen_of_stream true true y h k = k refl
seen_of_stream true false y h k = refl
seen_of_stream false a y h k = absurd (cc)

greater : (m n : ℕ) → nat_lt m n ≡ true → m ≤ n
greater m n h = grind (arith, nat_tests)

above : (m n : ℕ) → (n ≤ m → ⊥) → nat_lt m n ≡ true
above m n h = grind (arith, nat_tests)

judged_new : (b : Bool) (h : ℕ) → ((if b then judged.New else judged.Seen h) ≡ judged.New) ↔ (b ≡ true)
judged_new true h = (λ _. refl, λ _. refl)
judged_new false h = (λ e. absurd (cc), λ e. absurd (cc))

-- the empty table tells the empty topic
pub tells_none : Tells [] []
tells_none = record { at = λ i. (λ _. refl, λ _. refl) }

-- an entry that the topic accepts

other_way : (s t : Stream) (b : Bool) → is_stream t s ≡ b → is_stream s t ≡ false → b ≡ false
other_way s t false e h = refl
other_way s t true e h = let back = sym (is_stream-left t s t e) ∙ is_stream-self t in absurd (cc)

new_at : (rows : List Row) (es : List Entry) (e : Entry) (i : Ident) (d : Bool) → same_stream e.ident i ≡ d → Tells rows es → accepts es e.ident ≡ true → (verdict (noted rows (stream_of e.ident) e.ident.seq) (stream_of i) i.seq ≡ judged.New) ↔ (accepts (es ++ e ∷ []) i ≡ true)
new_at rows es e i true s t a =
    let back : is_stream (stream_of i) (stream_of e.ident) ≡ true = sym (is_stream-left (stream_of e.ident) (stream_of i) (stream_of e.ident) s) ∙ is_stream-self (stream_of e.ident) in
    let one : highest (noted rows (stream_of e.ident) e.ident.seq) (stream_of i) ≡ Some e.ident.seq =
    highest-noted rows (stream_of e.ident) (stream_of i) e.ident.seq ∙ ap (λ (b : Bool). if b then Some e.ident.seq else highest rows (stream_of i)) back in
    let two : accepts (es ++ e ∷ []) i ≡ nat_lt e.ident.seq i.seq =
    accepts-append es e i ∙ last_of_stream (same_stream e.ident i) (accepts es i) (nat_lt e.ident.seq i.seq) s (λ h. accepts_later es e.ident i a s (greater e.ident.seq i.seq h)) in
    rw (one, two) (judged_new (nat_lt e.ident.seq i.seq) e.ident.seq)
new_at rows es e i false s t a =
    let back : is_stream (stream_of i) (stream_of e.ident) ≡ false = other_way (stream_of e.ident) (stream_of i) (is_stream (stream_of i) (stream_of e.ident)) refl s in
    let one : highest (noted rows (stream_of e.ident) e.ident.seq) (stream_of i) ≡ highest rows (stream_of i) =
    highest-noted rows (stream_of e.ident) (stream_of i) e.ident.seq ∙ ap (λ (b : Bool). if b then Some e.ident.seq else highest rows (stream_of i)) back in
    let two : accepts (es ++ e ∷ []) i ≡ accepts es i =
    accepts-append es e i ∙ other_stream (same_stream e.ident i) (accepts es i) (nat_lt e.ident.seq i.seq) s in
    rw (one, two) (t.at i)

pub tells_more : (rows : List Row) (es : List Entry) (e : Entry) → Tells rows es → accepts es e.ident ≡ true → Tells (noted rows (stream_of e.ident) e.ident.seq) (es ++ e ∷ [])
tells_more rows es e t a = record { at = λ i. new_at rows es e i (same_stream e.ident i) refl t a }

pub tells_new : (rows : List Row) (es : List Entry) (e : Entry) → Tells rows es → verdict rows (stream_of e.ident) e.ident.seq ≡ judged.New → Tells (noted rows (stream_of e.ident) e.ident.seq) (es ++ e ∷ [])
tells_new rows es e t h = tells_more rows es e t ((t.at e.ident).0 h)

-- a duplicate changes nothing that the topic accepts

seen_at : (es : List Entry) (e : Entry) (i : Ident) (d : Bool) → same_stream e.ident i ≡ d → (accepts es e.ident ≡ true → ⊥) → accepts (es ++ e ∷ []) i ≡ accepts es i
seen_at es e i true s n =
    let back : same_stream i e.ident ≡ true = sym (is_stream-left (stream_of e.ident) (stream_of i) (stream_of e.ident) s) ∙ is_stream-self (stream_of e.ident) in
    accepts-append es e i ∙ seen_of_stream (same_stream e.ident i) (accepts es i) (nat_lt e.ident.seq i.seq) s
    (λ a. above e.ident.seq i.seq (λ le. n (accepts_later es i e.ident a back le)))
seen_at es e i false s n = accepts-append es e i ∙ other_stream (same_stream e.ident i) (accepts es i) (nat_lt e.ident.seq i.seq) s

pub tells_seen : (rows : List Row) (es : List Entry) (e : Entry) (h : ℕ) → Tells rows es → verdict rows (stream_of e.ident) e.ident.seq ≡ judged.Seen h → Tells rows (es ++ e ∷ [])
tells_seen rows es e h t v = record {
  at = λ i. rw (seen_at es e i (same_stream e.ident i) refl (λ a. let new = (t.at e.ident).1 a in absurd (cc))) (t.at i);
}
