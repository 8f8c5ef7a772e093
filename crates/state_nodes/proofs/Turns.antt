-- What tells whether one more entry may stand after others.
use Rattle.std.proofs.Common.{◌≡◌, ℕ, ◌==◌, Bool, true, false, List, [], ◌∷◌, ◌++◌, refl, sym, ap, subst, ◌∙◌, arith}
use Rattle.std.specs.Prelude.{Option, Some, ◌&&◌, ◌↔◌}
use Rattle.std.specs.Str.{bytes_eq}
use Rattle.std.proofs.lemmas.Bool.Decides.{nat_tests}
use Rattle.geo_base.specs.declared.entry.Entry.{Entry}
use Rattle.geo_base.specs.declared.entry.Ident.{Ident}
use Rattle.geo_base.specs.Entry.{is_own_marker, marker_producer}
use Rattle.geo_base.specs.Topic.{accepts, next_marker}
use Rattle.topic_store.specs.declared.table.Verdict.{Verdict}
use Rattle.topic_store.specs.declared.table.Verdict.TheVariants as judged
use Rattle.topic_store.specs.declared.stream.Stream.{Stream}
use Rattle.topic_store.specs.Table.{Row, Table, Tells, noted, stream_of, verdict}
use Rattle.topic_store.proofs.Tells.{tells_new}
use Rattle.durable_parts.proofs.Markers.{next_marker-push}
use Rattle.state_nodes.specs.TopicSoFar.{TellsLast, is_new, is_turn, last_with}
use Rattle.state_nodes.specs.Entries.{is_in_turn, is_next}
use Rattle.geo_base.proofs.Bools.{both_true}

new_then : (v : Verdict) (b : Bool) → ((v ≡ judged.New) ↔ (b ≡ true)) → is_new v ≡ b
new_then judged.New b h = sym (h.0 refl)
new_then (judged.Seen n) true h = absurd (let e : judged.Seen n ≡ judged.New = h.1 refl in cc)
new_then (judged.Seen n) false h = refl

pub next_is : (own : ℕ) (es : List Entry) (i : Ident) (rows : List Row) (v : Verdict) (new turn : Bool) → Tells rows es → v ≡ verdict rows (stream_of i) i.seq → new ≡ is_new v → turn ≡ is_in_turn own es i → (new && turn) ≡ is_next own es i
next_is own es i rows v new turn h e f g =
    let told : new ≡ accepts es i = f ∙ ap (λ (w : Verdict). is_new w) e ∙ new_then (verdict rows (stream_of i) i.seq) (accepts es i) (h.at i) in
    rw (told, g) refl

pub turn_is : (own : ℕ) (es : List Entry) (i : Ident) (last : Option ℕ) (m b : Bool) → TellsLast own es last → m ≡ ((i.origin == own) && bytes_eq i.producer marker_producer) → m ≡ true → b ≡ is_turn last i.seq → b ≡ is_in_turn own es i
turn_is own es i last m b h is so turn =
    let marked : ((i.origin == own) && bytes_eq i.producer marker_producer) ≡ true = sym is ∙ so in
    turn ∙ rw (marked, h) refl

pub other_turn : (own : ℕ) (es : List Entry) (i : Ident) (m : Bool) → m ≡ ((i.origin == own) && bytes_eq i.producer marker_producer) → m ≡ false → true ≡ is_in_turn own es i
other_turn own es i m is not_so =
    let other : ((i.origin == own) && bytes_eq i.producer marker_producer) ≡ false = sym is ∙ not_so in
    rw other refl

pub new_is : (own : ℕ) (es : List Entry) (i : Ident) (rows : List Row) → Tells rows es → is_next own es i ≡ true → verdict rows (stream_of i) i.seq ≡ judged.New
new_is own es i rows h e = (h.at i).1 (both_true (accepts es i) (is_in_turn own es i) e).0

pub tells_push : (own : ℕ) (es : List Entry) (e : Entry) (rows : List Row) → Tells rows es → is_next own es e.ident ≡ true → Tells (noted rows (stream_of e.ident) e.ident.seq) (es ++ e ∷ [])
tells_push own es e rows h n = tells_new rows es e h (new_is own es e.ident rows h n)

in_turn : (own : ℕ) (es : List Entry) (e : Entry) → is_own_marker own e ≡ true → is_in_turn own es e.ident ≡ true → e.ident.seq ≡ next_marker own es
in_turn own es e m h =
    let test : (e.ident.seq == next_marker own es) ≡ true = rw m at h in
    grind (arith, nat_tests, test)

marked : (own : ℕ) (es : List Entry) (e : Entry) → is_next own es e.ident ≡ true → is_own_marker own e ≡ true → TellsLast own (es ++ e ∷ []) (Some e.ident.seq)
marked own es e n m =
    let seq : e.ident.seq ≡ next_marker own es = in_turn own es e m (both_true (accepts es e.ident) (is_in_turn own es e.ident) n).1 in
    next_marker-push own es e ∙ rw m (omega (arith, seq))

unmarked : (own : ℕ) (es : List Entry) (e : Entry) (last : Option ℕ) → TellsLast own es last → is_own_marker own e ≡ false → TellsLast own (es ++ e ∷ []) last
unmarked own es e last h m = next_marker-push own es e ∙ rw m h

pub last_push : (own : ℕ) (es : List Entry) (e : Entry) (last new : Option ℕ) (m : Bool) → TellsLast own es last → is_next own es e.ident ≡ true → m ≡ is_own_marker own e → new ≡ last_with m e.ident.seq last → TellsLast own (es ++ e ∷ []) new
last_push own es e last new true h n is e' = subst (λ (l : Option ℕ). TellsLast own (es ++ e ∷ []) l) (sym e') (marked own es e n (sym is))
last_push own es e last new false h n is e' = subst (λ (l : Option ℕ). TellsLast own (es ++ e ∷ []) l) (sym e') (unmarked own es e last h (sym is))

-- what a topic_so_far keeps, after one more entry
pub push_kept : (own : ℕ) (es room new : List Entry) (e : Entry) (rows before : List Row) (t : Table) (spare : ℕ) (stream : Stream) (last after : Option ℕ) (m : Bool) → Tells rows es → TellsLast own es last → is_next own es e.ident ≡ true
    → before ≡ rows → stream ≡ stream_of e.ident → t ≡ record { rows = noted before stream e.ident.seq; room = spare } → room ≡ es → new ≡ room ++ e ∷ [] → m ≡ is_own_marker own e → after ≡ last_with m e.ident.seq last
    → Tells t.rows new × TellsLast own new after
push_kept own es room new e rows before t spare stream last after m h l n b s is r p mark a =
    let entries : es ++ e ∷ [] ≡ new = sym (p ∙ ap (λ (xs : List Entry). xs ++ e ∷ []) r) in
    let table : noted rows (stream_of e.ident) e.ident.seq ≡ t.rows =
    sym (ap (λ (x : Table). x.rows) is ∙ ap (λ (x : List Row). noted x stream e.ident.seq) b ∙ ap (λ (x : Stream). noted rows x e.ident.seq) s) in
    let told : Tells t.rows (es ++ e ∷ []) = subst (λ (x : List Row). Tells x (es ++ e ∷ [])) table (tells_push own es e rows h n) in
    (subst (λ (xs : List Entry). Tells t.rows xs) entries told, subst (λ (xs : List Entry). TellsLast own xs after) entries (last_push own es e last after m l n mark a))
