-- The lines of a text, and the numbers of a line that is read: they are those of the setup.
use Rattle.std.proofs.Common.{◌≡◌, ℕ, ◌<◌, ◌==◌, Bool, true, false, List, [], ◌∷◌, length, refl, subst, arith}
use Rattle.std.specs.Prelude.{Option, Some, None, if◌then◌else◌, codes}
use Rattle.std.specs.Str.{bytes_eq}
use Rattle.script_rows.proofs.Places.{place-in}
use Rattle.std.proofs.lemmas.List.Splits.{length-slice_split}
use Rattle.std.proofs.lemmas.Option.{none-some, same_Some}
use Rattle.cursor_acks.specs.Ranges.{indexes_of}
use Rattle.geo_base.specs.Setup.{Setup}
use Rattle.geo_base.specs.TraceItems.{Act, Acks, Appends, Begins, Creates, Deletes, Item, Seeks, Writes}
use Rattle.script_rows.specs.NameBytes.{is_among, number_in}
use Rattle.script_rows.specs.NameWords.{Word, cut_by}
use Rattle.script_rows.specs.Words.{◌>>=◌, words_of}
use Rattle.trace_lines.specs.Entries.{entry_with, what_of}
use Rattle.trace_lines.specs.Lines.{ack_of, act_of, append_of, cause_of, create_of, delete_of, event_of, item_of, item_read, seek_of, write_of}
use Rattle.trace_lines.specs.Ranges.{ranges_of}
use Rattle.trace_lines.specs.Words.{declared, number, position_of, start_of, sub_of, targets_of, text_of}
use Rattle.audit.specs.AuditOf.{names_of}
use Rattle.audit.specs.Numbers.{IsActOf, IsItemOf}

-- a text is cut into one piece at least
pub some_piece : (at : ℕ) (bytes : List ℕ) → 0 < length (cut_by at bytes)
some_piece at bytes = let size = length-slice_split (λ b. b == at) bytes in omega (arith, size)

-- a part that there is, and what comes of it
pub record Bound {A B : Type 0} (o : Option A) (f : A → Option B) (b : B) : Type 0 where
  pub value : A
  pub is : o ≡ Some value
  pub then_is : f value ≡ Some b

pub bound : {A B : Type 0} (o : Option A) (f : A → Option B) (b : B) → (o >>= f) ≡ Some b → Bound o f b
bound None f b h = absurd (none-some b h)
bound (Some a) f b h = record { value = a; is = refl; then_is = h }

pub declared_within : (names : List Word) (w : Word) (n : ℕ) → declared names w ≡ Some n → n < length names
declared_within names w n h = by (is_among names w) refl h
  where
    by : (b : Bool) → is_among names w ≡ b → (if b then Some (number_in names w) else None) ≡ Some n → n < length names
    by true known g =
        subst (λ (k : ℕ). k < length names) (same_Some (number_in names w) n g)
        (place-in (λ m. bytes_eq m w) names [] known)
    by false known g = absurd (none-some n g)

-- ---- what is written

append_numbers : (s : Setup) (x : ℕ) (ws : List Word) (a : Act) → append_of s.clusters x ws ≡ Some a → IsActOf s a
append_numbers s x [] a h = absurd (none-some a h)
append_numbers s x (p ∷ []) a h = absurd (none-some a h)
append_numbers s x (p ∷ o ∷ []) a h = absurd (none-some a h)
append_numbers s x (p ∷ o ∷ n ∷ []) a h = absurd (none-some a h)
append_numbers s x (p ∷ o ∷ n ∷ q ∷ []) a h = absurd (none-some a h)
append_numbers s x (p ∷ o ∷ n ∷ q ∷ l ∷ ws) a h =
    let r1 = bound (position_of p) _ a h in
    let r2 = bound (declared s.clusters o) _ a r1.then_is in
    let r3 = bound (text_of n) _ a r2.then_is in
    let r4 = bound (number q) _ a r3.then_is in
    let r5 = bound (targets_of s.clusters l) _ a r4.then_is in
    let r6 = bound (what_of s.clusters (r2.value == x) ws) _ a r5.then_is in
    let act : Act = Appends r1.value (entry_with s.clusters (record { origin = r2.value; producer = r3.value; seq = r4.value }) r5.value r6.value) r6.value.by in
    subst (IsActOf s) (same_Some act a r6.then_is) (declared_within s.clusters o r2.value r2.is)

create_numbers : (s : Setup) (ws : List Word) (a : Act) → create_of ws ≡ Some a → IsActOf s a
create_numbers s [] a h = absurd (none-some a h)
create_numbers s (n ∷ []) a h = absurd (none-some a h)
create_numbers s (n ∷ w ∷ []) a h =
    let r1 = bound (sub_of n) _ a h in let r2 = bound (start_of w) _ a r1.then_is in
    let act : Act = Creates r1.value r2.value in subst (IsActOf s) (same_Some act a r2.then_is) tt
create_numbers s (n ∷ w ∷ v ∷ ws) a h = absurd (none-some a h)

delete_numbers : (s : Setup) (ws : List Word) (a : Act) → delete_of ws ≡ Some a → IsActOf s a
delete_numbers s [] a h = absurd (none-some a h)
delete_numbers s (n ∷ []) a h =
    let r1 = bound (sub_of n) _ a h in let act : Act = Deletes r1.value in subst (IsActOf s) (same_Some act a r1.then_is) tt
delete_numbers s (n ∷ w ∷ ws) a h = absurd (none-some a h)

ack_numbers : (s : Setup) (ws : List Word) (a : Act) → ack_of ws ≡ Some a → IsActOf s a
ack_numbers s [] a h = absurd (none-some a h)
ack_numbers s (n ∷ []) a h = absurd (none-some a h)
ack_numbers s (n ∷ r ∷ ws) a h =
    let r1 = bound (sub_of n) _ a h in let r2 = bound (ranges_of r) _ a r1.then_is in let r3 = bound (cause_of ws) _ a r2.then_is in
    let act : Act = Acks r1.value (indexes_of r2.value) r3.value in subst (IsActOf s) (same_Some act a r3.then_is) tt

seek_numbers : (s : Setup) (ws : List Word) (a : Act) → seek_of ws ≡ Some a → IsActOf s a
seek_numbers s [] a h = absurd (none-some a h)
seek_numbers s (n ∷ []) a h = absurd (none-some a h)
seek_numbers s (n ∷ i ∷ []) a h =
    let r1 = bound (sub_of n) _ a h in let r2 = bound (number i) _ a r1.then_is in
    let act : Act = Seeks r1.value r2.value in subst (IsActOf s) (same_Some act a r2.then_is) tt
seek_numbers s (n ∷ i ∷ j ∷ ws) a h = absurd (none-some a h)

-- a chain of words, of which one is the first of the line
if_either : (b : Bool) (x y : Option Act) (a : Act) (P : Type 0) → (if b then x else y) ≡ Some a → (x ≡ Some a → P) → (y ≡ Some a → P) → P
if_either true x y a P h f g = f h
if_either false x y a P h f g = g h

act_numbers : (s : Setup) (x : ℕ) (k : Word) (ws : List Word) (a : Act) → act_of s.clusters x k ws ≡ Some a → IsActOf s a
act_numbers s x k ws a h =
    if_either (bytes_eq k (codes "append")) _ _ a (IsActOf s a) h (append_numbers s x ws a) (λ h1.
    if_either (bytes_eq k (codes "ack")) _ _ a (IsActOf s a) h1 (ack_numbers s ws a) (λ h2.
    if_either (bytes_eq k (codes "create")) _ _ a (IsActOf s a) h2 (create_numbers s ws a) (λ h3.
    if_either (bytes_eq k (codes "delete")) _ _ a (IsActOf s a) h3 (delete_numbers s ws a) (λ h4.
    if_either (bytes_eq k (codes "seek")) _ _ a (IsActOf s a) h4 (seek_numbers s ws a) (λ h5. absurd (none-some a h5))))))

-- ---- lines

write_numbers : (s : Setup) (k : Word) (ws : List Word) (i : Item) → write_of (names_of s) k ws ≡ Some i → IsItemOf s i
write_numbers s k [] i h = absurd (none-some i h)
write_numbers s k (t ∷ []) i h = absurd (none-some i h)
write_numbers s k (t ∷ c ∷ ws) i h =
    let r1 = bound (declared s.topics t) _ i h in let r2 = bound (declared s.clusters c) _ i r1.then_is in
    let r3 = bound (act_of s.clusters r2.value k ws) _ i r2.then_is in
    let item : Item = Writes r1.value r2.value r3.value in
    subst (IsItemOf s) (same_Some item i r3.then_is)
    (declared_within s.topics t r1.value r1.is, declared_within s.clusters c r2.value r2.is, act_numbers s r2.value k ws r3.value r3.is)

event_numbers : (s : Setup) (ws : List Word) (i : Item) → event_of ws ≡ Some i → IsItemOf s i
event_numbers s [] i h = absurd (none-some i h)
event_numbers s (n ∷ []) i h = let r1 = bound (number n) _ i h in let item : Item = Begins r1.value in subst (IsItemOf s) (same_Some item i r1.then_is) tt
event_numbers s (n ∷ m ∷ ws) i h = absurd (none-some i h)

of_words : (s : Setup) (ws : List Word) (i : Item) → item_of (names_of s) ws ≡ Some i → IsItemOf s i
of_words s [] i h = absurd (none-some i h)
of_words s (k ∷ ws) i h = by (bytes_eq k (codes "event")) h
  where
    by : (b : Bool) → (if b then event_of ws else write_of (names_of s) k ws) ≡ Some i → IsItemOf s i
    by true g = event_numbers s ws i g
    by false g = write_numbers s k ws i g

pub item_numbers : (s : Setup) (l : List ℕ) (i : Item) → item_read (names_of s) l ≡ Some i → IsItemOf s i
unfolding item_read
item_numbers s l i h = of_words s (words_of l) i h
