-- The numbers of a line that is read are those of the setup.
use Rattle.std.proofs.Common.{◌≡◌, ℕ, ◌<◌, Bool, true, false, List, [], ◌∷◌, length, subst}
use Rattle.std.specs.Prelude.{Option, Some, if◌then◌else◌, codes}
use Rattle.std.specs.Str.{bytes_eq}
use Rattle.std.proofs.lemmas.Option.{none-some, same_Some}
use Rattle.geo_base.specs.declared.entry.Ident.{Ident}
use Rattle.geo_base.specs.Setup.{Setup}
use Rattle.script_rows.specs.NameWords.{Word}
use Rattle.script_rows.specs.Words.{words_of}
use Rattle.trace_lines.specs.Lines.{entry_of}
use Rattle.trace_lines.specs.Ranges.{ranges_of}
use Rattle.trace_lines.specs.Words.{declared, number, position_of, sub_of, text_of}
use Rattle.audit.specs.AuditOf.{names_of}
use Rattle.observed_text.proofs.Pieces.{bound, declared_within}
use Rattle.observed_text.specs.declared.line.Line.{Line}
use Rattle.observed_text.specs.declared.line.Line.TheVariants as line
use Rattle.observed_text.specs.declared.line.Logged.{Logged}
use Rattle.observed_text.specs.declared.line.Logged.TheVariants as logged
use Rattle.observed_text.specs.declared.line.Read.{Read}
use Rattle.observed_text.specs.declared.line.Read.TheVariants as read
use Rattle.observed_text.specs.Lines.{alone, at_cluster, below_said, brought_said, cursor_said, done_said, entry_said, ident_of, in_logs, is_logged, line_of, line_said, logged_said, of_topic, read_said, receipt_said, unsure_said}
use Rattle.observed_text.specs.Sizes.{IsLineOf, IsLoggedOf, IsReadOf}

-- ---- what was read

entry_numbers : (s : Setup) (ws : List Word) (a : Read) → entry_said s.clusters ws ≡ Some a → IsReadOf s a
entry_numbers s ws a h =
    let r1 = bound (entry_of s.clusters ws) _ a h in subst (IsReadOf s) (same_Some (read.Entry r1.value.0 r1.value.1) a r1.then_is) tt

cursor_numbers : (s : Setup) (ws : List Word) (a : Read) → cursor_said ws ≡ Some a → IsReadOf s a
cursor_numbers s [] a h = absurd (none-some a h)
cursor_numbers s (n ∷ []) a h = absurd (none-some a h)
cursor_numbers s (n ∷ r ∷ []) a h =
    let r1 = bound (ranges_of r) _ a h in let r2 = bound (sub_of n) _ a r1.then_is in
    subst (IsReadOf s) (same_Some (read.Cursor r2.value r1.value) a r2.then_is) tt
cursor_numbers s (n ∷ r ∷ w ∷ ws) a h = absurd (none-some a h)

brought_numbers : (s : Setup) (ws : List Word) (a : Read) → brought_said s.clusters ws ≡ Some a → IsReadOf s a
brought_numbers s [] a h = absurd (none-some a h)
brought_numbers s (c ∷ []) a h = absurd (none-some a h)
brought_numbers s (c ∷ r ∷ []) a h =
    let r1 = bound (declared s.clusters c) _ a h in let r2 = bound (ranges_of r) _ a r1.then_is in
    subst (IsReadOf s) (same_Some (read.Brought r1.value r2.value) a r2.then_is) (declared_within s.clusters c r1.value r1.is)
brought_numbers s (c ∷ r ∷ w ∷ ws) a h = absurd (none-some a h)

below_numbers : (s : Setup) (ws : List Word) (a : Read) → below_said ws ≡ Some a → IsReadOf s a
below_numbers s [] a h = absurd (none-some a h)
below_numbers s (n ∷ []) a h = absurd (none-some a h)
below_numbers s (n ∷ i ∷ []) a h =
    let r1 = bound (number i) _ a h in let r2 = bound (sub_of n) _ a r1.then_is in
    subst (IsReadOf s) (same_Some (read.Below r2.value r1.value) a r2.then_is) tt
below_numbers s (n ∷ i ∷ w ∷ ws) a h = absurd (none-some a h)

unsure_numbers : (s : Setup) (ws : List Word) (a : Read) → unsure_said ws ≡ Some a → IsReadOf s a
unsure_numbers s [] a h = absurd (none-some a h)
unsure_numbers s (n ∷ []) a h = let r1 = bound (sub_of n) _ a h in subst (IsReadOf s) (same_Some (read.Unsure r1.value) a r1.then_is) tt
unsure_numbers s (n ∷ w ∷ ws) a h = absurd (none-some a h)

alone_numbers : (s : Setup) (r : Read) (ws : List Word) (a : Read) → IsReadOf s r → alone r ws ≡ Some a → IsReadOf s a
alone_numbers s r [] a of h = subst (IsReadOf s) (same_Some r a h) of
alone_numbers s r (w ∷ ws) a of h = absurd (none-some a h)

either : (b : Bool) (x y : Option Read) (a : Read) (P : Type 0) → (if b then x else y) ≡ Some a → (x ≡ Some a → P) → (y ≡ Some a → P) → P
either true x y a P h f g = f h
either false x y a P h f g = g h

read_numbers : (s : Setup) (k : Word) (ws : List Word) (a : Read) → read_said s.clusters k ws ≡ Some a → IsReadOf s a
read_numbers s k ws a h =
    either (bytes_eq k (codes "entry")) _ _ a (IsReadOf s a) h (entry_numbers s ws a) (λ h1.
    either (bytes_eq k (codes "cursor")) _ _ a (IsReadOf s a) h1 (cursor_numbers s ws a) (λ h2.
    either (bytes_eq k (codes "brought")) _ _ a (IsReadOf s a) h2 (brought_numbers s ws a) (λ h3.
    either (bytes_eq k (codes "below")) _ _ a (IsReadOf s a) h3 (below_numbers s ws a) (λ h4.
    either (bytes_eq k (codes "unsure")) _ _ a (IsReadOf s a) h4 (unsure_numbers s ws a) (λ h5.
    either (bytes_eq k (codes "unread")) _ _ a (IsReadOf s a) h5 (alone_numbers s read.Unread ws a tt) (λ h6.
    either (bytes_eq k (codes "trimmed")) _ _ a (IsReadOf s a) h6 (alone_numbers s read.Trimmed ws a tt) (λ h7. absurd (none-some a h7))))))))

at_cluster_numbers : (s : Setup) (k : Word) (t : ℕ) (ws : List Word) (l : Line) → t < length s.topics → at_cluster (names_of s) k t ws ≡ Some l → IsLineOf s l
at_cluster_numbers s k t [] l topic h = absurd (none-some l h)
at_cluster_numbers s k t (c ∷ ws) l topic h =
    let r1 = bound (declared s.clusters c) _ l h in let r2 = bound (read_said s.clusters k ws) _ l r1.then_is in
    subst (IsLineOf s) (same_Some (line.Reads t r1.value r2.value) l r2.then_is)
    (topic, declared_within s.clusters c r1.value r1.is, read_numbers s k ws r2.value r2.is)

-- ---- what is logged

ident_numbers : (s : Setup) (o n q : Word) (g : Ident) → ident_of s.clusters o n q ≡ Some g → g.origin < length s.clusters
ident_numbers s o n q g h =
    let r1 = bound (declared s.clusters o) _ g h in let r2 = bound (number q) _ g r1.then_is in let r3 = bound (text_of n) _ g r2.then_is in
    let made : Ident = record { origin = r1.value; seq = r2.value; producer = r3.value } in
    subst (λ (i : Ident). i.origin < length s.clusters) (same_Some made g r3.then_is) (declared_within s.clusters o r1.value r1.is)

done_numbers : (s : Setup) (ws : List Word) (a : Logged) → done_said s.clusters ws ≡ Some a → IsLoggedOf s a
done_numbers s [] a h = absurd (none-some a h)
done_numbers s (n ∷ []) a h = absurd (none-some a h)
done_numbers s (n ∷ o ∷ []) a h = absurd (none-some a h)
done_numbers s (n ∷ o ∷ p ∷ []) a h = absurd (none-some a h)
done_numbers s (n ∷ o ∷ p ∷ q ∷ []) a h =
    let r1 = bound (ident_of s.clusters o p q) _ a h in let r2 = bound (sub_of n) _ a r1.then_is in
    subst (IsLoggedOf s) (same_Some (logged.Done r2.value r1.value) a r2.then_is) tt
done_numbers s (n ∷ o ∷ p ∷ q ∷ w ∷ ws) a h = absurd (none-some a h)

receipt_numbers : (s : Setup) (ws : List Word) (a : Logged) → receipt_said s.clusters ws ≡ Some a → IsLoggedOf s a
receipt_numbers s [] a h = absurd (none-some a h)
receipt_numbers s (o ∷ []) a h = absurd (none-some a h)
receipt_numbers s (o ∷ p ∷ []) a h = absurd (none-some a h)
receipt_numbers s (o ∷ p ∷ q ∷ []) a h = absurd (none-some a h)
receipt_numbers s (o ∷ p ∷ q ∷ l ∷ []) a h =
    let r1 = bound (ident_of s.clusters o p q) _ a h in let r2 = bound (position_of l) _ a r1.then_is in
    subst (IsLoggedOf s) (same_Some (logged.Receipt r1.value r2.value) a r2.then_is) (ident_numbers s o p q r1.value r1.is)
receipt_numbers s (o ∷ p ∷ q ∷ l ∷ w ∷ ws) a h = absurd (none-some a h)

logged_numbers : (s : Setup) (k : Word) (ws : List Word) (a : Logged) → logged_said s.clusters k ws ≡ Some a → IsLoggedOf s a
logged_numbers s k ws a h = by (bytes_eq k (codes "done")) h
  where
    by : (b : Bool) → (if b then done_said s.clusters ws else receipt_said s.clusters ws) ≡ Some a → IsLoggedOf s a
    by true g = done_numbers s ws a g
    by false g = receipt_numbers s ws a g

in_logs_numbers : (s : Setup) (k : Word) (t : ℕ) (ws : List Word) (l : Line) → t < length s.topics → in_logs (names_of s) k t ws ≡ Some l → IsLineOf s l
in_logs_numbers s k t ws l topic h =
    let r1 = bound (logged_said s.clusters k ws) _ l h in
    subst (IsLineOf s) (same_Some (line.Logs t r1.value) l r1.then_is) (topic, logged_numbers s k ws r1.value r1.is)

-- ---- a line

of_topic_numbers : (s : Setup) (k : Word) (t : ℕ) (ws : List Word) (l : Line) → t < length s.topics → of_topic (names_of s) k t ws ≡ Some l → IsLineOf s l
of_topic_numbers s k t ws l topic h = by (is_logged k) h
  where
    by : (b : Bool) → (if b then in_logs (names_of s) k t ws else at_cluster (names_of s) k t ws) ≡ Some l → IsLineOf s l
    by true g = in_logs_numbers s k t ws l topic g
    by false g = at_cluster_numbers s k t ws l topic g

of_words : (s : Setup) (ws : List Word) (l : Line) → line_of (names_of s) ws ≡ Some l → IsLineOf s l
of_words s [] l h = absurd (none-some l h)
of_words s (k ∷ []) l h = absurd (none-some l h)
of_words s (k ∷ t ∷ ws) l h =
    let r1 = bound (declared s.topics t) _ l h in of_topic_numbers s k r1.value ws l (declared_within s.topics t r1.value r1.is) r1.then_is

pub line_numbers : (s : Setup) (bytes : List ℕ) (l : Line) → line_said (names_of s) bytes ≡ Some l → IsLineOf s l
unfolding line_said
line_numbers s bytes l h = of_words s (words_of bytes) l h
