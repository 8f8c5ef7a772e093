-- What an accepted trace says.
use Rattle.std.proofs.Common.{◌≡◌, ℕ, ◌==◌, Bool, true, false, List, [], ◌∷◌, ◌++◌, length, map, refl, sym, ap, ◌∙◌, arith}
use Rattle.std.specs.Prelude.{◌<◌, Option, Some, None, if◌then◌else◌, codes, Result, Ok, Err}
use Rattle.std.specs.List.{AllByRecursion}
use Rattle.std.specs.Str.{bytes_eq}
use Rattle.std.proofs.lemmas.Option.{none-some}
use Rattle.std.proofs.lemmas.Slice.Eq.{bytes_eq-Decides}
use Rattle.geo_base.specs.Audit.{Refusal, audited_from, judged, refused}
use Rattle.geo_base.specs.Mirror.{Mirrors, opening_mirrors, told}
use Rattle.geo_base.specs.Run.{or_else}
use Rattle.geo_base.specs.Setup.{Setup}
use Rattle.geo_base.specs.TraceItems.{Item}
use Rattle.script_rows.specs.NameWords.{cut_by}
use Rattle.trace_lines.specs.Lines.{item_read}
use Rattle.audit.specs.Strict.{audited_from_by, gaps, refused_by}
use Rattle.audit.specs.declared.strictness.Strictness.{Strictness}
use Rattle.audit.specs.declared.strictness.Strictness.TheVariants as strictness
use Rattle.audit.specs.AuditOf.{IsAccepted, audit_by, headed, item_refused, lines_audited, may_come, names_of, told_if}
use Rattle.audit.specs.Numbers.{IsItemOf}
use Rattle.audit.proofs.LineNumbers.{item_numbers, some_piece}
use Rattle.geo_base.proofs.Lists.{empty_by_length}

-- what the pieces after `trace` say
record Said (k : Strictness) (s : Setup) (a : Mirrors) (ls : List (List ℕ)) (events : ℕ) : Type 0 where
  lines : List (List ℕ)
  items : List Item
  mirrors : Mirrors
  cut : ls ≡ lines ++ [] ∷ []
  read : map (item_read (names_of s)) lines ≡ map Some items
  known : AllByRecursion (IsItemOf s) items
  accepted : audited_from s a items ≡ Ok mirrors
  strictly : audited_from_by k s a items ≡ Ok mirrors
  told_is : mirrors.events ≡ events

last_piece : (k : Strictness) (s : Setup) (a : Mirrors) (l : List ℕ) (n : ℕ) (b : Bool) → (length l == 0) ≡ b → if◌then◌else◌ {A = Result ℕ Refusal} b (Ok a.events) (Err (record { event = a.events; rule = 1 })) ≡ Ok n → Said k s a (l ∷ []) n
last_piece k s a l n true e h = record {
  lines = [];
  items = [];
  mirrors = a;
  cut = ap (λ (w : List ℕ). w ∷ []) (empty_by_length l e);
  read = refl;
  known = tt;
  accepted = refl;
  strictly = refl;
  told_is = cc;
}
last_piece k s a l n false e h = absurd (cc)

not_refused : (k : Strictness) (s : Setup) (a : Mirrors) (i : Item) → refused_by k s a i ≡ None → refused s a i ≡ None
not_refused strictness.Plain s a i h = h
not_refused strictness.Whole s a i h = by (refused s a i) h
  where
    by : (o : Option ℕ) → or_else o (gaps s a i) ≡ None → o ≡ None
    by None g = refl
    by (Some rule) g = absurd (none-some rule (sym g))

may_be : (b : Bool) (r : Option ℕ) → (if b then r else Some 1) ≡ None → r ≡ None
may_be true r h = h
may_be false r h = absurd (none-some 1 (sym h))

one_more : (k : Strictness) (s : Setup) (a : Mirrors) (l : List ℕ) (ls : List (List ℕ)) (n : ℕ) (o : Option Item) → item_read (names_of s) l ≡ o → (r : Option ℕ) → item_refused k s a o ≡ r
    → judged a.events r (lines_audited k s (told_if s a o) ls) ≡ Ok n → (lines_audited k s (told_if s a o) ls ≡ Ok n → Said k s (told_if s a o) ls n) → Said k s a (l ∷ ls) n
one_more k s a l ls n o is (Some rule) broken h rest = absurd (cc)
one_more k s a l ls n None is None broken h rest = absurd (none-some 1 (sym broken))
one_more k s a l ls n (Some i) is None broken h rest =
    let r : Said k s (told s a i) ls n = rest h in
    let strict : refused_by k s a i ≡ None = may_be (may_come a.events i) (refused_by k s a i) broken in
    let free : refused s a i ≡ None = not_refused k s a i strict in
    let read : map (item_read (names_of s)) r.lines ≡ map Some r.items = r.read in
    record {
      lines = l ∷ r.lines;
      items = i ∷ r.items;
      mirrors = r.mirrors;
      cut = ap (λ (ks : List (List ℕ)). l ∷ ks) r.cut;
      read = ap (λ (p : Option Item). p ∷ map (item_read (names_of s)) r.lines) is ∙ ap (λ (ps : List (Option Item)). Some i ∷ ps) read;
      known = (item_numbers s l i is, r.known);
      accepted = ap (λ (p : Option ℕ). judged a.events p (audited_from s (told s a i) r.items)) free ∙ r.accepted;
      strictly = ap (λ (p : Option ℕ). judged a.events p (audited_from_by k s (told s a i) r.items)) strict ∙ r.strictly;
      told_is = r.told_is;
    }

said : (k : Strictness) (s : Setup) (a : Mirrors) (l : List ℕ) (ls : List (List ℕ)) (n : ℕ) → lines_audited k s a (l ∷ ls) ≡ Ok n → Said k s a (l ∷ ls) n
said k s a l [] n h = last_piece k s a l n (length l == 0) refl h
said k s a l (m ∷ ls) n h =
    one_more k s a l (m ∷ ls) n (item_read (names_of s) l) refl (item_refused k s a (item_read (names_of s) l)) refl h
    (λ g. said k s (told_if s a (item_read (names_of s) l)) m ls n g)

head_said : (k : Strictness) (s : Setup) (ls : List (List ℕ)) (bytes : List ℕ) (n : ℕ) → cut_by 10 bytes ≡ ls → headed k s ls ≡ Ok n → IsAccepted k s bytes n
head_said k s [] bytes n cut h = absurd (cc)
head_said k s (w ∷ []) bytes n cut h = absurd (cc)
head_said k s (w ∷ l ∷ ls) bytes n cut h = by (bytes_eq w (codes "trace")) refl h
  where
    by : (b : Bool) → bytes_eq w (codes "trace") ≡ b → (if b then lines_audited k s (opening_mirrors s) (l ∷ ls) else Err (record { event = 0; rule = 1 })) ≡ Ok n → IsAccepted k s bytes n
    by false e g = absurd (cc)
    by true e g =
        let r = said k s (opening_mirrors s) l ls n g in
        let word : w ≡ codes "trace" = (bytes_eq-Decides w (codes "trace")).0 e in
        record {
          lines = r.lines;
          items = r.items;
          mirrors = r.mirrors;
          cut = cut ∙ (ap (λ (v : List ℕ). v ∷ l ∷ ls) word ∙ ap (λ (ks : List (List ℕ)). codes "trace" ∷ ks) r.cut);
          read = r.read;
          known = r.known;
          accepted = r.accepted;
          strictly = r.strictly;
          told = r.told_is;
        }

-- where the first line is `trace`, the audit is that of the lines after it
pub audit_reads : (k : Strictness) (s : Setup) (bytes head lines : List ℕ) → cut_by 10 bytes ≡ head ∷ cut_by 10 lines → bytes_eq head (codes "trace") ≡ true
    → audit_by k s bytes ≡ lines_audited k s (opening_mirrors s) (cut_by 10 lines)
unfolding audit_by
audit_reads k s bytes head lines cut word = ap (headed k s) cut ∙ behind (cut_by 10 lines) (some_piece 10 lines)
  where
    behind : (ls : List (List ℕ)) → 0 < length ls → headed k s (head ∷ ls) ≡ lines_audited k s (opening_mirrors s) ls
    behind [] some = absurd (omega (arith, some))
    behind (l ∷ ls) some = ap (λ (b : Bool). if b then lines_audited k s (opening_mirrors s) (l ∷ ls) else Err (record { event = 0; rule = 1 })) word

pub accepted_says : (k : Strictness) (s : Setup) (bytes : List ℕ) (n : ℕ) → audit_by k s bytes ≡ Ok n → IsAccepted k s bytes n
unfolding audit_by
accepted_says k s bytes n h = head_said k s (cut_by 10 bytes) bytes n refl h
