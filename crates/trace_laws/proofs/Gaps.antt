-- After each line of a trace that is accepted wholly, what a cluster has of another one is a beginning of what that has for it.
use Rattle.std.proofs.Common.{◌≡◌, ℕ, ◌*◌, ◌<◌, Bool, true, false, cond, List, [], ◌∷◌, ◌++◌, length, refl, sym, ap, subst, ◌∙◌, ◌==◌, inl, inr}
use Rattle.std.specs.Prelude.{Option, Some, None, slice_get, Ok}
use Rattle.std.specs.List.{AllByRecursion}
use Rattle.std.proofs.lemmas.Bool.{eqb-true, false≢true}
use Rattle.std.proofs.lemmas.List.{append-nil}
use Rattle.std.proofs.lemmas.List.Elements.{filter-append}
use Rattle.std.proofs.lemmas.Option.{none-some}
use Rattle.world_laws.proofs.Types.{Entry}
use Rattle.geo_base.specs.Audit.{same_entry, refused}
use Rattle.geo_base.specs.Entry.{is_outbound}
use Rattle.geo_base.specs.Laws.{of_origin, outbound}
use Rattle.geo_base.specs.Mirror.{Mirror, Mirrors, acted, mirror_at, mirror_number, no_mirror, opening_mirrors, told}
use Rattle.geo_base.specs.Setup.{Setup}
use Rattle.geo_base.specs.TraceItems.{Act, Acks, Appends, Begins, Creates, Deletes, Item, Seeks, Writes}
use Rattle.world_laws.proofs.OnceInOrder.Members.{get_last, get_left, get_push}
use Rattle.world_laws.proofs.Induction.Frames.{at_copies, at_set}
use Rattle.world_laws.proofs.Replicating.LinkFrames.{same_node}
use Rattle.world_laws.proofs.Replicating.Prefixes.{Begins as StartsAs, is_of}
use Rattle.audit.specs.Stored.{is_same_at}
use Rattle.audit.specs.Strict.{act_gaps, audited_from_by, gaps, is_next, may_follow, next_of, refused_by}
use Rattle.audit.specs.declared.strictness.Strictness.TheVariants as strictness
use Rattle.trace_laws.specs.Audited.{IsItemOf, all_told}
use Rattle.trace_laws.specs.Gapless.{AreFirstOf, IsGapless, LawGapless}
use Rattle.trace_laws.proofs.Refusals.{accepted, not_broken, or_true}
use Rattle.trace_laws.proofs.Strictly.{both_none}

none_first : (fs : List Entry) → AreFirstOf [] fs
none_first fs k e at = absurd (none-some e at)

-- more at the one that it is a beginning of
more_there : (es fs gs : List Entry) → AreFirstOf es fs → AreFirstOf es (fs ++ gs)
more_there es fs gs h k e at = let r = h k e at in (r.0, get_left fs gs k r.0 r.1, r.2)

-- and the next one at the beginning
one_more_here : (es fs : List Entry) (e : Entry) → AreFirstOf es fs → is_same_at e (slice_get fs (length es)) ≡ true → AreFirstOf (es ++ e ∷ []) fs
one_more_here es fs e h next k g at =
    elim (get_push es e k g at) [
      | inl old ↦ h k g old.1
      | inr new ↦
          let there : (f : Entry) × (slice_get fs (length es) ≡ Some f) × (same_entry e f ≡ true) = found (slice_get fs (length es)) refl next in
          (there.0, ap (slice_get fs) new.0 ∙ there.1, subst (λ (d : Entry). same_entry d there.0 ≡ true) new.1 there.2)
    ]
  where
    found : (o : Option Entry) → slice_get fs (length es) ≡ o → is_same_at e o ≡ true → (f : Entry) × (slice_get fs (length es) ≡ Some f) × (same_entry e f ≡ true)
    found None is same = absurd (false≢true same)
    found (Some f) is same = (f, is, same)

-- one more entry of a topic
there_grows : (z x : ℕ) (es fs : List Entry) (e : Entry) → AreFirstOf es (outbound z x fs) → AreFirstOf es (outbound z x (fs ++ e ∷ []))
there_grows z x es fs e h =
    subst (AreFirstOf es) (sym (filter-append (is_outbound z x) fs (e ∷ []))) (more_there es (outbound z x fs) (outbound z x (e ∷ [])) h)

here_grows : (z : ℕ) (here fs : List Entry) (e : Entry) → AreFirstOf (of_origin z here) fs → ((e.ident.origin == z) ≡ true → is_same_at e (slice_get fs (length (of_origin z here))) ≡ true)
    → AreFirstOf (of_origin z (here ++ e ∷ [])) fs
here_grows z here fs e h next = by (is_of z e) refl
  where
    whole : (b : Bool) → is_of z e ≡ b → of_origin z (here ++ e ∷ []) ≡ of_origin z here ++ cond b (e ∷ []) []
    whole b is = filter-append (is_of z) here (e ∷ []) ∙ ap (λ (c : Bool). of_origin z here ++ cond c (e ∷ []) []) is

    by : (b : Bool) → is_of z e ≡ b → AreFirstOf (of_origin z (here ++ e ∷ [])) fs
    by true is = subst (λ (l : List Entry). AreFirstOf l fs) (sym (whole true is)) (one_more_here (of_origin z here) fs e h (next is))
    by false is = subst (λ (l : List Entry). AreFirstOf l fs) (sym (whole false is ∙ append-nil (of_origin z here))) h

-- ---- a line

abbrev Gapless : ℕ → ℕ → Mirror → Mirror → Type 0
Gapless z x here there = AreFirstOf (of_origin z here.entries) (outbound z x there.entries)

there_acted : (z x : ℕ) (here there : Mirror) (act : Act) → Gapless z x here there → Gapless z x here (acted there act)
there_acted z x here there (Appends p e by) h = there_grows z x (of_origin z here.entries) there.entries e h
there_acted z x here there (Creates n latest) h = h
there_acted z x here there (Deletes n) h = h
there_acted z x here there (Acks n is c) h = h
there_acted z x here there (Seeks n i) h = h

no_other : (z x : ℕ) (e : Entry) → (z ≡ x → ⊥) → (e.ident.origin == z) ≡ true → (e.ident.origin == x) ≡ false
no_other z x e differ is = by (e.ident.origin == x) refl
  where
    by : (b : Bool) → (e.ident.origin == x) ≡ b → (e.ident.origin == x) ≡ false
    by true own = absurd (differ (sym (eqb-true e.ident.origin z is) ∙ eqb-true e.ident.origin x own))
    by false other = other

here_acted : (s : Setup) (a : Mirrors) (t x z : ℕ) (act : Act) → (z ≡ x → ⊥) → act_gaps s a t x act ≡ None → Gapless z x (mirror_at s a t x) (mirror_at s a t z)
    → Gapless z x (acted (mirror_at s a t x) act) (mirror_at s a t z)
here_acted s a t x z (Appends p e by) differ free h =
    here_grows z (mirror_at s a t x).entries (outbound z x (mirror_at s a t z).entries) e h
    (λ is.
    let may : may_follow s a t x e ≡ true = (not_broken 12 (may_follow s a t x e) None free).0 in
    let next = or_true (e.ident.origin == x) (is_next s a t x e) may (no_other z x e differ is) in
    subst (λ (y : ℕ). is_same_at e (next_of y x (mirror_at s a t y) (mirror_at s a t x)) ≡ true) (eqb-true e.ident.origin z is) next)
here_acted s a t x z (Creates n latest) differ free h = h
here_acted s a t x z (Deletes n) differ free h = h
here_acted s a t x z (Acks n is c) differ free h = h
here_acted s a t x z (Seeks n i) differ free h = h

line_gapless : (s : Setup) (a : Mirrors) (i : Item) → IsItemOf s i → gaps s a i ≡ None → IsGapless s a → IsGapless s (told s a i)
line_gapless s a (Begins n) of free h t x z lt lt' differ = h t x z lt lt' differ
line_gapless s a (Writes u v act) of free h t x z lt lt' differ =
    at_set (λ (there : Mirror). Gapless z x (mirror_at s a' t x) there) a.topics (mirror_number s u v) (mirror_number s t z) new no_mirror
    (λ e. let same = same_node s u t v z of.1 lt' e in there_new same.0 same.1)
    (at_set (λ (here : Mirror). Gapless z x here (mirror_at s a t z)) a.topics (mirror_number s u v) (mirror_number s t x) new no_mirror
    (λ e. let same = same_node s u t v x of.1 lt e in here_new same.0 same.1) (h t x z lt lt' differ))
  where
    new : Mirror
    new = acted (mirror_at s a u v) act

    a' : Mirrors
    a' = told s a (Writes u v act)

    here_new : u ≡ t → v ≡ x → Gapless z x new (mirror_at s a t z)
    here_new e e' =
        let P : ℕ → ℕ → Type 0 = λ t x. (z ≡ x → ⊥) → Gapless z x (mirror_at s a t x) (mirror_at s a t z) → Gapless z x new (mirror_at s a t z) in
        subst (λ (n : ℕ). P n x) e (subst (P u) e' (λ differ h. here_acted s a u v z act differ free h)) differ (h t x z lt lt' differ)

    there_new : u ≡ t → v ≡ z → Gapless z x (mirror_at s a' t x) new
    there_new e e' =
        at_set (λ (here : Mirror). Gapless z x here new) a.topics (mirror_number s u v) (mirror_number s t x) new no_mirror
        (λ is. absurd (differ (sym e' ∙ (same_node s u t v x of.1 lt is).1)))
        (subst (λ (m : Mirror). Gapless z x (mirror_at s a t x) (acted m act)) (ap (λ (n : ℕ). mirror_at s a n z) (sym e) ∙ ap (mirror_at s a u) (sym e'))
        (there_acted z x (mirror_at s a t x) (mirror_at s a t z) act (h t x z lt lt' differ)))

lines_gapless : (s : Setup) (a b : Mirrors) (before after : List Item) → AllByRecursion (IsItemOf s) (before ++ after) → audited_from_by strictness.Whole s a (before ++ after) ≡ Ok b
    → IsGapless s a → IsGapless s (all_told s a before)
lines_gapless s a b [] after of h kept = kept
lines_gapless s a b (i ∷ is) after of h kept =
    let both = accepted a.events (refused_by strictness.Whole s a i) (audited_from_by strictness.Whole s (told s a i) (is ++ after)) b h in
    lines_gapless s (told s a i) b is after of.1 both.1 (line_gapless s a i of.0 (both_none (refused s a i) (gaps s a i) both.0).1 kept)

opening_gapless : (s : Setup) → IsGapless s (opening_mirrors s)
opening_gapless s t x z lt lt' differ =
    at_copies (λ (here : Mirror). Gapless z x here (mirror_at s (opening_mirrors s) t z)) (length s.topics * length s.clusters) (mirror_number s t x) no_mirror no_mirror
    (none_first (outbound z x (mirror_at s (opening_mirrors s) t z).entries)) (none_first (outbound z x (mirror_at s (opening_mirrors s) t z).entries))

pub gapless_law : LawGapless
gapless_law s before after a of h = lines_gapless s (opening_mirrors s) a before after of h (opening_gapless s)

-- ---- and a run's trace tells such lines

-- what far has with e after it is a beginning of what near has: so e is the next one
pub next_there : (z x : ℕ) (near far : List Entry) (e : Entry) → StartsAs z x near (far ++ e ∷ []) → is_of z e ≡ true → slice_get (outbound z x near) (length (of_origin z far)) ≡ Some e
next_there z x near far e begins of =
    let A = of_origin z far in
    let one : of_origin z (far ++ e ∷ []) ≡ A ++ e ∷ [] = filter-append (is_of z) far (e ∷ []) ∙ ap (λ (c : Bool). A ++ cond c (e ∷ []) []) of in
    let at : slice_get ((A ++ e ∷ []) ++ begins.0) (length A) ≡ Some e = get_left (A ++ e ∷ []) begins.0 (length A) e (get_last A e) in
    subst (λ (l : List Entry). slice_get l (length A) ≡ Some e) (sym (begins.1 ∙ ap (λ (l : List Entry). l ++ begins.0) one)) at
