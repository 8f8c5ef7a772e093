-- The messages below an index, added to those that a subscription is done with.
use Rattle.std.proofs.Common.{◌≡◌, ◌≢◌, ℕ, zero, suc, ◌+◌, ◌-◌, ◌<◌, ◌≤◌, Bool, true, false, List, [], ◌∷◌, ◌++◌, length, inl, inr, ◌⊎◌, refl, sym, ap, subst, ◌∙◌, arith}
use Rattle.std.specs.Prelude.{◌||◌, if◌then◌else◌, Option, Some, None, slice_get, slice_index, slice_set}
use Rattle.std.specs.List.{list_any, range_with_len}
use Rattle.std.proofs.lemmas.Bool.{false≢true}
use Rattle.std.proofs.lemmas.List.{get_or-set_same, get_or-set_other, length-set}
use Rattle.geo_base.proofs.Bools.{or_assoc, or_of_first, or_of_second}
use Rattle.geo_base.proofs.Lists.{range_push}
use Rattle.geo_base.specs.declared.entry.Entry.{Entry}
use Rattle.geo_base.specs.declared.entry.Ident.{Ident}
use Rattle.geo_base.specs.Entry.{is_data, same_ident}
use Rattle.geo_base.specs.Settled.{messages_at, with_message}
use Rattle.audit.specs.Stored.{identity_of, is_identity}
use Rattle.indexmap.specs.IndexSet.{insert_key}
use Rattle.observe.specs.Dealt.{AddedTo, HoldsBelow, IsDealtBelow, IsEndOf, Keeps, KeepsSize, SubDealt, has_message, is_below}
use Rattle.observe.proofs.Dealings.{message_added, or_none}

-- ---- one entry more

messages_push : (es : List Entry) (is : List ℕ) (i : ℕ) (g : Ident) → list_any (same_ident g) (messages_at es (is ++ i ∷ [])) ≡ (list_any (same_ident g) (messages_at es is) || list_any (same_ident g) (with_message (slice_get es i) []))
messages_push es [] i g = refl
messages_push es (j ∷ is) i g = by (slice_get es j) (messages_push es is i g)
  where
    R : Bool
    R = list_any (same_ident g) (with_message (slice_get es i) [])

    one : (e : Entry) (d : Bool) → list_any (same_ident g) (messages_at es (is ++ i ∷ [])) ≡ (list_any (same_ident g) (messages_at es is) || list_any (same_ident g) (with_message (slice_get es i) []))
        → list_any (same_ident g) (if d then e.ident ∷ messages_at es (is ++ i ∷ []) else messages_at es (is ++ i ∷ [])) ≡ (list_any (same_ident g) (if d then e.ident ∷ messages_at es is else messages_at es is) || list_any (same_ident g) (with_message (slice_get es i) []))
    one e true h =
        ap (λ (b : Bool). same_ident g e.ident || b) h
        ∙ sym (or_assoc (same_ident g e.ident) (list_any (same_ident g) (messages_at es is)) (list_any (same_ident g) (with_message (slice_get es i) [])))
    one e false h = h

    by : (o : Option Entry) → list_any (same_ident g) (messages_at es (is ++ i ∷ [])) ≡ (list_any (same_ident g) (messages_at es is) || list_any (same_ident g) (with_message (slice_get es i) []))
        → list_any (same_ident g) (with_message o (messages_at es (is ++ i ∷ []))) ≡ (list_any (same_ident g) (with_message o (messages_at es is)) || list_any (same_ident g) (with_message (slice_get es i) []))
    by None h = h
    by (Some e) h = one e (is_data e.content) h

pub keeps_itself : (d : SubDealt) → Keeps d d
keeps_itself d = record { name = refl; below = refl; unsure = refl }

pub keeps_on : (a b c : SubDealt) → Keeps a b → Keeps b c → Keeps a c
keeps_on a b c h k = record { name = k.name ∙ h.name; below = k.below ∙ h.below; unsure = k.unsure ∙ h.unsure }

range_end : (from at : ℕ) → from ≤ at → range_with_len from ((at + 1) - from) ≡ range_with_len from (at - from) ++ at ∷ []
range_end from at le =
    let e : (at + 1) - from ≡ suc (at - from) = omega (arith, le) in let f : from + (at - from) ≡ at = omega (arith, le) in
    ap (range_with_len from) e ∙ (range_push from (at - from) ∙ ap (λ (i : ℕ). range_with_len from (at - from) ++ i ∷ []) f)

pub none_added : (es : List Entry) (from at : ℕ) (d : SubDealt) → at ≤ from → AddedTo es from d d at
none_added es from at d le = record {
  keeps = keeps_itself d;
  messages = λ g. let e : at - from ≡ 0 = omega (arith, le) in sym (ap (λ (n : ℕ). has_message d g || list_any (same_ident g) (messages_at es (range_with_len from n))) e ∙ or_none (has_message d g));
}

pub more_added : (es : List Entry) (from at : ℕ) (e : Entry) (d d1 d2 : SubDealt) → from ≤ at → slice_get es at ≡ Some e → Keeps d1 d2
    → ((g : Ident) → has_message d2 g ≡ (has_message d1 g || list_any (same_ident g) (if is_data e.content then e.ident ∷ [] else []))) → AddedTo es from d d1 at → AddedTo es from d d2 (at + 1)
more_added es from at e d d1 d2 le is keeps more h = record {
  keeps = keeps_on d d1 d2 h.keeps keeps;
  messages = λ g.
      more g
      ∙ (ap (λ (b : Bool). b || list_any (same_ident g) (if is_data e.content then e.ident ∷ [] else [])) (h.messages g)
      ∙ (or_assoc (has_message d g) (list_any (same_ident g) (messages_at es (range_with_len from (at - from)))) (list_any (same_ident g) (if is_data e.content then e.ident ∷ [] else []))
      ∙ ap (λ (b : Bool). has_message d g || b)
      (sym (ap (λ (is : List ℕ). list_any (same_ident g) (messages_at es is)) (range_end from at le)
      ∙ (messages_push es (range_with_len from (at - from)) at g
      ∙ ap (λ (o : Option Entry). list_any (same_ident g) (messages_at es (range_with_len from (at - from))) || list_any (same_ident g) (with_message o [])) is)))));
}

-- an entry that is a message, and one that is none
pub message_more : (e : Entry) (d1 d2 : SubDealt) (g : Ident) → is_data e.content ≡ true → d2.messages ≡ insert_key is_identity d1.messages (identity_of e.ident)
    → has_message d2 g ≡ (has_message d1 g || list_any (same_ident g) (if is_data e.content then e.ident ∷ [] else []))
message_more e d1 d2 g is added =
    message_added d1 d2 e.ident g added
    ∙ ap (λ (b : Bool). has_message d1 g || b) (sym (ap (λ (b : Bool). list_any (same_ident g) (if b then e.ident ∷ [] else [])) is ∙ or_none (same_ident g e.ident)))

pub marker_more : (e : Entry) (d : SubDealt) (g : Ident) → is_data e.content ≡ false → has_message d g ≡ (has_message d g || list_any (same_ident g) (if is_data e.content then e.ident ∷ [] else []))
marker_more e d g none = sym (ap (λ (b : Bool). has_message d g || list_any (same_ident g) (if b then e.ident ∷ [] else [])) none ∙ or_none (has_message d g))

-- ---- below an index

range_parts : (a n m : ℕ) → range_with_len a (n + m) ≡ range_with_len a n ++ range_with_len (a + n) m
range_parts a zero m =
    let e : a ≡ a + 0 = omega arith in let z : zero + m ≡ m = omega arith in ap (range_with_len a) z ∙ ap (λ (i : ℕ). range_with_len i m) e
range_parts a (suc n) m =
    let e : (a + 1) + n ≡ a + suc n = omega arith in let z : suc n + m ≡ suc (n + m) = omega arith in
    ap (range_with_len a) z ∙ ap (λ (is : List ℕ). a ∷ is) (range_parts (a + 1) n m ∙ ap (λ (i : ℕ). range_with_len (a + 1) n ++ range_with_len i m) e)

messages_parts : (es : List Entry) (is js : List ℕ) (g : Ident) → list_any (same_ident g) (messages_at es (is ++ js)) ≡ (list_any (same_ident g) (messages_at es is) || list_any (same_ident g) (messages_at es js))
messages_parts es [] js g = refl
messages_parts es (i ∷ is) js g = by (slice_get es i) (messages_parts es is js g)
  where
    J : Bool
    J = list_any (same_ident g) (messages_at es js)

    one : (e : Entry) (d : Bool) → list_any (same_ident g) (messages_at es (is ++ js)) ≡ (list_any (same_ident g) (messages_at es is) || list_any (same_ident g) (messages_at es js))
        → list_any (same_ident g) (if d then e.ident ∷ messages_at es (is ++ js) else messages_at es (is ++ js)) ≡ (list_any (same_ident g) (if d then e.ident ∷ messages_at es is else messages_at es is) || list_any (same_ident g) (messages_at es js))
    one e true h = ap (λ (b : Bool). same_ident g e.ident || b) h ∙ sym (or_assoc (same_ident g e.ident) (list_any (same_ident g) (messages_at es is)) (list_any (same_ident g) (messages_at es js)))
    one e false h = h

    by : (o : Option Entry) → list_any (same_ident g) (messages_at es (is ++ js)) ≡ (list_any (same_ident g) (messages_at es is) || list_any (same_ident g) (messages_at es js))
        → list_any (same_ident g) (with_message o (messages_at es (is ++ js))) ≡ (list_any (same_ident g) (with_message o (messages_at es is)) || list_any (same_ident g) (messages_at es js))
    by None h = h
    by (Some e) h = one e (is_data e.content) h

below_parts : (es : List Entry) (a b : ℕ) (g : Ident) → a ≤ b → is_below es b g ≡ (is_below es a g || list_any (same_ident g) (messages_at es (range_with_len a (b - a))))
below_parts es a b g le =
    let e : b ≡ a + (b - a) = omega (arith, le) in let f : 0 + a ≡ a = omega arith in
    ap (λ (n : ℕ). is_below es n g) e
    ∙ (ap (λ (is : List ℕ). list_any (same_ident g) (messages_at es is)) (range_parts 0 a (b - a) ∙ ap (λ (i : ℕ). range_with_len 0 a ++ range_with_len i (b - a)) f)
    ∙ messages_parts es (range_with_len 0 a) (range_with_len a (b - a)) g)

-- nothing stands after the last
no_messages : (es : List Entry) (a n : ℕ) → length es ≤ a → messages_at es (range_with_len a n) ≡ []
no_messages es a zero le = refl
no_messages es a (suc n) le = ap (λ (o : Option Entry). with_message o (messages_at es (range_with_len (a + 1) n))) (none es a le) ∙ no_messages es (a + 1) n (omega (arith, le))
  where
    none : (fs : List Entry) (i : ℕ) → length fs ≤ i → slice_get fs i ≡ None
    none [] i le = refl
    none (f ∷ fs) zero le = absurd (omega (arith, le))
    none (f ∷ fs) (suc i) le = none fs i (omega (arith, le))

below_end : (es : List Entry) (k : ℕ) (g : Ident) → length es ≤ k → is_below es k g ≡ is_below es (length es) g
below_end es k g le =
    below_parts es (length es) k g le
    ∙ (ap (λ (is : List Ident). is_below es (length es) g || list_any (same_ident g) is) (no_messages es (length es) (k - length es) (omega arith)) ∙ or_none (is_below es (length es) g))

-- the end is the index, or the last where it is after that
pub end_here : (es : List Entry) (k : ℕ) → IsEndOf es k k
end_here es k = record { same = λ g. refl }

pub end_last : (es : List Entry) (k : ℕ) → length es ≤ k → IsEndOf es k (length es)
end_last es k le = record { same = λ g. below_end es k g le }

implies : (a b c : Bool) → (b ≡ true → a ≡ true) → (a || (b || c)) ≡ (a || c)
implies true b c h = refl
implies false true c h = absurd (false≢true (h refl))
implies false false c h = refl

covered_or : (a b c : Bool) → (c ≡ true → b ≡ true) → (b ≡ true → a ≡ true) → (a || false) ≡ (a || c)
covered_or true b c h k = refl
covered_or false b false h k = refl
covered_or false b true h k = absurd (false≢true (k (h refl)))

all_messages : (es : List Entry) (from end k : ℕ) (d d' : SubDealt) → IsEndOf es k end → HoldsBelow es from d → AddedTo es from d d' end → (from ≤ end) ⊎ (end ≤ from)
    → (g : Ident) → has_message d' g ≡ (has_message d g || is_below es k g)
all_messages es from end k d d' is held h (inl le) g =
    h.messages g
    ∙ (sym (implies (has_message d g) (is_below es from g) (list_any (same_ident g) (messages_at es (range_with_len from (end - from)))) (held g))
    ∙ ap (λ (b : Bool). has_message d g || b) (sym (is.same g ∙ below_parts es from end g le)))
all_messages es from end k d d' is held h (inr le) g =
    let e : end - from ≡ 0 = omega (arith, le) in
    h.messages g
    ∙ (ap (λ (n : ℕ). has_message d g || list_any (same_ident g) (messages_at es (range_with_len from n))) e
    ∙ (covered_or (has_message d g) (is_below es from g) (is_below es end g) (λ b. below_parts es end from g le ∙ or_of_first (is_below es end g) (list_any (same_ident g) (messages_at es (range_with_len end (from - end)))) b) (held g)
    ∙ ap (λ (b : Bool). has_message d g || b) (sym (is.same g))))

-- where the index goes up, and where it stays
pub below_up : (x : ℕ) (es : List Entry) (from end k : ℕ) (d d' : SubDealt) → x < length d.below → from ≡ slice_index d.below x → from < end → IsEndOf es k end → AddedTo es from d d' end → HoldsBelow es (slice_index d.below x) d
    → IsDealtBelow x es k d (record { name = d'.name; messages = d'.messages; below = slice_set d'.below x end; unsure = d'.unsure })
below_up x es from end k d d' lt from_is up is h held = record {
  messages = all;
  held = λ g b. all g ∙ or_of_second (has_message d g) (is_below es k g) (is.same g ∙ subst (λ (j : ℕ). is_below es j g ≡ true) here b);
  others = λ y differ. get_or-set_other d'.below x y end 0 differ ∙ ap (λ (b : List ℕ). slice_index b y) h.keeps.below;
}
  where
    all : (g : Ident) → has_message d' g ≡ (has_message d g || is_below es k g)
    all = all_messages es from end k d d' is (subst (λ (j : ℕ). HoldsBelow es j d) (sym from_is) held) h (inl (omega (arith, up)))

    here : slice_index (slice_set d'.below x end) x ≡ end
    here = get_or-set_same d'.below x end 0 (subst (λ (b : List ℕ). x < length b) (sym h.keeps.below) lt)

pub below_same : (x : ℕ) (es : List Entry) (from end k : ℕ) (d d' : SubDealt) → from ≡ slice_index d.below x → end ≤ from → IsEndOf es k end → AddedTo es from d d' end → HoldsBelow es (slice_index d.below x) d
    → IsDealtBelow x es k d d'
below_same x es from end k d d' from_is le is h held = record {
  messages = all;
  held = λ g b. all g ∙ or_of_first (has_message d g) (is_below es k g) (held g (subst (λ (a : List ℕ). is_below es (slice_index a x) g ≡ true) h.keeps.below b));
  others = λ y differ. ap (λ (b : List ℕ). slice_index b y) h.keeps.below;
}
  where
    all : (g : Ident) → has_message d' g ≡ (has_message d g || is_below es k g)
    all = all_messages es from end k d d' is (subst (λ (j : ℕ). HoldsBelow es j d) (sym from_is) held) h (inr le)

-- what stays of it
pub keeps_set : (d d' : SubDealt) (x end : ℕ) → Keeps d d' → KeepsSize d (record { name = d'.name; messages = d'.messages; below = slice_set d'.below x end; unsure = d'.unsure })
keeps_set d d' x end h = record { name = h.name; below = length-set d'.below x end ∙ ap (λ (b : List ℕ). length b) h.below; unsure = h.unsure }

pub keeps_size : (d d' : SubDealt) → Keeps d d' → KeepsSize d d'
keeps_size d d' h = record { name = h.name; below = ap (λ (b : List ℕ). length b) h.below; unsure = h.unsure }

-- the messages up to the end are added, wherever the walk over them ended
pub all_added : (es : List Entry) (from at end : ℕ) (d d' : SubDealt) → AddedTo es from d d' at → at - from ≡ end - from → AddedTo es from d d' end
all_added es from at end d d' h same = record {
  keeps = h.keeps;
  messages = λ g. h.messages g ∙ ap (λ (n : ℕ). has_message d g || list_any (same_ident g) (messages_at es (range_with_len from n))) same;
}
