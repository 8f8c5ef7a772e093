-- What one more line says of the subscriptions of a topic.
use Rattle.std.proofs.Common.{◌≡◌, ◌≢◌, ℕ, zero, suc, ◌+◌, ◌<◌, ◌≤◌, ◌==◌, Bool, true, false, List, [], ◌∷◌, ◌++◌, length, drop, inl, inr, ◌⊎◌, refl, sym, ap, subst, ◌∙◌, arith}
use Rattle.std.specs.Prelude.{◌&&◌, ◌||◌, if◌then◌else◌, Some, None, is_none, slice_index, slice_index_or, slice_set}
use Rattle.std.specs.List.{list_any}
use Rattle.std.specs.Str.{bytes_eq}
use Rattle.std.proofs.lemmas.Bool.{cases_eq, eqb-true, false≢true}
use Rattle.std.proofs.lemmas.List.{drop_more, get_or-set_same, get_or-set_other, length-set}
use Rattle.std.proofs.lemmas.List.Folds.{list_any-append}
use Rattle.std.proofs.lemmas.Option.{none-some}
use Rattle.std.proofs.lemmas.Slice.Eq.{bytes_eq-Decides}
use Rattle.geo_base.proofs.Bools.{or_assoc, or_of_first}
use Rattle.geo_base.proofs.Lists.{bytes_eq_itself}
use Rattle.geo_base.proofs.Sums.{eq_itself}
use Rattle.geo_base.proofs.Results.{some_number}
use Rattle.geo_base.specs.declared.entry.Entry.{Entry}
use Rattle.geo_base.specs.declared.entry.Ident.{Ident}
use Rattle.geo_base.specs.declared.position.Position.{Position}
use Rattle.geo_base.specs.Entry.{same_ident}
use Rattle.geo_base.specs.Settled.{first_indexes, messages_at}
use Rattle.geo_base.specs.Setup.{Setup}
use Rattle.audit.specs.declared.identity.Identity.{Identity}
use Rattle.audit.specs.Stored.{identity_of, is_identity}
use Rattle.audit.specs.Subs.{SlotRow, slot_in}
use Rattle.indexmap.specs.IndexSet.{insert_key}
use Rattle.observation.proofs.Places.{idents_are}
use Rattle.observation.specs.declared.said.Said.{Said}
use Rattle.observation.specs.declared.said.Said.TheVariants as said
use Rattle.observation.specs.Observed.{Observation, all_settled, entries_seen, first_from, is_unsure, said_settled}
use Rattle.observe.specs.Topics.{topic_of}
use Rattle.observe.specs.Dealt.{FindsNames, HoldsBelow, IsDealtBelow, Keeps, KeepsSize, SaysNothing, SubDealt, SubsDealt, TellsSub, TellsTopic, dealt_at, has_message, is_away, is_below, may_be, may_be_from, no_dealt}

-- ---- lines, one after another

pub or_none : (b : Bool) → (b || false) ≡ b
or_none true = refl
or_none false = refl

settled_more : (s : Setup) (o : Observation) (t : ℕ) (n : List ℕ) (g : Ident) (ls : List Said) (l : Said)
    → list_any (same_ident g) (all_settled s o t n (ls ++ l ∷ [])) ≡ (list_any (same_ident g) (all_settled s o t n ls) || list_any (same_ident g) (said_settled s o t n l))
settled_more s o t n g [] l =
    list_any-append (same_ident g) (said_settled s o t n l) [] ∙ or_none (list_any (same_ident g) (said_settled s o t n l))
settled_more s o t n g (m ∷ ls) l =
    list_any-append (same_ident g) (said_settled s o t n m) (all_settled s o t n (ls ++ l ∷ []))
    ∙ (ap (λ (b : Bool). list_any (same_ident g) (said_settled s o t n m) || b) (settled_more s o t n g ls l)
    ∙ (sym (or_assoc (list_any (same_ident g) (said_settled s o t n m)) (list_any (same_ident g) (all_settled s o t n ls)) (list_any (same_ident g) (said_settled s o t n l)))
    ∙ ap (λ (b : Bool). b || list_any (same_ident g) (said_settled s o t n l)) (sym (list_any-append (same_ident g) (said_settled s o t n m) (all_settled s o t n ls)))))

unsure_more : (s : Setup) (o : Observation) (t : ℕ) (n : List ℕ) (g : Ident) (ls : List Said) (l : Said)
    → list_any (is_unsure s o t n g) (ls ++ l ∷ []) ≡ (list_any (is_unsure s o t n g) ls || is_unsure s o t n g l)
unsure_more s o t n g ls l =
    list_any-append (is_unsure s o t n g) ls (l ∷ []) ∙ ap (λ (b : Bool). list_any (is_unsure s o t n g) ls || b) (or_none (is_unsure s o t n g l))

-- ---- what a line says of no subscription but one

record SaysNo (s : Setup) (o : Observation) (t : ℕ) (n : List ℕ) (l : Said) : Type 0 where
  settled : said_settled s o t n l ≡ []
  unsure : (g : Ident) → is_unsure s o t n g l ≡ false

nothing_more : (s : Setup) (o : Observation) (t : ℕ) (n : List ℕ) (ls : List Said) (l : Said) → SaysNo s o t n l → SaysNothing s o t n ls → SaysNothing s o t n (ls ++ l ∷ [])
nothing_more s o t n ls l fails h = record {
  settled = λ g. settled_more s o t n g ls l ∙ (ap (λ (is : List Ident). list_any (same_ident g) (all_settled s o t n ls) || list_any (same_ident g) is) fails.settled ∙ (or_none (list_any (same_ident g) (all_settled s o t n ls)) ∙ h.settled g));
  unsure = λ g. unsure_more s o t n g ls l ∙ (ap (λ (b : Bool). list_any (is_unsure s o t n g) ls || b) (fails.unsure g) ∙ (or_none (list_any (is_unsure s o t n g) ls) ∙ h.unsure g));
}

sub_passes : (s : Setup) (o : Observation) (t : ℕ) (ls : List Said) (l : Said) (d : SubDealt) → SaysNo s o t d.name l → TellsSub s o t ls d → TellsSub s o t (ls ++ l ∷ []) d
sub_passes s o t ls l d fails h = record {
  messages = λ g. h.messages g ∙ sym (settled_more s o t d.name g ls l ∙ (ap (λ (is : List Ident). list_any (same_ident g) (all_settled s o t d.name ls) || list_any (same_ident g) is) fails.settled ∙ or_none (list_any (same_ident g) (all_settled s o t d.name ls))));
  unsure = λ g. h.unsure g ∙ sym (unsure_more s o t d.name g ls l ∙ (ap (λ (b : Bool). list_any (is_unsure s o t d.name g) ls || b) (fails.unsure g) ∙ or_none (list_any (is_unsure s o t d.name g) ls)));
  below = h.below;
}

pub passes : (s : Setup) (o : Observation) (t : ℕ) (ls : List Said) (l : Said) (v : SubsDealt) → ((n : List ℕ) → said_settled s o t n l ≡ []) → ((n : List ℕ) (g : Ident) → is_unsure s o t n g l ≡ false)
    → TellsTopic s o t ls v → TellsTopic s o t (ls ++ l ∷ []) v
passes s o t ls l v settled unsure h = record {
  none = λ n fails. nothing_more s o t n ls l (record { settled = settled n; unsure = unsure n }) (h.none n fails);
  each = λ k lt. sub_passes s o t ls l (dealt_at v.subs k) (record { settled = settled (dealt_at v.subs k).name; unsure = unsure (dealt_at v.subs k).name }) (h.each k lt);
}

-- a line of another topic, and a receipt
pub other_passes : (s : Setup) (o : Observation) (t : ℕ) (ls : List Said) (l : Said) (v : SubsDealt) → topic_of l ≢ t → TellsTopic s o t ls v → TellsTopic s o t (ls ++ l ∷ []) v
other_passes s o t ls l v differ h = by l (not_same (topic_of l == t) refl)
  where
    not_same : (b : Bool) → (topic_of l == t) ≡ b → b ≡ false
    not_same false is = refl
    not_same true is = absurd (differ (eqb-true (topic_of l) t is))

    by : (m : Said) → (topic_of m == t) ≡ false → TellsTopic s o t (ls ++ m ∷ []) v
    by (said.Receipt u i p) fails = passes s o t ls (said.Receipt u i p) v (λ n. refl) (λ n g. refl) h
    by (said.Done u m i) fails = passes s o t ls (said.Done u m i) v (λ n. ap (λ (b : Bool). if (b && bytes_eq m n) then i ∷ [] else []) fails) (λ n g. refl) h
    by (said.Below u x m k) fails = passes s o t ls (said.Below u x m k) v (λ n. ap (λ (b : Bool). if (b && bytes_eq m n) then messages_at (entries_seen s o t x) (first_indexes k) else []) fails) (λ n g. refl) h
    by (said.Unsure u x m) fails = passes s o t ls (said.Unsure u x m) v (λ n. refl) (λ n g. ap (λ (b : Bool). b && (bytes_eq m n && is_none (first_from 0 (entries_seen s o t x) g))) fails) h

pub receipt_passes : (s : Setup) (o : Observation) (t : ℕ) (ls : List Said) (u : ℕ) (i : Ident) (p : Position) (v : SubsDealt) → TellsTopic s o t ls v → TellsTopic s o t (ls ++ said.Receipt u i p ∷ []) v
receipt_passes s o t ls u i p v h = passes s o t ls (said.Receipt u i p) v (λ n. refl) (λ n g. refl) h

one_told : (s : Setup) (o : Observation) (t : ℕ) (ls : List Said) (l : Said) (c : ℕ) (rows : List SlotRow) (subs : List SubDealt) (n : List ℕ) (k : ℕ) (d' : SubDealt)
    → FindsNames c rows subs → slot_in n rows ≡ Some k → ((m : List ℕ) → bytes_eq n m ≡ false → SaysNo s o t m l)
    → TellsSub s o t (ls ++ l ∷ []) d'
    → TellsTopic s o t ls (record { clusters = c; numbers = rows; subs = subs }) → TellsTopic s o t (ls ++ l ∷ []) (record { clusters = c; numbers = rows; subs = slice_set subs k d' })
one_told s o t ls l c rows subs n k d' finds at others tells h = record {
  none = λ m fails. nothing_more s o t m ls l (others m (not_named m fails (bytes_eq n m) refl)) (h.none m fails);
  each = λ j lt. at_place j (size lt) (cases_eq j k);
}
  where
    size : {j : ℕ} → j < length (slice_set subs k d') → j < length subs
    size lt = let e = length-set subs k d' in omega (arith, lt, e)

    not_named : (m : List ℕ) → slot_in m rows ≡ None → (b : Bool) → bytes_eq n m ≡ b → b ≡ false
    not_named m fails false is = refl
    not_named m fails true is =
        let same : n ≡ m = (bytes_eq-Decides n m).0 is in absurd (none-some k (sym fails ∙ (ap (λ (a : List ℕ). slot_in a rows) (sym same) ∙ at)))

    -- who stands elsewhere has another name
    other_name : (j : ℕ) → j < length subs → j ≢ k → (b : Bool) → bytes_eq n (dealt_at subs j).name ≡ b → b ≡ false
    other_name j lt differ false is = refl
    other_name j lt differ true is =
        let same : n ≡ (dealt_at subs j).name = (bytes_eq-Decides n (dealt_at subs j).name).0 is in
        absurd (differ (some_number j k (sym (finds.own j lt) ∙ (ap (λ (a : List ℕ). slot_in a rows) (sym same) ∙ at))))

    at_place : (j : ℕ) → j < length subs → (j ≡ k) ⊎ (j ≢ k) → TellsSub s o t (ls ++ l ∷ []) (dealt_at (slice_set subs k d') j)
    at_place j lt (inl is) =
        subst (λ (i : ℕ). TellsSub s o t (ls ++ l ∷ []) (dealt_at (slice_set subs k d') i)) (sym is)
        (subst (TellsSub s o t (ls ++ l ∷ [])) (sym (get_or-set_same subs k d' no_dealt (omega (arith, lt, is)))) tells)
    at_place j lt (inr differ) =
        subst (TellsSub s o t (ls ++ l ∷ [])) (sym (get_or-set_other subs k j d' no_dealt differ))
        (sub_passes s o t ls l (dealt_at subs j) (others (dealt_at subs j).name (other_name j lt differ (bytes_eq n (dealt_at subs j).name) refl)) (h.each j lt))

-- ---- a message more

both_so : (u b : Bool) {X : Type 0} (x y : X) → b ≡ false → (if (u && b) then x else y) ≡ y
both_so true false x y is = refl
both_so false false x y is = refl
both_so true true x y is = absurd (false≢true (sym is))
both_so false true x y is = absurd (false≢true (sym is))

-- the keys have one more
key_more : (ks : List Identity) (g i : Ident) → list_any (is_identity (identity_of g)) (insert_key is_identity ks (identity_of i)) ≡ (list_any (is_identity (identity_of g)) ks || same_ident g i)
key_more ks g i = by (list_any (is_identity (identity_of i)) ks) refl
  where
    there : (b : Bool) → same_ident g i ≡ b → list_any (is_identity (identity_of i)) ks ≡ true → list_any (is_identity (identity_of g)) ks ≡ (list_any (is_identity (identity_of g)) ks || b)
    there false is h = sym (or_none (list_any (is_identity (identity_of g)) ks))
    there true is h =
        let same : g ≡ i = idents_are g i is in
        let has : list_any (is_identity (identity_of g)) ks ≡ true = subst (λ (j : Ident). list_any (is_identity (identity_of j)) ks ≡ true) (sym same) h in
        has ∙ sym (ap (λ (b : Bool). b || true) has)

    by : (b : Bool) → list_any (is_identity (identity_of i)) ks ≡ b → list_any (is_identity (identity_of g)) (if b then ks else ks ++ identity_of i ∷ []) ≡ (list_any (is_identity (identity_of g)) ks || same_ident g i)
    by true h = there (same_ident g i) refl h
    by false h = list_any-append (is_identity (identity_of g)) ks (identity_of i ∷ []) ∙ ap (λ (b : Bool). list_any (is_identity (identity_of g)) ks || b) (or_none (same_ident g i))

pub message_added : (d d' : SubDealt) (i g : Ident) → d'.messages ≡ insert_key is_identity d.messages (identity_of i) → has_message d' g ≡ (has_message d g || same_ident g i)
message_added d d' i g is = ap (list_any (is_identity (identity_of g))) is ∙ key_more d.messages g i

still_held : (es : List Entry) (k k' : ℕ) (d d' : SubDealt) → k' ≡ k → ((g : Ident) → has_message d g ≡ true → has_message d' g ≡ true) → HoldsBelow es k d → HoldsBelow es k' d'
still_held es k k' d d' same more h g at = more g (h g (subst (λ (j : ℕ). is_below es j g ≡ true) same at))

-- ---- each kind of line

done_no : (s : Setup) (o : Observation) (t : ℕ) (n m : List ℕ) (i : Ident) → bytes_eq n m ≡ false → SaysNo s o t m (said.Done t n i)
done_no s o t n m i other = record { settled = both_so (t == t) (bytes_eq n m) (i ∷ []) [] other; unsure = λ g. refl }

below_no : (s : Setup) (o : Observation) (t x : ℕ) (n m : List ℕ) (k : ℕ) → bytes_eq n m ≡ false → SaysNo s o t m (said.Below t x n k)
below_no s o t x n m k other = record { settled = both_so (t == t) (bytes_eq n m) (messages_at (entries_seen s o t x) (first_indexes k)) [] other; unsure = λ g. refl }

unsure_no : (s : Setup) (o : Observation) (t x : ℕ) (n m : List ℕ) → bytes_eq n m ≡ false → SaysNo s o t m (said.Unsure t x n)
unsure_no s o t x n m other = record { settled = refl; unsure = λ g. fails (t == t) (bytes_eq n m) (is_away s o t g x) other }
  where
    fails : (u b a : Bool) → b ≡ false → (u && (b && a)) ≡ false
    fails true false a is = refl
    fails false b a is = refl
    fails true true a is = absurd (false≢true (sym is))

-- of the subscription itself
own_line : {X : Type 0} (t : ℕ) (n : List ℕ) (x y : X) → (if ((t == t) && bytes_eq n n) then x else y) ≡ x
own_line t n x y = rw (eq_itself t, bytes_eq_itself n) refl

pub done_sub : (s : Setup) (o : Observation) (t : ℕ) (ls : List Said) (i : Ident) (d d' : SubDealt) → Keeps d d' → d'.messages ≡ insert_key is_identity d.messages (identity_of i)
    → TellsSub s o t ls d → TellsSub s o t (ls ++ said.Done t d.name i ∷ []) d'
done_sub s o t ls i d d' keeps added h = named d'.name keeps.name
  where
    n : List ℕ
    n = d.name

    more : (g : Ident) → has_message d' g ≡ (has_message d g || same_ident g i)
    more g = message_added d d' i g added

    settled : (g : Ident) → has_message d' g ≡ list_any (same_ident g) (all_settled s o t n (ls ++ said.Done t n i ∷ []))
    settled g =
        more g ∙ (ap (λ (b : Bool). b || same_ident g i) (h.messages g)
        ∙ sym (settled_more s o t n g ls (said.Done t n i)
        ∙ (ap (λ (is : List Ident). list_any (same_ident g) (all_settled s o t n ls) || list_any (same_ident g) is) (own_line t n (i ∷ []) [])
        ∙ ap (λ (b : Bool). list_any (same_ident g) (all_settled s o t n ls) || b) (or_none (same_ident g i)))))

    sure : (g : Ident) → may_be s o t g d'.unsure ≡ list_any (is_unsure s o t n g) (ls ++ said.Done t n i ∷ [])
    sure g =
        ap (may_be s o t g) keeps.unsure ∙ (h.unsure g
        ∙ sym (unsure_more s o t n g ls (said.Done t n i) ∙ or_none (list_any (is_unsure s o t n g) ls)))

    named : (m : List ℕ) → m ≡ n → TellsSub s o t (ls ++ said.Done t n i ∷ []) d'
    named m is = record {
      messages = λ g. settled g ∙ ap (λ (a : List ℕ). list_any (same_ident g) (all_settled s o t a (ls ++ said.Done t n i ∷ []))) (sym keeps.name);
      unsure = λ g. sure g ∙ ap (λ (a : List ℕ). list_any (is_unsure s o t a g) (ls ++ said.Done t n i ∷ [])) (sym keeps.name);
      below = λ x. still_held (entries_seen s o t x) (slice_index d.below x) (slice_index d'.below x) d d' (ap (λ (b : List ℕ). slice_index b x) keeps.below)
          (λ g has. more g ∙ or_of_first (has_message d g) (same_ident g i) has) (h.below x);
    }

pub below_sub : (s : Setup) (o : Observation) (t x : ℕ) (ls : List Said) (k : ℕ) (d d' : SubDealt) → KeepsSize d d' → IsDealtBelow x (entries_seen s o t x) k d d'
    → TellsSub s o t ls d → TellsSub s o t (ls ++ said.Below t x d.name k ∷ []) d'
below_sub s o t x ls k d d' keeps added h = record {
  messages = λ g. settled g ∙ ap (λ (a : List ℕ). list_any (same_ident g) (all_settled s o t a (ls ++ said.Below t x n k ∷ []))) (sym keeps.name);
  unsure = λ g. sure g ∙ ap (λ (a : List ℕ). list_any (is_unsure s o t a g) (ls ++ said.Below t x n k ∷ [])) (sym keeps.name);
  below = λ y. at_cluster y (cases_eq y x);
}
  where
    n : List ℕ
    n = d.name

    settled : (g : Ident) → has_message d' g ≡ list_any (same_ident g) (all_settled s o t n (ls ++ said.Below t x n k ∷ []))
    settled g =
        added.messages g ∙ (ap (λ (b : Bool). b || is_below (entries_seen s o t x) k g) (h.messages g)
        ∙ sym (settled_more s o t n g ls (said.Below t x n k)
        ∙ ap (λ (is : List Ident). list_any (same_ident g) (all_settled s o t n ls) || list_any (same_ident g) is) (own_line t n (messages_at (entries_seen s o t x) (first_indexes k)) [])))

    sure : (g : Ident) → may_be s o t g d'.unsure ≡ list_any (is_unsure s o t n g) (ls ++ said.Below t x n k ∷ [])
    sure g =
        ap (may_be s o t g) keeps.unsure ∙ (h.unsure g
        ∙ sym (unsure_more s o t n g ls (said.Below t x n k) ∙ or_none (list_any (is_unsure s o t n g) ls)))

    at_cluster : (y : ℕ) → (y ≡ x) ⊎ (y ≢ x) → HoldsBelow (entries_seen s o t y) (slice_index d'.below y) d'
    at_cluster y (inl is) = subst (λ (z : ℕ). HoldsBelow (entries_seen s o t z) (slice_index d'.below z) d') (sym is) added.held
    at_cluster y (inr differ) =
        still_held (entries_seen s o t y) (slice_index d.below y) (slice_index d'.below y) d d' (added.others y differ)
        (λ g has. added.messages g ∙ or_of_first (has_message d g) (is_below (entries_seen s o t x) k g) has) (h.below y)

-- one is not sure of one cluster more
may_more : (p : ℕ → Bool) (x0 : ℕ) (us : List Bool) (x : ℕ) → x < length us → may_be_from p x0 (slice_set us x true) ≡ (may_be_from p x0 us || p (x0 + x))
may_more p x0 [] x lt = absurd (omega (arith, lt))
may_more p x0 (u ∷ us) zero lt = by u (p x0) (may_be_from p (x0 + 1) us) ∙ ap (λ (i : ℕ). ((u && p x0) || may_be_from p (x0 + 1) us) || p i) (let e : x0 ≡ x0 + 0 = omega arith in e)
  where
    by : (u a r : Bool) → ((true && a) || r) ≡ (((u && a) || r) || a)
    by true true r = refl
    by true false true = refl
    by true false false = refl
    by false true true = refl
    by false true false = refl
    by false false true = refl
    by false false false = refl
may_more p x0 (u ∷ us) (suc x) lt =
    ap (λ (b : Bool). (u && p x0) || b) (may_more p (x0 + 1) us x (omega (arith, lt)))
    ∙ (sym (or_assoc (u && p x0) (may_be_from p (x0 + 1) us) (p ((x0 + 1) + x)))
    ∙ ap (λ (i : ℕ). ((u && p x0) || may_be_from p (x0 + 1) us) || p i) (let e : (x0 + 1) + x ≡ x0 + suc x = omega arith in e))

-- of the clusters that are left
pub may_on : (p : ℕ → Bool) (us : List Bool) (x : ℕ) → x < length us → (slice_index_or us x false && p x) ≡ false → may_be_from p x (drop x us) ≡ may_be_from p (x + 1) (drop (x + 1) us)
may_on p us x lt fails = ap (may_be_from p x) (drop_more us x false lt) ∙ ap (λ (b : Bool). b || may_be_from p (x + 1) (drop (x + 1) us)) fails

pub may_here : (p : ℕ → Bool) (us : List Bool) (x : ℕ) → x < length us → (slice_index_or us x false && p x) ≡ true → may_be_from p x (drop x us) ≡ true
may_here p us x lt holds = ap (may_be_from p x) (drop_more us x false lt) ∙ ap (λ (b : Bool). b || may_be_from p (x + 1) (drop (x + 1) us)) holds

none_left : (p : ℕ → Bool) (n : ℕ) (us : List Bool) (x : ℕ) → length us ≤ x → may_be_from p n (drop x us) ≡ false
none_left p n [] zero le = refl
none_left p n [] (suc x) le = refl
none_left p n (u ∷ us) zero le = absurd (omega (arith, le))
none_left p n (u ∷ us) (suc x) le = none_left p n us x (omega (arith, le))

pub may_end : (p : ℕ → Bool) (us : List Bool) (x : ℕ) → length us ≤ x → may_be_from p x (drop x us) ≡ false
may_end p us x le = none_left p x us x le

pub unsure_sub : (s : Setup) (o : Observation) (t x : ℕ) (ls : List Said) (d : SubDealt) → x < length d.unsure
    → TellsSub s o t ls d → TellsSub s o t (ls ++ said.Unsure t x d.name ∷ []) (record { name = d.name; messages = d.messages; below = d.below; unsure = slice_set d.unsure x true })
unsure_sub s o t x ls d lt h = record {
  messages = λ g. h.messages g ∙ sym (settled_more s o t d.name g ls (said.Unsure t x d.name) ∙ or_none (list_any (same_ident g) (all_settled s o t d.name ls)));
  unsure = λ g.
      may_more (is_away s o t g) 0 d.unsure x lt
      ∙ (ap (λ (b : Bool). b || is_away s o t g (0 + x)) (h.unsure g)
      ∙ (ap (λ (b : Bool). list_any (is_unsure s o t d.name g) ls || b) (own g)
      ∙ sym (unsure_more s o t d.name g ls (said.Unsure t x d.name))));
  below = h.below;
}
  where
    own : (g : Ident) → is_away s o t g (0 + x) ≡ is_unsure s o t d.name g (said.Unsure t x d.name)
    own g = let e : 0 + x ≡ x = omega arith in ap (is_away s o t g) e ∙ rw (eq_itself t, bytes_eq_itself d.name) refl

-- ---- in the table

pub done_told : (s : Setup) (o : Observation) (t : ℕ) (ls : List Said) (i : Ident) (c : ℕ) (rows : List SlotRow) (subs : List SubDealt) (n : List ℕ) (k : ℕ) (d' : SubDealt)
    → FindsNames c rows subs → slot_in n rows ≡ Some k → Keeps (dealt_at subs k) d' → d'.messages ≡ insert_key is_identity (dealt_at subs k).messages (identity_of i)
    → TellsTopic s o t ls (record { clusters = c; numbers = rows; subs = subs }) → TellsTopic s o t (ls ++ said.Done t n i ∷ []) (record { clusters = c; numbers = rows; subs = slice_set subs k d' })
done_told s o t ls i c rows subs n k d' finds at keeps added h =
    let place = finds.at n k at in let d = dealt_at subs k in
    one_told s o t ls (said.Done t n i) c rows subs n k d' finds at (λ m other. done_no s o t n m i other)
    (subst (λ (m : List ℕ). TellsSub s o t (ls ++ said.Done t m i ∷ []) d') place.named (done_sub s o t ls i d d' keeps added (h.each k place.within))) h

pub below_told : (s : Setup) (o : Observation) (t x : ℕ) (ls : List Said) (i : ℕ) (c : ℕ) (rows : List SlotRow) (subs : List SubDealt) (n : List ℕ) (k : ℕ) (d' : SubDealt)
    → FindsNames c rows subs → slot_in n rows ≡ Some k → KeepsSize (dealt_at subs k) d'
    → (HoldsBelow (entries_seen s o t x) (slice_index (dealt_at subs k).below x) (dealt_at subs k) → IsDealtBelow x (entries_seen s o t x) i (dealt_at subs k) d')
    → TellsTopic s o t ls (record { clusters = c; numbers = rows; subs = subs }) → TellsTopic s o t (ls ++ said.Below t x n i ∷ []) (record { clusters = c; numbers = rows; subs = slice_set subs k d' })
below_told s o t x ls i c rows subs n k d' finds at keeps added h =
    let place = finds.at n k at in let d = dealt_at subs k in let tells = h.each k place.within in
    one_told s o t ls (said.Below t x n i) c rows subs n k d' finds at (λ m other. below_no s o t x n m i other)
    (subst (λ (m : List ℕ). TellsSub s o t (ls ++ said.Below t x m i ∷ []) d') place.named (below_sub s o t x ls i d d' keeps (added (tells.below x)) tells)) h

pub unsure_told : (s : Setup) (o : Observation) (t x : ℕ) (ls : List Said) (c : ℕ) (rows : List SlotRow) (subs : List SubDealt) (n : List ℕ) (k : ℕ)
    → FindsNames c rows subs → slot_in n rows ≡ Some k → x < c
    → TellsTopic s o t ls (record { clusters = c; numbers = rows; subs = subs })
    → TellsTopic s o t (ls ++ said.Unsure t x n ∷ []) (record { clusters = c; numbers = rows; subs = slice_set subs k (record { name = (dealt_at subs k).name; messages = (dealt_at subs k).messages; below = (dealt_at subs k).below; unsure = slice_set (dealt_at subs k).unsure x true }) })
unsure_told s o t x ls c rows subs n k finds at lt h =
    let place = finds.at n k at in let d = dealt_at subs k in let size = finds.unsure k place.within in
    one_told s o t ls (said.Unsure t x n) c rows subs n k (record { name = d.name; messages = d.messages; below = d.below; unsure = slice_set d.unsure x true }) finds at (λ m other. unsure_no s o t x n m other)
    (subst (λ (m : List ℕ). TellsSub s o t (ls ++ said.Unsure t x m ∷ []) (record { name = d.name; messages = d.messages; below = d.below; unsure = slice_set d.unsure x true })) place.named
    (unsure_sub s o t x ls d (omega (arith, lt, size)) (h.each k place.within))) h

-- a change keeps the names and the sizes
pub finds_with : (c : ℕ) (rows : List SlotRow) (subs : List SubDealt) (k : ℕ) (d' : SubDealt) → FindsNames c rows subs → KeepsSize (dealt_at subs k) d' → FindsNames c rows (slice_set subs k d')
finds_with c rows subs k d' h keeps = record {
  at = λ n j at. let old = h.at n j at in let within = old.within in record { within = omega (arith, size, within); named = at_place (λ e. e.name ≡ n) j within (λ e named. keeps.name ∙ (ap (λ (i : ℕ). (dealt_at subs i).name) (sym e) ∙ named)) old.named };
  own = λ j lt. at_place (λ e. slot_in e.name rows ≡ Some j) j (less lt) (λ is own. subst (λ (a : List ℕ). slot_in a rows ≡ Some j) (sym (keeps.name ∙ ap (λ (i : ℕ). (dealt_at subs i).name) (sym is))) own) (h.own j (less lt));
  below = λ j lt. at_place (λ e. length e.below ≡ c) j (less lt) (λ is own. keeps.below ∙ (ap (λ (i : ℕ). length (dealt_at subs i).below) (sym is) ∙ own)) (h.below j (less lt));
  unsure = λ j lt. at_place (λ e. length e.unsure ≡ c) j (less lt) (λ is own. ap (λ (b : List Bool). length b) keeps.unsure ∙ (ap (λ (i : ℕ). length (dealt_at subs i).unsure) (sym is) ∙ own)) (h.unsure j (less lt));
}
  where
    size : length (slice_set subs k d') ≡ length subs
    size = length-set subs k d'

    less : {j : ℕ} → j < length (slice_set subs k d') → j < length subs
    less lt = omega (arith, lt, size)

    at_place : (P : SubDealt → Type 0) (j : ℕ) → j < length subs → (j ≡ k → P (dealt_at subs j) → P d') → P (dealt_at subs j) → P (dealt_at (slice_set subs k d') j)
    at_place P j lt new old = elim (cases_eq j k) [
      | inl is ↦ subst P (sym (subst (λ (i : ℕ). dealt_at (slice_set subs k d') i ≡ d') (sym is) (get_or-set_same subs k d' no_dealt (omega (arith, lt, is))))) (new is old)
      | inr differ ↦ subst P (sym (get_or-set_other subs k j d' no_dealt differ)) old
    ]

-- ---- what is asked of the table

pub dealt_none : (s : Setup) (o : Observation) (t : ℕ) (n : List ℕ) (g : Ident) (v : SubsDealt) → TellsTopic s o t o.said v → slot_in n v.numbers ≡ None
    → (list_any (same_ident g) (all_settled s o t n o.said) || list_any (is_unsure s o t n g) o.said) ≡ false
dealt_none s o t n g v h none = let fails = h.none n none in rw (fails.settled g, fails.unsure g) refl

pub dealt_some : (s : Setup) (o : Observation) (t : ℕ) (n : List ℕ) (g : Ident) (v : SubsDealt) (k : ℕ) (k_has may : Bool) → TellsTopic s o t o.said v → FindsNames v.clusters v.numbers v.subs → slot_in n v.numbers ≡ Some k
    → k_has ≡ has_message (dealt_at v.subs k) g → may ≡ may_be s o t g (dealt_at v.subs k).unsure
    → (k_has || may) ≡ (list_any (same_ident g) (all_settled s o t n o.said) || list_any (is_unsure s o t n g) o.said)
dealt_some s o t n g v k k_has may h finds at has_is may_is =
    let place = finds.at n k at in let tells = h.each k place.within in
    ap (λ (b : Bool). b || may) (has_is ∙ (tells.messages g ∙ ap (λ (a : List ℕ). list_any (same_ident g) (all_settled s o t a o.said)) place.named))
    ∙ ap (λ (b : Bool). list_any (same_ident g) (all_settled s o t n o.said) || b) (may_is ∙ (tells.unsure g ∙ ap (λ (a : List ℕ). list_any (is_unsure s o t a g) o.said) place.named))

-- a change that keeps the name and the sizes
pub finds_sized : (c : ℕ) (rows : List SlotRow) (subs : List SubDealt) (k : ℕ) (d' : SubDealt) → FindsNames c rows subs → d'.name ≡ (dealt_at subs k).name → length d'.below ≡ length (dealt_at subs k).below
    → length d'.unsure ≡ length (dealt_at subs k).unsure → FindsNames c rows (slice_set subs k d')
finds_sized c rows subs k d' h name below unsure = record {
  at = λ n j at. let old = h.at n j at in let within = old.within in record { within = omega (arith, size, within); named = at_place (λ e. e.name ≡ n) j within (λ e named. name ∙ (ap (λ (i : ℕ). (dealt_at subs i).name) (sym e) ∙ named)) old.named };
  own = λ j lt. at_place (λ e. slot_in e.name rows ≡ Some j) j (less lt) (λ is own. subst (λ (a : List ℕ). slot_in a rows ≡ Some j) (sym (name ∙ ap (λ (i : ℕ). (dealt_at subs i).name) (sym is))) own) (h.own j (less lt));
  below = λ j lt. at_place (λ e. length e.below ≡ c) j (less lt) (λ is own. below ∙ (ap (λ (i : ℕ). length (dealt_at subs i).below) (sym is) ∙ own)) (h.below j (less lt));
  unsure = λ j lt. at_place (λ e. length e.unsure ≡ c) j (less lt) (λ is own. unsure ∙ (ap (λ (i : ℕ). length (dealt_at subs i).unsure) (sym is) ∙ own)) (h.unsure j (less lt));
}
  where
    size : length (slice_set subs k d') ≡ length subs
    size = length-set subs k d'

    less : {j : ℕ} → j < length (slice_set subs k d') → j < length subs
    less lt = omega (arith, lt, size)

    at_place : (P : SubDealt → Type 0) (j : ℕ) → j < length subs → (j ≡ k → P (dealt_at subs j) → P d') → P (dealt_at subs j) → P (dealt_at (slice_set subs k d') j)
    at_place P j lt new old = elim (cases_eq j k) [
      | inl is ↦ subst P (sym (subst (λ (i : ℕ). dealt_at (slice_set subs k d') i ≡ d') (sym is) (get_or-set_same subs k d' no_dealt (omega (arith, lt, is))))) (new is old)
      | inr differ ↦ subst P (sym (get_or-set_other subs k j d' no_dealt differ)) old
    ]
