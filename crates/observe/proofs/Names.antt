-- The table of names, also when there is one more.
use Rattle.std.proofs.Common.{◌≡◌, ℕ, zero, suc, ◌+◌, ◌<◌, Bool, true, false, List, [], ◌∷◌, ◌++◌, length, inl, inr, ◌⊎◌, refl, sym, ap, subst, ◌∙◌, arith}
use Rattle.std.specs.Prelude.{Some, None, String, string_bytes, replicate, slice_index, if◌then◌else◌}
use Rattle.std.specs.List.{list_any}
use Rattle.std.specs.Str.{bytes_eq}
use Rattle.std.specs.declared.alloc.Global.{Global}
use Rattle.std.proofs.lemmas.Bool.{false≢true}
use Rattle.std.proofs.lemmas.List.{length-replicate}
use Rattle.std.proofs.lemmas.Option.{none-some}
use Rattle.std.proofs.lemmas.Slice.Eq.{bytes_eq-Decides}
use Rattle.geo_base.proofs.Lists.{bytes_eq_itself, length_push}
use Rattle.geo_base.proofs.Results.{some_number}
use Rattle.geo_base.specs.Entry.{same_ident}
use Rattle.geo_base.specs.Settled.{first_indexes, messages_at}
use Rattle.geo_base.specs.Setup.{Setup}
use Rattle.audit.specs.Subs.{SlotRow, slot_in}
use Rattle.audit.proofs.SlotRows.{slot_noted}
use Rattle.std.specs.String.{string_eq}
use Rattle.indexmap.specs.IndexMap.{insert_entry}
use Rattle.observation.specs.declared.said.Said.{Said}
use Rattle.observation.specs.Observed.{Observation, entries_seen}
use Rattle.observe.specs.Dealt.{FindsNames, IsNamedAt, SaysNothing, SubDealt, TellsSub, TellsTopic, dealt_at, is_away, may_be_from}

pub finds_none : (c : ℕ) → FindsNames c [] []
finds_none c = record {
  at = λ n k h. absurd (none-some k h);
  own = λ k lt. absurd (omega (arith, lt));
  below = λ k lt. absurd (omega (arith, lt));
  unsure = λ k lt. absurd (omega (arith, lt));
}

pub tells_nothing : (s : Setup) (o : Observation) (t c : ℕ) → TellsTopic s o t [] (record { clusters = c; numbers = []; subs = [] })
tells_nothing s o t c = record {
  none = λ n h. record { settled = λ g. refl; unsure = λ g. refl };
  each = λ k lt. absurd (omega (arith, lt));
}

pub named_there : (c : ℕ) (rows : List SlotRow) (subs : List SubDealt) (n : List ℕ) (k : ℕ) → FindsNames c rows subs → slot_in n rows ≡ Some k → k < length subs
named_there c rows subs n k h at = (h.at n k at).within

-- ---- a new one

abbrev fresh : ℕ → List ℕ → SubDealt
fresh c n = record { name = n; messages = []; below = replicate c 0; unsure = replicate c false }

at_old : (subs : List SubDealt) (d : SubDealt) (k : ℕ) → k < length subs → dealt_at (subs ++ d ∷ []) k ≡ dealt_at subs k
at_old [] d k lt = absurd (omega (arith, lt))
at_old (a ∷ subs) d zero lt = refl
at_old (a ∷ subs) d (suc k) lt = at_old subs d k (omega (arith, lt))

at_new : (subs : List SubDealt) (d : SubDealt) (k : ℕ) → k ≡ length subs → dealt_at (subs ++ d ∷ []) k ≡ d
at_new [] d zero is = refl
at_new [] d (suc k) is = absurd (omega (arith, is))
at_new (a ∷ subs) d zero is = absurd (omega (arith, is))
at_new (a ∷ subs) d (suc k) is = at_new subs d k (omega (arith, is))

old_or_new : (subs : List SubDealt) (d : SubDealt) (k : ℕ) → k < length (subs ++ d ∷ []) → (k < length subs) ⊎ (k ≡ length subs)
old_or_new [] d zero lt = inr refl
old_or_new [] d (suc k) lt = absurd (omega (arith, lt))
old_or_new (a ∷ subs) d zero lt = inl (omega arith)
old_or_new (a ∷ subs) d (suc k) lt = elim (old_or_new subs d k (omega (arith, lt))) [ inl h ↦ inl (omega (arith, h)) | inr h ↦ inr (omega (arith, h)) ]

-- a fact of each old one and of the new one is one of all
for_all : (P : ℕ → SubDealt → Type 0) (subs : List SubDealt) (d : SubDealt) → ((k : ℕ) → k < length subs → P k (dealt_at subs k)) → P (length subs) d → (k : ℕ) → k < length (subs ++ d ∷ []) → P k (dealt_at (subs ++ d ∷ []) k)
for_all P subs d old new k lt = elim (old_or_new subs d k lt) [
  | inl h ↦ subst (P k) (sym (at_old subs d k h)) (old k h)
  | inr h ↦ subst (P k) (sym (at_new subs d k h)) (subst (λ (j : ℕ). P j d) (sym h) new)
]

other_name : (rows : List SlotRow) (t : String Global) (k : ℕ) (n : List ℕ) → bytes_eq n (string_bytes t) ≡ false → slot_in n (insert_entry string_eq rows t k) ≡ slot_in n rows
other_name rows t k n is = slot_noted rows t k n ∙ ap (λ (b : Bool). if b then Some k else slot_in n rows) is

own_name : (rows : List SlotRow) (t : String Global) (k : ℕ) (n : List ℕ) → bytes_eq n (string_bytes t) ≡ true → slot_in n (insert_entry string_eq rows t k) ≡ Some k
own_name rows t k n is = slot_noted rows t k n ∙ ap (λ (b : Bool). if b then Some k else slot_in n rows) is

pub named_more : (rows : List SlotRow) (t : String Global) (k : ℕ) (n : List ℕ) → string_bytes t ≡ n → slot_in n (insert_entry string_eq rows t k) ≡ Some k
named_more rows t k n is = own_name rows t k n (subst (λ (m : List ℕ). bytes_eq n m ≡ true) (sym is) (bytes_eq_itself n))

-- a name that was not there is another one
apart_from : (rows : List SlotRow) (n m : List ℕ) (k : ℕ) → slot_in n rows ≡ None → slot_in m rows ≡ Some k → (b : Bool) → bytes_eq m n ≡ b → b ≡ false
apart_from rows n m k none some false is = refl
apart_from rows n m k none some true is =
    let same : m ≡ n = (bytes_eq-Decides m n).0 is in absurd (none-some k (sym none ∙ (ap (λ (a : List ℕ). slot_in a rows) (sym same) ∙ some)))

pub finds_more : (c : ℕ) (rows : List SlotRow) (subs : List SubDealt) (t : String Global) (n : List ℕ) (d : SubDealt) → FindsNames c rows subs → slot_in n rows ≡ None → string_bytes t ≡ n
    → d ≡ record { name = n; messages = []; below = replicate c 0; unsure = replicate c false }
    → FindsNames c (insert_entry string_eq rows t (length subs)) (subs ++ d ∷ [])
finds_more c rows subs t n d h none is fresh_is = record {
  at = λ m k at. found m k (bytes_eq m (string_bytes t)) refl at;
  own =
      for_all (λ k e. slot_in e.name (insert_entry string_eq rows t (length subs)) ≡ Some k) subs d
      (λ k lt. old_own k lt) (named_more rows t (length subs) d.name (is ∙ sym (ap (λ (e : SubDealt). e.name) fresh_is)));
  below = for_all (λ k e. length e.below ≡ c) subs d h.below (ap (λ (e : SubDealt). length e.below) fresh_is ∙ length-replicate c 0);
  unsure = for_all (λ k e. length e.unsure ≡ c) subs d h.unsure (ap (λ (e : SubDealt). length e.unsure) fresh_is ∙ length-replicate c false);
}
  where
    size : length (subs ++ d ∷ []) ≡ length subs + 1
    size = length_push subs d

    old_own : (k : ℕ) → k < length subs → slot_in (dealt_at subs k).name (insert_entry string_eq rows t (length subs)) ≡ Some k
    old_own k lt =
        let m = (dealt_at subs k).name in
        let other : bytes_eq m (string_bytes t) ≡ false =
        subst (λ (a : List ℕ). bytes_eq m a ≡ false) (sym is) (apart_from rows n m k none (h.own k lt) (bytes_eq m n) refl) in
        other_name rows t (length subs) m other ∙ h.own k lt

    found : (m : List ℕ) (k : ℕ) (b : Bool) → bytes_eq m (string_bytes t) ≡ b → slot_in m (insert_entry string_eq rows t (length subs)) ≡ Some k → IsNamedAt m (subs ++ d ∷ []) k
    found m k true same at =
        let name : m ≡ n = (bytes_eq-Decides m (string_bytes t)).0 same ∙ is in
        let place : length subs ≡ k = some_number (length subs) k (sym (own_name rows t (length subs) m same) ∙ at) in
        record {
          within = omega (arith, size, place);
          named = ap (λ (e : SubDealt). e.name) (at_new subs d k (sym place) ∙ fresh_is) ∙ sym name;
        }
    found m k false other at =
        let old = h.at m k (sym (other_name rows t (length subs) m other) ∙ at) in let within = old.within in
        record { within = omega (arith, size, within); named = ap (λ (e : SubDealt). e.name) (at_old subs d k within) ∙ old.named }

-- nobody is sure of nothing
never : (p : ℕ → Bool) (x c : ℕ) → may_be_from p x (replicate c false) ≡ false
never p x zero = refl
never p x (suc c) = never p (x + 1) c

zero_at : (c k : ℕ) → slice_index (replicate c 0) k ≡ 0
zero_at zero k = refl
zero_at (suc c) zero = refl
zero_at (suc c) (suc k) = zero_at c k

fresh_tells : (s : Setup) (o : Observation) (t c : ℕ) (n : List ℕ) (ls : List Said) → SaysNothing s o t n ls → TellsSub s o t ls (fresh c n)
fresh_tells s o t c n ls h = record {
  messages = λ g. sym (h.settled g);
  unsure = λ g. never (is_away s o t g) 0 c ∙ sym (h.unsure g);
  below = λ x g at. absurd (false≢true (subst (λ (k : ℕ). list_any (same_ident g) (messages_at (entries_seen s o t x) (first_indexes k)) ≡ true) (zero_at c x) at));
}

pub tells_more : (s : Setup) (o : Observation) (t c : ℕ) (ls : List Said) (rows : List SlotRow) (subs : List SubDealt) (key : String Global) (n : List ℕ) (d : SubDealt)
    → TellsTopic s o t ls (record { clusters = c; numbers = rows; subs = subs }) → slot_in n rows ≡ None → string_bytes key ≡ n
    → d ≡ record { name = n; messages = []; below = replicate c 0; unsure = replicate c false }
    → TellsTopic s o t ls (record { clusters = c; numbers = insert_entry string_eq rows key (length subs); subs = subs ++ d ∷ [] })
tells_more s o t c ls rows subs key n d h none is fresh_is = record {
  none = λ m fails. h.none m (was m (bytes_eq m (string_bytes key)) refl fails);
  each = for_all (λ k e. TellsSub s o t ls e) subs d h.each (subst (TellsSub s o t ls) (sym fresh_is) (fresh_tells s o t c n ls (h.none n none)));
}
  where
    was : (m : List ℕ) (b : Bool) → bytes_eq m (string_bytes key) ≡ b → slot_in m (insert_entry string_eq rows key (length subs)) ≡ None → slot_in m rows ≡ None
    was m true same fails = absurd (none-some (length subs) (sym fails ∙ own_name rows key (length subs) m same))
    was m false other fails = sym (other_name rows key (length subs) m other) ∙ fails
