-- The names of a topic's subscriptions: each stands once, and a line adds the one that it names.
use Rattle.std.proofs.Common.{◌≡◌, ℕ, zero, suc, ◌+◌, ◌<◌, ◌≤◌, ◌==◌, Bool, true, false, ◌&&◌, ◌||◌, List, [], ◌∷◌, ◌++◌, length, fold, get_or, None, inl, inr, arith, refl, sym, ap, subst, ◌∙◌}
use Rattle.std.specs.Cmp.{IsEquivalence}
use Rattle.std.specs.List.{IsDistinct, list_any, slice_set}
use Rattle.std.specs.Str.{bytes_eq}
use Rattle.std.proofs.Math.Bool.{or-false}
use Rattle.std.proofs.lemmas.Bool.{and_parts, cases_Bool, cond_both, both_ways, eqb-true, false_from_ne_true, or_cases, or_left, or_right}
use Rattle.std.proofs.lemmas.List.{length_push}
use Rattle.std.proofs.lemmas.List.Folds.{list_any-append}
use Rattle.std.proofs.lemmas.List.Sums.{fold-append}
use Rattle.std.proofs.lemmas.Map.Keys.{IsDistinct-from_apart, IsDistinct-push}
use Rattle.std.proofs.lemmas.Map.Made.{length-le_from_is_member}
use Rattle.std.proofs.lemmas.Slice.Eq.{bytes_eq-Decides}
use Rattle.geo_base.specs.declared.client.Line.{Line}
use Rattle.geo_base.specs.declared.client.Line.TheVariants as line
use Rattle.geo_base.specs.declared.frame.SubKind.{SubKind}
use Rattle.geo_base.specs.Setup.{Declared, Setup, declared_at, nobody, sub_names, with_client, with_line, with_name}
use Rattle.script_rows.specs.NameBytes.{is_among}
use Rattle.script_text.specs.Subs.{is_named_by, is_sub_of, same_name, sub_in}
use Rattle.script_rows.specs.NameWords.{Word}
use Rattle.geo_base.proofs.Bools.{or_assoc}
pub use Rattle.geo_base.proofs.Bools.{and_with_false as cases_named}

-- ---- tests

or_swap : (a b c : Bool) → ((a || b) || c) ≡ ((a || c) || b)
or_swap true b c = refl
or_swap false true true = refl
or_swap false true false = refl
or_swap false false true = refl
or_swap false false false = refl

and_or : (t a b : Bool) → (t && (a || b)) ≡ ((t && a) || (t && b))
and_or true a b = refl
and_or false a b = refl

name_symm : (x y : Word) → same_name x y ≡ same_name y x
name_symm x y =
    elim (cases_Bool (bytes_eq y x)) [
      | inl same ↦
          let is : y ≡ x = (bytes_eq-Decides y x).0 same in
          same ∙ sym ((bytes_eq-Decides x y).1 (sym is))
      | inr apart ↦
          apart ∙ sym (false_from_ne_true (bytes_eq x y) (λ same. both_ways (bytes_eq y x) apart ((bytes_eq-Decides y x).1 (sym ((bytes_eq-Decides x y).0 same)))))
    ]

pub name_laws : IsEquivalence same_name
name_laws = record {
  refl = λ x. (bytes_eq-Decides x x).1 refl;
  symm = name_symm;
  congr = λ x y z same. ap (λ (v : Word). same_name v z) (sym ((bytes_eq-Decides y x).0 same));
}

-- ---- members
-- a name that is there already adds nothing
pub among_again : (names : List Word) (n q : Word) → is_among names n ≡ true → is_among names q ≡ (is_among names q || bytes_eq n q)
among_again names n q there =
    elim (cases_Bool (bytes_eq n q)) [
      | inl same ↦
          let is : is_among names q ≡ true = subst (λ (v : Word). is_among names v ≡ true) ((bytes_eq-Decides n q).0 same) there in
          is ∙ sym (or_left (is_among names q) (bytes_eq n q) is)
      | inr apart ↦ rw apart (sym (or-false (is_among names q)))
    ]

pub among_pushed : (names : List Word) (n q : Word) → is_among (names ++ n ∷ []) q ≡ (is_among names q || bytes_eq n q)
among_pushed names n q =
    list_any-append (λ m. bytes_eq m q) names (n ∷ []) ∙ ap (λ (b : Bool). is_among names q || b) (or-false (bytes_eq n q))

among_name : (names : List Word) (n q : Word) → is_among (with_name names n) q ≡ (is_among names q || bytes_eq n q)
among_name names n q =
    cond_both (is_among names n) names (names ++ n ∷ []) (λ (ns : List Word). is_among ns q ≡ (is_among names q || bytes_eq n q)) (among_again names n q) (λ _. among_pushed names n q)

among_line : (names : List Word) (l : Line) (q : Word) → is_among (with_line names l) q ≡ (is_among names q || is_sub_of q l)
among_line names (line.Sub n kind earliest replicated) q = among_name names n q
among_line names l q = sym (or-false (is_among names q))

among_lines : (names : List Word) (ls : List Line) (q : Word) → is_among (fold with_line names ls) q ≡ (is_among names q || list_any (is_sub_of q) ls)
among_lines names [] q = sym (or-false (is_among names q))
among_lines names (l ∷ ls) q =
    among_lines (with_line names l) ls q ∙ (ap (λ (b : Bool). b || list_any (is_sub_of q) ls) (among_line names l q) ∙ or_assoc (is_among names q) (is_sub_of q l) (list_any (is_sub_of q) ls))

among_client : (t : ℕ) (names : List Word) (d : Declared) (q : Word) → is_among (with_client t names d) q ≡ (is_among names q || is_named_by t q d)
among_client t names d q =
    cond_both (d.topic == t) (fold with_line names d.lines) names (λ (ns : List Word). is_among ns q ≡ (is_among names q || is_named_by t q d)) (λ here. rw here (among_lines names d.lines q)) (λ other. rw other (sym (or-false (is_among names q))))

among_clients : (t : ℕ) (names : List Word) (ds : List Declared) (q : Word) → is_among (fold (with_client t) names ds) q ≡ (is_among names q || list_any (is_named_by t q) ds)
among_clients t names [] q = sym (or-false (is_among names q))
among_clients t names (d ∷ ds) q =
    among_clients t (with_client t names d) ds q ∙ (ap (λ (b : Bool). b || list_any (is_named_by t q) ds) (among_client t names d q) ∙ or_assoc (is_among names q) (is_named_by t q d) (list_any (is_named_by t q) ds))

-- a name is a subscription's where a client of the topic has a `sub` line of it
pub among_subs : (s : Setup) (t : ℕ) (q : Word) → is_among (sub_names s t) q ≡ list_any (is_named_by t q) s.clients
among_subs s t q = among_clients t [] s.clients q

-- ---- each once
distinct_name : (names : List Word) (n : Word) → IsDistinct same_name names → IsDistinct same_name (with_name names n)
distinct_name names n d =
    cond_both (is_among names n) names (names ++ n ∷ []) (IsDistinct same_name) (λ _. d) (λ new. IsDistinct-push name_laws names n d new)

distinct_line : (names : List Word) (l : Line) → IsDistinct same_name names → IsDistinct same_name (with_line names l)
distinct_line names (line.Sub n kind earliest replicated) d = distinct_name names n d
distinct_line names l d = d

distinct_lines : (names : List Word) (ls : List Line) → IsDistinct same_name names → IsDistinct same_name (fold with_line names ls)
distinct_lines names [] d = d
distinct_lines names (l ∷ ls) d = distinct_lines (with_line names l) ls (distinct_line names l d)

distinct_clients : (t : ℕ) (names : List Word) (ds : List Declared) → IsDistinct same_name names → IsDistinct same_name (fold (with_client t) names ds)
distinct_clients t names [] d = d
distinct_clients t names (e ∷ ds) d =
    distinct_clients t (with_client t names e) ds (cond_both (e.topic == t) (fold with_line names e.lines) names (IsDistinct same_name) (λ _. distinct_lines names e.lines d) (λ _. d))

pub none_distinct : IsDistinct same_name []
none_distinct = IsDistinct-from_apart same_name [] (λ i j d before within. absurd (omega arith))

pub subs_distinct : (s : Setup) (t : ℕ) → IsDistinct same_name (sub_names s t)
subs_distinct s t = distinct_clients t [] s.clients none_distinct

-- ---- one more client, and one more line
any_set : {X : Type 0} (p : X → Bool) (xs : List X) (i : ℕ) (y d : X) (b : Bool) → i < length xs → p y ≡ (p (get_or xs i d) || b) → list_any p (slice_set xs i y) ≡ (list_any p xs || b)
any_set p [] i y d b within is = absurd (omega arith)
any_set p (x ∷ xs) zero y d b within is =
    ap (λ (c : Bool). c || list_any p xs) is ∙ or_swap (p x) b (list_any p xs)
any_set p (x ∷ xs) (suc i) y d b within is =
    ap (λ (c : Bool). p x || c) (any_set p xs i y d b (omega arith) is) ∙ sym (or_assoc (p x) (list_any p xs) b)

-- a client without lines names nothing
pub subs_pushed : (s : Setup) (d : Declared) (t : ℕ) (q : Word) → d.lines ≡ [] → list_any (is_named_by t q) (s.clients ++ d ∷ []) ≡ list_any (is_named_by t q) s.clients
subs_pushed s d t q none =
    let nothing : is_named_by t q d ≡ false = rw none (cases_named (d.topic == t)) in
    list_any-append (is_named_by t q) s.clients (d ∷ []) ∙ (ap (λ (b : Bool). list_any (is_named_by t q) s.clients || (b || false)) nothing ∙ or-false (list_any (is_named_by t q) s.clients))

named_after : (t : ℕ) (q : Word) (d : Declared) (l : Line) → is_named_by t q (record d { lines = d.lines ++ l ∷ [] }) ≡ (is_named_by t q d || ((d.topic == t) && is_sub_of q l))
named_after t q d l =
    ap (λ (b : Bool). (d.topic == t) && b) (list_any-append (is_sub_of q) d.lines (l ∷ []) ∙ ap (λ (b : Bool). list_any (is_sub_of q) d.lines || b) (or-false (is_sub_of q l))) ∙ and_or (d.topic == t) (list_any (is_sub_of q) d.lines) (is_sub_of q l)

pub subs_after : (s : Setup) (c : ℕ) (l : Line) (t : ℕ) (q : Word) → c < length s.clients → list_any (is_named_by t q) (slice_set s.clients c (record (declared_at s c) { lines = (declared_at s c).lines ++ l ∷ [] })) ≡ (list_any (is_named_by t q) s.clients || (((declared_at s c).topic == t) && is_sub_of q l))
subs_after s c l t q within =
    any_set (is_named_by t q) s.clients c (record (declared_at s c) { lines = (declared_at s c).lines ++ l ∷ [] }) nobody (((declared_at s c).topic == t) && is_sub_of q l) within (named_after t q (declared_at s c) l)

-- ---- how many there are
-- a client without lines adds no subscription
pub subs_of_pushed : (s : Setup) (d : Declared) (t : ℕ) → d.lines ≡ [] → sub_names (record s { clients = s.clients ++ d ∷ [] }) t ≡ sub_names s t
subs_of_pushed s d t none =
    fold-append (with_client t) [] s.clients (d ∷ []) ∙ cond_both (d.topic == t) (fold with_line (sub_names s t) d.lines) (sub_names s t) (λ (ns : List Word). ns ≡ sub_names s t) (λ _. rw none refl) (λ _. refl)

abbrev pub lined : Setup → ℕ → Line → Setup
lined s c l = record s { clients = slice_set s.clients c (record (declared_at s c) { lines = (declared_at s c).lines ++ l ∷ [] }) }

pub among_after : (s : Setup) (c : ℕ) (l : Line) (t : ℕ) (q : Word) → c < length s.clients → is_among (sub_names (lined s c l) t) q ≡ (is_among (sub_names s t) q || (((declared_at s c).topic == t) && is_sub_of q l))
among_after s c l t q within =
    among_subs (lined s c l) t q ∙ (subs_after s c l t q within ∙ ap (λ (b : Bool). b || (((declared_at s c).topic == t) && is_sub_of q l)) (sym (among_subs s t q)))

-- a line that names nothing leaves the names as they were
pub names_nothing : (q : Word) (l : Line) → sub_in l ≡ None → is_sub_of q l ≡ false
names_nothing q l none = rw none refl

pub few_kept : (s : Setup) (c : ℕ) (l : Line) (t : ℕ) → c < length s.clients → sub_in l ≡ None → length (sub_names s t) ≤ 32 → length (sub_names (lined s c l) t) ≤ 32
few_kept s c l t within none few =
    let at = (declared_at s c).topic == t in
    let same : (q : Word) → is_among (sub_names (lined s c l) t) q ≡ true → is_among (sub_names s t) q ≡ true = λ q there. sym (among_after s c l t q within ∙ (ap (λ (b : Bool). is_among (sub_names s t) q || (at && b)) (names_nothing q l none) ∙ (ap (λ (b : Bool). is_among (sub_names s t) q || b) (cases_named at) ∙ or-false (is_among (sub_names s t) q)))) ∙ there in
    let fewer = length-le_from_is_member name_laws (sub_names (lined s c l) t) (sub_names s t) (subs_distinct (lined s c l) t) same in
    omega (arith, fewer)

-- at most one more
one_more : (s : Setup) (c : ℕ) (l : Line) (sub : Word) (t : ℕ) → c < length s.clients → ((q : Word) → is_sub_of q l ≡ bytes_eq sub q) → length (sub_names (lined s c l) t) ≤ length (sub_names s t) + 1
one_more s c l sub t within is =
    let at = (declared_at s c).topic == t in
    let there : (q : Word) → is_among (sub_names (lined s c l) t) q ≡ true → is_among (sub_names s t ++ sub ∷ []) q ≡ true = λ q e.
    among_pushed (sub_names s t) sub q ∙ elim (or_cases (is_among (sub_names s t) q) (at && is_sub_of q l) (sym (among_after s c l t q within) ∙ e)) [
      | inl old ↦ or_left (is_among (sub_names s t) q) (bytes_eq sub q) old
      | inr new ↦ or_right (is_among (sub_names s t) q) (bytes_eq sub q) (sym (is q) ∙ (and_parts at (is_sub_of q l) new).1)
    ] in
    let fewer = length-le_from_is_member name_laws (sub_names (lined s c l) t) (sub_names s t ++ sub ∷ []) (subs_distinct (lined s c l) t) there in
    omega (arith, fewer, length_push (sub_names s t) sub)

-- none more, where it is there or is another topic's
none_more : (s : Setup) (c : ℕ) (l : Line) (sub : Word) (t : ℕ) → c < length s.clients → ((q : Word) → is_sub_of q l ≡ bytes_eq sub q) → ((((declared_at s c).topic == t) ≡ true) → is_among (sub_names s t) sub ≡ true) → length (sub_names (lined s c l) t) ≤ length (sub_names s t)
none_more s c l sub t within is old =
    let at = (declared_at s c).topic == t in
    let there : (q : Word) → is_among (sub_names (lined s c l) t) q ≡ true → is_among (sub_names s t) q ≡ true = λ q e.
    elim (or_cases (is_among (sub_names s t) q) (at && is_sub_of q l) (sym (among_after s c l t q within) ∙ e)) [
      | inl had ↦ had
      | inr new ↦
          let parts = and_parts at (is_sub_of q l) new in
          subst (λ (v : Word). is_among (sub_names s t) v ≡ true) ((bytes_eq-Decides sub q).0 (sym (is q) ∙ parts.1)) (old parts.0)
    ] in
    length-le_from_is_member name_laws (sub_names (lined s c l) t) (sub_names s t) (subs_distinct (lined s c l) t) there

pub few_with_sub : (s : Setup) (c : ℕ) (sub : Word) (kind : SubKind) (earliest replicated : Bool) (t : ℕ) → c < length s.clients → (is_among (sub_names s (declared_at s c).topic) sub ≡ false → length (sub_names s (declared_at s c).topic) < 32) → length (sub_names s t) ≤ 32 → length (sub_names (lined s c (line.Sub sub kind earliest replicated)) t) ≤ 32
few_with_sub s c sub kind earliest replicated t within room few =
    let l = line.Sub sub kind earliest replicated in
    elim (cases_Bool ((declared_at s c).topic == t)) [
      | inl here ↦
          let is : (declared_at s c).topic ≡ t = eqb-true _ _ here in
          elim (cases_Bool (is_among (sub_names s t) sub)) [
            | inl there ↦ omega (arith, none_more s c l sub t within (λ q. refl) (λ _. there))
            | inr new ↦
                let less : length (sub_names s t) < 32 = subst (λ (u : ℕ). is_among (sub_names s u) sub ≡ false → length (sub_names s u) < 32) is room new in
                omega (arith, less, one_more s c l sub t within (λ q. refl))
          ]
      | inr other ↦ omega (arith, none_more s c l sub t within (λ q. refl) (λ same. absurd (both_ways _ other same)))
    ]
