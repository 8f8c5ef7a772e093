-- How far a topic has come with the entries of another cluster, told entry by entry of both topics.
use Rattle.std.proofs.Common.{◌≡◌, ℕ, zero, suc, ◌+◌, ◌<◌, ◌≤◌, ◌==◌, Bool, true, false, cond, List, [], ◌∷◌, ◌++◌, length, filter, get_or, take, replicate, refl, sym, ap, subst, ◌∙◌, arith}
use Rattle.std.specs.Prelude.{Option, Some, None, if◌then◌else◌, slice_get, slice_index_or, slice_set}
use Rattle.std.proofs.lemmas.List.{length-replicate}
use Rattle.std.proofs.lemmas.List.Filters.{length-filter_more}
use Rattle.std.proofs.lemmas.Option.{none-some, same_Some, slice_get_within}
use Rattle.std.proofs.Math.Seq.{take-length}
use Rattle.geo_base.specs.declared.entry.Entry.{Entry}
use Rattle.geo_base.specs.Entry.{is_outbound}
use Rattle.geo_base.specs.Laws.{of_origin, outbound}
use Rattle.geo_base.specs.Mirror.{Mirror, no_mirror}
use Rattle.audit.specs.Brought.{AreAllBrought, AreBrought, AreBroughtTo, BroughtHere, HasNoneFrom, IsFirstFrom}
use Rattle.audit.specs.Covers.{entries_of}
use Rattle.audit.specs.Stored.{is_same_at}
use Rattle.audit.specs.declared.brought.Route.{Route}
use Rattle.audit.proofs.EntryAcks.{some_at}
use Rattle.audit.proofs.Needing.{AllGrown, Grown, get_none, length_both, lists_length, set_entries, set_length, set_list, take_less}

abbrev pub goes : Route → Entry → Bool
goes r = is_outbound r.origin r.own

abbrev pub is_of : ℕ → Entry → Bool
is_of z e = e.ident.origin == z

-- ---- counts

counted : (p : Entry → Bool) (es : List Entry) (i : ℕ) (e : Entry) → slice_get es i ≡ Some e → length (filter p (take (i + 1) es)) ≡ length (filter p (take i es)) + cond (p e) 1 0
counted p es i e at =
    let lt : i < length es = slice_get_within es i e at in
    let is : get_or es i e ≡ e = same_Some (get_or es i e) e (sym (some_at es i e lt) ∙ at) in
    length-filter_more p es i e lt ∙ ap (λ (f : Entry). length (filter p (take i es)) + cond (p f) 1 0) is

pub update_to : (p : Entry → Bool) (es : List Entry) (i : ℕ) (e : Entry) → slice_get es i ≡ Some e → p e ≡ false → length (filter p (take (i + 1) es)) ≡ length (filter p (take i es))
update_to p es i e at fails = let h = counted p es i e at ∙ ap (λ (b : Bool). length (filter p (take i es)) + cond b 1 0) fails in omega (arith, h)

pub update_one : (p : Entry → Bool) (es : List Entry) (i : ℕ) (e : Entry) → slice_get es i ≡ Some e → p e ≡ true → length (filter p (take (i + 1) es)) ≡ length (filter p (take i es)) + 1
update_one p es i e at holds = counted p es i e at ∙ ap (λ (b : Bool). length (filter p (take i es)) + cond b 1 0) holds

few : (p : Entry → Bool) (k : ℕ) (es : List Entry) → length (filter p (take k es)) ≤ length (filter p es)
few p zero es = omega arith
few p (suc k) [] = omega arith
few p (suc k) (e ∷ es) = by (p e) (few p k es)
  where
    by : (b : Bool) → length (filter p (take k es)) ≤ length (filter p es) → length (if b then e ∷ filter p (take k es) else filter p (take k es)) ≤ length (if b then e ∷ filter p es else filter p es)
    by true h = omega (arith, h)
    by false h = h

-- an entry that passes stands among those that pass after as many as pass before it
passing_at : (p : Entry → Bool) (es : List Entry) (i : ℕ) (e : Entry) → slice_get es i ≡ Some e → p e ≡ true → slice_get (filter p es) (length (filter p (take i es))) ≡ Some e
passing_at p [] i e at holds = absurd (none-some e at)
passing_at p (f ∷ es) zero e at holds =
    subst (λ (g : Entry). slice_get (filter p (g ∷ es)) 0 ≡ Some e) (sym (same_Some f e at)) (ap (λ (b : Bool). slice_get (if b then e ∷ filter p es else filter p es) 0) holds)
passing_at p (f ∷ es) (suc i) e at holds = by (p f) (passing_at p es i e at holds)
  where
    by : (b : Bool) → slice_get (filter p es) (length (filter p (take i es))) ≡ Some e
        → slice_get (if b then f ∷ filter p es else filter p es) (length (if b then f ∷ filter p (take i es) else filter p (take i es))) ≡ Some e
    by true h = h
    by false h = h

get_past : (es : List Entry) (n : ℕ) → length es ≤ n → slice_get es n ≡ None
get_past [] n le = refl
get_past (e ∷ es) zero le = absurd (omega (arith, le))
get_past (e ∷ es) (suc n) le = get_past es n (omega (arith, le))

-- ---- the next one

pub next_none : (e : Entry) (fs : List Entry) (n : ℕ) → length fs ≤ n → false ≡ is_same_at e (slice_get fs n)
next_none e fs n le = ap (is_same_at e) (sym (get_past fs n le))

-- all entries here were gone over
as_many_here : (here there : List Entry) (b : BroughtHere) → AreBrought here there b → b.seen ≡ length here
    → length (outbound b.route.origin b.route.own (take b.passed there)) ≡ length (of_origin b.route.origin here)
as_many_here here there b h all =
    h.as_many ∙ ap (λ (es : List Entry). length (of_origin b.route.origin es)) (ap (λ (k : ℕ). take k here) all ∙ take-length here)

pub none_is_next : (here there : List Entry) (b : BroughtHere) (e : Entry) → AreBrought here there b → b.seen ≡ length here → HasNoneFrom b.route there b.passed
    → false ≡ is_same_at e (slice_get (outbound b.route.origin b.route.own there) (length (of_origin b.route.origin here)))
none_is_next here there b e h all none =
    let same = none ∙ as_many_here here there b h all in
    next_none e (outbound b.route.origin b.route.own there) (length (of_origin b.route.origin here)) (omega (arith, same))

pub first_is_next : (here there : List Entry) (b : BroughtHere) (e f : Entry) (i : ℕ) → AreBrought here there b → b.seen ≡ length here → IsFirstFrom b.route there b.passed i
    → slice_get there i ≡ Some f → is_same_at e (Some f) ≡ is_same_at e (slice_get (outbound b.route.origin b.route.own there) (length (of_origin b.route.origin here)))
first_is_next here there b e f i h all first at =
    let place : slice_get (outbound b.route.origin b.route.own there) (length (outbound b.route.origin b.route.own (take i there))) ≡ Some f =
    passing_at (goes b.route) there i f at (first.goes f at) in
    ap (is_same_at e) (sym (ap (slice_get (outbound b.route.origin b.route.own there)) (sym (first.none_before ∙ as_many_here here there b h all)) ∙ place))

-- ---- one entry more

pub own_passed : (here there : List Entry) (b : BroughtHere) (e : Entry) → AreBrought here there b → slice_get here b.seen ≡ Some e → is_of b.route.origin e ≡ false
    → AreBrought here there (record { route = b.route; seen = b.seen + 1; passed = b.passed })
own_passed here there b e h at other =
    let lt = slice_get_within here b.seen e at in
    record {
      seen_within = omega (arith, lt);
      passed_within = h.passed_within;
      as_many = h.as_many ∙ sym (update_to (is_of b.route.origin) here b.seen e at other);
    }

pub one_brought : (here there : List Entry) (b : BroughtHere) (e : Entry) (i : ℕ) → AreBrought here there b → slice_get here b.seen ≡ Some e → is_of b.route.origin e ≡ true
    → IsFirstFrom b.route there b.passed i → AreBrought here there (record { route = b.route; seen = b.seen + 1; passed = i + 1 })
one_brought here there b e i h at own first =
    let lt = slice_get_within here b.seen e at in let lt' = first.within in
    let f : Entry = get_or there i e in
    let is : slice_get there i ≡ Some f = some_at there i e lt' in
    record {
      seen_within = omega (arith, lt);
      passed_within = omega (arith, lt');
      as_many =
          update_one (goes b.route) there i f is (first.goes f is)
          ∙ (ap (λ (n : ℕ). n + 1) (first.none_before ∙ h.as_many) ∙ sym (update_one (is_of b.route.origin) here b.seen e at own));
    }

pub more_here : (here there : List Entry) (b : BroughtHere) → AreBrought here there b → HasNoneFrom b.route there b.passed
    → length (outbound b.route.origin b.route.own there) ≤ length (of_origin b.route.origin here)
more_here here there b h none = let same = none ∙ h.as_many in let le = few (is_of b.route.origin) b.seen here in omega (arith, same, le)

-- ---- topics that grow

pub nothing_brought : (here there : List Entry) (r : Route) → AreBrought here there (record { route = r; seen = 0; passed = 0 })
nothing_brought here there r = record { seen_within = omega arith; passed_within = omega arith; as_many = refl }

brought_grows : (here there more more' : List Entry) (b : BroughtHere) → AreBrought here there b → AreBrought (here ++ more) (there ++ more') b
brought_grows here there more more' b h = record {
  seen_within = let a = h.seen_within in let c = length_both here more in omega (arith, a, c);
  passed_within = let a = h.passed_within in let c = length_both there more' in omega (arith, a, c);
  as_many =
      ap (λ (es : List Entry). length (outbound b.route.origin b.route.own es)) (take_less there more' b.passed h.passed_within)
      ∙ (h.as_many ∙ ap (λ (es : List Entry). length (of_origin b.route.origin es)) (sym (take_less here more b.seen h.seen_within)));
}

all_brought_grow : (ms ms' : List Mirror) (lists : List (List BroughtHere)) → length ms' ≡ length ms → AllGrown ms ms' → AreAllBrought ms lists → AreAllBrought ms' lists
all_brought_grow ms ms' lists size grown h = record {
  sized = h.sized ∙ sym size;
  each = λ k i d lt.
      let b : BroughtHere = get_or (slice_index_or lists k []) i d in
      rw ((grown k).is, (grown b.route.there).is)
      (brought_grows (entries_of ms k) (entries_of ms b.route.there) (grown k).more (grown b.route.there).more b (h.each k i d lt));
}

pub one_brought_grows : (ms : List Mirror) (lists : List (List BroughtHere)) (j : ℕ) (m : Mirror) → Grown (entries_of ms j) m.entries → AreAllBrought ms lists → AreAllBrought (slice_set ms j m) lists
one_brought_grows ms lists j m g h = all_brought_grow ms (slice_set ms j m) lists (set_length ms j m) (λ k. set_entries ms j k m g) h

-- ---- one list changes

pub one_brought_list : (ms : List Mirror) (lists : List (List BroughtHere)) (j : ℕ) (bs : List BroughtHere) → AreBroughtTo ms j bs → AreAllBrought ms lists → AreAllBrought ms (slice_set lists j bs)
one_brought_list ms lists j bs new h = record {
  sized = lists_length lists j bs ∙ h.sized;
  each = λ k. set_list lists j k bs (λ i c. AreBroughtTo ms i c) new h.each;
}

-- ---- nothing was told, and nothing asked for

abbrev none_brought : List BroughtHere
none_brought = []

pub opening_brought : (n : ℕ) → AreAllBrought (replicate n no_mirror) (replicate n none_brought)
opening_brought n = record {
  sized = length-replicate n none_brought ∙ sym (length-replicate n no_mirror);
  each = λ k. subst (AreBroughtTo (replicate n no_mirror) k) (sym (get_none n k none_brought)) (λ i d lt. absurd (omega (arith, lt)));
}
