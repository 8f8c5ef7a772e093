-- In a script's run a topic has no subscription but those that the script names there, each once; so there is room for each of them.
use Rattle.std.proofs.Common.{◌≡◌, ℕ, zero, suc, ◌<◌, ◌≤◌, Bool, true, false, cond, List, [], ◌∷◌, ◌++◌, length, filter, refl, sym, ap, subst, ◌∙◌, ◌==◌, arith, not}
use Rattle.std.specs.Prelude.{Some, None, ◌||◌, fold, if◌then◌else◌, slice_get, slice_index_or}
use Rattle.std.specs.List.{list_any}
use Rattle.std.specs.Str.{bytes_eq}
use Rattle.std.proofs.lemmas.Bool.{eq-eqb, false≢true}
use Rattle.std.proofs.lemmas.Option.{none-some, same_Some}
use Rattle.std.proofs.lemmas.Slice.Eq.{bytes_eq-Decides}
use Rattle.world_laws.proofs.Types.{Line}
use Rattle.world_laws.proofs.Types.line
use Rattle.geo_base.specs.Broker.{sub_named}
use Rattle.geo_base.specs.Setup.{Declared, Setup, declared_at, nobody, sub_names, with_client, with_line, with_name}
use Rattle.geo_base.specs.Subscription.{Subscription}
use Rattle.world_laws.specs.SubLines.{IsSubLine, named_by}
use Rattle.world_laws.proofs.Dispatching.SubFrames.{NamesApart}
use Rattle.world_laws.proofs.Replicating.Effects.{Each}
use Rattle.world_laws.proofs.Walks.Walk.{on_if}
use Rattle.geo_base.proofs.Lists.{bytes_eq_itself}

-- ---- names of a topic

-- a list has a name
abbrev pub InNames : List (List ℕ) → List ℕ → Type 0
InNames ns n = list_any (λ m. bytes_eq m n) ns ≡ true

any_left : (ns ms : List (List ℕ)) (n : List ℕ) → InNames ns n → InNames (ns ++ ms) n
any_left [] ms n h = absurd (false≢true h)
any_left (m ∷ ns) ms n h = by (bytes_eq m n) h (any_left ns ms n)
  where
    by : (b : Bool) → (b || list_any (λ k. bytes_eq k n) ns) ≡ true → (InNames ns n → InNames (ns ++ ms) n) → (b || list_any (λ k. bytes_eq k n) (ns ++ ms)) ≡ true
    by true h ih = refl
    by false h ih = ih h

any_last : (ns : List (List ℕ)) (n : List ℕ) → InNames (ns ++ n ∷ []) n
any_last [] n = ap (λ (b : Bool). b || false) (bytes_eq_itself n)
any_last (m ∷ ns) n = by (bytes_eq m n) (any_last ns n)
  where
    by : (b : Bool) → InNames (ns ++ n ∷ []) n → (b || list_any (λ k. bytes_eq k n) (ns ++ n ∷ [])) ≡ true
    by true h = refl
    by false h = h

name_keeps : (ns : List (List ℕ)) (m n : List ℕ) → InNames ns n → InNames (with_name ns m) n
name_keeps ns m n h = on_if (λ (l : List (List ℕ)). InNames l n) (list_any (λ k. bytes_eq k m) ns) ns (ns ++ m ∷ []) h (any_left ns (m ∷ []) n h)

name_adds : (ns : List (List ℕ)) (m : List ℕ) → InNames (with_name ns m) m
name_adds ns m = by (list_any (λ k. bytes_eq k m) ns) refl
  where
    by : (b : Bool) → list_any (λ k. bytes_eq k m) ns ≡ b → InNames (if b then ns else ns ++ m ∷ []) m
    by true e = e
    by false e = any_last ns m

line_keeps : (ns : List (List ℕ)) (l : Line) (n : List ℕ) → InNames ns n → InNames (with_line ns l) n
line_keeps ns (line.Sub m kind earliest replicated) n h = name_keeps ns m n h
line_keeps ns line.Produce n h = h
line_keeps ns (line.Pub seq to key text) n h = h
line_keeps ns (line.Flow k) n h = h
line_keeps ns (line.Ack i) n h = h
line_keeps ns (line.AckTo i) n h = h
line_keeps ns line.AckAll n h = h
line_keeps ns line.Unsub n h = h
line_keeps ns line.Close n h = h
line_keeps ns line.CloseProducer n h = h
line_keeps ns line.Ping n h = h
line_keeps ns (line.Move x) n h = h

line_adds : (ns : List (List ℕ)) (l : Line) (n : List ℕ) → named_by l ≡ Some n → InNames (with_line ns l) n
line_adds ns (line.Sub m kind earliest replicated) n is = subst (λ (k : List ℕ). InNames (with_name ns m) k) (same_Some m n is) (name_adds ns m)
line_adds ns line.Produce n is = absurd (none-some n is)
line_adds ns (line.Pub seq to key text) n is = absurd (none-some n is)
line_adds ns (line.Flow k) n is = absurd (none-some n is)
line_adds ns (line.Ack i) n is = absurd (none-some n is)
line_adds ns (line.AckTo i) n is = absurd (none-some n is)
line_adds ns line.AckAll n is = absurd (none-some n is)
line_adds ns line.Unsub n is = absurd (none-some n is)
line_adds ns line.Close n is = absurd (none-some n is)
line_adds ns line.CloseProducer n is = absurd (none-some n is)
line_adds ns line.Ping n is = absurd (none-some n is)
line_adds ns (line.Move x) n is = absurd (none-some n is)

lines_keep : (ls : List Line) (ns : List (List ℕ)) (n : List ℕ) → InNames ns n → InNames (fold with_line ns ls) n
lines_keep [] ns n h = h
lines_keep (l ∷ ls) ns n h = lines_keep ls (with_line ns l) n (line_keeps ns l n h)

lines_add : (ls : List Line) (ns : List (List ℕ)) (i : ℕ) (l : Line) (n : List ℕ) → slice_get ls i ≡ Some l → named_by l ≡ Some n → InNames (fold with_line ns ls) n
lines_add [] ns i l n at is = absurd (none-some l at)
lines_add (m ∷ ls) ns zero l n at is = lines_keep ls (with_line ns m) n (line_adds ns m n (ap named_by (same_Some m l at) ∙ is))
lines_add (m ∷ ls) ns (suc i) l n at is = lines_add ls (with_line ns m) i l n at is

client_keeps : (t : ℕ) (ns : List (List ℕ)) (d : Declared) (n : List ℕ) → InNames ns n → InNames (with_client t ns d) n
client_keeps t ns d n h = on_if (λ (l : List (List ℕ)). InNames l n) (d.topic == t) (fold with_line ns d.lines) ns (lines_keep d.lines ns n h) h

clients_keep : (t : ℕ) (ds : List Declared) (ns : List (List ℕ)) (n : List ℕ) → InNames ns n → InNames (fold (with_client t) ns ds) n
clients_keep t [] ns n h = h
clients_keep t (d ∷ ds) ns n h = clients_keep t ds (with_client t ns d) n (client_keeps t ns d n h)

clients_add : (t : ℕ) (ds : List Declared) (ns : List (List ℕ)) (c i : ℕ) (n : List ℕ) → let d = slice_index_or ds c nobody in d.topic ≡ t → IsSubLine d i n → InNames (fold (with_client t) ns ds) n
clients_add t [] ns c i n of is = absurd (none-some is.0 is.1)
clients_add t (d ∷ ds) ns zero i n of is =
    clients_keep t ds (with_client t ns d) n
    (subst (λ (b : Bool). InNames (if b then fold with_line ns d.lines else ns) n) (sym (eq-eqb d.topic t of)) (lines_add d.lines ns i is.0 n is.1 is.2))
clients_add t (d ∷ ds) ns (suc c) i n of is = clients_add t ds (with_client t ns d) c i n of is

-- a client's sub line names one of its topic
pub line_named : (s : Setup) (c i : ℕ) (n : List ℕ) → IsSubLine (declared_at s c) i n → InNames (sub_names s (declared_at s c).topic) n
line_named s c i n is = clients_add (declared_at s c).topic s.clients [] c i n refl is

-- ---- names that differ, all of a list

less_one : (m : List ℕ) (ns : List (List ℕ)) → InNames ns m → length (filter (λ k. not (bytes_eq k m)) ns) < length ns
less_one m [] h = absurd (false≢true h)
less_one m (k ∷ ns) h = by (bytes_eq k m) h (less_one m ns) (no_more ns)
  where
    no_more : (ks : List (List ℕ)) → length (filter (λ k. not (bytes_eq k m)) ks) ≤ length ks
    no_more [] = omega arith
    no_more (k ∷ ks) = one (bytes_eq k m) (no_more ks)
      where
        one : (b : Bool) → length (filter (λ k. not (bytes_eq k m)) ks) ≤ length ks
            → length (cond (not b) (k ∷ filter (λ k. not (bytes_eq k m)) ks) (filter (λ k. not (bytes_eq k m)) ks)) ≤ suc (length ks)
        one true le = omega (arith, le)
        one false le = omega (arith, le)

    by : (b : Bool) → (b || list_any (λ z. bytes_eq z m) ns) ≡ true → (InNames ns m → length (filter (λ k. not (bytes_eq k m)) ns) < length ns) → length (filter (λ k. not (bytes_eq k m)) ns) ≤ length ns
        → length (cond (not b) (k ∷ filter (λ k. not (bytes_eq k m)) ns) (filter (λ k. not (bytes_eq k m)) ns)) < suc (length ns)
    by true h ih le = omega (arith, le)
    by false h ih le = let lt = ih h in omega (arith, lt)

still_in : (m n : List ℕ) (ns : List (List ℕ)) → bytes_eq m n ≡ false → InNames ns n → InNames (filter (λ k. not (bytes_eq k m)) ns) n
still_in m n [] other h = h
still_in m n (k ∷ ns) other h = by (bytes_eq k m) refl (bytes_eq k n) refl h (still_in m n ns other)
  where
    rest : List (List ℕ)
    rest = filter (λ k. not (bytes_eq k m)) ns

    by : (b : Bool) → bytes_eq k m ≡ b → (d : Bool) → bytes_eq k n ≡ d → (d || list_any (λ z. bytes_eq z n) ns) ≡ true → (InNames ns n → InNames rest n) → InNames (cond (not b) (k ∷ rest) rest) n
    by true e true g h ih = absurd (false≢true (sym other ∙ (bytes_eq-Decides m n).1 (sym ((bytes_eq-Decides k m).0 e) ∙ (bytes_eq-Decides k n).0 g)))
    by true e false g h ih = ih h
    by false e true g h ih = ap (λ (z : Bool). z || list_any (λ z. bytes_eq z n) rest) g
    by false e false g h ih = ap (λ (z : Bool). z || list_any (λ z. bytes_eq z n) rest) g ∙ ih h

all_still : (m : List ℕ) (ns : List (List ℕ)) (vs : List Subscription) → Each (λ (u : Subscription). bytes_eq m u.name ≡ false) vs → Each (λ (u : Subscription). InNames ns u.name) vs
    → Each (λ (u : Subscription). InNames (filter (λ k. not (bytes_eq k m)) ns) u.name) vs
all_still m ns [] apart h = tt
all_still m ns (v ∷ vs) apart h = (still_in m v.name ns apart.0 h.0, all_still m ns vs apart.1 h.1)

-- fewer subscriptions than names, where one is missing
pub few_names : (vs : List Subscription) (ns : List (List ℕ)) (n : List ℕ) → NamesApart vs → Each (λ (u : Subscription). InNames ns u.name) vs → InNames ns n → sub_named vs n ≡ None → length vs < length ns
few_names [] ns n apart h known none = some ns known
  where
    some : (ms : List (List ℕ)) → InNames ms n → 0 < length ms
    some [] h = absurd (false≢true h)
    some (m ∷ ms) h = omega arith
few_names (v ∷ vs) ns n apart h known none = by (bytes_eq v.name n) refl none (few_names vs (filter (λ k. not (bytes_eq k v.name)) ns) n apart.1 (all_still v.name ns vs apart.0 h.1))
  where
    by : (b : Bool) → bytes_eq v.name n ≡ b → (if b then Some v else sub_named vs n) ≡ None
        → (InNames (filter (λ k. not (bytes_eq k v.name)) ns) n → sub_named vs n ≡ None → length vs < length (filter (λ k. not (bytes_eq k v.name)) ns)) → suc (length vs) < length ns
    by true e none ih = absurd (none-some v (sym none))
    by false e none ih =
        let lt = ih (still_in v.name n ns e known) none in let less = less_one v.name ns h.0 in omega (arith, lt, less)
