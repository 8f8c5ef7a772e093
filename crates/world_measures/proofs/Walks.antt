-- Walks over clusters, entries and pairs, one after another.
use Rattle.std.proofs.Common.{◌≡◌, ◌≢◌, ℕ, zero, suc, ◌+◌, ◌-◌, ◌<◌, ◌≤◌, Bool, true, false, List, [], ◌∷◌, ◌++◌, drop, length, map, take, refl, sym, ap, subst, ◌∙◌, arith, not, if◌then◌else◌, fold}
use Rattle.std.specs.Prelude.{◌||◌, ◌&&◌, Option, None, Some, is_some, slice_get}
use Rattle.std.specs.List.{count_by, list_any, range_with_len}
use Rattle.std.specs.Str.{bytes_eq}
use Rattle.std.proofs.lemmas.List.{take_all}
use Rattle.std.proofs.lemmas.Bool.{false≢true}
use Rattle.std.proofs.lemmas.Option.{none-some, same_Some}
use Rattle.geo_base.specs.declared.entry.Entry.{Entry}
use Rattle.geo_base.specs.declared.marker.ClusterPosition.{ClusterPosition}
use Rattle.geo_base.specs.Audit.{same_pair, same_pairs}
use Rattle.geo_base.specs.Broker.{Broker, sub_named}
use Rattle.geo_base.specs.Cursor.{backlog_from, has}
use Rattle.geo_base.specs.Entry.{is_data}
use Rattle.geo_base.specs.Subscription.{Subscription}
use Rattle.geo_base.specs.Traced.{cursor_of}
use Rattle.report_lines.proofs.Added.{drop_here}
use Rattle.topic_store.specs.Messages.{is_message, messages_before}
use Rattle.loss_laws.specs.Lost.{asked_behind, asked_from, backlog_at, counted, last_update, or_before, passed_in, untold_from, update_in}
use Rattle.world_measures.specs.Snapshots.{told_at, told_by}
use Rattle.world_measures.proofs.Choosing.{take_more}
use Rattle.geo_base.proofs.Bools.{and_no_second}

-- one more cluster
pub one_cluster : (p : ℕ → Bool) (c n : ℕ) → c < n → list_any p (range_with_len c (n - c)) ≡ (p c || list_any p (range_with_len (c + 1) (n - (c + 1))))
one_cluster p c n lt = let more : n - c ≡ suc (n - (c + 1)) = omega (arith, lt) in ap (λ (k : ℕ). list_any p (range_with_len c k)) more

-- one more entry at the end
pub update_behind : (x : ℕ) (n : List ℕ) (o : Option (List ClusterPosition)) (es : List Entry) (e : Entry)
    → last_update x n o (es ++ e ∷ []) ≡ or_before (last_update x n o es) (update_in x n e e.content)
update_behind x n o [] e = refl
update_behind x n o (f ∷ es) e = update_behind x n (or_before o (update_in x n f f.content)) es e

-- something stands at each index
pub something : {X : Type 0} (xs : List X) (i : ℕ) → i < length xs → slice_get xs i ≡ None → ⊥
something [] i l h = omega (arith, l)
something (x ∷ xs) zero l h = cc
something (x ∷ xs) (suc i) l h = something xs i (omega (arith, l)) h

pub pairs_differ : (ps qs : List ClusterPosition) → length ps ≢ length qs → same_pairs ps qs ≡ false
pairs_differ [] [] differ = absurd (differ refl)
pairs_differ [] (q ∷ qs) differ = refl
pairs_differ (p ∷ ps) [] differ = refl
pairs_differ (p ∷ ps) (q ∷ qs) differ = and_no_second (same_pair p q) (same_pairs ps qs) (pairs_differ ps qs (λ e. differ (ap suc e)))

-- one more entry of the rest
pub next_asked : (x : ℕ) (b : Bool) (es : List Entry) (i : ℕ) (e : Entry) → slice_get es i ≡ Some e
    → asked_from x (asked_behind x b e e.content) (drop (i + 1) es) ≡ asked_from x b (drop i es)
next_asked x b es i e at = ap (asked_from x b) (sym (drop_here es i e at))

pub next_untold : (told : Option (List ClusterPosition)) (x : ℕ) (ledgers : List ℕ) (m n : ℕ) (es : List Entry) (i : ℕ) (e : Entry) → slice_get es i ≡ Some e
    → untold_from told x ledgers m (counted told n (passed_in x ledgers m e e.content)) (drop (i + 1) es) ≡ untold_from told x ledgers m n (drop i es)
next_untold told x ledgers m n es i e at = ap (untold_from told x ledgers m n) (sym (drop_here es i e at))

-- of a subscription at a place
pub named_here : (subs : List Subscription) (n : List ℕ) (k : ℕ) (v : Subscription) → slice_get subs k ≡ Some v → bytes_eq v.name n ≡ true
    → sub_named (drop k subs) n ≡ slice_get subs k
named_here [] n k v at is = absurd (none-some v at)
named_here (u ∷ subs) n zero v at is = let here : bytes_eq u.name n ≡ true = subst (λ (w : Subscription). bytes_eq w.name n ≡ true) (sym (same_Some u v at)) is in rw here refl
named_here (u ∷ subs) n (suc k) v at is = named_here subs n k v at is

pub named_later : (subs : List Subscription) (n : List ℕ) (k : ℕ) (v : Subscription) → slice_get subs k ≡ Some v → bytes_eq v.name n ≡ false
    → sub_named (drop k subs) n ≡ sub_named (drop (k + 1) subs) n
named_later [] n k v at is = absurd (none-some v at)
named_later (u ∷ subs) n zero v at is = let here : bytes_eq u.name n ≡ false = subst (λ (w : Subscription). bytes_eq w.name n ≡ false) (sym (same_Some u v at)) is in rw here refl
named_later (u ∷ subs) n (suc k) v at is = let e : suc k + 1 ≡ suc (k + 1) = omega arith in rw e (named_later subs n k v at is)

-- where a cursor has nothing, each message is left
abbrev with_message : ℕ → Entry → ℕ
with_message n e = n + (if is_message e then 1 else 0)

left_from : (n i : ℕ) (es : List Entry) → n + backlog_from [] i (map (λ (e : Entry). is_data e.content) es) ≡ fold with_message n es
left_from n i [] = omega arith
left_from n i (e ∷ es) =
    let rest = backlog_from [] (i + 1) (map (λ (f : Entry). is_data f.content) es) in
    let k : ℕ = if is_data e.content then 1 else 0 in
    let m : ℕ = if is_data e.content && not (has [] i) then 1 else 0 in
    let same : m ≡ k = one (is_data e.content) in
    let moved : n + (m + rest) ≡ (n + k) + rest = omega (arith, same) in
    moved ∙ left_from (n + k) (i + 1) es
  where
    number : Bool → ℕ
    number b = if b then 1 else 0

    one : (b : Bool) → number (b && true) ≡ number b
    one true = refl
    one false = refl

all_left : (es : List Entry) → backlog_from [] 0 (map (λ (e : Entry). is_data e.content) es) ≡ count_by is_message es
all_left es = let same : backlog_from [] 0 (map (λ (e : Entry). is_data e.content) es) ≡ 0 + backlog_from [] 0 (map (λ (e : Entry). is_data e.content) es) = omega arith in same ∙ left_from 0 0 es

pub no_sub : (c : Broker) (n : List ℕ) → sub_named c.subs n ≡ None → messages_before c.entries (length c.entries) ≡ backlog_at c n
no_sub c n none =
    ap (count_by is_message) (take_all (length c.entries) c.entries (omega arith))
    ∙ (sym (all_left c.entries) ∙ ap (λ (o : Option Subscription). backlog_from (cursor_of o) 0 (map (λ (e : Entry). is_data e.content) c.entries)) (sym none))

-- ---- the last update, from the end of the topic on

entry_at : (es : List Entry) (i : ℕ) → i < length es → (e : Entry) × (slice_get es i ≡ Some e)
entry_at [] i lt = absurd (omega (arith, lt))
entry_at (e ∷ es) zero lt = (e, refl)
entry_at (e ∷ es) (suc i) lt = entry_at es i (omega (arith, lt))

last_step : (x : ℕ) (n : List ℕ) (es : List Entry) (i : ℕ) (e : Entry) → slice_get es i ≡ Some e
    → last_update x n None (take (i + 1) es) ≡ or_before (last_update x n None (take i es)) (told_at x n es (Some i))
last_step x n es i e at =
    ap (last_update x n None) (take_more es i e at)
    ∙ (update_behind x n None (take i es) e ∙ ap (λ (o : Option Entry). or_before (last_update x n None (take i es)) (told_by x n o)) (sym at))

before_end : (i : ℕ) → 0 < i → (i - 1) + 1 ≡ i
before_end i some = omega (arith, some)

last_of : (x : ℕ) (n : List ℕ) (es : List Entry) (i : ℕ) → 0 < i → i ≤ length es
    → last_update x n None (take i es) ≡ or_before (last_update x n None (take (i - 1) es)) (told_at x n es (Some (i - 1)))
last_of x n es i some within =
    let e = entry_at es (i - 1) (omega (arith, some, within)) in
    ap (λ (k : ℕ). last_update x n None (take k es)) (sym (before_end i some)) ∙ last_step x n es (i - 1) e.0 e.1

or_some : (a o : Option (List ClusterPosition)) → is_some o ≡ true → or_before a o ≡ o
or_some a None h = absurd (false≢true h)
or_some a (Some r) h = refl

or_none : (a o : Option (List ClusterPosition)) → is_some o ≡ false → or_before a o ≡ a
or_none a None h = refl
or_none a (Some r) h = absurd (false≢true (sym h))

-- it is found
pub last_found : (x : ℕ) (n : List ℕ) (es : List Entry) (i : ℕ) (o : Option (List ClusterPosition)) → 0 < i → i ≤ length es → o ≡ told_at x n es (Some (i - 1))
    → is_some o ≡ true → last_update x n None (take i es) ≡ last_update x n None es → o ≡ last_update x n None es
last_found x n es i o some within told here before =
    sym (or_some (last_update x n None (take (i - 1) es)) o here)
    ∙ (ap (or_before (last_update x n None (take (i - 1) es))) told ∙ (sym (last_of x n es i some within) ∙ before))

-- or it is before the entry
pub last_gone : (x : ℕ) (n : List ℕ) (es : List Entry) (i : ℕ) (o : Option (List ClusterPosition)) → 0 < i → i ≤ length es → o ≡ told_at x n es (Some (i - 1))
    → is_some o ≡ false → last_update x n None (take i es) ≡ last_update x n None es → last_update x n None (take (i - 1) es) ≡ last_update x n None es
last_gone x n es i o some within told here before =
    sym (or_none (last_update x n None (take (i - 1) es)) o here)
    ∙ (ap (or_before (last_update x n None (take (i - 1) es))) told ∙ (sym (last_of x n es i some within) ∙ before))

pub none_some : {X : Type 0} (o : Option X) → ((x : X) → o ≡ Some x → ⊥) → o ≡ None
none_some None h = refl
none_some (Some x) h = absurd (h x refl)

-- ---- a walk over clusters that looks for one

pub any_here : (p : ℕ → Bool) (c n : ℕ) (b : Bool) → c < n → b ≡ p c → b ≡ true → list_any p (range_with_len c (n - c)) ≡ list_any p (range_with_len 0 n)
    → true ≡ list_any p (range_with_len 0 n)
any_here p c n b lt is here so_far =
    ap (λ (a : Bool). a || list_any p (range_with_len (c + 1) (n - (c + 1)))) (sym here ∙ is) ∙ (sym (one_cluster p c n lt) ∙ so_far)

pub any_later : (p : ℕ → Bool) (c n : ℕ) (b : Bool) → c < n → b ≡ p c → b ≡ false → list_any p (range_with_len c (n - c)) ≡ list_any p (range_with_len 0 n)
    → list_any p (range_with_len (c + 1) (n - (c + 1))) ≡ list_any p (range_with_len 0 n)
any_later p c n b lt is here so_far =
    ap (λ (a : Bool). a || list_any p (range_with_len (c + 1) (n - (c + 1)))) (sym here ∙ is) ∙ (sym (one_cluster p c n lt) ∙ so_far)

pub any_none : (p : ℕ → Bool) (c n : ℕ) → n ≤ c → list_any p (range_with_len c (n - c)) ≡ list_any p (range_with_len 0 n) → false ≡ list_any p (range_with_len 0 n)
any_none p c n past so_far = let none : n - c ≡ 0 = omega (arith, past) in ap (λ (k : ℕ). list_any p (range_with_len c k)) (sym none) ∙ so_far
