-- What a reader makes of the lines that are told of a broker's subscriptions.
use Rattle.std.proofs.Common.{◌≡◌, ℕ, Bool, true, false, List, [], ◌∷◌, ◌++◌, map, filter, not, refl, sym, ap, subst, ◌∙◌, ◌==◌, append_assoc}
use Rattle.std.specs.Prelude.{◌&&◌, ◌||◌, Option, Some, None, if◌then◌else◌, is_some, codes, decimal}
use Rattle.std.specs.List.{list_any}
use Rattle.std.specs.Str.{bytes_eq}
use Rattle.std.proofs.lemmas.Bool.{eqb-true, false≢true}
use Rattle.std.proofs.lemmas.List.{append-nil, map-append}
use Rattle.std.proofs.lemmas.Option.{none-some, same_Some}
use Rattle.std.proofs.lemmas.Slice.Eq.{bytes_eq-Decides}
use Rattle.world_laws.proofs.Types.{SubKind}
use Rattle.world_laws.proofs.Types.sub_kind
use Rattle.geo_base.specs.Broker.{Broker, backlog, sub_named}
use Rattle.geo_base.specs.Cursor.{mark}
use Rattle.geo_base.specs.Report.{shown_kind, shown_replicated, shown_seeks, sub_line, words}
use Rattle.geo_base.specs.Subscribing.{same_kind}
use Rattle.geo_base.specs.Subscription.{Subscription}
use Rattle.world_laws.proofs.Replicating.Effects.{Each, each_both, each_map}
use Rattle.world_laws.proofs.Merges.PeerWalk.{each_filter}
use Rattle.world_laws.proofs.Dispatching.SubFrames.{NamesApart}
use Rattle.world_laws.proofs.Walks.Walk.{left, on_if, right}
use Rattle.step_laws.specs.Steps.{SubGone, SubNow, gone_subs, other_subs, same_bool, same_sub, sub_unless_same}
use Rattle.step_laws.specs.StepsFold.{KeptBroker, KeptSub, broker_reads, broker_reads_all, is_named, kept_sub, with_sub}
use Rattle.step_laws.proofs.Lines.{reads_both}
use Rattle.geo_base.proofs.Bools.{or_of_second}
use Rattle.geo_base.proofs.Lists.{bytes_eq_back}

-- how the subscriptions us came of vs, place by place: each of vs stays where it was, by its name, or is gone; after them stands what is new
pub data Follows (vs us : List Subscription) : List Subscription → List Subscription → Type 0 where
  New : (fs : List Subscription) → Each (λ (f : Subscription). sub_named vs f.name ≡ None) fs → Follows vs us [] fs
  Same : (v u : Subscription) (xs ys : List Subscription) → u.name ≡ v.name → sub_named vs v.name ≡ Some v → sub_named us u.name ≡ Some u
      → Follows vs us xs ys → Follows vs us (v ∷ xs) (u ∷ ys)
  Gone : (v : Subscription) (xs ys : List Subscription) → sub_named vs v.name ≡ Some v → sub_named us v.name ≡ None → Follows vs us xs ys → Follows vs us (v ∷ xs) ys

-- ---- a subscription's line says what is compared

bool_is : (a b : Bool) → same_bool a b ≡ true → a ≡ b
bool_is true true h = refl
bool_is true false h = absurd (false≢true h)
bool_is false true h = absurd (false≢true h)
bool_is false false h = refl

kind_is : (a b : SubKind) → same_kind a b ≡ true → a ≡ b
kind_is sub_kind.Exclusive sub_kind.Exclusive h = refl
kind_is sub_kind.Shared sub_kind.Shared h = refl
kind_is sub_kind.Failover sub_kind.Failover h = refl
kind_is sub_kind.KeyShared sub_kind.KeyShared h = refl
kind_is sub_kind.Exclusive sub_kind.Shared h = absurd (false≢true h)
kind_is sub_kind.Exclusive sub_kind.Failover h = absurd (false≢true h)
kind_is sub_kind.Exclusive sub_kind.KeyShared h = absurd (false≢true h)
kind_is sub_kind.Shared sub_kind.Exclusive h = absurd (false≢true h)
kind_is sub_kind.Shared sub_kind.Failover h = absurd (false≢true h)
kind_is sub_kind.Shared sub_kind.KeyShared h = absurd (false≢true h)
kind_is sub_kind.Failover sub_kind.Exclusive h = absurd (false≢true h)
kind_is sub_kind.Failover sub_kind.Shared h = absurd (false≢true h)
kind_is sub_kind.Failover sub_kind.KeyShared h = absurd (false≢true h)
kind_is sub_kind.KeyShared sub_kind.Exclusive h = absurd (false≢true h)
kind_is sub_kind.KeyShared sub_kind.Shared h = absurd (false≢true h)
kind_is sub_kind.KeyShared sub_kind.Failover h = absurd (false≢true h)

abbrev line_of : List ℕ → SubKind → Bool → ℕ → ℕ → ℕ → List ℕ
line_of n kind replicated mark backlog seeks = words (codes "sub" ∷ n ∷ shown_kind kind ∷ shown_replicated replicated
    ∷ codes "mark" ∷ decimal mark ∷ codes "backlog" ∷ decimal backlog ∷ shown_seeks seeks)

line_is : (b a : Broker) (v u : Subscription) → u.name ≡ v.name → same_sub b v a u ≡ true → sub_line b v ≡ sub_line a u
line_is b a v u name h =
    let k : Bool = same_kind v.kind u.kind in let r : Bool = same_bool v.replicated u.replicated in
    let m : Bool = mark v.cursor == mark u.cursor in let g : Bool = backlog b v == backlog a u in let q : Bool = v.seeks == u.seeks in
    let h3 : (((k && r) && m) && g) ≡ true = left (((k && r) && m) && g) q h in
    let h2 : ((k && r) && m) ≡ true = left ((k && r) && m) g h3 in
    let h1 : (k && r) ≡ true = left (k && r) m h2 in
    ap (λ (x : List ℕ). line_of x v.kind v.replicated (mark v.cursor) (backlog b v) v.seeks) (sym name)
    ∙ ap (λ (x : SubKind). line_of u.name x v.replicated (mark v.cursor) (backlog b v) v.seeks) (kind_is v.kind u.kind (left k r h1))
    ∙ ap (λ (x : Bool). line_of u.name u.kind x (mark v.cursor) (backlog b v) v.seeks) (bool_is v.replicated u.replicated (right k r h1))
    ∙ ap (λ (x : ℕ). line_of u.name u.kind u.replicated x (backlog b v) v.seeks) (eqb-true (mark v.cursor) (mark u.cursor) (right (k && r) m h2))
    ∙ ap (λ (x : ℕ). line_of u.name u.kind u.replicated (mark u.cursor) x v.seeks) (eqb-true (backlog b v) (backlog a u) (right ((k && r) && m) g h3))
    ∙ ap (λ (x : ℕ). line_of u.name u.kind u.replicated (mark u.cursor) (backlog a u) x) (eqb-true v.seeks u.seeks (right (((k && r) && m) && g) q h))

-- ---- what is gone

-- xs without those that have the name of one of ws
abbrev without : List Subscription → List Subscription → List Subscription
without [] xs = xs
without (w ∷ ws) xs = without ws (filter (λ (v : Subscription). not (bytes_eq v.name w.name)) xs)

abbrev has_name : List ℕ → List Subscription → Bool
has_name n ws = list_any (λ (w : Subscription). bytes_eq n w.name) ws

kept_filter : (b : Broker) (n : List ℕ) (xs : List Subscription)
    → filter (λ (k : KeptSub). not (is_named n k)) (map (kept_sub b) xs) ≡ map (kept_sub b) (filter (λ (v : Subscription). not (bytes_eq v.name n)) xs)
kept_filter b n [] = refl
kept_filter b n (v ∷ xs) = by (not (bytes_eq v.name n)) (kept_filter b n xs)
  where
    by : (t : Bool) → filter (λ (k : KeptSub). not (is_named n k)) (map (kept_sub b) xs) ≡ map (kept_sub b) (filter (λ (v : Subscription). not (bytes_eq v.name n)) xs)
        → (if t then kept_sub b v ∷ filter (λ (k : KeptSub). not (is_named n k)) (map (kept_sub b) xs) else filter (λ (k : KeptSub). not (is_named n k)) (map (kept_sub b) xs))
        ≡ map (kept_sub b) (if t then v ∷ filter (λ (v : Subscription). not (bytes_eq v.name n)) xs else filter (λ (v : Subscription). not (bytes_eq v.name n)) xs)
    by true ih = ap (λ (ks : List KeptSub). kept_sub b v ∷ ks) ih
    by false ih = ih

reads_gone : (b : Broker) (k : KeptBroker) (ws xs : List Subscription) → k.subs ≡ map (kept_sub b) xs
    → broker_reads_all k (map (λ (v : Subscription). SubGone v.name) ws) ≡ record k { subs = map (kept_sub b) (without ws xs) }
reads_gone b k [] xs is = ap (λ (ss : List KeptSub). record k { subs = ss }) is
reads_gone b k (w ∷ ws) xs is =
    reads_gone b (broker_reads k (SubGone w.name)) ws (filter (λ (v : Subscription). not (bytes_eq v.name w.name)) xs)
    (ap (filter (λ (j : KeptSub). not (is_named w.name j))) is ∙ kept_filter b w.name xs)

without_none : (ws : List Subscription) → without ws [] ≡ []
without_none [] = refl
without_none (w ∷ ws) = without_none ws

-- a name that none of ws has stays, and one that one of them has goes
without_first : (ws : List Subscription) (v : Subscription) (xs : List Subscription) → without ws (v ∷ xs) ≡ (if has_name v.name ws then without ws xs else v ∷ without ws xs)
without_first [] v xs = refl
without_first (w ∷ ws) v xs = by (bytes_eq v.name w.name) (without_first ws v rest)
  where
    rest : List Subscription
    rest = filter (λ (u : Subscription). not (bytes_eq u.name w.name)) xs

    by : (t : Bool) → without ws (v ∷ rest) ≡ (if has_name v.name ws then without ws rest else v ∷ without ws rest)
        → without ws (if not t then v ∷ rest else rest) ≡ (if t || has_name v.name ws then without ws rest else v ∷ without ws rest)
    by true ih = refl
    by false ih = ih

each_without : (P : Subscription → Type 0) (ws xs : List Subscription) → Each P xs → Each P (without ws xs)
each_without P [] xs h = h
each_without P (w ∷ ws) xs h = each_without P ws _ (each_filter P (λ (v : Subscription). not (bytes_eq v.name w.name)) xs h)

abbrev is_gone : List Subscription → Subscription → Bool
is_gone us v = not (is_some (sub_named us v.name))

-- who is still there has the name of none that is gone
none_gone : (us vs : List Subscription) (n : List ℕ) (u : Subscription) → sub_named us n ≡ Some u → has_name n (filter (is_gone us) vs) ≡ false
none_gone us [] n u is = refl
none_gone us (w ∷ vs) n u is = by (sub_named us w.name) refl (none_gone us vs n u is)
  where
    differ : (t : Bool) → bytes_eq n w.name ≡ t → sub_named us w.name ≡ None → t ≡ false
    differ false e none = refl
    differ true e none = absurd (none-some u (sym none ∙ ap (sub_named us) (sym ((bytes_eq-Decides n w.name).0 e)) ∙ is))

    by : (o : Option Subscription) → sub_named us w.name ≡ o → has_name n (filter (is_gone us) vs) ≡ false
        → has_name n (if not (is_some o) then w ∷ filter (is_gone us) vs else filter (is_gone us) vs) ≡ false
    by (Some x) e ih = ih
    by None e ih = ap (λ (t : Bool). t || has_name n (filter (is_gone us) vs)) (differ (bytes_eq n w.name) refl e) ∙ ih

-- who is gone has the name of one that is
gone_there : (us vs : List Subscription) (v : Subscription) → sub_named vs v.name ≡ Some v → sub_named us v.name ≡ None → has_name v.name (filter (is_gone us) vs) ≡ true
gone_there us [] v is none = absurd (none-some v is)
gone_there us (w ∷ vs) v is none = by (bytes_eq w.name v.name) is (λ e. gone_there us vs v e none)
  where
    more : has_name v.name (filter (is_gone us) vs) ≡ true → has_name v.name (filter (is_gone us) (w ∷ vs)) ≡ true
    more h = on_if (λ (xs : List Subscription). has_name v.name xs ≡ true) (is_gone us w) (w ∷ filter (is_gone us) vs) (filter (is_gone us) vs) (or_of_second (bytes_eq v.name w.name) _ h) h

    here : w ≡ v → has_name v.name (filter (is_gone us) (w ∷ vs)) ≡ true
    here same = subst (λ (x : Subscription). has_name v.name (if is_gone us x then x ∷ filter (is_gone us) vs else filter (is_gone us) vs) ≡ true) (sym same)
        (ap (λ (o : Option Subscription). has_name v.name (if not (is_some o) then v ∷ filter (is_gone us) vs else filter (is_gone us) vs)) none
        ∙ ap (λ (t : Bool). t || has_name v.name (filter (is_gone us) vs)) ((bytes_eq-Decides v.name v.name).1 refl))

    by : (t : Bool) → (if t then Some w else sub_named vs v.name) ≡ Some v → (sub_named vs v.name ≡ Some v → has_name v.name (filter (is_gone us) vs) ≡ true)
        → has_name v.name (filter (is_gone us) (w ∷ vs)) ≡ true
    by true e ih = here (same_Some w v e)
    by false e ih = more (ih e)

-- ---- what is told of one that is there

none_named : (n : List ℕ) (ks : List KeptSub) → Each (λ (k : KeptSub). is_named n k ≡ false) ks → list_any (is_named n) ks ≡ false
none_named n [] h = refl
none_named n (k ∷ ks) h = ap (λ (t : Bool). t || list_any (is_named n) ks) h.0 ∙ none_named n ks h.1

one_named : (n : List ℕ) (before after : List KeptSub) (k : KeptSub) → is_named n k ≡ true → list_any (is_named n) (before ++ k ∷ after) ≡ true
one_named n [] after k is = ap (λ (t : Bool). t || list_any (is_named n) after) is
one_named n (j ∷ before) after k is = or_of_second (is_named n j) _ (one_named n before after k is)

abbrev replaced : List ℕ → List ℕ → KeptSub → KeptSub
replaced n line v = if is_named n v then record { name = n; line = line } else v

none_replaced : (n line : List ℕ) (ks : List KeptSub) → Each (λ (k : KeptSub). is_named n k ≡ false) ks → map (replaced n line) ks ≡ ks
none_replaced n line [] h = refl
none_replaced n line (k ∷ ks) h =
    ap (λ (t : Bool). (if t then record { name = n; line = line } else k) ∷ map (replaced n line) ks) h.0 ∙ ap (λ (js : List KeptSub). k ∷ js) (none_replaced n line ks h.1)

-- a new one stands after the others, and one that is there is replaced at its place
with_new : (n line : List ℕ) (ks : List KeptSub) → Each (λ (k : KeptSub). is_named n k ≡ false) ks → with_sub n line ks ≡ ks ++ record { name = n; line = line } ∷ []
with_new n line ks h = ap (λ (t : Bool). if t then map (replaced n line) ks else ks ++ record { name = n; line = line } ∷ []) (none_named n ks h)

with_old : (n line : List ℕ) (before after : List KeptSub) (k : KeptSub) → is_named n k ≡ true → Each (λ (k : KeptSub). is_named n k ≡ false) before
    → Each (λ (k : KeptSub). is_named n k ≡ false) after → with_sub n line (before ++ k ∷ after) ≡ before ++ record { name = n; line = line } ∷ after
with_old n line before after k is none_before none_after =
    let all : List KeptSub = before ++ k ∷ after in let new : KeptSub = record { name = n; line = line } in
    ap (λ (t : Bool). if t then map (replaced n line) all else all ++ new ∷ []) (one_named n before after k is)
    ∙ map-append (replaced n line) before (k ∷ after)
    ∙ ap (λ (js : List KeptSub). js ++ map (replaced n line) (k ∷ after)) (none_replaced n line before none_before)
    ∙ ap (λ (t : Bool). before ++ (if t then new else k) ∷ map (replaced n line) after) is
    ∙ ap (λ (js : List KeptSub). before ++ new ∷ js) (none_replaced n line after none_after)

-- ---- all of it

-- no one of done has the name of one of ys
abbrev AreOthers : List KeptSub → List Subscription → Type 0
AreOthers done ys = Each (λ (u : Subscription). Each (λ (k : KeptSub). is_named u.name k ≡ false) done) ys

-- one more is done
more_others : (done : List KeptSub) (u : Subscription) (line : List ℕ) (ys : List Subscription) → AreOthers done (u ∷ ys) → NamesApart (u ∷ ys)
    → AreOthers (done ++ record { name = u.name; line = line } ∷ []) ys
more_others done u line [] others apart = tt
more_others done u line (y ∷ ys) others apart = (
  each_both (λ (k : KeptSub). is_named y.name k ≡ false) done (record { name = u.name; line = line } ∷ []) others.1.0 (apart.0.0, tt),
  more_others done u line ys (others.0, others.1.1) (apart.0.1, apart.1.1),
)

-- the place of one subscription
one_sub : (b a : Broker) (k : KeptBroker) (done rest : List KeptSub) (v u : Subscription) → u.name ≡ v.name → Each (λ (j : KeptSub). is_named u.name j ≡ false) done
    → Each (λ (j : KeptSub). is_named u.name j ≡ false) rest → k.subs ≡ done ++ kept_sub b v ∷ rest
    → broker_reads_all k (sub_unless_same b (Some v) a u) ≡ record k { subs = done ++ kept_sub a u ∷ rest }
one_sub b a k done rest v u name none_done none_rest is = by (same_sub b v a u) refl
  where
    by : (t : Bool) → same_sub b v a u ≡ t → broker_reads_all k (if t then [] else SubNow u.name (sub_line a u) ∷ []) ≡ record k { subs = done ++ kept_sub a u ∷ rest }
    by true e =
        ap (λ (ss : List KeptSub). record k { subs = ss })
        (is ∙ ap (λ (n : List ℕ). done ++ record { name = n; line = sub_line b v } ∷ rest) (sym name) ∙ ap (λ (l : List ℕ). done ++ record { name = u.name; line = l } ∷ rest) (line_is b a v u name e))
    by false e =
        ap (λ (ss : List KeptSub). record k { subs = ss })
        (ap (with_sub u.name (sub_line a u)) is ∙ with_old u.name (sub_line a u) done rest (kept_sub b v) ((bytes_eq-Decides v.name u.name).1 (sym name)) none_done none_rest)

-- what is new stands after what is there
new_subs : (b a : Broker) (fs : List Subscription) → Each (λ (f : Subscription). sub_named b.subs f.name ≡ None) fs → NamesApart fs → (done : List KeptSub) → AreOthers done fs
    → (k : KeptBroker) → k.subs ≡ done → broker_reads_all k (other_subs b a fs) ≡ record k { subs = done ++ map (kept_sub a) fs }
new_subs b a [] news apart done others k is = ap (λ (ss : List KeptSub). record k { subs = ss }) (is ∙ sym (append-nil done))
new_subs b a (f ∷ fs) news apart done others k is =
    let next : KeptBroker = record k { subs = done ++ kept_sub a f ∷ [] } in
    reads_both k (sub_unless_same b (sub_named b.subs f.name) a f) (other_subs b a fs)
    ∙ ap (λ (o : Option Subscription). broker_reads_all (broker_reads_all k (sub_unless_same b o a f)) (other_subs b a fs)) news.0
    ∙ ap (λ (ss : List KeptSub). broker_reads_all (record k { subs = ss }) (other_subs b a fs))
    (ap (with_sub f.name (sub_line a f)) is ∙ with_new f.name (sub_line a f) done others.0)
    ∙ new_subs b a fs news.1 apart.1 (done ++ kept_sub a f ∷ []) (more_others done f (sub_line a f) fs others apart) next refl
    ∙ ap (λ (ss : List KeptSub). record k { subs = ss }) (append_assoc done (kept_sub a f ∷ []) (map (kept_sub a) fs))

each_kept : (b : Broker) (n : List ℕ) (xs : List Subscription) → Each (λ (v : Subscription). bytes_eq v.name n ≡ false) xs → Each (λ (k : KeptSub). is_named n k ≡ false) (map (kept_sub b) xs)
each_kept b n [] h = tt
each_kept b n (v ∷ xs) h = (h.0, each_kept b n xs h.1)

abbrev gone_of : Broker → Broker → List Subscription
gone_of b a = filter (is_gone a.subs) b.subs

reads_others : (b a : Broker) (xs ys : List Subscription) → Follows b.subs a.subs xs ys → NamesApart xs → NamesApart ys → (done : List KeptSub) → AreOthers done ys
    → (k : KeptBroker) → k.subs ≡ done ++ map (kept_sub b) (without (gone_of b a) xs) → broker_reads_all k (other_subs b a ys) ≡ record k { subs = done ++ map (kept_sub a) ys }
reads_others b a xs ys (Follows.New fs news) apart_x apart_y done others k is =
    new_subs b a fs news apart_y done others k (is ∙ ap (λ (vs : List Subscription). done ++ map (kept_sub b) vs) (without_none (gone_of b a)) ∙ append-nil done)
reads_others b a xs ys (Follows.Same v u xs' ys' name there still more) apart_x apart_y done others k is =
    let left_over : List Subscription = without (gone_of b a) xs' in
    let first : without (gone_of b a) (v ∷ xs') ≡ v ∷ left_over =
    without_first (gone_of b a) v xs' ∙ ap (λ (t : Bool). if t then left_over else v ∷ left_over) (none_gone a.subs b.subs v.name u (ap (sub_named a.subs) (sym name) ∙ still)) in
    let rest : List KeptSub = map (kept_sub b) left_over in
    let found : sub_named b.subs u.name ≡ Some v = ap (sub_named b.subs) name ∙ there in
    let apart : Each (λ (x : Subscription). bytes_eq x.name u.name ≡ false) xs' =
    each_map (λ (x : Subscription). bytes_eq v.name x.name ≡ false) (λ (x : Subscription). bytes_eq x.name u.name ≡ false)
    (λ x h. ap (bytes_eq x.name) name ∙ bytes_eq_back v.name x.name h) xs' apart_x.0 in
    let next : KeptBroker = record k { subs = done ++ kept_sub a u ∷ rest } in
    reads_both k (sub_unless_same b (sub_named b.subs u.name) a u) (other_subs b a ys')
    ∙ ap (λ (o : Option Subscription). broker_reads_all (broker_reads_all k (sub_unless_same b o a u)) (other_subs b a ys')) found
    ∙ ap (λ (j : KeptBroker). broker_reads_all j (other_subs b a ys'))
    (one_sub b a k done rest v u name others.0 (each_kept b u.name left_over (each_without (λ (x : Subscription). bytes_eq x.name u.name ≡ false) (gone_of b a) xs' apart))
    (is ∙ ap (λ (vs : List Subscription). done ++ map (kept_sub b) vs) first))
    ∙ reads_others b a xs' ys' more apart_x.1 apart_y.1 (done ++ kept_sub a u ∷ []) (more_others done u (sub_line a u) ys' others apart_y) next (sym (append_assoc done (kept_sub a u ∷ []) rest))
    ∙ ap (λ (ss : List KeptSub). record k { subs = ss }) (append_assoc done (kept_sub a u ∷ []) (map (kept_sub a) ys'))
reads_others b a xs ys (Follows.Gone v xs' ys' there none more) apart_x apart_y done others k is =
    let first : without (gone_of b a) (v ∷ xs') ≡ without (gone_of b a) xs' =
    without_first (gone_of b a) v xs' ∙ ap (λ (t : Bool). if t then without (gone_of b a) xs' else v ∷ without (gone_of b a) xs') (gone_there a.subs b.subs v there none) in
    reads_others b a xs' ys' more apart_x.1 apart_y done others k (is ∙ ap (λ (vs : List Subscription). done ++ map (kept_sub b) vs) first)

none_done : (ys : List Subscription) → AreOthers [] ys
none_done [] = tt
none_done (y ∷ ys) = (tt, none_done ys)

-- who kept the subscriptions' lines of b keeps those of a
pub reads_subs : (b a : Broker) (k : KeptBroker) → Follows b.subs a.subs b.subs a.subs → NamesApart b.subs → NamesApart a.subs → k.subs ≡ map (kept_sub b) b.subs
    → broker_reads_all k (gone_subs b a ++ other_subs b a a.subs) ≡ record k { subs = map (kept_sub a) a.subs }
reads_subs b a k follows apart_b apart_a is =
    let next : KeptBroker = record k { subs = map (kept_sub b) (without (gone_of b a) b.subs) } in
    reads_both k (gone_subs b a) (other_subs b a a.subs)
    ∙ ap (λ (j : KeptBroker). broker_reads_all j (other_subs b a a.subs)) (reads_gone b k (gone_of b a) b.subs is)
    ∙ reads_others b a b.subs a.subs follows apart_b apart_a [] (none_done a.subs) next refl
