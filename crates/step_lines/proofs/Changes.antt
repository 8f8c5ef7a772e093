-- What the code tells of a broker and of a client, by what was noted, is what the definition has, by what they were.
use Rattle.std.proofs.Common.{◌≡◌, ℕ, zero, suc, ◌+◌, ◌<◌, ◌≤◌, ◌⊎◌, inl, inr, Bool, true, false, not, List, [], ◌∷◌, ◌++◌, length, map, drop, append_assoc, refl, sym, ◌∙◌, ap, eq-or-lt_of_le, arith}
use Rattle.std.proofs.lemmas.List.{append-nil}
use Rattle.std.specs.Prelude.{Option, Some, Result, Ok, Err, OnOk, ◌-◌, codes, decimal, filter, find, is_some, if◌then◌else◌, slice_get, slice_index_or, slice_range, take}
use Rattle.std.specs.Str.{bytes_eq}
use Rattle.broker_subs.specs.Table.{sub_at}
use Rattle.geo_base.specs.declared.entry.Ident.{Ident}
use Rattle.geo_base.specs.Broker.{Broker, sub_named}
use Rattle.geo_base.specs.Client.{Client}
use Rattle.geo_base.specs.declared.memory.Memory.{Memory}
use Rattle.geo_base.specs.Report.{client_line, entry_lines, got_line, shown_kind, shown_replicated, shown_seeks, sub_line, with_line_feeds, words}
use Rattle.geo_base.specs.Setup.{Declared, Setup}
use Rattle.geo_base.specs.Subscription.{Subscription}
use Rattle.report_lines.proofs.Added.{drop_here}
use Rattle.report_lines.specs.declared.lines.SubShown.{SubShown}
use Rattle.step_laws.specs.Steps.{ClientNow, NewEntry, NewGot, ReportChange, SubGone, SubNow, broker_changes, change_line, gone_subs, new_entries, new_got, other_replicators, other_subs, sub_unless_same}
use Rattle.step_lines.specs.declared.heads.Indent.{Indent}
use Rattle.step_lines.specs.declared.heads.Indent.TheVariants as indent
use Rattle.step_lines.specs.declared.noted.NotedBroker.{NotedBroker}
use Rattle.step_lines.specs.declared.noted.NotedClient.{NotedClient}
use Rattle.step_lines.specs.declared.noted.NotedSub.{NotedSub}
use Rattle.step_lines.specs.Changes.{spaces, stood_lines}
use Rattle.step_lines.specs.Noted.{IsNoted, client_told, gone_told, noted_client, noted_sub, same_before, same_noted, shown_named, shown_sub, sub_told, subs_told}
use Rattle.step_lines.proofs.Lines.{item, next_line, stood_both}
pub use Rattle.geo_base.proofs.Lists.{index_or_pushed as index_last}

-- ---- subscriptions

pub gone_is : (b a : Broker) (vs : List Subscription)
    → gone_told a (map (noted_sub b) vs) ≡ map (λ (v : Subscription). SubGone v.name) (filter (λ (v : Subscription). not (is_some (sub_named a.subs v.name))) vs)
gone_is b a [] = refl
gone_is b a (v ∷ vs) = by (is_some (sub_named a.subs v.name)) (gone_is b a vs)
  where
    rest : List ReportChange
    rest = map (λ (u : Subscription). SubGone u.name) (filter (λ (u : Subscription). not (is_some (sub_named a.subs u.name))) vs)

    by : (c : Bool) → gone_told a (map (noted_sub b) vs) ≡ rest → (if c then [] else SubGone v.name ∷ []) ++ gone_told a (map (noted_sub b) vs)
        ≡ map (λ (u : Subscription). SubGone u.name) (if not c then v ∷ filter (λ (u : Subscription). not (is_some (sub_named a.subs u.name))) vs else filter (λ (u : Subscription). not (is_some (sub_named a.subs u.name))) vs)
    by true more = more
    by false more = ap (λ (cs : List ReportChange). SubGone v.name ∷ cs) more

sub_is : (b a : Broker) (vs : List Subscription) (u : Subscription) → sub_told a (shown_named (map (noted_sub b) vs) u.name) u ≡ sub_unless_same b (sub_named vs u.name) a u
sub_is b a [] u = refl
sub_is b a (v ∷ vs) u = by (bytes_eq v.name u.name) (sub_is b a vs u)
  where
    by : (c : Bool) → sub_told a (shown_named (map (noted_sub b) vs) u.name) u ≡ sub_unless_same b (sub_named vs u.name) a u
        → sub_told a (if c then Some (shown_sub b v) else shown_named (map (noted_sub b) vs) u.name) u
        ≡ sub_unless_same b (if c then Some v else find (λ (q : Subscription). bytes_eq q.name u.name) vs) a u
    by true more = refl
    by false more = more

pub subs_are : (b a : Broker) (us : List Subscription) → subs_told a (map (noted_sub b) b.subs) us ≡ other_subs b a us
subs_are b a [] = refl
subs_are b a (u ∷ us) =
    ap (λ (cs : List ReportChange). cs ++ subs_told a (map (noted_sub b) b.subs) us) (sub_is b a b.subs u)
    ∙ ap (λ (cs : List ReportChange). sub_unless_same b (sub_named b.subs u.name) a u ++ cs) (subs_are b a us)

-- ---- entries

lines_are : (ls : List (List ℕ)) → map change_line (map (λ (l : List ℕ). NewEntry l) ls) ≡ ls
lines_are [] = refl
lines_are (l ∷ ls) = ap (λ (t : List (List ℕ)). l ∷ t) (lines_are ls)

-- ---- all of a broker

pub added : (i : Indent) (xs ys : List ReportChange) (old mid new : List ℕ) → mid ≡ old ++ stood_lines i (map change_line xs) → new ≡ mid ++ stood_lines i (map change_line ys)
    → new ≡ old ++ stood_lines i (map change_line (xs ++ ys))
added i xs ys old mid new one two =
    two
    ∙ (ap (λ (t : List ℕ). t ++ stood_lines i (map change_line ys)) one
    ∙ (append_assoc old (stood_lines i (map change_line xs)) (stood_lines i (map change_line ys)) ∙ ap (λ (t : List ℕ). old ++ t) (sym (stood_both i xs ys))))

pub all_changes : (names : List (List ℕ)) (own n : ℕ) (b a : Broker) (ks : List NotedSub) (i : Indent) (old one two three four : List ℕ)
    → n ≡ length b.entries → ks ≡ map (noted_sub b) b.subs
    → one ≡ old ++ stood_lines i (entry_lines names a.ledgers n (drop n a.entries))
    → two ≡ one ++ stood_lines i (map change_line (other_replicators own 0 names b a))
    → three ≡ two ++ stood_lines i (map change_line (gone_told a ks))
    → four ≡ three ++ stood_lines i (map change_line (subs_told a ks a.subs))
    → four ≡ old ++ stood_lines i (map change_line (broker_changes names own b a))
all_changes names own n b a ks i old one two three four many noted p q r s =
    let entries : one ≡ old ++ stood_lines i (map change_line (new_entries names b a)) =
    p
    ∙ (ap (λ (m : ℕ). old ++ stood_lines i (entry_lines names a.ledgers m (drop m a.entries))) many
    ∙ ap (λ (ls : List (List ℕ)). old ++ stood_lines i ls) (sym (lines_are (entry_lines names a.ledgers (length b.entries) (drop (length b.entries) a.entries))))) in
    let gone : three ≡ two ++ stood_lines i (map change_line (gone_subs b a)) =
    r ∙ ap (λ (cs : List ReportChange). two ++ stood_lines i (map change_line cs)) (ap (λ (ls : List NotedSub). gone_told a ls) noted ∙ gone_is b a b.subs) in
    let other : four ≡ three ++ stood_lines i (map change_line (other_subs b a a.subs)) =
    s ∙ ap (λ (cs : List ReportChange). three ++ stood_lines i (map change_line cs)) (ap (λ (ls : List NotedSub). subs_told a ls a.subs) noted ∙ subs_are b a a.subs) in
    added i (new_entries names b a) (other_replicators own 0 names b a ++ (gone_subs b a ++ other_subs b a a.subs)) old one four entries
    (added i (other_replicators own 0 names b a) (gone_subs b a ++ other_subs b a a.subs) one two four q
    (added i (gone_subs b a) (other_subs b a a.subs) two three four gone other))

-- ---- a client

gots_are : (names : List (List ℕ)) (is : List Ident) → map change_line (map (λ (i : Ident). NewGot (got_line names i)) is) ≡ map (got_line names) is
gots_are names [] = refl
gots_are names (i ∷ is) = ap (λ (t : List (List ℕ)). got_line names i ∷ t) (gots_are names is)

pub client_added : (s : Setup) (d : Declared) (k m : Client) (n : NotedClient) (old one two new : List ℕ) → n ≡ noted_client k → same_noted n (noted_client m) ≡ false
    → one ≡ old ++ spaces indent.Step → two ≡ one ++ (client_line s d m ++ 10 ∷ []) → new ≡ two ++ stood_lines indent.Step (map (got_line s.clusters) (drop n.got m.got))
    → new ≡ old ++ stood_lines indent.Step (map change_line (client_told s d k m))
client_added s d k m n old one two new is other p q r =
    let rest = map (got_line s.clusters) (drop (length k.got) m.got) in
    let gots : new ≡ two ++ stood_lines indent.Step rest = r ∙ ap (λ (j : NotedClient). two ++ stood_lines indent.Step (map (got_line s.clusters) (drop j.got m.got))) is in
    let told : map change_line (client_told s d k m) ≡ client_line s d m ∷ rest =
    ap (λ (b : Bool). map change_line (if b then [] else ClientNow (client_line s d m) ∷ new_got s.clusters k m)) (ap (λ (j : NotedClient). same_noted j (noted_client m)) (sym is) ∙ other)
    ∙ ap (λ (t : List (List ℕ)). client_line s d m ∷ t) (gots_are s.clusters (drop (length k.got) m.got)) in
    gots ∙ (next_line indent.Step (client_line s d m) rest old one two p q ∙ ap (λ (t : List (List ℕ)). old ++ stood_lines indent.Step t) (sym told))

-- what it got, from a place on; one at a time
pub got_next : (names : List (List ℕ)) (is one : List Ident) (k : ℕ) (old mid new whole : List ℕ) → k < length is → one ≡ take 1 (drop k is)
    → mid ≡ old ++ spaces indent.Step → new ≡ mid ++ with_line_feeds (map (got_line names) one)
    → old ++ stood_lines indent.Step (map (got_line names) (drop k is)) ≡ whole
    → new ++ stood_lines indent.Step (map (got_line names) (drop (k + 1) is)) ≡ whole
got_next names is one k old mid new whole lt single p q before =
    let h = item is k lt in
    let here : drop k is ≡ h.0 ∷ drop (k + 1) is = drop_here is k h.0 h.1 in
    let this : one ≡ h.0 ∷ [] = single ∙ ap (λ (js : List Ident). take 1 js) here in
    next_line indent.Step (got_line names h.0) (map (got_line names) (drop (k + 1) is)) old mid new p (q ∙ ap (λ (js : List Ident). mid ++ with_line_feeds (map (got_line names) js)) this)
    ∙ (ap (λ (js : List Ident). old ++ stood_lines indent.Step (map (got_line names) js)) (sym here) ∙ before)

-- ---- a list to which one is added

pub index_first : {X : Type 0} (xs ys : List X) (k : ℕ) (d : X) → k < length xs → slice_index_or (xs ++ ys) k d ≡ slice_index_or xs k d
index_first [] ys k d lt = absurd (omega (arith, lt))
index_first (x ∷ xs) ys zero d lt = refl
index_first (x ∷ xs) ys (suc k) d lt = index_first xs ys k d (omega (arith, lt))

pub below_or : (y n : ℕ) → y < n + 1 → (y ≡ n → ⊥) → y < n
below_or y n lt apart = by (eq-or-lt_of_le (at_most y n lt))
  where
    at_most : (k m : ℕ) → k < m + 1 → k ≤ m
    at_most k m low = omega (arith, low)

    by : (y ≡ n) ⊎ (y < n) → y < n
    by (inl here) = absurd (apart here)
    by (inr low) = low

-- ---- a subscription at a place

pub at_is : (us : List Subscription) (k : ℕ) (v : Subscription) → slice_get us k ≡ Some v → v ≡ sub_at us k
at_is [] k v h = cc
at_is (u ∷ us) zero v h = cc
at_is (u ∷ us) (suc k) v h = at_is us k v h

abbrev sub_words : List ℕ → SubShown → List ℕ
sub_words n k = words (codes "sub" ∷ n ∷ shown_kind k.kind ∷ shown_replicated k.is_replicated ∷ codes "mark" ∷ decimal k.mark ∷ codes "backlog" ∷ decimal k.backlog ∷ shown_seeks k.seeks)

pub sub_whole : (a : Broker) (ks : List NotedSub) (us : List Subscription) (k : ℕ) (v : Subscription) (now : SubShown) (o : Option SubShown) (name bytes : List ℕ) (told : Bool) (i : Indent)
    (old mid new : List ℕ) (r : Result (Unit {0}) Memory) → slice_get us k ≡ Some v → now ≡ shown_sub a (sub_at us k) → name ≡ v.name → bytes ≡ name → o ≡ shown_named ks bytes → told ≡ same_before o now → told ≡ false
    → mid ≡ old ++ spaces i → OnOk r (new ≡ mid ++ (sub_words name now ++ 10 ∷ []))
    → OnOk r (new ≡ old ++ stood_lines i (map change_line (sub_told a (shown_named ks (sub_at us k).name) (sub_at us k))))
sub_whole a ks us k v now o name bytes told i old mid new (Err f) at shown named is found same other p q = tt
sub_whole a ks us k v now o name bytes told i old mid new (Ok unit) at shown named is found same other p q =
    let u = sub_at us k in
    let title : name ≡ u.name = named ∙ ap (λ (z : Subscription). z.name) (at_is us k v at) in
    let before : o ≡ shown_named ks u.name = found ∙ ap (λ (n : List ℕ). shown_named ks n) (is ∙ title) in
    let differs : same_before (shown_named ks u.name) (shown_sub a u) ≡ false =
    ap (λ (z : Option SubShown). same_before z (shown_sub a u)) (sym before) ∙ (ap (λ (z : SubShown). same_before o z) (sym shown) ∙ (sym same ∙ other)) in
    let line : new ≡ mid ++ (sub_line a u ++ 10 ∷ []) =
    q ∙ (ap (λ (n : List ℕ). mid ++ (sub_words n now ++ 10 ∷ [])) title ∙ ap (λ (z : SubShown). mid ++ (sub_words u.name z ++ 10 ∷ [])) shown) in
    sym (append-nil new)
    ∙ (next_line i (sub_line a u) [] old mid new p line
    ∙ ap (λ (b : Bool). old ++ stood_lines i (map change_line (if b then [] else SubNow u.name (sub_line a u) ∷ []))) (sym differs))

-- ---- a slice of one

pub one_got : (is : List Ident) (k : ℕ) → slice_range is k (k + 1) ≡ take 1 (drop k is)
one_got is k = let one : (k + 1) - k ≡ 1 = omega arith in ap (λ (n : ℕ). take n (drop k is)) one

-- ---- all of a broker, of a result

pub all_changes_on : (names : List (List ℕ)) (own : ℕ) (b a : Broker) (k : NotedBroker) (gs os : List NotedSub) (i : Indent) (old one two three four : List ℕ) (r : Result (Unit {0}) Memory)
    → IsNoted (length names) b k → gs ≡ k.subs.items → os ≡ k.subs.items
    → one ≡ old ++ stood_lines i (entry_lines names a.ledgers k.entries (drop k.entries a.entries))
    → two ≡ one ++ stood_lines i (map change_line (other_replicators own 0 names b a))
    → three ≡ two ++ stood_lines i (map change_line (gone_told a gs))
    → OnOk r (four ≡ three ++ stood_lines i (map change_line (subs_told a os a.subs)))
    → OnOk r (four ≡ old ++ stood_lines i (map change_line (broker_changes names own b a)))
all_changes_on names own b a k gs os i old one two three four (Err f) noted gone other p q g s = tt
all_changes_on names own b a k gs os i old one two three four (Ok u) noted gone other p q g s =
    all_changes names own k.entries b a k.subs.items i old one two three four noted.entries noted.subs p q
    (g ∙ ap (λ (ks : List NotedSub). two ++ stood_lines i (map change_line (gone_told a ks))) gone)
    (s ∙ ap (λ (ks : List NotedSub). three ++ stood_lines i (map change_line (subs_told a ks a.subs))) other)

pub client_added_on : (s : Setup) (d : Declared) (k m : Client) (n : NotedClient) (old one two new : List ℕ) (names : List (List ℕ)) (got : List Ident) (r : Result (Unit {0}) Memory) → n ≡ noted_client k
    → same_noted n (noted_client m) ≡ false → names ≡ s.clusters → got ≡ m.got → one ≡ old ++ spaces indent.Step → two ≡ one ++ (client_line s d m ++ 10 ∷ [])
    → OnOk r (new ≡ two ++ stood_lines indent.Step (map (got_line names) (drop n.got got)))
    → OnOk r (new ≡ old ++ stood_lines indent.Step (map change_line (client_told s d k m)))
client_added_on s d k m n old one two new names got (Err f) is other known same p q t = tt
client_added_on s d k m n old one two new names got (Ok u) is other known same p q t =
    client_added s d k m n old one two new is other p q
    (t
    ∙ (ap (λ (ns : List (List ℕ)). two ++ stood_lines indent.Step (map (got_line ns) (drop n.got got))) known
    ∙ ap (λ (gs : List Ident). two ++ stood_lines indent.Step (map (got_line s.clusters) (drop n.got gs))) same))
