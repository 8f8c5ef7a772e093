-- One offer: what is least due is due no more, and the permits suffice for what is left.
use Rattle.std.proofs.Common.{◌≡◌, ℕ, zero, suc, ◌+◌, ◌<◌, ◌≤◌, Bool, true, false, List, [], ◌∷◌, ◌++◌, length, map, filter, refl, sym, ap, subst, ◌∙◌, ◌==◌, arith, inl, inr, nat_le, max, not}
use Rattle.std.specs.Prelude.{Some, if◌then◌else◌, ◌&&◌, ◌||◌, slice_get}
use Rattle.std.specs.List.{list_any}
use Rattle.std.specs.Str.{bytes_eq}
use Rattle.std.proofs.lemmas.Bool.{eqb-true, eq-eqb, false≢true}
use Rattle.std.proofs.lemmas.Bool.Decides.{nat_tests}
use Rattle.std.proofs.lemmas.Option.{none-some, same_Some}
use Rattle.std.proofs.lemmas.Slice.Eq.{bytes_eq-Decides}
use Rattle.world_laws.proofs.Types.{Consumer, Entry, SubKind}
use Rattle.world_laws.proofs.Types.change
use Rattle.geo_base.specs.Broker.{Broker, Site, sub_named}
use Rattle.geo_base.specs.Cursor.{has, with_indexes}
use Rattle.geo_base.specs.Dispatcher.{consumer_at, given, is_due, least_due, skipped_index, pick, served}
use Rattle.geo_base.specs.Entry.{is_data, key_bytes}
use Rattle.geo_base.specs.Laws.{due_from, has_permits}
use Rattle.geo_base.specs.Offering.{message}
use Rattle.geo_base.specs.Plan.{done, plan_of}
use Rattle.geo_base.specs.Subscription.{Subscription, after_acks, is_of, with_acks}
use Rattle.world_laws.proofs.Replicating.Cursors.{has_it}
use Rattle.world_laws.proofs.Dispatching.Dispatched.{permitted_there, served_stay}
use Rattle.world_laws.proofs.Dispatching.DueCounts.{due_falls_at, due_fewer, due_push, permits_fewer, served_permits}
use Rattle.world_laws.proofs.OnceInOrder.Members.{get_push}
use Rattle.world_laws.proofs.Merges.PeerWalk.{pick_has}
use Rattle.world_laws.proofs.Dispatching.Remembers.{IsLeast, before_more, has_fewer, has_out, is_false, least_due_is, unlike}
use Rattle.world_laws.proofs.Dispatching.SubFrames.{at_name, named_same}
use Rattle.world_laws.proofs.Walks.Walk.{by_test}
use Rattle.geo_base.proofs.Sums.{le_of_max}

-- a name finds the same subscription again
pub named_map : (f : Subscription → Subscription) → ((u : Subscription) → (f u).name ≡ u.name) → (vs : List Subscription) (n : List ℕ) (v : Subscription) → sub_named vs n ≡ Some v
    → sub_named (map f vs) n ≡ Some (f v)
named_map f same [] n v e = absurd (none-some v e)
named_map f same (u ∷ vs) n v e = by (bytes_eq u.name n) refl e (named_map f same vs n v)
  where
    by : (t : Bool) → bytes_eq u.name n ≡ t → (if t then Some u else sub_named vs n) ≡ Some v → (sub_named vs n ≡ Some v → sub_named (map f vs) n ≡ Some (f v))
        → (if bytes_eq (f u).name n then Some (f u) else sub_named (map f vs) n) ≡ Some (f v)
    by true is e ih =
        ap (λ (t : Bool). if t then Some (f u) else sub_named (map f vs) n) (ap (λ (m : List ℕ). bytes_eq m n) (same u) ∙ is) ∙ ap (λ (x : Subscription). Some (f x)) (same_Some u v e)
    by false is e ih = ap (λ (t : Bool). if t then Some (f u) else sub_named (map f vs) n) (ap (λ (m : List ℕ). bytes_eq m n) (same u) ∙ is) ∙ ih e

pub at_own : (f : Subscription → Subscription) (v : Subscription) → at_name v.name f v ≡ f v
at_own f v = ap (λ (t : Bool). if t then f v else v) ((bytes_eq-Decides v.name v.name).1 refl)

pub named_at : (vs : List Subscription) (n m : List ℕ) (f : Subscription → Subscription) (v : Subscription) → ((u : Subscription) → (f u).name ≡ u.name) → sub_named vs n ≡ Some v
    → sub_named (map (at_name m f) vs) n ≡ Some (at_name m f v)
named_at vs n m f v same e = named_map (at_name m f) (named_same m f same) vs n v e

-- from v to u less is due: at least the index i
pub record Lowers (v u : Subscription) (i : ℕ) : Type 0 where
  pub less : (j : ℕ) → is_due u j ≡ true → is_due v j ≡ true
  pub gone : is_due u i ≡ false

due_parts : (a b c : Bool) → (not a && (b || c)) ≡ true → (a' b' c' : Bool) → (a ≡ false → a' ≡ false) → (b ≡ true → b' ≡ true) → (c ≡ true → c' ≡ true)
    → (not a' && (b' || c')) ≡ true
due_parts true b c h a' b' c' f g k = absurd (false≢true h)
due_parts false b c h true b' c' f g k = absurd (false≢true (sym (f refl)))
due_parts false true c h false b' c' f g k = ap (λ (t : Bool). t || c') (g refl)
due_parts false false c h false true c' f g k = refl
due_parts false false c h false false c' f g k = k h

still_due : (p : ℕ → Bool) (due : List ℕ) (j : ℕ) → has (filter p due) j ≡ true → has due j ≡ true
still_due p due j h = by_test (has due j) (λ is. is) (λ is. absurd (unlike _ h (has_fewer p due j is)))

read_past : (r i : ℕ) → nat_le (max r (i + 1)) i ≡ false
read_past r i = grind (arith, nat_tests)

not_due : (a b c : Bool) → b ≡ false → c ≡ false → (not a && (b || c)) ≡ false
not_due true b c h k = refl
not_due false true c h k = absurd (false≢true (sym h))
not_due false false c h k = k

acked_due : (a x : Bool) → a ≡ true → (not a && x) ≡ false
acked_due true x h = refl
acked_due false x h = absurd (false≢true h)

given_lowers : (v : Subscription) (i at : ℕ) → Lowers v (given i at v) i
given_lowers v i at = record {
  less = λ j h.
      due_parts (has v.cursor j) (has (filter (λ k. not (k == i)) v.due) j) (nat_le (max v.read_index (i + 1)) j) h (has v.cursor j) (has v.due j) (nat_le v.read_index j)
      (λ e. e) (still_due (λ k. not (k == i)) v.due j) (le_of_max v.read_index i j);
  gone = not_due (has v.cursor i) _ _ (has_out (λ k. not (k == i)) v.due i (ap not (eq-eqb i i refl))) (read_past v.read_index i);
}

abbrev pub after_marker : ℕ → Subscription → Subscription
after_marker i v = after_acks (skipped_index i (with_acks (i ∷ []) v))

pub marker_lowers : (v : Subscription) (i : ℕ) → Lowers v (after_marker i v) i
marker_lowers v i =
    let c = with_indexes v.cursor (i ∷ []) in
    let passed = filter (λ k. not (k == i)) v.due in
    record {
      less = λ j h.
          due_parts (has c j) (has (filter (λ k. not (has c k)) passed) j) (nat_le (max v.read_index (i + 1)) j) h (has v.cursor j) (has v.due j) (nat_le v.read_index j)
          (before_more (i ∷ []) v.cursor j) (λ e. still_due (λ k. not (k == i)) v.due j (still_due (λ k. not (has c k)) passed j e)) (le_of_max v.read_index i j);
      gone = acked_due (has c i) _ (has_it v.cursor i);
    }

-- a subscription that has been offered k times in vain or not, in a topic that had m entries before
pub record Serving (m k : ℕ) (n : List ℕ) (b : Broker) (v : Subscription) : Type 0 where
  pub named : sub_named b.subs n ≡ Some v
  pub some : 0 < length v.consumers
  pub permits : has_permits v.kind v.consumers (due_from v 0 b.entries) ≡ true
  pub longer : m ≤ length b.entries
  pub late : (i : ℕ) (e : Entry) → m ≤ i → slice_get b.entries i ≡ Some e → is_data e.content ≡ false
  pub clear : (j : ℕ) → j < k → j < m → is_due v j ≡ false

abbrev pub Served : ℕ → ℕ → List ℕ → Broker → Type 0
Served m k n b = (v : Subscription) × Serving m k n b v

-- the least index that is due is due no more, nor is one below it
next_clear : (m k i more : ℕ) (v u : Subscription) → Lowers v u i → least_due v more ≡ Some i → ((j : ℕ) → j < k → j < m → is_due v j ≡ false)
    → (j : ℕ) → j < suc k → j < m → is_due u j ≡ false
next_clear m k i more v u low e clear j lt small = is_false (is_due u j) (λ due. by due (low.less j due))
  where
    least : IsLeast v 0 more i
    least = least_due_is v 0 more i e

    by : is_due u j ≡ true → is_due v j ≡ true → ⊥
    by due before =
        by_test (j == i) (λ is. unlike (is_due u i) (subst (λ k. is_due u k ≡ true) (eqb-true j i is) due) low.gone)
        (λ other. by_test (nat_le j i)
        (λ le. unlike (is_due v j) before (least.before j (omega arith) (grind (arith, nat_tests, other, le))))
        (λ gt.
        let early : is_due v i ≡ false = clear i (grind (arith, nat_tests, gt, lt)) (grind (arith, nat_tests, gt, small)) in
        unlike (is_due v i) least.due early))

any_here : {X : Type 0} (p : X → Bool) (xs : List X) → list_any p xs ≡ true → 0 < length xs
any_here p [] h = absurd (false≢true h)
any_here p (x ∷ xs) h = omega arith

pub given_served : (h : Site) (b : Broker) (n : List ℕ) (m k i at : ℕ) (v : Subscription) (e : Entry) → Serving m k n b v → least_due v (length b.entries) ≡ Some i
    → slice_get b.entries i ≡ Some e → is_data e.content ≡ true → pick v.kind v.consumers (key_bytes e.meta.key) ≡ Some at
    → Served m (suc k) n (done h.per_ledger b (plan_of [] (change.Given v.name i at ∷ []) (message h b i e (consumer_at v.consumers at))))
given_served h b n m k i at v e s least stands plain picked =
    let low = given_lowers v i at in
    let l = least_due_is v 0 (length b.entries) i least in
    let here = any_here (is_of (consumer_at v.consumers at).client) (served v.kind v.consumers at)
    (served_stay v.kind (consumer_at v.consumers at).client at v.consumers (permitted_there at v.consumers (pick_has v.kind v.consumers (key_bytes e.meta.key) at picked))) in (
      given i at v,
      record {
        named = named_at b.subs n v.name (given i at) v (λ u. refl) s.named ∙ ap (λ (x : Subscription). Some x) (at_own (given i at) v);
        some = here;
        permits =
            served_permits v.kind v.consumers (key_bytes e.meta.key) at (due_from v 0 b.entries) (due_from (given i at v) 0 b.entries) picked
            (due_falls_at v (given i at v) low.less i b.entries e stands plain l.due low.gone) s.permits;
        longer = s.longer;
        late = s.late;
        clear = next_clear m k i (length b.entries) v (given i at v) low least s.clear;
      },
    )

-- a marker is passed: u is the subscription after it, and the topic may have an update marker more
kept_late : (es : List Entry) (f : Entry) (m : ℕ) → is_data f.content ≡ false → ((i : ℕ) (e : Entry) → m ≤ i → slice_get es i ≡ Some e → is_data e.content ≡ false)
    → (i : ℕ) (e : Entry) → m ≤ i → slice_get (es ++ f ∷ []) i ≡ Some e → is_data e.content ≡ false
kept_late es f m other late i e le at =
    elim (get_push es f i e at) [ inl old ↦ late i e le old.1 | inr new ↦ subst (λ (x : Entry). is_data x.content ≡ false) new.1 other ]

pub passed_served : (b b' : Broker) (n : List ℕ) (m k i : ℕ) (v u : Subscription) → Serving m k n b v → least_due v (length b.entries) ≡ Some i → Lowers v u i
    → u.kind ≡ v.kind → u.consumers ≡ v.consumers → sub_named b'.subs n ≡ Some u → b'.entries ≡ b.entries → Serving m (suc k) n b' u
passed_served b b' n m k i v u s least low kind consumers named same =
    let P : List Entry → Type 0 = λ es. has_permits v.kind v.consumers (due_from u 0 es) ≡ true in
    let enough : P b.entries = permits_fewer v.kind v.consumers (due_from v 0 b.entries) (due_from u 0 b.entries) (due_fewer v u low.less 0 b.entries) s.permits in
    let now : P b'.entries = subst P (sym same) enough in
    record {
      named = named;
      some = subst (λ (ks : List Consumer). 0 < length ks) (sym consumers) s.some;
      permits =
          subst (λ (t : SubKind). has_permits t u.consumers (due_from u 0 b'.entries) ≡ true) (sym kind)
          (subst (λ (ks : List Consumer). has_permits v.kind ks (due_from u 0 b'.entries) ≡ true) (sym consumers) now);
      longer = subst (λ (es : List Entry). m ≤ length es) (sym same) s.longer;
      late = λ j e le at. s.late j e le (subst (λ (es : List Entry). slice_get es j ≡ Some e) same at);
      clear = next_clear m k i (length b.entries) v u low least s.clear;
    }

pub pushed_served : (b b' : Broker) (n : List ℕ) (m k : ℕ) (f : Entry) (u : Subscription) → is_data f.content ≡ false → b'.entries ≡ b.entries ++ f ∷ [] → b'.subs ≡ b.subs
    → Serving m k n b u → Serving m k n b' u
pushed_served b b' n m k f u other same subs s =
    let P : List Entry → Type 0 = λ es. has_permits u.kind u.consumers (due_from u 0 es) ≡ true in
    let more = subst (λ d. has_permits u.kind u.consumers d ≡ true) (sym (due_push u 0 b.entries f other)) s.permits in
    let longer = s.longer in
    record {
      named = subst (λ (vs : List Subscription). sub_named vs n ≡ Some u) (sym subs) s.named;
      some = s.some;
      permits = subst P (sym same) more;
      longer = subst (λ (es : List Entry). m ≤ length es) (sym same) (push_longer b.entries f m longer);
      late = λ j e le at. kept_late b.entries f m other s.late j e le (subst (λ (es : List Entry). slice_get es j ≡ Some e) same at);
      clear = s.clear;
    }
  where
    push_longer : (es : List Entry) (f : Entry) (m : ℕ) → m ≤ length es → m ≤ length (es ++ f ∷ [])
    push_longer [] f m le = omega (arith, le)
    push_longer (e ∷ es) f zero le = omega arith
    push_longer (e ∷ es) f (suc m) le = let ih = push_longer es f m (omega (arith, le)) in omega (arith, ih)

-- a message that is least due is one that is due
pub due_one : (v : Subscription) (es : List Entry) (i : ℕ) (e : Entry) → IsLeast v 0 (length es) i → slice_get es i ≡ Some e → is_data e.content ≡ true → 1 ≤ due_from v 0 es
due_one v es i e l at plain =
    let low = given_lowers v i 0 in
    let falls = due_falls_at v (given i 0 v) low.less i es e at plain l.due low.gone in
    omega (arith, falls)
