-- The subscriptions of other names than one, from one place to the next.
use Rattle.std.proofs.Common.{◌≡◌, ℕ, ◌+◌, ◌<◌, Bool, true, false, not, List, [], ◌∷◌, ◌++◌, length, map, take, refl, sym, ◌∙◌, ap}
use Rattle.std.proofs.lemmas.List.{append-nil, map-append, take_more}
use Rattle.std.specs.Prelude.{filter, if◌then◌else◌}
use Rattle.std.specs.Str.{bytes_eq}
use Rattle.broker_subs.specs.Table.{sub_at}
use Rattle.geo_base.specs.declared.frame.SubKind.TheVariants as sub_kind
use Rattle.geo_base.specs.Broker.{Broker, backlog}
use Rattle.geo_base.specs.Subscription.{Subscription, new_subscription}
use Rattle.step_lines.specs.Backlogs.{is_other}

filter_end : (p : Subscription → Bool) (vs : List Subscription) (u : Subscription) → filter p (vs ++ u ∷ []) ≡ filter p vs ++ (if p u then u ∷ [] else [])
filter_end p [] u = refl
filter_end p (v ∷ vs) u = by (p v) (filter_end p vs u)
  where
    by : (t : Bool) → filter p (vs ++ u ∷ []) ≡ filter p vs ++ (if p u then u ∷ [] else [])
        → (if t then v ∷ filter p (vs ++ u ∷ []) else filter p (vs ++ u ∷ [])) ≡ (if t then v ∷ filter p vs else filter p vs) ++ (if p u then u ∷ [] else [])
    by true h = ap (λ (us : List Subscription). v ∷ us) h
    by false h = h

others_step : (n : List ℕ) (vs : List Subscription) (k : ℕ) → k < length vs
    → filter (is_other n) (take (k + 1) vs) ≡ filter (is_other n) (take k vs) ++ (if is_other n (sub_at vs k) then sub_at vs k ∷ [] else [])
others_step n vs k lt = ap (filter (is_other n)) (take_more vs k (new_subscription [] sub_kind.Exclusive false []) lt) ∙ filter_end (is_other n) (take k vs) (sub_at vs k)

pub others_next : (b : Broker) (n : List ℕ) (k c : ℕ) (old new : List ℕ) → k < length b.subs → bytes_eq (sub_at b.subs k).name n ≡ false → c ≡ backlog b (sub_at b.subs k)
    → old ≡ map (backlog b) (filter (is_other n) (take k b.subs)) → new ≡ old ++ c ∷ [] → new ≡ map (backlog b) (filter (is_other n) (take (k + 1) b.subs))
others_next b n k c old new lt other is are pushed =
    let v = sub_at b.subs k in let vs : List Subscription = filter (is_other n) (take k b.subs) in
    let all : filter (is_other n) (take (k + 1) b.subs) ≡ vs ++ v ∷ [] = others_step n b.subs k lt ∙ ap (λ (t : Bool). vs ++ (if not t then v ∷ [] else [])) other in
    pushed
    ∙ (ap (λ (ns : List ℕ). ns ++ c ∷ []) are
    ∙ (ap (λ (m : ℕ). map (backlog b) vs ++ m ∷ []) is ∙ (sym (map-append (backlog b) vs (v ∷ [])) ∙ ap (λ (us : List Subscription). map (backlog b) us) (sym all))))

pub others_same : (b : Broker) (n : List ℕ) (k : ℕ) (old : List ℕ) → k < length b.subs → bytes_eq (sub_at b.subs k).name n ≡ true → old ≡ map (backlog b) (filter (is_other n) (take k b.subs))
    → old ≡ map (backlog b) (filter (is_other n) (take (k + 1) b.subs))
others_same b n k old lt named are =
    let v = sub_at b.subs k in let vs : List Subscription = filter (is_other n) (take k b.subs) in
    let all : filter (is_other n) (take (k + 1) b.subs) ≡ vs = others_step n b.subs k lt ∙ (ap (λ (t : Bool). vs ++ (if not t then v ∷ [] else [])) named ∙ append-nil vs) in
    are ∙ ap (λ (us : List Subscription). map (backlog b) us) (sym all)
