-- The crews that are formed.
use Rattle.std.proofs.Common.{◌≡◌, ℕ, ◌+◌, ◌%◌, ◌<◌, Bool, true, false, List, [], ◌∷◌, ◌++◌, length, refl, sym, ap, subst, ◌∙◌, add-one, ◌==◌}
use Rattle.std.specs.Prelude.{min, slice_index_or}
use Rattle.std.proofs.lemmas.List.{get_or_default}
use Rattle.actors.specs.declared.role.Role.{Role}
use Rattle.actors.specs.declared.role.Role.TheVariants as role
use Rattle.actors.specs.Order.{roles_of}
use Rattle.live_run.specs.Crews.{crews_below, has_actor, member_if, member_of, members_below, members_in, members_of, most_actors}
use Rattle.live_run.specs.declared.crew.Crew.{Crew}
use Rattle.live_run.specs.declared.crew.Member.{Member}
use Rattle.script_text.specs.Script.{Script}

pub no_more : (l : List Member) → l ++ [] ≡ l
no_more [] = refl
no_more (m ∷ l) = ap (λ (k : List Member). m ∷ k) (no_more l)

pub none : (s : Script) (rs : List Role) (k w : ℕ) → [] ≡ members_below s rs k w 0
unfolding members_below
none s rs k w = refl

next : (s : Script) (rs : List Role) (k w n : ℕ) (d : Role) → n < length rs
    → members_below s rs k w (n + 1) ≡ members_below s rs k w n ++ has_actor n k w (member_of s n (slice_index_or rs n d))
unfolding members_below
next s rs k w n d lt =
    ap (members_below s rs k w) (add-one n) ∙ ap (λ (r : Role). members_below s rs k w n ++ has_actor n k w (member_of s n r)) (get_or_default rs n (role.Client 0) d lt)

pub no_actor : (own : Bool) (ms : List Member) (m : Member) → own ≡ false → ms ≡ ms ++ member_if own m
no_actor own ms m is = sym (no_more ms) ∙ ap (λ (b : Bool). ms ++ member_if b m) (sym is)

pub own_actor : (own : Bool) (ms ms' : List Member) (m x : Member) → own ≡ true → x ≡ m → ms' ≡ ms ++ x ∷ [] → ms' ≡ ms ++ member_if own m
own_actor own ms ms' m x is same pushed = pushed ∙ ap (λ (y : Member). ms ++ y ∷ []) same ∙ ap (λ (b : Bool). ms ++ member_if b m) (sym is)

pub one_more : (s : Script) (rs : List Role) (k w n : ℕ) (d : Role) (own : Bool) (ms ms' : List Member) → n < length rs → own ≡ (n % w == k) → ms ≡ members_below s rs k w n
    → ms' ≡ ms ++ member_if own (member_of s n (slice_index_or rs n d)) → ms' ≡ members_below s rs k w (n + 1)
one_more s rs k w n d own ms ms' lt is before added =
    added ∙ ap (λ (l : List Member). l ++ member_if own (member_of s n (slice_index_or rs n d))) before
    ∙ ap (λ (b : Bool). members_below s rs k w n ++ member_if b (member_of s n (slice_index_or rs n d))) is ∙ sym (next s rs k w n d lt)

-- ---- all crews

pub no_crews : (s : Script) (w : ℕ) (cs : List Crew) → cs ≡ [] → members_in cs ≡ crews_below s w 0
unfolding crews_below
no_crews s w cs is = ap members_in is

last_in : (cs : List Crew) (c : Crew) → members_in (cs ++ c ∷ []) ≡ members_in cs ++ c.members.items ∷ []
last_in [] c = refl
last_in (d ∷ cs) c = ap (λ (l : List (List Member)). d.members.items ∷ l) (last_in cs c)

next_crew : (s : Script) (w n : ℕ) → crews_below s w (n + 1) ≡ crews_below s w n ++ members_of s w n ∷ []
unfolding crews_below
next_crew s w n = ap (crews_below s w) (add-one n)

pub one_crew : (s : Script) (w n : ℕ) (rs qs : List Role) (cs cs' : List Crew) (c : Crew) → rs ≡ qs → qs ≡ roles_of s.setup → members_in cs ≡ crews_below s w n
    → c.members.items ≡ members_below s rs n w (min (length rs) most_actors) → cs' ≡ cs ++ c ∷ [] → members_in cs' ≡ crews_below s w (n + 1)
one_crew s w n rs qs cs cs' c is all before members pushed =
    ap members_in pushed ∙ last_in cs c ∙ ap (λ (l : List (List Member)). l ++ c.members.items ∷ []) before
    ∙ ap (λ (ms : List Member). crews_below s w n ++ ms ∷ []) (members ∙ ap (λ (l : List Role). members_below s l n w (min (length l) most_actors)) (is ∙ all))
    ∙ sym (next_crew s w n)
