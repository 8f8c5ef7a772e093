-- What is missing is an end: of what x has for y, the messages after as much of it as stands at y. Nothing of the first part is missing,
-- since it stands there; and all of the rest is, since no identity stands twice at x.
use Rattle.std.proofs.Common.{◌≡◌, ℕ, ◌+◌, ◌<◌, Bool, true, false, List, ◌++◌, length, refl, sym, ap, subst, ◌∙◌, arith, ◌==◌}
use Rattle.std.specs.Prelude.{Some, ◌&&◌, not, filter, slice_get}
use Rattle.std.proofs.lemmas.Bool.{and_from, and_parts, eq-eqb, eqb-true, false_from_ne_true}
use Rattle.std.proofs.lemmas.List.Elements.{filter-append}
use Rattle.std.proofs.lemmas.Option.{slice_get_within}
use Rattle.geo_base.specs.declared.entry.Entry.{Entry}
use Rattle.geo_base.specs.declared.entry.Ident.{Ident}
use Rattle.geo_base.specs.Broker.{Broker}
use Rattle.geo_base.specs.Entry.{goes_to, is_data, is_outbound, same_ident, same_stream}
use Rattle.geo_base.specs.Laws.{IsPrefix, of_origin, outbound}
use Rattle.geo_base.specs.Moments.{world_at, world_between}
use Rattle.geo_base.specs.Run.{run, run_under}
use Rattle.geo_base.specs.Safe.{AllOnce, IsOnce}
use Rattle.geo_base.specs.Setup.{Setup}
use Rattle.geo_base.specs.World.{World, node, topic_at}
use Rattle.world_laws.proofs.OnceInOrder.Members.{Stands, from_filter, get_left, get_right, to_filter}
use Rattle.world_laws.proofs.OnceInOrder.Once.{OnceIn, once_always}
use Rattle.world_laws.proofs.Replicating.Pairs.{prefix_always}
use Rattle.world_laws.proofs.Replicating.Prefixes.{filter_order, same_self}
use Rattle.loss_laws.specs.Lost.{missing, stands}
use Rattle.loss_laws.specs.LossLaws.{LawMissing, MissingIsEnd}
use Rattle.loss_laws.proofs.Chosen.{chosen_is, filter_both, filter_none, filter_same, has_one, stands_there}

abbrev is_message : Entry → Bool
is_message e = is_data e.content

-- what is missing among what x has for y
abbrev not_there : List Entry → Entry → Bool
not_there ys e = is_message e && not (stands ys e.ident)

nothing_not : (b c : Bool) → c ≡ true → (b && not c) ≡ false
nothing_not true c h = ap not h
nothing_not false c h = refl

all_not : (b c : Bool) → c ≡ false → (b && not c) ≡ b
all_not true c h = ap not h
all_not false c h = refl

together : (a b c : Bool) → ((a && b) && c) ≡ (a && (b && c))
together true b c = refl
together false b c = refl

self : (g : Ident) → same_ident g g ≡ true
self g = and_from (same_stream g g) (g.seq == g.seq) (same_self g) (eq-eqb g.seq g.seq refl)

-- of what stands at y nothing is missing
front_there : (x : ℕ) (ys : List Entry) (e : Entry) → Stands (of_origin x ys) e → not_there ys e ≡ false
front_there x ys e s =
    nothing_not (is_message e) (stands ys e.ident)
    (stands_there ys e e.ident (from_filter (λ (f : Entry). f.ident.origin == x) ys e s).stands (self e.ident))

-- an entry of the rest that stands at y too stands twice at x
no_second : (x y : ℕ) (xs ys rest : List Entry) (e f : Entry) (j : ℕ) → OnceIn xs → outbound x y xs ≡ of_origin x ys ++ rest
    → slice_get rest j ≡ Some e → Stands ys f → same_ident f.ident e.ident ≡ true → ⊥
no_second x y xs ys rest e f j once whole at there same =
    let both = and_parts (same_stream f.ident e.ident) (f.ident.seq == e.ident.seq) same in
    let seq : f.ident.seq ≡ e.ident.seq = eqb-true f.ident.seq e.ident.seq both.1 in
    let front = of_origin x ys in
    let here : slice_get (outbound x y xs) (length front + j) ≡ Some e =
    subst (λ (l : List Entry). slice_get l (length front + j) ≡ Some e) (sym whole) (get_right front rest j ∙ at) in
    let passes = (from_filter (is_outbound x y) xs e (record { place = length front + j; is = here })).passes in
    let own : e.ident.origin ≡ x = eqb-true e.ident.origin x (and_parts (e.ident.origin == x) (goes_to y e.to) passes).0 in
    let origin : f.ident.origin ≡ e.ident.origin = eqb-true f.ident.origin e.ident.origin (and_parts _ _ both.0).0 in
    let first = to_filter (λ (d : Entry). d.ident.origin == x) ys f there.place there.is (eq-eqb f.ident.origin x (origin ∙ own)) in
    let before : first.place < length front + j = omega (arith, slice_get_within front first.place f first.is) in
    let at_first : slice_get (outbound x y xs) first.place ≡ Some f =
    subst (λ (l : List Entry). slice_get l first.place ≡ Some f) (sym whole) (get_left front rest first.place f first.is) in
    let order = filter_order (is_outbound x y) xs f e first.place (length front + j) before at_first here in
    let less = once order.i order.j f e order.before order.at_i order.at_j both.0 in
    omega (arith, less, seq)

-- and all of the rest is
rest_not : (x y : ℕ) (xs ys rest : List Entry) (e : Entry) → OnceIn xs → outbound x y xs ≡ of_origin x ys ++ rest → Stands rest e → not_there ys e ≡ is_message e
rest_not x y xs ys rest e once whole s =
    all_not (is_message e) (stands ys e.ident) (false_from_ne_true (stands ys e.ident) (λ here.
    let one = has_one 0 ys e.ident here in no_second x y xs ys rest e one.entry s.place once whole s.is one.there one.same))

missing_of : (x y : ℕ) (b c : Broker) (rest : List Entry) → IsOnce b → outbound x y b.entries ≡ of_origin x c.entries ++ rest
    → missing x y b c ≡ filter is_message rest
missing_of x y b c rest once whole =
    let xs = b.entries in let ys = c.entries in let front = of_origin x ys in
    let p : Entry → Bool = λ e. is_outbound x y e && not_there ys e in
    let q : Entry → Bool = λ e. (is_outbound x y e && is_message e) && not (stands ys e.ident) in
    chosen_is q 0 xs
    ∙ (filter_same q p xs (λ e s. together (is_outbound x y e) (is_message e) (not (stands ys e.ident)))
    ∙ (filter_both (is_outbound x y) (not_there ys) xs
    ∙ (ap (filter (not_there ys)) whole
    ∙ (filter-append (not_there ys) front rest
    ∙ (ap (λ (l : List Entry). l ++ filter (not_there ys) rest) (filter_none (not_there ys) front (front_there x ys))
    ∙ filter_same (not_there ys) is_message rest (λ e s. rest_not x y xs ys rest e once whole s))))))

ends : (s : Setup) (w : World) → IsPrefix s w → AllOnce w → MissingIsEnd s w
ends s w prefix once t x y pair =
    let p = prefix t x y pair in (p.0, p.1, missing_of x y (topic_at s w t x) (topic_at s w t y) p.0 (once (node s t x)) p.1)

pub missing_law : LawMissing
missing_law s =
    let p = prefix_always s in let o = once_always s in
    record {
      run = λ es. ends s (run s es) (p.run es) (o.run es);
      limited = λ l es. ends s (run_under l s es).world (p.limited l es) (o.limited l es);
      between = λ l es at. ends s (world_between l s es at) (p.between l es at) (o.between l es at);
      moment = λ l m. ends s (world_at l s m) (p.moment l m) (o.moment l m);
    }
