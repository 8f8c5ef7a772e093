-- Order between topics, as statements on lists.
use Rattle.std.proofs.Common.{◌≡◌, ℕ, zero, suc, ◌+◌, ◌<◌, ◌≤◌, true, List, ◌∷◌, ◌++◌, length, sym, subst, ◌∙◌, arith, inl, inr}
use Rattle.std.specs.Prelude.{Some, slice_get}
use Rattle.std.proofs.lemmas.Option.{slice_get_within}
use Rattle.world_laws.proofs.Types.{Entry}
use Rattle.geo_base.specs.Entry.{is_outbound}
use Rattle.geo_base.specs.Laws.{of_origin, outbound}
use Rattle.world_laws.proofs.OnceInOrder.Members.{Cuts, Passes, Stands, below_or, from_filter, get_left, get_right, get_within, stands_left, to_filter}
use Rattle.world_laws.proofs.OnceInOrder.Once.{OnceIn}
use Rattle.world_laws.proofs.Replicating.Prefixes.{Begins, InOrder, IsCutAt, before_cut, cut_at, filter_order, is_of, not_twice, of_out, same_self}

-- an entry stands below an index
pub record Below (es : List Entry) (k : ℕ) (f : Entry) : Type 0 where
  pub place : ℕ
  pub below : place < k
  pub is : slice_get es place ≡ Some f

twice : (es : List Entry) (e : Entry) → OnceIn es → (i j : ℕ) → i < j → slice_get es i ≡ Some e → slice_get es j ≡ Some e → ⊥
twice es e once i j lt gi gj = let h = once i j e e lt gi gj (same_self e.ident) in omega (arith, h)

-- what y has of x stands at x, and goes to y
pub source_passes : (x y : ℕ) (near far : List Entry) → Begins x y near far → (i : ℕ) (f : Entry) → slice_get far i ≡ Some f → is_of x f ≡ true → Passes (is_outbound x y) near f
source_passes x y near far begins i f at of =
    let P : List Entry → Type 0 = λ l. Stands l f in
    let s : Stands (of_origin x far) f = to_filter (is_of x) far f i at of in
    from_filter (is_outbound x y) near f (subst P (sym begins.1) (stands_left (of_origin x far) begins.0 f s))

pub of_source : (x y : ℕ) (near far : List Entry) → Begins x y near far → (i : ℕ) (f : Entry) → slice_get far i ≡ Some f → is_of x f ≡ true → Stands near f
of_source x y near far begins i f at of = (source_passes x y near far begins i f at of).stands

-- what stood at y, of x, before an entry of y that x has, stands at x before that entry
abbrev pub Follows : ℕ → ℕ → List Entry → List Entry → Type 0
Follows x y a b = (k j i : ℕ) (e f : Entry) → slice_get a k ≡ Some e → slice_get b j ≡ Some e → is_of y e ≡ true
    → slice_get b i ≡ Some f → i < j → is_of x f ≡ true → Below a k f

pub follows_near : (x y : ℕ) (a more b : List Entry) → Begins x y a b → Follows x y a b → Follows x y (a ++ more) b
follows_near x y a more b begins h k j i e f at_k at_j of at_i lt from =
    elim (below_or k (length a)) [
      | inl low ↦
          let r = h k j i e f (sym (get_within a more k low) ∙ at_k) at_j of at_i lt from in
          record { place = r.place; below = r.below; is = get_left a more r.place f r.is }
      | inr high ↦
          let s = of_source x y a b begins i f at_i from in
          record { place = s.place; below = omega (arith, high, slice_get_within a s.place f s.is); is = get_left a more s.place f s.is }
    ]

pub follows_far : (x y : ℕ) (a b more : List Entry) → Begins y x b a → OnceIn (b ++ more) → Follows x y a b → Follows x y a (b ++ more)
follows_far x y a b more begins once h k j i e f at_k at_j of at_i lt from =
    elim (below_or j (length b)) [
      | inl low ↦ h k j i e f at_k (sym (get_within b more j low) ∙ at_j) of (sym (get_within b more i (omega (arith, low, lt))) ∙ at_i) lt from
      | inr high ↦
          let s = of_source y x b a begins k e at_k of in
          absurd (twice (b ++ more) e once s.place j (omega (arith, high, slice_get_within b s.place e s.is)) (get_left b more s.place e s.is) at_j)
    ]

-- what stood at y, of c, before an entry r of y that x had before its own g, stands at c before c has g
abbrev pub Chain : ℕ → ℕ → ℕ → List Entry → List Entry → List Entry → Type 0
Chain x c y a cs b = (k i m n l : ℕ) (g r f : Entry) → slice_get cs k ≡ Some g → slice_get a i ≡ Some g → is_of x g ≡ true
    → slice_get a m ≡ Some r → m < i → is_of y r ≡ true → slice_get b n ≡ Some r → slice_get b l ≡ Some f → l < n → is_of c f ≡ true → Below cs k f

pub chain_c : (x c y : ℕ) (a cs more b : List Entry) → Begins c y cs b → Chain x c y a cs b → Chain x c y a (cs ++ more) b
chain_c x c y a cs more b begins h k i m n l g r f at_k at_i of_x at_m lt of_y at_n at_l lt' from =
    elim (below_or k (length cs)) [
      | inl low ↦
          let s = h k i m n l g r f (sym (get_within cs more k low) ∙ at_k) at_i of_x at_m lt of_y at_n at_l lt' from in
          record { place = s.place; below = s.below; is = get_left cs more s.place f s.is }
      | inr high ↦
          let s = of_source c y cs b begins l f at_l from in
          record { place = s.place; below = omega (arith, high, slice_get_within cs s.place f s.is); is = get_left cs more s.place f s.is }
    ]

pub chain_x : (x c y : ℕ) (a more cs b : List Entry) → Begins x c a cs → OnceIn (a ++ more) → Chain x c y a cs b → Chain x c y (a ++ more) cs b
chain_x x c y a more cs b begins once h k i m n l g r f at_k at_i of_x at_m lt of_y at_n at_l lt' from =
    elim (below_or i (length a)) [
      | inl low ↦
          h k i m n l g r f at_k (sym (get_within a more i low) ∙ at_i) of_x (sym (get_within a more m (omega (arith, low, lt))) ∙ at_m) lt of_y at_n at_l lt' from
      | inr high ↦
          let s = of_source x c a cs begins k g at_k of_x in
          absurd (twice (a ++ more) g once s.place i (omega (arith, high, slice_get_within a s.place g s.is)) (get_left a more s.place g s.is) at_i)
    ]

pub chain_y : (x c y : ℕ) (a cs b more : List Entry) → Begins y x b a → OnceIn (b ++ more) → Chain x c y a cs b → Chain x c y a cs (b ++ more)
chain_y x c y a cs b more begins once h k i m n l g r f at_k at_i of_x at_m lt of_y at_n at_l lt' from =
    elim (below_or n (length b)) [
      | inl low ↦
          h k i m n l g r f at_k at_i of_x at_m lt of_y (sym (get_within b more n low) ∙ at_n) (sym (get_within b more l (omega (arith, low, lt'))) ∙ at_l) lt' from
      | inr high ↦
          let s = of_source y x b a begins m r at_m of_y in
          absurd (twice (b ++ more) r once s.place n (omega (arith, high, slice_get_within b s.place r s.is)) (get_left b more s.place r s.is) at_n)
    ]

-- two entries of x for y keep their order at y
pub order_kept : (x y : ℕ) (near far : List Entry) → Begins x y near far → OnceIn near → OnceIn far → (i b k : ℕ) (e f : Entry)
    → slice_get near i ≡ Some f → slice_get near b ≡ Some e → i < b → is_outbound x y f ≡ true → is_outbound x y e ≡ true → slice_get far k ≡ Some e → Below far k f
order_kept x y near far begins once_near once_far i b k e f at_i at_b lt out_f out_e at_k = go c.cuts
  where
    c : IsCutAt x y near far b e
    c = cut_at x y near far b e begins at_b out_e

    -- f is among the entries for y before e
    f_at : slice_get c.split.before i ≡ Some f
    f_at =
        let P : List Entry → Type 0 = λ l. slice_get l i ≡ Some f in
        sym (get_within c.split.before (e ∷ c.split.after) i (omega (arith, lt, c.split.size))) ∙ subst P c.split.whole at_i

    early : Stands (outbound x y c.split.before) f
    early = to_filter (is_outbound x y) c.split.before f i f_at out_f

    -- e is not
    not_before : Stands (outbound x y c.split.before) e → ⊥
    not_before s =
        let p = from_filter (is_outbound x y) c.split.before e s in
        not_twice near e once_near (before_cut near c.split.before c.split.after e e c.split.whole p.stands)

    e_far : Stands (of_origin x far) e
    e_far = to_filter (is_of x) far e k at_k (of_out x y e out_e)

    go : Cuts (of_origin x far) c.rest (outbound x y c.split.before) e → Below far k f
    go (Cuts.Meet m) = let P : List Entry → Type 0 = λ l. Stands l e in absurd (not_before (subst P m e_far))
    go (Cuts.Short g rs is) =
        let P : List Entry → Type 0 = λ l. Stands l e in
        absurd (not_before (subst P (sym is) (stands_left (of_origin x far) (g ∷ rs) e e_far)))
    go (Cuts.Past rs is) =
        let P : ℕ → List Entry → Type 0 = λ n l. slice_get l n ≡ Some f in
        let Q : ℕ → List Entry → Type 0 = λ n l. slice_get l n ≡ Some e in
        let size = slice_get_within (outbound x y c.split.before) early.place f early.is in
        let o : InOrder far f e =
        filter_order (is_of x) far f e early.place (length (outbound x y c.split.before) + zero) (omega (arith, size))
        (subst (P early.place) (sym is) (get_left (outbound x y c.split.before) (e ∷ rs) early.place f early.is))
        (subst (Q (length (outbound x y c.split.before) + zero)) (sym is) (get_right (outbound x y c.split.before) (e ∷ rs) zero)) in
        elim (below_or o.j k) [
          | inl low ↦ absurd (twice far e once_far o.j k low o.at_j at_k)
          | inr high ↦ elim (below_or k o.j) [
            | inl low ↦ absurd (twice far e once_far k o.j low at_k o.at_j)
            | inr high' ↦ record { place = o.i; below = omega (arith, o.before, high, high'); is = o.at_i }
          ]
        ]

-- The second round on values: r of y stands at x, at m, before each request of its own that x asked again with; y had stored r
-- after index l. c has stored such a request, at k. Then what y has of c at or below l stood at c before that request.
pub round_two : (x c y : ℕ) (a cs b : List Entry) → Begins y x b a → Begins x c a cs → Chain x c y a cs b
    → (m l k q : ℕ) (r h f : Entry) → (asks : Entry → Type 0) → slice_get a m ≡ Some r → is_of y r ≡ true
    → ((i : ℕ) (g : Entry) → slice_get a i ≡ Some g → is_of x g ≡ true → asks g → m < i)
    → ((n : ℕ) → slice_get b n ≡ Some r → l < n)
    → slice_get cs k ≡ Some h → is_of x h ≡ true → asks h
    → slice_get b q ≡ Some f → q ≤ l → is_of c f ≡ true → Below cs k f
round_two x c y a cs b y_to_x x_to_c chain m l k q r h f asks at_m of_y early named at_k of_x asked at_q le from =
    let s = of_source y x b a y_to_x m r at_m of_y in
    let g = of_source x c a cs x_to_c k h at_k of_x in
    let lt : m < g.place = early g.place h g.is of_x asked in
    let after : l < s.place = named s.place s.is in
    chain k g.place m s.place q h r f at_k g.is of_x at_m lt of_y s.is at_q (omega (arith, le, after)) from

-- The cut on values. r is y's answer of round one, which x has at m, not above l; it names index p of y. Where f, which y has at
-- or below p and x is to have, comes from a third cluster c, x has an answer e of c at d, not above l, and f stood at c before it
pub data FromWhom (x y : ℕ) (a b : List Entry) (once : ℕ → List Entry) (l : ℕ) (f : Entry) : Type 0 where
  Own : is_of x f ≡ true → FromWhom x y a b once l f
  There : is_outbound y x f ≡ true → FromWhom x y a b once l f
  Third : (c j d : ℕ) (e : Entry) → Begins c x (once c) a → OnceIn (once c) → is_outbound c x f ≡ true → is_outbound c x e ≡ true
      → slice_get (once c) j ≡ Some e → slice_get a d ≡ Some e → d ≤ l → Below (once c) j f → FromWhom x y a b once l f

pub covered : (x y : ℕ) (a b : List Entry) (others : ℕ → List Entry) → Begins y x b a → Follows x y a b → OnceIn a → OnceIn b
    → (m n p q l : ℕ) (r f : Entry) → slice_get a m ≡ Some r → slice_get b n ≡ Some r → is_outbound y x r ≡ true → m ≤ l → p < n
    → slice_get b q ≡ Some f → q ≤ p → FromWhom x y a b others l f → Below a (suc l) f
covered x y a b others y_to_x follows once_a once_b m n p q l r f at_m at_n out le lt at_q le' (FromWhom.Own of_x) =
    let s = follows m n q r f at_m at_n (of_out y x r out) at_q (omega (arith, le', lt)) of_x in
    record { place = s.place; below = omega (arith, s.below, le); is = s.is }
covered x y a b others y_to_x follows once_a once_b m n p q l r f at_m at_n out le lt at_q le' (FromWhom.There out_f) =
    let s = order_kept y x b a y_to_x once_b once_a q n m r f at_q at_n (omega (arith, le', lt)) out_f out at_m in
    record { place = s.place; below = omega (arith, s.below, le); is = s.is }
covered x y a b others y_to_x follows once_a once_b m n p q l r f at_m at_n out le lt at_q le' (FromWhom.Third c j d e c_to_x once_c out_f out_e at_j at_d le_d earlier) =
    let s = order_kept c x (others c) a c_to_x once_c once_a earlier.place j d e f earlier.is at_j earlier.below out_f out_e at_d in
    record { place = s.place; below = omega (arith, s.below, le_d); is = s.is }
