-- What y has of x as a beginning of what it is to have: which entry may come next, and what a duplicate shows. Here are lists
-- alone: near is the topic at x, far the one at y.
use Rattle.std.proofs.Common.{◌≡◌, ℕ, zero, suc, ◌+◌, ◌<◌, Bool, true, false, cond, List, [], ◌∷◌, ◌++◌, length, refl, sym, ap, subst, ◌∙◌, ◌==◌, arith, append_assoc}
use Rattle.std.proofs.lemmas.List.{append-nil}
use Rattle.std.specs.Prelude.{Some, ◌&&◌, ◌||◌, not, nat_lt, slice_get, filter}
use Rattle.std.proofs.lemmas.Bool.{eqb-true, eq-eqb, false≢true}
use Rattle.std.proofs.lemmas.Bool.Decides.{nat_tests}
use Rattle.std.proofs.lemmas.List.Elements.{filter-append}
use Rattle.std.proofs.lemmas.Option.{none-some, slice_get_within}
use Rattle.std.proofs.lemmas.Slice.Eq.{bytes_eq-Decides}
use Rattle.std.specs.Str.{bytes_eq}
use Rattle.world_laws.proofs.Types.{Entry, Ident}
use Rattle.geo_base.specs.Entry.{goes_to, is_outbound, same_stream}
use Rattle.geo_base.specs.Laws.{of_origin, outbound}
use Rattle.geo_base.specs.Topic.{accepts}
use Rattle.world_laws.proofs.OnceInOrder.Members.{Cuts, IsSplit, Passes, Stands, cut_both, from_filter, get_left, get_right, split_at, stands_here, stands_left, stands_next, to_filter}
use Rattle.world_laws.proofs.OnceInOrder.Once.{OnceIn, accepts_newer}
use Rattle.world_laws.proofs.Walks.Walk.{left}

abbrev pub is_of : ℕ → Entry → Bool
is_of x e = e.ident.origin == x

-- what far has of x is a beginning of what near has for y
abbrev pub Begins : ℕ → ℕ → List Entry → List Entry → Type 0
Begins x y near far = (rest : List Entry) × (outbound x y near ≡ of_origin x far ++ rest)

pub same_self : (i : Ident) → same_stream i i ≡ true
same_self i = subst (λ (b : Bool). (b && bytes_eq i.producer i.producer) ≡ true) (sym (eq-eqb i.origin i.origin refl)) ((bytes_eq-Decides i.producer i.producer).1 refl)

-- two entries, one before the other
pub record InOrder (es : List Entry) (e f : Entry) : Type 0 where
  pub i : ℕ
  pub j : ℕ
  pub before : i < j
  pub at_i : slice_get es i ≡ Some e
  pub at_j : slice_get es j ≡ Some f

in_order_next : (a : Entry) (es : List Entry) (e f : Entry) → InOrder es e f → InOrder (a ∷ es) e f
in_order_next a es e f o = record { i = suc o.i; j = suc o.j; before = omega (arith, o.before); at_i = o.at_i; at_j = o.at_j }

order_step : (p : Entry → Bool) (a : Entry) (es : List Entry) (e f : Entry) (b : Bool)
    → ((i j : ℕ) → i < j → slice_get (filter p es) i ≡ Some e → slice_get (filter p es) j ≡ Some f → InOrder es e f)
    → (i j : ℕ) → i < j → slice_get (cond b (a ∷ filter p es) (filter p es)) i ≡ Some e → slice_get (cond b (a ∷ filter p es) (filter p es)) j ≡ Some f
    → InOrder (a ∷ es) e f
order_step p a es e f true ih zero zero lt ge gf = absurd (omega (arith, lt))
order_step p a es e f true ih zero (suc j) lt ge gf =
    let s = (from_filter p es f (record { place = j; is = gf })).stands in
    record { i = zero; j = suc s.place; before = omega arith; at_i = ge; at_j = s.is }
order_step p a es e f true ih (suc i) zero lt ge gf = absurd (omega (arith, lt))
order_step p a es e f true ih (suc i) (suc j) lt ge gf = in_order_next a es e f (ih i j (omega (arith, lt)) ge gf)
order_step p a es e f false ih i j lt ge gf = in_order_next a es e f (ih i j lt ge gf)

-- a test leaves the order as it is
pub filter_order : (p : Entry → Bool) (es : List Entry) (e f : Entry) (i j : ℕ) → i < j → slice_get (filter p es) i ≡ Some e → slice_get (filter p es) j ≡ Some f
    → InOrder es e f
filter_order p [] e f i j lt ge gf = absurd (none-some e ge)
filter_order p (a ∷ es) e f i j lt ge gf = order_step p a es e f (p a) (filter_order p es e f) i j lt ge gf

-- no entry stands before itself
pub not_twice : (es : List Entry) (e : Entry) → OnceIn es → InOrder es e e → ⊥
not_twice es e once o = let h = once o.i o.j e e o.before o.at_i o.at_j (same_self e.ident) in omega (arith, h)

-- the entries for y about one of them
outbound_cut : (x y : ℕ) (e : Entry) (before after : List Entry) → is_outbound x y e ≡ true
    → outbound x y (before ++ e ∷ after) ≡ outbound x y before ++ e ∷ outbound x y after
outbound_cut x y e before after out =
    filter-append (is_outbound x y) before (e ∷ after)
    ∙ ap (λ (b : Bool). outbound x y before ++ cond b (e ∷ outbound x y after) (outbound x y after)) out

within : (es : List Entry) (i : ℕ) (e : Entry) → slice_get es i ≡ Some e → i < length es
within = slice_get_within

-- an entry before the cut is before the entry at it
pub before_cut : (near before after : List Entry) (e f : Entry) → near ≡ before ++ e ∷ after → Stands before f → InOrder near f e
before_cut near before after e f whole s =
    let P : List Entry → Type 0 = λ es. InOrder es f e in
    let size : s.place < length before = within before s.place f s.is in
    let here : slice_get (before ++ e ∷ after) (length before + zero) ≡ Some e = get_right before (e ∷ after) zero in
    subst P (sym whole)
    (record { i = s.place; j = length before + zero; before = omega (arith, size); at_i = get_left before (e ∷ after) s.place f s.is; at_j = here })

pub once_left : (es fs : List Entry) → OnceIn (es ++ fs) → OnceIn es
once_left es fs once i j e f lt ge gf same = once i j e f lt (get_left es fs i e ge) (get_left es fs j f gf) same

-- what an entry of x at an index of near and a beginning at far tell
pub record IsCutAt (x y : ℕ) (near far : List Entry) (i : ℕ) (e : Entry) : Type 0 where
  pub split : IsSplit near i e
  pub rest : List Entry
  pub cuts : Cuts (of_origin x far) rest (outbound x y split.before) e
  pub whole : outbound x y near ≡ outbound x y split.before ++ e ∷ outbound x y split.after

pub cut_at : (x y : ℕ) (near far : List Entry) (i : ℕ) (e : Entry) → Begins x y near far → slice_get near i ≡ Some e → is_outbound x y e ≡ true → IsCutAt x y near far i e
cut_at x y near far i e begins at out =
    let s = split_at near i e at in
    let w : outbound x y near ≡ outbound x y s.before ++ e ∷ outbound x y s.after = ap (outbound x y) s.whole ∙ outbound_cut x y e s.before s.after out in
    record {
      split = s;
      rest = begins.0;
      cuts = cut_both (of_origin x far) begins.0 (outbound x y s.before) (outbound x y s.after) e (sym begins.1 ∙ w);
      whole = w;
    }

pub of_out : (x y : ℕ) (e : Entry) → is_outbound x y e ≡ true → is_of x e ≡ true
of_out x y e out = left (is_of x e) (goes_to y e.to) out

-- one more at far, where the beginning ends before it
goes_on : (x y : ℕ) (near far : List Entry) (e : Entry) (before after : List Entry) → is_outbound x y e ≡ true → of_origin x far ≡ outbound x y before
    → outbound x y near ≡ outbound x y before ++ e ∷ outbound x y after → Begins x y near (far ++ e ∷ [])
goes_on x y near far e before after out meet whole =
    let one : of_origin x (far ++ e ∷ []) ≡ of_origin x far ++ e ∷ [] =
    filter-append (is_of x) far (e ∷ []) ∙ ap (λ (b : Bool). of_origin x far ++ cond b (e ∷ []) []) (of_out x y e out) in (
      outbound x y after,
      whole ∙ ap (λ (l : List Entry). l ++ e ∷ outbound x y after) (sym meet)
          ∙ sym (append_assoc (of_origin x far) (e ∷ []) (outbound x y after)) ∙ ap (λ (l : List Entry). l ++ outbound x y after) (sym one),
    )

-- the entries before it all stand at far
abbrev pub AllBefore : ℕ → ℕ → List Entry → List Entry → ℕ → Type 0
AllBefore x y near far i = (j : ℕ) (f : Entry) → j < i → slice_get near j ≡ Some f → is_outbound x y f ≡ true → Stands far f

-- the beginning can't end earlier
not_short : (x y : ℕ) (near far : List Entry) (i : ℕ) (e f : Entry) (r : List Entry) (s : IsSplit near i e) → OnceIn near → AllBefore x y near far i
    → outbound x y s.before ≡ of_origin x far ++ f ∷ r → ⊥
not_short x y near far i e f r s once all is =
    let P : List Entry → Type 0 = λ l. Stands l f in
    let passes : Passes (is_outbound x y) s.before f = from_filter (is_outbound x y) s.before f (subst P (sym is) (stands_here (of_origin x far) r f)) in
    let before : InOrder near f e = before_cut near s.before s.after e f s.whole passes.stands in
    let G : List Entry → Type 0 = λ l. slice_get l passes.stands.place ≡ Some f in
    let at : slice_get near passes.stands.place ≡ Some f = subst G (sym s.whole) (get_left s.before (e ∷ s.after) passes.stands.place f passes.stands.is) in
    let lt : passes.stands.place < i = omega (arith, s.size, within s.before passes.stands.place f passes.stands.is) in
    let far_has : Stands far f = all passes.stands.place f lt at passes.passes in
    let first : Stands (of_origin x far) f = to_filter (is_of x) far f far_has.place far_has.is (of_out x y f passes.passes) in
    let G' : ℕ → List Entry → Type 0 = λ n l. slice_get l n ≡ Some f in
    let size : first.place < length (of_origin x far) = within (of_origin x far) first.place f first.is in
    let order : InOrder s.before f f =
    filter_order (is_outbound x y) s.before f f first.place (length (of_origin x far) + zero) (omega (arith, size))
    (subst (G' first.place) (sym is) (get_left (of_origin x far) (f ∷ r) first.place f first.is))
    (subst (G' (length (of_origin x far) + zero)) (sym is) (get_right (of_origin x far) (f ∷ r) zero)) in
    not_twice s.before f (once_left s.before (e ∷ s.after) (subst OnceIn s.whole once)) order

-- an accepted entry of x that all before it precede is the next one
pub next_begins : (x y : ℕ) (near far : List Entry) (i : ℕ) (e : Entry) → OnceIn near → Begins x y near far → slice_get near i ≡ Some e → is_outbound x y e ≡ true
    → AllBefore x y near far i → accepts far e.ident ≡ true → Begins x y near (far ++ e ∷ [])
next_begins x y near far i e once begins at out all new = go c.cuts
  where
    c : IsCutAt x y near far i e
    c = cut_at x y near far i e begins at out

    go : Cuts (of_origin x far) c.rest (outbound x y c.split.before) e → Begins x y near (far ++ e ∷ [])
    go (Cuts.Meet m) = goes_on x y near far e c.split.before c.split.after out m c.whole
    go (Cuts.Short f r is) = absurd (not_short x y near far i e f r c.split once all is)
    go (Cuts.Past r is) =
        let P : List Entry → Type 0 = λ l. Stands l e in
        let s = (from_filter (is_of x) far e (subst P (sym is) (stands_here (outbound x y c.split.before) r e))).stands in
        let h = accepts_newer far e.ident new s.place e s.is (same_self e.ident) in
        absurd (omega (arith, h))

-- what a topic that refuses an identity has
pub record Refuses (es : List Entry) (i : Ident) : Type 0 where
  pub entry : Entry
  pub stands : Stands es entry
  pub same : same_stream entry.ident i ≡ true
  pub newer : nat_lt entry.ident.seq i.seq ≡ false

refused_at : (a : Entry) (es : List Entry) (i : Ident) (same older : Bool) → same_stream a.ident i ≡ same → nat_lt a.ident.seq i.seq ≡ older
    → ((not same || older) && accepts es i) ≡ false → (accepts es i ≡ false → Refuses es i) → Refuses (a ∷ es) i
refused_at a es i true false s o h ih = record { entry = a; stands = record { place = zero; is = refl }; same = s; newer = o }
refused_at a es i true true s o h ih = let r = ih h in record { entry = r.entry; stands = stands_next a es r.entry r.stands; same = r.same; newer = r.newer }
refused_at a es i false older s o h ih = let r = ih h in record { entry = r.entry; stands = stands_next a es r.entry r.stands; same = r.same; newer = r.newer }

pub refused : (es : List Entry) (i : Ident) → accepts es i ≡ false → Refuses es i
refused [] i h = absurd (false≢true (sym h))
refused (a ∷ es) i h = refused_at a es i (same_stream a.ident i) (nat_lt a.ident.seq i.seq) refl refl h (refused es i)

-- a refused entry of x stands at far
pub refused_stands : (x y : ℕ) (near far : List Entry) (i : ℕ) (e : Entry) → OnceIn near → Begins x y near far → slice_get near i ≡ Some e → is_outbound x y e ≡ true
    → accepts far e.ident ≡ false → Stands far e
refused_stands x y near far i e once begins at out old = go c.cuts
  where
    c : IsCutAt x y near far i e
    c = cut_at x y near far i e begins at out

    r : Refuses far e.ident
    r = refused far e.ident old

    first : Stands (of_origin x far) r.entry
    first =
        let same : r.entry.ident.origin ≡ e.ident.origin = eqb-true _ _ (left (r.entry.ident.origin == e.ident.origin) _ r.same) in
        let of : is_of x r.entry ≡ true = ap (λ (n : ℕ). n == x) same ∙ of_out x y e out in
        to_filter (is_of x) far r.entry r.stands.place r.stands.is of

    not_before : Stands (outbound x y c.split.before) r.entry → ⊥
    not_before s =
        let o = before_cut near c.split.before c.split.after e r.entry c.split.whole (from_filter (is_outbound x y) c.split.before r.entry s).stands in
        let h = once o.i o.j r.entry e o.before o.at_i o.at_j r.same in
        grind (arith, nat_tests, h, r.newer)

    go : Cuts (of_origin x far) c.rest (outbound x y c.split.before) e → Stands far e
    go (Cuts.Meet m) = let P : List Entry → Type 0 = λ l. Stands l r.entry in absurd (not_before (subst P m first))
    go (Cuts.Short f rs is) =
        let P : List Entry → Type 0 = λ l. Stands l r.entry in
        absurd (not_before (subst P (sym is) (stands_left (of_origin x far) (f ∷ rs) r.entry first)))
    go (Cuts.Past rs is) =
        let P : List Entry → Type 0 = λ l. Stands l e in
        (from_filter (is_of x) far e (subst P (sym is) (stands_here (outbound x y c.split.before) rs e))).stands

-- more at near leaves the beginning
pub near_grows : (x y : ℕ) (near far more : List Entry) → Begins x y near far → Begins x y (near ++ more) far
near_grows x y near far more begins = (
  begins.0 ++ outbound x y more,
  filter-append (is_outbound x y) near more ∙ ap (λ (l : List Entry). l ++ outbound x y more) begins.1 ∙ append_assoc (of_origin x far) begins.0 (outbound x y more),
)

-- and so does what far has of others
pub other_begins : (x y : ℕ) (near far : List Entry) (e : Entry) → is_of x e ≡ false → Begins x y near far → Begins x y near (far ++ e ∷ [])
other_begins x y near far e other begins =
    let same : of_origin x (far ++ e ∷ []) ≡ of_origin x far =
    filter-append (is_of x) far (e ∷ []) ∙ ap (λ (b : Bool). of_origin x far ++ cond b (e ∷ []) []) other ∙ append-nil (of_origin x far) in
    (begins.0, begins.1 ∙ ap (λ (l : List Entry). l ++ begins.0) (sym same))
