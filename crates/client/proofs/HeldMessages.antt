-- What a client holds as a list, by its slots.
use Rattle.std.proofs.Common.{◌≡◌, ℕ, zero, suc, ◌+◌, ◌<◌, ◌≤◌, true, false, not, List, [], ◌∷◌, ◌++◌, length, get_or, set, map, take, drop, Option, Some, None, refl, ap, sym, ◌∙◌, arith}
use Rattle.std.specs.List.{filter}
use Rattle.std.specs.Option.{option_map}
use Rattle.std.proofs.lemmas.List.{map-append, take-append-drop, take_at, take_more, length-append, length-map}
use Rattle.geo_base.specs.declared.client.Held.{Held}
use Rattle.geo_base.specs.declared.entry.Ident.{Ident}
use Rattle.geo_base.specs.declared.position.Position.{Position}
use Rattle.geo_base.specs.Entry.{same_ident}
use Rattle.geo_base.specs.Going.{first_held, without_first}
use Rattle.geo_base.specs.Position.{position_le}
use Rattle.client.specs.HeldSlots.{IsFirstOf, empty_before, held_in, is_of, is_up_to}
use Rattle.client.proofs.SlotLists.{held_in-append}

-- ---- the first message of an identity

first_of_rest : (slots : List (Option Held)) (o : Option Held) (i : Ident) (slot : ℕ) → IsFirstOf (o ∷ slots) i (suc slot) → IsFirstOf slots i slot
first_of_rest slots o i slot f = record { within = omega (arith, f.within); is_one = f.is_one; none_before = λ j l. f.none_before (suc j) (omega arith) }

pub found : (slots : List (Option Held)) (i : Ident) (slot : ℕ) → IsFirstOf slots i slot → first_held (held_in slots) i ≡ option_map (λ h. h.position) (get_or slots slot None)
found [] i slot f = absurd (omega (arith, f.within))
found (None ∷ slots) i zero f = let no : false ≡ true = f.is_one in absurd cc
found (Some g ∷ slots) i zero f = let same : same_ident g.ident i ≡ true = f.is_one in rw same refl
found (None ∷ slots) i (suc slot) f = found slots i slot (first_of_rest slots None i slot f)
found (Some g ∷ slots) i (suc slot) f =
    let other : same_ident g.ident i ≡ false = f.none_before 0 (omega arith) in rw other (found slots i slot (first_of_rest slots (Some g) i slot f))

pub left_without : (slots : List (Option Held)) (i : Ident) (slot : ℕ) → IsFirstOf slots i slot → held_in (set slots slot None) ≡ without_first (held_in slots) i
left_without [] i slot f = absurd (omega (arith, f.within))
left_without (None ∷ slots) i zero f = let no : false ≡ true = f.is_one in absurd cc
left_without (Some g ∷ slots) i zero f = let same : same_ident g.ident i ≡ true = f.is_one in rw same refl
left_without (None ∷ slots) i (suc slot) f = left_without slots i slot (first_of_rest slots None i slot f)
left_without (Some g ∷ slots) i (suc slot) f =
    let other : same_ident g.ident i ≡ false = f.none_before 0 (omega arith) in
    rw other (ap (λ (hs : List Held). g ∷ hs) (left_without slots i slot (first_of_rest slots (Some g) i slot f)))

pub none_found : (slots : List (Option Held)) (i : Ident) → ((j : ℕ) → is_of i (get_or slots j None) ≡ false) → first_held (held_in slots) i ≡ None
none_found [] i none = refl
none_found (None ∷ slots) i none = none_found slots i (λ j. none (suc j))
none_found (Some g ∷ slots) i none = let other : same_ident g.ident i ≡ false = none 0 in rw other (none_found slots i (λ j. none (suc j)))

pub none_left_out : (slots : List (Option Held)) (i : Ident) → ((j : ℕ) → is_of i (get_or slots j None) ≡ false) → held_in slots ≡ without_first (held_in slots) i
none_left_out [] i none = refl
none_left_out (None ∷ slots) i none = none_left_out slots i (λ j. none (suc j))
none_left_out (Some g ∷ slots) i none =
    let other : same_ident g.ident i ≡ false = none 0 in rw other (ap (λ (hs : List Held). g ∷ hs) (none_left_out slots i (λ j. none (suc j))))

-- ---- the first so many messages

held_in_more : (slots : List (Option Held)) (i : ℕ) (d : Option Held) → i < length slots → held_in (take (i + 1) slots) ≡ held_in (take i slots) ++ held_in (get_or slots i d ∷ [])
held_in_more slots i d l = ap (λ (xs : List (Option Held)). held_in xs) (take_more slots i d l) ∙ held_in-append (take i slots) (get_or slots i d ∷ [])

one_at_most : (o : Option Held) → length (held_in (o ∷ [])) ≤ 1
one_at_most None = omega arith
one_at_most (Some h) = omega arith

-- the position of the next slot's message is added
pub one_more_position : (slots : List (Option Held)) (i most : ℕ) (o : Option Held) (ps qs : List Position) → i < length slots → o ≡ get_or slots i o
    → ps ≡ map (λ (h : Held). h.position) (held_in (take i slots)) → length ps ≤ most → (length ps ≡ most → ⊥) → qs ≡ ps ++ map (λ (h : Held). h.position) (held_in (o ∷ []))
    → (length qs ≤ most) × (qs ≡ map (λ (h : Held). h.position) (held_in (take (i + 1) slots)))
one_more_position slots i most o ps qs l item is few other next =
    let more : held_in (take (i + 1) slots) ≡ held_in (take i slots) ++ held_in (o ∷ []) =
    held_in_more slots i o l ∙ ap (λ (x : Option Held). held_in (take i slots) ++ held_in (x ∷ [])) (sym item) in (
      omega (arith, one_at_most o, ap length next, length-append ps (map (λ (h : Held). h.position) (held_in (o ∷ []))), length-map (held_in (o ∷ [])) (λ (h : Held). h.position)),
      next ∙ (ap (λ (xs : List Position). xs ++ map (λ (h : Held). h.position) (held_in (o ∷ []))) is
          ∙ (sym (map-append (λ (h : Held). h.position) (held_in (take i slots)) (held_in (o ∷ []))) ∙ ap (λ (hs : List Held). map (λ (h : Held). h.position) hs) (sym more))),
    )

-- so many positions are those of the first so many messages
pub as_many : (slots : List (Option Held)) (i most : ℕ) (ps : List Position) → ps ≡ map (λ (h : Held). h.position) (held_in (take i slots)) → length ps ≡ most
    → ps ≡ map (λ (h : Held). h.position) (take most (held_in slots))
as_many slots i most ps is many =
    let all : held_in slots ≡ held_in (take i slots) ++ held_in (drop i slots) =
    ap (λ (xs : List (Option Held)). held_in xs) (sym (take-append-drop i slots)) ∙ held_in-append (take i slots) (drop i slots) in
    let long : length (held_in (take i slots)) ≡ most = sym (length-map (held_in (take i slots)) (λ (h : Held). h.position)) ∙ (sym (ap length is) ∙ many) in
    is ∙ ap (λ (hs : List Held). map (λ (h : Held). h.position) hs) (sym (take_at (held_in (take i slots)) (held_in (drop i slots)) most long) ∙ ap (λ (hs : List Held). take most hs) (sym all))

pub first_given_up : (slots : List (Option Held)) (slot : ℕ) → slot ≡ empty_before slots → slot < length slots → held_in (set slots slot None) ≡ drop 1 (held_in slots)
first_given_up [] slot is l = absurd (omega arith)
first_given_up (Some g ∷ slots) zero is l = refl
first_given_up (Some g ∷ slots) (suc slot) is l = absurd (omega arith)
first_given_up (None ∷ slots) zero is l = absurd (omega arith)
first_given_up (None ∷ slots) (suc slot) is l = first_given_up slots slot (omega arith) (omega arith)

-- ---- the messages up to a position

pub updated_indexes : (slots : List (Option Held)) (p : Position) (slot : ℕ) → is_up_to p (get_or slots slot None) ≡ true
    → filter (λ (h : Held). not (position_le h.position p)) (held_in (set slots slot None)) ≡ filter (λ (h : Held). not (position_le h.position p)) (held_in slots)
updated_indexes [] p slot is = absurd cc
updated_indexes (None ∷ slots) p zero is = absurd cc
updated_indexes (Some g ∷ slots) p zero is = let gone : position_le g.position p ≡ true = is in rw gone refl
updated_indexes (None ∷ slots) p (suc slot) is = updated_indexes slots p slot is
updated_indexes (Some g ∷ slots) p (suc slot) is = rw (updated_indexes slots p slot is) refl

pub all_later : (slots : List (Option Held)) (p : Position) → ((j : ℕ) → is_up_to p (get_or slots j None) ≡ false) → held_in slots ≡ filter (λ (h : Held). not (position_le h.position p)) (held_in slots)
all_later [] p none = refl
all_later (None ∷ slots) p none = all_later slots p (λ j. none (suc j))
all_later (Some g ∷ slots) p none =
    let stays : position_le g.position p ≡ false = none 0 in rw stays (ap (λ (hs : List Held). g ∷ hs) (all_later slots p (λ j. none (suc j))))

-- a slot that has a message up to a position
pub fewer_left : (slots : List (Option Held)) (p : Position) (slot : ℕ) → is_up_to p (get_or slots slot None) ≡ true → length (held_in (set slots slot None)) < length (held_in slots)
fewer_left [] p slot is = absurd cc
fewer_left (None ∷ slots) p zero is = absurd cc
fewer_left (Some g ∷ slots) p zero is = omega arith
fewer_left (None ∷ slots) p (suc slot) is = fewer_left slots p slot is
fewer_left (Some g ∷ slots) p (suc slot) is = omega (arith, fewer_left slots p slot is)
