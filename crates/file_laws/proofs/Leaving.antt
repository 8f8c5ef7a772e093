-- What stands after an item of bytes is bytes.
use Rattle.std.proofs.Common.{◌≡◌, ℕ, zero, suc, nat_lt, Bool, true, false, List, [], ◌∷◌, ◌++◌, length, take, drop, Ok, Err, refl, sym, subst}
use Rattle.std.specs.Prelude.{if◌then◌else◌, nat_le, ◌&&◌}
use Rattle.std.specs.Int.{Width, w32, w64, byte_len, from_be_bytes}
use Rattle.cursor_acks.specs.Ranges.{indexes_of}
use Rattle.state_items.specs.declared.fault.Broken.{Broken}
use Rattle.state_items.specs.declared.rule.Rule.{Rule}
use Rattle.state_items.specs.declared.rule.Rule.TheVariants as rule
use Rattle.state_items.specs.Ranges.{cursor_at, is_behind, range_at, ranges_at}
use Rattle.state_items.specs.Reading.{◌>>=◌, Answer, Read, broken, byte_at, judge, list_at, many, number_at, number_within, text_at, wide_at, word_at}
use Rattle.state_items.specs.Telling.{Many, Then, goes, stops}
use Rattle.state_items.proofs.Known.{came, not_both, same_value, told}
use Rattle.codec_laws.specs.Answers.{AreBytes}
use Rattle.codec_laws.proofs.AnswerBytes.{cut_are}

-- ---- one reading and then the next

pub behind : {A : Type 0} (y x : A × List ℕ) → ◌≡◌ {A = Read A} (Ok y) (Ok x) → AreBytes y.1 → AreBytes x.1
behind y x e are = subst (λ (z : _ × List ℕ). AreBytes z.1) (same_value y x e) are

-- a test that was passed
pub tested : {B : Type 0} (b : Bool) (item : List ℕ) (r : Rule) (f : Unit {0} → Read B) (x : B × List ℕ) → (judge b item r >>= f) ≡ Ok x → f tt ≡ Ok x
tested true item r f x h = h
tested false item r f x h = absurd (not_both (broken item r) x h)

pub unless : {A : Type 0} (b : Bool) (e : Broken) (y x : A × List ℕ) → (if b then Err e else Ok y) ≡ Ok x → AreBytes y.1 → AreBytes x.1
unless true e y x h are = absurd (not_both e x h)
unless false e y x h are = behind y x h are

-- ---- items

wide_leaves : (w : Width) (bytes : List ℕ) (x : ℕ × List ℕ) → wide_at w bytes ≡ Ok x → AreBytes bytes → AreBytes x.1
wide_leaves w bytes x h are =
    unless (nat_lt (length bytes) (byte_len w)) (broken bytes rule.Whole) (from_be_bytes w (take (byte_len w) bytes), drop (byte_len w) bytes) x h (cut_are (byte_len w) bytes are).1

pub number_leaves : (bytes : List ℕ) (x : ℕ × List ℕ) → number_at bytes ≡ Ok x → AreBytes bytes → AreBytes x.1
unfolding number_at
number_leaves bytes x h are = wide_leaves w64 bytes x h are

pub word_leaves : (bytes : List ℕ) (x : ℕ × List ℕ) → word_at bytes ≡ Ok x → AreBytes bytes → AreBytes x.1
unfolding word_at
word_leaves bytes x h are = wide_leaves w32 bytes x h are

pub byte_leaves : (bytes : List ℕ) (x : ℕ × List ℕ) → byte_at bytes ≡ Ok x → AreBytes bytes → AreBytes x.1
byte_leaves [] x h are = absurd (not_both _ x h)
byte_leaves (b ∷ bytes) x h are = behind (b, bytes) x h are.1

-- what a text has, too
pub text_leaves : (bytes : List ℕ) (x : List ℕ × List ℕ) → text_at bytes ≡ Ok x → AreBytes bytes → AreBytes x.0 × AreBytes x.1
unfolding text_at
text_leaves bytes x h are =
    let n = came (word_at bytes) _ x h in
    let after : AreBytes n.first.1 = word_leaves bytes n.first n.is are in
    by (nat_lt (length n.first.1) n.first.0) (take n.first.0 n.first.1, drop n.first.0 n.first.1) n.next (cut_are n.first.0 n.first.1 after)
  where
    by : (b : Bool) (y : List ℕ × List ℕ) → (if b then Err (broken bytes rule.Whole) else Ok y) ≡ Ok x → AreBytes y.0 × AreBytes y.1 → AreBytes x.0 × AreBytes x.1
    by true y e own = absurd (not_both _ x e)
    by false y e own = subst (λ (z : List ℕ × List ℕ). AreBytes z.0 × AreBytes z.1) (same_value y x e) own

pub within_leaves : (most : ℕ) (r : Rule) (bytes : List ℕ) (x : ℕ × List ℕ) → number_within most r bytes ≡ Ok x → AreBytes bytes → AreBytes x.1
unfolding number_within
within_leaves most r bytes x h are =
    let n = came (number_at bytes) _ x h in
    behind n.first x (tested (nat_le n.first.0 most) bytes r _ x n.next) (number_leaves bytes n.first n.is are)

-- ---- lists

-- a reading of items leaves bytes
abbrev pub Leaves : {A : Type 0} → (List A → List ℕ → Read A) → Type 0
Leaves {A} one = (before : List A) (bytes : List ℕ) (x : A × List ℕ) → one before bytes ≡ Ok x → AreBytes bytes → AreBytes x.1

pub many_leaves : {A : Type 0} (one : List A → List ℕ → Read A) → Leaves one → (n : ℕ) (before : List A) (bytes : List ℕ) (xs : List A × List ℕ) → many one n before bytes ≡ Ok xs → AreBytes bytes → AreBytes xs.1
unfolding many
many_leaves one each zero before bytes xs h are = behind (before, bytes) xs h are
many_leaves one each (suc n) before bytes xs h are =
    let a = came (one before bytes) (λ (x : _ × List ℕ). many one n (before ++ x.0 ∷ []) x.1) xs h in
    many_leaves one each n (before ++ a.first.0 ∷ []) a.first.1 xs a.next (each before bytes a.first a.is are)

pub list_leaves : {A : Type 0} (one : List A → List ℕ → Read A) → Leaves one → (bytes : List ℕ) (xs : List A × List ℕ) → list_at one bytes ≡ Ok xs → AreBytes bytes → AreBytes xs.1
list_leaves one each bytes xs h are =
    let a = came (number_at bytes) (λ (n : ℕ × List ℕ). many one n.0 [] n.1) xs h in
    many_leaves one each a.first.0 [] a.first.1 xs a.next (number_leaves bytes a.first a.is are)

-- ---- cursors

range_leaves : (n : ℕ) → Leaves (range_at n)
unfolding range_at
range_leaves n before bytes x h are =
    let a = came (number_at bytes) _ x h in
    let c = came (number_at a.first.1) _ x (tested (is_behind before a.first.0 && nat_lt a.first.0 n) bytes rule.Ranges _ x a.next) in
    behind (record { first = a.first.0; last = c.first.0 }, c.first.1) x (tested (nat_le a.first.0 c.first.0 && nat_lt c.first.0 n) a.first.1 rule.Ranges _ x c.next) (number_leaves a.first.1 c.first c.is (number_leaves bytes a.first a.is are))

pub cursor_leaves : (n : ℕ) (bytes : List ℕ) (x : List ℕ × List ℕ) → cursor_at n bytes ≡ Ok x → AreBytes bytes → AreBytes x.1
unfolding cursor_at
cursor_leaves n bytes x h are =
    let a = came (ranges_at n bytes) _ x h in
    behind (indexes_of a.first.0, a.first.1) x a.next (list_leaves (range_at n) (range_leaves n) bytes a.first a.is are)

-- ---- readings that are told

-- there is an answer
abbrev pub SomeAnswer : {A : Type 0} → (Answer A → Type 0) → Type 0
SomeAnswer {A} Has = (r : Answer A) × Has r

pub then_some : {A B : Type 0} (First : Answer A → Type 0) (Next : A → Answer B → Type 0) (a : Answer A) → First a → ((x : A) → First (Ok x) → SomeAnswer (Next x)) → SomeAnswer (Then First Next)
then_some First Next (Err e) first next = (Err e, stops e first refl)
then_some First Next (Ok x) first next = let n = next x first in (n.0, goes x first n.1)

-- so of items, where each leaves bytes
pub many_some : {A : Type 0} (One : List A → List ℕ → Read A → Type 0)
    → ((before : List A) (bytes : List ℕ) → AreBytes bytes → SomeAnswer (One before bytes))
    → ((before : List A) (bytes : List ℕ) (x : A × List ℕ) → One before bytes (Ok x) → AreBytes bytes → AreBytes x.1)
    → (n : ℕ) (before : List A) (bytes : List ℕ) → AreBytes bytes → SomeAnswer (Many One n before bytes)
many_some One one each zero before bytes are = (Ok (before, bytes), refl)
many_some One one each (suc n) before bytes are =
    let first = one before bytes are in
    then_some (One before bytes) (λ x r. Many One n (before ++ x.0 ∷ []) x.1 r) first.0 first.1
    (λ x is. many_some One one each n (before ++ x.0 ∷ []) x.1 (each before bytes x is are))

pub many_told_leaves : {A : Type 0} (One : List A → List ℕ → Read A → Type 0)
    → ((before : List A) (bytes : List ℕ) (x : A × List ℕ) → One before bytes (Ok x) → AreBytes bytes → AreBytes x.1)
    → (n : ℕ) (before : List A) (bytes : List ℕ) (xs : List A × List ℕ) → Many One n before bytes (Ok xs) → AreBytes bytes → AreBytes xs.1
many_told_leaves One each zero before bytes xs h are = behind (before, bytes) xs (sym h) are
many_told_leaves One each (suc n) before bytes xs h are =
    let a = told (One before bytes) (λ x r. Many One n (before ++ x.0 ∷ []) x.1 r) xs h in
    many_told_leaves One each n (before ++ a.first.0 ∷ []) a.first.1 xs a.next (each before bytes a.first a.is are)
