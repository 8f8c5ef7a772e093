-- The bytes of the declarations.
use Rattle.std.proofs.Common.{◌≡◌, ℕ, ◌≤◌, Bool, true, false, List, length, take, drop, Ok, Err, refl, sym, ap, ◌∙◌, arith}
use Rattle.std.specs.Prelude.{nat_lt}
use Rattle.std.specs.Str.{bytes_eq}
use Rattle.std.proofs.lemmas.Bool.Decides.{nat_tests}
use Rattle.script_text.specs.Canonical.{declarations_text}
use Rattle.script_text.specs.Rules.{script_of}
use Rattle.script_text.specs.Script.{Fault, Script}
use Rattle.state_items.specs.declared.rule.Rule.TheVariants as rule
use Rattle.state_items.specs.Reading.{broken}
use Rattle.state_file.specs.Reading.{so_many}

there : (n : ℕ) (bytes : List ℕ) → n ≤ length bytes → nat_lt (length bytes) n ≡ false
there n bytes le = grind (arith, nat_tests, le)

pub refused : (n : ℕ) (bytes text : List ℕ) (f : Fault) → n ≤ length bytes → text ≡ take n bytes → script_of text ≡ Err f → so_many n bytes ≡ Err (broken bytes rule.Declarations)
refused n bytes text f le same e =
    let e' : script_of (take n bytes) ≡ Err f = ap (λ (t : List ℕ). script_of t) (sym same) ∙ e in
    rw (there n bytes le, e') refl

pub same : (n : ℕ) (bytes text rest : List ℕ) (s : Script) (b : Bool) → n ≤ length bytes → text ≡ take n bytes → rest ≡ drop n bytes → script_of text ≡ Ok s → b ≡ bytes_eq (declarations_text s.setup s.chance) text → b ≡ true → so_many n bytes ≡ Ok (s, rest)
same n bytes text rest s b le is behind e told so =
    let eq : bytes_eq (declarations_text s.setup s.chance) text ≡ true = sym told ∙ so in
    let e' : script_of (take n bytes) ≡ Ok s = ap (λ (t : List ℕ). script_of t) (sym is) ∙ e in
    let eq' : bytes_eq (declarations_text s.setup s.chance) (take n bytes) ≡ true = ap (λ (t : List ℕ). bytes_eq (declarations_text s.setup s.chance) t) (sym is) ∙ eq in
    rw (there n bytes le, e', eq') (ap (λ (r : List ℕ). Ok (s, r)) (sym behind))

pub other : (n : ℕ) (bytes text : List ℕ) (s : Script) (b : Bool) → n ≤ length bytes → text ≡ take n bytes → script_of text ≡ Ok s → b ≡ bytes_eq (declarations_text s.setup s.chance) text → b ≡ false → so_many n bytes ≡ Err (broken bytes rule.Declarations)
other n bytes text s b le is e told not_so =
    let eq : bytes_eq (declarations_text s.setup s.chance) text ≡ false = sym told ∙ not_so in
    let e' : script_of (take n bytes) ≡ Ok s = ap (λ (t : List ℕ). script_of t) (sym is) ∙ e in
    let eq' : bytes_eq (declarations_text s.setup s.chance) (take n bytes) ≡ false = ap (λ (t : List ℕ). bytes_eq (declarations_text s.setup s.chance) t) (sym is) ∙ eq in
    rw (there n bytes le, e', eq') refl
