-- What a definition by parts, by tests or by rules gives, taken apart.
use Rattle.std.proofs.Common.{◌≡◌, Option, Some, None, Ok, refl}
use Rattle.script_rows.specs.declared.fault.Rule.{Rule}
use Rattle.script_text.specs.Rules.{unless_broken}
pub use Rattle.geo_base.proofs.Bools.{cond_cases as chosen, cond_else_none as none_found}

pub unbroken : {A : Type 0} (o : Option Rule) (a b : A) → unless_broken o a ≡ Ok b → (o ≡ None) × (a ≡ b)
unbroken None a b e = (refl, cc)
unbroken (Some r) a b e = cc
