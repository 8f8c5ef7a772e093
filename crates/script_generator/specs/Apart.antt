-- What `trace` writes is an input of `audit`: its declarations and its trace are told apart again.
use Rattle.std.specs.Prelude.{◌≡◌, ℕ, List, ◌∷◌, ◌++◌, codes, Ok}
use Rattle.script_text.specs.Canonical.{declarations_text, declared_alone}
use Rattle.script_text.specs.Rules.{script_of}
use Rattle.script_text.specs.Scenario.{IsScenario}
use Rattle.script_text.specs.Script.{Script}
use Rattle.script_generator.specs.Starts.{declarations_in, trace_in}

-- the line `trace` and what stands after it
abbrev pub headed : List ℕ → List ℕ
headed lines = codes "trace" ++ 10 ∷ lines

pub record AreApart (n : Script) (lines : List ℕ) : Type 0 where
  pub declarations : declarations_in (declarations_text n.setup n.chance ++ headed lines) ≡ declarations_text n.setup n.chance
  pub trace : trace_in (declarations_text n.setup n.chance ++ headed lines) ≡ headed lines
  pub declared : script_of (declarations_in (declarations_text n.setup n.chance ++ headed lines)) ≡ Ok (declared_alone n.setup n.chance)

-- of the canonical declarations of every accepted script, whatever stands after the line `trace`
abbrev pub LawApart : Type 0
LawApart = (n : Script) (lines : List ℕ) → IsScenario n → AreApart n lines
