-- The trace of a run of the program is that of the machine's.
use Rattle.std.proofs.Common.{◌≡◌, ℕ, List, [], ◌∷◌, ◌++◌, append_assoc, ap, subst, sym, ◌∙◌}
use Rattle.std.specs.Prelude.{Result, Ok, OnOk, codes}
use Rattle.geo_base.specs.declared.event.Step.{Step}
use Rattle.geo_base.specs.Run.{all_limits}
use Rattle.geo_base.specs.Traced.{items_from, traced}
use Rattle.geo_base.specs.World.{World, opening_world}
use Rattle.script_text.specs.Canonical.{declarations_text}
use Rattle.script_text.specs.Script.{Script}
use Rattle.world.specs.declared.fault.RunFault.{RunFault}
use Rattle.world.specs.Runs.{at_world}
use Rattle.world.specs.World.{WorldView, kept_of}
use Rattle.kept_laws.proofs.Keeping.{opening}
use Rattle.kept_laws.proofs.Reaching.{opening_reached}
use Rattle.kept_laws.specs.Kept.{Kept, opening_kept}
use Rattle.kept_laws.specs.Reached.{Reached}
use Rattle.kept_laws.specs.Standing.{Stands}
use Rattle.trace_runs.specs.Tracing.{item_lines}
use Rattle.geo_top.specs.Traced.{traced_of}

abbrev head_of : Script → List ℕ
head_of n = declarations_text n.setup n.chance ++ (codes "trace" ++ 10 ∷ [])

-- the lines after the line `trace` make the whole
whole : (n : Script) → head_of n ++ item_lines n.setup (traced all_limits n.setup n.steps) ≡ traced_of n
whole n =
    let lines = item_lines n.setup (traced all_limits n.setup n.steps) in
    append_assoc (declarations_text n.setup n.chance) (codes "trace" ++ 10 ∷ []) lines

ok_of : (X : Type 0) (r : Result (Unit {0}) RunFault) (u : Unit {0}) → r ≡ Ok u → OnOk r X → X
ok_of X r u is h = subst (λ (r : Result (Unit {0}) RunFault). OnOk r X) is h

pub traced_run : (n : Script) (old : WorldView) (es : List Step) (head text : List ℕ) (r : Result (Unit {0}) RunFault) (u : Unit {0}) → kept_of old ≡ opening_kept n.setup → es ≡ n.steps
    → head ≡ head_of n
    → ((w : World) → Reached n.setup w → Stands n.setup (kept_of old) w → OnOk r (text ≡ head ++ item_lines n.setup (items_from all_limits n.setup (at_world w) es))) → r ≡ Ok u
    → text ≡ traced_of n
traced_run n old es head text r u opens steps head_is told ok =
    let s = n.setup in
    let lines = ok_of _ r u ok (told (opening_world s) (opening_reached s) (subst (λ (k : Kept). Stands s k (opening_world s)) (sym opens) (opening s))) in
    lines
    ∙ (ap (λ (h : List ℕ). h ++ item_lines s (items_from all_limits s (at_world (opening_world s)) es)) head_is
    ∙ (ap (λ (fs : List Step). head_of n ++ item_lines s (items_from all_limits s (at_world (opening_world s)) fs)) steps ∙ whole n))
