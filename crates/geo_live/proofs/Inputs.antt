-- What `live` read of a source, and that what it answers is ready to be written.
use Rattle.std.proofs.Common.{◌≡◌, ℕ, ◌<◌, List, length, ap, subst, inl, inr, arith}
use Rattle.std.specs.Prelude.{Option, Some, IfSome, Result, Ok, Err, IfOk}
use Rattle.geo_base.specs.declared.memory.Memory.{Memory}
use Rattle.geo_io.specs.Faults.{Rose, Stood}
use Rattle.geo_io.specs.Source.{GivesOver, GivesSome}
use Rattle.geo_top.specs.declared.top.answer.Answer.{Answer}
use Rattle.geo_top.specs.declared.top.status.Status.TheVariants as status
use Rattle.geo_top.specs.Commands.{run_command}
use Rattle.geo_top.specs.Outputs.{refused}
use Rattle.geo_top.specs.Statuses.{IsMade}
use Rattle.geo_top.proofs.Inputs.{read_part, read_whole}
use Rattle.geo_live.specs.LiveAnswers.{IsLiveAnswer, IsLiveRead, IsLiveReady}
use Rattle.geo_live.proofs.LiveAnswers.{made_long, ready_failed, ready_made}

abbrev pub ReadyFor : (List ℕ → Type 0) → Option (List ℕ) → ℕ → ℕ → Answer → Type 0
ReadyFor given left before now a = (input : List ℕ) × IsLiveRead given left before now a.status input × IsLiveReady input before now a

pub whole_ready : (given : List ℕ → Type 0) (left : Option (List ℕ)) (before now : ℕ) (bytes : List ℕ) (r : Result Answer Memory) → given bytes
    → IfSome left (λ input. bytes ≡ input) → Stood before now → IfOk r (IsLiveAnswer bytes) → IfOk r (ReadyFor given left before now)
whole_ready given left before now bytes (Ok a) gave told stood h =
    (bytes, read_whole (Some run_command) given left before now a.status bytes gave told, ready_made bytes before now a h stood)
whole_ready given left before now bytes (Err e) gave told stood h = tt

pub failed_ready : (given : List ℕ → Type 0) (left new : Option (List ℕ)) (before now : ℕ) (a : Answer) → GivesSome given left new → Rose before now
    → a ≡ refused status.ReadFault → ReadyFor given left before now a
failed_ready given left new before now a part rose is =
    let p = read_part (Some run_command) given left new before now a.status part.0 part.1 part.2 (inr (inl rose))
    (λ made. absurd (subst IsMade (ap (λ (a : Answer). a.status) is) made)) in
    (p.0, p.1, ready_failed p.0 before now a is rose)

pub large_ready : (given : List ℕ → Type 0) (left new : Option (List ℕ)) (before now : ℕ) (r : Result Answer Memory) → GivesOver given left new 67108864
    → Stood before now → IfOk r (λ a. a ≡ refused (status.TooLarge 1)) → IfOk r (ReadyFor given left before now)
large_ready given left new before now (Ok a) over stood is =
    let p = read_part (Some run_command) given left new before now a.status over.0 over.1 over.2 (inl over.3) (λ made. ap (λ (a : Answer). a.status) is) in
    let long : 67108864 < length p.0 = let lt = over.3 in let more = p.2 in omega (arith, lt, more) in
    (p.0, p.1, ready_made p.0 before now a (made_long p.0 a long is) stood)
large_ready given left new before now (Err e) over stood is = tt
