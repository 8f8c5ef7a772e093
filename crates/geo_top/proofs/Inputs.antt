-- What a call read of a source, and that what it answers is ready to be written.
use Rattle.std.proofs.Common.{◌≡◌, ℕ, ◌≤◌, List, [], length, refl, sym, ap, subst, inl, inr, arith}
use Rattle.std.proofs.lemmas.List.{append-nil, length-append}
use Rattle.std.specs.Prelude.{◌⊎◌, true, false, Option, Some, None, IfSome, Result, Ok, Err, IfOk}
use Rattle.std.specs.Io.KnownBytes.{Consumes}
use Rattle.geo_base.specs.declared.memory.Memory.{Memory}
use Rattle.geo_io.specs.Faults.{Rose, Stood}
use Rattle.geo_io.specs.Source.{Consumes-none, GivesOver, GivesSome}
use Rattle.geo_top.specs.declared.top.answer.Answer.{Answer}
use Rattle.geo_top.specs.declared.top.command.Command.{Command}
use Rattle.geo_top.specs.declared.top.command.Command.TheVariants as command
use Rattle.geo_top.specs.declared.top.status.Status.{Status}
use Rattle.geo_top.specs.declared.top.status.Status.TheVariants as status
use Rattle.geo_top.specs.Answered.{IsAnswered, IsCut, IsRead, no_faults}
use Rattle.geo_top.specs.Commands.{Reads, has_input}
use Rattle.geo_top.specs.Founded.{IsReady, IsSent}
use Rattle.geo_top.specs.Outputs.{refused}
use Rattle.geo_top.specs.Statuses.{IsMade}
use Rattle.geo_top.proofs.Answered.{ready_failed, ready_large, ready_made}
pub use Rattle.geo_base.proofs.Results.{on_err_always as at_error}

-- all of it
pub read_whole : (c : Option Command) (given : List ℕ → Type 0) (left : Option (List ℕ)) (before now : ℕ) (s : Status) (bytes : List ℕ) → given bytes
    → IfSome left (λ input. bytes ≡ input) → IsRead c given left before now s bytes
read_whole c given left before now s bytes gave told = record {
  part = bytes;
  rest = [];
  gave = gave;
  is = sym (append-nil bytes);
  whole = inl refl;
  all = λ made. inr refl;
  told = λ reads. told;
}

-- nothing, where the words have no input
pub read_none : (c : Option Command) (given : List ℕ → Type 0) (left : Option (List ℕ)) (before now : ℕ) (s : Status) → (Reads c → ⊥) → given []
    → IsRead c given left before now s []
read_none c given left before now s none gave = record {
  part = [];
  rest = [];
  gave = gave;
  is = refl;
  whole = inl refl;
  all = λ made. inr refl;
  told = λ reads. absurd (none reads);
}

-- a part, and the input is that with what is left after it
pub read_part : (c : Option Command) (given : List ℕ → Type 0) (left new : Option (List ℕ)) (before now : ℕ) (s : Status) (bytes : List ℕ) → given bytes → Consumes left new bytes
    → IsCut bytes before now s → (IsMade s → s ≡ status.TooLarge 1) → (input : List ℕ) × IsRead c given left before now s input × (length bytes ≤ length input)
read_part c given None new before now s bytes gave taken cut large =
    (bytes, record { part = bytes; rest = []; gave = gave; is = sym (append-nil bytes); whole = inr cut; all = λ made. inl (large made); told = λ reads. tt }, omega arith)
read_part c given (Some xs) None before now s bytes gave taken cut large = absurd taken
read_part c given (Some xs) (Some ys) before now s bytes gave taken cut large =
    let l = ap (λ (l : List ℕ). length l) taken in
    let e = length-append bytes ys in
    (xs, record { part = bytes; rest = ys; gave = gave; is = taken; whole = inr cut; all = λ made. inl (large made); told = λ reads. refl }, omega (arith, l, e))

-- what was read stays so where the sink fails
cut_for : (s : Status) (part : List ℕ) (before now : ℕ) → IsSent s → IsCut part before now s → IsCut part before now status.WriteFault
cut_for s part before now sent (inl long) = inl long
cut_for s part before now sent (inr (inl rose)) = inr (inl rose)
cut_for s part before now sent (inr (inr memory)) = absurd (subst IsSent memory sent)

whole_for : (s : Status) (part rest : List ℕ) (before now : ℕ) → IsSent s → (rest ≡ []) ⊎ IsCut part before now s → (rest ≡ []) ⊎ IsCut part before now status.WriteFault
whole_for s part rest before now sent (inl none) = inl none
whole_for s part rest before now sent (inr cut) = inr (cut_for s part before now sent cut)

pub read_still : (c : Option Command) (given : List ℕ → Type 0) (left : Option (List ℕ)) (before now : ℕ) (s : Status) (input : List ℕ) → IsSent s
    → IsRead c given left before now s input → IsRead c given left before now status.WriteFault input
read_still c given left before now s input sent r = record {
  part = r.part;
  rest = r.rest;
  gave = r.gave;
  is = r.is;
  whole = whole_for s r.part r.rest before now sent r.whole;
  all = λ made. absurd made;
  told = r.told;
}

-- ---- words that have an input
pub input_some : (c : Option Command) → has_input c ≡ true → Reads c
input_some None is = absurd (cc is)
input_some (Some (command.Reads r)) is = (r, refl)
input_some (Some (command.Big number)) is = absurd (cc is)
input_some (Some (command.BigSteps number)) is = absurd (cc is)

pub input_none : (c : Option Command) → has_input c ≡ false → Reads c → ⊥
input_none None is reads = cc reads.1
input_none (Some (command.Reads r)) is reads = cc is
input_none (Some (command.Big number)) is reads = cc reads.1
input_none (Some (command.BigSteps number)) is reads = cc reads.1

-- ---- what was read, and an answer to it
abbrev OnMade : Result Answer Memory → Type 0
OnMade r = IfOk r (λ a. IsMade a.status)

abbrev pub ReadFor : Option Command → (List ℕ → Type 0) → Option (List ℕ) → ℕ → ℕ → Status → Type 0
ReadFor c given left before now s = (input : List ℕ) × IsRead c given left before now s input

abbrev pub ReadyFor : Option Command → (List ℕ → Type 0) → Option (List ℕ) → ℕ → ℕ → Answer → Type 0
ReadyFor c given left before now a = (input : List ℕ) × IsRead c given left before now a.status input × IsReady c input before now a

pub whole_ready : (c : Option Command) (given : List ℕ → Type 0) (left : Option (List ℕ)) (before now : ℕ) (bytes : List ℕ) (r : Result Answer Memory) → given bytes
    → IfSome left (λ input. bytes ≡ input) → Stood before now → IfOk r (λ a. IsAnswered c bytes a.bytes no_faults a.status) → OnMade r → IfOk r (ReadyFor c given left before now)
whole_ready c given left before now bytes (Ok a) gave told stood h made =
    (bytes, read_whole c given left before now a.status bytes gave told, ready_made c bytes before now a h made stood)
whole_ready c given left before now bytes (Err e) gave told stood h made = tt

pub none_ready : (c : Option Command) (given : List ℕ → Type 0) (left : Option (List ℕ)) (count : ℕ) (r : Result Answer Memory) → (Reads c → ⊥) → given []
    → IfOk r (λ a. IsAnswered c [] a.bytes no_faults a.status) → OnMade r → IfOk r (ReadyFor c given left count count)
none_ready c given left count (Ok a) none gave h made = ([], read_none c given left count count a.status none gave, ready_made c [] count count a h made refl)
none_ready c given left count (Err e) none gave h made = tt

pub none_wanting : (c : Option Command) (given : List ℕ → Type 0) (left : Option (List ℕ)) (count : ℕ) → given [] → ReadFor c given left count count status.OutOfMemory
none_wanting c given left count gave =
    let p = read_part c given left left count count status.OutOfMemory [] gave (Consumes-none left) (inr (inr refl)) (λ made. absurd made) in (p.0, p.1)

pub part_wanting : (c : Option Command) (given : List ℕ → Type 0) (left new : Option (List ℕ)) (before now : ℕ) → GivesSome given left new
    → ReadFor c given left before now status.OutOfMemory
part_wanting c given left new before now part =
    let p = read_part c given left new before now status.OutOfMemory part.0 part.1 part.2 (inr (inr refl)) (λ made. absurd made) in (p.0, p.1)

pub failed_ready : (c : Option Command) (given : List ℕ → Type 0) (left new : Option (List ℕ)) (before now : ℕ) (a : Answer) → Reads c → GivesSome given left new → Rose before now
    → a ≡ refused status.ReadFault → ReadyFor c given left before now a
failed_ready c given left new before now a reads part rose is =
    let p = read_part c given left new before now a.status part.0 part.1 part.2 (inr (inl rose)) (λ made. absurd (subst IsMade (ap (λ (a : Answer). a.status) is) made)) in
    (p.0, p.1, ready_failed c p.0 before now a is reads rose)

pub large_ready : (c : Option Command) (given : List ℕ → Type 0) (left new : Option (List ℕ)) (before now : ℕ) (r : Result Answer Memory) → Reads c
    → GivesOver given left new 67108864 → Stood before now → IfOk r (λ a. a ≡ refused (status.TooLarge 1)) → IfOk r (ReadyFor c given left before now)
large_ready c given left new before now (Ok a) reads over stood is =
    let p = read_part c given left new before now a.status over.0 over.1 over.2 (inl over.3) (λ made. ap (λ (a : Answer). a.status) is) in
    (p.0, p.1, ready_large reads.0 c p.0 before now a reads.1 is (let long = over.3 in let more = p.2 in omega (arith, long, more)) stood)
large_ready c given left new before now (Err e) reads over stood is = tt

pub large_wanting : (c : Option Command) (given : List ℕ → Type 0) (left new : Option (List ℕ)) (before now : ℕ) → GivesOver given left new 67108864
    → ReadFor c given left before now status.OutOfMemory
large_wanting c given left new before now over =
    let p = read_part c given left new before now status.OutOfMemory over.0 over.1 over.2 (inl over.3) (λ made. absurd made) in (p.0, p.1)
