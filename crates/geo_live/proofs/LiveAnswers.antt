-- All that is promised of an answer of `live`, from how it was made; and what is left of it where source, sink or memory fails.
use Rattle.std.proofs.Common.{◌≡◌, ℕ, ◌<◌, ◌≤◌, Bool, true, false, List, [], take, length, refl, ap, subst, sym, ◌∙◌, inl, inr, arith, if◌then◌else◌}
use Rattle.std.proofs.lemmas.Bool.{lt-ltb, ltb-true}
use Rattle.std.proofs.lemmas.Bool.Decides.{nat_tests}
use Rattle.std.specs.Prelude.{Option, Some, None, Result, Ok, Err, IfOk, IsOkAnd, nat_lt}
use Rattle.geo_base.specs.declared.memory.Memory.{Memory}
use Rattle.geo_io.specs.Faults.{Rose, Stood}
use Rattle.script_text.specs.Rules.{script_of}
use Rattle.script_text.specs.Script.{Fault, Script}
use Rattle.geo_top.specs.declared.top.answer.Answer.{Answer}
use Rattle.geo_top.specs.declared.top.status.Status.{Status}
use Rattle.geo_top.specs.declared.top.status.Status.TheVariants as status
use Rattle.geo_top.specs.Answered.{FaultCounts, WritesLine}
use Rattle.geo_top.specs.Founded.{IsSent}
use Rattle.geo_top.specs.Outputs.{refused}
use Rattle.geo_top.proofs.GoingOut.{same_due}
use Rattle.live_output.specs.LiveRuns.{TellsRun}
use Rattle.geo_live.proofs.Replaying.{replays}
use Rattle.geo_live.specs.LiveAnswers.{HasLiveCause, IsLiveAnswer, IsLiveAnswered, IsLiveReady, IsTextOf, RanLive, live_status, status_to, unless_scheduled}

-- ---- what an input comes to
data Case (input : List ℕ) : Status → Type 0 where
  Long : 67108864 < length input → Case input (status.TooLarge 1)
  Refused : (f : Fault) → script_of input ≡ Err f → Case input (status.BadScript f.line f.rule)
  Scheduled : (n : Script) (line : ℕ) → script_of input ≡ Ok n → n.first_event ≡ Some line → Case input (status.BadScript line 20)
  Runs : (n : Script) → script_of input ≡ Ok n → n.first_event ≡ None → Case input status.Ok

by_first : (input : List ℕ) (n : Script) (o : Option ℕ) → script_of input ≡ Ok n → n.first_event ≡ o → Case input (unless_scheduled o)
by_first input n None is first = Case.Runs n is first
by_first input n (Some line) is first = Case.Scheduled n line is first

by_script : (input : List ℕ) (r : Result Script Fault) → script_of input ≡ r → Case input (status_to r)
by_script input (Ok n) is = by_first input n n.first_event is refl
by_script input (Err f) is = Case.Refused f is

by_length : (input : List ℕ) (t : Bool) → nat_lt 67108864 (length input) ≡ t → Case input (if t then status.TooLarge 1 else status_to (script_of input))
by_length input true is = Case.Long (ltb-true 67108864 (length input) is)
by_length input false is = by_script input (script_of input) refl

case_of : (input : List ℕ) → Case input (live_status input)
case_of input = by_length input (nat_lt 67108864 (length input)) refl

sent_as : (input : List ℕ) (s : Status) → Case input s → IsSent s
sent_as input s (Case.Long long) = tt
sent_as input s (Case.Refused f is) = tt
sent_as input s (Case.Scheduled n line is first) = tt
sent_as input s (Case.Runs n is first) = tt

-- ---- an answer that was made
cause_of : (input : List ℕ) (f : FaultCounts) (s : Status) → Case input s → HasLiveCause input f s
cause_of input f s (Case.Long long) = (refl, long)
cause_of input f s (Case.Refused e said) = inl said
cause_of input f s (Case.Scheduled n line said first) =
    inr (refl, subst (λ (x : Result Script Fault). IsOkAnd x (λ n. n.first_event ≡ Some line)) (sym said) first)
cause_of input f s (Case.Runs n said first) = tt

line_of : (input bytes : List ℕ) (s : Status) → Case input s → IsTextOf s input bytes → WritesLine s bytes
line_of input bytes s (Case.Long long) text = text
line_of input bytes s (Case.Refused e said) text = text
line_of input bytes s (Case.Scheduled n line said first) text = text
line_of input bytes s (Case.Runs n said first) text = tt

no_write : (input : List ℕ) (s : Status) → Case input s → s ≡ status.WriteFault → ⊥
no_write input s (Case.Long long) is = cc is
no_write input s (Case.Refused e said) is = cc is
no_write input s (Case.Scheduled n line said first) is = cc is
no_write input s (Case.Runs n said first) is = cc is

answered : (input : List ℕ) (a : Answer) (f : FaultCounts) → IsLiveAnswer input a → Stood f.source f.source_now → IsLiveAnswered input a.bytes f a.status
answered input a f h stood =
    subst (λ (s : Status). IsLiveAnswered input a.bytes f s) (sym h.status) (record {
      live = λ ok. subst (λ (s : Status). IsTextOf s input a.bytes) ok h.bytes;
      cause = cause_of input f (live_status input) (case_of input);
      read_well = λ made. stood;
      due = same_due (live_status input) (live_status input) refl;
      line = line_of input a.bytes (live_status input) (case_of input) h.bytes;
      part = λ is. absurd (no_write input (live_status input) (case_of input) is);
    })

pub ready_made : (input : List ℕ) (before now : ℕ) (a : Answer) → IsLiveAnswer input a → Stood before now → IsLiveReady input before now a
ready_made input before now a h stood = record {
  sent = subst IsSent (sym h.status) (sent_as input (live_status input) (case_of input));
  answered = λ k l. answered input a (record { source = before; source_now = now; sink = k; sink_now = l }) h stood;
  part = λ k l n. inl (a, h, stood, (n, refl));
}

-- ---- the source failed
pub ready_failed : (input : List ℕ) (before now : ℕ) (a : Answer) → a ≡ refused status.ReadFault → Rose before now → IsLiveReady input before now a
ready_failed input before now a is rose =
    subst (λ (a : Answer). IsLiveReady input before now a) (sym is) (record {
      sent = tt;
      answered = λ k l. record {
        live = λ is. absurd (cc is);
        cause = rose;
        read_well = λ made. absurd made;
        due = tt;
        line = refl;
        part = λ is. absurd (cc is);
      };
      part = λ k l n. inr (rose, (n, refl));
    })

-- ---- memory was wanting, and nothing went out
pub wanting : (input : List ℕ) (f : FaultCounts) → Stood f.source f.source_now → Stood f.sink f.sink_now → IsLiveAnswered input [] f status.OutOfMemory
wanting input f source sink = record {
  live = λ is. absurd (cc is);
  cause = (source, sink);
  read_well = λ made. absurd made;
  due = tt;
  line = refl;
  part = λ is. absurd (cc is);
}

-- ---- the sink failed, and a beginning went out
pub write_failed : (input : List ℕ) (before now k l n : ℕ) (a : Answer) → IsLiveReady input before now a → Rose k l
    → IsLiveAnswered input (take n a.bytes) (record { source = before; source_now = now; sink = k; sink_now = l }) status.WriteFault
write_failed input before now k l n a ready rose = record {
  live = λ is. absurd (cc is);
  cause = rose;
  read_well = λ made. absurd made;
  due = tt;
  line = tt;
  part = λ is. ready.part k l n;
}

-- ---- how answers are made
made : (input : List ℕ) (a : Answer) (s : Status) → live_status input ≡ s → a.status ≡ s → IsTextOf s input a.bytes → IsLiveAnswer input a
made input a s due is text = record { status = is ∙ sym due; bytes = subst (λ (s : Status). IsTextOf s input a.bytes) (sym due) text }

long_status : (input : List ℕ) → 67108864 < length input → live_status input ≡ status.TooLarge 1
long_status input long = ap (λ (t : Bool). if t then status.TooLarge 1 else status_to (script_of input)) (lt-ltb 67108864 (length input) long)

short_status : (input : List ℕ) (r : Result Script Fault) → length input ≤ 67108864 → script_of input ≡ r → live_status input ≡ status_to r
short_status input r short is =
    let not_long : nat_lt 67108864 (length input) ≡ false = grind (arith, nat_tests, short) in
    ap (λ (t : Bool). if t then status.TooLarge 1 else status_to (script_of input)) not_long ∙ ap status_to is

pub made_long : (input : List ℕ) (a : Answer) → 67108864 < length input → a ≡ refused (status.TooLarge 1) → IsLiveAnswer input a
made_long input a long is =
    made input a (status.TooLarge 1) (long_status input long) (ap (λ (a : Answer). a.status) is) (ap (λ (a : Answer). a.bytes) is)

pub made_refused : (input : List ℕ) (a : Answer) (line rule : ℕ) → length input ≤ 67108864 → script_of input ≡ Err (record { line = line; rule = rule })
    → a ≡ refused (status.BadScript line rule) → IsLiveAnswer input a
made_refused input a line rule short said is =
    made input a (status.BadScript line rule) (short_status input _ short said) (ap (λ (a : Answer). a.status) is) (ap (λ (a : Answer). a.bytes) is)

pub made_scheduled : (input : List ℕ) (a : Answer) (n : Script) (line : ℕ) → length input ≤ 67108864 → script_of input ≡ Ok n → n.first_event ≡ Some line
    → a ≡ refused (status.BadScript line 20) → IsLiveAnswer input a
made_scheduled input a n line short said first is =
    made input a (status.BadScript line 20) (short_status input _ short said ∙ ap unless_scheduled first) (ap (λ (a : Answer). a.status) is) (ap (λ (a : Answer). a.bytes) is)

pub made_run : (input : List ℕ) (a : Answer) (n : Script) → length input ≤ 67108864 → script_of input ≡ Ok n → n.first_event ≡ None
    → a.status ≡ status.Ok → TellsRun n a.bytes → IsLiveAnswer input a
made_run input a n short said first is tells =
    made input a status.Ok (short_status input _ short said ∙ ap unless_scheduled first) is
    (subst (λ (x : Result Script Fault). IsOkAnd x (RanLive input a.bytes)) (sym said)
    (record { unscheduled = first; tells = tells; replayed = replays input n tells.schedule said first tells.run }))

-- so it is of what is written of a run, if memory was found for it
pub run_answered : (input : List ℕ) (n : Script) (r : Result Answer Memory) → length input ≤ 67108864 → script_of input ≡ Ok n → n.first_event ≡ None
    → IfOk r (λ a. a.status ≡ status.Ok) → IfOk r (λ a. TellsRun n a.bytes) → IfOk r (IsLiveAnswer input)
run_answered input n (Ok a) short said first ok tells = made_run input a n short said first ok tells
run_answered input n (Err e) short said first ok tells = tt
