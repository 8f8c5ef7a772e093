-- All that is promised of an answer, from how it is founded; and what is left of it where source, sink or memory fails.
use Rattle.std.proofs.Common.{◌≡◌, ℕ, ◌<◌, ◌≤◌, Bool, false, List, [], take, length, refl, ap, subst, sym, ◌∙◌, inl, inr, arith}
use Rattle.std.proofs.lemmas.Bool.{lt-ltb}
use Rattle.std.proofs.lemmas.Bool.Decides.{nat_tests}
use Rattle.std.specs.Prelude.{Option, Some, None, true, nat_lt}
use Rattle.geo_io.specs.Faults.{Rose, Stood}
use Rattle.world_laws.proofs.KeptRuns.ResumedRuns.{resumed_law}
use Rattle.world_laws.proofs.KeptRuns.SavedRuns.{reached_law}
use Rattle.geo_top.specs.declared.top.answer.Answer.{Answer}
use Rattle.geo_top.specs.declared.top.command.Command.{Command}
use Rattle.geo_top.specs.declared.top.command.Command.TheVariants as command
use Rattle.geo_top.specs.declared.top.command.Reading.{Reading}
use Rattle.geo_top.specs.declared.top.status.Status.{Status}
use Rattle.geo_top.specs.declared.top.status.Status.TheVariants as status
use Rattle.geo_base.specs.Run.{run}
use Rattle.script_text.specs.Rules.{script_of}
use Rattle.script_text.specs.Schedule.{schedule_of}
use Rattle.geo_top.specs.Answered.{FaultCounts, HasCause, IsAnswered, WentOut, WritesLine, no_faults}
use Rattle.run_report.specs.Claims.{HoldsOf, HoldsWithin}
use Rattle.geo_top.specs.Commands.{Reads}
use Rattle.geo_top.specs.Founded.{IsFounded, IsKnown, IsReady, IsSent}
use Rattle.geo_top.specs.Losing.{LossHolds, lost_of}
use Rattle.geo_top.specs.OneRun.{GoesOnAlike, IsKept}
use Rattle.geo_top.specs.Outputs.{IsAnswerFor, IsAnswerToBytes, UnlessLarge, answer_to_big, answer_to_big_steps, output_of, refused}
use Rattle.run_report.specs.Reports.{report_of}
use Rattle.run_report.specs.States.{file_of, gone_on, state_of_run, stopped}
use Rattle.geo_top.specs.Statuses.{IsDue, IsMade, refusal_line}
use Rattle.geo_top.specs.Stepped.{AreAllSaid, steps_of}
use Rattle.geo_top.proofs.Accepted.{traced_accepted, traced_whole}
use Rattle.geo_top.proofs.Answering.{big_is, counted, judged_whole, of_saved, of_script, ok_audited, ok_big, ok_big_steps, ok_resumed, ok_saved, LosesOn, loss_holds, ok_told, ok_told_on, safe_audited, told_loss, told_loss_on, told_loss_saved}
use Rattle.geo_top.proofs.Causing.{IsCaused, caused, caused_made, lined}
use Rattle.run_report.proofs.Claims.{generated_holds, holds_of}
use Rattle.geo_top.proofs.GoingOut.{only_answer, same_due, went, went_is, writes}
use Rattle.geo_top.proofs.GoingOn.{goes_alike, goes_within}
use Rattle.geo_top.proofs.Judged.{judged}
use Rattle.geo_top.proofs.OneRun.{kept_is, losses_same, reports_same}
use Rattle.run_report.proofs.Quiet.{generated_quiet}
use Rattle.script_generator.proofs.InRange.{is_scenario}
use Rattle.script_generator.specs.Generated.{generated_run}
use Rattle.geo_top.proofs.SaidSteps.{all_written, script_said}
use Rattle.geo_top.proofs.SavedWith.{ok_maps}

not_long : (n : ℕ) → n ≤ 67108864 → nat_lt 67108864 n ≡ false
not_long n small = grind (arith, nat_tests, small)

-- ---- an answer that was made
-- what it was caused by tells nothing of faults
cause_of : (c : Option Command) (input : List ℕ) (f : FaultCounts) (s : Status) → IsCaused c input s → HasCause c input f s
cause_of c input f status.Ok is = is
cause_of c input f status.Usage is = is
cause_of c input f (status.BadScript line rule) is = is
cause_of c input f status.ReadFault is = absurd is
cause_of c input f status.WriteFault is = absurd is
cause_of c input f (status.TooLarge limit) is = is
cause_of c input f status.OutOfMemory is = absurd is
cause_of c input f (status.BadState offset rule) is = is
cause_of c input f (status.StateVersion number) is = is
cause_of c input f (status.AuditRefused event rule) is = is
cause_of c input f (status.BadObservation line rule) is = is
cause_of c input f status.Found is = is

pub answered : (c : Option Command) (input : List ℕ) (a : Answer) (f : FaultCounts) → IsFounded c input a → Stood f.source f.source_now → IsAnswered c input a.bytes f a.status
answered c input a f founded stood = record {
  shows = of_script c input a founded (λ v n. (a.bytes ≡ output_of v n) × HoldsWithin n) (λ v n k is none. (is, (none, holds_of n k.setup none)));
  saved = λ ok save.
      ok_maps (script_of input) (λ n. IsKept n × (a.bytes ≡ file_of n)) (λ n. IsKept n × (a.bytes ≡ file_of n) × HoldsOf (stopped n))
      (λ n k. (k.0, k.1, holds_of (stopped n) k.0.scenario.setup k.0.within)) (ok_saved c input a founded ok save);
  resumed = ok_resumed c input a founded;
  one_run = of_saved c input a founded (λ n es. (a.bytes ≡ report_of (gone_on n es)) × HoldsWithin (gone_on n es) × GoesOnAlike n es)
      (λ n es k is none.
      let within = goes_within n es k none in
      (is ∙ reports_same resumed_law n es (kept_is reached_law n k), (within, holds_of (gone_on n es) k.scenario.setup within), goes_alike n es k));
  one_answer = λ text lines n made is said k. counted c input a founded text lines n (not_long (length input) k.read) is said k;
  audited = ok_audited c input a founded;
  audited_safe = safe_audited c input a founded;
  accepted = traced_accepted;
  whole = judged_whole c input a founded;
  stepped = ok_told c input a founded (λ n. (a.bytes ≡ steps_of input n) × HoldsWithin n × AreAllSaid input n)
      (λ n read k is none. (is, (none, holds_of n k.setup none), script_said input n read));
  stepped_on = ok_told_on c input a founded;
  stepped_big = λ number ok is. let big = ok_big_steps c input a number founded ok is in
      (big.0, (big.1, generated_holds number big.1), all_written (generated_run number) (is_scenario (generated_run number) number refl));
  lost = record {
    ended = told_loss c input a founded;
    on_state = told_loss_on c input a founded;
    one_run = λ name n lines ok is k.
        ok_maps (schedule_of n.setup lines) (LosesOn name a.bytes (state_of_run n)) (λ es. let m = gone_on n es in (a.bytes ≡ lost_of name true m) × HoldsWithin m × LossHolds n.setup (run n.setup m.steps))
        (λ es h. let within = goes_within n es k.kept h.2 in
        (h.1 ∙ losses_same resumed_law n name es (kept_is reached_law n k.kept), (within, holds_of (gone_on n es) k.kept.scenario.setup within), loss_holds n.setup (gone_on n es).steps))
        (told_loss_saved c input a founded name n lines ok is k);
  };
  observed = judged c input a founded;
  summary = λ number ok is. let big = ok_big c input a number founded ok is in (big.0, (big.1, generated_holds number big.1));
  quiet = generated_quiet;
  cause = cause_of c input f a.status (caused c input a founded.due);
  read_well = λ made. stood;
  no_command = λ none. same_due status.Usage a.status (sym (ap (λ (a : Answer). a.status) (subst (λ (c : Option Command). IsAnswerFor c input a) none founded.due)));
  due = λ d is. same_due d.status a.status (ap (λ (a : Answer). a.status) (only_answer c input d a is founded.due));
  big = λ number is. same_due (answer_to_big number).status a.status (sym (ap (λ (a : Answer). a.status) (big_is c input a number founded is)));
  out = λ d is. went c d f a.status a.bytes made (ap (λ (a : Answer). a.bytes) (only_answer c input a d founded.due is));
  line = writes a.status a.bytes made (lined c input a founded.due);
}
  where
    made : IsMade a.status
    made = caused_made c input a.status (caused c input a founded.due)

pub founded_made : (c : Option Command) (input : List ℕ) (a : Answer) → IsFounded c input a → IsMade a.status
founded_made c input a founded = caused_made c input a.status (caused c input a founded.due)

pub answered_free : (c : Option Command) (input : List ℕ) (a : Answer) → IsFounded c input a → IsAnswered c input a.bytes no_faults a.status
answered_free c input a founded = answered c input a no_faults founded refl

-- ---- how answers are founded
pub founded_usage : (input : List ℕ) (a : Answer) → a ≡ refused status.Usage → IsFounded None input a
founded_usage input a is = record { due = is; known = tt }

pub founded_big : (input : List ℕ) (number : ℕ) (a : Answer) → a ≡ answer_to_big number → IsFounded (Some (command.Big number)) input a
founded_big input number a is = record { due = is; known = tt }

pub founded_big_steps : (input : List ℕ) (number : ℕ) (a : Answer) → a ≡ answer_to_big_steps number → IsFounded (Some (command.BigSteps number)) input a
founded_big_steps input number a is = record { due = is; known = tt }

pub founded_large : (r : Reading) (input : List ℕ) (a : Answer) → a ≡ refused (status.TooLarge 1) → 67108864 < length input → IsFounded (Some (command.Reads r)) input a
founded_large r input a is long = record {
  due = subst (λ (t : Bool). UnlessLarge t a (IsAnswerToBytes r input a)) (sym (lt-ltb 67108864 (length input) long)) is;
  known = λ ok. absurd (cc (ok, ap (λ (a : Answer). a.status) is));
}

pub founded_bytes : (r : Reading) (input : List ℕ) (a : Answer) → length input ≤ 67108864 → IsAnswerToBytes r input a → IsKnown r input → IsFounded (Some (command.Reads r)) input a
founded_bytes r input a small is known = record {
  due = subst (λ (t : Bool). UnlessLarge t a (IsAnswerToBytes r input a)) (sym (not_long (length input) small)) is;
  known = λ ok. known;
}

-- ---- a fault, or want of memory, of which nothing else is claimed
abbrev pub IsFault : Status → Type 0
IsFault status.ReadFault = Unit {0}
IsFault status.WriteFault = Unit {0}
IsFault status.OutOfMemory = Unit {0}
IsFault s = ⊥

not_made : {X : Type 0} (s : Status) → IsFault s → IsMade s → X
not_made status.ReadFault fault made = absurd made
not_made status.WriteFault fault made = absurd made
not_made status.OutOfMemory fault made = absurd made
not_made s fault made = absurd fault

fault_due : (d s : Status) → IsFault s → IsDue d s
fault_due d status.ReadFault fault = tt
fault_due d status.WriteFault fault = tt
fault_due d status.OutOfMemory fault = tt
fault_due d s fault = absurd fault

failed : (c : Option Command) (input output : List ℕ) (f : FaultCounts) (s : Status) → IsFault s → HasCause c input f s
    → ((a : Answer) → IsAnswerFor c input a → WentOut c a f s output) → WritesLine s output → IsAnswered c input output f s
failed c input output f s fault cause out line = record {
  shows = λ v is run. absurd (other is);
  saved = λ is save. absurd (other is);
  resumed = λ is resume. absurd (other is);
  one_run = λ n lines is resume k. absurd (other is);
  one_answer = λ text lines n made is said k. not_made s fault made;
  audited = λ is audit. absurd (other is);
  audited_safe = λ is audit. absurd (other is);
  accepted = traced_accepted;
  whole = record { judged = λ is audit. absurd (other is); gapless = λ is audit. absurd (other is); accepted = traced_whole };
  stepped = λ is steps. absurd (other is);
  stepped_on = λ is steps. absurd (other is);
  stepped_big = λ number is big. absurd (other is);
  lost = record {
    ended = λ name names is lost. absurd (other is);
    on_state = λ name is lost. absurd (other is);
    one_run = λ name n lines is lost k. absurd (other is);
  };
  observed = record { safe = λ is observe. absurd (other is); found = λ is observe. absurd (none is) };
  summary = λ number is big. absurd (other is);
  quiet = generated_quiet;
  cause = cause;
  read_well = λ made. not_made s fault made;
  no_command = λ none. fault_due status.Usage s fault;
  due = λ a is. fault_due a.status s fault;
  big = λ number is. fault_due (answer_to_big number).status s fault;
  out = out;
  line = line;
}
  where
    other : s ≡ status.Ok → ⊥
    other is = subst IsFault is fault

    none : s ≡ status.Found → ⊥
    none is = subst IsFault is fault

-- the source failed
pub read_failed : (c : Option Command) (input : List ℕ) (f : FaultCounts) → Reads c → Rose f.source f.source_now → IsAnswered c input (refusal_line status.ReadFault) f status.ReadFault
read_failed c input f reads rose =
    failed c input (refusal_line status.ReadFault) f status.ReadFault tt (reads, rose) (λ a is. refl) refl

-- memory was wanting, and nothing went out
pub wanting : (c : Option Command) (input : List ℕ) (f : FaultCounts) → Stood f.source f.source_now → Stood f.sink f.sink_now → IsAnswered c input [] f status.OutOfMemory
wanting c input f source sink =
    failed c input [] f status.OutOfMemory tt (source, sink) (λ a is. refl) refl

-- the sink failed, and a beginning went out: of the answer, where one was made
made_part : (c : Option Command) (input output : List ℕ) (f : FaultCounts) (s : Status) (k : ℕ) → IsMade s → IsAnswered c input output f s
    → (a : Answer) → IsAnswerFor c input a → WentOut c a f status.WriteFault (take k output)
made_part c input output f s k made h a is = inl (h.read_well made, (k, ap (take k) (went_is c a f s output made (h.out a is))))

part_out : (c : Option Command) (input output : List ℕ) (f : FaultCounts) (s : Status) (k : ℕ) → IsSent s → IsAnswered c input output f s
    → (a : Answer) → IsAnswerFor c input a → WentOut c a f status.WriteFault (take k output)
part_out c input output f status.ReadFault k sent h a is = inr (h.cause.0, h.cause.1, (k, ap (take k) h.line))
part_out c input output f status.WriteFault k sent h a is = absurd sent
part_out c input output f status.OutOfMemory k sent h a is = absurd sent
part_out c input output f status.Ok k sent h a is = made_part c input output f status.Ok k tt h a is
part_out c input output f status.Usage k sent h a is = made_part c input output f status.Usage k tt h a is
part_out c input output f (status.BadScript line rule) k sent h a is = made_part c input output f (status.BadScript line rule) k tt h a is
part_out c input output f (status.TooLarge limit) k sent h a is = made_part c input output f (status.TooLarge limit) k tt h a is
part_out c input output f (status.BadState offset rule) k sent h a is = made_part c input output f (status.BadState offset rule) k tt h a is
part_out c input output f (status.StateVersion number) k sent h a is = made_part c input output f (status.StateVersion number) k tt h a is
part_out c input output f (status.AuditRefused event rule) k sent h a is = made_part c input output f (status.AuditRefused event rule) k tt h a is
part_out c input output f (status.BadObservation line rule) k sent h a is = made_part c input output f (status.BadObservation line rule) k tt h a is
part_out c input output f status.Found k sent h a is = made_part c input output f status.Found k tt h a is

pub write_failed : (c : Option Command) (input : List ℕ) (before now sink sink_now k : ℕ) (a : Answer) → IsReady c input before now a → Rose sink sink_now
    → IsAnswered c input (take k a.bytes) (record { source = before; source_now = now; sink = sink; sink_now = sink_now }) status.WriteFault
write_failed c input before now sink sink_now k a ready rose =
    let f : FaultCounts = record { source = before; source_now = now; sink = sink; sink_now = sink_now } in
    failed c input (take k a.bytes) f status.WriteFault tt rose (part_out c input a.bytes f a.status k ready.sent (ready.answered sink sink_now)) tt

-- ---- an answer that is ready to be written
made_sent : (s : Status) → IsMade s → IsSent s
made_sent status.Ok made = tt
made_sent status.Usage made = tt
made_sent (status.BadScript line rule) made = tt
made_sent status.ReadFault made = tt
made_sent status.WriteFault made = made
made_sent (status.TooLarge limit) made = tt
made_sent status.OutOfMemory made = made
made_sent (status.BadState offset rule) made = tt
made_sent (status.StateVersion number) made = tt
made_sent (status.AuditRefused event rule) made = tt
made_sent (status.BadObservation line rule) made = tt
made_sent status.Found made = tt

-- what is promised of an answer that was made looks at faults of the source alone, of which there were none
cause_again : (c : Option Command) (input : List ℕ) (f g : FaultCounts) (s : Status) → IsMade s → HasCause c input g s → HasCause c input f s
cause_again c input f g status.Ok made is = is
cause_again c input f g status.Usage made is = is
cause_again c input f g (status.BadScript line rule) made is = is
cause_again c input f g status.ReadFault made is = absurd made
cause_again c input f g status.WriteFault made is = absurd made
cause_again c input f g (status.TooLarge limit) made is = is
cause_again c input f g status.OutOfMemory made is = absurd made
cause_again c input f g (status.BadState offset rule) made is = is
cause_again c input f g (status.StateVersion number) made is = is
cause_again c input f g (status.AuditRefused event rule) made is = is
cause_again c input f g (status.BadObservation line rule) made is = is
cause_again c input f g status.Found made is = is

counted_again : (c : Option Command) (input output : List ℕ) (f g : FaultCounts) (s : Status) → IsMade s → Stood f.source f.source_now → IsAnswered c input output g s
    → IsAnswered c input output f s
counted_again c input output f g s made stood h = record {
  shows = h.shows;
  saved = h.saved;
  resumed = h.resumed;
  one_run = h.one_run;
  one_answer = h.one_answer;
  audited = h.audited;
  audited_safe = h.audited_safe;
  accepted = h.accepted;
  whole = h.whole;
  stepped = h.stepped;
  stepped_on = h.stepped_on;
  stepped_big = h.stepped_big;
  lost = h.lost;
  observed = h.observed;
  summary = h.summary;
  quiet = h.quiet;
  cause = cause_again c input f g s made h.cause;
  read_well = λ made. stood;
  no_command = h.no_command;
  due = h.due;
  big = h.big;
  out = λ a is. went c a f s output made (went_is c a g s output made (h.out a is));
  line = h.line;
}

pub ready_made : (c : Option Command) (input : List ℕ) (before now : ℕ) (a : Answer) → IsAnswered c input a.bytes no_faults a.status → IsMade a.status → Stood before now
    → IsReady c input before now a
ready_made c input before now a h made stood = record {
  sent = made_sent a.status made;
  answered = λ k l. counted_again c input a.bytes (record { source = before; source_now = now; sink = k; sink_now = l }) no_faults a.status made stood h;
}

pub ready_failed : (c : Option Command) (input : List ℕ) (before now : ℕ) (a : Answer) → a ≡ refused status.ReadFault → Reads c → Rose before now → IsReady c input before now a
ready_failed c input before now a is reads rose =
    subst (λ (a : Answer). IsReady c input before now a) (sym is) (record {
      sent = tt;
      answered = λ k l. read_failed c input (record { source = before; source_now = now; sink = k; sink_now = l }) reads rose;
    })

pub ready_large : (r : Reading) (c : Option Command) (input : List ℕ) (before now : ℕ) (a : Answer) → c ≡ Some (command.Reads r) → a ≡ refused (status.TooLarge 1)
    → 67108864 < length input → Stood before now → IsReady c input before now a
ready_large r c input before now a command is long stood =
    let founded : IsFounded c input a = subst (λ (c : Option Command). IsFounded c input a) (sym command) (founded_large r input a is long) in
    record {
      sent = made_sent a.status (founded_made c input a founded);
      answered = λ k l. answered c input a (record { source = before; source_now = now; sink = k; sink_now = l }) founded stood;
    }
