-- What a script may schedule, number by number.
use Rattle.std.proofs.Common.{◌≡◌, ◌≢◌, ℕ, ◌<◌, ◌==◌, true, false, List, length, refl, nat_lt, arith}
use Rattle.std.proofs.lemmas.Bool.{false≢true, ltb-true}
use Rattle.std.proofs.lemmas.Bool.Decides.{nat_tests}
use Rattle.std.proofs.lemmas.List.Elements.{All-weaker}
use Rattle.std.specs.Prelude.{All, not, ◌&&◌}
use Rattle.geo_base.specs.declared.event.Event.{Event}
use Rattle.geo_base.specs.declared.event.Event.TheVariants as event
use Rattle.geo_base.specs.declared.event.Step.{Step}
use Rattle.geo_base.specs.declared.event.Step.TheVariants as step
use Rattle.geo_base.specs.Planned.{has_client, has_pair, has_sub, in_range}
use Rattle.geo_base.specs.Setup.{Setup, sub_names}
use Rattle.merge_history.specs.Events.{MaySchedule, may_happen, may_schedule}
use Rattle.script_text.specs.Scenario.{IsLink, IsNode}
use Rattle.world_laws.proofs.Walks.Walk.{left, right}
use Rattle.live_output.specs.Playing.{IsEventStep}

-- ---- numbers in range

node_in : (s : Setup) (t x : ℕ) → (nat_lt t (length s.topics) && nat_lt x (length s.clusters)) ≡ true → IsNode s t x
node_in s t x h =
    (ltb-true t (length s.topics) (left (nat_lt t (length s.topics)) (nat_lt x (length s.clusters)) h), ltb-true x (length s.clusters) (right (nat_lt t (length s.topics)) (nat_lt x (length s.clusters)) h))

link_in : (s : Setup) (t x y : ℕ) → ((nat_lt t (length s.topics) && nat_lt x (length s.clusters)) && nat_lt y (length s.clusters)) ≡ true → x ≢ y → IsLink s t x y
link_in s t x y h apart =
    let n = node_in s t x (left (nat_lt t (length s.topics) && nat_lt x (length s.clusters)) (nat_lt y (length s.clusters)) h) in
    record {
      topic_in = n.0;
      source_in = n.1;
      target_in = ltb-true y (length s.clusters) (right (nat_lt t (length s.topics) && nat_lt x (length s.clusters)) (nat_lt y (length s.clusters)) h);
      apart = apart;
    }

sub_in : (s : Setup) (t x n : ℕ) → ((nat_lt t (length s.topics) && nat_lt x (length s.clusters)) && nat_lt n (length (sub_names s t))) ≡ true → IsNode s t x × (n < length (sub_names s t))
sub_in s t x n h = (
  node_in s t x (left (nat_lt t (length s.topics) && nat_lt x (length s.clusters)) (nat_lt n (length (sub_names s t))) h),
  ltb-true n (length (sub_names s t)) (right (nat_lt t (length s.topics) && nat_lt x (length s.clusters)) (nat_lt n (length (sub_names s t))) h),
)

at_client : (s : Setup) (x c : ℕ) → (nat_lt x (length s.clusters) && nat_lt c (length s.clients)) ≡ true → (x < length s.clusters) × (c < length s.clients)
at_client s x c h =
    (ltb-true x (length s.clusters) (left (nat_lt x (length s.clusters)) (nat_lt c (length s.clients)) h), ltb-true c (length s.clients) (right (nat_lt x (length s.clusters)) (nat_lt c (length s.clients)) h))

-- ---- the two ends of a link are apart

unlike : (x y : ℕ) → not (y == x) ≡ true → x ≢ y
unlike x y h = λ same. grind (arith, nat_tests, h, same)

link_of : (s : Setup) (t x y : ℕ) → (has_pair s t x y && not (y == x)) ≡ true → IsLink s t x y
link_of s t x y h = link_in s t x y (left (has_pair s t x y) (not (y == x)) h) (unlike x y (right (has_pair s t x y) (not (y == x)) h))

-- ---- an event that may happen is one that a script may schedule

pub event_step : (s : Setup) (e : Event) → may_happen s e ≡ true → IsEventStep s (step.Plain e)
event_step s (event.Go c) h = λ place. (ltb-true c (length s.clients) (left (has_client s c) true h), refl)
event_step s (event.Get c) h = λ place. (ltb-true c (length s.clients) (left (has_client s c) true h), refl)
event_step s (event.Reconnect c) h = λ place. (ltb-true c (length s.clients) (left (has_client s c) true h), refl)
event_step s (event.Serve x c) h = λ place. (at_client s x c (left (in_range s (event.Serve x c)) true h), refl)
event_step s (event.Drop x c) h = λ place. (at_client s x c (left (in_range s (event.Drop x c)) true h), refl)
event_step s (event.Reset t x y) h = λ place. (link_of s t x y h, refl)
event_step s (event.Read t x y) h = λ place. (link_of s t x y h, refl)
event_step s (event.Take t x y f) h = λ place. ((link_of s t x y h, refl), refl)
event_step s (event.Receipt t x y f) h = λ place. ((link_of s t x y h, refl), refl)
event_step s (event.Snap t x) h = λ place. (node_in s t x (left (in_range s (event.Snap t x)) true h), refl)
event_step s (event.Offer t x n) h = λ place. (sub_in s t x n (left (has_sub s t x n) true h), refl)
event_step s (event.Seek t x n to) h = λ place. ((sub_in s t x n (left (has_sub s t x n) true h), place), refl)
event_step s (event.Restart t x) h = λ place. (node_in s t x (left (in_range s (event.Restart t x)) true h), refl)

one_step : (s : Setup) (e : Step) → may_schedule s e ≡ true → IsEventStep s e
one_step s (step.Plain e) h = event_step s e h
one_step s (step.Halt n e) h = absurd (false≢true h)
one_step s step.Settle h = absurd (false≢true h)
one_step s step.Stop h = absurd (false≢true h)

pub all_steps : (s : Setup) (es : List Step) → All (MaySchedule s) es → All (IsEventStep s) es
all_steps s es h = All-weaker (MaySchedule s) (IsEventStep s) (one_step s) es h
