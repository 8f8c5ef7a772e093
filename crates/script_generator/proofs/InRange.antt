-- Each step of a generated schedule names what the scenario has.
use Rattle.std.proofs.Common.{◌≡◌, ◌≢◌, ℕ, zero, suc, ◌+◌, ◌/◌, ◌%◌, ◌<◌, ◌≤◌, nat_lt, ◌==◌, Bool, true, false, List, [], ◌∷◌, ◌++◌, length, refl, arith}
use Rattle.std.specs.Prelude.{All, if◌then◌else◌}
use Rattle.std.proofs.lemmas.Bool.Decides.{nat_tests}
use Rattle.std.proofs.lemmas.List.Elements.{All-append, All-cons}
use Rattle.rand_pcg.specs.Lcg.{Lcg}
use Rattle.geo_base.specs.declared.event.Event.TheVariants as event
use Rattle.geo_base.specs.declared.event.Step.{Step}
use Rattle.geo_base.specs.declared.event.Step.TheVariants as step
use Rattle.geo_base.specs.Setup.{sub_names}
use Rattle.script_generator.specs.declared.draws.Row.{Row}
use Rattle.script_generator.specs.declared.draws.Row.TheVariants as row
use Rattle.script_generator.specs.Drawing.{drawn, drawn_event, rest, row_of, seeded, source_of, target_of, turn_at}
use Rattle.script_generator.specs.Scenario.{generated_clients, generated_setup}
use Rattle.script_generator.specs.Schedule.{connects, finishes, generated_steps, opens, round, rounds, turns}
use Rattle.script_generator.specs.Generated.{generated_run}
use Rattle.script_text.specs.Scenario.{IsEvent, IsLink, IsNode, IsScenario, IsStep}
use Rattle.script_text.specs.Script.{Script}
use Rattle.script_generator.proofs.Known.{clients_are, one_sub, scripted}

three_clusters : length generated_setup.clusters ≡ 3
unfolding generated_setup
three_clusters = refl

one_topic : length generated_setup.topics ≡ 1
unfolding generated_setup
one_topic = refl

four_clients : length generated_setup.clients ≡ 4
unfolding generated_setup generated_clients
four_clients = refl

a_sub : 0 < length (sub_names generated_setup 0)
a_sub = rw one_sub (omega arith)

drawn_below : (k : ℕ) (g : Lcg) → 0 < k → drawn k g < k
unfolding drawn
drawn_below k g some = omega arith

client_in : (c : ℕ) → c < 4 → c < length generated_setup.clients
client_in c h = omega (arith, four_clients)

cluster_in : (x : ℕ) → x < 3 → x < length generated_setup.clusters
cluster_in x h = omega (arith, three_clusters)

node_in : (x : ℕ) → x < 3 → IsNode generated_setup 0 x
node_in x h = (omega (arith, one_topic), cluster_in x h)

source_in : (p : ℕ) → p < 6 → source_of p < 3
source_in p h = omega arith

target_in : (p : ℕ) → target_of p < 3
target_in p = elim (nat_lt (p % 2) (p / 2)) as (λ b. (if b then p % 2 else p % 2 + 1) < 3) [ true ↦ omega arith | false ↦ omega arith ]

pair_apart : (p : ℕ) → source_of p ≢ target_of p
pair_apart p = grind (arith, nat_tests)

link_in : (p : ℕ) → p < 6 → IsLink generated_setup 0 (source_of p) (target_of p)
link_in p h = record {
  topic_in = omega (arith, one_topic);
  source_in = cluster_in (source_of p) (source_in p h);
  target_in = cluster_in (target_of p) (target_in p);
  apart = pair_apart p;
}

a_client : (g : Lcg) → drawn 4 g < length generated_setup.clients
a_client g = client_in (drawn 4 g) (drawn_below 4 g (omega arith))

a_cluster : (g : Lcg) → drawn 3 g < length generated_setup.clusters
a_cluster g = cluster_in (drawn 3 g) (drawn_below 3 g (omega arith))

a_node : (g : Lcg) → IsNode generated_setup 0 (drawn 3 g)
a_node g = node_in (drawn 3 g) (drawn_below 3 g (omega arith))

a_link : (g : Lcg) → IsLink generated_setup 0 (source_of (drawn 6 g)) (target_of (drawn 6 g))
a_link g = link_in (drawn 6 g) (drawn_below 6 g (omega arith))

drawn_in : (r : Row) (g : Lcg) → IsEvent generated_setup (drawn_event r g).event
drawn_in row.Go g = a_client g
drawn_in row.Serve g = (a_cluster g, a_client (rest g))
drawn_in row.Get g = a_client g
drawn_in row.Reset g = a_link g
drawn_in row.Read g = a_link g
drawn_in row.Take g = (a_link g, refl)
drawn_in row.Receipt g = (a_link g, refl)
drawn_in row.Snap g = a_node g
drawn_in row.Offer g = (a_node g, a_sub)
drawn_in row.Drop g = (a_cluster g, a_client (rest g))

turn_by : (i : ℕ) (g : Lcg) (a b : Bool) → IsEvent generated_setup (if a then record { event = event.Reconnect (i / 1000 % 4); after = g }
    else if b then record { event = event.Restart 0 (drawn 3 g); after = rest g } else drawn_event (row_of (drawn 64 g)) (rest g)).event
turn_by i g true b = client_in (i / 1000 % 4) (omega arith)
turn_by i g false true = a_node g
turn_by i g false false = drawn_in (row_of (drawn 64 g)) (rest g)

turn_in : (i : ℕ) (g : Lcg) → IsEvent generated_setup (turn_at i g).event
unfolding turn_at
turn_in i g = turn_by i g (i % 1000 == 999) (i % 2500 == 2499)

-- ---- all steps

none : All (IsStep generated_setup) []
none = λ k d h. absurd (omega arith)

one : (s : Step) → IsStep generated_setup s → All (IsStep generated_setup) (s ∷ [])
one s h = All-cons (IsStep generated_setup) s [] h none

both : (xs ys : List Step) → All (IsStep generated_setup) xs → All (IsStep generated_setup) ys → All (IsStep generated_setup) (xs ++ ys)
both xs ys a b = All-append (IsStep generated_setup) xs ys a b

connects_in : (n : ℕ) → n ≤ 4 → All (IsStep generated_setup) (connects n)
unfolding connects
connects_in zero h = none
connects_in (suc n) h = both (connects n) _ (connects_in n (omega arith)) (one (step.Plain (event.Reconnect n)) (client_in n (omega arith), refl))

opens_in : (n : ℕ) → n ≤ 6 → All (IsStep generated_setup) (opens n)
unfolding opens
opens_in zero h = none
opens_in (suc n) h = both (opens n) _ (opens_in n (omega arith)) (one (step.Plain (event.Reset 0 (source_of n) (target_of n))) (link_in n (omega arith), refl))

turns_in : (n : ℕ) (g : Lcg) → All (IsStep generated_setup) (turns n g).steps
unfolding turns
turns_in zero g = none
turns_in (suc n) g = both (turns n g).steps _ (turns_in n g) (one (step.Plain (turn_at n (turns n g).after).event) (turn_in n (turns n g).after, refl))

round_in : (c : ℕ) → c < 3 → All (IsStep generated_setup) (round c)
round_in c h =
    let client : c < length generated_setup.clients = client_in c (omega arith) in
    let last = one (step.Plain (event.Get c)) (client, refl) in
    let third = All-cons (IsStep generated_setup) (step.Plain (event.Get c)) (step.Plain (event.Get c) ∷ []) (client, refl) last in
    let second = All-cons (IsStep generated_setup) (step.Plain (event.Serve c c)) (step.Plain (event.Get c) ∷ step.Plain (event.Get c) ∷ []) ((cluster_in c h, client), refl) third in
    All-cons (IsStep generated_setup) (step.Plain (event.Go c)) (step.Plain (event.Serve c c) ∷ step.Plain (event.Get c) ∷ step.Plain (event.Get c) ∷ []) (client, refl) second

rounds_in : (c n : ℕ) → c < 3 → All (IsStep generated_setup) (rounds c n)
unfolding rounds
rounds_in c zero h = none
rounds_in c (suc n) h = both (rounds c n) (round c) (rounds_in c n h) (round_in c h)

finishes_in : (n : ℕ) → n ≤ 3 → All (IsStep generated_setup) (finishes n)
unfolding finishes
finishes_in zero h = none
finishes_in (suc c) h =
    both (finishes c) _ (finishes_in c (omega arith))
    (All-cons (IsStep generated_setup) (step.Plain (event.Reconnect c)) (rounds c 4000) (client_in c (omega arith), refl) (rounds_in c 4000 (omega arith)))

pub steps_in : (number : ℕ) → All (IsStep generated_setup) (generated_steps number)
unfolding generated_steps
steps_in number =
    both (connects 4) _ (connects_in 4 (omega arith)) (both (opens 6) _ (opens_in 6 (omega arith)) (both (turns 20000 (seeded number)).steps _ (turns_in 20000 (seeded number)) (both (finishes 3) _ (finishes_in 3 (omega arith)) (one step.Settle refl))))

-- ---- of the whole run

scenario_is : (number : ℕ) → IsScenario (generated_run number)
scenario_is number = record { setup = scripted; clients = clients_are; chance = tt; steps = steps_in number }

pub is_scenario : (s : Script) (number : ℕ) → s ≡ generated_run number → IsScenario s
is_scenario s number is = rw is (scenario_is number)
