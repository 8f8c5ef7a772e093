-- The machine's offer is what the dispatcher of its subscription chooses with the machine's rule, branch by branch; and what its change
-- makes of the subscription is, to the dispatcher, what it makes of itself for that choice.
use Rattle.std.proofs.Common.{◌≡◌, ℕ, zero, suc, ◌+◌, Bool, true, false, List, [], ◌∷◌, length, refl, ap, sym, ◌∙◌}
use Rattle.std.specs.Prelude.{if◌then◌else◌, Option, Some, None, slice_get}
use Rattle.dispatcher.specs.declared.offering.Choice.{Choice}
use Rattle.dispatcher.specs.declared.offering.Choice.TheVariants as does
use Rattle.dispatcher.specs.Dispatch.{dispatch_of, sub_with}
use Rattle.dispatcher.specs.Offers.{after_choice, choice, choice_at, choice_data}
use Rattle.geo_base.specs.declared.change.Change.TheVariants as change
use Rattle.geo_base.specs.declared.entry.Entry.{Entry}
use Rattle.geo_base.specs.Broker.{Broker, Site, sub_named}
use Rattle.geo_base.specs.Dispatcher.{consumer_at, is_due, least_due, least_due_from, pick}
use Rattle.geo_base.specs.Entry.{is_data, key_bytes}
use Rattle.geo_base.specs.Offering.{message, offer, offer_entry, own_snapshot, skips_marker}
use Rattle.geo_base.specs.Plan.{Plan, idle_plan, plan_of, unless_found}
use Rattle.geo_base.specs.Subscription.{Subscription}
use Rattle.dispatcher.specs.Events.{offered, plan_of_choice}

-- what is due does not ask for what a dispatcher and a cursor leave out of a subscription
least_from : (s : Subscription) (from more : ℕ) → least_due_from (sub_with s.cursor (dispatch_of s)) from more ≡ least_due_from s from more
least_from s from zero = refl
least_from s from (suc more) = ap (λ (o : Option ℕ). if is_due s from then Some from else o) (least_from s (from + 1) more)

-- the plan for the entry at an index
at_entry : (o : Option Entry) (e : Entry) (f : Entry → Plan) → o ≡ Some e → f e ≡ unless_found idle_plan o f
at_entry o e f at = sym (ap (λ (o : Option Entry). unless_found idle_plan o f) at)

-- a message goes to the consumer that the rule names
message_as_chosen : (h : Site) (b : Broker) (s : Subscription) (i : ℕ) (e : Entry) (o : Option ℕ) → slice_get b.entries i ≡ Some e
    → unless_found idle_plan o (λ at. plan_of [] (change.Given s.name i at ∷ []) (message h b i e (consumer_at s.consumers at))) ≡ plan_of_choice h b s (choice_data i o)
message_as_chosen h b s i e None at = refl
message_as_chosen h b s i e (Some k) at = at_entry (slice_get b.entries i) e (λ (e : Entry). plan_of [] (change.Given s.name i k ∷ []) (message h b i e (consumer_at s.consumers k))) at

-- plans and choices by the same test
by_test : (f : Choice → Plan) (t : Bool) (p q : Plan) (x y : Choice) → p ≡ f x → q ≡ f y → (if t then p else q) ≡ f (if t then x else y)
by_test f true p q x y h k = h
by_test f false p q x y h k = k

entry_as_chosen : (h : Site) (b : Broker) (s : Subscription) (i : ℕ) (o : Option Entry) → slice_get b.entries i ≡ o
    → unless_found idle_plan o (λ e. offer_entry h b s i e) ≡ plan_of_choice h b s (choice_at pick (dispatch_of s) b.entries (Some i))
entry_as_chosen h b s i None at = rw at refl
entry_as_chosen h b s i (Some e) at = rw at
    (by_test (plan_of_choice h b s) (is_data e.content) _ _ (choice_data i (pick s.kind s.consumers (key_bytes e.meta.key))) (does.Skip i)
    (message_as_chosen h b s i e (pick s.kind s.consumers (key_bytes e.meta.key)) at)
    (at_entry (slice_get b.entries i) e (λ (e : Entry). skips_marker h b s i (own_snapshot h b s e.ident.origin e.content)) at))

index_as_chosen : (h : Site) (b : Broker) (s : Subscription) (o : Option ℕ)
    → unless_found idle_plan o (λ i. unless_found idle_plan (slice_get b.entries i) (λ e. offer_entry h b s i e)) ≡ plan_of_choice h b s (choice_at pick (dispatch_of s) b.entries o)
index_as_chosen h b s None = refl
index_as_chosen h b s (Some i) = entry_as_chosen h b s i (slice_get b.entries i) refl

pub offer_as_chosen : (h : Site) (b : Broker) (n : List ℕ) (s : Subscription) → sub_named b.subs n ≡ Some s
    → offer h b n ≡ plan_of_choice h b s (choice pick (dispatch_of s) s.cursor b.entries)
unfolding offer
offer_as_chosen h b n s is = rw is
    (index_as_chosen h b s (least_due s (length b.entries))
    ∙ ap (λ (o : Option ℕ). plan_of_choice h b s (choice_at pick (dispatch_of s) b.entries o)) (sym (least_from s 0 (length b.entries))))

pub idle_without : (h : Site) (b : Broker) (n : List ℕ) → sub_named b.subs n ≡ None → offer h b n ≡ idle_plan
unfolding offer
idle_without h b n none = rw none refl

pub after_as_chosen : (s : Subscription) (c : Choice) → dispatch_of (offered c s) ≡ after_choice (dispatch_of s) c
after_as_chosen s does.Idle = refl
after_as_chosen s (does.Skip i) = refl
after_as_chosen s (does.Give i at) = refl
