-- What is known of a client that was read.
use Rattle.std.proofs.Common.{◌≡◌, ℕ, ◌-◌, ◌<◌, ◌≤◌, ◌==◌, nat_lt, Bool, true, List, [], length, Ok, refl, sym, subst}
use Rattle.std.specs.Prelude.{nat_le, Option, ◌&&◌, ◌||◌, not, is_some}
use Rattle.std.specs.Str.{is_utf8}
use Rattle.std.proofs.lemmas.Bool.{leb-true, ltb-true}
use Rattle.geo_base.specs.declared.client.Line.{Line}
use Rattle.geo_base.specs.declared.entry.Ident.{Ident}
use Rattle.geo_base.specs.Client.{Client}
use Rattle.geo_base.specs.Going.{most_unanswered}
use Rattle.geo_base.specs.Scripted.{is_produce}
use Rattle.state_nodes.specs.declared.clients.ClientProgress.{ClientProgress}
use Rattle.state_nodes.specs.declared.clients.Tally.{Tally}
use Rattle.state_nodes.specs.declared.force.Force.{Force}
use Rattle.state_nodes.specs.Clients.{client_at, force_at, ident_at, index_at, index_of, is_done, is_flow, is_in_force, is_pub, is_sub, place_at, publish_at, tally_at, unanswered_at}
use Rattle.state_nodes.specs.ClientFitting.{IsPublish}
use Rattle.state_nodes.specs.ClientKnown.{IsKnownClient, IsKnownIdent}
use Rattle.state_items.specs.declared.rule.Rule.TheVariants as rule
use Rattle.state_items.specs.Fitting.{AllFit}
use Rattle.state_items.specs.Limits.{most_count}
use Rattle.state_items.specs.Reading.{judge, list_at, number_at, number_within, text_at}
use Rattle.state_items.proofs.Known.{came, judged, list_known, listed_all, listed_count, many_known, same_value, within_known}
use Rattle.geo_base.proofs.Bools.{and_first, and_second}

record IsKnownPlace (clusters : ℕ) (lines : List Line) (p : ClientProgress) : Type 0 where
  pub cluster : p.cluster < clusters
  pub connection : p.connection ≤ most_count
  pub done : p.done ≤ length lines

place_known : (clusters : ℕ) (lines : List Line) (bytes : List ℕ) (x : ClientProgress × List ℕ) → place_at clusters lines bytes ≡ Ok x → IsKnownPlace clusters lines x.0
unfolding place_at
place_known clusters lines bytes x h =
    let a = came (number_at bytes) _ x h in
    let b = came (judge (nat_lt a.first.0 clusters) bytes rule.Client) _ x a.next in
    let c = came (number_within most_count rule.Count a.first.1) _ x b.next in
    let d = came (number_within (length lines) rule.Client c.first.1) _ x c.next in
    subst (λ (y : ClientProgress × List ℕ). IsKnownPlace clusters lines y.0) (same_value _ x d.next) (record {
      cluster = ltb-true a.first.0 clusters (judged _ bytes rule.Client b.first b.is);
      connection = within_known most_count rule.Count a.first.1 c.first c.is;
      done = within_known (length lines) rule.Client c.first.1 d.first d.is;
    })

index_known : (kind : Line → Bool) (lines : List Line) (done : ℕ) (bytes : List ℕ) (x : Option ℕ × List ℕ) → index_at kind lines done bytes ≡ Ok x → is_in_force kind lines done x.0 ≡ true
unfolding index_at
index_known kind lines done bytes x h =
    let a = came (number_at bytes) _ x h in
    let b = came (judge (is_in_force kind lines done (index_of a.first.0)) bytes rule.Client) _ x a.next in
    subst (λ (y : Option ℕ × List ℕ). is_in_force kind lines done y.0 ≡ true) (same_value _ x b.next) (judged _ bytes rule.Client b.first b.is)

record IsKnownForce (lines : List Line) (done : ℕ) (f : Force) : Type 0 where
  pub produce : is_in_force is_produce lines done f.produce ≡ true
  pub sub : is_in_force is_sub lines done f.sub ≡ true
  pub flow : is_in_force is_flow lines done f.flow ≡ true
  pub flows : (not (is_some f.flow) || is_some f.sub) ≡ true

force_known : (lines : List Line) (done : ℕ) (bytes : List ℕ) (x : Force × List ℕ) → force_at lines done bytes ≡ Ok x → IsKnownForce lines done x.0
unfolding force_at
force_known lines done bytes x h =
    let a = came (index_at is_produce lines done bytes) _ x h in
    let b = came (index_at is_sub lines done a.first.1) _ x a.next in
    let c = came (index_at is_flow lines done b.first.1) _ x b.next in
    let d = came (judge (not (is_some c.first.0) || is_some b.first.0) b.first.1 rule.Client) _ x c.next in
    subst (λ (y : Force × List ℕ). IsKnownForce lines done y.0) (same_value _ x d.next) (record {
      produce = index_known is_produce lines done bytes a.first a.is;
      sub = index_known is_sub lines done a.first.1 b.first b.is;
      flow = index_known is_flow lines done b.first.1 c.first c.is;
      flows = judged _ b.first.1 rule.Client d.first d.is;
    })

publish_known : (lines : List Line) (done : ℕ) (before : List ℕ) (bytes : List ℕ) (x : ℕ × List ℕ) → publish_at lines done before bytes ≡ Ok x → IsPublish lines done before x.0
unfolding publish_at
publish_known lines done before bytes x h =
    let a = came (number_at bytes) _ x h in
    let b = came (judge (is_done is_pub lines done a.first.0) bytes rule.Client) _ x a.next in
    subst (λ (y : ℕ × List ℕ). is_done is_pub lines done y.0 ≡ true) (same_value a.first x b.next) (judged _ bytes rule.Client b.first b.is)

record AreKnownPublishes (lines : List Line) (done : ℕ) (produce : Option ℕ) (is : List ℕ) : Type 0 where
  pub window : length is ≤ most_unanswered
  pub publishes : ((length is == 0) || is_some produce) ≡ true
  pub each : AllFit (IsPublish lines done) [] is

unanswered_known : (lines : List Line) (done : ℕ) (produce : Option ℕ) (bytes : List ℕ) (x : List ℕ × List ℕ) → unanswered_at lines done produce bytes ≡ Ok x → AreKnownPublishes lines done produce x.0
unfolding unanswered_at
unanswered_known lines done produce bytes x h =
    let a = came (number_at bytes) _ x h in
    let n = a.first.0 in
    let b = came (judge (nat_le n most_unanswered && ((n == 0) || is_some produce)) bytes rule.Client) _ x a.next in
    let few = judged _ bytes rule.Client b.first b.is in
    let all = many_known (publish_at lines done) (IsPublish lines done) (publish_known lines done) n [] a.first.1 x b.next in
    let same = sym (listed_count (IsPublish lines done) n x.0 all) in
    record {
      window = subst (λ (k : ℕ). k ≤ most_unanswered) same (leb-true n most_unanswered (and_first _ _ few));
      publishes = subst (λ (k : ℕ). ((k == 0) || is_some produce) ≡ true) same (and_second (nat_le n most_unanswered) _ few);
      each = listed_all (IsPublish lines done) n x.0 all;
    }

record IsKnownTally (t : Tally) : Type 0 where
  pub receipts : t.receipts ≤ most_count
  pub duplicates : t.duplicates ≤ most_count
  pub errors : t.errors ≤ most_count

tally_known : (bytes : List ℕ) (x : Tally × List ℕ) → tally_at bytes ≡ Ok x → IsKnownTally x.0
unfolding tally_at
tally_known bytes x h =
    let a = came (number_within most_count rule.Count bytes) _ x h in
    let b = came (number_within most_count rule.Count a.first.1) _ x a.next in
    let c = came (number_within most_count rule.Count b.first.1) _ x b.next in
    subst (λ (y : Tally × List ℕ). IsKnownTally y.0) (same_value _ x c.next) (record {
      receipts = within_known most_count rule.Count bytes a.first a.is;
      duplicates = within_known most_count rule.Count a.first.1 b.first b.is;
      errors = within_known most_count rule.Count b.first.1 c.first c.is;
    })

ident_known : (clusters : ℕ) (before : List Ident) (bytes : List ℕ) (x : Ident × List ℕ) → ident_at clusters before bytes ≡ Ok x → IsKnownIdent clusters before x.0
unfolding ident_at
ident_known clusters before bytes x h =
    let a = came (number_at bytes) _ x h in
    let b = came (judge (nat_lt a.first.0 clusters) bytes rule.Client) _ x a.next in
    let c = came (text_at a.first.1) _ x b.next in
    let d = came (judge (is_utf8 c.first.0) a.first.1 rule.Client) _ x c.next in
    let e = came (number_at c.first.1) _ x d.next in
    subst (λ (y : Ident × List ℕ). IsKnownIdent clusters before y.0) (same_value _ x e.next) (record {
      origin = ltb-true a.first.0 clusters (judged _ bytes rule.Client b.first b.is);
      readable = judged _ a.first.1 rule.Client d.first d.is;
    })

pub client_known : (clusters : ℕ) (lines : List Line) (bytes : List ℕ) (x : Client × List ℕ) → client_at clusters lines bytes ≡ Ok x → IsKnownClient clusters lines x.0
unfolding client_at
client_known clusters lines bytes x h =
    let a = came (place_at clusters lines bytes) _ x h in
    let b = came (force_at lines a.first.0.done a.first.1) _ x a.next in
    let c = came (unanswered_at lines a.first.0.done b.first.0.produce b.first.1) _ x b.next in
    let d = came (tally_at c.first.1) _ x c.next in
    let e = came (list_at (ident_at clusters) d.first.1) _ x d.next in
    let place = place_known clusters lines bytes a.first a.is in
    let force = force_known lines a.first.0.done a.first.1 b.first b.is in
    let waiting = unanswered_known lines a.first.0.done b.first.0.produce b.first.1 c.first c.is in
    let tally = tally_known c.first.1 d.first d.is in
    subst (λ (y : Client × List ℕ). IsKnownClient clusters lines y.0) (same_value _ x e.next) (record {
      cluster = place.cluster;
      connection = place.connection;
      done = place.done;
      produce = force.produce;
      sub = force.sub;
      flow = force.flow;
      flows = force.flows;
      window = waiting.window;
      publishes = waiting.publishes;
      unanswered = waiting.each;
      receipts = tally.receipts;
      duplicates = tally.duplicates;
      errors = tally.errors;
      got = list_known (ident_at clusters) (IsKnownIdent clusters) (ident_known clusters) d.first.1 e.first e.is;
      stopped = refl;
    })
