-- A client after a stop fits a file.
use Rattle.std.proofs.Common.{◌≡◌, ℕ, ◌^◌, ◌<◌, Bool, true, false, List, [], length, nat_lt, refl, ap, ◌∙◌, arith}
use Rattle.std.specs.Prelude.{Option, Some, None, slice_get}
use Rattle.std.specs.Option.{option_map_or}
use Rattle.std.proofs.lemmas.Bool.Decides.{nat_tests}
use Rattle.geo_base.specs.declared.client.Line.{Line}
use Rattle.geo_base.specs.declared.entry.Ident.{Ident}
use Rattle.geo_base.specs.Client.{Client}
use Rattle.geo_base.specs.Setup.{Setup, declared_at}
use Rattle.state_nodes.specs.Clients.{is_done, is_flow, is_in_force, is_pub, is_sub}
use Rattle.state_nodes.specs.ClientFitting.{IsClientState, IsIdent, IsPublish}
use Rattle.world_laws.specs.Starts.{IsStartClient}
use Rattle.world_laws.proofs.Walks.Walk.{both}
use Rattle.kept_laws.proofs.Ascii.{low_readable}
use Rattle.kept_laws.proofs.Doing.{InForce, WasDone}
use Rattle.kept_laws.proofs.Got.{Goes, IsGotIdent}
use Rattle.kept_laws.proofs.Lists.{fits_each}

done_is : (kind : Line → Bool) (lines : List Line) (done i : ℕ) → WasDone kind lines done i → is_done kind lines done i ≡ true
done_is kind lines done i h =
    let lt : nat_lt i done ≡ true = let b = h.before in grind (arith, nat_tests, b) in
    let of : option_map_or kind (slice_get lines i) false ≡ true = ap (λ (o : Option Line). option_map_or kind o false) h.at ∙ h.is in
    both (nat_lt i done) (option_map_or kind (slice_get lines i) false) lt of

force_is : (kind : Line → Bool) (lines : List Line) (done : ℕ) (o : Option ℕ) → InForce kind lines done o → is_in_force kind lines done o ≡ true
force_is kind lines done None h = refl
force_is kind lines done (Some i) h = done_is kind lines done i h

ident_is : (clusters : ℕ) (before : List Ident) (i : Ident) → IsGotIdent clusters i → IsIdent clusters before i
ident_is clusters before i h = record {
  origin = h.origin;
  short = let s = h.producer.short in omega (arith, s);
  readable = low_readable i.producer h.producer.low;
  seq = h.seq;
}

pub client_fits : (s : Setup) (c : ℕ) (k : Client) → length s.clusters < 2 ^ 32 → length (declared_at s c).lines < 2 ^ 63 → IsStartClient k → Goes s c k → length k.got < 2 ^ 64
    → IsClientState (length s.clusters) (declared_at s c).lines k
client_fits s c k clusters few start h got =
    let d = declared_at s c in
    record {
      clusters_few = clusters;
      lines_few = few;
      cluster = h.doing.cluster;
      connection = start.connection;
      done = h.doing.done;
      produce = force_is _ d.lines k.done k.produce h.doing.produce;
      sub = force_is is_sub d.lines k.done k.sub h.doing.sub;
      flow = force_is is_flow d.lines k.done k.flow h.doing.flow;
      flows = h.doing.flows;
      window = h.doing.window;
      publishes = h.doing.publishes;
      unanswered = fits_each (WasDone is_pub d.lines k.done) (IsPublish d.lines k.done) (λ before i p. done_is is_pub d.lines k.done i p) [] k.unanswered h.doing.unanswered;
      receipts = start.receipts;
      duplicates = start.duplicates;
      errors = start.errors;
      got_few = got;
      got = fits_each (IsGotIdent (length s.clusters)) (IsIdent (length s.clusters)) (ident_is (length s.clusters)) [] k.got h.got;
      stopped = start.apart;
    }
