-- A client is read again as it was written.
use Rattle.std.proofs.Common.{◌≡◌, ℕ, ◌+◌, ◌<◌, ◌-◌, ◌^◌, ◌==◌, Bool, true, false, List, [], ◌++◌, length, Ok, refl, ap, ◌∙◌, append_assoc, arith}
use Rattle.std.specs.Prelude.{nat_lt, nat_le, ◌&&◌, Option, Some, None, slice_get}
use Rattle.std.specs.List.{flat_map}
use Rattle.std.specs.Option.{option_map_or}
use Rattle.std.proofs.lemmas.Bool.Decides.{nat_tests}
use Rattle.geo_base.specs.declared.client.Line.{Line}
use Rattle.geo_base.specs.declared.entry.Ident.{Ident}
use Rattle.geo_base.specs.Client.{Client}
use Rattle.geo_base.specs.Going.{most_unanswered}
use Rattle.geo_base.specs.Scripted.{is_produce}
use Rattle.state_items.specs.declared.rule.Rule.TheVariants as rule
use Rattle.state_items.specs.Limits.{most_count}
use Rattle.state_items.specs.Texts.{list, number, text}
use Rattle.state_items.proofs.Again.{list_again, many_again, number_again, text_again, within_again}
use Rattle.state_nodes.specs.Clients.{client_at, client_text, force_at, force_text, ident_at, ident_text, index_at, index_of, index_text, is_done, is_flow, is_in_force, is_pub, is_sub, place_at, place_text, publish_at, tally_at, tally_text, unanswered_at}
use Rattle.state_nodes.specs.ClientFitting.{IsClientState, IsIdent, IsPublish}

three : (a b c rest : List ℕ) → (a ++ (b ++ c)) ++ rest ≡ a ++ (b ++ (c ++ rest))
three a b c rest = append_assoc a (b ++ c) rest ∙ ap (λ (x : List ℕ). a ++ x) (append_assoc b c rest)

place_again : (clusters : ℕ) (lines : List Line) (k : Client) (rest : List ℕ) → IsClientState clusters lines k → place_at clusters lines (place_text k ++ rest) ≡ Ok (record { cluster = k.cluster; connection = k.connection; done = k.done }, rest)
unfolding place_at
place_again clusters lines k rest h =
    let there : nat_lt k.cluster clusters ≡ true = grind (arith, nat_tests, h.cluster) in
    ap (place_at clusters lines) (three (number k.cluster) (number k.connection) (number k.done) rest)
    ∙ rw (number_again k.cluster (number k.connection ++ (number k.done ++ rest)) (omega (arith, h.cluster, h.clusters_few)), there, within_again most_count k.connection rule.Count (number k.done ++ rest) h.connection (omega (arith, h.connection)), within_again (length lines) k.done rule.Client rest h.done (omega (arith, h.done, h.lines_few))) refl

index_behind : (i : ℕ) → index_of (i + 1) ≡ Some i
index_behind i =
    let some : ((i + 1) == 0) ≡ false = grind (arith, nat_tests) in
    let back : i + 1 - 1 ≡ i = omega arith in
    rw some (ap (λ (n : ℕ). Some n) back)

done_below : (kind : Line → Bool) (lines : List Line) (done i : ℕ) → is_done kind lines done i ≡ true → i < done
done_below kind lines done i h = below (nat_lt i done) (option_map_or kind (slice_get lines i) false) refl h
  where
    below : (a b : Bool) → a ≡ nat_lt i done → (a && b) ≡ true → i < done
    below true b e h = grind (arith, nat_tests, e)
    below false b e h = absurd cc

index_again : (kind : Line → Bool) (lines : List Line) (done : ℕ) (o : Option ℕ) (rest : List ℕ) → done < 2 ^ 63 → is_in_force kind lines done o ≡ true → index_at kind lines done (index_text o ++ rest) ≡ Ok (o, rest)
unfolding index_at
index_again kind lines done None rest few h = rw (number_again 0 rest (omega arith)) refl
index_again kind lines done (Some i) rest few h =
    let low : i < done = done_below kind lines done i h in
    rw (number_again (i + 1) rest (omega arith), index_behind i, h) refl

force_again : (clusters : ℕ) (lines : List Line) (k : Client) (rest : List ℕ) → IsClientState clusters lines k → force_at lines k.done (force_text k ++ rest) ≡ Ok (record { produce = k.produce; sub = k.sub; flow = k.flow }, rest)
unfolding force_at
force_again clusters lines k rest h =
    let few : k.done < 2 ^ 63 = omega (arith, h.done, h.lines_few) in
    ap (force_at lines k.done) (three (index_text k.produce) (index_text k.sub) (index_text k.flow) rest)
    ∙ rw (index_again is_produce lines k.done k.produce (index_text k.sub ++ (index_text k.flow ++ rest)) few h.produce, index_again is_sub lines k.done k.sub (index_text k.flow ++ rest) few h.sub, index_again is_flow lines k.done k.flow rest few h.flow, h.flows) refl

publish_again : (lines : List Line) (done : ℕ) → done < 2 ^ 63 → (before : List ℕ) (i : ℕ) (rest : List ℕ) → IsPublish lines done before i → publish_at lines done before (number i ++ rest) ≡ Ok (i, rest)
unfolding publish_at
publish_again lines done few before i rest h =
    let low : i < done = done_below is_pub lines done i h in
    rw (number_again i rest (omega arith), h) refl

unanswered_again : (clusters : ℕ) (lines : List Line) (k : Client) (rest : List ℕ) → IsClientState clusters lines k → unanswered_at lines k.done k.produce (list number k.unanswered ++ rest) ≡ Ok (k.unanswered, rest)
unfolding unanswered_at
unanswered_again clusters lines k rest h =
    let few : k.done < 2 ^ 63 = omega (arith, h.done, h.lines_few) in
    let window : nat_le (length k.unanswered) most_unanswered ≡ true = grind (arith, nat_tests, h.window) in
    ap (unanswered_at lines k.done k.produce) (append_assoc (number (length k.unanswered)) (flat_map number k.unanswered) rest)
    ∙ rw (number_again (length k.unanswered) (flat_map number k.unanswered ++ rest) (omega (arith, h.window)), window, h.publishes) (many_again (publish_at lines k.done) number (IsPublish lines k.done) (publish_again lines k.done few) k.unanswered [] rest h.unanswered)

tally_again : (clusters : ℕ) (lines : List Line) (k : Client) (rest : List ℕ) → IsClientState clusters lines k → tally_at (tally_text k ++ rest) ≡ Ok (record { receipts = k.receipts; duplicates = k.duplicates; errors = k.errors }, rest)
unfolding tally_at
tally_again clusters lines k rest h =
    ap tally_at (three (number k.receipts) (number k.duplicates) (number k.errors) rest)
    ∙ rw (within_again most_count k.receipts rule.Count (number k.duplicates ++ (number k.errors ++ rest)) h.receipts (omega (arith, h.receipts)), within_again most_count k.duplicates rule.Count (number k.errors ++ rest) h.duplicates (omega (arith, h.duplicates)), within_again most_count k.errors rule.Count rest h.errors (omega (arith, h.errors))) refl

ident_again : (clusters : ℕ) → clusters < 2 ^ 32 → (before : List Ident) (i : Ident) (rest : List ℕ) → IsIdent clusters before i → ident_at clusters before (ident_text i ++ rest) ≡ Ok (i, rest)
unfolding ident_at
ident_again clusters few before i rest h =
    let known : nat_lt i.origin clusters ≡ true = grind (arith, nat_tests, h.origin) in
    ap (ident_at clusters before) (three (number i.origin) (text i.producer) (number i.seq) rest)
    ∙ rw (number_again i.origin (text i.producer ++ (number i.seq ++ rest)) (omega (arith, h.origin)), known, text_again i.producer (number i.seq ++ rest) h.short, h.readable, number_again i.seq rest h.seq) refl

five : (a b c d e rest : List ℕ) → (a ++ (b ++ (c ++ (d ++ e)))) ++ rest ≡ a ++ (b ++ (c ++ (d ++ (e ++ rest))))
five a b c d e rest =
    append_assoc a (b ++ (c ++ (d ++ e))) rest
    ∙ ap (λ (x : List ℕ). a ++ x) (append_assoc b (c ++ (d ++ e)) rest ∙ ap (λ (x : List ℕ). b ++ x) (three c d e rest))

pub client_again : (clusters : ℕ) (lines : List Line) (k : Client) (rest : List ℕ) → IsClientState clusters lines k → client_at clusters lines (client_text k ++ rest) ≡ Ok (k, rest)
unfolding client_at
client_again clusters lines k rest h =
    let got : List ℕ = list ident_text k.got in
    let unanswered : List ℕ = list number k.unanswered in
    ap (client_at clusters lines) (five (place_text k) (force_text k) unanswered (tally_text k) got rest)
    ∙ rw (place_again clusters lines k (force_text k ++ (unanswered ++ (tally_text k ++ (got ++ rest)))) h, force_again clusters lines k (unanswered ++ (tally_text k ++ (got ++ rest))) h, unanswered_again clusters lines k (tally_text k ++ (got ++ rest)) h, tally_again clusters lines k (got ++ rest) h, list_again (ident_at clusters) ident_text (IsIdent clusters) (ident_again clusters h.clusters_few) k.got rest h.got_few h.got) (ap (λ (x : Client). Ok (x, rest)) h.stopped)
