-- On the link of a client that no script declares, or to a cluster that none declares, nothing is ever sent.
use Rattle.std.proofs.Common.{◌≡◌, ℕ, zero, suc, ◌≤◌, false, List, [], length, map, replicate, sym, ap, ◌∙◌, arith, inl, inr}
use Rattle.std.specs.Prelude.{◌&&◌, None, nat_lt, slice_index_or}
use Rattle.std.proofs.lemmas.Bool.{cases_lt, false≢true, lt-ltb}
use Rattle.std.proofs.lemmas.List.{length-map, length-replicate}
use Rattle.world_laws.proofs.Types.{Packet}
use Rattle.geo_base.specs.Link.{Link, next_packet, no_link}
use Rattle.geo_base.specs.Planned.{has_client}
use Rattle.geo_base.specs.Setup.{Setup}
use Rattle.geo_base.specs.World.{ToBroker, World, link_at, table}
use Rattle.world_laws.specs.AlikeWorlds.{waiting, waiting_on}
use Rattle.world_laws.proofs.KeptRuns.AlikeLinks.{get_map}
use Rattle.world_laws.proofs.KeptRuns.Loaded.{Tables, empty_row, form}
use Rattle.world_laws.proofs.Walks.Walk.{both}
use Rattle.geo_base.proofs.Lists.{index_or_past}

-- how many links a row has
abbrev row_length : List (List Link) → ℕ → ℕ
row_length m i = length (slice_index_or m i [])

abbrev waits_of : List Link → List (List Packet)
waits_of ls = map waiting ls

abbrev no_links : List Link
no_links = []

-- the form of a table tells it
form_row : (m : List (List Link)) (i : ℕ) → length (slice_index_or (form m) i []) ≡ row_length m i
form_row m i =
    let row = slice_index_or m i no_links in
    ap (λ (r : List (List Packet)). length r)
    (sym (ap empty_row (get_map waits_of m i no_links) ∙ get_map empty_row (waiting_on m) i []))
    ∙ (length-map (waits_of row) (λ (ps : List Packet). []) ∙ length-map row waiting)

table_row : (n k i : ℕ) → n ≤ i → row_length (table n k) i ≡ 0
table_row n k i le = ap (λ (r : List Link). length r) (index_or_past (table n k) i no_links (let same = length-replicate n (replicate k no_link) in omega (arith, same, le)))

few_links : (n k i : ℕ) → row_length (table n k) i ≤ k
few_links zero k i = omega arith
few_links (suc n) k zero = let same = length-replicate k no_link in omega (arith, same)
few_links (suc n) k (suc i) = few_links n k i

same_rows : (s : Setup) (w : World) (i : ℕ) → Tables s w → row_length w.links.to_broker i ≡ row_length (table (length s.clients) (length s.clusters)) i
same_rows s w i h =
    sym (form_row w.links.to_broker i) ∙ ap (λ (f : List (List (List Packet))). length (slice_index_or f i [])) h.to_broker ∙ form_row (table (length s.clients) (length s.clusters)) i

pub nothing_sent : (s : Setup) (w : World) (x c : ℕ) → Tables s w → (nat_lt x (length s.clusters) && has_client s c) ≡ false → next_packet (link_at w.links (ToBroker c x)) ≡ None
nothing_sent s w x c h out = ap next_packet (index_or_past (slice_index_or w.links.to_broker c no_links) x no_link few)
  where
    few : row_length w.links.to_broker c ≤ x
    few =
        let same = same_rows s w c h in
        elim (cases_lt c (length s.clients)) [
          | inl there ↦
              let most = few_links (length s.clients) (length s.clusters) c in
              elim (cases_lt x (length s.clusters)) [
                | inl in_it ↦ absurd (false≢true (sym out ∙ both (nat_lt x (length s.clusters)) (has_client s c) (lt-ltb x (length s.clusters) in_it) (lt-ltb c (length s.clients) there)))
                | inr past ↦ omega (arith, same, most, past)
              ]
          | inr past ↦ let none = table_row (length s.clients) (length s.clusters) c past in omega (arith, same, none)
        ]
