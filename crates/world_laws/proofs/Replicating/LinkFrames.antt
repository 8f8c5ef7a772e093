-- What sending and taking leave of the two links of a pair: the forward link from topic t at x to y, and its back link.
use Rattle.std.proofs.Common.{◌≡◌, ℕ, ◌/◌, ◌<◌, Bool, true, false, List, [], ◌∷◌, length, refl, sym, ap, subst, ◌∙◌, ◌==◌, arith}
use Rattle.std.specs.Prelude.{Option, Some, None, if◌then◌else◌, slice_set, slice_index_or}
use Rattle.std.proofs.lemmas.Bool.{eqb-true, eq-eqb}
use Rattle.std.proofs.lemmas.List.{length-set}
use Rattle.std.proofs.lemmas.Nat.{div-mul-add}
use Rattle.world_laws.proofs.Types.{Out, Packet, Peer}
use Rattle.world_laws.proofs.Types.peer
use Rattle.geo_base.specs.Link.{Link, no_link, sent_on, took}
use Rattle.geo_base.specs.Setup.{Setup}
use Rattle.geo_base.specs.World.{Back, Forward, LinkName, Links, ToBroker, ToClient, cell, delivered, from_broker, from_client, link_at, node, stamped, taken_from, with_cell, with_link}
use Rattle.world_laws.proofs.Replicating.Effects.{Each, set_at}
use Rattle.world_laws.proofs.Induction.Frames.{at_set, cell_set}

-- a node has one topic and one cluster
pub same_node : (s : Setup) (t t' x x' : ℕ) → x < length s.clusters → x' < length s.clusters → node s t x ≡ node s t' x' → (t ≡ t') × (x ≡ x')
same_node s t t' x x' lt lt' is =
    let n = length s.clusters in
    let same : t ≡ t' = sym (div-mul-add t n x lt) ∙ (ap (λ (k : ℕ). k / n) is ∙ div-mul-add t' n x' lt') in
    let is' : node s t x ≡ node s t x' = is ∙ ap (λ (k : ℕ). node s k x') (sym same) in
    (same, omega (arith, is'))

-- the packets that a broker sends to y, on its forward link
abbrev pub pushed_one : ℕ → ℕ → Out → Link → Peer → Link
pushed_one y stamp o f (peer.Forward v) = if v == y then sent_on f (stamped stamp o) else f
pushed_one y stamp o f (peer.Broker v) = if v == y then sent_on f (stamped stamp o) else f
pushed_one y stamp o f (peer.Back v) = f
pushed_one y stamp o f (peer.Client c) = f

abbrev pub pushed : ℕ → ℕ → Link → List Out → Link
pushed y stamp f [] = f
pushed y stamp f (o ∷ os) = pushed y stamp (pushed_one y stamp o f o.to) os

-- a cell of a table is there
pub record HasCell (m : List (List Link)) (i j : ℕ) : Type 0 where
  pub row : i < length m
  pub column : j < length (slice_index_or m i [])

-- a table keeps its form
pub with_cell_has : (m : List (List Link)) (i j : ℕ) (l : Link) (x y : ℕ) → HasCell m x y → HasCell (with_cell m i j l) x y
with_cell_has m i j l x y h = record {
  row = let e = length-set m i (slice_set (slice_index_or m i []) j l) in omega (arith, e, h.row);
  column =
      at_set (λ (r : List Link). y < length r) m i x (slice_set (slice_index_or m i []) j l) []
      (λ is. let e = length-set (slice_index_or m i []) j l in let P : ℕ → Type 0 = λ n. y < length (slice_index_or m n []) in let c = subst P (sym is) h.column in omega (arith, e, c))
      h.column;
}

-- another cell of the same row
pub cell_in_row : (m : List (List Link)) (i v y : ℕ) (l : Link) → HasCell m i y → cell (with_cell m i v l) i y ≡ (if v == y then l else cell m i y)
cell_in_row m i v y l h =
    ap (λ (r : List Link). slice_index_or r y no_link) (set_at m i i (slice_set (slice_index_or m i []) v l) [] h.row ∙ same_row)
    ∙ set_at (slice_index_or m i []) v y l no_link h.column
  where
    same_row : (if i == i then slice_set (slice_index_or m i []) v l else slice_index_or m i []) ≡ slice_set (slice_index_or m i []) v l
    same_row = ap (λ (b : Bool). if b then slice_set (slice_index_or m i []) v l else slice_index_or m i []) (eq-eqb i i refl)

-- what the broker at x sends
one_more : (m : List (List Link)) (i v y : ℕ) (p : Packet) → HasCell m i y
    → cell (with_cell m i v (sent_on (cell m i v) p)) i y ≡ (if v == y then sent_on (cell m i y) p else cell m i y)
one_more m i v y p h = cell_in_row m i v y (sent_on (cell m i v) p) h ∙ by (v == y) refl
  where
    by : (b : Bool) → (v == y) ≡ b → (if b then sent_on (cell m i v) p else cell m i y) ≡ (if b then sent_on (cell m i y) p else cell m i y)
    by true e = ap (λ (k : ℕ). sent_on (cell m i k) p) (eqb-true v y e)
    by false e = refl

forward_one : (s : Setup) (t x y stamp : ℕ) (o : Out) (to : Peer) (ls : Links) → HasCell ls.forward (node s t x) y
    → link_at (with_link ls (from_broker s t x to) (sent_on (link_at ls (from_broker s t x to)) (stamped stamp o))) (Forward (node s t x) y)
    ≡ pushed_one y stamp o (link_at ls (Forward (node s t x) y)) to
forward_one s t x y stamp o (peer.Forward v) ls h = one_more ls.forward (node s t x) v y (stamped stamp o) h
forward_one s t x y stamp o (peer.Broker v) ls h = one_more ls.forward (node s t x) v y (stamped stamp o) h
forward_one s t x y stamp o (peer.Back v) ls h = refl
forward_one s t x y stamp o (peer.Client c) ls h = refl

sent_has_cell : (s : Setup) (t x : ℕ) (to : Peer) (l : Link) (ls : Links) (i j : ℕ) → HasCell ls.forward i j → HasCell (with_link ls (from_broker s t x to) l).forward i j
sent_has_cell s t x (peer.Forward v) l ls i j h = with_cell_has ls.forward (node s t x) v l i j h
sent_has_cell s t x (peer.Broker v) l ls i j h = with_cell_has ls.forward (node s t x) v l i j h
sent_has_cell s t x (peer.Back v) l ls i j h = h
sent_has_cell s t x (peer.Client c) l ls i j h = h

pub forward_sent : (s : Setup) (t x y stamp : ℕ) (os : List Out) (ls : Links) → HasCell ls.forward (node s t x) y
    → link_at (delivered (from_broker s t x) stamp os ls) (Forward (node s t x) y) ≡ pushed y stamp (link_at ls (Forward (node s t x) y)) os
forward_sent s t x y stamp [] ls h = refl
forward_sent s t x y stamp (o ∷ os) ls h =
    let l = sent_on (link_at ls (from_broker s t x o.to)) (stamped stamp o) in
    forward_sent s t x y stamp os (with_link ls (from_broker s t x o.to) l) (sent_has_cell s t x o.to l ls (node s t x) y h)
    ∙ ap (λ (f : Link). pushed y stamp f os) (forward_one s t x y stamp o o.to ls h)

pub sent_cells : (s : Setup) (t x stamp : ℕ) (os : List Out) (ls : Links) (i j : ℕ) → HasCell ls.forward i j → HasCell (delivered (from_broker s t x) stamp os ls).forward i j
sent_cells s t x stamp [] ls i j h = h
sent_cells s t x stamp (o ∷ os) ls i j h =
    let l = sent_on (link_at ls (from_broker s t x o.to)) (stamped stamp o) in
    sent_cells s t x stamp os (with_link ls (from_broker s t x o.to) l) i j (sent_has_cell s t x o.to l ls i j h)

-- what another broker sends leaves the forward link
forward_else_one : (s : Setup) (t x i y : ℕ) (to : Peer) (l : Link) (ls : Links) → (node s t x ≡ i → ⊥) → link_at (with_link ls (from_broker s t x to) l) (Forward i y) ≡ link_at ls (Forward i y)
forward_else_one s t x i y (peer.Forward v) l ls other =
    cell_set (λ (k : Link). k ≡ cell ls.forward i y) ls.forward (node s t x) v l i y (λ h _. absurd (other h)) refl
forward_else_one s t x i y (peer.Broker v) l ls other =
    cell_set (λ (k : Link). k ≡ cell ls.forward i y) ls.forward (node s t x) v l i y (λ h _. absurd (other h)) refl
forward_else_one s t x i y (peer.Back v) l ls other = refl
forward_else_one s t x i y (peer.Client c) l ls other = refl

pub forward_else : (s : Setup) (t x i y stamp : ℕ) (os : List Out) (ls : Links) → (node s t x ≡ i → ⊥)
    → link_at (delivered (from_broker s t x) stamp os ls) (Forward i y) ≡ link_at ls (Forward i y)
forward_else s t x i y stamp [] ls other = refl
forward_else s t x i y stamp (o ∷ os) ls other =
    forward_else s t x i y stamp os _ other ∙ forward_else_one s t x i y o.to (sent_on (link_at ls (from_broker s t x o.to)) (stamped stamp o)) ls other

-- A back link changes by what its own receiving side sends on it. A fact that each such packet keeps is kept
abbrev pub MayBack : Setup → ℕ → ℕ → ℕ → ℕ → (Link → Type 0) → ℕ → Out → Peer → Type 0
MayBack s t x i y P stamp o (peer.Back v) = node s t v ≡ i → x ≡ y → (l : Link) → P l → P (sent_on l (stamped stamp o))
MayBack s t x i y P stamp o to = Unit {0}

back_one : (s : Setup) (t x i y stamp : ℕ) (P : Link → Type 0) (o : Out) (to : Peer) (ls : Links) → MayBack s t x i y P stamp o to → P (link_at ls (Back i y))
    → P (link_at (with_link ls (from_broker s t x to) (sent_on (link_at ls (from_broker s t x to)) (stamped stamp o))) (Back i y))
back_one s t x i y stamp P o (peer.Forward v) ls may p = p
back_one s t x i y stamp P o (peer.Broker v) ls may p = p
back_one s t x i y stamp P o (peer.Client c) ls may p = p
back_one s t x i y stamp P o (peer.Back v) ls may p =
    let C : ℕ → ℕ → Type 0 = λ a b. P (cell ls.back a b) in
    cell_set P ls.back (node s t v) x (sent_on (cell ls.back (node s t v) x) (stamped stamp o)) i y
    (λ h k. may h k (cell ls.back (node s t v) x) (subst (λ (a : ℕ). C a x) (sym h) (subst (C i) (sym k) p))) p

pub back_sent : (s : Setup) (t x i y stamp : ℕ) (P : Link → Type 0) (os : List Out) (ls : Links) → Each (λ (o : Out). MayBack s t x i y P stamp o o.to) os
    → P (link_at ls (Back i y)) → P (link_at (delivered (from_broker s t x) stamp os ls) (Back i y))
back_sent s t x i y stamp P [] ls may p = p
back_sent s t x i y stamp P (o ∷ os) ls may p =
    back_sent s t x i y stamp P os (with_link ls (from_broker s t x o.to) (sent_on (link_at ls (from_broker s t x o.to)) (stamped stamp o))) may.1
    (back_one s t x i y stamp P o o.to ls may.0 p)

-- what a client sends leaves both
client_one : (c : ℕ) (to : Peer) (l : Link) (ls : Links) → (with_link ls (from_client c to) l).forward ≡ ls.forward
client_one c (peer.Broker x) l ls = refl
client_one c (peer.Forward x) l ls = refl
client_one c (peer.Back x) l ls = refl
client_one c (peer.Client x) l ls = refl

client_one_back : (c : ℕ) (to : Peer) (l : Link) (ls : Links) → (with_link ls (from_client c to) l).back ≡ ls.back
client_one_back c (peer.Broker x) l ls = refl
client_one_back c (peer.Forward x) l ls = refl
client_one_back c (peer.Back x) l ls = refl
client_one_back c (peer.Client x) l ls = refl

pub client_forward : (c stamp : ℕ) (os : List Out) (ls : Links) → (delivered (from_client c) stamp os ls).forward ≡ ls.forward
client_forward c stamp [] ls = refl
client_forward c stamp (o ∷ os) ls = client_forward c stamp os _ ∙ client_one c o.to (sent_on (link_at ls (from_client c o.to)) (stamped stamp o)) ls

pub client_back : (c stamp : ℕ) (os : List Out) (ls : Links) → (delivered (from_client c) stamp os ls).back ≡ ls.back
client_back c stamp [] ls = refl
client_back c stamp (o ∷ os) ls = client_back c stamp os _ ∙ client_one_back c o.to (sent_on (link_at ls (from_client c o.to)) (stamped stamp o)) ls

-- taking from another link leaves the forward link
abbrev pub TakesElse : ℕ → ℕ → Option LinkName → Type 0
TakesElse i y (Some (Forward a b)) = a ≡ i → b ≡ y → ⊥
TakesElse i y k = Unit {0}

pub taken_else : (k : Option LinkName) (ls : Links) (i y : ℕ) → TakesElse i y k → link_at (taken_from k ls) (Forward i y) ≡ link_at ls (Forward i y)
taken_else None ls i y other = refl
taken_else (Some (Forward a b)) ls i y other = cell_set (λ (l : Link). l ≡ cell ls.forward i y) ls.forward a b _ i y (λ h k. absurd (other h k)) refl
taken_else (Some (Back a b)) ls i y other = refl
taken_else (Some (ToBroker a b)) ls i y other = refl
taken_else (Some (ToClient a b)) ls i y other = refl

-- and taking from it takes one
pub taken_here : (ls : Links) (i y : ℕ) → HasCell ls.forward i y → link_at (taken_from (Some (Forward i y)) ls) (Forward i y) ≡ took (link_at ls (Forward i y))
taken_here ls i y h =
    cell_in_row ls.forward i y y (took (cell ls.forward i y)) h
    ∙ ap (λ (b : Bool). if b then took (cell ls.forward i y) else cell ls.forward i y) (eq-eqb y y refl)

-- no taking changes what was sent on the back link
pub taken_back : (k : Option LinkName) (ls : Links) (i y : ℕ) → (link_at (taken_from k ls) (Back i y)).sent ≡ (link_at ls (Back i y)).sent
taken_back None ls i y = refl
taken_back (Some (Forward a b)) ls i y = refl
taken_back (Some (Back a b)) ls i y =
    let C : ℕ → ℕ → List Packet = λ u v. (cell ls.back u v).sent in
    cell_set (λ (l : Link). l.sent ≡ C i y) ls.back a b _ i y (λ h k. ap (λ (u : ℕ). C u b) h ∙ ap (C i) k) refl
taken_back (Some (ToBroker a b)) ls i y = refl
taken_back (Some (ToClient a b)) ls i y = refl

pub taken_cells : (k : Option LinkName) (ls : Links) (i j : ℕ) → HasCell ls.forward i j → HasCell (taken_from k ls).forward i j
taken_cells None ls i j h = h
taken_cells (Some (Forward a b)) ls i j h = with_cell_has ls.forward a b _ i j h
taken_cells (Some (Back a b)) ls i j h = h
taken_cells (Some (ToBroker a b)) ls i j h = h
taken_cells (Some (ToClient a b)) ls i j h = h
