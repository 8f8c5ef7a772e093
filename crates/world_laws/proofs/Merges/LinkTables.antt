-- The links of a setup are cells of four tables. What a packet sent on one link, and a packet taken from one, leave of any.
use Rattle.std.proofs.Common.{◌≡◌, ℕ, ◌+◌, ◌<◌, Bool, true, false, List, [], ◌∷◌, ◌++◌, length, map, min, refl, sym, ap, subst, ◌∙◌, ◌==◌, arith}
use Rattle.std.specs.Prelude.{Option, Some, None, if◌then◌else◌, ◌&&◌, slice_index_or, slice_set}
use Rattle.std.proofs.lemmas.Bool.{eqb-true, eq-eqb, false≢true}
use Rattle.std.proofs.lemmas.List.{append-nil, append_assoc}
use Rattle.world_laws.proofs.Types.{Out, Packet, Peer}
use Rattle.geo_base.specs.History.{is_input, sent_over, sent_with, taken_over}
use Rattle.geo_base.specs.Link.{Link, no_link, sent_on, took}
use Rattle.geo_base.specs.Nodes.{Node, link_from, link_to, same_link}
use Rattle.geo_base.specs.Setup.{Setup}
use Rattle.geo_base.specs.World.{Back, Forward, LinkName, Links, ToBroker, ToClient, cell, delivered, link_at, stamped, taken_from, with_cell, with_link}
use Rattle.world_laws.proofs.Induction.Frames.{at_set}
use Rattle.world_laws.proofs.Replicating.LinkFrames.{HasCell, cell_in_row, with_cell_has}
use Rattle.world_laws.proofs.Walks.Walk.{left, right}

-- a link is there
abbrev pub HasLink : Links → LinkName → Type 0
HasLink ls (Forward n y) = HasCell ls.forward n y
HasLink ls (Back n y) = HasCell ls.back n y
HasLink ls (ToBroker c x) = HasCell ls.to_broker c x
HasLink ls (ToClient c x) = HasCell ls.to_client c x

pub with_link_has : (ls : Links) (j : LinkName) (l : Link) (k : LinkName) → HasLink ls k → HasLink (with_link ls j l) k
with_link_has ls (Forward n y) l (Forward m z) h = with_cell_has ls.forward n y l m z h
with_link_has ls (Back n y) l (Back m z) h = with_cell_has ls.back n y l m z h
with_link_has ls (ToBroker n y) l (ToBroker m z) h = with_cell_has ls.to_broker n y l m z h
with_link_has ls (ToClient n y) l (ToClient m z) h = with_cell_has ls.to_client n y l m z h
with_link_has ls (Forward n y) l k h = h
with_link_has ls (Back n y) l k h = h
with_link_has ls (ToBroker n y) l k h = h
with_link_has ls (ToClient n y) l k h = h

cell_at : (m : List (List Link)) (i v x y : ℕ) (l : Link) → HasCell m x y → cell (with_cell m i v l) x y ≡ (if (i == x) && (v == y) then l else cell m x y)
cell_at m i v x y l h = by (i == x) refl
  where
    by : (b : Bool) → (i == x) ≡ b → cell (with_cell m i v l) x y ≡ (if b && (v == y) then l else cell m x y)
    by true e =
        let P : ℕ → Type 0 = λ n. cell (with_cell m n v l) x y ≡ (if v == y then l else cell m x y) in
        subst P (sym (eqb-true i x e)) (cell_in_row m x v y l h)
    by false e =
        at_set (λ (r : List Link). slice_index_or r y no_link ≡ cell m x y) m i x (slice_set (slice_index_or m i []) v l) []
        (λ is. absurd (false≢true (sym e ∙ eq-eqb i x is))) refl

pub link_at_with : (ls : Links) (j : LinkName) (l : Link) (k : LinkName) → HasLink ls k → link_at (with_link ls j l) k ≡ (if same_link j k then l else link_at ls k)
link_at_with ls (Forward n y) l (Forward m z) h = cell_at ls.forward n y m z l h
link_at_with ls (Back n y) l (Back m z) h = cell_at ls.back n y m z l h
link_at_with ls (ToBroker n y) l (ToBroker m z) h = cell_at ls.to_broker n y m z l h
link_at_with ls (ToClient n y) l (ToClient m z) h = cell_at ls.to_client n y m z l h
link_at_with ls (Forward n y) l k h = refl
link_at_with ls (Back n y) l k h = refl
link_at_with ls (ToBroker n y) l k h = refl
link_at_with ls (ToClient n y) l k h = refl

-- links of one name are one
both : (C : ℕ → ℕ → LinkName) (n y m z : ℕ) → ((n == m) && (y == z)) ≡ true → C n y ≡ C m z
both C n y m z h = ap (λ (a : ℕ). C a y) (eqb-true n m (left (n == m) (y == z) h)) ∙ ap (C m) (eqb-true y z (right (n == m) (y == z) h))

pub same_link_is : (j k : LinkName) → same_link j k ≡ true → j ≡ k
same_link_is (Forward n y) (Forward m z) h = both (λ a b. Forward a b) n y m z h
same_link_is (Back n y) (Back m z) h = both (λ a b. Back a b) n y m z h
same_link_is (ToBroker n y) (ToBroker m z) h = both (λ a b. ToBroker a b) n y m z h
same_link_is (ToClient n y) (ToClient m z) h = both (λ a b. ToClient a b) n y m z h
same_link_is (Forward n y) k h = absurd (false≢true h)
same_link_is (Back n y) k h = absurd (false≢true h)
same_link_is (ToBroker n y) k h = absurd (false≢true h)
same_link_is (ToClient n y) k h = absurd (false≢true h)

alike : (n y : ℕ) → ((n == n) && (y == y)) ≡ true
alike n y = ap (λ (b : Bool). b && (y == y)) (eq-eqb n n refl) ∙ eq-eqb y y refl

pub same_link_self : (k : LinkName) → same_link k k ≡ true
same_link_self (Forward n y) = alike n y
same_link_self (Back n y) = alike n y
same_link_self (ToBroker n y) = alike n y
same_link_self (ToClient n y) = alike n y

-- a link on which packets were sent, and from which so many were taken
abbrev pub moved : Link → List Packet → ℕ → Link
moved l ps n = record { sent = l.sent ++ ps; taken = l.taken + n }

pub moved_none : (l : Link) → moved l [] 0 ≡ l
moved_none l =
    let none : l.taken + 0 ≡ l.taken = omega arith in
    ap (λ (ps : List Packet). record { sent = ps; taken = l.taken + 0 }) (append-nil l.sent) ∙ ap (λ (n : ℕ). record { sent = l.sent; taken = n }) none

moved_on : (l : Link) (p : Packet) (ps : List Packet) → moved (sent_on l p) ps 0 ≡ moved l (p ∷ ps) 0
moved_on l p ps = ap (λ (qs : List Packet). record { sent = qs; taken = l.taken + 0 }) (append_assoc l.sent (p ∷ []) ps)

-- what a node sends
pub delivered_has : (to : Peer → LinkName) (stamp : ℕ) (os : List Out) (ls : Links) (k : LinkName) → HasLink ls k → HasLink (delivered to stamp os ls) k
delivered_has to stamp [] ls k h = h
delivered_has to stamp (o ∷ os) ls k h = delivered_has to stamp os _ k (with_link_has ls (to o.to) (sent_on (link_at ls (to o.to)) (stamped stamp o)) k h)

pub delivered_at : (s : Setup) (n : Node) (k : LinkName) (stamp : ℕ) (os : List Out) (ls : Links) → HasLink ls k
    → link_at (delivered (link_to s n) stamp os ls) k ≡ moved (link_at ls k) (sent_over s k n (map (sent_with stamp) os)) 0
delivered_at s n k stamp [] ls h = sym (moved_none (link_at ls k))
delivered_at s n k stamp (o ∷ os) ls h =
    delivered_at s n k stamp os (with_link ls j l) (with_link_has ls j l k h)
    ∙ (ap (λ (m : Link). moved m later 0) (link_at_with ls j l k h) ∙ by (same_link j k) refl)
  where
    j : LinkName
    j = link_to s n o.to

    l : Link
    l = sent_on (link_at ls j) (stamped stamp o)

    later : List Packet
    later = sent_over s k n (map (sent_with stamp) os)

    by : (b : Bool) → same_link j k ≡ b
        → moved (if b then sent_on (link_at ls j) (stamped stamp o) else link_at ls k) later 0
        ≡ moved (link_at ls k) (if b then stamped stamp o ∷ later else later) 0
    by true e = ap (λ (i : LinkName). moved (sent_on (link_at ls i) (stamped stamp o)) later 0) (same_link_is j k e) ∙ moved_on (link_at ls k) (stamped stamp o) later
    by false e = refl

-- what it takes
abbrev pub input_link : Setup → Node → Option Peer → Option LinkName
input_link s n None = None
input_link s n (Some q) = Some (link_from s n q)

pub taken_has : (o : Option LinkName) (ls : Links) (k : LinkName) → HasLink ls k → HasLink (taken_from o ls) k
taken_has None ls k h = h
taken_has (Some j) ls k h = with_link_has ls j (took (link_at ls j)) k h

took_one : (l : Link) → l.taken < length l.sent → took l ≡ moved l [] 1
took_one l lt =
    let one : min (l.taken + 1) (length l.sent) ≡ l.taken + 1 = omega (arith, lt) in
    ap (λ (n : ℕ). record { sent = l.sent; taken = n }) one ∙ ap (λ (ps : List Packet). record { sent = ps; taken = l.taken + 1 }) (sym (append-nil l.sent))

pub taken_at : (s : Setup) (n : Node) (q : Option Peer) (p : Option Packet) (ls : Links) (k : LinkName) → HasLink ls k → is_input s n q p ≡ true
    → (0 < length (taken_over s k n q p) → (link_at ls k).taken < length (link_at ls k).sent)
    → link_at (taken_from (input_link s n q) ls) k ≡ moved (link_at ls k) [] (length (taken_over s k n q p))
taken_at s n None None ls k h fits room = sym (moved_none (link_at ls k))
taken_at s n None (Some p) ls k h fits room = absurd (false≢true fits)
taken_at s n (Some q) None ls k h fits room = absurd (false≢true fits)
taken_at s n (Some q) (Some p) ls k h fits room = link_at_with ls j (took (link_at ls j)) k h ∙ by (same_link j k) refl room
  where
    j : LinkName
    j = link_from s n q

    by : (b : Bool) → same_link j k ≡ b
        → (0 < length (if b then p ∷ [] else []) → (link_at ls k).taken < length (link_at ls k).sent)
        → (if b then took (link_at ls j) else link_at ls k) ≡ moved (link_at ls k) [] (length (if b then p ∷ [] else []))
    by true e r = ap (λ (i : LinkName). took (link_at ls i)) (same_link_is j k e) ∙ took_one (link_at ls k) (r (omega arith))
    by false e r = sym (moved_none (link_at ls k))
