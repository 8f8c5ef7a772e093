-- The first packet of all that were taken that is not the one that was sent.
use Rattle.std.specs.Prelude.{◌≡◌, ◌⊎◌, ℕ, ◌<◌, ◌≤◌, List, Option, Some, None, slice_get}
use Rattle.merge_history.specs.declared.differences.PacketDifference.{PacketDifference}
use Rattle.merge_history.specs.declared.walk.Found.{Found}
use Rattle.merge_history.specs.Kept.{Kept, kept_by}
use Rattle.merge_history.specs.Differences.{AllSent, IsSentAt}
use Rattle.merge_history.specs.Peers.{LayoutView}
use Rattle.merge_history.specs.Walks.{IsFoundAt}

-- stamps rise in the history of each node
abbrev pub AreRising : List (List Kept) → Type 0
AreRising kept = (n i j : ℕ) (d e : Kept) → i < j → slice_get (kept_by kept n) i ≡ Some d → slice_get (kept_by kept n) j ≡ Some e → d.stamp < e.stamp

-- an event of a stamp and a node comes before that of others
abbrev pub ComesBefore : (stamp node stamp' node' : ℕ) → Type 0
ComesBefore s n s' n' = (s < s') ⊎ ((s ≡ s') × (n < n'))

-- of the nodes below n, a packet that was taken and is not the one that was sent
pub record IsDifference (l : LayoutView) (kept : List (List Kept)) (n : ℕ) (d : PacketDifference) : Type 0 where
  pub node : d.node < n
  pub found : IsFoundAt l kept d.node d.found

-- of the nodes below n, the first packet by stamp and node that is not the one that was sent
pub record IsFirst (l : LayoutView) (kept : List (List Kept)) (n : ℕ) (d : PacketDifference) : Type 0 where
  pub node : d.node < n
  pub found : IsFoundAt l kept d.node d.found
  pub stamp : (e : Kept) → slice_get (kept_by kept d.node) d.found.place ≡ Some e → d.stamp ≡ e.stamp
  pub first : (m i : ℕ) (e : Kept) → m < n → slice_get (kept_by kept m) i ≡ Some e → ComesBefore e.stamp m d.stamp d.node → IsSentAt l kept m i

abbrev pub NoneBelow : LayoutView → List (List Kept) → ℕ → Option PacketDifference → Type 0
NoneBelow l kept n d = d ≡ None → (m : ℕ) → m < n → AllSent l kept m

-- or there is none
abbrev pub IsFirstBelow : LayoutView → List (List Kept) → ℕ → Option PacketDifference → Type 0
IsFirstBelow l kept n None = (m : ℕ) → m < n → AllSent l kept m
IsFirstBelow l kept n (Some d) = IsFirst l kept n d

-- what was found at a node, with its stamp
abbrev pub IsStamped : List Kept → ℕ → Option Found → Option PacketDifference → Type 0
IsStamped b n None d = d ≡ None
IsStamped b n (Some f) None = slice_get b f.place ≡ None
IsStamped b n (Some f) (Some d) = (d.node ≡ n) × (d.found ≡ f) × ((e : Kept) → slice_get b f.place ≡ Some e → d.stamp ≡ e.stamp)

abbrev pub IsEarlier : Option PacketDifference → Option PacketDifference → Option PacketDifference → Type 0
IsEarlier None next r = r ≡ next
IsEarlier (Some d) None r = r ≡ Some d
IsEarlier (Some d) (Some e) r = ((r ≡ Some d) × (d.stamp ≤ e.stamp)) ⊎ ((r ≡ Some e) × (e.stamp < d.stamp))
