-- What two clusters have of a third, message by message.
use Rattle.std.proofs.Common.{◌≡◌, ℕ, ◌+◌, ◌≤◌, Bool, true, false, List, [], ◌∷◌, ◌++◌, length, drop, refl, sym, ap, ◌∙◌}
use Rattle.std.specs.Prelude.{if◌then◌else◌, filter, Some, slice_get}
use Rattle.std.proofs.Math.ListN.{drop_of_length-le}
use Rattle.geo_base.specs.declared.entry.Entry.{Entry}
use Rattle.geo_base.specs.Audit.{same_entry}
use Rattle.observation.specs.declared.finding.Finding.{Finding}
use Rattle.observation.specs.declared.finding.Finding.TheVariants as finding
use Rattle.observation.specs.Findings.{Placed, parted, placed_from}
use Rattle.observation.specs.Safe.{is_common}
use Rattle.observe.specs.declared.apart.Compared.{Compared}
use Rattle.observe.specs.declared.apart.Compared.TheVariants as compared
use Rattle.observe.specs.declared.apart.Pair.{Pair}
use Rattle.observe.proofs.Each.{get_at, nothing_found}
use Rattle.observe.specs.Walks.{EntryIndex, IsNextCommon, after_compared, common_from}

-- those of some that the other could have
abbrev pub goes : Pair → List Placed → List Placed
goes q ps = filter (λ (p : Placed). is_common q.origin q.other p.entry) ps

-- what is left of both
abbrev pub left : Pair → List Placed → ℕ → List Entry → List Finding
left q ps n theirs = parted q.topic q.origin q.cluster q.other ps (common_from q.origin q.cluster n (drop n theirs))

pub compare_passes : (q : Pair) (e : Entry) (theirs : List Entry) (n i : ℕ) (ps : List Placed) → is_common q.origin q.other e ≡ false
    → left q (goes q (record { index = i; entry = e } ∷ ps)) n theirs ≡ after_compared q i theirs (goes q ps) (compared.Agrees n)
compare_passes q e theirs n i ps fails = ap (λ (b : Bool). left q (if b then record { index = i; entry = e } ∷ goes q ps else goes q ps) n theirs) fails

stays : (q : Pair) (e : Entry) (theirs : List Entry) (n i : ℕ) (ps : List Placed) → is_common q.origin q.other e ≡ true
    → left q (goes q (record { index = i; entry = e } ∷ ps)) n theirs ≡ left q (record { index = i; entry = e } ∷ goes q ps) n theirs
stays q e theirs n i ps holds = ap (λ (b : Bool). left q (if b then record { index = i; entry = e } ∷ goes q ps else goes q ps) n theirs) holds

pub compare_ends : (q : Pair) (e : Entry) (theirs : List Entry) (n i : ℕ) (ps : List Placed) → is_common q.origin q.other e ≡ true → common_from q.origin q.cluster n (drop n theirs) ≡ []
    → left q (goes q (record { index = i; entry = e } ∷ ps)) n theirs ≡ after_compared q i theirs (goes q ps) compared.Ends
compare_ends q e theirs n i ps holds none =
    stays q e theirs n i ps holds ∙ ap (λ (qs : List Placed). parted q.topic q.origin q.cluster q.other (record { index = i; entry = e } ∷ goes q ps) qs) none

meets : (q : Pair) (e f : Entry) (theirs : List Entry) (n i at : ℕ) (ps : List Placed) (b : Bool) → is_common q.origin q.other e ≡ true → IsNextCommon q.origin q.cluster theirs n at → slice_get theirs at ≡ Some f → same_entry e f ≡ b
    → left q (goes q (record { index = i; entry = e } ∷ ps)) n theirs ≡ (if b then left q (goes q ps) (at + 1) theirs else finding.Apart q.topic q.origin q.cluster i q.other at ∷ [])
meets q e f theirs n i at ps b holds next is same =
    stays q e theirs n i ps holds
    ∙ (ap (λ (qs : List Placed). parted q.topic q.origin q.cluster q.other (record { index = i; entry = e } ∷ goes q ps) qs) (next.is f is)
    ∙ ap (λ (c : Bool). if c then left q (goes q ps) (at + 1) theirs else finding.Apart q.topic q.origin q.cluster i q.other at ∷ []) same)

pub compare_agrees : (q : Pair) (e f : Entry) (theirs : List Entry) (n i at : ℕ) (ps : List Placed) → is_common q.origin q.other e ≡ true → IsNextCommon q.origin q.cluster theirs n at → slice_get theirs at ≡ Some f → same_entry e f ≡ true
    → left q (goes q (record { index = i; entry = e } ∷ ps)) n theirs ≡ after_compared q i theirs (goes q ps) (compared.Agrees (at + 1))
compare_agrees q e f theirs n i at ps holds next is same = meets q e f theirs n i at ps true holds next is same

pub compare_differs : (q : Pair) (e f : Entry) (theirs : List Entry) (n i at : ℕ) (ps : List Placed) → is_common q.origin q.other e ≡ true → IsNextCommon q.origin q.cluster theirs n at → slice_get theirs at ≡ Some f → same_entry e f ≡ false
    → left q (goes q (record { index = i; entry = e } ∷ ps)) n theirs ≡ after_compared q i theirs (goes q ps) (compared.Differs at)
compare_differs q e f theirs n i at ps holds next is differ = meets q e f theirs n i at ps false holds next is differ

-- ---- how far both are compared

abbrev pub all_parted : Pair → List Entry → List Entry → List Finding
all_parted q ours theirs = parted q.topic q.origin q.cluster q.other (common_from q.origin q.other 0 ours) (common_from q.origin q.cluster 0 theirs)

pub record PartedTo (q : Pair) (ours theirs : List Entry) (old found : List Finding) (n i : ℕ) : Type 0 where
  pub same : found ≡ old
  pub rest : parted q.topic q.origin q.cluster q.other (common_from q.origin q.other i (drop i ours)) (common_from q.origin q.cluster n (drop n theirs)) ≡ all_parted q ours theirs

pub parted_begun : (q : Pair) (ours theirs : List Entry) (old : List Finding) → PartedTo q ours theirs old old 0 0
parted_begun q ours theirs old = record { same = refl; rest = refl }

-- what one entry is
abbrev pub IsCompared : Pair → Entry → List Entry → ℕ → Compared → Type 0
IsCompared q e theirs n r =
    (i : EntryIndex) (ps : List Placed) → parted q.topic q.origin q.cluster q.other (filter (λ (p : Placed). is_common q.origin q.other p.entry) (record { index = i; entry = e } ∷ ps)) (common_from q.origin q.cluster n (drop n theirs))
    ≡ after_compared q i theirs (filter (λ (p : Placed). is_common q.origin q.other p.entry) ps) r

step : (q : Pair) (ours theirs : List Entry) (old found : List Finding) (n i : ℕ) (e : Entry) (r : Compared) → PartedTo q ours theirs old found n i → slice_get ours i ≡ Some e → IsCompared q e theirs n r
    → after_compared q i theirs (common_from q.origin q.other (i + 1) (drop (i + 1) ours)) r ≡ all_parted q ours theirs
step q ours theirs old found n i e r h at is =
    sym (is i (placed_from (i + 1) (drop (i + 1) ours)))
    ∙ (sym (ap (λ (es : List Entry). left q (common_from q.origin q.other i es) n theirs) (get_at ours i e at)) ∙ h.rest)

pub parted_on : (q : Pair) (ours theirs : List Entry) (old found : List Finding) (n m i : ℕ) (e : Entry) → PartedTo q ours theirs old found n i → slice_get ours i ≡ Some e → IsCompared q e theirs n (compared.Agrees m)
    → PartedTo q ours theirs old found m (i + 1)
parted_on q ours theirs old found n m i e h at is = record { same = h.same; rest = step q ours theirs old found n i e (compared.Agrees m) h at is }

pub parted_ends : (q : Pair) (ours theirs : List Entry) (old found : List Finding) (n i : ℕ) (e : Entry) → PartedTo q ours theirs old found n i → slice_get ours i ≡ Some e → IsCompared q e theirs n compared.Ends
    → found ≡ old ++ all_parted q ours theirs
parted_ends q ours theirs old found n i e h at is =
    h.same ∙ (nothing_found old ∙ ap (λ (fs : List Finding). old ++ fs) (step q ours theirs old found n i e compared.Ends h at is))

pub parted_differs : (q : Pair) (ours theirs : List Entry) (old found found' : List Finding) (n i k : ℕ) (e : Entry) → PartedTo q ours theirs old found n i → slice_get ours i ≡ Some e → IsCompared q e theirs n (compared.Differs k)
    → found' ≡ found ++ finding.Apart q.topic q.origin q.cluster i q.other k ∷ [] → found' ≡ old ++ all_parted q ours theirs
parted_differs q ours theirs old found found' n i k e h at is more =
    more ∙ (ap (λ (fs : List Finding). fs ++ finding.Apart q.topic q.origin q.cluster i q.other k ∷ []) h.same
    ∙ ap (λ (fs : List Finding). old ++ fs) (step q ours theirs old found n i e (compared.Differs k) h at is))

pub parted_all : (q : Pair) (ours theirs : List Entry) (old found : List Finding) (n i : ℕ) → PartedTo q ours theirs old found n i → length ours ≤ i → found ≡ old ++ all_parted q ours theirs
parted_all q ours theirs old found n i h le =
    h.same ∙ (nothing_found old
    ∙ ap (λ (fs : List Finding). old ++ fs) (sym (ap (λ (es : List Entry). left q (common_from q.origin q.other i es) n theirs) (drop_of_length-le ours le)) ∙ h.rest))
