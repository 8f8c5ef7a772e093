-- The text of what is found against an observation (own).
use Rattle.std.specs.Prelude.{ℕ, List, [], ◌∷◌, ◌++◌, codes, decimal, slice_index_or}
use Rattle.geo_base.specs.declared.entry.Ident.{Ident}
use Rattle.geo_base.specs.declared.position.Position.{Position}
use Rattle.geo_base.specs.Setup.{Setup}
use Rattle.observation.specs.declared.finding.Finding.{Finding}
use Rattle.observation.specs.declared.finding.Finding.TheVariants as finding

-- names, and what stands for one that is not declared
abbrev pub topic_name : Setup → ℕ → List ℕ
topic_name s t = slice_index_or s.topics t (codes "?")

abbrev pub cluster_name : Setup → ℕ → List ℕ
cluster_name s x = slice_index_or s.clusters x (codes "?")

-- L:E
abbrev pub place_text : Position → List ℕ
place_text p = decimal p.ledger ++ (58 ∷ decimal p.entry)

-- observed lost TOPIC ORIGIN PRODUCER SEQ L:E
abbrev pub lost_line : Setup → ℕ → Ident → Position → List ℕ
lost_line s t g p =
    codes "observed lost " ++ (topic_name s t ++ (32 ∷ (cluster_name s g.origin ++ (32 ∷ (g.producer ++ (32 ∷ (decimal g.seq
    ++ (32 ∷ (place_text p ++ 10 ∷ [])))))))))

-- observed RULE TOPIC CLUSTER INDEX
abbrev pub at_line : Setup → List ℕ → (t x i : ℕ) → List ℕ
at_line s rule t x i = codes "observed " ++ (rule ++ (32 ∷ (topic_name s t ++ (32 ∷ (cluster_name s x ++ (32 ∷ (decimal i ++ 10 ∷ [])))))))

-- observed RULE TOPIC CLUSTER INDEX OTHER
abbrev pub of_line : Setup → List ℕ → (t x i : ℕ) → List ℕ → List ℕ
of_line s rule t x i other =
    codes "observed " ++ (rule ++ (32 ∷ (topic_name s t ++ (32 ∷ (cluster_name s x ++ (32 ∷ (decimal i ++ (32 ∷ (other ++ 10 ∷ [])))))))))

-- observed RULE TOPIC CLUSTER NAME INDEX
abbrev pub between_line : Setup → List ℕ → (t x : ℕ) → List ℕ → ℕ → List ℕ
between_line s rule t x name i =
    codes "observed " ++ (rule ++ (32 ∷ (topic_name s t ++ (32 ∷ (cluster_name s x ++ (32 ∷ (name ++ (32 ∷ (decimal i ++ 10 ∷ [])))))))))

-- CLUSTER INDEX
abbrev pub spot_text : Setup → (x i : ℕ) → List ℕ
spot_text s x i = cluster_name s x ++ (32 ∷ decimal i)

-- observed apart TOPIC ORIGIN CLUSTER INDEX OTHER INDEX
abbrev pub apart_line : Setup → (t y x i z k : ℕ) → List ℕ
apart_line s t y x i z k =
    codes "observed apart " ++ (topic_name s t ++ (32 ∷ (cluster_name s y ++ (32 ∷ (spot_text s x i ++ (32 ∷ (spot_text s z k ++ 10 ∷ [])))))))

abbrev pub finding_line : Setup → Finding → List ℕ
finding_line s (finding.Lost t g p) = lost_line s t g p
finding_line s (finding.Twice t x i) = at_line s (codes "twice") t x i
finding_line s (finding.Nowhere t x i y) = of_line s (codes "nowhere") t x i (cluster_name s y)
finding_line s (finding.Gap t x y i) = between_line s (codes "gap") t x (cluster_name s y) i
finding_line s (finding.Order t x i y) = of_line s (codes "order") t x i (cluster_name s y)
finding_line s (finding.Apart t y x i z k) = apart_line s t y x i z k
finding_line s (finding.Unreceived t x y i) = between_line s (codes "unreceived") t x (cluster_name s y) i
finding_line s (finding.Unplaced t x i) = at_line s (codes "unplaced") t x i
finding_line s (finding.Cut t x i y) = of_line s (codes "cut") t x i (cluster_name s y)
finding_line s (finding.Told t x i y) = of_line s (codes "told") t x i (cluster_name s y)
finding_line s (finding.Skipped t x n i) = between_line s (codes "skipped") t x n i

abbrev pub finding_lines : Setup → List Finding → List ℕ
finding_lines s [] = []
finding_lines s (f ∷ fs) = finding_line s f ++ finding_lines s fs

-- observed safe entries N
abbrev pub safe_line : ℕ → List ℕ
safe_line n = codes "observed safe entries " ++ (decimal n ++ 10 ∷ [])

-- that it is safe, where nothing is found, else a line a finding; n is how many entries were read
abbrev pub findings_text : Setup → ℕ → List Finding → List ℕ
findings_text s n [] = safe_line n
findings_text s n (f ∷ fs) = finding_lines s (f ∷ fs)
