-- Any bytes are loaded as something: as a state, or as the first item that breaks a rule.
use Rattle.std.proofs.Common.{◌≡◌, ℕ, ◌+◌, ◌*◌, ◌%◌, nat_lt, Bool, true, false, List, [], length, take, drop, Ok, Err, refl, sym}
use Rattle.std.specs.Prelude.{if◌then◌else◌, Option, Some, None}
use Rattle.std.specs.Str.{bytes_eq}
use Rattle.geo_base.specs.Setup.{Setup}
use Rattle.script_text.specs.Rules.{script_of}
use Rattle.script_text.specs.Script.{Script}
use Rattle.state_items.specs.declared.rule.Rule.TheVariants as rule
use Rattle.state_items.specs.Reading.{◌>>=◌, Read, broken, judge, number_at}
use Rattle.state_items.specs.Telling.{Then}
use Rattle.state_items.proofs.Known.{came, not_both}
use Rattle.state_nodes.specs.declared.counts.Counts.{Counts}
use Rattle.state_nodes.specs.Counts.{counts_at}
use Rattle.state_file.specs.Loading.{IsLoaded, Loaded, bad, is_known}
use Rattle.state_file.specs.Loading as loaded
use Rattle.state_file.specs.Reading.{AreNodes, IsBody, IsNodeBehind, canonical, declarations_at, head_at, magic_at, scripted, so_many, tail_at, version_at}
use Rattle.state_file.specs.Texts.{magic}
use Rattle.codec_laws.specs.Answers.{AreBytes}
use Rattle.codec_laws.proofs.AnswerBytes.{cut_are}
use Rattle.file_laws.proofs.AnswerEntries.{node_leaves, node_some}
use Rattle.file_laws.proofs.Leaving.{SomeAnswer, behind, many_some, number_leaves, tested, then_some, word_leaves}
use Rattle.file_laws.proofs.Shares.{counts_leave}

-- ---- what stands before the brokers

scripted_leaves : (item rest : List ℕ) (o : Option Script) (x : Script × List ℕ) → scripted item rest o ≡ Ok x → AreBytes rest → AreBytes x.1
scripted_leaves item rest None x h are = absurd (not_both _ x h)
scripted_leaves item rest (Some s) x h are = behind (s, rest) x h are

so_many_leave : (n : ℕ) (bytes : List ℕ) (x : Script × List ℕ) → so_many n bytes ≡ Ok x → AreBytes bytes → AreBytes x.1
so_many_leave n bytes x h are = by (nat_lt (length bytes) n) h
  where
    by : (b : Bool) → (if b then Err (broken bytes rule.Whole) else scripted bytes (drop n bytes) (canonical (take n bytes) (script_of (take n bytes)))) ≡ Ok x → AreBytes x.1
    by true e = absurd (not_both _ x e)
    by false e = scripted_leaves bytes (drop n bytes) (canonical (take n bytes) (script_of (take n bytes))) x e (cut_are n bytes are).1

declarations_leave : (bytes : List ℕ) (x : Script × List ℕ) → declarations_at bytes ≡ Ok x → AreBytes bytes → AreBytes x.1
unfolding declarations_at
declarations_leave bytes x h are =
    let n = came (number_at bytes) _ x h in
    so_many_leave n.first.0 n.first.1 x n.next (number_leaves bytes n.first n.is are)

head_leaves : (bytes : List ℕ) (x : (Script × Counts) × List ℕ) → head_at bytes ≡ Ok x → AreBytes bytes → AreBytes x.1
unfolding head_at
head_leaves bytes x h are =
    let script = came (declarations_at bytes) _ x h in
    let counts = came (counts_at script.first.1) _ x script.next in
    behind ((script.first.0, counts.first.0), counts.first.1) x counts.next (counts_leave script.first.1 counts.first counts.is (declarations_leave bytes script.first script.is are))

magic_leaves : (bytes : List ℕ) (x : List ℕ × List ℕ) → magic_at bytes ≡ Ok x → AreBytes bytes → AreBytes x.1
unfolding magic_at
magic_leaves bytes x h are = by (nat_lt (length bytes) 8) h
  where
    by : (b : Bool) → (if b then Err (broken bytes rule.Whole) else (judge (bytes_eq (take 8 bytes) magic) bytes rule.Magic >>= λ same. Ok (take 8 bytes, drop 8 bytes))) ≡ Ok x → AreBytes x.1
    by true e = absurd (not_both _ x e)
    by false e = behind (take 8 bytes, drop 8 bytes) x (tested (bytes_eq (take 8 bytes) magic) bytes rule.Magic (λ same. Ok (take 8 bytes, drop 8 bytes)) x e) (cut_are 8 bytes are).1

version_leaves : (bytes : List ℕ) (x : ℕ × List ℕ) → version_at bytes ≡ Ok x → AreBytes bytes → AreBytes x.1
unfolding version_at
version_leaves bytes x h are =
    let front = came (magic_at bytes) _ x h in
    word_leaves front.first.1 x front.next (magic_leaves bytes front.first front.is are)

-- ---- the body

pub nodes_some : (version : ℕ) (s : Setup) (bytes : List ℕ) → AreBytes bytes → SomeAnswer (AreNodes version s bytes)
nodes_some version s bytes are =
    many_some (IsNodeBehind version s)
    (λ before bytes are. node_some version s.per_ledger s.clusters (length before % length s.clusters) bytes are)
    (λ before bytes x h are. node_leaves version s.per_ledger s.clusters (length before % length s.clusters) bytes x h are)
    (length s.topics * length s.clusters) [] bytes are

pub body_some : (version size : ℕ) (body : List ℕ) → AreBytes body → SomeAnswer (IsBody version size body)
body_some version size body are =
    then_some (λ r. r ≡ head_at body) (λ h r. Then (AreNodes version h.0.0.setup h.1) (λ ns q. q ≡ tail_at size (length body) h.0.0 h.0.1 ns.0 ns.1) r) (head_at body) refl
    (λ h is.
    let brokers = nodes_some version h.0.0.setup h.1 (head_leaves body h (sym is) are) in
    then_some (AreNodes version h.0.0.setup h.1) (λ ns q. q ≡ tail_at size (length body) h.0.0 h.0.1 ns.0 ns.1) brokers.0 brokers.1
    (λ ns k. (tail_at size (length body) h.0.0 h.0.1 ns.0 ns.1, refl)))

-- ---- the file

abbrev SomeLoaded : List ℕ → Type 0
SomeLoaded bytes = (a : Loaded) × IsLoaded bytes a

of_body : (bytes : List ℕ) (v n : ℕ × List ℕ) → version_at bytes ≡ Ok v → is_known v.0 ≡ true → number_at v.1 ≡ Ok n → SomeAnswer (IsBody v.0 n.0 (take n.0 n.1)) → SomeLoaded bytes
of_body bytes v n is known size (Err b, h) = (Err (bad (20 + length (take n.0 n.1)) b), loaded.broken v n b is known size h refl)
of_body bytes v n is known size (Ok s, h) = (Ok (s, 20 + n.0), loaded.whole v n s is known size h refl)

of_size : (bytes : List ℕ) (v : ℕ × List ℕ) (r : Read ℕ) → version_at bytes ≡ Ok v → is_known v.0 ≡ true → number_at v.1 ≡ r → AreBytes v.1 → SomeLoaded bytes
of_size bytes v (Err b) is known size are = (Err (bad (length bytes) b), loaded.no_size v b is known size refl)
of_size bytes v (Ok n) is known size are = of_body bytes v n is known size (body_some v.0 n.0 (take n.0 n.1) (cut_are n.0 n.1 (number_leaves v.1 n size are)).0)

of_known : (bytes : List ℕ) (v : ℕ × List ℕ) (known : Bool) → version_at bytes ≡ Ok v → is_known v.0 ≡ known → AreBytes v.1 → SomeLoaded bytes
of_known bytes v true is known are = of_size bytes v (number_at v.1) is known refl are
of_known bytes v false is known are = (Err (loaded.version v.0), loaded.unknown v is known refl)

of_version : (bytes : List ℕ) (r : Read ℕ) → version_at bytes ≡ r → AreBytes bytes → SomeLoaded bytes
of_version bytes (Err b) is are = (Err (bad (length bytes) b), loaded.no_version b is refl)
of_version bytes (Ok v) is are = of_known bytes v (is_known v.0) is refl (version_leaves bytes v is are)

pub loaded_some : (bytes : List ℕ) → AreBytes bytes → SomeLoaded bytes
loaded_some bytes are = of_version bytes (version_at bytes) refl are
