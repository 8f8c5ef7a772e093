-- As far as its sizes go, a frame stands at the front of any bytes, or less than one, or something is wrong with its sizes.
use Rattle.std.proofs.Common.{◌≡◌, ℕ, ◌<◌, ◌≤◌, ◌^◌, List, [], ◌∷◌, ◌++◌, Option, Some, None, length, take, drop, refl, sym, ap, subst, ◌∙◌, arith, ◌⊎◌, inl, inr}
use Rattle.std.specs.Int.{w32, from_be_bytes}
use Rattle.std.proofs.lemmas.Bool.{cases_lt, cases_eq}
use Rattle.std.proofs.lemmas.List.{length-take}
use Rattle.pulsar_frames.specs.declared.fault.FrameFault.{FrameFault}
use Rattle.pulsar_frames.specs.declared.fault.FrameFault.TheVariants as fault
use Rattle.pulsar_frames.specs.Layout.{frame_limit, size, sized, Layout, BodyLayout, body_text, content_text, layout_text, TakesLayout, IsUnfinished, begun, under_way, IsCut, no_size, short, HasChecksum, BrokenContent, command, checksum, meta, BrokenLayout, too_large, content}
use Rattle.pulsar_frames.proofs.SizeTexts.{size_front, sized_split}
use Rattle.codec_laws.specs.Answers.{AreBytes}
use Rattle.codec_laws.proofs.AnswerBytes.{byte_at, cut_are, parts_are, be_below_4}

-- ---- one size

-- a size and the bytes after it
record Sized (bytes : List ℕ) : Type 0 where
  n : ℕ
  after : List ℕ
  is : bytes ≡ size n ++ after
  fits : n < 2 ^ 32

size_or_less : (bytes : List ℕ) → AreBytes bytes → Sized bytes ⊎ (length bytes < 4)
size_or_less bytes are =
    elim (cases_lt (length bytes) 4) [
      | inl lacking ↦ inr lacking
      | inr long ↦ inl (record {
        n = from_be_bytes w32 (take 4 bytes);
        after = drop 4 bytes;
        is = size_front bytes long (byte_at bytes are);
        fits = be_below_4 (take 4 bytes) (byte_at (take 4 bytes) (cut_are 4 bytes are).0);
      })
    ]

-- bytes after their size, and what follows
abbrev Counted : List ℕ → Type 0
Counted bytes = (a : List ℕ) × ((x : List ℕ) × (bytes ≡ sized a ++ x))

counted_or_cut : (bytes : List ℕ) → AreBytes bytes → Counted bytes ⊎ IsCut bytes
counted_or_cut bytes are =
    elim (size_or_less bytes are) [
      | inr lacking ↦ inr (no_size lacking)
      | inl s ↦ elim (cases_lt (length s.after) s.n) [
        | inl lacking ↦ inr (short s.n s.after s.fits s.is lacking)
        | inr enough ↦ inl (take s.n s.after, (drop s.n s.after, sized_split bytes s.after s.n s.is enough))
      ]
    ]

-- ---- what the total size counts

second : (a b : ℕ) (bytes : List ℕ) → HasChecksum (a ∷ b ∷ bytes) → (a ≡ 14) × (b ≡ 1)
second a b bytes h = let e = h.1 in parts a 14 b 1 bytes h.0 e
  where
    parts : (p q r s : ℕ) (xs ys : List ℕ) → p ∷ r ∷ xs ≡ q ∷ s ∷ ys → (p ≡ q) × (r ≡ s)
    parts p q r s xs ys e = (cc, cc)

checksum_or : (bytes : List ℕ) → HasChecksum bytes ⊎ (HasChecksum bytes → ⊥)
checksum_or [] = inr (λ h. let e = h.1 in cc)
checksum_or (a ∷ []) = inr (λ h. let e = h.1 in cc)
checksum_or (a ∷ b ∷ bytes) =
    elim (cases_eq a 14) [
      | inr other ↦ inr (λ h. other (second a b bytes h).0)
      | inl first ↦ elim (cases_eq b 1) [
        | inr other ↦ inr (λ h. other (second a b bytes h).1)
        | inl then_ ↦ inl (bytes, rw (first, then_) refl)
      ]
    ]

-- a layout, or what is wrong
abbrev ContentAnswer : List ℕ → Type 0
ContentAnswer c = ((l : Layout) × (c ≡ content_text l)) ⊎ ((why : FrameFault) × BrokenContent c why)

-- after the command
body_of : (c k after : List ℕ) → AreBytes after → c ≡ sized k ++ after → ContentAnswer c
body_of c k [] are is = inl (record { command = k; body = None }, is)
body_of c k (b ∷ after) are is =
    elim (checksum_or (b ∷ after)) [
      | inl sum ↦ inr (fault.Checksum, checksum k (b ∷ after) is sum)
      | inr none ↦ elim (counted_or_cut (b ∷ after) are) [
        | inr cut ↦ inr (fault.Sizes, meta k (b ∷ after) is (λ e. cc) none cut)
        | inl m ↦ inl (record { command = k; body = Some (record { meta = m.0; payload = m.1.0 }) }, is ∙ ap (λ (x : List ℕ). sized k ++ x) m.1.1)
      ]
    ]

content_answer : (c : List ℕ) → AreBytes c → ContentAnswer c
content_answer c are =
    elim (counted_or_cut c are) [
      | inr cut ↦ inr (fault.Sizes, command cut)
      | inl k ↦ body_of c k.0 k.1.0 (behind c k.0 k.1.0 k.1.1 are) k.1.1
    ]
  where
    behind : (c a x : List ℕ) → c ≡ sized a ++ x → AreBytes c → AreBytes x
    behind c a x is are = (parts_are c (sized a) x is are).1

-- ---- the front of the bytes

pub data LayoutAnswer (bytes : List ℕ) : Type 0 where
  whole : (l : Layout) (rest : List ℕ) → TakesLayout bytes l rest → LayoutAnswer bytes
  less : IsUnfinished bytes → LayoutAnswer bytes
  broken : (why : FrameFault) → BrokenLayout bytes why → LayoutAnswer bytes

of_content : (bytes c rest : List ℕ) → length c ≤ frame_limit → bytes ≡ sized c ++ rest → ContentAnswer c → LayoutAnswer bytes
of_content bytes c rest le is (inr why) = broken why.0 (content c rest le is why.1)
of_content bytes c rest le is (inl l) =
    whole l.0 rest (record {
      parts = is ∙ ap (λ (x : List ℕ). sized x ++ rest) l.1;
      fits = record { total = rw (sym l.1) le };
    })

of_size : (bytes : List ℕ) → AreBytes bytes → Sized bytes → LayoutAnswer bytes
of_size bytes are s =
    elim (cases_lt frame_limit s.n) [
      | inl large ↦ broken (fault.TooLarge s.n) (too_large s.n s.after large s.fits s.is)
      | inr small ↦ elim (cases_lt (length s.after) s.n) [
        | inl lacking ↦ less (under_way s.n s.after small s.is lacking)
        | inr enough ↦
            let c : List ℕ = take s.n s.after in
            let is : bytes ≡ sized c ++ drop s.n s.after = sized_split bytes s.after s.n s.is enough in
            of_content bytes c (drop s.n s.after) (omega (arith, length-take s.n s.after)) is (content_answer c (counted c (drop s.n s.after) is))
      ]
    ]
  where
    counted : (c rest : List ℕ) → bytes ≡ sized c ++ rest → AreBytes c
    counted c rest is = (parts_are (sized c) (size (length c)) c refl (parts_are bytes (sized c) rest is are).0).1

pub layout_answer : (bytes : List ℕ) → AreBytes bytes → LayoutAnswer bytes
layout_answer bytes are =
    elim (size_or_less bytes are) [
      | inr lacking ↦ less (begun lacking)
      | inl s ↦ of_size bytes are s
    ]

-- the parts of a layout's text
pub command_are : (l : Layout) → AreBytes (content_text l) → AreBytes l.command
command_are l are = (parts_are (sized l.command) (size (length l.command)) l.command refl (parts_are (content_text l) (sized l.command) (body_text l.body) refl are).0).1

pub takes_are : (bytes : List ℕ) (l : Layout) (rest : List ℕ) → TakesLayout bytes l rest → AreBytes bytes → AreBytes (content_text l)
takes_are bytes l rest t are = (parts_are (layout_text l) (size (length (content_text l))) (content_text l) refl (parts_are bytes (layout_text l) rest t.parts are).0).1

pub body_are : (l : Layout) (b : BodyLayout) → l.body ≡ Some b → AreBytes (content_text l) → AreBytes b.meta × AreBytes b.payload
body_are l b is are =
    let behind : AreBytes (body_text l.body) = (parts_are (content_text l) (sized l.command) (body_text l.body) refl are).1 in
    let own : AreBytes (sized b.meta ++ b.payload) = subst (λ (o : Option BodyLayout). AreBytes (body_text o)) is behind in
    let cut = parts_are (sized b.meta ++ b.payload) (sized b.meta) b.payload refl own in
    ((parts_are (sized b.meta) (size (length b.meta)) b.meta refl cut.0).1, cut.1)
