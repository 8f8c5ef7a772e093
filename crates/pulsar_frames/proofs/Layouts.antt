-- Bytes have one layout at most at their front, one thing wrong with it at most, and only one of: a layout, something
-- wrong, less than a frame.
use Rattle.std.proofs.Common.{◌≡◌, ℕ, ◌+◌, ◌<◌, ◌≤◌, ◌^◌, List, ◌∷◌, ◌++◌, Option, Some, None, length, refl, sym, ap, subst, ◌∙◌, append_assoc, length-append, arith}
use Rattle.pulsar_frames.specs.declared.fault.FrameFault.{FrameFault}
use Rattle.pulsar_frames.specs.declared.fault.FrameFault.TheVariants as fault
use Rattle.pulsar_frames.specs.Layout.{size, sized, Layout, BodyLayout, body_text, content_text, layout_text, Fits, TakesLayout, IsUnfinished, begun, under_way, IsCut, no_size, short, HasChecksum, BrokenContent, command, checksum, meta, BrokenLayout, too_large, content, frame_limit}
use Rattle.pulsar_frames.proofs.SizeTexts.{length-size, size_one}
use Rattle.geo_base.proofs.Lists.{append_parts}

size_cut : (m n : ℕ) (a b : List ℕ) → m < 2 ^ 32 → n < 2 ^ 32 → size m ++ a ≡ size n ++ b → (m ≡ n) × (a ≡ b)
size_cut m n a b hm hn e = let cut = append_parts (size m) (size n) a b (length-size m ∙ sym (length-size n)) e in (size_one m n hm hn cut.0, cut.1)

sized_parts : (a x : List ℕ) → sized a ++ x ≡ size (length a) ++ (a ++ x)
sized_parts a x = append_assoc (size (length a)) a x

sized_one : (a b x y : List ℕ) → length a < 2 ^ 32 → length b < 2 ^ 32 → sized a ++ x ≡ sized b ++ y → (a ≡ b) × (x ≡ y)
sized_one a b x y ha hb e =
    let cut = size_cut (length a) (length b) (a ++ x) (b ++ y) ha hb (sym (sized_parts a x) ∙ e ∙ sized_parts b y) in
    append_parts a b x y cut.0 cut.1

pub length-sized : (a : List ℕ) → length (sized a) ≡ 4 + length a
length-sized a = omega (arith, length-append (size (length a)) a, length-size (length a))

length-front : (n : ℕ) (a : List ℕ) → length (size n ++ a) ≡ 4 + length a
length-front n a = omega (arith, length-append (size n) a, length-size n)

-- ---- what fits

pub content_length : (l : Layout) → length (content_text l) ≡ 4 + length l.command + length (body_text l.body)
content_length l = omega (arith, length-append (sized l.command) (body_text l.body), length-sized l.command)

command_fits : (l : Layout) → Fits l → length l.command ≤ frame_limit
command_fits l h = let total = h.total in omega (arith, content_length l)

body_fits : (l : Layout) → Fits l → length (body_text l.body) ≤ frame_limit
body_fits l h = let total = h.total in omega (arith, content_length l)

meta_fits : (b : BodyLayout) → length (body_text (Some b)) ≤ frame_limit → length b.meta ≤ frame_limit
meta_fits b h = omega (arith, length-append (sized b.meta) b.payload, length-sized b.meta)

-- ---- cut sizes, and checksums

not_cut : (a x : List ℕ) → length a < 2 ^ 32 → IsCut (sized a ++ x) → ⊥
not_cut a x fits (no_size lt) = omega (arith, length-append (sized a) x, length-sized a)
not_cut a x fits (short n after fits' e lt) =
    let cut = size_cut (length a) n (a ++ x) after fits fits' (sym (sized_parts a x) ∙ e) in
    let len : length after ≡ length (a ++ x) = ap (λ (s : List ℕ). length s) (sym cut.1) in
    omega (arith, cut.0, length-append a x)

-- a size within the limit does not begin as a checksum does
size_no_checksum : (n : ℕ) (x rest : List ℕ) → n ≤ frame_limit → size n ++ x ≡ 14 ∷ 1 ∷ rest → ⊥
unfolding size
size_no_checksum n x rest le e = let head = heads _ _ _ _ e in omega arith
  where
    heads : (a b : ℕ) (s t : List ℕ) → a ∷ s ≡ b ∷ t → a ≡ b
    heads a b s t e = cc

body_no_checksum : (o : Option BodyLayout) → length (body_text o) ≤ frame_limit → HasChecksum (body_text o) → ⊥
body_no_checksum None le h = let e = h.1 in cc
body_no_checksum (Some b) le h = size_no_checksum (length b.meta) (b.meta ++ b.payload) h.0 (meta_fits b le) (sym (sized_parts b.meta b.payload) ∙ h.1)

-- ---- layouts

same_body : (a b : BodyLayout) → a.meta ≡ b.meta → a.payload ≡ b.payload → a ≡ b
same_body a b e f = both (λ m p. record { meta = m; payload = p }) e f
  where
    both : (make : List ℕ → List ℕ → BodyLayout) {m n p q : List ℕ} → m ≡ n → p ≡ q → make m p ≡ make n q
    both make e f = cc

same_layout : (l k : Layout) → l.command ≡ k.command → l.body ≡ k.body → l ≡ k
same_layout l k e f = both (λ c b. record { command = c; body = b }) e f
  where
    both : (make : List ℕ → Option BodyLayout → Layout) {c d : List ℕ} {a b : Option BodyLayout} → c ≡ d → a ≡ b → make c a ≡ make d b
    both make e f = cc

body_one : (a b : Option BodyLayout) → length (body_text a) ≤ frame_limit → length (body_text b) ≤ frame_limit → body_text a ≡ body_text b → a ≡ b
body_one None None ha hb e = refl
body_one None (Some b) ha hb e = absurd (let len = ap (λ (s : List ℕ). length s) e in omega (arith, length-append (sized b.meta) b.payload, length-sized b.meta))
body_one (Some a) None ha hb e = absurd (let len = ap (λ (s : List ℕ). length s) e in omega (arith, length-append (sized a.meta) a.payload, length-sized a.meta))
body_one (Some a) (Some b) ha hb e =
    let cut = sized_one a.meta b.meta a.payload b.payload (omega (arith, meta_fits a ha)) (omega (arith, meta_fits b hb)) e in
    ap (λ (x : BodyLayout). Some x) (same_body a b cut.0 cut.1)

content_one : (l k : Layout) → Fits l → Fits k → content_text l ≡ content_text k → l ≡ k
content_one l k h h' e =
    let cut = sized_one l.command k.command (body_text l.body) (body_text k.body) (omega (arith, command_fits l h)) (omega (arith, command_fits k h')) e in
    same_layout l k cut.0 (body_one l.body k.body (body_fits l h) (body_fits k h') cut.1)

pub layout_text_one : (l k : Layout) (r s : List ℕ) → Fits l → Fits k → layout_text l ++ r ≡ layout_text k ++ s → (l ≡ k) × (r ≡ s)
layout_text_one l k r s h h' e =
    let hl = h.total in let hk = h'.total in
    let cut = sized_one (content_text l) (content_text k) r s (omega arith) (omega arith) e in
    (content_one l k h h' cut.0, cut.1)

pub layout_one : (bytes : List ℕ) (l k : Layout) (r s : List ℕ) → TakesLayout bytes l r → TakesLayout bytes k s → (l ≡ k) × (r ≡ s)
layout_one bytes l k r s h h' = layout_text_one l k r s h.fits h'.fits (sym h.parts ∙ h'.parts)

-- ---- what is wrong

pub layout_finished : (bytes : List ℕ) (l : Layout) (r : List ℕ) → TakesLayout bytes l r → IsUnfinished bytes → ⊥
layout_finished bytes l r h (begun lt) = omega (arith, ap (λ (s : List ℕ). length s) h.parts, length-append (layout_text l) r, length-sized (content_text l))
layout_finished bytes l r h (under_way n after le e lt) =
    let total = h.fits.total in
    let cut = size_cut (length (content_text l)) n (content_text l ++ r) after (omega arith) (omega arith) (sym (sized_parts (content_text l) r) ∙ sym h.parts ∙ e) in
    omega (arith, cut.0, ap (λ (s : List ℕ). length s) cut.1, length-append (content_text l) r)

sized_within : (a x c : List ℕ) → c ≡ sized a ++ x → length c ≤ frame_limit → length a < 2 ^ 32
sized_within a x c e le = omega (arith, ap (λ (s : List ℕ). length s) e, length-append (sized a) x, length-sized a)

content_sound : (l : Layout) (why : FrameFault) → Fits l → BrokenContent (content_text l) why → ⊥
content_sound l why h (command cut) = not_cut l.command (body_text l.body) (omega (arith, command_fits l h)) cut
content_sound l why h (checksum c after e sum) =
    let one = sized_one l.command c (body_text l.body) after (omega (arith, command_fits l h)) (sized_within c after (content_text l) e h.total) e in
    body_no_checksum l.body (body_fits l h) (subst (λ (s : List ℕ). HasChecksum s) (sym one.1) sum)
content_sound l why h (meta c after e some not cut) =
    let one = sized_one l.command c (body_text l.body) after (omega (arith, command_fits l h)) (sized_within c after (content_text l) e h.total) e in
    whole l.body (body_fits l h) one.1
  where
    whole : (o : Option BodyLayout) → length (body_text o) ≤ frame_limit → body_text o ≡ after → ⊥
    whole None le is = some (sym is)
    whole (Some b) le is = not_cut b.meta b.payload (omega (arith, meta_fits b le)) (subst (λ (s : List ℕ). IsCut s) (sym is) cut)

pub layout_sound : (bytes : List ℕ) (l : Layout) (r : List ℕ) (why : FrameFault) → TakesLayout bytes l r → BrokenLayout bytes why → ⊥
layout_sound bytes l r why h (too_large n after large fits e) =
    let total = h.fits.total in
    let cut = size_cut (length (content_text l)) n (content_text l ++ r) after (omega arith) fits (sym (sized_parts (content_text l) r) ∙ sym h.parts ∙ e) in
    omega (arith, cut.0)
layout_sound bytes l r why h (content c rest le e broken) =
    let total = h.fits.total in
    let one = sized_one (content_text l) c r rest (omega arith) (omega arith) (sym h.parts ∙ e) in
    content_sound l why h.fits (subst (λ (s : List ℕ). BrokenContent s why) (sym one.0) broken)

pub unfinished_sound : (bytes : List ℕ) (why : FrameFault) → IsUnfinished bytes → BrokenLayout bytes why → ⊥
unfinished_sound bytes why (begun lt) (too_large n after large fits e) = omega (arith, ap (λ (s : List ℕ). length s) e, length-front n after)
unfinished_sound bytes why (begun lt) (content c rest le e broken) = omega (arith, ap (λ (s : List ℕ). length s) e, length-append (sized c) rest, length-sized c)
unfinished_sound bytes why (under_way m before small e lt) (too_large n after large fits e') =
    let cut = size_cut m n before after (omega arith) fits (sym e ∙ e') in omega (arith, cut.0)
unfinished_sound bytes why (under_way m before small e lt) (content c rest le e' broken) =
    let cut = size_cut m (length c) before (c ++ rest) (omega arith) (omega arith) (sym e ∙ e' ∙ sized_parts c rest) in
    omega (arith, cut.0, ap (λ (s : List ℕ). length s) cut.1, length-append c rest)

content_broken_one : (c : List ℕ) (a b : FrameFault) → length c ≤ frame_limit → BrokenContent c a → BrokenContent c b → a ≡ b
content_broken_one c a b le (command cut) (command cut') = refl
content_broken_one c a b le (command cut) (checksum d after e sum) = absurd (not_cut d after (sized_within d after c e le) (subst (λ (s : List ℕ). IsCut s) e cut))
content_broken_one c a b le (command cut) (meta d after e some not cut') = refl
content_broken_one c a b le (checksum d after e sum) (command cut) = absurd (not_cut d after (sized_within d after c e le) (subst (λ (s : List ℕ). IsCut s) e cut))
content_broken_one c a b le (checksum d after e sum) (checksum d' after' e' sum') = refl
content_broken_one c a b le (checksum d after e sum) (meta d' after' e' some not cut) =
    absurd (not (subst (λ (s : List ℕ). HasChecksum s) (sized_one d d' after after' (sized_within d after c e le) (sized_within d' after' c e' le) (sym e ∙ e')).1 sum))
content_broken_one c a b le (meta d after e some not cut) (command cut') = refl
content_broken_one c a b le (meta d after e some not cut) (checksum d' after' e' sum) =
    absurd (not (subst (λ (s : List ℕ). HasChecksum s) (sized_one d' d after' after (sized_within d' after' c e' le) (sized_within d after c e le) (sym e' ∙ e)).1 sum))
content_broken_one c a b le (meta d after e some not cut) (meta d' after' e' some' not' cut') = refl

pub broken_one : (bytes : List ℕ) (a b : FrameFault) → BrokenLayout bytes a → BrokenLayout bytes b → a ≡ b
broken_one bytes a b (too_large n after large fits e) (too_large m after' large' fits' e') =
    ap (λ (k : ℕ). fault.TooLarge k) (size_cut n m after after' fits fits' (sym e ∙ e')).0
broken_one bytes a b (too_large n after large fits e) (content c rest le e' broken) =
    absurd (let cut = size_cut n (length c) after (c ++ rest) fits (omega arith) (sym e ∙ e' ∙ sized_parts c rest) in omega (arith, cut.0))
broken_one bytes a b (content c rest le e broken) (too_large n after large fits e') =
    absurd (let cut = size_cut n (length c) after (c ++ rest) fits (omega arith) (sym e' ∙ e ∙ sized_parts c rest) in omega (arith, cut.0))
broken_one bytes a b (content c rest le e broken) (content d rest' le' e' broken') =
    let one = sized_one c d rest rest' (omega arith) (omega arith) (sym e ∙ e') in
    content_broken_one d a b le' (subst (λ (s : List ℕ). BrokenContent s a) one.0 broken) broken'
