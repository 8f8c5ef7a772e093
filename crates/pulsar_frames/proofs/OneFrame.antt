-- A frame at the front of bytes is one at most, and there is one thing wrong at most.
use Rattle.std.proofs.Common.{◌≡◌, ◌≢◌, ℕ, Bool, true, List, [], ◌++◌, Option, Some, None, refl, sym, ap, subst, ◌∙◌}
use Rattle.std.proofs.lemmas.List.{append-nil}
use Rattle.std.specs.Prelude.{is_some}
use Rattle.message_meta.specs.Table.{rows}
use Rattle.message_meta.specs.Metadata.{Metadata, IsMetaText}
use Rattle.message_meta.proofs.Meaning.{meta_text_one}
use Rattle.pb_fields.specs.declared.message.MessageFault.{MessageFault}
use Rattle.pb_fields.specs.Message.{WrongMessage}
use Rattle.pb_fields.proofs.Messages.{message_one, message_sound}
use Rattle.pulsar_commands.specs.declared.command.Command.{Command}
use Rattle.pulsar_commands.specs.declared.fault.CommandFault.{CommandFault}
use Rattle.pulsar_commands.specs.Parts.{kind_of}
use Rattle.pulsar_commands.specs.Text.{IsCommandText}
use Rattle.pulsar_frames.specs.declared.fault.FrameFault.{FrameFault}
use Rattle.pulsar_frames.specs.declared.fault.FrameFault.TheVariants as fault
use Rattle.pulsar_frames.specs.declared.frame.Body.{Body}
use Rattle.pulsar_frames.specs.declared.frame.Frame.{Frame}
use Rattle.pulsar_frames.specs.Layout.{Layout, BodyLayout, layout_text, TakesLayout, IsUnfinished}
use Rattle.pulsar_frames.specs.Frames.{carries, MeansBody, MeansFrame, IsFrameText, TakesFrame, WrongFrame, command, carried, meta, HasFault, sizes, parts}
use Rattle.pulsar_frames.proofs.Commands.{command_one, command_fault_one, command_sound}
use Rattle.pulsar_frames.proofs.Layouts.{layout_one, layout_text_one, layout_finished, layout_sound, unfinished_sound, broken_one}

-- ---- what the parts say

same_body : (a b : Body) → a.meta ≡ b.meta → a.payload ≡ b.payload → a ≡ b
same_body a b e f = both (λ m p. record { meta = m; payload = p }) e f
  where
    both : (make : Metadata → List ℕ → Body) {m n : Metadata} {p q : List ℕ} → m ≡ n → p ≡ q → make m p ≡ make n q
    both make e f = cc

same_frame : (f g : Frame) → f.command ≡ g.command → f.body ≡ g.body → f ≡ g
same_frame f g e h = both (λ c b. record { command = c; body = b }) e h
  where
    both : (make : Command → Option Body → Frame) {c d : Command} {a b : Option Body} → c ≡ d → a ≡ b → make c a ≡ make d b
    both make e f = cc

body_one : (o : Option BodyLayout) (a b : Option Body) → MeansBody o a → MeansBody o b → a ≡ b
body_one None None None h k = refl
body_one None None (Some b) h k = absurd k
body_one None (Some a) b h k = absurd h
body_one (Some l) None b h k = absurd h
body_one (Some l) (Some a) None h k = absurd k
body_one (Some l) (Some a) (Some b) h k =
    ap (λ (x : Body). Some x) (same_body a b (meta_text_one l.meta a.meta b.meta h.0 k.0) (sym h.1 ∙ k.1))

means_one : (l : Layout) (f g : Frame) → MeansFrame l f → MeansFrame l g → f ≡ g
means_one l f g h k = same_frame f g (command_one l.command f.command g.command h.command k.command) (body_one l.body f.body g.body h.body k.body)

-- ---- what is wrong with them

meta_right : (o : Option BodyLayout) (b : BodyLayout) (why : MessageFault) (body : Option Body) → o ≡ Some b → MeansBody o body → WrongMessage rows b.meta why → ⊥
meta_right None b why body e h wrong = cc
meta_right (Some l) b why None e h wrong = h
meta_right (Some l) b why (Some body) e h wrong =
    let same : l ≡ b = some_is l b e in
    let text : IsMetaText b.meta body.meta = subst (λ (x : BodyLayout). IsMetaText x.meta body.meta) same h.0 in
    message_sound rows b.meta text.fields why text.text text.means.message wrong
  where
    some_is : (l b : BodyLayout) → ◌≡◌ {A = Option BodyLayout} (Some l) (Some b) → l ≡ b
    some_is l b e = cc

wrong_sound : (l : Layout) (f : Frame) (e : FrameFault) → MeansFrame l f → WrongFrame l e → ⊥
wrong_sound l f e h (command why wrong is) = command_sound l.command f.command why h.command wrong
wrong_sound l f e h (carried c text other is) =
    other (h.carried ∙ ap (λ (x : Command). carries (kind_of x)) (command_one l.command f.command c h.command text))
wrong_sound l f e h (meta c b why text does is wrong e-is) = meta_right l.body b why f.body is h.body wrong

same_layout : (o : Option BodyLayout) (a b : BodyLayout) → o ≡ Some a → o ≡ Some b → a ≡ b
same_layout o a b e f = some_is (sym e ∙ f)
  where
    some_is : ◌≡◌ {A = Option BodyLayout} (Some a) (Some b) → a ≡ b
    some_is e = cc

-- a message that is there, where the command carries one
is_there : (o : Option BodyLayout) (b : BodyLayout) (x : Bool) → o ≡ Some b → x ≡ true → is_some o ≡ x
is_there o b x e h = ap (λ (p : Option BodyLayout). is_some p) e ∙ sym h

not_both : (l : Layout) (c d : Command) (b : BodyLayout) → IsCommandText l.command c → IsCommandText l.command d → is_some l.body ≢ carries (kind_of c) → carries (kind_of d) ≡ true → l.body ≡ Some b → ⊥
not_both l c d b text text' other does is =
    other (is_there l.body b (carries (kind_of c)) is (ap (λ (x : Command). carries (kind_of x)) (command_one l.command c d text text') ∙ does))

wrong_one : (l : Layout) (a b : FrameFault) → WrongFrame l a → WrongFrame l b → a ≡ b
wrong_one l a b (command why h e) (command why' k f) = e ∙ ap (λ (x : CommandFault). fault.Command x) (command_fault_one l.command why why' h k) ∙ sym f
wrong_one l a b (command why h e) (carried c text other f) = absurd (command_sound l.command c why text h)
wrong_one l a b (command why h e) (meta c body why' text is at k f) = absurd (command_sound l.command c why text h)
wrong_one l a b (carried c text other e) (command why k f) = absurd (command_sound l.command c why text k)
wrong_one l a b (carried c text other e) (carried d text' other' f) = e ∙ sym f
wrong_one l a b (carried c text other e) (meta d body why text' is at k f) = absurd (not_both l c d body text text' other is at)
wrong_one l a b (meta c body why text is at h e) (command why' k f) = absurd (command_sound l.command c why' text k)
wrong_one l a b (meta c body why text is at h e) (carried d text' other f) = absurd (not_both l d c body text' text other is at)
wrong_one l a b (meta c body why text is at h e) (meta d body' why' text' is' at' k f) =
    let same : body ≡ body' = same_layout l.body body body' at at' in
    e ∙ ap (λ (x : MessageFault). fault.Meta x) (message_one rows body'.meta why why' (subst (λ (x : BodyLayout). WrongMessage rows x.meta why) same h) k) ∙ sym f

-- ---- at the front of bytes

pub takes_layout : (bytes : List ℕ) (f : Frame) (rest : List ℕ) → (h : TakesFrame bytes f rest) → TakesLayout bytes h.frame.layout rest
takes_layout bytes f rest h = record { parts = h.parts ∙ ap (λ (s : List ℕ). s ++ rest) h.frame.text; fits = h.frame.fits }

pub frame_one : (bytes : List ℕ) (f g : Frame) (r s : List ℕ) → TakesFrame bytes f r → TakesFrame bytes g s → (f ≡ g) × (r ≡ s)
frame_one bytes f g r s h k =
    let one = layout_one bytes h.frame.layout k.frame.layout r s (takes_layout bytes f r h) (takes_layout bytes g s k) in
    (means_one k.frame.layout f g (subst (λ (l : Layout). MeansFrame l f) one.0 h.frame.means) k.frame.means, one.1)

pub frame_finished : (bytes : List ℕ) (f : Frame) (r : List ℕ) → TakesFrame bytes f r → IsUnfinished bytes → ⊥
frame_finished bytes f r h k = layout_finished bytes h.frame.layout r (takes_layout bytes f r h) k

pub frame_sound : (bytes : List ℕ) (f : Frame) (r : List ℕ) (e : FrameFault) → TakesFrame bytes f r → HasFault bytes e → ⊥
frame_sound bytes f r e h (sizes broken) = layout_sound bytes h.frame.layout r e (takes_layout bytes f r h) broken
frame_sound bytes f r e h (parts l s t wrong) =
    let one = layout_one bytes h.frame.layout l r s (takes_layout bytes f r h) t in
    wrong_sound l f e (subst (λ (x : Layout). MeansFrame x f) one.0 h.frame.means) wrong

pub fault_unfinished : (bytes : List ℕ) (e : FrameFault) → IsUnfinished bytes → HasFault bytes e → ⊥
fault_unfinished bytes e h (sizes broken) = unfinished_sound bytes e h broken
fault_unfinished bytes e h (parts l r t wrong) = layout_finished bytes l r t h

pub fault_one : (bytes : List ℕ) (a b : FrameFault) → HasFault bytes a → HasFault bytes b → a ≡ b
fault_one bytes a b (sizes h) (sizes k) = broken_one bytes a b h k
fault_one bytes a b (sizes h) (parts l r t k) = absurd (layout_sound bytes l r a t h)
fault_one bytes a b (parts l r t h) (sizes k) = absurd (layout_sound bytes l r b t k)
fault_one bytes a b (parts l r t h) (parts l' r' t' k) =
    let one = layout_one bytes l l' r r' t t' in wrong_one l' a b (subst (λ (x : Layout). WrongFrame x a) one.0 h) k

-- ---- whole texts

pub text_one : (bytes : List ℕ) (f g : Frame) → IsFrameText bytes f → IsFrameText bytes g → f ≡ g
text_one bytes f g h k = (frame_one bytes f g [] [] (alone f h) (alone g k)).0
  where
    alone : (f : Frame) → IsFrameText bytes f → TakesFrame bytes f []
    alone f h = record { text = bytes; parts = sym (append-nil bytes); frame = h }

pub no_prefix : (a more : List ℕ) (f g : Frame) → IsFrameText a f → IsFrameText (a ++ more) g → more ≡ []
no_prefix a more f g h k =
    (layout_text_one h.layout k.layout more [] h.fits k.fits (ap (λ (s : List ℕ). s ++ more) (sym h.text) ∙ k.text ∙ sym (append-nil (layout_text k.layout)))).1
