-- The heading of a line: its kind is one that is read, and the words that write a step have the step's.
use Rattle.std.proofs.Common.{◌≡◌, Bool, true, false, cond, ◌&&◌, List, [], ◌∷◌, Option, Some, None, codes, find, inl, inr, refl, ap, subst, ◌∙◌}
use Rattle.std.specs.Str.{bytes_eq}
use Rattle.std.specs.Prelude.{⊤}
use Rattle.std.proofs.lemmas.Bool.{and_parts}
use Rattle.std.proofs.lemmas.Option.{none-some, same_Some}
use Rattle.std.proofs.lemmas.Slice.Eq.{bytes_eq-Decides}
use Rattle.script_rows.specs.NameWords.{Word}
use Rattle.script_rows.specs.declared.act_kind.ActKind.{ActKind}
use Rattle.script_rows.specs.declared.event_kind.EventKind.{EventKind}
use Rattle.script_rows.specs.declared.event_kind.EventKind.TheVariants as kind
use Rattle.script_rows.specs.declared.heading.Heading.{Heading}
use Rattle.script_rows.specs.declared.heading.Heading.TheVariants as heading
use Rattle.script_rows.specs.declared.kind.Kind.TheVariants as line_kind
use Rattle.script_rows.specs.declared.line_kind.LineKind.{LineKind}
use Rattle.script_rows.specs.declared.line_kind.LineKind.TheVariants as line
use Rattle.script_rows.specs.Judging.{act_cells, do_headed, do_heading, event_headed, halt_headed, halt_heading, heading_of, other_headed}
use Rattle.script_rows.specs.Known.{is_kind_built}
use Rattle.script_rows.specs.Rows.{act_built, act_of_word, event_built, event_kinds, event_of_word, event_word, halt_built, line_built, line_of_word, may_halt}
use Rattle.script_rows.proofs.Chosen.{chosen}

-- ---- a heading's kind is read
-- what an unknown or a formless line has, is no kind
abbrev pub HasKind : Heading → Type 0
HasKind (heading.Headed k ws) = is_kind_built k ≡ true
HasKind h = ⊤

if_kind : (b : Bool) (h i : Heading) → (b ≡ true → HasKind h) → HasKind i → HasKind (cond b h i)
if_kind true h i first second = first refl
if_kind false h i first second = second

do_kind : (c : Word) (ws : List Word) (o : Option ActKind) → HasKind (do_headed c ws o)
do_kind c ws None = tt
do_kind c ws (Some k) = if_kind (act_built k) (heading.Headed (line_kind.Do k) (c ∷ act_cells k ws)) heading.Unknown (λ is. is) tt

do_line_kind : (ws : List Word) → HasKind (do_heading ws)
do_line_kind [] = tt
do_line_kind (c ∷ []) = tt
do_line_kind (c ∷ w ∷ ws) = do_kind c ws (act_of_word w)

-- all three tests of a halted event
all_three : (a b c : Bool) → a ≡ true → b ≡ true → c ≡ true → (a && b && c) ≡ true
all_three true true true x y z = refl
all_three false b c x y z = cc
all_three true false c x y z = cc
all_three true true false x y z = cc

halt_kind : halt_built ≡ true → (c : Word) (ws : List Word) (o : Option EventKind) → HasKind (halt_headed c ws o)
halt_kind may c ws None = tt
halt_kind may c ws (Some k) =
    if_kind (event_built k) (cond (may_halt k) (heading.Headed (line_kind.Halt k) (c ∷ ws)) heading.Formless) heading.Unknown (λ built. if_kind (may_halt k) (heading.Headed (line_kind.Halt k) (c ∷ ws)) heading.Formless (λ halts. all_three halt_built (event_built k) (may_halt k) may built halts) tt) tt

halt_line_kind : halt_built ≡ true → (ws : List Word) → HasKind (halt_heading ws)
halt_line_kind may [] = tt
halt_line_kind may (c ∷ []) = tt
halt_line_kind may (c ∷ w ∷ ws) = halt_kind may c ws (event_of_word w)

event_kind_read : (ws : List Word) (o : Option EventKind) → HasKind (event_headed ws o)
event_kind_read ws None = tt
event_kind_read ws (Some k) = if_kind (event_built k) (heading.Headed (line_kind.Event k) ws) heading.Unknown (λ is. is) tt

other_kind : (w : Word) (ws : List Word) (o : Option LineKind) → HasKind (other_headed w ws o)
other_kind w ws None = event_kind_read ws (event_of_word w)
other_kind w ws (Some k) = if_kind (line_built k) (heading.Headed (line_kind.Other k) ws) heading.Unknown (λ is. is) tt

pub has_kind : (ws : List Word) → HasKind (heading_of ws)
has_kind [] = tt
has_kind (w ∷ ws) =
    if_kind (bytes_eq w (codes "do")) (do_heading ws) (cond (bytes_eq w (codes "halt")) (cond halt_built (halt_heading ws) heading.Unknown) (other_headed w ws (line_of_word w))) (λ is. do_line_kind ws) (if_kind (bytes_eq w (codes "halt")) (cond halt_built (halt_heading ws) heading.Unknown) (other_headed w ws (line_of_word w)) (λ is. if_kind halt_built (halt_heading ws) heading.Unknown (λ may. halt_line_kind may ws) tt) (other_kind w ws (line_of_word w)))

-- ---- the words that write a step
on_built : (b : Bool) (h i : Heading) → b ≡ true → cond b h i ≡ h
on_built true h i is = refl
on_built false h i is = cc

event_head : (k : EventKind) (ws : List Word) → heading_of (event_word k ∷ ws) ≡ event_headed ws (Some k)
event_head kind.Go ws = refl
event_head kind.Get ws = refl
event_head kind.Reconnect ws = refl
event_head kind.Serve ws = refl
event_head kind.Drop ws = refl
event_head kind.Reset ws = refl
event_head kind.Read ws = refl
event_head kind.Take ws = refl
event_head kind.Receipt ws = refl
event_head kind.Snap ws = refl
event_head kind.Offer ws = refl
event_head kind.Seek ws = refl
event_head kind.Restart ws = refl

pub event_heads : (k : EventKind) (ws : List Word) → event_built k ≡ true → heading_of (event_word k ∷ ws) ≡ heading.Headed (line_kind.Event k) ws
event_heads k ws is =
    event_head k ws ∙ on_built (event_built k) (heading.Headed (line_kind.Event k) ws) heading.Unknown is

word_back : (k : EventKind) → event_of_word (event_word k) ≡ Some k
word_back kind.Go = refl
word_back kind.Get = refl
word_back kind.Reconnect = refl
word_back kind.Serve = refl
word_back kind.Drop = refl
word_back kind.Reset = refl
word_back kind.Read = refl
word_back kind.Take = refl
word_back kind.Receipt = refl
word_back kind.Snap = refl
word_back kind.Offer = refl
word_back kind.Seek = refl
word_back kind.Restart = refl

halted_heads : (c : Word) (k : EventKind) (ws : List Word) → event_built k ≡ true → may_halt k ≡ true → halt_headed c ws (Some k) ≡ heading.Headed (line_kind.Halt k) (c ∷ ws)
halted_heads c k ws built halts =
    on_built (event_built k) (cond (may_halt k) (heading.Headed (line_kind.Halt k) (c ∷ ws)) heading.Formless) heading.Unknown built ∙ on_built (may_halt k) (heading.Headed (line_kind.Halt k) (c ∷ ws)) heading.Formless halts

pub halt_heads : (c : Word) (k : EventKind) (ws : List Word) → (halt_built && event_built k && may_halt k) ≡ true → heading_of (codes "halt" ∷ c ∷ event_word k ∷ ws) ≡ heading.Headed (line_kind.Halt k) (c ∷ ws)
halt_heads c k ws is =
    let last = and_parts (halt_built && event_built k) (may_halt k) is in
    let both = and_parts halt_built (event_built k) last.0 in
    on_built halt_built (halt_heading (c ∷ event_word k ∷ ws)) heading.Unknown both.0 ∙ (ap (λ (o : Option EventKind). halt_headed c ws o) (word_back k) ∙ halted_heads c k ws both.1 last.1)

pub settle_heads : line_built line.Settle ≡ true → heading_of (codes "settle" ∷ []) ≡ heading.Headed (line_kind.Other line.Settle) []
settle_heads is = on_built (line_built line.Settle) (heading.Headed (line_kind.Other line.Settle) []) heading.Unknown is

pub stop_heads : line_built line.Stop ≡ true → heading_of (codes "stop" ∷ []) ≡ heading.Headed (line_kind.Other line.Stop) []
stop_heads is = on_built (line_built line.Stop) (heading.Headed (line_kind.Other line.Stop) []) heading.Unknown is

-- ---- an event's word begins no other line
event_is_none : (k : EventKind) → line_of_word (event_word k) ≡ None
event_is_none kind.Go = refl
event_is_none kind.Get = refl
event_is_none kind.Reconnect = refl
event_is_none kind.Serve = refl
event_is_none kind.Drop = refl
event_is_none kind.Reset = refl
event_is_none kind.Read = refl
event_is_none kind.Take = refl
event_is_none kind.Receipt = refl
event_is_none kind.Snap = refl
event_is_none kind.Offer = refl
event_is_none kind.Seek = refl
event_is_none kind.Restart = refl

found_passes : (p : EventKind → Bool) (ks : List EventKind) (k : EventKind) → find p ks ≡ Some k → p k ≡ true
found_passes p [] k e = absurd (none-some k e)
found_passes p (x ∷ ks) k e =
    elim (chosen (p x) (Some x) (find p ks) (Some k) e) [
      | inl here ↦ subst (λ (y : EventKind). p y ≡ true) (same_Some x k here.1) here.0
      | inr later ↦ found_passes p ks k later.1
    ]

pub no_line : (w : Word) (k : EventKind) → event_of_word w ≡ Some k → line_of_word w ≡ None
no_line w k e =
    let same = (bytes_eq-Decides w (event_word k)).0 (found_passes (λ (x : EventKind). bytes_eq w (event_word x)) event_kinds k e) in
    ap line_of_word same ∙ event_is_none k
