use Rattle.std.proofs.Common.{◌≡◌, ℕ, List, get_or, set, ap, subst, ◌∙◌}
use Rattle.pb_fields.specs.declared.field.Field.{Field}
use Rattle.pb_fields.specs.declared.field.Value.{Value}
use Rattle.pb_fields.specs.Message.{IsLastAt}
use Rattle.pb_fields.proofs.Takes.{others, strangers}
use Rattle.pb_fields.proofs.taken.take_last.Goals as goal

pub returns-clause-left : goal.returns-clause-left
returns-clause-left c =
    let fs : List Field = c.args.fields.now in
    let i = c.in_ok-place.place in
    let last : IsLastAt c.args.number fs fs i = subst (λ (x : List Field). IsLastAt c.args.number x x i) c.as_slice.ensures.fields c.in_ok-place.ensures in
    let f : Field = c.index_mut.result.now in
    let is : f ≡ get_or fs i f = c.index_mut.ensures.value ∙ ap (λ (x : List Field). get_or x i f) c.fields.view_is in
    let number : f.number ≡ c.args.number = ap (λ (g : Field). g.number) is ∙ last.same f in
    record {
      place = i;
      last = last;
      left =
          ap (λ (x : List Field). set x i (record { number = f.number; value = c.replace.new.dest })) c.fields.view_is
          ∙ ap (λ (m : ℕ). set fs i (record { number = m; value = c.replace.new.dest })) number
          ∙ ap (λ (v : Value). set fs i (record { number = c.args.number; value = v })) c.replace.ensures.after;
    }

pub returns-clause-others : goal.returns-clause-others
returns-clause-others c =
    let fs : List Field = c.args.fields.now in
    let i = c.in_ok-place.place in
    let f : Field = c.index_mut.result.now in
    let last : IsLastAt c.args.number fs fs i = subst (λ (x : List Field). IsLastAt c.args.number x x i) c.as_slice.ensures.fields c.in_ok-place.ensures in
    let is : f ≡ get_or fs i f = c.index_mut.ensures.value ∙ ap (λ (x : List Field). get_or x i f) c.fields.view_is in
    rw c.fields.view_is (others c.args.number i fs _ f last.within (last.same f) (ap (λ (g : Field). g.number) is ∙ last.same f))

pub returns-clause-unknown : goal.returns-clause-unknown
returns-clause-unknown c =
    let fs : List Field = c.args.fields.now in
    let i = c.in_ok-place.place in
    let f : Field = c.index_mut.result.now in
    let last : IsLastAt c.args.number fs fs i = subst (λ (x : List Field). IsLastAt c.args.number x x i) c.as_slice.ensures.fields c.in_ok-place.ensures in
    let is : f ≡ get_or fs i f = c.index_mut.ensures.value ∙ ap (λ (x : List Field). get_or x i f) c.fields.view_is in
    rw c.fields.view_is (strangers c.args.number i fs _ f last.within (last.same f) (ap (λ (g : Field). g.number) is ∙ last.same f))
