use Rattle.std.proofs.Common.{◌-◌, ◌<◌, ◌≤◌, ℕ, ◌∷◌, List, length, get_or, sym, subst, ap, ◌∙◌}
use Rattle.std.specs.Prelude.{slice_get, slice_range}
use Rattle.fzn_cert.specs.declared.step.Version.TheVariants.{Two}
use Rattle.fzn_cert.specs.Reading.{step_of}
use Rattle.fzn_cert_reader.proofs.ScriptLaws.{IsRead, read-at, none-behind}
use Rattle.fzn_cert_reader.proofs.script.Script.line.Goals as goal
use Rattle.fzn_cert_reader.proofs.script.Script.line.Goals.{After-deref-2}

pub returns-in_err-end-clause-none : goal.returns-in_err-end-clause-none
returns-in_err-end-clause-none c =
    rw c.from_residual.ensures
    (none-behind c.self.inside.text.items c.self.inside.ends.items c.args.self.now c.self.invariant c.self.view_is c.args.place
    (subst (λ (ends : List ℕ). length ends ≤ c.args.place) c.deref.ensures.value c.in_err-end.ensures.lookup.3))

-- the line that stands at the place
found : (c : After-deref-2) → IsRead c.self.inside.text.items c.start_of-start.result c.in_ok-end.field-0.now (slice_get c.args.self.now c.args.place)
found c =
    let ends = c.self.inside.ends.items in
    let place = c.args.place in
    let inside = c.in_ok-end.ensures.lookup.3 in
    read-at c.self.inside.text.items ends c.args.self.now c.self.invariant c.self.view_is place c.start_of-start.result c.in_ok-end.field-0.now
    (subst (λ (all : List ℕ). place < length all) c.deref.ensures.value inside.0)
    (c.start_of-start.ensures ∙ ap (λ (all : List ℕ). get_or (0 ∷ all) place 0) c.as_slice.ensures.value)
    (inside.1 0 ∙ ap (λ (all : List ℕ). get_or all place 0) c.deref.ensures.value)

pub line_between-requires-clause-forth : goal.line_between-requires-clause-forth
line_between-requires-clause-forth c = (found c).forth

pub line_between-requires-clause-within : goal.line_between-requires-clause-within
line_between-requires-clause-within c =
    subst (λ (text : List ℕ). c.in_ok-end.field-0.now ≤ length text) (sym c.deref-2.ensures.value) (found c).within

pub returns-clause-some : goal.returns-clause-some
returns-clause-some c =
    ap (λ (line : List ℕ). step_of Two line) (c.line_between.ensures ∙ ap (λ (text : List ℕ). slice_range text c.start_of-start.result (c.in_ok-end.field-0.now - 1)) c.deref-2.ensures.value)
    ∙ (found (goal.at.returns-clause-some c).After-deref-2).is

pub returns-clause-text : goal.returns-clause-text
returns-clause-text c =
    let spells = (found (goal.at.returns-clause-text c).After-deref-2).spells in
    let line = c.line_between.ensures ∙ ap (λ (text : List ℕ). slice_range text c.start_of-start.result (c.in_ok-end.field-0.now - 1)) c.deref-2.ensures.value in
    (spells.0, spells.1, line ∙ spells.2)
