-- One candidate more is tried, and kept where it gives a constraint.
use Rattle.std.proofs.Common.{◌≡◌, ◌∷◌, [], ◌++◌, List, length, sym, ap, subst, ◌∙◌, append_assoc, append-nil, refl, arith}
use Rattle.std.specs.List.{All, Contains}
use Rattle.std.specs.Vec.Iter.{into_iter_items}
use Rattle.std.proofs.lemmas.Bool.{true≢false}
use Rattle.fzn_meaning.specs.Solutions.{declared_sets}
use Rattle.fzn_derive.specs.declared.derivation.Derivation.{Derivation}
use Rattle.fzn_derive.specs.Derived.{IsDerivable}
use Rattle.fzn_derive.proofs.TryingLemmas.{AreTried, tried-kept, tried-left}
use Rattle.fzn_derive.proofs.trying.derivable.Goals as goal

nothing_left : (l : List Derivation) → length l ≡ 0 → l ≡ []
nothing_left [] h = refl
nothing_left (x ∷ xs) h = absurd (omega arith)

pub loop-candidate-preserved-in-Continue-branch-3 : goal.loop-candidate-preserved-in-Continue-branch-3
loop-candidate-preserved-in-Continue-branch-3 c =
    let at = c.loop-candidate in
    let x = c.in-Some.candidate in
    let given = c.args.given.now in
    let declared = declared_sets c.args.vars.now in
    let steps : into_iter_items at.candidate-iterator ≡ x ∷ into_iter_items c.next.new.self = c.in-Some.ensures.steps.0 in
    let was = at.invariant.1 in
    let gone = c.in-Some.ensures.steps.1 in
    let short = ap length steps in
    let before : AreTried given declared at.yielded at.found = record { derivable = at.invariant.3; candidates = at.invariant.4; each = at.invariant.5 } in
    let after = subst (λ (kept : List Derivation). AreTried given declared (at.yielded ++ x ∷ []) kept) (sym c.in_ok-push.ensures.ok)
    (tried-kept given declared at.yielded at.found x before (c.in_ok-gives.ensures.gives.0 c.if-branch.true)) in
    (append_assoc at.yielded (x ∷ []) _ ∙ rw (← steps) at.invariant.0, omega arith, c.gives.ensures.clear, after.derivable, after.candidates, after.each)

pub loop-candidate-preserved-else-branch : goal.loop-candidate-preserved-else-branch
loop-candidate-preserved-else-branch c =
    let at = c.loop-candidate in
    let x = c.in-Some.candidate in
    let given = c.args.given.now in
    let declared = declared_sets c.args.vars.now in
    let steps : into_iter_items at.candidate-iterator ≡ x ∷ into_iter_items c.next.new.self = c.in-Some.ensures.steps.0 in
    let was = at.invariant.1 in
    let gone = c.in-Some.ensures.steps.1 in
    let short = ap length steps in
    let before : AreTried given declared at.yielded at.found = record { derivable = at.invariant.3; candidates = at.invariant.4; each = at.invariant.5 } in
    let after = tried-left given declared at.yielded at.found x before (λ is. true≢false (sym (c.in_ok-gives.ensures.gives.1 is) ∙ c.if-branch.false)) in
    (append_assoc at.yielded (x ∷ []) _ ∙ rw (← steps) at.invariant.0, omega arith, c.gives.ensures.clear, after.derivable, after.candidates, after.each)

pub loop-candidate-preserved-else-branch-2 : goal.loop-candidate-preserved-else-branch-2
loop-candidate-preserved-else-branch-2 c =
    let at = c.loop-candidate in
    let x = c.in-Some.candidate in
    let given = c.args.given.now in
    let declared = declared_sets c.args.vars.now in
    let steps : into_iter_items at.candidate-iterator ≡ x ∷ into_iter_items c.next.new.self = c.in-Some.ensures.steps.0 in
    let was = at.invariant.1 in
    let gone = c.in-Some.ensures.steps.1 in
    let short = ap length steps in
    let before : AreTried given declared at.yielded at.found = record { derivable = at.invariant.3; candidates = at.invariant.4; each = at.invariant.5 } in
    let after = tried-left given declared at.yielded at.found x before (λ is. true≢false (sym (c.in_ok-gives.ensures.gives.1 is) ∙ c.if-branch.false)) in
    (append_assoc at.yielded (x ∷ []) _ ∙ rw (← steps) at.invariant.0, omega arith, c.gives.ensures.clear, after.derivable, after.candidates, after.each)

pub loop-candidate-preserved-else-branch-3 : goal.loop-candidate-preserved-else-branch-3
loop-candidate-preserved-else-branch-3 c =
    let at = c.loop-candidate in
    let x = c.in-Some.candidate in
    let given = c.args.given.now in
    let declared = declared_sets c.args.vars.now in
    let steps : into_iter_items at.candidate-iterator ≡ x ∷ into_iter_items c.next.new.self = c.in-Some.ensures.steps.0 in
    let was = at.invariant.1 in
    let gone = c.in-Some.ensures.steps.1 in
    let short = ap length steps in
    let before : AreTried given declared at.yielded at.found = record { derivable = at.invariant.3; candidates = at.invariant.4; each = at.invariant.5 } in
    let after = tried-left given declared at.yielded at.found x before (λ is. true≢false (sym (c.in_ok-gives.ensures.gives.1 is) ∙ c.if-branch.false)) in
    (append_assoc at.yielded (x ∷ []) _ ∙ rw (← steps) at.invariant.0, omega arith, c.gives.ensures.clear, after.derivable, after.candidates, after.each)

pub loop-candidate-preserved : goal.loop-candidate-preserved
loop-candidate-preserved c =
    let at = c.loop-candidate in
    let x = c.in-Some.candidate in
    let given = c.args.given.now in
    let declared = declared_sets c.args.vars.now in
    let steps : into_iter_items at.candidate-iterator ≡ x ∷ into_iter_items c.next.new.self = c.in-Some.ensures.steps.0 in
    let was = at.invariant.1 in
    let gone = c.in-Some.ensures.steps.1 in
    let short = ap length steps in
    let before : AreTried given declared at.yielded at.found = record { derivable = at.invariant.3; candidates = at.invariant.4; each = at.invariant.5 } in
    let after = tried-left given declared at.yielded at.found x before (λ is. true≢false (sym (c.in_ok-gives.ensures.gives.1 is) ∙ c.if-branch.false)) in
    (append_assoc at.yielded (x ∷ []) _ ∙ rw (← steps) at.invariant.0, omega arith, c.gives.ensures.clear, after.derivable, after.candidates, after.each)

pub returns-clause-candidates : goal.returns-clause-candidates
returns-clause-candidates c =
    let at = c.loop-candidate in
    let none = c.in-None.ensures.steps in
    let empty : into_iter_items at.candidate-iterator ≡ [] = nothing_left _ (sym at.invariant.1 ∙ none.0) in
    let all = sym (append-nil at.yielded) ∙ rw empty at at.invariant.0 in
    subst (λ (l : List Derivation). All (Contains l) at.found) all at.invariant.4

pub returns-clause-each : goal.returns-clause-each
returns-clause-each c =
    let at = c.loop-candidate in
    let none = c.in-None.ensures.steps in
    let empty : into_iter_items at.candidate-iterator ≡ [] = nothing_left _ (sym at.invariant.1 ∙ none.0) in
    let all = sym (append-nil at.yielded) ∙ rw empty at at.invariant.0 in
    subst (λ (l : List Derivation). All (λ (d : Derivation). IsDerivable c.args.given.now (declared_sets c.args.vars.now) d → Contains at.found d) l) all at.invariant.5
