use Rattle.std.proofs.Common.{◌≡◌, ◌⊎◌, ℕ, sym, subst, inl, inr, rules, ℤ, None, FitsSigned, Result, Ok, Err, IfOk, IfErr, OnOk}
use Rattle.std.proofs.lemmas.Int.{to_z-of_z}
use mir.Syntax.{w128}
use mir.Val.{to_z, of_z}
use Rattle.fzn_meaning.specs.declared.relation.Comparison.TheVariants.{AtMost}
use Rattle.fzn_meaning.specs.declared.constraint.Constraint.{Constraint}
use Rattle.fzn_meaning.specs.declared.constraint.Constraint.TheVariants.{Linear}
use Rattle.fzn_cited.specs.declared.fault.DeriveFault.{DeriveFault}
use Rattle.fzn_cited.specs.declared.fault.DeriveFault.TheVariants.{Memory, NotDerived}
use Rattle.fzn_derive.specs.Summed.{IsStatable, IsSummed, IsSumFault, IsUnstatable}
use Rattle.fzn_derive.specs.Room.{variables_in, held, AreSummedUp}
use Rattle.fzn_derive.proofs.StatingLemmas.{summed-from, too_large-from}
use Rattle.fzn_derive.proofs.adder.Adder.add_up.Goals as goal

both_ok : (r : Result Constraint DeriveFault) (P : Constraint → Type 0) (Q : Type 0) (R : Constraint → Type 0) → IfOk r P → OnOk r Q → ((x : Constraint) → P x → Q → R x) → IfOk r R
both_ok (Ok x) P Q R p q more = more x p q
both_ok (Err e) P Q R p q more = tt

err_weaker : (r : Result Constraint DeriveFault) (P Q : DeriveFault → Type 0) → IfErr r P → ((e : DeriveFault) → P e → Q e) → IfErr r Q
err_weaker (Ok x) P Q p more = tt
err_weaker (Err e) P Q p more = more e p

pub returns-clause-derived : goal.returns-clause-derived
returns-clause-derived c =
    let given = c.args.given.now in
    let multiples = c.args.multiples.now in
    let room = c.add_all.new.self in
    let fits : FitsSigned w128 c.in_ok-bound.bound = search rules in
    let bound : ℤ = to_z w128 (of_z w128 c.in_ok-bound.bound) in
    let added = subst (AreSummedUp given room multiples) (sym (to_z-of_z w128 c.in_ok-bound.bound fits)) c.in_ok-bound.ensures.added in
    both_ok c.state.result (λ (x : Constraint). x ≡ Linear (held room) AtMost bound None) (IsStatable (held room) bound) (λ (x : Constraint). IsSummed given (variables_in c.args.self.now) multiples x) c.state.ensures.stated c.state.ensures.statable (λ x is statable.
    subst (λ (n : ℕ). IsSummed given n multiples x) c.in_ok-bound.ensures.variables (summed-from given room multiples bound x added statable is))

pub returns-clause-fault : goal.returns-clause-fault
returns-clause-fault c =
    let given = c.args.given.now in
    let multiples = c.args.multiples.now in
    let room = c.add_all.new.self in
    let fits : FitsSigned w128 c.in_ok-bound.bound = search rules in
    let bound : ℤ = to_z w128 (of_z w128 c.in_ok-bound.bound) in
    let added = subst (AreSummedUp given room multiples) (sym (to_z-of_z w128 c.in_ok-bound.bound fits)) c.in_ok-bound.ensures.added in
    err_weaker c.state.result (λ (f : DeriveFault). (f ≡ Memory) ⊎ ((f ≡ NotDerived) × (IsStatable (held room) bound → ⊥))) (λ (f : DeriveFault). (f ≡ Memory) ⊎ IsSumFault given (variables_in c.args.self.now) multiples f) c.state.ensures.fault (λ fault wrong. elim wrong [
      | inl is ↦ inl is
      | inr large ↦ inr (inr (subst (λ (n : ℕ). IsUnstatable given n multiples fault) c.in_ok-bound.ensures.variables (too_large-from given room multiples bound fault added large.1 large.0)))
    ])
