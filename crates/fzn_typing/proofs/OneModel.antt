-- A tree has one model or one fault.
use Rattle.std.proofs.Common.{◌≡◌, ◌≢◌, List, [], Result, Ok, Err, Some, refl, sym, ◌∙◌, ap, subst}
use Rattle.fzn_domain.specs.declared.literal.VarId.{VarId}
use Rattle.fzn_lexer.specs.declared.fault.Fault.{Fault}
use Rattle.fzn_lexer.specs.declared.halt.Halt.{Halt}
use Rattle.fzn_lexer.specs.declared.halt.Halt.TheVariants as errors
use Rattle.fzn_meaning.specs.declared.constraint.Constraint.{Constraint}
use Rattle.fzn_meaning.specs.declared.model.Goal.{Goal}
use Rattle.fzn_meaning.specs.declared.model.Model.{Model}
use Rattle.fzn_meaning.specs.declared.model.OutputItem.{OutputItem}
use Rattle.fzn_meaning.specs.declared.model.Var.{Var}
use Rattle.fzn_names.specs.Outputs.{IsShown}
use Rattle.fzn_names.specs.Positions.{first}
use Rattle.fzn_tree.specs.declared.tree.Tree.{Tree}
use Rattle.fzn_typing.specs.Faults.{faults_of}
use Rattle.fzn_typing.specs.Models.{IsModelOf}
use Rattle.fzn_typing.specs.Typed.{IsTyped}
use Rattle.fzn_typing.proofs.RisingLemmas.{same_rising}

model_of : List Var → List Constraint → Goal → List VarId → List OutputItem → Model
model_of vars constraints goal outputs shown = record { vars = vars; constraints = constraints; goal = goal; outputs = outputs; shown = shown }

module _ (tree : Tree) where
  same_model : (x y : Model) → IsModelOf tree x → IsModelOf tree y → x ≡ y
  unfolding model_of
  same_model x y a b =
      let vars : x.vars ≡ y.vars = a.vars ∙ sym b.vars in
      let constraints : x.constraints ≡ y.constraints = a.constraints ∙ sym b.constraints in
      let aimed : Some x.goal ≡ Some y.goal = sym a.goal ∙ b.goal in
      let goal : x.goal ≡ y.goal = cc in
      let shown : x.shown ≡ y.shown = a.shown ∙ sym b.shown in
      let outputs : x.outputs ≡ y.outputs = same_rising x.outputs y.outputs a.rising b.rising
      (λ v. (
        λ h. (b.outputs v).1 (subst (λ items. IsShown items v) shown ((a.outputs v).0 h)),
        λ h. (a.outputs v).1 (subst (λ items. IsShown items v) (sym shown) ((b.outputs v).0 h)),
      )) in
      let all : model_of x.vars x.constraints x.goal x.outputs x.shown ≡ model_of y.vars y.constraints y.goal y.outputs y.shown = cc in
      all

  -- a model has no fault
  no_fault : (f : Fault) → faults_of tree ≡ [] → first (faults_of tree) ≡ Some f → ⊥
  no_fault f none is = let e : first {A = Fault} [] ≡ Some f = subst (λ fs. first fs ≡ Some f) none is in cc

  pub one_typed : (x y : Result Model (Halt Fault)) → IsTyped tree x → IsTyped tree y → x ≢ Err errors.Memory → y ≢ Err errors.Memory → x ≡ y
  one_typed (Ok m) (Ok n) h k some other = ap (λ (model : Model). Ok model) (same_model m n h.1 k.1)
  one_typed (Err errors.Memory) y h k some other = absurd (some refl)
  one_typed x (Err errors.Memory) h k some other = absurd (other refl)
  one_typed (Ok m) (Err (errors.Fault g)) h k some other = absurd (no_fault g h.0 k)
  one_typed (Err (errors.Fault f)) (Ok n) h k some other = absurd (no_fault f k.0 h)
  one_typed (Err (errors.Fault f)) (Err (errors.Fault g)) h k some other = let e : Some f ≡ Some g = sym h ∙ k in let same : f ≡ g = cc in ap (λ (fault : Fault). Err (errors.Fault fault)) same

pub one_model_lem : (tree : Tree) (x y : Result Model (Halt Fault)) → IsTyped tree x → IsTyped tree y → x ≢ Err errors.Memory → y ≢ Err errors.Memory → x ≡ y
one_model_lem tree = one_typed tree
