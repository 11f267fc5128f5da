use Rattle.std.proofs.Common.{◌↔◌, IsTrue, ◌∙◌, subst, rules}
use Rattle.std.proofs.lemmas.Int.{to_z-of_z}
use Rattle.fzn_meaning.specs.Booleans.{IsGated}
use Rattle.fzn_meaning.specs.Meaning.{Meets}
use Rattle.fzn_values.specs.Term.{values_of}
use Rattle.fzn_meaning.proofs.meaning.holds_boolean.Goals as goal
use mir.Syntax.{w64}
use mir.Val.{to_z, of_z, SFits}

-- the gate at the values of its terms
pub returns-in-Gated : goal.returns-in-Gated
unfolding Meets
returns-in-Gated c =
    let fits : SFits w64 c.value-in-Gated.result = search rules in
    rw c.in-Gated.is (subst (λ x. IsTrue c.is_gated.result ↔ IsGated c.in-Gated.gate (values_of c.args.values.now c.in-Gated.inputs) x)
    (to_z-of_z w64 c.value-in-Gated.result fits ∙ c.value-in-Gated.ensures)
    (subst (λ inputs. IsTrue c.is_gated.result ↔ IsGated c.in-Gated.gate inputs (to_z w64 (of_z w64 c.value-in-Gated.result))) c.new.ensures c.is_gated.ensures))
