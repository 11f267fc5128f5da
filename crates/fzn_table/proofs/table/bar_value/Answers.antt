use Rattle.std.proofs.Common.{◌≡◌, ◌≢◌, Bool, true, false, List, [], refl, subst, arith, Result, Ok, Err, IsTrue, IfOk, OnOk}
use Rattle.std.proofs.lemmas.Int.{ints}
use Rattle.fzn_propagator.specs.Inference.{Inference}
use Rattle.fzn_terms.proofs.OrderLemmas.{equal_of}
use Rattle.fzn_table.specs.Passes.{HasSupport}
use Rattle.fzn_table.proofs.TableLemmas.{equal_test}
use Rattle.fzn_table.proofs.table.bar_value.Goals as goal

pub bar_claim-requires-clause-near : goal.bar_claim-requires-clause-near
bar_claim-requires-clause-near c = (omega (arith, ints, c.requires.limits.0), omega (arith, ints, c.requires.limits.1))

pub bar_claim-requires-clause-may_stand : goal.bar_claim-requires-clause-may_stand
bar_claim-requires-clause-may_stand c = (c.args.value.now, c.requires.may, equal_test c.args.value.now)

-- what was not barred is supported
not_barred : {E S T : Type 0} (result : Result Bool E) (found : List Inference) → IfOk result (λ barred. IsTrue barred → found ≢ []) → IfOk result (λ barred. barred ≡ false → S) → (S → T) → OnOk result (found ≡ [] → T)
not_barred (Ok true) found some none over = λ nothing. absurd (some refl nothing)
not_barred (Ok false) found some none over = λ nothing. over (none refl)
not_barred (Err e) found some none over = tt

pub returns-clause-none : goal.returns-clause-none
returns-clause-none c =
    not_barred c.bar_claim.result c.bar_claim.new.found c.bar_claim.ensures.some c.bar_claim.ensures.none
    (λ support. subst (HasSupport c.args.pass.now c.args.p) (equal_of support.0 c.args.value.now support.1) support.2)
