use Rattle.std.proofs.Common.{sym, subst, Ok, Err}
use Rattle.std.specs.Prelude.{Result, IfOk}
use Rattle.fzn_cert.specs.declared.step.Version.TheVariants.{Two}
use Rattle.fzn_cert.specs.Spelling.{IsSpelled}
use Rattle.fzn_core.specs.Planned.{CitesNumbers}
use Rattle.fzn_core.proofs.TrialLemmas.{deletion-spelled}
use Rattle.fzn_core.proofs.plan.Plan.step.Goals as goal

ok-then : {A E : Type 0} (r : Result A E) (P Q : A → Type 0) → IfOk r P → ((x : A) → P x → Q x) → IfOk r Q
ok-then (Ok x) P Q h f = f x h
ok-then (Err e) P Q h f = tt

pub returns-in-Some-get-clause-spelled : goal.returns-in-Some-get-clause-spelled
returns-in-Some-get-clause-spelled c =
    ok-then c.deletion.result _ (λ step. CitesNumbers step → IsSpelled Two step) c.deletion.ensures
    (λ step is may. subst (IsSpelled Two) (sym is) (deletion-spelled c.as_slice.result.now (subst CitesNumbers is may)))
