use Rattle.std.proofs.Common.{List, All, Contains, subst}
use Rattle.fzn_reduction.specs.declared.written.Given.{Given}
use Rattle.fzn_reduction.proofs.written.Written.keep.Goals as goal

pub returns-clause-among : goal.returns-clause-among
returns-clause-among c =
    let A : List Given → Type 0 = λ old. All (Contains old) c.thin.new.steps.items in
    subst A c.self.view_is c.thin.ensures.among
