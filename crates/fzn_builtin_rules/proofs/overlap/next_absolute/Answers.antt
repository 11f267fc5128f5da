use Rattle.std.proofs.Common.{refl, ℤ, IfNone, sym, subst, subst₂}
use Rattle.fzn_domain.specs.IntSet.{IsNextAbove, NoneAbove}
use Rattle.fzn_builtin_rules.specs.Rows.{IsNextAbsolute}
use Rattle.fzn_builtin_rules.proofs.AbsoluteLemmas.{up_alone, down_alone, nearer, nearer_is, held, held_opposite}
use Rattle.fzn_builtin_rules.proofs.overlap.next_absolute.Goals as goal

pub returns-in-Some-Some-clause-found : goal.returns-in-Some-Some-clause-found
returns-in-Some-Some-clause-found c =
    let above = subst (λ (x : ℤ). IsNextAbove c.args.set.now x c.in-Some-Some.up) (held c.args.absolute c.requires.in_limits) c.in-Some-Some.ensures.found in
    let near = nearer c.args.set.now c.args.absolute _ (held_opposite c.args.absolute c.requires.in_limits) c.requires.absolute c.in-Some-Some.up c.in-Some-Some.down _ refl above c.in-Some-Some.ensures'.found in
    subst (λ (x : ℤ). IsNextAbsolute c.args.set.now c.args.absolute x) (sym (nearer_is c.in-Some-Some.up c.in-Some-Some.down c.min.result c.in-Some-Some.ensures.in_limits c.in-Some-Some.ensures'.in_limits c.min.ensures.value).0) near

pub returns-in-Some-Some-clause-in_limits : goal.returns-in-Some-Some-clause-in_limits
returns-in-Some-Some-clause-in_limits c = (nearer_is c.in-Some-Some.up c.in-Some-Some.down c.min.result c.in-Some-Some.ensures.in_limits c.in-Some-Some.ensures'.in_limits c.min.ensures.value).1

pub returns-in-Some-None-clause-found : goal.returns-in-Some-None-clause-found
returns-in-Some-None-clause-found c =
    let found = subst (λ (x : ℤ). IsNextAbove c.args.set.now x c.in-Some-None.up) (held c.args.absolute c.requires.in_limits) c.in-Some-None.ensures.found in
    subst (λ (x : ℤ). IsNextAbsolute c.args.set.now c.args.absolute x) (sym (held c.in-Some-None.up c.in-Some-None.ensures.in_limits)) (up_alone c.args.set.now c.args.absolute _ (held_opposite c.args.absolute c.requires.in_limits) c.requires.absolute c.in-Some-None.up found c.in-Some-None.ensures'.none)

pub returns-in-None-Some-clause-found : goal.returns-in-None-Some-clause-found
returns-in-None-Some-clause-found c =
    let none = subst₂ (λ o x. IfNone o (NoneAbove c.args.set.now x)) c.in-None-Some.is-0 (held c.args.absolute c.requires.in_limits) c.above.ensures.none in
    down_alone c.args.set.now c.args.absolute _ (held_opposite c.args.absolute c.requires.in_limits) c.requires.absolute c.in-None-Some.down _ (held_opposite c.in-None-Some.down c.in-None-Some.ensures.in_limits) c.in-None-Some.ensures.found none
