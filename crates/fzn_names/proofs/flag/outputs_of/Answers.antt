use Rattle.std.proofs.Common.{◌↔◌, ◌<◌, List, Bool, Contains, subst, sym, ◌∙◌, arith}
use Rattle.std.specs.List.{All, AllPairs}
use Rattle.fzn_domain.specs.declared.literal.VarId.{VarId}
use Rattle.fzn_domain.specs.Narrow.{IsVariable}
use Rattle.fzn_names.specs.Flags.{flagged}
use Rattle.fzn_names.specs.Outputs.{IsShown}
use Rattle.fzn_names.proofs.FlagLemmas.{outputs-shown, flagged-rising, flagged-within, flags_after, ok_is}
use Rattle.fzn_names.proofs.flag.outputs_of.Goals as goal

pub returns-clause-shown : goal.returns-clause-shown
returns-clause-shown c =
    let clear = c.as_mut_slice.result.now in
    let shown = c.args.shown.now in
    let after = flags_after c.in_ok-flags.flags.len clear c.in_ok-flags.flags.items c.flag_items.new.flags c.as_slice.result.now shown c.as_mut_slice.ensures.value c.as_mut_slice.ensures.len c.flag_items.ensures c.as_slice.ensures.value in
    ok_is c.flagged.result (flagged 1 c.as_slice.result.now) (λ vars. (var : VarId) → Contains vars var ↔ IsShown shown var) c.flagged.ensures
    (λ var. subst (λ (fs : List Bool). Contains (flagged 1 fs) var ↔ IsShown shown var) (sym after)
    (outputs-shown c.args.count clear shown (c.as_mut_slice.ensures.value ∙ c.in_ok-flags.ensures.items_if_clones_equal (λ y h. h)) (c.as_mut_slice.ensures.len ∙ c.in_ok-flags.ensures.len) c.requires.shown var))

pub returns-clause-rising : goal.returns-clause-rising
returns-clause-rising c =
    ok_is c.flagged.result (flagged 1 c.as_slice.result.now) (AllPairs (λ (a b : VarId). a.0 < b.0)) c.flagged.ensures (flagged-rising 1 c.as_slice.result.now)

pub returns-clause-within : goal.returns-clause-within
returns-clause-within c =
    let many = c.as_slice.ensures.len ∙ c.in_ok-flags.ensures.len in
    ok_is c.flagged.result (flagged 1 c.as_slice.result.now) (All (IsVariable c.args.count)) c.flagged.ensures
    (flagged-within 1 c.args.count c.as_slice.result.now (omega arith) (omega (arith, many)))
