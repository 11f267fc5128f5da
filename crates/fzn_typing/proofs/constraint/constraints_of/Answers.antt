use Rattle.std.proofs.Common.{subst, sym, ◌∙◌}
use Rattle.std.specs.List.{All}
use Rattle.std.proofs.lemmas.List.Elements.{All-tail}
use Rattle.fzn_names.specs.Known.{known}
use Rattle.fzn_names.proofs.StepLemmas.{rest_of, uncons}
use Rattle.fzn_typing.specs.Faults.{constraint_faults}
use Rattle.fzn_typing.specs.Limits.{IsConWithin}
use Rattle.fzn_typing.specs.Models.{stated}
use Rattle.fzn_typing.proofs.ItemLemmas.{found_here, found_later, made_more}
use Rattle.fzn_typing.proofs.constraint.constraints_of.Goals as goal

pub returns-in-Some : goal.returns-in-Some
returns-in-Some c =
    let xs = c.loop-cons.cons.now in
    let x = c.con-item.result in
    let all = uncons xs x c.in-len1-up.len_at_least c.con-item.is in
    sym c.loop-cons.invariant.faults ∙ found_here (constraint_faults (known c.args.names.now)) xs (rest_of xs) x all c.in-Some.fault (sym c.constraint_fault.ensures ∙ c.in-Some.is)

pub loop-cons-preserved : goal.loop-cons-preserved
loop-cons-preserved c =
    let xs = c.loop-cons.cons.now in
    let x = c.con-item.result in
    let names = known c.args.names.now in
    let all = uncons xs x c.in-len1-up.len_at_least c.con-item.is in
    let within = subst (λ ps. All IsConWithin ps) all c.loop-cons.invariant.within in
    record {
      faults = found_later (constraint_faults names) xs (rest_of xs) x all (sym c.constraint_fault.ensures ∙ c.in_default-constraint_fault.is) ∙ c.loop-cons.invariant.faults;
      built = made_more (stated names) xs (rest_of xs) x all c.loop-cons.constraints c.state.new.constraints c.in_ok-state.ensures ∙ c.loop-cons.invariant.built;
      within = All-tail IsConWithin x (rest_of xs) within;
    }
