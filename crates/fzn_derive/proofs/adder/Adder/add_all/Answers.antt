use Rattle.std.proofs.Common.{◌<◌, length, refl, ◌∙◌, arith, rules, FitsSigned}
use Rattle.std.proofs.lemmas.Int.{to_z-of_z}
use Rattle.std.proofs.lemmas.Result.{err_from_is_err_and}
use mir.Syntax.{w128}
use Rattle.fzn_derive.specs.Room.{variables_in}
use Rattle.fzn_derive.proofs.AddingLemmas.{clear-listed, summing-none, summing-next, fault-first}
use Rattle.fzn_derive.proofs.adder.Adder.add_all.Goals as goal

pub loop-multiple-init : goal.loop-multiple-init
loop-multiple-init c =
    let room = c.args.self.now in
    record {
      listed = clear-listed (variables_in room) room c.requires.clear;
      variables = refl;
      so_far = summing-none c.args.given.now c.args.multiples.now (variables_in room) room c.requires.clear;
    }

pub returns-in_err-bound-clause-fault : goal.returns-in_err-bound-clause-fault
returns-in_err-bound-clause-fault c =
    let inside : c.loop-multiple.multiple-index < length c.args.multiples.now = omega arith in
    let p = err_from_is_err_and c.from_residual.result c.from_residual.ensures.1 in
    rw (p.1, p.2) (fault-first c.args.given.now c.args.multiples.now c.loop-multiple.multiple-index _ inside refl c.loop-multiple.self _ c.in_err-bound.field-0.0 c.loop-multiple.invariant.so_far c.in_err-bound.ensures.fault)

pub loop-multiple-preserved : goal.loop-multiple-preserved
loop-multiple-preserved c =
    let given = c.args.given.now in
    let multiples = c.args.multiples.now in
    let i = c.loop-multiple.multiple-index in
    let inside : i < length multiples = omega arith in
    let fits : FitsSigned w128 c.in_ok-bound.bound = search rules in
    record {
      listed = c.add_multiple.ensures.listed;
      variables = c.add_multiple.ensures.variables ∙ c.loop-multiple.invariant.variables;
      so_far = rw (to_z-of_z w128 c.in_ok-bound.bound fits) (summing-next given multiples i _ inside refl c.loop-multiple.self c.add_multiple.new.self _ c.in_ok-bound.bound c.loop-multiple.invariant.so_far c.in_ok-bound.ensures.added);
    }
