use Rattle.std.proofs.Common.{arith, ◌<◌, length, ◌∙◌}
use Rattle.std.proofs.lemmas.Result.{err_from_is_err_and}
use Rattle.fzn_row.specs.Multiples.{multiple_added}
use Rattle.fzn_row.specs.Room.{draft_of}
use Rattle.fzn_row.proofs.TurnLemmas.{turn-more, turn-fault_or}
use Rattle.fzn_row.proofs.room.RowDeriver.add_multiples.Goals as goal

pub loop-multiple-preserved : goal.loop-multiple-preserved
loop-multiple-preserved c =
    let multiples = c.args.multiples.now in
    let i = c.loop-multiple.multiple-index in
    let inside : i < length multiples = omega arith in
    record {
      room = c.add_multiple.ensures.room;
      variables = c.add_multiple.ensures.variables ∙ c.loop-multiple.invariant.variables;
      so_far = turn-more (multiple_added c.args.given.now) (draft_of c.args.self.now) (draft_of c.loop-multiple.self) multiples i _ inside c.loop-multiple.invariant.so_far (draft_of c.add_multiple.new.self) c.in_ok-add_multiple.ensures.ok;
    }

pub returns-in_err-add_multiple-clause-err : goal.returns-in_err-add_multiple-clause-err
returns-in_err-add_multiple-clause-err c =
    let p = err_from_is_err_and c.from_residual.result c.from_residual.ensures.1 in
    let multiples = c.args.multiples.now in
    let inside : c.loop-multiple.multiple-index < length multiples = omega arith in
    rw (p.1, p.2) (turn-fault_or (multiple_added c.args.given.now) (draft_of c.args.self.now) (draft_of c.loop-multiple.self) multiples c.loop-multiple.multiple-index _ inside c.loop-multiple.invariant.so_far c.in_err-add_multiple.field-0.0 c.in_err-add_multiple.ensures.err)
