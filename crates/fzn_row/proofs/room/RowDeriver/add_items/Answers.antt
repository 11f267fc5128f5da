use Rattle.std.proofs.Common.{arith, ◌≡◌, ◌<◌, length, ◌∙◌, subst, ◌⊎◌, Ok, Err}
use Rattle.std.proofs.lemmas.Result.{err_from_is_err_and}
use Rattle.fzn_meaning.specs.Solutions.{declared_sets}
use Rattle.fzn_cited.specs.declared.fault.DeriveFault.TheVariants.{Memory}
use Rattle.fzn_row.specs.Derived.{item_added}
use Rattle.fzn_row.specs.Room.{draft_of}
use Rattle.fzn_row.proofs.TurnLemmas.{turn-more, turn-fault_or}
use Rattle.fzn_row.proofs.room.RowDeriver.add_items.Goals as goal

pub loop-item-preserved : goal.loop-item-preserved
loop-item-preserved c =
    let items = c.args.items.now in
    let i = c.loop-item.item-index in
    let item = c.item-item.result in
    let inside : i < length items = omega arith in
    record {
      room = c.add_item.ensures.room;
      variables = c.add_item.ensures.variables ∙ c.loop-item.invariant.variables;
      so_far = turn-more (item_added c.args.given.now (declared_sets c.args.vars.now)) (draft_of c.args.self.now) (draft_of c.loop-item.self) items i item inside c.loop-item.invariant.so_far (draft_of c.add_item.new.self)
          (subst (λ it. item_added c.args.given.now (declared_sets c.args.vars.now) (draft_of c.loop-item.self) it ≡ Ok (draft_of c.add_item.new.self)) c.item-item.is c.in_ok-add_item.ensures.ok);
    }

pub returns-in_err-add_item-clause-err : goal.returns-in_err-add_item-clause-err
returns-in_err-add_item-clause-err c =
    let p = err_from_is_err_and c.from_residual.result c.from_residual.ensures.1 in
    let items = c.args.items.now in
    let item = c.item-item.result in
    let inside : c.loop-item.item-index < length items = omega arith in
    let fault = c.in_err-add_item.field-0.0 in
    let here = subst (λ it. (fault ≡ Memory) ⊎ (item_added c.args.given.now (declared_sets c.args.vars.now) (draft_of c.loop-item.self) it ≡ Err fault)) c.item-item.is c.in_err-add_item.ensures.err in
    rw (p.1, p.2) (turn-fault_or (item_added c.args.given.now (declared_sets c.args.vars.now)) (draft_of c.args.self.now) (draft_of c.loop-item.self) items c.loop-item.item-index item inside c.loop-item.invariant.so_far fault here)
