use Rattle.std.proofs.Common.{arith, ◌<◌, length, ◌∙◌}
use Rattle.std.proofs.lemmas.Result.{err_from_is_err_and}
use Rattle.fzn_row.specs.Prices.{price_added}
use Rattle.fzn_row.specs.Room.{draft_of}
use Rattle.fzn_row.proofs.TurnLemmas.{turn-more, turn-fault_or}
use Rattle.fzn_row.proofs.room.RowDeriver.add_places_at.Goals as goal

pub loop-place-preserved : goal.loop-place-preserved
loop-place-preserved c =
    let places = c.args.places.now in
    let i = c.loop-place.place-index in
    let inside : i < length places = omega arith in
    record {
      room = c.add_place_at.ensures.room;
      variables = c.add_place_at.ensures.variables ∙ c.loop-place.invariant.variables;
      so_far = turn-more (price_added c.args.low.now c.args.prices.now) (draft_of c.args.self.now) (draft_of c.loop-place.self) places i _ inside c.loop-place.invariant.so_far (draft_of c.add_place_at.new.self) c.in_ok-add_place_at.ensures.ok;
    }

pub returns-in_err-add_place_at-clause-err : goal.returns-in_err-add_place_at-clause-err
returns-in_err-add_place_at-clause-err c =
    let p = err_from_is_err_and c.from_residual.result c.from_residual.ensures.1 in
    let places = c.args.places.now in
    let inside : c.loop-place.place-index < length places = omega arith in
    rw (p.1, p.2) (turn-fault_or (price_added c.args.low.now c.args.prices.now) (draft_of c.args.self.now) (draft_of c.loop-place.self) places c.loop-place.place-index _ inside c.loop-place.invariant.so_far c.in_err-add_place_at.field-0.0 c.in_err-add_place_at.ensures.err)
