use Rattle.std.proofs.Common.{arith, ◌≡◌, ◌<◌, length, ◌∙◌, subst, pos, ◌⊎◌, Ok, Err}
use Rattle.std.proofs.lemmas.Result.{err_from_is_err_and}
use Rattle.fzn_values.specs.declared.term.Term.TheVariants.{Constant}
use Rattle.fzn_values.specs.declared.term.Place.{Place}
use Rattle.fzn_builtin_rules.specs.Borrowed.{places_in}
use Rattle.fzn_cited.specs.declared.fault.DeriveFault.TheVariants.{Memory}
use Rattle.fzn_row.specs.Multiples.{place_added}
use Rattle.fzn_row.specs.Room.{draft_of}
use Rattle.fzn_row.proofs.TurnLemmas.{turn-more, turn-fault_or}
use Rattle.fzn_row.proofs.room.RowDeriver.add_places.Goals as goal

pub loop-i-preserved : goal.loop-i-preserved
loop-i-preserved c =
    let places = places_in c.args.places.now in
    let i = c.loop-i.i in
    let d : Place = record { coefficient = pos 0; term = Constant (pos 0) } in
    let inside : i < length places = omega arith in
    record {
      room = c.add_place.ensures.room;
      variables = c.add_place.ensures.variables ∙ c.loop-i.invariant.variables;
      so_far = turn-more (place_added c.args.multiplier.now) (draft_of c.args.self.now) (draft_of c.loop-i.self) places i d inside c.loop-i.invariant.so_far (draft_of c.add_place.new.self) (subst (λ (p : Place). place_added c.args.multiplier.now (draft_of c.loop-i.self) p ≡ Ok (draft_of c.add_place.new.self)) c.place.ensures c.in_ok-add_place.ensures.ok);
    }

pub returns-in_err-add_place-clause-err : goal.returns-in_err-add_place-clause-err
returns-in_err-add_place-clause-err c =
    let p = err_from_is_err_and c.from_residual.result c.from_residual.ensures.1 in
    let places = places_in c.args.places.now in
    let d : Place = record { coefficient = pos 0; term = Constant (pos 0) } in
    let inside : c.loop-i.i < length places = omega arith in
    let fault = c.in_err-add_place.field-0.0 in
    let here = subst (λ (p : Place). (fault ≡ Memory) ⊎ (place_added c.args.multiplier.now (draft_of c.loop-i.self) p ≡ Err fault)) c.place.ensures c.in_err-add_place.ensures.err in
    rw (p.1, p.2) (turn-fault_or (place_added c.args.multiplier.now) (draft_of c.args.self.now) (draft_of c.loop-i.self) places c.loop-i.i d inside c.loop-i.invariant.so_far fault here)
