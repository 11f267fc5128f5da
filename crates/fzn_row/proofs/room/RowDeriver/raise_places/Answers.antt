use Rattle.std.proofs.Common.{rules, arith, ◌≡◌, ◌<◌, length, ◌∙◌, subst, Err, ℤ, pos, ◌+ℤ◌, ◌⊎◌, FitsSigned, w64, to_z, of_z}
use Rattle.std.proofs.lemmas.Int.{ints, to_z-of_z}
use Rattle.std.proofs.lemmas.Result.{err_from_is_err_and}
use Rattle.fzn_cited.specs.declared.fault.DeriveFault.TheVariants.{Memory}
use Rattle.fzn_row.specs.Inverses.{places_raised}
use Rattle.fzn_row.specs.Room.{draft_of}
use Rattle.fzn_row.proofs.InverseLemmas.{raise-more, raise-fault_or}
use Rattle.fzn_row.proofs.room.RowDeriver.raise_places.Goals as goal

pub loop-i-preserved : goal.loop-i-preserved
loop-i-preserved c =
    let places = c.args.places.now in
    let part = c.args.part.now in
    let count = length places in
    let value : ℤ = to_z w64 (of_z w64 c.args.value) in
    let i = c.loop-i.i in
    let inside : i < length places = omega arith in
    let few = c.requires.few in
    let at : ℤ = to_z w64 (of_z w64 (pos 1 +ℤ to_z w64 i)) in
    let at_is : at ≡ pos 1 +ℤ pos i = omega (arith, ints) in
    let current = draft_of c.loop-i.self in
    record {
      room = c.raise_place.ensures.room;
      variables = c.raise_place.ensures.variables ∙ c.loop-i.invariant.variables;
      so_far = raise-more part count value (draft_of c.args.self.now) current places i _ (pos 1) at inside at_is c.weight_at-more.result c.weight_at-more.ensures.value c.loop-i.invariant.so_far (draft_of c.raise_place.new.self) c.in_ok-raise_place.ensures.ok;
    }

pub returns-in_err-raise_place-clause-err : goal.returns-in_err-raise_place-clause-err
returns-in_err-raise_place-clause-err c =
    let p = err_from_is_err_and c.from_residual.result c.from_residual.ensures.1 in
    let places = c.args.places.now in
    let part = c.args.part.now in
    let count = length places in
    let value : ℤ = to_z w64 (of_z w64 c.args.value) in
    let i = c.loop-i.i in
    let inside : i < length places = omega arith in
    let few = c.requires.few in
    let at : ℤ = to_z w64 (of_z w64 (pos 1 +ℤ to_z w64 i)) in
    let at_is : at ≡ pos 1 +ℤ pos i = omega (arith, ints) in
    let current = draft_of c.loop-i.self in
    let fault = c.in_err-raise_place.field-0.0 in
    let value_fits : FitsSigned w64 c.args.value = search rules in
    let fails = raise-fault_or part count value (draft_of c.args.self.now) current places i _ (pos 1) at inside at_is c.weight_at-more.result c.weight_at-more.ensures.value c.loop-i.invariant.so_far fault c.in_err-raise_place.ensures.err in
    rw (p.1, p.2) (subst (λ (v : ℤ). (fault ≡ Memory) ⊎ (places_raised part count v (pos 1) (draft_of c.args.self.now) places ≡ Err fault)) (to_z-of_z w64 c.args.value value_fits) fails)
