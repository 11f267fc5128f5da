use Rattle.std.proofs.Common.{rules, ◌≡◌, sym, subst, w64, to_z, of_z, FitsSigned}
use Rattle.std.specs.List.{All}
use Rattle.std.proofs.lemmas.Int.{to_z-of_z}
use Rattle.std.proofs.lemmas.List.Elements.{All-push}
use Rattle.fzn_values.specs.Entries.{IsIndex}
use Rattle.fzn_circuit.proofs.ways.add_start.Goals as goal

pub returns-in_err-push : goal.returns-in_err-push
returns-in_err-push c = subst (All (IsIndex c.args.count)) (sym c.in_err-push.ensures.err) c.requires.before

pub returns : goal.returns
returns c =
    let fits : FitsSigned w64 c.args.start = search rules in
    let same : to_z w64 (of_z w64 c.args.start) ≡ c.args.start = to_z-of_z w64 c.args.start fits in
    subst (All (IsIndex c.args.count)) (sym c.in_ok-push.ensures.ok)
    (All-push (IsIndex c.args.count) c.args.starts.now (to_z w64 (of_z w64 c.args.start)) c.requires.before (subst (IsIndex c.args.count) (sym same) c.requires.start))
