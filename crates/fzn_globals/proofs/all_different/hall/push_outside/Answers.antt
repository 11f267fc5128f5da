use Rattle.std.proofs.Common.{List, get_or, pos, sym, subst, ◌∙◌}
use Rattle.std.specs.List.{All}
use Rattle.std.proofs.lemmas.List.Elements.{All-push}
use Rattle.fzn_domain.specs.declared.literal.Lit.{Lit}
use Rattle.fzn_values.specs.declared.term.Term.{Term}
use Rattle.fzn_values.specs.declared.term.Term.TheVariants.{Constant}
use Rattle.fzn_globals.specs.Apart.{IsForcedWithin}
use Rattle.fzn_globals.specs.DifferentPasses.{IsJustifiedByHall}
use Rattle.fzn_globals.proofs.HallLemmas.{end_explained}
use Rattle.fzn_globals.proofs.KindLemmas.{hall_justified}
use Rattle.fzn_globals.proofs.all_different.hall.push_outside.Goals as goal

pub returns : goal.returns
returns c =
    let pass = c.args.pass.now in
    let trail = pass.trail.now in
    let places = pass.places.now in
    let span = c.args.span.now in
    let d : Term = Constant (pos 0) in
    let clause = c.force_within.new.clause in
    let forced = subst (λ (xs : List Lit). IsForcedWithin trail span.low span.high (get_or places c.args.place d) xs clause) (c.in_ok-clause.ensures ∙ c.as_slice.ensures) (c.in_ok-force_within.ensures c.if-not-branch.false) in
    subst (All (IsJustifiedByHall pass span.low span.high)) (sym c.in_ok-push.ensures.items)
    (All-push (IsJustifiedByHall pass span.low span.high) c.args.clauses.now.items clause c.requires.before
    (hall_justified trail places span.low span.high clause
    (end_explained trail places span.low span.high span.ordered c.args.within.now clause c.args.place d c.requires.place c.requires.within forced c.requires.many)))
