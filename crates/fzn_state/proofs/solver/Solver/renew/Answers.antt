-- What held clauses force on the declared sets takes the place of the trail.
use Rattle.std.proofs.Common.{◌≡◌, List, length, refl, sym, ap, ◌∙◌, subst}
use Rattle.std.proofs.lemmas.List.{length-map}
use Rattle.fzn_domain.specs.IntSet.{IntSet}
use Rattle.fzn_meaning.specs.Solutions.{declared_sets}
use Rattle.fzn_search.specs.Fixed.{Searching}
use Rattle.fzn_trail.specs.Levels.{fresh}
use Rattle.fzn_clauses.specs.Propagation.{IsPropagated}
use Rattle.fzn_clauses.specs.Watching.{held_by}
use Rattle.fzn_clauses.proofs.CallerLemmas.{declared-Propagates}
use Rattle.fzn_state.specs.Changes.{IsStateKept}
use Rattle.fzn_state.specs.Search.{stock_of}
use Rattle.fzn_state.proofs.ForgetLemmas.{swept-reduced, forgotten-reduced, reduced-through}
use Rattle.fzn_state.proofs.SettlingLemmas.{reduced-kept, kept-through, IsRooted-fresh, renewed-kept, dropped-reduced}
use Rattle.fzn_state.proofs.StackLemmas.{AllBelow-reasoned}
use Rattle.fzn_state.proofs.solver.Solver.renew.Goals as goal

pub settled-requires-clause-watching : goal.settled-requires-clause-watching
settled-requires-clause-watching c =
    let declared = declared_sets c.as_slice.result.now in
    let before = c.requires.state.1.watching in
    c.in_ok-look_at_all.ensures.anew c.args.self.now.trail (fresh declared) before (IsRooted-fresh declared)

pub has_no_more_values-requires-clause-one : goal.has_no_more_values-requires-clause-one
has_no_more_values-requires-clause-one c =
    let run = c.in_ok-trail.ensures.propagated in
    let same = declared-Propagates (held_by c.look_at_all.new.self) (fresh (declared_sets c.as_slice.result.now)) run.0 c.in_ok-trail.trail run.1 in
    c.len-2.ensures ∙ sym (ap length (same ∙ ap declared_sets c.as_slice.ensures) ∙ length-map c.args.model.now.vars (λ var. var.domain))

pub returns-then-not-has_no_more_values : goal.returns-then-not-has_no_more_values
returns-then-not-has_no_more_values c = record {
  kept = λ steps h. reduced-kept (swept-reduced h c.look_at_all.new.self c.in_ok-look_at_all.ensures.held c.in_ok-look_at_all.ensures.watching (record c.args.self.now.notes { settling = c.expect_entries.new.self }));
}

pub drop_inferences-requires : goal.drop_inferences-requires
drop_inferences-requires c =
    let h = c.requires.state.1 in
    let same : declared_sets c.as_slice.result.now ≡ c.args.self.now.trail.declared = ap declared_sets c.as_slice.ensures ∙ sym h.state.core.declared in
    let R : List IntSet → Type 0 = λ declared. IsPropagated (held_by c.look_at_all.new.self) (fresh declared) c.in_ok-trail.trail in
    let kept = renewed-kept h c.requires.first c.requires.level c.look_at_all.new.self c.in_ok-look_at_all.ensures.held c.in_ok-trail.trail (subst R same c.in_ok-trail.ensures.propagated) c.in_ok-trail.ensures.watching (c.if-not-has_no_more_values.ensures refl) (record c.args.self.now.notes { settling = c.expect_entries.new.self }) in
    let anew = record c.args.self.now { clauses = c.look_at_all.new.self; trail = c.in_ok-trail.trail; notes = record c.args.self.now.notes { settling = c.expect_entries.new.self } } in
    AllBelow-reasoned (stock_of anew) c.in_ok-trail.trail (length c.args.self.now.inferences) kept.state.state.core.reasoned refl

pub returns : goal.returns
returns c = record {
  kept = λ steps h.
      let same : declared_sets c.as_slice.result.now ≡ c.args.self.now.trail.declared = ap declared_sets c.as_slice.ensures ∙ sym h.state.core.declared in
      let R : List IntSet → Type 0 = λ declared. IsPropagated (held_by c.look_at_all.new.self) (fresh declared) c.in_ok-trail.trail in
      let anew = renewed-kept h c.requires.first c.requires.level c.look_at_all.new.self c.in_ok-look_at_all.ensures.held c.in_ok-trail.trail (subst R same c.in_ok-trail.ensures.propagated) c.in_ok-trail.ensures.watching (c.if-not-has_no_more_values.ensures refl) (record c.args.self.now.notes { settling = c.expect_entries.new.self }) in
      let K : Searching → Type 0 = λ search. IsStateKept c.args.model.now steps c.args.self.now (record c.args.self.now { clauses = c.look_at_all.new.self; trail = c.in_ok-trail.trail; notes = record c.args.self.now.notes { settling = c.expect_entries.new.self }; search = search }) in
      let kept = subst K (sym c.undo.ensures.same) anew in
      let less = dropped-reduced kept.state c.drop_inferences.ensures in
      let left = reduced-through less (forgotten-reduced less.state c.forget_units.new.clauses c.forget_units.ensures c.forget_units.new.notes) in
      kept-through kept (reduced-kept left);
}
