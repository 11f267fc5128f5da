use Rattle.std.proofs.Common.{ap, sym, subst, ◌∙◌, inl, inr}
use Rattle.std.proofs.lemmas.Bool.{true≢false}
use Rattle.fzn_terms.specs.declared.interval.Interval.{Interval}
use Rattle.fzn_table.specs.Passes.{HasSupport}
use Rattle.fzn_table.proofs.table.bar_place.Goals as goal

-- where each value is supported, the ends are
pub returns-then-is_close_place-clause-none : goal.returns-then-is_close_place-clause-none
returns-then-is_close_place-clause-none c =
    let supported = HasSupport c.args.pass.now c.args.p in
    let ends = c.interval_of-ends in
    λ nothing. let each = c.in_ok-bar_values.ensures.none nothing in record {
      least = subst supported (ap (λ (e : Interval). e.low) ends.ensures.ends) (each ends.result.low ends.ensures.members.0);
      greatest = subst supported (ap (λ (e : Interval). e.high) ends.ensures.ends) (each ends.result.high ends.ensures.members.1);
      each_where_narrow = λ narrow. each;
    }

pub returns-then-is_declared_narrow-clause-none : goal.returns-then-is_declared_narrow-clause-none
returns-then-is_declared_narrow-clause-none c =
    let supported = HasSupport c.args.pass.now c.args.p in
    let ends = c.interval_of-ends in
    λ nothing. let each = c.in_ok-bar_values-2.ensures.none nothing in record {
      least = subst supported (ap (λ (e : Interval). e.low) ends.ensures.ends) (each ends.result.low ends.ensures.members.0);
      greatest = subst supported (ap (λ (e : Interval). e.high) ends.ensures.ends) (each ends.result.high ends.ensures.members.1);
      each_where_narrow = λ narrow. each;
    }

-- else the place is wide
pub returns-clause-none : goal.returns-clause-none
returns-clause-none c = λ nothing.
    let supported = HasSupport c.args.pass.now c.args.p in
    let ends = c.interval_of-ends in
    let both = c.in_ok-bar_ends.ensures.none nothing in
    record {
      least = subst supported (ap (λ (e : Interval). e.low) ends.ensures.ends) both.0;
      greatest = subst supported (ap (λ (e : Interval). e.high) ends.ensures.ends) both.1;
      each_where_narrow = λ narrow. elim narrow [
        | inl declared ↦ absurd (true≢false (sym (c.is_declared_narrow.ensures.1 declared) ∙ c.if-is_declared_narrow.false))
        | inr close ↦ absurd (true≢false (sym (c.is_close_place.ensures.1 close) ∙ c.if-is_close_place.false))
      ];
    }
