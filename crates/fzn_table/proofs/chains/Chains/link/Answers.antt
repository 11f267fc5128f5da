use Rattle.std.proofs.Common.{◌≡◌, ℕ, ◌+◌, ◌-◌, ◌<◌, ℤ, List, length, get_or, set, pos, arith, sym, subst, ◌∙◌}
use Rattle.std.proofs.lemmas.List.{get_or_past, get_or_default, length-set}
use Rattle.fzn_table.proofs.ChainLemmas.{AreFirstsFrom, AreNextsFrom, AreApart, firsts_more, nexts_more}
use Rattle.fzn_table.proofs.chains.Chains.link.Goals as goal

pub loop-step-init : goal.loop-step-init
loop-step-init c = record {
  one_each = c.requires.firsts;
  of_rows = c.requires.nexts;
  apart = subst AreApart c.as_slice.ensures.value (c.are_rising.ensures c.if-not-are_rising.false);
  firsts = λ i row from less. let most = c.requires.none i in absurd (omega (arith, from, less, most));
  nexts = λ row other from more less. let none = get_or_past c.args.self.now.nexts.items row 0 (let same = c.requires.nexts in omega (arith, from, same)) in absurd (omega (arith, none, less));
}

pub loop-step-preserved : goal.loop-step-preserved
loop-step-preserved c =
    let column = c.args.column.now in
    let numbers = c.loop-step.self.numbers.items in
    let firsts = c.loop-step.self.firsts.items in
    let nexts = c.loop-step.self.nexts.items in
    let i = c.in-Some.i in
    let row : ℕ = length column - 1 - c.loop-step.step in
    let invariant = c.loop-step.invariant in
    let test = c.loop-step-test.true in
    let here : row + 1 ≡ length column - c.loop-step.step = omega (arith, test) in
    let next_from : row ≡ length column - (c.loop-step.step + 1) = omega (arith, test) in
    let found : (i < length numbers) × (get_or numbers i (pos 0) ≡ get_or column row (pos 0)) = subst (λ (xs : List ℤ). (i < length xs) × (get_or xs i (pos 0) ≡ get_or column row (pos 0))) c.as_slice-in-loop-step.ensures.value c.in-Some.ensures in
    let at : get_or firsts i 0 ≡ c.index.result.now = get_or_default firsts i 0 c.index.result.now (let same = invariant.one_each in let below = found.0 in omega (arith, same, below)) ∙ sym c.index.ensures in
    record {
      one_each = length-set firsts i row ∙ invariant.one_each;
      of_rows = length-set nexts row c.index.result.now ∙ invariant.of_rows;
      apart = invariant.apart;
      firsts = subst (λ (n : ℕ). AreFirstsFrom column numbers (set firsts i row) n) next_from (firsts_more column numbers firsts (length column - c.loop-step.step) row i invariant.one_each here found.0 found.1 invariant.firsts invariant.apart);
      nexts = subst (λ (x : ℕ). AreNextsFrom column (set nexts row x) (length column - (c.loop-step.step + 1))) at
          (subst (λ (n : ℕ). AreNextsFrom column (set nexts row (get_or firsts i 0)) n) next_from (nexts_more column numbers firsts (length column - c.loop-step.step) row i invariant.one_each here found.0 found.1 invariant.firsts nexts (let same = invariant.of_rows in omega (arith, test, same)) invariant.nexts));
    }

pub returns : goal.returns
returns c = λ told.
    let done = c.loop-step-test.false in
    let at : length c.args.column.now - c.loop-step.step ≡ 0 = omega (arith, done) in
    record {
      firsts = λ i row less. c.loop-step.invariant.firsts i row (omega (arith, at)) less;
      nexts = λ row other more less. c.loop-step.invariant.nexts row other (omega (arith, at)) more less;
    }
