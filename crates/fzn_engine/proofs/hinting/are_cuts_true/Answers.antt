-- Each number was looked at.
use Rattle.std.proofs.Common.{◌≡◌, ℕ, true, false, [], None, get_or, refl, sym, subst, below_more, arith, rules}
use Rattle.std.specs.Prelude.{IsSome}
use Rattle.std.specs.Option.{unwrap_or}
use Rattle.fzn_domain.specs.Narrow.{is_clause_true}
use Rattle.fzn_clauses.specs.Watching.{held_by}
use Rattle.fzn_clauses.proofs.HeldLemmas.{IsHeld-within}
use Rattle.fzn_engine.proofs.hinting.are_cuts_true.Goals as goal

pub loop-number-preserved : goal.loop-number-preserved
loop-number-preserved c =
    let held = held_by c.args.clauses.now in
    let Here : ℕ → Type 0 = λ k. get_or c.args.cuts.now k false ≡ true → IsSome (get_or held k None) → is_clause_true c.args.values.now (unwrap_or (get_or held k None) []) ≡ true in
    let passed : c.is_cut_true.result ≡ true = search rules in
    below_more _ _ c.loop-number.invariant (λ id is. subst Here (sym is) (c.is_cut_true.ensures passed))

pub returns : goal.returns
returns c _ = λ id cut held. c.loop-number.invariant id.0 (omega (arith, IsHeld-within (held_by c.args.clauses.now) id held, c.loop-number-test.false)) id refl cut held
