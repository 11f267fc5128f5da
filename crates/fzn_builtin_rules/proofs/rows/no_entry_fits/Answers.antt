use Rattle.std.proofs.Common.{◌≡◌, ◌+◌, ◌+ℤ◌, pos, refl, subst, arith}
use Rattle.std.proofs.lemmas.Int.{ints}
use Rattle.std.proofs.lemmas.Bool.{false≢true}
use Rattle.fzn_sets.specs.Terms.{MayBe}
use Rattle.fzn_builtin_rules.proofs.RowLemmas.{unfit_at}
use Rattle.fzn_builtin_rules.proofs.rows.no_entry_fits.Goals as goal
use mir.Syntax.{w64}
use mir.Val.{to_z, of_z}

-- this entry fits
pub returns-then-not-share_none : goal.returns-then-not-share_none
returns-then-not-share_none c =
    let index : to_z w64 (of_z w64 (to_z w64 c.loop-k.k +ℤ pos 1)) ≡ pos (c.loop-k.k + 1) = omega (arith, ints) in
    let may = subst (MayBe c.args.sets.now.present c.args.index) index (c.if-may_be.ensures.0 refl) in (
      λ no. absurd (false≢true no),
      λ none. c.if-not-share_none.ensures.1 (unfit_at c.args.sets.now.present c.args.index c.args.entries.now c.args.value c.loop-k.k _ c.loop-k-test.true none may),
    )
