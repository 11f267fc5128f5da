use Rattle.std.proofs.Common.{◌+◌, ◌∙◌, ℕ, ap, length}
use Rattle.std.proofs.lemmas.List.{length_push}
use Rattle.fzn_values.specs.Term.{numbers_in}
use Rattle.fzn_table.proofs.ChainLemmas.{chained_more}
use Rattle.fzn_table.proofs.supports.chains_of.Goals as goal

pub loop-p-preserved : goal.loop-p-preserved
loop-p-preserved c = record {
  one_each = ap length c.in_ok-push.ensures.items ∙ length_push c.loop-p.all.items c.in_ok-chains.chains ∙ ap (λ (n : ℕ). n + 1) c.loop-p.invariant.one_each;
  chained = chained_more c.args.places.now (numbers_in c.args.rows.now) c.loop-p.all.items c.push.new.self.items c.in_ok-chains.chains c.loop-p.p c.loop-p.invariant.one_each c.in_ok-push.ensures.items c.in_ok-chains.ensures c.loop-p.invariant.chained;
}
