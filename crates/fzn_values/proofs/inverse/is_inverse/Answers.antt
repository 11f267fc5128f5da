use Rattle.std.proofs.Common.{length, sym, rules}
use Rattle.std.specs.List.{All}
use Rattle.fzn_values.specs.Entries.{IsIndex}
use Rattle.fzn_values.proofs.InverseLemmas.{inverse_from, leads_back_from, leads_back_other}
use Rattle.fzn_values.proofs.inverse.is_inverse.Goals as goal

-- each list leads back from the other
pub returns-then-leads_back : goal.returns-then-leads_back
returns-then-leads_back c =
    let pf : All (IsIndex (length c.args.forward.now)) c.args.forward.now = search rules in
    let pg : All (IsIndex (length c.args.backward.now)) c.args.backward.now = search rules in (
      (λ y. inverse_from c.args.forward.now c.args.backward.now pf pg (c.leads_back.ensures.0 c.if-leads_back.true) (c.leads_back-then-leads_back.ensures.0 y)),
      (λ h. c.leads_back-then-leads_back.ensures.1 (leads_back_other c.args.forward.now c.args.backward.now (sym c.requires.same_length) h)),
    )

pub returns-else-leads_back : goal.returns-else-leads_back
returns-else-leads_back c = (
  (λ y. absurd (cc (y, c.if-leads_back.false))),
  (λ h. c.leads_back.ensures.1 (leads_back_from c.args.forward.now c.args.backward.now (sym c.requires.same_length) h)),
)
