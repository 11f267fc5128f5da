use Rattle.std.proofs.Common.{sym}
use Rattle.std.proofs.lemmas.List.{take-map}
use Rattle.fzn_values.specs.Term.{term_value}
use Rattle.fzn_values.proofs.entries.Entries.before.Goals as goal

-- the front of the values is the values of the front
pub returns : goal.returns
returns c = rw (← c.self.view_is) (sym (take-map (term_value c.self.inside.values.now) c.args.place c.self.inside.terms.now))
