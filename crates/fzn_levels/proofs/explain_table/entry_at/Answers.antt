use Rattle.std.proofs.Common.{arith, ◌≡◌, ◌+◌, ◌*◌, ◌<◌, ℕ, List, length, get_or, sym, ap, ◌∙◌, subst, pos, ℤ}
use Rattle.std.proofs.lemmas.List.{length-map, get_or-map}
use Rattle.fzn_domain.specs.Limits.{IsInLimits}
use Rattle.fzn_domain.proofs.DomainLemmas.{real}
use Rattle.fzn_values.specs.declared.term.Term.TheVariants.{Constant}
use Rattle.fzn_values.specs.Term.{number_in}
use Rattle.fzn_levels.proofs.TableLemmas.{place_inside}
use Rattle.fzn_levels.proofs.explain_table.entry_at.Goals as goal

pub returns-clause-in_limits : goal.returns-clause-in_limits
returns-clause-in_limits c =
    let table = c.args.table.now in
    let formed = c.requires.table.1 in
    let inside = place_inside c.args.r c.args.k (length table.weights) (length table.places) (length table.rows) c.requires.row c.requires.place formed.one_each in
    let index : c.args.r * c.len.result + c.args.k ≡ c.args.r * length c.args.table.now.places + c.args.k = ap (λ (n : ℕ). c.args.r * n + c.args.k) c.len.ensures in
    let below : c.args.r * c.len.result + c.args.k < length c.constants.result.now = omega (arith, inside, index, ap length c.constants.ensures, length-map c.constants.result.now number_in) in
    let same : c.number.result ≡ get_or c.args.table.now.rows (c.args.r * length c.args.table.now.places + c.args.k) (pos 0) =
    c.number.ensures
    ∙ sym (get_or-map number_in c.constants.result.now (c.args.r * c.len.result + c.args.k) (Constant (pos 0)) (pos 0) below)
    ∙ ap (λ (xs : List ℤ). get_or xs (c.args.r * c.len.result + c.args.k) (pos 0)) c.constants.ensures
    ∙ ap (λ (n : ℕ). get_or c.args.table.now.rows n (pos 0)) index in
    let limits : IsInLimits c.number.result = subst IsInLimits (sym same) (formed.numbers (c.args.r * length table.places + c.args.k) (pos 0) inside) in
    subst IsInLimits (sym (real c.number.result limits)) limits
