use Rattle.std.proofs.Common.{◌≡◌, ◌+◌, FitsSigned, w64, rules, arith, ap, ◌∙◌, to_z-of_z}
use Rattle.fzn_clauses.specs.Keys.{bucket_of}
use Rattle.fzn_clauses.proofs.PlaceLemmas.{bucket_of_less}
use Rattle.fzn_clauses.proofs.SpareLemmas.{SparesUpTo-none, SparesUpTo-equations}
use Rattle.fzn_clauses.proofs.state.next_equation.Goals as goal

pub returns-then-from-own : goal.returns-then-from-own
returns-then-from-own c now =
    let fits : FitsSigned w64 c.args.lit.value = search rules in
    let own : c.bucket_of-own.result ≡ bucket_of c.args.lit.value = c.bucket_of-own.ensures ∙ ap bucket_of (to_z-of_z fits) in
    let less = bucket_of_less c.args.lit.value in
    SparesUpTo-equations c.args.before.now now c.args.lit c.in-NotEqual.is c.args.from (2 + c.bucket_of-own.result) c.requires c.if-from-own.true
    (λ place low high. (omega (arith, high, own, less), λ e. omega (arith, e, high, own)))

pub returns-else-from-own : goal.returns-else-from-own
returns-else-from-own c now =
    let fits : FitsSigned w64 c.args.lit.value = search rules in
    let own : c.bucket_of-own.result ≡ bucket_of c.args.lit.value = c.bucket_of-own.ensures ∙ ap bucket_of (to_z-of_z fits) in
    SparesUpTo-equations c.args.before.now now c.args.lit c.in-NotEqual.is c.args.from c.max.result c.requires (omega (arith, c.max.ensures))
    (λ place low high. (omega (arith, low, high, c.max.ensures), λ e. omega (arith, e, low, own, c.if-from-own.false)))

pub returns-in-Equal : goal.returns-in-Equal
returns-in-Equal c now = SparesUpTo-none c.args.before.now now c.args.lit c.args.from
