use Rattle.std.proofs.Common.{◌≡◌, ◌≤◌, arith}
use Rattle.fzn_clauses.specs.Keys.{Spares}
use Rattle.fzn_clauses.proofs.SpareLemmas.{SparesUpTo-bounds, SparesUpTo-first, SparesUpTo-join}
use Rattle.fzn_clauses.proofs.state.next_place.Goals.{else-from-eq0-via-then-from-eq0+else-can_raise, else-from-eq0-via-else-from-eq0, else-from-le1-via-then-from-le1+else-can_lower, else-from-le1-via-else-from-le1}
use Rattle.fzn_clauses.proofs.state.next_place.Goals as goal

pub returns-else-from-le1 : goal.returns-else-from-le1
returns-else-from-le1 c =
    let earlier = c.args.before.now in
    let now = c.args.domain.now in
    let lit = c.args.lit in
    let at_most : c.args.from ≡ 0 → Spares earlier now lit 0 = λ e. elim c.else-from-eq0.branch [
      | else-from-eq0-via-then-from-eq0+else-can_raise w ↦ w.can_raise.ensures w.if-can_raise.false earlier
      | else-from-eq0-via-else-from-eq0 w ↦ absurd (w.if-from-eq0.false e)
    ] in
    let at_least : c.args.from ≤ 1 → Spares earlier now lit 1 = λ h. elim c.else-from-le1.branch [
      | else-from-le1-via-then-from-le1+else-can_lower w ↦ w.can_lower.ensures w.if-can_lower.false earlier
      | else-from-le1-via-else-from-le1 w ↦ absurd (omega (arith, h, w.if-from-le1.false))
    ] in
    let later = c.max.ensures in
    SparesUpTo-join earlier now lit c.args.from c.next_equation-place.result c.next_inequality.result
    (SparesUpTo-join earlier now lit c.args.from c.max.result c.next_equation-place.result
    (SparesUpTo-bounds earlier now lit c.args.from c.max.result at_most at_least (omega (arith, later)) (λ place low high. omega (arith, low, high, later)))
    (c.next_equation-place.ensures now))
    (c.next_inequality.ensures earlier lit)

pub returns-then-can_lower : goal.returns-then-can_lower
returns-then-can_lower c =
    let earlier = c.args.before.now in
    let at_most : c.args.from ≡ 0 → Spares earlier c.args.domain.now c.args.lit 0 = λ e. elim c.else-from-eq0.branch [
      | else-from-eq0-via-then-from-eq0+else-can_raise w ↦ w.can_raise.ensures w.if-can_raise.false earlier
      | else-from-eq0-via-else-from-eq0 w ↦ absurd (w.if-from-eq0.false e)
    ] in
    SparesUpTo-first earlier c.args.domain.now c.args.lit c.args.from at_most c.if-from-le1.true
