use Rattle.std.proofs.Common.{rules, arith, ◌≡◌, ◌+◌, ◌<◌, length, get_or, sym, ap, ◌∙◌, pos, FitsSigned, w64, to_z, of_z}
use Rattle.std.proofs.lemmas.Int.{to_z-of_z}
use Rattle.std.proofs.lemmas.List.{get_or-map, length-map}
use Rattle.fzn_values.specs.Term.{number_in, numbers_in}
use Rattle.fzn_meaning.specs.Solutions.{declared_sets}
use Rattle.fzn_weights.specs.Tables.{may_be}
use Rattle.fzn_weights.proofs.TableLemmas.{declared-on, declared-off}
use Rattle.fzn_weights.proofs.tables.is_declared_row.Goals as goal

pub returns-then-not-may_be : goal.returns-then-not-may_be
returns-then-not-may_be c =
    let declared = declared_sets c.args.vars.now in
    let places = c.args.places.now in
    let rows = c.args.rows.now in
    let start = c.args.start in
    let i = c.loop-i.i in
    let whole = c.requires.inside in
    let inside : i < length places = omega arith in
    let there : start + i < length rows = omega arith in
    let there_too : start + i < length (numbers_in rows) = rw (length-map rows number_in) there in
    let fits : FitsSigned w64 c.number.result = search rules in
    let entry_is : to_z w64 (of_z w64 c.number.result) ≡ get_or (numbers_in rows) (start + i) (pos 0) = to_z-of_z w64 c.number.result fits ∙ c.number.ensures ∙ sym (get_or-map number_in rows (start + i) _ (pos 0) there) in
    sym (c.loop-i.invariant ∙ declared-off declared places i start (numbers_in rows) _ inside there_too (ap (may_be declared _) (sym entry_is) ∙ sym c.may_be.ensures ∙ c.if-not-may_be.true))

pub loop-i-preserved : goal.loop-i-preserved
loop-i-preserved c =
    let declared = declared_sets c.args.vars.now in
    let places = c.args.places.now in
    let rows = c.args.rows.now in
    let start = c.args.start in
    let i = c.loop-i.i in
    let whole = c.requires.inside in
    let inside : i < length places = omega arith in
    let there : start + i < length rows = omega arith in
    let there_too : start + i < length (numbers_in rows) = rw (length-map rows number_in) there in
    let fits : FitsSigned w64 c.number.result = search rules in
    let entry_is : to_z w64 (of_z w64 c.number.result) ≡ get_or (numbers_in rows) (start + i) (pos 0) = to_z-of_z w64 c.number.result fits ∙ c.number.ensures ∙ sym (get_or-map number_in rows (start + i) _ (pos 0) there) in
    c.loop-i.invariant ∙ declared-on declared places i start (numbers_in rows) _ inside there_too (ap (may_be declared _) (sym entry_is) ∙ sym c.may_be.ensures ∙ c.if-not-may_be.false)
