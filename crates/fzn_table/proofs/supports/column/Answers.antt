use Rattle.std.proofs.Common.{◌≡◌, ℕ, ◌+◌, ◌*◌, ◌++◌, [], ◌∷◌, ◌∙◌, ap, sym, length, arith, pos, ℤ, w64, rules, FitsSigned}
use Rattle.std.proofs.lemmas.Int.{to_z-of_z}
use Rattle.std.proofs.lemmas.List.{get_or-map, length-map, length_push}
use Rattle.fzn_values.specs.Term.{number_in, numbers_in}
use Rattle.fzn_values.specs.declared.term.Term.TheVariants.{Constant}
use Rattle.fzn_table.proofs.ChainLemmas.{column_more, place_below, whole_below}
use Rattle.fzn_table.proofs.supports.column.Goals as goal

pub loop-r-preserved : goal.loop-r-preserved
loop-r-preserved c =
    let invariant = c.loop-r.invariant in
    let rows = c.args.rows.now in
    let at : ℕ = c.loop-r.r * length c.args.places.now + c.args.p in
    let fits : FitsSigned w64 c.number.result = search rules in
    let pushed : c.push.new.self.items ≡ c.loop-r.column.items ++ c.number.result ∷ [] = c.in_ok-push.ensures.items ∙ ap (λ (v : ℤ). c.loop-r.column.items ++ v ∷ []) (to_z-of_z w64 c.number.result fits) in
    record {
      len = ap length pushed ∙ length_push c.loop-r.column.items c.number.result ∙ ap (λ (n : ℕ). n + 1) invariant.len;
      each = column_more c.loop-r.column.items c.push.new.self.items (numbers_in rows) (length c.args.places.now) c.args.p c.loop-r.r c.number.result pushed invariant.len (c.number.ensures ∙ sym (get_or-map number_in rows at (Constant (pos 0)) (pos 0) (place_below c.loop-r.r (length rows) (length c.args.places.now) c.args.p c.requires c.loop-r-test.true))) invariant.each;
    }

pub returns : goal.returns
returns c = λ r whole.
    let done = c.loop-r-test.false in
    let as_many = length-map c.args.rows.now number_in in
    let in_places = c.requires in
    let below = whole_below r (length c.args.rows.now) (length c.args.places.now) (omega (arith, in_places)) (omega (arith, whole, as_many)) in
    c.loop-r.invariant.each r (omega (arith, below, done))
