use Rattle.std.proofs.Common.{◌≡◌, ◌⊎◌, ◌/◌, ℕ, ℤ, List, length, sym, ap, ◌∙◌, subst, OnOk, IfErr, Result, Ok, Err}
use Rattle.std.proofs.lemmas.List.{length-map}
use Rattle.fzn_values.specs.Term.{number_in}
use Rattle.fzn_meaning.specs.Solutions.{declared_sets}
use Rattle.fzn_cited.specs.declared.fault.DeriveFault.{DeriveFault}
use Rattle.fzn_cited.specs.declared.fault.DeriveFault.TheVariants.{Memory}
use Rattle.fzn_weights.specs.Tables.{row_count}
use Rattle.fzn_row.specs.Draft.{Draft}
use Rattle.fzn_row.specs.Tables.{weights_spent}
use Rattle.fzn_row.specs.Room.{draft_of}
use Rattle.fzn_row.proofs.TableLemmas.{to_rows-is}
use Rattle.fzn_row.proofs.room.RowDeriver.move_to_rows.Goals as goal

pub returns-clause-ok : goal.returns-clause-ok
returns-clause-ok c =
    let places = c.args.places.now in
    let rows = c.args.rows.now in
    let many : length c.constants.result.now ≡ length rows = sym (length-map c.constants.result.now number_in) ∙ ap (λ (ns : List ℤ). length ns) c.constants.ensures in
    let count : length c.constants.result.now / c.len.result ≡ row_count places rows = ap (λ (n : ℕ). n / c.len.result) many ∙ ap (λ (n : ℕ). length rows / n) c.len.ensures in
    let taken = draft_of c.take_part.new.self in
    let same = to_rows-is (declared_sets c.args.vars.now) c.args.id places rows c.args.column c.args.var (draft_of c.args.self.now) (draft_of c.spend_weights.new.self) (draft_of c.begin_table.new.self) taken c.in_ok-part.part
    (subst (λ (n : ℕ). weights_spent n (draft_of c.args.self.now) ≡ Ok (draft_of c.spend_weights.new.self)) count c.in_ok-spend_weights.ensures.ok)
    c.in_ok-begin_table.ensures.ok c.in_ok-part.ensures.part c.in_ok-part.ensures.parts c.take_part.ensures.tables c.take_part.ensures.bound c.take_part.ensures.left in
    subst (λ (r : Result Draft DeriveFault). OnOk c.raise_table.result (r ≡ Ok (draft_of c.raise_table.new.self))) same c.raise_table.ensures.ok

pub returns-clause-err : goal.returns-clause-err
returns-clause-err c =
    let places = c.args.places.now in
    let rows = c.args.rows.now in
    let many : length c.constants.result.now ≡ length rows = sym (length-map c.constants.result.now number_in) ∙ ap (λ (ns : List ℤ). length ns) c.constants.ensures in
    let count : length c.constants.result.now / c.len.result ≡ row_count places rows = ap (λ (n : ℕ). n / c.len.result) many ∙ ap (λ (n : ℕ). length rows / n) c.len.ensures in
    let taken = draft_of c.take_part.new.self in
    let same = to_rows-is (declared_sets c.args.vars.now) c.args.id places rows c.args.column c.args.var (draft_of c.args.self.now) (draft_of c.spend_weights.new.self) (draft_of c.begin_table.new.self) taken c.in_ok-part.part
    (subst (λ (n : ℕ). weights_spent n (draft_of c.args.self.now) ≡ Ok (draft_of c.spend_weights.new.self)) count c.in_ok-spend_weights.ensures.ok)
    c.in_ok-begin_table.ensures.ok c.in_ok-part.ensures.part c.in_ok-part.ensures.parts c.take_part.ensures.tables c.take_part.ensures.bound c.take_part.ensures.left in
    subst (λ (r : Result Draft DeriveFault). IfErr c.raise_table.result (λ fault. (fault ≡ Memory) ⊎ (r ≡ Err fault))) same c.raise_table.ensures.err
