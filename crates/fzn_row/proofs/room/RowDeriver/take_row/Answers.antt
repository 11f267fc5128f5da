use Rattle.std.proofs.Common.{rules, arith, ◌≡◌, ℕ, ◌+◌, ◌≤◌, ◌++◌, true, map, nat_le, length, List, refl, ℤ, Result, Ok, FitsSigned, w64}
use Rattle.std.proofs.lemmas.Int.{to_z-of_z}
use Rattle.std.proofs.lemmas.Bool.Decides.{nat_tests}
use Rattle.fzn_list.specs.Limits.{longest}
use Rattle.fzn_meaning.specs.declared.row.Part.{Part}
use Rattle.fzn_meaning.specs.declared.row.Part.TheVariants.{Variable, Table}
use Rattle.fzn_meaning.specs.declared.row.Row.{Row}
use Rattle.fzn_cited.specs.declared.fault.DeriveFault.{DeriveFault}
use Rattle.fzn_row.proofs.room.RowDeriver.take_row.Goals as goal

le_test : (m n : ℕ) → m ≤ n → nat_le m n ≡ true
le_test m n h = grind (arith, nat_tests)

same_row : (parts held : List Part) (bound cast : ℤ) → held ≡ parts → cast ≡ bound → ◌≡◌ {A = Result Row DeriveFault} (Ok (record { parts = parts; bound = bound })) (Ok (record { parts = held; bound = cast }))
same_row parts held bound cast p q = rw (p, q) refl

pub returns-clause-ok : goal.returns-clause-ok
returns-clause-ok c =
    let room = c.args.self.now in
    let fits : FitsSigned w64 room.bound = search rules in
    let parts = rw (c.replace-parts.ensures.value, c.replace-tables.ensures.value) at c.in_ok-both_parts.ensures in
    let few : nat_le (length room.parts.items + length room.tables.items) longest ≡ true = le_test (length room.parts.items + length room.tables.items) longest (let held = c.if-len-gt-LONGEST.false in omega arith) in
    rw few (same_row (map Variable room.parts.items ++ map (λ begun. Table begun.part) room.tables.items) _ room.bound _ parts (to_z-of_z w64 room.bound fits))
