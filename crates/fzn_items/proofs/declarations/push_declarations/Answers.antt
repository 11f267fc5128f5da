use Rattle.std.proofs.Common.{◌≡◌, ◌++◌, ℕ, List, ◌∷◌, ap₂, subst, sym, ◌∙◌, append_assoc}
use Rattle.std.specs.List.{All}
use Rattle.std.proofs.lemmas.List.Elements.{All-tail}
use Rattle.fzn_lexer.specs.declared.token.Span.{Span}
use Rattle.fzn_names.specs.Known.{known}
use Rattle.fzn_names.specs.Limits.{IsVarWithin}
use Rattle.fzn_names.specs.Values.{NameList}
use Rattle.fzn_names.proofs.StepLemmas.{rest_of, uncons}
use Rattle.fzn_tree.specs.declared.tree.Var.{Var}
use Rattle.fzn_items.specs.Declarations.{declaration_line, declaration_lines}
use Rattle.fzn_sources.proofs.SourceLemmas.{uncons-at}
use Rattle.fzn_items.proofs.declarations.push_declarations.Goals as goal

lines-more : (names : NameList) (old new : List ℕ) (var : Var) (vars : List Var) (item : Span) (items : List Span) → new ≡ old ++ declaration_line names item var → new ++ declaration_lines names vars items ≡ old ++ declaration_lines names (var ∷ vars) (item ∷ items)
lines-more names old new var vars item items is = rw is (append_assoc old (declaration_line names item var) (declaration_lines names vars items))

-- the first declaration and the first item, and those behind them
lines-step : (names : NameList) (old new : List ℕ) (vars : List Var) (items : List Span) (var : Var) (item : Span) → vars ≡ var ∷ rest_of vars → items ≡ item ∷ rest_of items → new ≡ old ++ declaration_line names item var
    → new ++ declaration_lines names (rest_of vars) (rest_of items) ≡ old ++ declaration_lines names vars items
lines-step names old new vars items var item vars_are items_are is =
    lines-more names old new var (rest_of vars) item (rest_of items) is ∙ ap₂ (λ (vs : List Var) (is : List Span). old ++ declaration_lines names vs is) (sym vars_are) (sym items_are)

pub loop-vars-preserved : goal.loop-vars-preserved
loop-vars-preserved c =
    let vars = c.loop-vars.vars.now in
    let items = c.loop-vars.items.now in
    let all = uncons vars c.var-item.result c.in-len1-up.len_at_least c.var-item.is in
    record {
      built = lines-step (known c.args.names.now) c.loop-vars.text.items c.push_declaration.new.text.items vars items c.var-item.result _ all (uncons-at items _ c.in-len1-up-items.len_at_least) c.in_ok-push_declaration.ensures
          ∙ c.loop-vars.invariant.built;
      within = All-tail IsVarWithin c.var-item.result (rest_of vars) (subst (λ (ps : List Var). All IsVarWithin ps) all c.loop-vars.invariant.within);
    }
