-- Each argument in turn.
use Rattle.std.proofs.Common.{rules, ◌≡◌, [], ap₂, ◌∙◌, codes}
use Rattle.clap.specs.Words.{app_of, rule_of, with_rule}
use Rattle.fzn_options.specs.CommandLines.{all_rule, check_line, help_rule, command_line, named_flag, named_option, optional_path, path, version_rule}
use Rattle.fzn_options.proofs.check.command.Goals as goal

pub returns : goal.returns
unfolding check_line
returns c =
    let bare : app_of c.bare-command.result ≡ command_line (codes "fzncheck") [] = search rules in
    let is_all : rule_of c.all.result ≡ all_rule = search rules in
    let is_to2 : rule_of c.named_flag.result ≡ named_flag (codes "to2") = search rules in
    let is_trim : rule_of c.named_option.result ≡ named_option (codes "trim") = search rules in
    let is_core : rule_of c.named_flag-2.result ≡ named_flag (codes "core") = search rules in
    let is_bound : rule_of c.named_flag-3.result ≡ named_flag (codes "bound") = search rules in
    let is_items : rule_of c.named_flag-4.result ≡ named_flag (codes "items") = search rules in
    let is_model : rule_of c.path.result ≡ path (codes "model") = search rules in
    let is_cert : rule_of c.optional_path.result ≡ optional_path (codes "cert") = search rules in
    let is_help : rule_of c.help.result ≡ help_rule = search rules in
    let is_version : rule_of c.version.result ≡ version_rule = search rules in
    let with_all = c.in_ok-command.ensures ∙ ap₂ with_rule bare is_all in
    let with_to2 = c.in_ok-command-2.ensures ∙ ap₂ with_rule with_all is_to2 in
    let with_trim = c.in_ok-command-3.ensures ∙ ap₂ with_rule with_to2 is_trim in
    let with_core = c.in_ok-command-4.ensures ∙ ap₂ with_rule with_trim is_core in
    let with_bound = c.in_ok-command-5.ensures ∙ ap₂ with_rule with_core is_bound in
    let with_items = c.in_ok-command-6.ensures ∙ ap₂ with_rule with_bound is_items in
    let with_model = c.in_ok-command-7.ensures ∙ ap₂ with_rule with_items is_model in
    let with_cert = c.in_ok-command-8.ensures ∙ ap₂ with_rule with_model is_cert in
    let with_help = c.in_ok-command-9.ensures ∙ ap₂ with_rule with_cert is_help in
    c.in_ok-command-10.ensures ∙ ap₂ with_rule with_help is_version
