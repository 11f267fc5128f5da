-- Each argument in turn.
use Rattle.std.proofs.Common.{rules, ◌≡◌, [], ap₂, ◌∙◌, codes}
use Rattle.clap.specs.Words.{app_of, rule_of, with_rule}
use Rattle.fzn_options.specs.CommandLines.{all_rule, help_rule, letter_flag, letter_option, command_line, named_flag, named_option, path, repeated_option, solve_line, version_rule}
use Rattle.fzn_options.proofs.solve.command.Goals as goal

pub returns : goal.returns
unfolding solve_line
returns c =
    let bare : app_of c.bare-command.result ≡ command_line (codes "fznsolve") [] = search rules in
    let is_all : rule_of c.all.result ≡ all_rule = search rules in
    let is_limit : rule_of c.letter_option.result ≡ letter_option (codes "limit") 110 = search rules in
    let is_free : rule_of c.letter_flag.result ≡ letter_flag (codes "free") 102 = search rules in
    let is_derive : rule_of c.named_flag.result ≡ named_flag (codes "derive") = search rules in
    let is_seed : rule_of c.letter_option-2.result ≡ letter_option (codes "seed") 114 = search rules in
    let is_nodes : rule_of c.named_option.result ≡ named_option (codes "nodes") = search rules in
    let is_learn : rule_of c.named_option-2.result ≡ named_option (codes "learn") = search rules in
    let is_cert : rule_of c.named_option-3.result ≡ named_option (codes "cert") = search rules in
    let is_hints : rule_of c.named_option-4.result ≡ named_option (codes "hints") = search rules in
    let is_tune : rule_of c.repeated_option.result ≡ repeated_option (codes "tune") = search rules in
    let is_progress : rule_of c.named_flag-2.result ≡ named_flag (codes "progress") = search rules in
    let is_model : rule_of c.path.result ≡ path (codes "model") = search rules in
    let is_help : rule_of c.help.result ≡ help_rule = search rules in
    let is_version : rule_of c.version.result ≡ version_rule = search rules in
    let with_all = c.in_ok-command.ensures ∙ ap₂ with_rule bare is_all in
    let with_limit = c.in_ok-command-2.ensures ∙ ap₂ with_rule with_all is_limit in
    let with_free = c.in_ok-command-3.ensures ∙ ap₂ with_rule with_limit is_free in
    let with_derive = c.in_ok-command-4.ensures ∙ ap₂ with_rule with_free is_derive in
    let with_seed = c.in_ok-command-5.ensures ∙ ap₂ with_rule with_derive is_seed in
    let with_nodes = c.in_ok-command-6.ensures ∙ ap₂ with_rule with_seed is_nodes in
    let with_learn = c.in_ok-command-7.ensures ∙ ap₂ with_rule with_nodes is_learn in
    let with_cert = c.in_ok-command-8.ensures ∙ ap₂ with_rule with_learn is_cert in
    let with_hints = c.in_ok-command-9.ensures ∙ ap₂ with_rule with_cert is_hints in
    let with_tune = c.in_ok-command-10.ensures ∙ ap₂ with_rule with_hints is_tune in
    let with_progress = c.in_ok-command-11.ensures ∙ ap₂ with_rule with_tune is_progress in
    let with_model = c.in_ok-command-12.ensures ∙ ap₂ with_rule with_progress is_model in
    let with_help = c.in_ok-command-13.ensures ∙ ap₂ with_rule with_model is_help in
    c.in_ok-command-14.ensures ∙ ap₂ with_rule with_help is_version
