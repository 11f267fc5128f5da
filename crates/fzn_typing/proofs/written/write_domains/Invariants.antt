use Rattle.std.proofs.Common.{◌≡◌, ◌++◌, length, map, None}
use Rattle.fzn_meaning.specs.declared.constraint.Constraint.TheVariants.{SetIn}
use Rattle.fzn_names.specs.Known.{known}
use Rattle.fzn_names.specs.Values.{term_of}
use Rattle.fzn_typing.proofs.written.write_domains.Given as goal

-- those so far, and those to come
abbrev pub invariant-loop-entries : goal.invariant-loop-entries
invariant-loop-entries l = l.constraints ++ map (λ entry. SetIn (term_of (known l.names) entry) l.set None) l.entries
    ≡ l.initial.constraints ++ map (λ entry. SetIn (term_of (known l.names) entry) l.set None) l.initial.entries

abbrev pub decreases-loop-entries : goal.decreases-loop-entries
decreases-loop-entries l = length l.entries
