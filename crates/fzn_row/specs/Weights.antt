-- A variable that weighs nothing any more.
use Rattle.fzn_domain.specs.declared.literal.VarId.{VarId}
use Rattle.fzn_row.specs.Draft.{Draft, blank_part, with_part}

-- the variable weighs nothing any more
abbrev pub without_part : VarId → Draft → Draft
without_part var draft = record draft { parts = with_part (blank_part var) draft.parts }
