-- What stands on a first line.
use Rattle.std.specs.Prelude.{ℕ, List}
use Rattle.fzn_cert.specs.Spelling.{version_text}
use Rattle.fzn_head.specs.Head.{three_text}
use Rattle.fzn_cert_reader.specs.declared.header.FirstLine.{FirstLine}
use Rattle.fzn_cert_reader.specs.declared.header.FirstLine.TheVariants.{Early, Third}

-- the text of a first line
abbrev pub first_text : FirstLine → List ℕ
first_text (Early version) = version_text version
first_text Third = three_text
