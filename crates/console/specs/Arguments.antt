-- The words after a program's name: how many are not taken, and what is said of one. Assumes nothing: these are definitions.
use Rattle.std.specs.Prelude.{ℕ, List, ◌++◌, codes}
use Rattle.std.specs.Vec.Iter.{into_iter_len}
use Rattle.console.specs.declared.arguments.Arguments.{Arguments}

abbrev pub words_left : Arguments → ℕ
words_left arguments = into_iter_len arguments.words

-- what is said of a word that looks like an option and is none
abbrev pub unknown_text : (program word : List ℕ) → List ℕ
unknown_text program word = codes "there is no option `" ++ (word ++ (codes "`; see " ++ (program ++ codes " --help")))
