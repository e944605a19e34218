use lib.ListN.{take}
use Rattle.text.specs.Text.{Put}
use Rattle.text.proofs.page.put_word.Given as goal

abbrev pub invariant-loop-letter : goal.invariant-loop-letter
invariant-loop-letter l = Put (take l.letter-index l.word) l.at l.initial.out l.end l.out
