-- What holds of every input of lists: its output does not hang on how the input is cut into pieces, and no piece is left waiting for ever.
use Rattle.text.specs.Feeding.{FedInPiecesBy, TakesOnBy}
use Rattle.lists.specs.Reading.{ReadsOneList}
use Rattle.lists.specs.Printing.{longest, VerdictsSpelled}
use Rattle.lists.specs.Whole.{verdicts_of}
use Rattle.lists.specs.Answered.{ListsSpelled, LinesAnswered}
use Rattle.lists.specs.Steps.{fresh_reading, step_of, finish_of}

-- What is written for any pieces, one after the other, and then for the end of the input, is what the whole of them is answered.
abbrev pub FedInPieces : Type 0
FedInPieces = FedInPiecesBy step_of finish_of fresh_reading verdicts_of

-- With room for the longest line some byte of an input is taken, and with room for all that is written and one line more, every byte.
abbrev pub TakesOn : Type 0
TakesOn = TakesOnBy step_of longest

-- What is promised of the lines of lists.
pub record ListPromises : Type 0 where
  -- D1: a line is read as a list exactly where it is the list's one text and its numbers are at most 4,294,967,295
  pub D1 : ReadsOneList
  -- and a list's text is spelled as the rules spell it
  pub D1-text : ListsSpelled
  -- D2: a list's text is answered by the line of its verdict, every other line by `no 11`
  pub D2 : LinesAnswered
  -- and each verdict's line is spelled as the rules spell it
  pub D2-lines : VerdictsSpelled
  -- D3: a whole input is one definition, bytes to bytes, and fed in any pieces the program's steps write it
  pub D3 : FedInPieces
  -- D4: with room for a line, no piece is left waiting
  pub D4 : TakesOn
