-- What holds of every session of the class program: its output does not hang on how the input is cut into pieces, and no piece is left
-- waiting for ever.
use Rattle.text.specs.Feeding.{FedInPiecesBy, TakesOnBy}
use Rattle.class_replies.specs.Printing.{longest}
use Rattle.class_session.specs.Whole.{session_of}
use Rattle.class_session.specs.Steps.{fresh_session, step_of, finish_of}

-- What is written for any pieces, one after the other, and then for the end of the input, is the whole session of them all.
abbrev pub FedInPieces : Type 0
FedInPieces = FedInPiecesBy step_of finish_of fresh_session session_of

-- With room for the longest line some byte of an input is taken, and with room for all that is written and one line more, every byte.
abbrev pub TakesOn : Type 0
TakesOn = TakesOnBy step_of longest
