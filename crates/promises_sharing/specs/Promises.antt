-- The promises of the class program, over every input.
use Rattle.class_desk.specs.Laws.{SetsUpAsTold, Described, AsksAnswered}
use Rattle.class_lines.specs.Reading.{ReadsOneText}
use Rattle.class_session.specs.Laws.{FedInPieces, TakesOn}
use Rattle.promises_sharing.specs.Texts.{CommandsSpelled, RepliesSpelled}
use Rattle.promises_sharing.specs.Sessions.{CommandsAnswered, OthersAnswered}
use Rattle.promises_sharing.specs.Told.{SharesAsTold}

-- All that is promised.
pub record SharingPromises : Type 0 where
  -- T6: what is told of a tree is what is set up: its classes in their order, and of each flow the class named last
  pub T6-described : Described
  -- T6: `S` sets up what was described where it keeps the rules; else it is refused with 27, and what was described is forgotten
  pub T6-sets-up : SetsUpAsTold
  -- T6: once a tree is set up, calls are answered as by its lane
  pub T6-asks : AsksAnswered
  -- T6: so a tree that keeps the rules is shared as T1 to T5 say
  pub T6-shares : SharesAsTold
  -- T7: a line is read as a command exactly where it is the command's one text and its numbers are at most 4,294,967,295; any other line is
  -- answered `no 11` and changes nothing
  pub T7-reads : ReadsOneText
  pub T7-others : OthersAnswered
  pub T7-answers : CommandsAnswered
  -- T7: each command's text and each reply's line is spelled as the rules spell it
  pub T7-commands : CommandsSpelled
  pub T7-replies : RepliesSpelled
  -- T7: a whole session is one definition, fed in any pieces, and with room for a line no piece is left waiting
  pub T7-whole : FedInPieces
  pub T7-takes : TakesOn
