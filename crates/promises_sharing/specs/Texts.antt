-- How the lines of the class program are spelled: every command and every reply.
use Rattle.std.specs.Prelude.{◌≡◌, List, [], ◌∷◌, ◌++◌, ℕ}
use Rattle.text.specs.Spelled.{bytes_of, field, spelled}
use Rattle.units.specs.Refusals.{number_of}
use Rattle.units.specs.declared.Refusal.{Refusal}
use Rattle.units.specs.declared.Refusal.TheVariants.{BadTree, NoCommand}
use Rattle.units.specs.declared.Tag.{Tag}
use Rattle.classes.specs.declared.Answer.{Answer}
use Rattle.classes.specs.declared.Answer.TheVariants.{Refused as LaneRefused, Opened, Closed, Taken, Begun, Ended}
use Rattle.classes.specs.declared.Call.TheVariants.{Open, Close, Offer, Begin, End}
use Rattle.classes.specs.Answers.{told}
use Rattle.class_desk.specs.declared.Command.TheVariants.{Class, Hang, SetUp, Ask}
use Rattle.class_desk.specs.declared.Reply.TheVariants.{Noted, Refused, Answered}
use Rattle.class_lines.specs.Grammar.{text_of}
use Rattle.class_replies.specs.Printing.{line_of}

-- Each command's text: its letter, and its numbers in their order.
pub record CommandsSpelled : Type 0 where
  pub class : (parent weight : ℕ) → text_of (Class parent weight) ≡ bytes_of "K" ++ field parent ++ field weight
  pub hang : (flow class : ℕ) → text_of (Hang flow class) ≡ bytes_of "G" ++ field flow ++ field class
  pub set_up : text_of SetUp ≡ bytes_of "S"
  pub opening : (flow weight : ℕ) → text_of (Ask (Open flow weight)) ≡ bytes_of "F" ++ field flow ++ field weight
  pub closing : (flow : ℕ) → text_of (Ask (Close flow)) ≡ bytes_of "c" ++ field flow
  pub offer : (flow length : ℕ) → text_of (Ask (Offer flow length)) ≡ bytes_of "f" ++ field flow ++ field length
  pub begin : text_of (Ask Begin) ≡ bytes_of "b"
  pub end : text_of (Ask End) ≡ bytes_of "e"

-- an answer of the lane that is no refusal tells these values, and is written as this line
pub record Says (answer : Answer) (values : List ℕ) (pieces : List (List ℕ)) : Type 0 where
  pub tells : told answer ≡ record { number = 0; values = values }
  pub written : line_of (Answered answer) ≡ spelled pieces

-- Each reply's line: its word, and what it tells, in the rules' order.
pub record RepliesSpelled : Type 0 where
  -- what was described, and a tree set up
  pub noted : line_of Noted ≡ spelled (bytes_of "ok" ∷ [])
  pub opened : Says Opened [] (bytes_of "ok" ∷ [])
  pub closed : Says Closed [] (bytes_of "ok" ∷ [])
  -- a packet taken: its number and nothing else
  pub taken : (number : ℕ) → Says (Taken number) (number ∷ []) (bytes_of "ok" ∷ field number ∷ [])
  -- a packet begun: its flow, its number and its start tag; its length is told and not written
  pub begun :
      (flow number length : ℕ) (start : Tag)
      → Says (Begun flow number length start) (flow ∷ number ∷ length ∷ start.0 ∷ [])
      (bytes_of "ok" ∷ field flow ∷ field number ∷ field start.0 ∷ [])
  -- a packet ended: its flow and its number; its length is told and not written
  pub ended :
      (flow number length : ℕ)
      → Says (Ended flow number length) (flow ∷ number ∷ length ∷ []) (bytes_of "ok" ∷ field flow ∷ field number ∷ [])
  -- a refusal, of the lane or before it: its number; 27 of a tree that breaks a rule, 11 of a line that is no command
  pub lane_refused :
      (refusal : Refusal)
      → (told (LaneRefused refusal) ≡ record { number = number_of refusal; values = [] })
      × (line_of (Answered (LaneRefused refusal)) ≡ spelled (bytes_of "no" ∷ field (number_of refusal) ∷ []))
  pub refused : (refusal : Refusal) → line_of (Refused refusal) ≡ spelled (bytes_of "no" ∷ field (number_of refusal) ∷ [])
  pub bad_tree_numbered : number_of BadTree ≡ 27
  pub bad_tree : line_of (Refused BadTree) ≡ spelled (bytes_of "no" ∷ field 27 ∷ [])
  pub no_command : line_of (Refused NoCommand) ≡ spelled (bytes_of "no" ∷ field 11 ∷ [])
