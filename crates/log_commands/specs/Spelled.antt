-- The commands of the log program as the rules spell them: five texts, and no other line is a command.
use Rattle.std.specs.Prelude.{◌≡◌, List, ◌++◌, ℕ, ◌≤◌, Some}
use Rattle.text.specs.Spelled.{bytes_of, field}
use Rattle.log_commands.specs.declared.Command.{Command}
use Rattle.log_commands.specs.declared.Command.TheVariants.{Check, Show, Write, Diff, Tail}
use Rattle.log_commands.specs.Reading.{command_of}

-- the line is the command's one text
abbrev pub Spells : List ℕ → Command → Type 0
Spells line Check = line ≡ bytes_of "check"
Spells line Show = line ≡ bytes_of "show"
Spells line Write = line ≡ bytes_of "write"
Spells line (Diff n) = (n ≤ 4294967295) × (line ≡ bytes_of "diff" ++ field n)
Spells line (Tail n) = (n ≤ 4294967295) × (line ≡ bytes_of "tail" ++ field n)

pub record LogCommandsSpelled : Type 0 where
  -- each of the five texts is its command
  pub check : command_of (bytes_of "check") ≡ Some Check
  pub show : command_of (bytes_of "show") ≡ Some Show
  pub write : command_of (bytes_of "write") ≡ Some Write
  pub diff : (n : ℕ) → n ≤ 4294967295 → command_of (bytes_of "diff" ++ field n) ≡ Some (Diff n)
  pub tail : (n : ℕ) → n ≤ 4294967295 → command_of (bytes_of "tail" ++ field n) ≡ Some (Tail n)
  -- and a line that is taken for a command is that command's text
  pub only : (line : List ℕ) (command : Command) → command_of line ≡ Some command → Spells line command
