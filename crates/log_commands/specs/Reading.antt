-- What a line asks of the log program, byte by byte.
use Rattle.std.specs.Prelude.{Bool, true, false, cond, ◌&&◌, List, [], ◌∷◌, ℕ, eqb, length, drop, Option, None, Some}
use Rattle.text.specs.Reading.{Taken, read_number}
use Rattle.log_commands.specs.declared.Command.{Command}
use Rattle.log_commands.specs.declared.Command.TheVariants.{Check, Show, Write, Diff, Tail}

-- the words check, show and write, and diff and tail with the blank after them
abbrev pub check_word : List ℕ
check_word = 99 ∷ 104 ∷ 101 ∷ 99 ∷ 107 ∷ []

abbrev pub show_word : List ℕ
show_word = 115 ∷ 104 ∷ 111 ∷ 119 ∷ []

abbrev pub write_word : List ℕ
write_word = 119 ∷ 114 ∷ 105 ∷ 116 ∷ 101 ∷ []

abbrev pub diff_word : List ℕ
diff_word = 100 ∷ 105 ∷ 102 ∷ 102 ∷ 32 ∷ []

abbrev pub tail_word : List ℕ
tail_word = 116 ∷ 97 ∷ 105 ∷ 108 ∷ 32 ∷ []

-- the word stands at the line's start
unfoldable pub starts_with : List ℕ → List ℕ → Bool
starts_with line [] = true
starts_with [] (w ∷ word) = false
starts_with (b ∷ line) (w ∷ word) = eqb b w && starts_with line word

-- the line is the word
abbrev pub is_word : List ℕ → List ℕ → Bool
is_word line word = eqb (length line) (length word) && starts_with line word

-- the command of a line that ends with a number, by what stands before it
abbrev pub numbered : List ℕ → ℕ → Option Command
numbered line n = cond (starts_with line diff_word) (Some (Diff n)) (cond (starts_with line tail_word) (Some (Tail n)) None)

-- a number is the last that the line has
abbrev pub ending_in : List ℕ → Option Taken → Option Command
ending_in line None = None
ending_in line (Some (n, [])) = numbered line n
ending_in line (Some (n, b ∷ rest)) = None

-- a line: a word alone, or a word, a blank and a number
abbrev pub command_of : List ℕ → Option Command
command_of line =
    cond (is_word line check_word) (Some Check)
    (cond (is_word line show_word) (Some Show) (cond (is_word line write_word) (Some Write) (ending_in line (read_number (drop 5 line)))))
