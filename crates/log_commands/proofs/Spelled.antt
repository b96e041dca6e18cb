-- The commands as the rules spell them: a line is read as a command exactly where it is the command's one text.
use mathlib.Core.Path.{◌≡◌, refl, ◌∙◌, ap}
use mathlib.Core.Bool.{Bool, true, false, cond, and-false, false≢true}
use mathlib.Core.List.{List, [], ◌∷◌, ◌++◌, append-nil}
use Rattle.std.proofs.Common.{Option, None, Some}
use Prim.Native.Nat.{ℕ, ◌≤◌}
use native.Mathlib.Omega.{arith}
use borrow.Author.Tests.{eqb-true}
use lib.Dec.{eqb}
use lib.ListN.{length, drop, drop_of_length-le}
use Rattle.text.specs.Decimal.{decimal_of}
use Rattle.text.specs.Reading.{largest, Taken, read_number}
use Rattle.text.specs.Spelled.{bytes_of}
use Rattle.text.proofs.Taken.{both, kept, read_last}
use Rattle.log_commands.specs.declared.Command.{Command}
use Rattle.log_commands.specs.declared.Command.TheVariants.{Check, Show, Write, Diff, Tail}
use Rattle.log_commands.specs.Reading.{check_word, show_word, write_word, diff_word, tail_word, starts_with, is_word, numbered, ending_in, command_of}
use Rattle.log_commands.specs.Spelled.{Spells, LogCommandsSpelled}
use Rattle.log_commands.proofs.Ways.{no_word}

-- a line that starts with a word is the word and what is left
begun : (line word : List ℕ) → starts_with line word ≡ true → line ≡ word ++ drop (length word) line
unfolding starts_with
begun line [] e = refl
begun [] (w ∷ word) e = absurd (false≢true e)
begun (b ∷ line) (w ∷ word) e =
    let t = both (eqb b w) (starts_with line word) e in
    rw (eqb-true b w t.0) (ap (λ (rest : List ℕ). w ∷ rest) (begun line word t.1))

word_is : (line word : List ℕ) → is_word line word ≡ true → line ≡ word
word_is line word e =
    let t = both (eqb (length line) (length word)) (starts_with line word) e in
    let l : length line ≡ length word = eqb-true (length line) (length word) t.0 in
    begun line word t.1 ∙ rw (drop_of_length-le line {i = length word} (omega arith)) (append-nil word)

number_is : (line word : List ℕ) (n : ℕ) → starts_with line word ≡ true → read_number (drop (length word) line) ≡ Some (n, []) → (n ≤ largest) × (line ≡ word ++ decimal_of n)
number_is line word n s e =
    let k = kept (drop (length word) line) (n, []) e in
    (k.1, begun line word s ∙ ap (λ (rest : List ℕ). word ++ rest) (k.0 ∙ append-nil (decimal_of n)))

abbrev SpellsAny : List ℕ → Option Command → Type 0
SpellsAny line None = Unit {0}
SpellsAny line (Some command) = Spells line command

numbered_only : (line : List ℕ) (n : ℕ) → read_number (drop 5 line) ≡ Some (n, []) → SpellsAny line (numbered line n)
unfolding bytes_of
numbered_only line n e = go (starts_with line diff_word) refl (starts_with line tail_word) refl
  where
    go : (a : Bool) → starts_with line diff_word ≡ a → (b : Bool) → starts_with line tail_word ≡ b → SpellsAny line (cond a (Some (Diff n)) (cond b (Some (Tail n)) None))
    go true p b q = number_is line diff_word n p e
    go false p true q = number_is line tail_word n q e
    go false p false q = tt

ending_only : (line : List ℕ) (o : Option Taken) → read_number (drop 5 line) ≡ o → SpellsAny line (ending_in line o)
ending_only line None e = tt
ending_only line (Some (n, [])) e = numbered_only line n e
ending_only line (Some (n, b ∷ rest)) e = tt

any_only : (line : List ℕ) → SpellsAny line (command_of line)
unfolding bytes_of
any_only line = go (is_word line check_word) refl (is_word line show_word) refl (is_word line write_word) refl
  where
    go : (a : Bool) → is_word line check_word ≡ a → (b : Bool) → is_word line show_word ≡ b → (c : Bool) → is_word line write_word ≡ c
        → SpellsAny line (cond a (Some Check) (cond b (Some Show) (cond c (Some Write) (ending_in line (read_number (drop 5 line))))))
    go true p b q c r = word_is line check_word p
    go false p true q c r = word_is line show_word q
    go false p false q true r = word_is line write_word r
    go false p false q false r = ending_only line (read_number (drop 5 line)) refl

only : (line : List ℕ) (command : Command) → command_of line ≡ Some command → Spells line command
only line command e = rw e at (any_only line)

-- a line that starts with none of the words alone goes by the number that it ends with
numbered_read : (line : List ℕ) (n : ℕ) → starts_with line check_word ≡ false → starts_with line show_word ≡ false → starts_with line write_word ≡ false
    → read_number (drop 5 line) ≡ Some (n, []) → command_of line ≡ numbered line n
numbered_read line n a b c e = no_word line (other check_word a) (other show_word b) (other write_word c) ∙ rw e
  where
    other : (word : List ℕ) → starts_with line word ≡ false → is_word line word ≡ false
    other word s = rw (s, and-false (eqb (length line) (length word)))

pub log_commands_spelled : LogCommandsSpelled
unfolding bytes_of starts_with
log_commands_spelled =
    record {
      check = refl;
      show = refl;
      write = refl;
      diff = λ n l. numbered_read (diff_word ++ decimal_of n) n refl refl refl (read_last n l);
      tail = λ n l. numbered_read (tail_word ++ decimal_of n) n refl refl refl (read_last n l);
      only = only;
    }
