-- Each way that a command line can go: a word alone, or a number that it ends with.
use mathlib.Core.Path.{◌≡◌, ◌∙◌}
use mathlib.Core.Bool.{true, false}
use mathlib.Core.List.{List}
use Rattle.std.proofs.Common.{None, Some}
use Prim.Native.Nat.{ℕ, ◌≤◌, ◌<◌}
use lib.ListN.{length, drop, drop_of_length-le}
use lib.Seq.{drop-cons}
use Rattle.text.specs.Reading.{read_number}
use Rattle.log_commands.specs.declared.Command.TheVariants.{Check, Show, Write}
use Rattle.log_commands.specs.Reading.{check_word, show_word, write_word, is_word, numbered, ending_in, command_of}

module _ (line : List ℕ) where
  pub asks_check : is_word line check_word ≡ true → command_of line ≡ Some Check
  asks_check e = rw e

  module _ (a : is_word line check_word ≡ false) where
    pub asks_show : is_word line show_word ≡ true → command_of line ≡ Some Show
    asks_show e = rw (a, e)

    module _ (b : is_word line show_word ≡ false) where
      pub asks_write : is_word line write_word ≡ true → command_of line ≡ Some Write
      asks_write e = rw (a, b, e)

      module _ (c : is_word line write_word ≡ false) where
        pub no_word : command_of line ≡ ending_in line (read_number (drop 5 line))
        no_word = rw (a, b, c)

        pub no_number : read_number (drop 5 line) ≡ None → command_of line ≡ None
        no_number e = no_word ∙ rw e

        module _ (n p : ℕ) (e : read_number (drop 5 line) ≡ Some (n, drop p line)) where
          pub number_last : length line ≤ p → command_of line ≡ numbered line n
          number_last h = no_word ∙ rw (e, drop_of_length-le line {i = p} h)

          pub number_before : p < length line → command_of line ≡ None
          number_before h = no_word ∙ rw (e, drop-cons line p 0 h)
