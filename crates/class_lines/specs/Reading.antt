-- What a line is read as, by its shape, and the law by which a reader may go instead: a line is read as a command exactly where it
-- is the command's one text and its numbers are small enough.
use Rattle.std.specs.Prelude.{cond, List, ◌≡◌, ℕ, ◌≤◌, eqb, length, Option, None, Some}
use Rattle.std.specs.Option.{option_and_then}
use Rattle.shapes.specs.declared.Shape.{Shape}
use Rattle.shapes.specs.declared.Shape.TheVariants.{Word, One, Two}
use Rattle.shapes.specs.Shapes.{shape_of}
use Rattle.classes.specs.declared.Call.TheVariants.{Open, Close, Offer, Begin, End}
use Rattle.class_desk.specs.declared.Command.{Command}
use Rattle.class_desk.specs.declared.Command.TheVariants.{Class, Hang, SetUp, Ask}
use Rattle.class_lines.specs.Grammar.{big_k, big_g, big_s, big_f, small_c, small_f, small_b, small_e, text_of, Small}

-- the command of a letter alone
abbrev pub word_of : ℕ → Option Command
word_of letter =
    cond (eqb letter big_s) (Some SetUp) (cond (eqb letter small_b) (Some (Ask Begin)) (cond (eqb letter small_e) (Some (Ask End)) None))

-- the command of a letter and one number
abbrev pub one_of : ℕ → ℕ → Option Command
one_of letter a = cond (eqb letter small_c) (Some (Ask (Close a))) None

-- the command of a letter and two numbers
abbrev pub two_of : ℕ → ℕ → ℕ → Option Command
two_of letter a b =
    cond (eqb letter big_k) (Some (Class a b))
    (cond (eqb letter big_g) (Some (Hang a b))
    (cond (eqb letter big_f) (Some (Ask (Open a b))) (cond (eqb letter small_f) (Some (Ask (Offer a b))) None)))

-- the command of a line's shape
abbrev pub command_in : Shape → Option Command
command_in (Word letter) = word_of letter
command_in (One letter a) = one_of letter a
command_in (Two letter a b) = two_of letter a b

-- a line is read by its shape
abbrev pub read_command : List ℕ → Option Command
read_command line = option_and_then command_in (shape_of line)

-- A line is read as a command exactly where it is the command's one text and each number is small enough; any other line is none.
abbrev pub ReadsOneText : Type 0
ReadsOneText =
    (line : List ℕ)
    → ((c : Command) → read_command line ≡ Some c → (line ≡ text_of c) × Small c)
    × ((c : Command) → line ≡ text_of c → Small c → read_command line ≡ Some c)
    × (((c : Command) → line ≡ text_of c → Small c → ⊥) → read_command line ≡ None)

-- No command with numbers small enough has a text longer than 23 bytes, so that no limit of 32 bytes shuts one out.
abbrev pub TextsFit : Type 0
TextsFit = (c : Command) → Small c → length (text_of c) ≤ 23
