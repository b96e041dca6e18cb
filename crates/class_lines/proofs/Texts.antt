-- A line is read as a command exactly where it is the command's one text: every command has a shape of its own.
use Rattle.std.proofs.lemmas.Option.{none-some}
use mathlib.Core.Path.{◌≡◌, refl}
use Rattle.std.proofs.Common.{Some}
use Prim.Native.Nat.{ℕ}
use Rattle.shapes.specs.declared.Shape.{Shape}
use Rattle.shapes.specs.declared.Shape.TheVariants.{Word, One, Two}
use Rattle.shapes.proofs.Calls.{chosen, Tells, reads, fits}
use Rattle.classes.specs.declared.Call.TheVariants.{Open, Close, Offer, Begin, End}
use Rattle.class_desk.specs.declared.Command.{Command}
use Rattle.class_desk.specs.declared.Command.TheVariants.{Class, Hang, SetUp, Ask}
use Rattle.class_lines.specs.Grammar.{big_k, big_g, big_s, big_f, small_c, small_f, small_b, small_e, text_of, Small}
use Rattle.class_lines.specs.Reading.{word_of, one_of, two_of, command_in, ReadsOneText, TextsFit}

-- the shape of a command's text
abbrev shaped : Command → Shape
shaped (Class parent weight) = Two big_k parent weight
shaped (Hang flow class) = Two big_g flow class
shaped SetUp = Word big_s
shaped (Ask (Open flow weight)) = Two big_f flow weight
shaped (Ask (Close flow)) = One small_c flow
shaped (Ask (Offer flow len)) = Two small_f flow len
shaped (Ask Begin) = Word small_b
shaped (Ask End) = Word small_e

-- it tells the command, and has its text and its numbers
tells : (c : Command) → Tells shaped command_in text_of Small c
tells (Class parent weight) = (refl, refl, refl)
tells (Hang flow class) = (refl, refl, refl)
tells SetUp = (refl, refl, refl)
tells (Ask (Open flow weight)) = (refl, refl, refl)
tells (Ask (Close flow)) = (refl, refl, refl)
tells (Ask (Offer flow len)) = (refl, refl, refl)
tells (Ask Begin) = (refl, refl, refl)
tells (Ask End) = (refl, refl, refl)

-- a shape that tells a command is the command's
word_told : (letter : ℕ) (c : Command) → word_of letter ≡ Some c → Word letter ≡ shaped c
word_told letter c e =
    chosen shaped Word letter big_s SetUp _ c e refl
    (λ e. chosen shaped Word letter small_b (Ask Begin) _ c e refl
    (λ e. chosen shaped Word letter small_e (Ask End) _ c e refl (λ e. absurd (none-some c e))))

one_told : (letter a : ℕ) (c : Command) → one_of letter a ≡ Some c → One letter a ≡ shaped c
one_told letter a c e =
    let at-letter : ℕ → Shape = λ l. One l a in
    chosen shaped at-letter letter small_c (Ask (Close a)) _ c e refl (λ e. absurd (none-some c e))

two_told : (letter a b : ℕ) (c : Command) → two_of letter a b ≡ Some c → Two letter a b ≡ shaped c
two_told letter a b c e =
    let at-letter : ℕ → Shape = λ l. Two l a b in
    chosen shaped at-letter letter big_k (Class a b) _ c e refl
    (λ e. chosen shaped at-letter letter big_g (Hang a b) _ c e refl
    (λ e. chosen shaped at-letter letter big_f (Ask (Open a b)) _ c e refl
    (λ e. chosen shaped at-letter letter small_f (Ask (Offer a b)) _ c e refl (λ e. absurd (none-some c e)))))

told : (s : Shape) (c : Command) → command_in s ≡ Some c → s ≡ shaped c
told (Word letter) c e = word_told letter c e
told (One letter a) c e = one_told letter a c e
told (Two letter a b) c e = two_told letter a b c e

pub reads_one_text : ReadsOneText
reads_one_text = reads shaped command_in text_of Small tells told

pub texts_fit : TextsFit
texts_fit = fits shaped command_in text_of Small tells
