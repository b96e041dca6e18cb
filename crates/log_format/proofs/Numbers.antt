-- Bytes and their numbers, there and back.
use mathlib.Core.Path.{◌≡◌, refl, sym, ◌∙◌, ap}
use mathlib.Core.List.{List, [], ◌∷◌, ◌++◌}
use Prim.Native.Nat.{ℕ, zero, suc, ◌+◌, ◌*◌, ◌/◌, ◌%◌, ◌≤◌, ◌<◌}
use native.Mathlib.Numerals.{add-one}
use native.Mathlib.Omega.{arith}
use lib.ListN.{length, drop}
use lib.Seq.{drop-cons}
use Rattle.log_format.specs.Format.{Bytes, four_bytes}
use Rattle.log_format.specs.Faults.{byte_at, four_at}

abbrev half : ℕ → ℕ → ℕ
half a b = a + 256 * b

abbrev number : ℕ → ℕ → ℕ → ℕ → ℕ
number a b c d = a + 256 * b + 65536 * c + 16777216 * d

module _ (a b : ℕ) (la : a < 256) (lb : b < 256) where
  pub low_byte : half a b % 256 ≡ a
  low_byte = omega arith

  pub high_byte : half a b / 256 % 256 ≡ b
  high_byte = omega arith

module _ (a b c d : ℕ) (la : a < 256) (lb : b < 256) (lc : c < 256) (ld : d < 256) where
  first_byte : number a b c d % 256 ≡ a
  first_byte = omega arith

  second_byte : number a b c d / 256 % 256 ≡ b
  second_byte = omega arith

  third_byte : number a b c d / 65536 % 256 ≡ c
  third_byte = omega arith

  fourth_byte : number a b c d / 16777216 % 256 ≡ d
  fourth_byte = omega arith

  pub four_bytes_lem : four_bytes (number a b c d) ≡ a ∷ b ∷ c ∷ d ∷ []
  four_bytes_lem = rw (first_byte, second_byte, third_byte, fourth_byte)

pub two_back : (w : ℕ) → w < 65536 → half (w % 256) (w / 256 % 256) ≡ w
two_back w l = omega arith

high_is : (w : ℕ) → w < 4294967296 → half (w / 65536 % 256) (w / 16777216 % 256) ≡ w / 65536
high_is w l = omega arith

low_is : (w : ℕ) → half (w % 256) (w / 256 % 256) ≡ w % 65536
low_is w = omega arith

pub four_back : (w : ℕ) → w < 4294967296 → number (w % 256) (w / 256 % 256) (w / 65536 % 256) (w / 16777216 % 256) ≡ w
four_back w l =
    let whole : w ≡ w % 65536 + 65536 * (w / 65536) = omega arith in
    gather (w % 256) (w / 256 % 256) (w / 65536 % 256) (w / 16777216 % 256) (w % 65536) (w / 65536) w (low_is w) (high_is w l) whole
  where
    gather : (a b c d x y w : ℕ) → half a b ≡ x → half c d ≡ y → w ≡ x + 65536 * y → number a b c d ≡ w
    gather a b c d x y w p q e = omega arith

pub byte_small : (s : List ℕ) → Bytes s → (at : ℕ) → byte_at s at < 256
byte_small [] b at = omega arith
byte_small (x ∷ s) b zero = b.0
byte_small (x ∷ s) b (suc at) = byte_small s b.1 at

-- one byte after the other
pub drop_next : (s : List ℕ) (i j : ℕ) → j ≡ i + 1 → i < length s → drop i s ≡ byte_at s i ∷ drop j s
drop_next s i j e l = rw (e, add-one, drop-cons s i 0 l)

-- four bytes are those of their number
pub drop_four : (s : List ℕ) (at : ℕ) → Bytes s → at + 4 ≤ length s → drop at s ≡ four_bytes (four_at s at) ++ drop (at + 4) s
drop_four s at b l =
    drop_next s at (at + 1) refl (omega arith)
    ∙ ap (λ (t : List ℕ). byte_at s at ∷ t) (drop_next s (at + 1) (at + 2) (omega arith) (omega arith)
    ∙ ap (λ (t : List ℕ). byte_at s (at + 1) ∷ t) (drop_next s (at + 2) (at + 3) (omega arith) (omega arith)
    ∙ ap (λ (t : List ℕ). byte_at s (at + 2) ∷ t) (drop_next s (at + 3) (at + 4) (omega arith) (omega arith))))
    ∙ sym (ap (λ (t : List ℕ). t ++ drop (at + 4) s)
    (four_bytes_lem (byte_at s at) (byte_at s (at + 1)) (byte_at s (at + 2)) (byte_at s (at + 3)) (byte_small s b at) (byte_small s b (at + 1)) (byte_small s b (at + 2)) (byte_small s b (at + 3))))
