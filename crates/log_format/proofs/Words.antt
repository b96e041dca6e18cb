-- A record and its number, there and back.
use mathlib.Core.Path.{◌≡◌}
use Prim.Native.Nat.{ℕ, ◌+◌, ◌*◌, ◌/◌, ◌%◌, ◌<◌}
use native.Mathlib.Omega.{arith}
use Rattle.log_format.specs.Words.{event_of, event_word, WordsBack}

event_there : (w : ℕ) → event_word (event_of w) ≡ w
event_there w =
    let a : w % 256 + 256 * (w / 256 % 256) ≡ w % 65536 = omega arith in
    let b : w ≡ w % 65536 + 65536 * (w / 65536) = omega arith in
    gather (w % 256) (w / 256 % 256) (w / 65536) (w % 65536) w a b
  where
    gather : (a b c x w : ℕ) → a + 256 * b ≡ x → w ≡ x + 65536 * c → a + 256 * b + 65536 * c ≡ w
    gather a b c x w p q = omega arith

module _ (a b c : ℕ) (la : a < 256) (lb : b < 256) where
  kind_back : (a + 256 * b + 65536 * c) % 256 ≡ a
  kind_back = omega arith

  flow_back : (a + 256 * b + 65536 * c) / 256 % 256 ≡ b
  flow_back = omega arith

  number_back : (a + 256 * b + 65536 * c) / 65536 ≡ c
  number_back = omega arith

pub words_back : WordsBack
words_back =
    record {
      opening = λ w. omega arith;
      event = event_there;
      opening_back =
          λ o l.
          (let f : (o.flow + 256 * o.number) % 256 ≡ o.flow = omega arith in
          let n : (o.flow + 256 * o.number) / 256 ≡ o.number = omega arith in
          λ i. record { flow = f i; number = n i });
      event_back =
          λ e l m.
          (λ i. record { kind = kind_back e.kind e.flow e.number l m i; flow = flow_back e.kind e.flow e.number l m i; number = number_back e.kind e.flow e.number l m i });
    }
