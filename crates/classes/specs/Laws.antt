-- What holds of every call of the class lane in every state.
use Rattle.std.specs.Prelude.{◌≡◌, ◌⊎◌, List, [], ◌∷◌, map, ℕ, Some}
use Rattle.units.specs.Refusals.{Ground, number_of, first_of}
use Rattle.units.specs.declared.Refusal.{Refusal}
use Rattle.units.specs.declared.Tag.{Tag}
use Rattle.classes.specs.declared.Classes.{Classes}
use Rattle.classes.specs.declared.Call.{Call}
use Rattle.classes.specs.declared.Call.TheVariants.{Open, Close, Offer, Begin, End}
use Rattle.classes.specs.declared.Answer.{Answer}
use Rattle.classes.specs.declared.Answer.TheVariants.{Refused, Opened, Closed, Taken, Begun, Ended}
use Rattle.classes.specs.Calls.{call_of, grounds_of}
use Rattle.classes.specs.Answers.{refusal_in}

-- a refusal
abbrev pub Refusing : Answer → Type 0
Refusing answer = (r : Refusal) × (answer ≡ Refused r)

-- each kind of call has its kind of answer, or is refused
abbrev pub InKind : Call → Answer → Type 0
InKind (Open flow weight) answer = Refusing answer ⊎ (answer ≡ Opened)
InKind (Close flow) answer = Refusing answer ⊎ (answer ≡ Closed)
InKind (Offer flow length) answer = Refusing answer ⊎ ((number : ℕ) × (answer ≡ Taken number))
InKind Begin answer = Refusing answer ⊎ ((flow number length : ℕ) × (start : Tag) × (answer ≡ Begun flow number length start))
InKind End answer = Refusing answer ⊎ ((flow number length : ℕ) × (answer ≡ Ended flow number length))

-- T3: every call is answered in kind.
abbrev pub AnsweredInKind : Type 0
AnsweredInKind = (u : Classes) (call : Call) → InKind call (call_of u call).answer

-- T3: a refused call leaves the lane as it was.
abbrev pub RefusedSame : Type 0
RefusedSame = (u : Classes) (call : Call) (r : Refusal) → refusal_in (call_of u call).answer ≡ Some r → (call_of u call).lane ≡ u

-- T3: each call is refused exactly for the first of its grounds that holds.
abbrev pub RefusedFirst : Type 0
RefusedFirst = (u : Classes) (call : Call) → refusal_in (call_of u call).answer ≡ first_of (grounds_of u call)

-- the numbers that a call can be refused with, in the order in which they are judged: an offer is never refused with 6, and a begin with it last
abbrev pub order_of : Call → List ℕ
order_of (Open flow weight) = 1 ∷ 3 ∷ 13 ∷ []
order_of (Close flow) = 1 ∷ 2 ∷ 12 ∷ []
order_of (Offer flow length) = 1 ∷ 2 ∷ 15 ∷ 5 ∷ []
order_of Begin = 8 ∷ 9 ∷ 6 ∷ []
order_of End = 10 ∷ []

-- T3: the grounds stand in the rules' order.
abbrev pub GroundsInOrder : Type 0
GroundsInOrder = (u : Classes) (call : Call) → map (λ (g : Ground). number_of g.0) (grounds_of u call) ≡ order_of call
