-- A record comes to its flow's first free place: what waits then is tied to the places held then.
use mathlib.Core.Path.{◌≡◌, ap}
use mathlib.Core.Bool.{Bool, true}
use mathlib.Core.List.{List, ◌∷◌}
use Prim.Native.Nat.{ℕ, ◌+◌, ◌*◌, ◌≤◌, ◌<◌}
use native.Mathlib.Omega.{arith}
use lib.ListN.{length, set}
use Rattle.places.specs.Places.{bit, count, places_of, flow_of, first_free}
use Rattle.places.proofs.Stores.{at_more, free_low, free_flow, free_unheld}
use Rattle.places.proofs.Tests.{and_holds}
use Rattle.places.proofs.Waiting.{holds_at, Tied}

-- p is what the place holds then, and a the record that is noted of it
module _
    {P A X : Type 0}
    (held : P → Bool)
    (view : ℕ → P → X)
    (seen : A → X)
    (free : P)
    (xs : List P)
    (ys : List A)
    (waits : A → Bool)
    (tied : Tied held view seen xs ys waits)
    (n flow : ℕ)
    (fits : flow * n + n ≤ length xs)
    (room : count held (places_of n flow xs) < n)
    (p : P)
    (a : A)
    (is_held_lem : held p ≡ true)
    (a-waits : waits a ≡ true)
    (alike : (place : ℕ) → flow_of n place ≡ flow → view place p ≡ seen a) where
  pub tied_come : Tied held view seen (set xs (flow * n + first_free held (places_of n flow xs)) p) (a ∷ ys) waits
  unfolding count
  tied_come ask =
      let place = flow * n + first_free held (places_of n flow xs) in
      let more = at_more xs place p free (free_low held free xs n flow fits room) (holds_at held view ask) (rw (free_unheld held free xs n flow fits room)) in
      let new : bit (holds_at held view ask place p) ≡ bit (ask (seen a)) = rw (is_held_lem, alike place (free_flow held free xs n flow fits room)) in
      omega (arith, more, new, tied ask, ap bit (and_holds (ask (seen a)) (waits a) a-waits))
