-- What an opening and an offer of the urgent lane come to, told by the flow that they name.
use mathlib.Core.Path.{◌≡◌}
use mathlib.Core.Bool.{true, false, not}
use Prim.Native.Nat.{ℕ, ◌≤◌}
use borrow.Author.Tests.{le-ltb}
use Rattle.units.specs.Limits.{bad_deadline}
use Rattle.units.specs.Refusals.{first_of}
use Rattle.units.specs.declared.Refusal.TheVariants.{NotOpen, AlreadyOpen}
use Rattle.urgent.specs.declared.Urgent.{Urgent}
use Rattle.urgent.specs.Lane.{flow_at}
use Rattle.urgent.specs.Calls.{refused, opened, open_of, offer_of}

module _ (u : Urgent) (flow deadline : ℕ) (h : flow ≤ 15) where
  pub opened_twice : (flow_at u flow).opened ≡ true → refused u AlreadyOpen ≡ open_of u flow deadline
  unfolding open_of first_of
  opened_twice o = rw (le-ltb 15 flow h, o)

  pub opened_now : (flow_at u flow).opened ≡ false → bad_deadline deadline ≡ false → opened u flow deadline ≡ open_of u flow deadline
  unfolding open_of first_of
  opened_now o d = rw (le-ltb 15 flow h, o, d)

  pub offered_closed : not (flow_at u flow).opened ≡ true → refused u NotOpen ≡ offer_of u flow deadline
  unfolding offer_of first_of
  offered_closed o = rw (le-ltb 15 flow h, o)
