-- Every call keeps tags as they were given: an offer gives them by virtual time, and virtual time never falls.
use Prim.Native.Nat.{ℕ, ◌≤◌}
use native.Mathlib.Omega.{arith}
use Rattle.fair.specs.declared.Fair.{Fair}
use Rattle.fair.specs.Calls.{open_of, close_of, offer_of, begin_of, end_of}
use Rattle.fair.proofs.Cases.{open_cases, close_cases, offer_cases, begin_cases, end_cases}
use Rattle.promises_queue.specs.Packets.{Packets}
use Rattle.promises_queue.specs.Notes.{note_opening, note_closing, note_offer, note_service}
use Rattle.promises_fair.specs.Times.{virtual_time}
use Rattle.promises_fair.proofs.Kept.{start_told_lem, finish_told}
use Rattle.promises_fair.proofs.Good.{Good}
use Rattle.promises_fair.proofs.Account.{never_falls}
use Rattle.promises_fair.proofs.Tags.{Stamped, stamped_later}

-- the tags of all accepted packets are as they were given
abbrev pub AsGiven : Packets → Type 0
AsGiven h = Stamped (virtual_time h.moments) h.accepted

module _ (u : Fair) (h : Packets) (g : Good u h) (s : AsGiven h) where
  -- an opening
  pub given_open : (flow weight : ℕ) → AsGiven (note_opening h flow weight (open_of u flow weight).answer)
  given_open flow weight = open_cases u (λ d. AsGiven (note_opening h flow weight d.answer)) (λ r. s) flow weight (λ low o good. s)

  -- a closing
  pub given_close : (flow : ℕ) → AsGiven (note_closing h flow (close_of u flow).answer)
  given_close flow = close_cases u (λ d. AsGiven (note_closing h flow d.answer)) (λ r. s) flow (λ low none idle. s)

  -- an offer
  pub given_offer : (flow length : ℕ) → AsGiven (note_offer h flow length (offer_of u flow length).answer)
  given_offer flow length =
      offer_cases u (λ d. AsGiven (note_offer h flow length d.answer)) (λ r. s) flow length
      (λ low o good room fits few. (
        omega (arith, start_told_lem g.kept flow low),
        omega (arith, start_told_lem g.kept flow low, finish_told g.kept flow low length),
        s,
      ))

  -- a begin
  pub given_begin : AsGiven (note_service h (begin_of u).answer)
  given_begin =
      begin_cases u (λ d. virtual_time h.moments ≤ virtual_time (note_service h d.answer).moments → AsGiven (note_service h d.answer)) (λ r l. s)
      (λ b place p e l. stamped_later _ _ l h.accepted s) (never_falls u h g).begins

  -- an end
  pub given_end : AsGiven (note_service h (end_of u).answer)
  given_end =
      end_cases u (λ d. virtual_time h.moments ≤ virtual_time (note_service h d.answer).moments → AsGiven (note_service h d.answer)) (λ r l. s)
      (λ b l. stamped_later _ _ l h.accepted s) (never_falls u h g).ends
