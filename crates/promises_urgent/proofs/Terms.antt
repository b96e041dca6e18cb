-- U7: what waits keeps its terms. An opening is of a flow that was not open, a closing of a flow of which nothing waits, and a turn
-- leaves no cell waiting that did not wait before.
use mathlib.Core.Path.{◌≡◌}
use mathlib.Core.Bool.{true, false, ◌&&◌, true≢false}
use Prim.Native.Nat.{ℕ, ◌≤◌}
use native.Mathlib.Omega.{arith}
use borrow.Author.Tests.{eq-eqb, le-leb}
use lib.Dec.{eqb}
use Rattle.places.specs.Marks.{opens, closes, open_in}
use Rattle.places.proofs.Marks.{stands_opened, stands_closed, stands_fewer}
use Rattle.places.proofs.Members.{none_passes, each_map}
use Rattle.promises_urgent.specs.Cells.{Cell, its_flow, Cells, deadline_in, was_sent, waits}
use Rattle.promises_urgent.specs.Notes.{marked}
use Rattle.promises_urgent.specs.Promised.{waiting_in, OnTerms, TermsStand}
use Rattle.promises_urgent.proofs.Steps.{with_cell, waits_told}

module _ (h : Cells) (t : TermsStand h) where
  pub terms_opened : (flow deadline : ℕ) → open_in h.marks flow ≡ false → TermsStand (marked h (opens flow deadline))
  terms_opened flow deadline = stands_opened its_flow OnTerms (waits h) h.marks h.accepted t flow deadline

  pub terms_closed : (flow : ℕ) → waiting_in h flow ≤ 0 → TermsStand (marked h (closes flow))
  terms_closed flow z =
      stands_closed its_flow OnTerms (waits h) h.marks h.accepted t flow
      (each_map (λ (a : Cell). (eqb a.flow flow && waits h a) ≡ false) _ (λ a e w f. true≢false (rw (eq-eqb a.flow flow f, w) at e))
      h.accepted (none_passes _ h.accepted (omega arith)))

  pub terms_offer : (a : Cell) → open_in h.marks a.flow ≡ true → OnTerms a (deadline_in h a.flow) → TermsStand (with_cell h a)
  terms_offer a o d = (λ w. (o, d), t)

  -- a later history of the same marks and cells
  pub terms_later : (later : Cells) → h.slot ≤ later.slot → ((f n : ℕ) → was_sent later.sent f n ≡ false → was_sent h.sent f n ≡ false)
      → TermsStand (record { slot = later.slot; marks = h.marks; accepted = h.accepted; usable = later.usable; sent = later.sent; missed = later.missed })
  terms_later later time unsent =
      stands_fewer its_flow OnTerms (waits h) h.marks h.accepted t (waits later)
      (λ a w. let e = waits_told later a w in rw (unsent a.flow a.number e.0, le-leb h.slot a.last (omega (arith, e.1))))
