-- The lane's laws: what an open turn answers is what the least held place holds, and that place leads. A call is refused exactly for the
-- first of its grounds that holds, and then leaves the lane as it was.
use Rattle.std.proofs.Common.{◌≡◌, ℕ, Bool, true, false, cond, leb, sym, refl, ◌∙◌, arith, Option, None, Some}
use Rattle.units.specs.Limits.{slot_limit}
use Rattle.units.specs.Refusals.{first_of, unless}
use Rattle.units.specs.declared.Refusal.{Refusal}
use Rattle.units.specs.declared.Refusal.TheVariants.{SlotsUsedUp}
use Rattle.units.proofs.Refusals.{unless_first, unless_same, none_is_none}
use Rattle.places.specs.Choice.{Choice, nothing, at, Leads}
use Rattle.places.proofs.Least.{leads}
use Rattle.urgent.specs.declared.Cell.{Cell as Place}
use Rattle.urgent.specs.declared.Urgent.{Urgent}
use Rattle.urgent.specs.declared.Done.{Done}
use Rattle.urgent.specs.declared.Answer.TheVariants.{Sent, Idle}
use Rattle.urgent.specs.Lane.{free_cell, is_held, key_of, opening_grounds, closing_grounds, offering_grounds, turn_grounds}
use Rattle.urgent.specs.Calls.{refused, opened, open_of, closed, close_of, accepted, offer_of, chosen, ended, turned, turn_of}
use Rattle.urgent.specs.Answers.{refusal_in}
use Rattle.urgent.specs.Laws.{cell_at, SentFirst, SendsFirst, RefusedFirst, RefusedSame}

-- ---- an open turn
module _ (u : Urgent) where
  -- the turn, where it is refused or not and has chosen
  abbrev by_choice : Bool → Choice Place → Done
  by_choice late x = unless (refused u) (cond late (Some SlotsUsedUp) None) (turned u x)

  sends : (flow number missed : ℕ) → (turn_of u true).answer ≡ Sent flow number missed → SentFirst u flow number
  unfolding turn_of first_of
  sends flow number missed = go (leb slot_limit u.now.0) refl (chosen u true) refl
    where
      go : (late : Bool) → leb slot_limit u.now.0 ≡ late → (x : Choice Place) → chosen u true ≡ x
          → (by_choice late x).answer ≡ Sent flow number missed → SentFirst u flow number
      go true p x q e = absurd (let z : ◌≡◌ {A = ℕ} 0 1 = cc in omega arith)
      go false p nothing q e = absurd (let z : ◌≡◌ {A = ℕ} 0 1 = cc in omega arith)
      go false p (at place c) q e =
          let l : Leads is_held key_of free_cell u.cells (at place c) = rw q at (leads is_held key_of free_cell refl u.cells) in
          record {
            place = place;
            within = l.0;
            waited = rw l.1 l.2;
            flow_told = cc;
            number_told = rw l.1 (cc);
            goes_first = rw l.1 l.3;
            freed = rw (p, q) (cc);
          }

  idles : (missed : ℕ) → (turn_of u true).answer ≡ Idle missed → ((place : ℕ) → is_held (cell_at u place) ≡ false) × (turn_of u true ≡ ended u u.cells Idle)
  unfolding turn_of first_of
  idles missed = go (leb slot_limit u.now.0) refl (chosen u true) refl
    where
      free : (place : ℕ) (t : Bool) → is_held (cell_at u place) ≡ t → chosen u true ≡ nothing → t ≡ false
      free place true h q =
          let l : Leads is_held key_of free_cell u.cells nothing = rw q at (leads is_held key_of free_cell refl u.cells) in
          absurd (l place h)
      free place false h q = refl

      go : (late : Bool) → leb slot_limit u.now.0 ≡ late → (x : Choice Place) → chosen u true ≡ x
          → (by_choice late x).answer ≡ Idle missed → ((place : ℕ) → is_held (cell_at u place) ≡ false) × (turn_of u true ≡ ended u u.cells Idle)
      go true p x q e = absurd (let z : ◌≡◌ {A = ℕ} 0 1 = cc in omega arith)
      go false p nothing q e = ((λ place. free place (is_held (cell_at u place)) refl q), rw (p, q))
      go false p (at place c) q e = absurd (let z : ◌≡◌ {A = ℕ} 0 1 = cc in omega arith)

pub sends_first : (u : Urgent) → SendsFirst u
sends_first u = record { sends = sends u; idles = idles u }

-- ---- refused calls
module _ (u : Urgent) where
  first : (o : Option Refusal) (d : Done) → refusal_in d.answer ≡ None → refusal_in (unless (refused u) o d).answer ≡ o
  first = unless_first (refused u) (λ (d : Done). refusal_in d.answer) (λ r. refl)

  same : (o : Option Refusal) (d : Done) → refusal_in d.answer ≡ None → (r : Refusal)
      → refusal_in (unless (refused u) o d).answer ≡ Some r → (unless (refused u) o d).lane ≡ u
  same o d e =
      unless_same (refused u) (λ (d : Done). refusal_in d.answer) (λ (d : Done). d.lane) u (λ r. refl) o d
      (λ r q. absurd (none_is_none r (sym e ∙ q)))

  turned_taken : (x : Choice Place) → refusal_in (turned u x).answer ≡ None
  turned_taken nothing = refl
  turned_taken (at place c) = refl

  pub refused_first : RefusedFirst u
  unfolding open_of close_of offer_of turn_of
  refused_first =
      record {
        opening = λ flow deadline. first (first_of (opening_grounds u flow deadline)) (opened u flow deadline) refl;
        closing = λ flow. first (first_of (closing_grounds u flow)) (closed u flow) refl;
        offering = λ flow deadline. first (first_of (offering_grounds u flow deadline)) (accepted u flow deadline) refl;
        turning = λ usable. first (first_of (turn_grounds u)) (turned u (chosen u usable)) (turned_taken (chosen u usable));
      }

  pub refused_same : (r : Refusal) → RefusedSame u r
  unfolding open_of close_of offer_of turn_of
  refused_same r =
      record {
        opening = λ flow deadline. same (first_of (opening_grounds u flow deadline)) (opened u flow deadline) refl r;
        closing = λ flow. same (first_of (closing_grounds u flow)) (closed u flow) refl r;
        offering = λ flow deadline. same (first_of (offering_grounds u flow deadline)) (accepted u flow deadline) refl r;
        turning = λ usable. same (first_of (turn_grounds u)) (turned u (chosen u usable)) (turned_taken (chosen u usable)) r;
      }
