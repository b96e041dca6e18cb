-- All that the calls keep, in one record, and that each call of the urgent lane keeps it.
use mathlib.Core.Path.{◌≡◌, refl, sym, ap, ◌∙◌}
use mathlib.Core.Bool.{Bool, true, false, ◌&&◌}
use mathlib.Core.List.{List, ◌∷◌}
use Prim.Native.Nat.{ℕ, ◌+◌, ◌<◌, zero-le}
use native.Mathlib.Omega.{arith}
use lib.Dec.{leb, ltb}
use lib.ListN.{set, get_or-replicate}
use Rattle.units.specs.Limits.{slot_limit}
use Rattle.places.specs.Places.{count}
use Rattle.places.specs.Marks.{Mark, opens, closes, open_in, in_force}
use Rattle.places.specs.Choice.{Choice, nothing, at, least_held, Leads}
use Rattle.places.proofs.CountAt.{at_replicate}
use Rattle.places.proofs.Least.{leads}
use Rattle.urgent.specs.declared.Cell.{Cell as Place}
use Rattle.urgent.specs.declared.Flow.{Flow}
use Rattle.urgent.specs.declared.Urgent.{Urgent}
use Rattle.urgent.specs.Lane.{free_cell, is_held, shut_flow, fresh_lane, key_of, last_is}
use Rattle.urgent.specs.Calls.{opened, open_of, closed, close_of, offer_of, chosen, turned, turn_of}
use Rattle.urgent.proofs.Cases.{open_cases, close_cases, offer_cases, turn_cases}
use Rattle.promises_urgent.specs.Cells.{Cell, Cells, no_cells, waits, is_missed}
use Rattle.promises_urgent.specs.Notes.{marked, note_opening, note_closing, note_offer, note_turn}
use Rattle.promises_urgent.specs.Promised.{holds, TermsStand}
use Rattle.promises_urgent.proofs.Kept.{Kept, place_facts, cell_facts, cells_tied, Few, waiting_told, kept_open, kept_close, kept_offer, few_offer, offered_cell, offer_waits, offer_window, offer_within}
use Rattle.promises_urgent.proofs.Turned.{without, gone_from, sent_cells, end_lane, end_cells, kept_sent, kept_end, few_turn, waits_less, sent_waits}
use Rattle.promises_urgent.proofs.Missed.{waiting_not_missed, missed_end, missed_sent}
use Rattle.promises_urgent.proofs.Account.{facts_key, none_wait}
use Rattle.promises_urgent.proofs.Steps.{sent_before}
use Rattle.places.proofs.Leading.{none_earlier}
use Rattle.promises_urgent.proofs.Terms.{terms_opened, terms_closed, terms_offer, terms_later}
use Rattle.promises_urgent.proofs.Reason.{Reasons, reasons_none, reasons_offer, reasons_lost, reasons_idle, reasons_sent}
use Rattle.promises_urgent.proofs.Own.{Sends, sends_none, sends_offer, sends_lost, sends_idle, sends_sent}
use Rattle.promises_urgent.proofs.Optimal.{Best, best_none, best_offer, best_lost, best_idle, best_sent}

pub record Good (u : Urgent) (h : Cells) : Type 0 where
  pub kept : Kept u h
  pub few : Few h
  pub missed : h.missed ≡ count (is_missed h) h.accepted
  pub best : Best h
  pub reasons : Reasons h
  pub sends : Sends h
  pub terms : TermsStand h

pub good_fresh : Good fresh_lane no_cells
unfolding count open_in in_force
good_fresh =
    record {
      kept =
          record {
            sixteen = refl;
            long = refl;
            time = refl;
            within = omega arith;
            open_flows = λ f b. ap (λ (x : Flow). x.opened) (get_or-replicate 16 f shut_flow shut_flow b);
            deadlines = λ f b. ap (λ (x : Flow). x.deadline) (get_or-replicate 16 f shut_flow shut_flow b);
            next = λ f b. ap (λ (x : Flow). x.next) (get_or-replicate 16 f shut_flow shut_flow b);
            numbered = tt;
            windowed = tt;
            tied = λ ask. at_replicate (holds ask) free_cell (λ k. refl) 0 256;
            gone = λ ask. refl;
          };
      few = λ f b. zero-le;
      missed = refl;
      best = best_none;
      reasons = reasons_none;
      sends = sends_none;
      terms = tt;
    }

module _ (u : Urgent) (h : Cells) (g : Good u h) where
  -- a flow is opened or closed: the cells, the slots and the sendings are as they were
  good_marked : (after : Urgent) (mark : Mark) → Kept after (marked h mark) → TermsStand (marked h mark) → Good after (marked h mark)
  good_marked after mark kept terms =
      record {
        kept = kept;
        few = g.few;
        missed = g.missed;
        best = record { past = g.best.past; most = g.best.most };
        reasons = g.reasons;
        sends = g.sends;
        terms = terms;
      }

  pub good_open : (flow deadline : ℕ) → Good (open_of u flow deadline).lane (note_opening h flow deadline (open_of u flow deadline).answer)
  good_open flow deadline =
      open_cases u (λ d. Good d.lane (note_opening h flow deadline d.answer)) (λ r. g) flow deadline
      (λ l o d.
      good_marked (opened u flow deadline).lane (opens flow deadline) (kept_open u h g.kept flow l deadline)
      (terms_opened h g.terms flow deadline (sym (g.kept.open_flows flow (omega arith)) ∙ o)))

  pub good_close : (flow : ℕ) → Good (close_of u flow).lane (note_closing h flow (close_of u flow).answer)
  good_close flow =
      close_cases u (λ d. Good d.lane (note_closing h flow d.answer)) (λ r. g) flow
      (λ l w.
      good_marked (closed u flow).lane (closes flow) (kept_close u h g.kept flow l)
      (terms_closed h g.terms flow (omega (arith, sym (waiting_told u h g.kept flow (omega arith))))))

  pub good_offer : (flow deadline : ℕ) → Good (offer_of u flow deadline).lane (note_offer h flow deadline (offer_of u flow deadline).answer)
  unfolding count
  good_offer flow deadline =
      offer_cases u (λ d. Good d.lane (note_offer h flow deadline d.answer)) (λ r. g) flow deadline
      (λ l o d room.
      let a = offered_cell u h flow deadline in
      let waits-now = offer_waits u h g.kept g.few flow deadline l o d room in
      let window = offer_window u h g.kept g.few flow deadline l o d room in
      record {
        kept = kept_offer u h g.kept g.few flow deadline l o d room;
        few = few_offer u h g.kept g.few flow deadline l o d room;
        missed = rw (waiting_not_missed h a waits-now) (omega (arith, g.missed));
        best = best_offer h g.best a refl window waits-now;
        reasons = reasons_offer h g.reasons a refl window waits-now;
        sends = sends_offer h g.sends a refl waits-now;
        terms =
            terms_offer h g.terms a (sym (g.kept.open_flows flow (omega arith)) ∙ o)
            (refl, offer_within u h g.kept g.few flow deadline l o d room);
      })

  -- a turn that sends nothing
  good_idle : u.now.0 < slot_limit → (usable : List ℕ) → Best (end_cells h usable (h.missed + count (last_is u.now) u.cells))
      → Reasons (end_cells h usable h.missed) → Sends (end_cells h usable h.missed)
      → Good (end_lane u) (end_cells h usable (h.missed + count (last_is u.now) u.cells))
  good_idle low usable best reasons sends =
      let missed = h.missed + count (last_is u.now) u.cells in
      record {
        kept = kept_end u h g.kept low usable missed;
        few = few_turn u h g.kept g.few (end_cells h usable missed) refl refl;
        missed = omega (arith, g.missed, missed_end u h g.kept usable missed);
        best = best;
        reasons = reasons;
        sends = sends;
        terms = terms_later h g.terms (end_cells h usable missed) (omega arith) (λ f n e. e);
      }

  -- a turn that sends the cell at a place
  module _ (low : u.now.0 < slot_limit) (place : ℕ) (c : Place) (e : least_held is_held key_of u.cells ≡ at place c) where
    lead : Leads is_held key_of free_cell u.cells (at place c)
    lead = rw e at (leads is_held key_of free_cell refl u.cells)

    -- no waiting cell has an earlier last slot
    first : count (λ (a : Cell). ltb a.last c.last.0 && waits h a) h.accepted ≡ 0
    first = none_earlier is_held place_facts cell_facts facts_key free_cell u.cells h.accepted (waits h) (cells_tied u h g.kept) place c lead

    missed : ℕ
    missed = h.missed + count (last_is u.now) (set u.cells place free_cell)

    good_sent : Good (end_lane (without u place)) (end_cells (sent_cells h place c) (h.slot ∷ h.usable) (h.missed + count (last_is u.now) (set u.cells place free_cell)))
    unfolding missed
    good_sent =
        let k = kept_sent u h g.kept place c lead.0 lead.1 lead.2 in
        let less = waits_less u h g.kept place c lead.0 lead.1 lead.2 in
        record {
          kept = kept_end (without u place) (sent_cells h place c) k low (h.slot ∷ h.usable) missed;
          few = few_turn u h g.kept g.few (end_cells (sent_cells h place c) (h.slot ∷ h.usable) missed) refl refl;
          missed =
              omega (
                arith,
                g.missed,
                missed_sent u h g.kept place c lead.0 lead.1 lead.2,
                missed_end (without u place) (sent_cells h place c) k (h.slot ∷ h.usable) missed,
              );
          best = best_sent h g.best missed (gone_from h place c) c.last.0 first (λ t. less (λ f n l. leb t l));
          reasons = reasons_sent h g.reasons g.kept.windowed place c less first;
          sends = sends_sent h g.sends place c less (sent_waits u h g.kept place c lead.0 lead.1 lead.2);
          terms =
              terms_later h g.terms (end_cells (sent_cells h place c) (h.slot ∷ h.usable) missed) (omega arith) (sent_before (gone_from h place c) h.sent);
        }

  good_turned : u.now.0 < slot_limit → (usable : Bool) → Good (turned u (chosen u usable)).lane (note_turn h usable (turned u (chosen u usable)).answer)
  good_turned low false = good_idle low h.usable (best_lost h g.best (h.missed + count (last_is u.now) u.cells))
      (reasons_lost h g.reasons g.kept.windowed) (sends_lost h g.sends)
  good_turned low true = go (least_held is_held key_of u.cells) refl
    where
      go : (x : Choice Place) → least_held is_held key_of u.cells ≡ x → Good (turned u x).lane (note_turn h true (turned u x).answer)
      go nothing e =
          good_idle low (h.slot ∷ h.usable)
          (best_idle h g.best (h.missed + count (last_is u.now) u.cells) (λ t. none_wait u h g.kept e (λ f n l. leb t l)))
          (reasons_idle h g.reasons g.kept.windowed (none_wait u h g.kept e)) (sends_idle h g.sends)
      go (at place c) e = good_sent low place c e

  pub good_turn : (usable : Bool) → Good (turn_of u usable).lane (note_turn h usable (turn_of u usable).answer)
  good_turn usable = turn_cases u (λ d. Good d.lane (note_turn h usable d.answer)) (λ r. g) usable (λ low. good_turned low usable)
