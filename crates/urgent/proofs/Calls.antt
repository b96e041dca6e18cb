-- An offer that its flow's tests let through: refused for want of a place or of slots, or taken.
use Rattle.std.proofs.Common.{◌≡◌, ℕ, ◌+◌, ◌*◌, ◌≤◌, ◌<◌, true, false, ltb, List, length, refl, arith, le-ltb, le-leb, ltb-false}
use borrow.Author.Tests.{lt-leb}
use Rattle.units.specs.Limits.{place_count, slot_limit, outside_of}
use Rattle.units.specs.Refusals.{first_of}
use Rattle.units.specs.declared.Refusal.TheVariants.{PlacesFull, SlotsUsedUp}
use Rattle.units.proofs.Limits.{inside}
use Rattle.places.specs.Places.{count, places_of, first_free}
use Rattle.places.proofs.Free.{none_left, free_left, part_length}
use Rattle.urgent.specs.declared.Cell.{Cell}
use Rattle.urgent.specs.declared.Urgent.{Urgent}
use Rattle.urgent.specs.Lane.{is_held, free_cell, flow_at}
use Rattle.urgent.specs.Calls.{refused, offer_of}
use Rattle.urgent.specs.Taken.{Takes}

module _ (u : Urgent) (flow deadline : ℕ) (h : flow ≤ 15) (l : length u.cells ≡ 256)
    (o : (flow_at u flow).opened ≡ true) (d : outside_of deadline (flow_at u flow).deadline ≡ false) where
  abbrev pub ps : List Cell
  ps = places_of place_count flow u.cells

  pub offer_full : length ps ≤ first_free is_held ps → offer_of u flow deadline ≡ refused u PlacesFull
  unfolding offer_of first_of
  offer_full f =
      let long : length ps ≡ 16 = part_length is_held free_cell u.cells (flow * 16) 16 (omega arith) in
      rw (le-ltb 15 flow h, o, d, le-leb 16 (count is_held ps) (omega (arith, none_left is_held ps f)))

  module _ (k : ℕ) (e : k ≡ first_free is_held ps) (b : k < length ps) where
    few : count is_held ps < 16
    few =
        let long : length ps ≡ 16 = part_length is_held free_cell u.cells (flow * 16) 16 (omega arith) in
        omega (arith, free_left is_held ps (omega arith))

    pub offer_late : ltb slot_limit (u.now.0 + deadline) ≡ true → offer_of u flow deadline ≡ refused u SlotsUsedUp
    unfolding offer_of first_of
    offer_late t = rw (le-ltb 15 flow h, o, d, lt-leb 16 (count is_held ps) few, t)

    pub offer_taken : ltb slot_limit (u.now.0 + deadline) ≡ false → Takes u flow deadline flow (flow * 16 + k)
    unfolding offer_of first_of
    offer_taken t =
        let long : length ps ≡ 16 = part_length is_held free_cell u.cells (flow * 16) 16 (omega arith) in
        let window = inside deadline (flow_at u flow).deadline d in
        record {
          known = (refl, h);
          open_lem = o;
          free = rw e;
          within = omega arith;
          window = (omega arith, ltb-false slot_limit (u.now.0 + deadline) t);
          accepts = rw (le-ltb 15 flow h, o, d, lt-leb 16 (count is_held ps) few, t);
        }
