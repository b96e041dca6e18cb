-- A packet that is put keeps it: it takes a free place of its flow and the flow's next number, with the tags of its quote, whatever they
-- are; its number is new, so that it waits, and leaves the packet in service as it is.
use mathlib.Core.Path.{◌≡◌, refl, sym, ap, ◌∙◌}
use mathlib.Core.Bool.{true, cond}
use mathlib.Core.List.{List, [], ◌∷◌}
use Prim.Native.Nat.{ℕ, ◌+◌, ◌*◌, ◌%◌, ◌^◌, ◌≤◌, ◌<◌}
use native.Mathlib.Omega.{arith}
use borrow.Author.Tests.{eq-eqb, ne_eqb, le-ltb}
use lib.Dec.{eqb}
use lib.ListN.{get_or, set, length-set}
use Rattle.units.specs.Limits.{place_count, tag_limit}
use Rattle.units.specs.Charges.{charge_of}
use Rattle.places.specs.Places.{bit, count, places_of, first_free}
use Rattle.places.specs.Numbers.{of_flow}
use Rattle.places.specs.Marks.{Mark, open_in, in_force}
use Rattle.places.proofs.Coming.{tied_come}
use Rattle.places.proofs.Stores.{set_cases}
use Rattle.tags.specs.declared.Flow.{Flow}
use Rattle.tags.specs.declared.Packet.{Packet as Place}
use Rattle.tags.specs.Tags.{free_packet, is_held, shut_flow}
use Rattle.packets.specs.declared.Service.{Service}
use Rattle.packets.specs.declared.Queue.{Queue}
use Rattle.packets.specs.declared.Quote.{Quote}
use Rattle.packets.specs.Queue.{flow_at, waiting_of}
use Rattle.packets.specs.Calls.{placed}
use Rattle.promises_queue.specs.Packets.{Packet, its_flow, Moment, began, ceased}
use Rattle.promises_queue.specs.Promised.{begun_of, PacketsNumbered}
use Rattle.promises_queue.proofs.Numbers.{finish_stays}
use Rattle.promises_queue.proofs.Kept.{not_begun, Serves, QueueKept, Known, Ordered, place_facts, packet_facts, asking, begun_below, packets_tied}

-- the packet as the history has it, put by the call of this position
abbrev pub new_packet : Queue → List Mark → ℕ → ℕ → Quote → ℕ → Packet
new_packet q marks flow bytes quote position =
    record {
      flow = flow;
      number = (flow_at q flow).next;
      start = quote.start.0;
      finish = quote.finish.0;
      length = bytes;
      charge = charge_of (in_force marks flow);
      position = position;
    }

-- a packet with the flow's next number leaves the packet in service as it is
module _ (a : Packet) (ps : List Packet) (k : PacketsNumbered (a ∷ ps)) where
  -- the service is still that of the newest moment
  serves_more : (v : Service) (ms : List Moment) → Known ps ms → Serves v ps ms → Serves v (a ∷ ps) ms
  serves_more v [] h s = s
  serves_more v (began f n l b p ∷ ms) h s = (s.0, s.1, s.2, s.3, s.4 ∙ sym (finish_stays f n a ps k h))
  serves_more v (ceased f n l p e w ∷ ms) h s = s

  -- and its packet is still accepted
  known_more : (ms : List Moment) → Known ps ms → Known (a ∷ ps) ms
  unfolding count
  known_more [] h = tt
  known_more (began f n l b p ∷ ms) h = omega (arith, h)
  known_more (ceased f n l p e w ∷ ms) h = tt

module _
    {q : Queue}
    {marks : List Mark}
    {ps : List Packet}
    {ms : List Moment}
    (k : QueueKept q marks ps ms)
    (t : Ordered ps ms)
    (flow : ℕ)
    (low : flow ≤ 15)
    (bytes : ℕ)
    (quote : Quote)
    (position : ℕ) where
  -- the packet that is put
  new : Packet
  new = new_packet q marks flow bytes quote position

  -- the packet has the flow's next number
  pub numbered_put : PacketsNumbered (new_packet q marks flow bytes quote position ∷ ps)
  numbered_put = (k.next flow (omega arith), t.numbered)

  -- the number is new, so it is not begun
  new_waits : not_begun ms new ≡ true
  unfolding new
  new_waits =
      let l : begun_of ms flow ≤ (flow_at q flow).next = omega (arith, k.next flow (omega arith), t.begun flow) in
      rw (begun_below ms t.in_order flow (flow_at q flow).next, le-ltb (flow_at q flow).next (begun_of ms flow) l)

  -- what the calls and answers tell is still in order
  pub ordered_put : Ordered (new_packet q marks flow bytes quote position ∷ ps) ms
  unfolding count new
  ordered_put =
      record {
        numbered = numbered_put;
        in_order = t.in_order;
        begun = λ f. omega (arith, t.begun f);
        known = known_more new ps numbered_put ms t.known;
      }

  -- the flow's record then
  after : Flow
  after = record { opened = true; weight = (flow_at q flow).weight; next = ((flow_at q flow).next + 1) % 2 ^ 64; finish = quote.finish }

  -- the flow's last finish is the packet's then, and the others' stay
  pub finish_put : (f : ℕ) → (flow_at (placed q flow bytes quote).queue f).finish ≡ cond (eqb flow f) quote.finish (flow_at q f).finish
  unfolding after
  finish_put f =
      set_cases q.flows flow after shut_flow (omega (arith, k.sixteen)) f (λ (x : Flow). x.finish ≡ cond (eqb flow f) quote.finish (flow_at q f).finish)
      (λ e. rw (eq-eqb flow f (sym e)))
      (λ n. rw (ne_eqb flow f (λ e. n (sym e))))

  module _ (o : (flow_at q flow).opened ≡ true) (room : waiting_of q flow < 16) (few : (flow_at q flow).next ≤ tag_limit) where
    -- no number passes the largest of its type
    fits : ((flow_at q flow).next + 1) % 2 ^ 64 ≡ (flow_at q flow).next + 1
    fits = omega (arith, few)

    -- what the record of a flow is then
    AfterAs : ℕ → Flow → Type 0
    AfterAs f x = (x.opened ≡ open_in marks f) × (x.weight ≡ in_force marks f) × (x.next ≡ bit (eqb flow f) + of_flow its_flow f ps)

    -- each flow has its mark, its weight and its next number
    put_flow : (f : ℕ) → f < 16 → AfterAs f (get_or (set q.flows flow after) f shut_flow)
    unfolding after AfterAs
    put_flow f b =
        set_cases q.flows flow after shut_flow (omega (arith, k.sixteen)) f (AfterAs f)
        (λ e. rw (eq-eqb flow f (sym e), e) (sym o ∙ k.open_flows flow (omega arith), k.weights flow (omega arith), fits ∙ omega (arith, k.next flow (omega arith))))
        (λ n. rw (ne_eqb flow f (λ e. n (sym e))) (k.open_flows f b, k.weights f b, omega (arith, k.next f b)))

    -- the place that the packet takes
    place : ℕ
    place = flow * place_count + first_free is_held (places_of place_count flow q.packets)

    -- and what stands there then
    taken : Place
    taken = record { held = true; number = (flow_at q flow).next; length = bytes; start = quote.start; finish = quote.finish }

    -- so the queue is still what the calls and answers tell
    pub kept_put : QueueKept (placed q flow bytes quote).queue marks (new_packet q marks flow bytes quote position ∷ ps) ms
    unfolding count new after AfterAs place taken
    kept_put =
        record {
          sixteen = length-set q.flows flow after ∙ k.sixteen;
          long = length-set q.packets place taken ∙ k.long;
          open_flows = λ f b. (put_flow f b).0;
          weights = λ f b. (put_flow f b).1;
          fit = k.fit;
          next = λ f b. (put_flow f b).2;
          tied = λ ask.
              tied_come is_held place_facts packet_facts free_packet q.packets ps (not_begun ms) (packets_tied k) place_count flow (omega (arith, k.long)) room
              taken new refl new_waits (λ at e. ap (λ (f : ℕ). (f, (flow_at q flow).next, bytes, quote.start.0, quote.finish.0)) e) (asking ask);
          service = serves_more new ps numbered_put q.service ms t.known k.service;
        }
