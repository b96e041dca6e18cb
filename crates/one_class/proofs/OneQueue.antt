-- The class lane's queue is the fair lane's without its tags: the same flows, places and packet in service, and every tag 0. What is asked of
-- a queue without looking at a tag is the same of it, and each call leaves the one queue as the other without its tags.
use mathlib.Core.Path.{◌≡◌, refl, sym, ap, ◌∙◌}
use mathlib.Core.List.{map}
use Prim.Native.Nat.{ℕ, ◌+◌, ◌*◌}
use lib.ListN.{get_or-map}
use Rattle.units.specs.Limits.{place_count}
use Rattle.places.specs.Places.{count, places_of, first_free}
use Rattle.places.specs.Choice.{at}
use Rattle.places.proofs.Count.{count_map}
use Rattle.places.proofs.Mapped.{map_set, map_places, map_free}
use Rattle.tags.specs.declared.Flow.{Flow}
use Rattle.tags.specs.declared.Packet.{Packet}
use Rattle.tags.specs.Tags.{free_packet, is_held, shut_flow}
use Rattle.packets.specs.declared.Service.{Service}
use Rattle.packets.specs.declared.Queue.{Queue}
use Rattle.packets.specs.declared.Quote.{Quote}
use Rattle.packets.specs.Queue.{flow_at, packet_at, waiting_of}
use Rattle.packets.specs.Calls.{queue_with, opened, closed, placed, begun}
use Rattle.tree.specs.Tree.{no_tag}
use Rattle.classes.specs.Calls.{untagged}

-- a flow's record without its tag
abbrev pub bare_flow : Flow → Flow
bare_flow x = record { opened = x.opened; weight = x.weight; next = x.next; finish = no_tag }

-- a packet without its tags
abbrev pub bare_packet : Packet → Packet
bare_packet p = record { held = p.held; number = p.number; length = p.length; start = no_tag; finish = no_tag }

-- the service without the packet's tag
abbrev pub bare_service : Service → Service
bare_service s = record { busy = s.busy; flow = s.flow; number = s.number; length = s.length; finish = no_tag }

-- a queue without its tags
abbrev pub bare : Queue → Queue
bare q = record { service = bare_service q.service; flows = map bare_flow q.flows; packets = map bare_packet q.packets }

module _ (q : Queue) where
  -- the record of a flow
  pub bare_flow_lem : (flow : ℕ) → flow_at (bare q) flow ≡ bare_flow (flow_at q flow)
  bare_flow_lem flow = get_or-map bare_flow q.flows flow shut_flow

  -- what a place holds
  pub bare_place : (place : ℕ) → packet_at (bare q) place ≡ bare_packet (packet_at q place)
  bare_place place = get_or-map bare_packet q.packets place free_packet

  -- how many packets of a flow wait
  pub bare_waiting : (flow : ℕ) → waiting_of (bare q) flow ≡ waiting_of q flow
  bare_waiting flow =
      ap (count is_held) (sym (map_places bare_packet place_count flow q.packets))
      ∙ count_map bare_packet is_held (places_of place_count flow q.packets)

  -- the flow's first free place
  bare_free : (flow : ℕ)
      → first_free is_held (places_of place_count flow (bare q).packets) ≡ first_free is_held (places_of place_count flow q.packets)
  bare_free flow =
      ap (first_free is_held) (sym (map_places bare_packet place_count flow q.packets))
      ∙ map_free bare_packet is_held is_held (λ p. refl) (places_of place_count flow q.packets)

  -- a flow is opened
  pub bare_opened : (flow weight : ℕ) → queue_with (bare q) (opened (bare q) flow weight) ≡ bare (queue_with q (opened q flow weight))
  bare_opened flow weight = rw (bare_flow_lem flow, map_set bare_flow q.flows flow)

  -- a flow is closed
  pub bare_closed : (flow : ℕ) → queue_with (bare q) (closed (bare q) flow) ≡ bare (queue_with q (closed q flow))
  bare_closed flow = rw (bare_flow_lem flow, map_set bare_flow q.flows flow)

  -- a packet is put, with whatever tags
  pub bare_placed : (flow length : ℕ) (quote : Quote) → (placed (bare q) flow length untagged).queue ≡ bare (placed q flow length quote).queue
  bare_placed flow length quote =
      rw (
        bare_flow_lem flow,
        bare_free flow,
        map_set bare_flow q.flows flow,
        map_set bare_packet q.packets (flow * place_count + first_free is_held (places_of place_count flow q.packets)),
      )

  -- a packet is begun
  pub bare_begun : (place : ℕ) (p : Packet) → (begun (bare q) (at place (bare_packet p))).queue ≡ bare (begun q (at place p)).queue
  bare_begun place p = rw (map_set bare_packet q.packets place)
