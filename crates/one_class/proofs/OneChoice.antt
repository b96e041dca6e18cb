-- Both lanes choose the same packet, where none is in service. Each flow's node starts where its first waiting packet does, and starts rise
-- within a flow: so the node of least start, and then of least flow, is that of the packet of least start, flow and number, and that packet has
-- the least number of its flow.
use mathlib.Core.Path.{◌≡◌, refl, sym, ap, ◌∙◌}
use mathlib.Core.Bool.{true, false}
use Prim.Native.Nat.{ℕ, ◌-◌, ◌≤◌, ◌<◌}
use native.Mathlib.Decide.{dec_lt}
use native.Mathlib.Omega.{arith}
use borrow.Author.Tests.{eqb-true, eq-eqb, lt-ltb, ltb-true, le-leb}
use lib.Dec.{eqb, ltb}
use lib.ListN.{length}
use Rattle.places.specs.Choice.{comes_before, Choice, nothing, at, Leads}
use Rattle.places.proofs.Least.{leads}
use Rattle.places.proofs.Members.{some_gives}
use Rattle.places.proofs.Order.{not_ahead}
use Rattle.places.proofs.Tests.{and_told, eqb_self}
use Rattle.tags.specs.declared.Packet.{Packet as Place}
use Rattle.packets.specs.Queue.{waiting_of, by_start, chosen_by}
use Rattle.fair.specs.declared.Fair.{Fair}
use Rattle.promises_queue.specs.Packets.{Packets, serving}
use Rattle.promises_queue.specs.Promised.{begun_of}
use Rattle.promises_queue.proofs.Kept.{waiting_told, serving_told}
use Rattle.promises_queue.proofs.Chosen.{place_flow, Holds, held_asked, held_there, chosen_held}
use Rattle.promises_queue.proofs.Account.{chosen_first}
use Rattle.promises_fair.proofs.Began.{begins_next}
use Rattle.promises_fair.proofs.Tags.{start_noted, has_start, found}
use Rattle.promises_fair.proofs.Next.{next_unbegun, next_accepted}
use Rattle.promises_fair.proofs.Good.{Good, queue_good}
use Rattle.tree.specs.declared.Node.{Node}
use Rattle.tree.specs.declared.Tree.{Tree}
use Rattle.tree.specs.Tree.{no_node, node_of, node_at}
use Rattle.descent.specs.Descent.{is_child, key_of, least_child, place_in, on_from, descend_of, flow_met}
use Rattle.one_class.proofs.OneFlows.{TreeOf}

module _
    (t : Tree)
    (v : Fair)
    (h : Packets)
    (o : TreeOf t v h)
    (g : Good v h)
    (idle : v.queue.service.busy ≡ false)
    (place : ℕ)
    (p : Place)
    (e : chosen_by by_start v.queue ≡ at place p) where
  -- the flow of the packet that the fair lane chooses
  abbrev flow : ℕ
  flow = place_flow place

  -- how many of a flow were begun
  abbrev begun : ℕ → ℕ
  begun f = begun_of h.moments f

  -- the packet's place is held
  pub held : Holds v.queue place p
  held = chosen_held g.kept.queue place p by_start e

  -- its flow is one that there is
  pub low : flow < 16
  low = omega (arith, held.0, g.kept.queue.long)

  -- its number is that after those begun
  pub is_next : p.number ≡ begun flow
  is_next = begins_next g.kept g.ordered g.paced place p e

  -- and its start is noted so
  is_start : start_noted h.accepted flow (begun flow) ≡ p.start.0
  is_start =
      ap (start_noted h.accepted flow) (sym is_next)
      ∙ has_start flow p.number p.length p.start.0 p.finish.0 h.accepted g.ordered.numbered (held_there g.kept.queue place p held)

  -- so something of the flow waits
  own_waits : 0 < waiting_of v.queue flow
  own_waits = omega (arith, waiting_told g.kept.queue flow low, held_asked g.kept.queue place p held (λ f n l s x. eqb f flow) (eqb_self flow))

  -- nothing is in service
  pub none_served : (f : ℕ) → serving h.moments f ≡ false
  none_served f = sym (serving_told v.queue.service h.accepted h.moments g.kept.queue.service f) ∙ rw idle

  -- the flow's node starts where the packet does
  pub node_start : (node_at t (node_of flow)).start.0 ≡ p.start.0
  node_start = (o.flows flow low).start (none_served flow) own_waits ∙ is_start

  -- no other flow's first packet comes before it
  first_of_all : (f : ℕ) → f < 16 → 0 < waiting_of v.queue f
      → (p.start.0 ≤ start_noted h.accepted f (begun f)) × (start_noted h.accepted f (begun f) ≡ p.start.0 → flow ≤ f)
  first_of_all f b w =
      some_gives _ _
      (λ a x.
      let y = found _ f (begun f) h.accepted g.ordered.numbered (next_accepted g.kept.queue g.ordered f b w) x.5 in
      let n = not_ahead _ _ (y.holds (next_unbegun g.ordered y.packet (y.number ∙ ap begun (sym y.flow)))) in
      (omega (arith, n.0, y.start, x.4), λ s. omega (arith, n.1 (omega (arith, s, y.start, x.4)), x.1, y.flow)))
      h.accepted (chosen_first (queue_good v h g) by_start place p e)

  -- a flow of which something waits is a child of the root that has something to send
  is_child_lem : (f : ℕ) → f < 16 → 0 < waiting_of v.queue f → is_child 0 (node_at t (node_of f)) ≡ true
  is_child_lem f b w =
      let x = o.flows f b in
      rw (lt-ltb 0 (node_at t (node_of f)).waiting (omega (arith, w, x.waiting)), eq-eqb (node_at t (node_of f)).parent 0 x.parent)

  -- and no class is
  no_class : (k : ℕ) → k < 31 → is_child 0 (node_at t k) ≡ true → ⊥
  no_class k l c = go (dec_lt 0 k)
    where
      two : (ltb 0 (node_at t k).waiting ≡ true) × (eqb (node_at t k).parent 0 ≡ true)
      two = and_told (ltb 0 (node_at t k).waiting) (eqb (node_at t k).parent 0) c

      go : Dec (0 < k) → ⊥
      go (yes m) = omega (arith, ltb-true 0 (node_at t k).waiting two.0, o.spare k m l)
      go (no m) =
          let z : k ≡ 0 = omega arith in
          omega (arith, eqb-true (node_at t k).parent 0 two.1, ap (λ (j : ℕ). (node_at t j).parent) z, o.root)

  -- the way down meets the flow
  pub flow_met_lem : flow_met t ≡ flow
  unfolding descend_of
  flow_met_lem = go (least_child t 0) (leads (is_child 0) key_of no_node refl t.nodes)
    where
      met : (k : ℕ) (x : Node) → k < length t.nodes → node_at t k ≡ x → is_child 0 x ≡ true
          → comes_before (key_of (node_of flow) (node_at t (node_of flow))) (key_of k x) ≡ false → Dec (k < 31) → on_from (descend_of 3 t) k ≡ flow
      met k x b there c n (yes l) = absurd (no_class k l (ap (is_child 0) there ∙ c))
      met k x b there c n (no l) =
          let f : ℕ = k - 31 in
          let at_f : k ≡ node_of f = omega arith in
          let few : f < 16 = omega (arith, o.nodes) in
          let same : node_at t (node_of f) ≡ x = ap (node_at t) (sym at_f) ∙ there in
          let y = o.flows f few in
          let w : 0 < waiting_of v.queue f =
          omega (arith, y.waiting, ltb-true 0 x.waiting (and_told (ltb 0 x.waiting) (eqb x.parent 0) c).0, ap (λ (z : Node). z.waiting) same) in
          let s = y.start (none_served f) w in
          let s' : (node_at t (node_of f)).start.0 ≡ x.start.0 = ap (λ (z : Node). z.start.0) same in
          let a = first_of_all f few w in
          let m = not_ahead _ _ n in
          let eq : start_noted h.accepted f (begun f) ≡ p.start.0 = omega (arith, m.0, a.0, s, s', node_start) in
          rw (le-leb 31 k (omega arith)) (omega (arith, a.1 eq, m.1 (omega (arith, eq, s, s', node_start))))

      go : (c : Choice Node) → Leads (is_child 0) key_of no_node t.nodes c → on_from (descend_of 3 t) (place_in c) ≡ flow
      go nothing l = absurd (l (node_of flow) (is_child_lem flow low own_waits))
      go (at k x) l = met k x l.0 l.1 l.2 (l.3 (node_of flow) (is_child_lem flow low own_waits)) (dec_lt k 31)
