-- What every call keeps. The queue is what the calls and answers tell: each flow's record has its mark, its weight and its next number, the
-- held places are the waiting packets, and the service is that of the newest moment. And what they tell is in order: packets are numbered,
-- each flow's packets are begun in the order of their numbers, and a packet in service is one of those accepted.
use mathlib.Core.Path.{◌≡◌, refl, sym, ap, ◌∙◌, subst}
use mathlib.Core.Bool.{Bool, true, false, not, ◌&&◌, ◌||◌}
use mathlib.Core.List.{List, [], ◌∷◌}
use Prim.Native.Nat.{ℕ, ◌+◌, ◌≤◌, ◌<◌}
use native.Mathlib.Omega.{arith}
use borrow.Author.Tests.{eqb-true, eqb-false, lt-ltb, le-ltb, ltb-true, ltb-false}
use lib.Dec.{ltb, eqb}
use lib.ListN.{length}
use Rattle.units.specs.Limits.{place_count, bad_weight}
use Rattle.places.specs.Places.{bit, count, count_at, flow_of}
use Rattle.places.specs.Numbers.{of_flow}
use Rattle.places.specs.Marks.{Mark, open_in, in_force}
use Rattle.places.proofs.CountAt.{at_same, at_count, own_places}
use Rattle.places.proofs.Tests.{and_holds}
use Rattle.places.proofs.Waiting.{Tied}
use Rattle.tags.specs.declared.Packet.{Packet as Place}
use Rattle.tags.specs.Tags.{is_held}
use Rattle.packets.specs.declared.Service.{Service}
use Rattle.packets.specs.declared.Queue.{Queue}
use Rattle.packets.specs.Queue.{flow_at, waiting_of, waiting, busy_with}
use Rattle.promises_queue.specs.Packets.{Packet, its_flow, Moment, began, ceased, finish_in, was_begun, in_service, serving}
use Rattle.promises_queue.specs.Promised.{Question, holds, begun_of, InOrder, PacketsNumbered}

-- a packet is not begun
abbrev pub not_begun : List Moment → Packet → Bool
not_begun ms a = not (was_begun ms a.flow a.number)

-- a question asked of a packet
abbrev pub asks : Question → Packet → Bool
asks ask a = ask a.flow a.number a.length a.start a.finish

-- how many packets not begun answer to a question
abbrev pub asked : List Packet → List Moment → Question → ℕ
asked ps ms ask = count (λ (a : Packet). asks ask a && not_begun ms a) ps

-- the service is that of the newest moment: the packet begun, with the finish tag of its acceptance, or none
abbrev pub Serves : Service → List Packet → List Moment → Type 0
Serves v ps [] = v.busy ≡ false
Serves v ps (began f n l s p ∷ ms) =
    (v.busy ≡ true) × (v.flow ≡ f) × (v.number ≡ n) × (v.length ≡ l) × (v.finish.0 ≡ finish_in ps f n)
Serves v ps (ceased f n l p e w ∷ ms) = v.busy ≡ false

-- so that it is busy as the moments tell
pub busy_told : (v : Service) (ps : List Packet) (ms : List Moment) → Serves v ps ms → v.busy ≡ in_service ms
busy_told v ps [] s = s
busy_told v ps (began f n l x p ∷ ms) s = s.0
busy_told v ps (ceased f n l p x w ∷ ms) s = s

-- and busy with a flow's packet as they tell
pub serving_told : (v : Service) (ps : List Packet) (ms : List Moment) → Serves v ps ms → (flow : ℕ) → busy_with v flow ≡ serving ms flow
serving_told v ps [] s flow = rw s
serving_told v ps (began f n l x p ∷ ms) s flow = rw (s.0, s.1)
serving_told v ps (ceased f n l p e w ∷ ms) s flow = rw s

-- the queue is what the calls and answers tell
pub record QueueKept (q : Queue) (marks : List Mark) (ps : List Packet) (ms : List Moment) : Type 0 where
  pub sixteen : length q.flows ≡ 16
  pub long : length q.packets ≡ 256
  pub open_flows : (f : ℕ) → f < 16 → (flow_at q f).opened ≡ open_in marks f
  pub weights : (f : ℕ) → f < 16 → (flow_at q f).weight ≡ in_force marks f
  pub fit : (f : ℕ) → open_in marks f ≡ true → bad_weight (in_force marks f) ≡ false
  pub next : (f : ℕ) → f < 16 → (flow_at q f).next ≡ of_flow its_flow f ps
  pub tied : (ask : Question) → count_at (holds ask) 0 q.packets ≡ asked ps ms ask
  pub service : Serves q.service ps ms

-- a packet in service is accepted
abbrev pub Known : List Packet → List Moment → Type 0
Known ps [] = Unit {0}
Known ps (began f n l s p ∷ ms) = n < of_flow its_flow f ps
Known ps (ceased f n l p e w ∷ ms) = Unit {0}

-- what the calls and answers tell is in order
pub record Ordered (ps : List Packet) (ms : List Moment) : Type 0 where
  pub numbered : PacketsNumbered ps
  pub in_order : InOrder ms
  pub begun : (f : ℕ) → begun_of ms f ≤ of_flow its_flow f ps
  pub known : Known ps ms

-- what can be asked of a packet
abbrev pub Facts : Type 0
Facts = ℕ × ℕ × ℕ × ℕ × ℕ

-- of one that holds a place
abbrev pub place_facts : ℕ → Place → Facts
place_facts place p = (flow_of place_count place, p.number, p.length, p.start.0, p.finish.0)

-- and of one that was accepted
abbrev pub packet_facts : Packet → Facts
packet_facts a = (a.flow, a.number, a.length, a.start, a.finish)

-- a question asked of these facts
abbrev pub asking : Question → Facts → Bool
asking ask x = ask x.0 x.1 x.2 x.3 x.4

-- begun in the order of their numbers, a flow's begun packets are those whose numbers are below their count
pub begun_below : (ms : List Moment) → InOrder ms → (f n : ℕ) → was_begun ms f n ≡ ltb n (begun_of ms f)
unfolding was_begun begun_of
begun_below [] o f n = sym (le-ltb n 0 (omega arith))
begun_below (began g m l s p ∷ ms) o f n = go (eqb g f) refl (begun_below ms o.1 f n)
  where
    same : m ≡ begun_of ms f → (t : Bool) → eqb m n ≡ t → (b : Bool) → ltb n (begun_of ms f) ≡ b → (t || b) ≡ ltb n (1 + begun_of ms f)
    same e true x b y = sym (lt-ltb n (1 + begun_of ms f) (omega (arith, eqb-true m n x)))
    same e false x true y = sym (lt-ltb n (1 + begun_of ms f) (omega (arith, ltb-true n (begun_of ms f) y)))
    same e false x false y = sym (le-ltb n (1 + begun_of ms f) (omega (arith, ltb-false n (begun_of ms f) y, eqb-false m n x)))

    go : (a : Bool) → eqb g f ≡ a → was_begun ms f n ≡ ltb n (begun_of ms f) → ((a && eqb m n) || was_begun ms f n) ≡ ltb n (bit a + begun_of ms f)
    go true x i = rw i (same (subst (λ (q : ℕ). m ≡ begun_of ms q) (eqb-true g f x) o.0) (eqb m n) refl (ltb n (begun_of ms f)) refl)
    go false x i =
        let z : 0 + begun_of ms f ≡ begun_of ms f = omega arith in
        rw z i
begun_below (ceased g m l p e w ∷ ms) o f n = begun_below ms o f n

module _ {q : Queue} {marks : List Mark} {ps : List Packet} {ms : List Moment} (k : QueueKept q marks ps ms) where
  -- the waiting packets are tied to the held places
  pub packets_tied : Tied is_held place_facts packet_facts q.packets ps (not_begun ms)
  packets_tied ask = k.tied (λ f n l s e. ask (f, n, l, s, e))

  -- the places that a flow holds are its waiting packets
  pub waiting_told : (flow : ℕ) → flow < 16 → waiting_of q flow ≡ asked ps ms (λ f n l s e. eqb f flow)
  waiting_told flow b = sym (own_places is_held 16 flow q.packets (omega arith) (omega (arith, k.long))) ∙ k.tied (λ f n l s e. eqb f flow)

  -- and all places held are all that wait
  pub waiting_all : waiting q ≡ count (not_begun ms) ps
  waiting_all =
      sym (at_count is_held 0 q.packets)
      ∙ at_same (λ j x. is_held x) (holds (λ f n l s e. true)) (λ j x. ap bit (sym (and_holds x.held true refl))) 0 q.packets
      ∙ k.tied (λ f n l s e. true)
