-- The fair lane's times, read off the calls and their answers alone.
use Rattle.std.specs.Prelude.{cond, List, [], ◌∷◌, ℕ, max, eqb}
use Rattle.promises_queue.specs.Packets.{Packet, Moment, began, ceased}

-- the finish tag of the flow's last accepted packet, 0 at first
unfoldable pub last_finish : List Packet → ℕ → ℕ
last_finish [] flow = 0
last_finish (a ∷ rest) flow = cond (eqb a.flow flow) a.finish (last_finish rest flow)

-- the start tag of the packet last begun, 0 before any
unfoldable pub last_start : List Moment → ℕ
last_start [] = 0
last_start (began f n l s p ∷ ms) = s
last_start (ceased f n l p e w ∷ ms) = last_start ms

-- the largest finish tag of all packets ended, 0 before any
unfoldable pub largest_ended : List Moment → ℕ
largest_ended [] = 0
largest_ended (began f n l s p ∷ ms) = largest_ended ms
largest_ended (ceased f n l p e w ∷ ms) = max e (largest_ended ms)

-- Virtual time, as source document 001 has it and the rules settle it: after a begin, that packet's start tag; after an end that
-- left packets waiting, still the start tag of the packet last begun; after an end that left none, the largest finish tag of all
-- packets ended; 0 before any. Later offers do not move it.
unfoldable pub virtual_time : List Moment → ℕ
virtual_time [] = 0
virtual_time (began f n l s p ∷ ms) = s
virtual_time (ceased f n l p e w ∷ ms) = cond (eqb w 0) (largest_ended (ceased f n l p e w ∷ ms)) (last_start ms)
