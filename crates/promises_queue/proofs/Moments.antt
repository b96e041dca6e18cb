-- An opening, a closing and an offer leave the moments of the service as they are, whatever they are answered.
use mathlib.Core.Path.{◌≡◌, refl}
use Prim.Native.Nat.{ℕ}
use Rattle.packets.specs.declared.Answer.{Answer}
use Rattle.packets.specs.declared.Answer.TheVariants.{Refused, Opened, Closed, Accepted, Begun, Ended}
use Rattle.promises_queue.specs.Packets.{Packets}
use Rattle.promises_queue.specs.Notes.{note_opening, note_closing, note_offer}

-- an opening
pub same_opening : (h : Packets) (flow weight : ℕ) (a : Answer) → (note_opening h flow weight a).moments ≡ h.moments
same_opening h flow weight (Refused r) = refl
same_opening h flow weight Opened = refl
same_opening h flow weight Closed = refl
same_opening h flow weight (Accepted n s f) = refl
same_opening h flow weight (Begun f n l s) = refl
same_opening h flow weight (Ended f n l) = refl

-- a closing
pub same_closing : (h : Packets) (flow : ℕ) (a : Answer) → (note_closing h flow a).moments ≡ h.moments
same_closing h flow (Refused r) = refl
same_closing h flow Opened = refl
same_closing h flow Closed = refl
same_closing h flow (Accepted n s f) = refl
same_closing h flow (Begun f n l s) = refl
same_closing h flow (Ended f n l) = refl

-- an offer
pub same_offer : (h : Packets) (flow length : ℕ) (a : Answer) → (note_offer h flow length a).moments ≡ h.moments
same_offer h flow length (Refused r) = refl
same_offer h flow length Opened = refl
same_offer h flow length Closed = refl
same_offer h flow length (Accepted n s f) = refl
same_offer h flow length (Begun f n l s) = refl
same_offer h flow length (Ended f n l) = refl
