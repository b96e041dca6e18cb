-- What a packet that is put finds where it is taken.
use Rattle.std.specs.Prelude.{◌≡◌, Option, ℕ, ◌+◌, ◌*◌, ◌≤◌, ◌<◌, true}
use Rattle.units.specs.Limits.{place_count}
use Rattle.places.specs.Places.{places_of, first_free}
use Rattle.tags.specs.Tags.{is_held}
use Rattle.packets.specs.declared.Queue.{Queue}
use Rattle.packets.specs.declared.Quote.{Quote}
use Rattle.packets.specs.Queue.{flow_at}
use Rattle.packets.specs.Calls.{placed, put_of}

-- the packet of this flow and length is put with the tags of its quote, in this place of the flow's, the first that is free
pub record Takes (q : Queue) (flow length : ℕ) (quote : Option Quote) (f place : ℕ) (tags : Quote) : Type 0 where
  pub known : (f ≡ flow) × (flow ≤ 15)
  pub open_lem : (flow_at q flow).opened ≡ true
  pub free : place ≡ flow * place_count + first_free is_held (places_of place_count flow q.packets)
  pub within : place < 256
  pub puts : put_of q flow length quote ≡ placed q flow length tags
