-- What a quote tells of a packet of good length: it does not fit exactly where its finish tag or its number would pass the largest tag.
use Rattle.std.proofs.Common.{Option, None, Some}
use mathlib.Core.Path.{◌≡◌, refl, sym}
use Rattle.std.proofs.lemmas.Option.{none-some, same_Some}
use Rattle.std.specs.Option.{is_none}
use mathlib.Core.Bool.{Bool, true, false, cond, ◌||◌}
use Prim.Native.Nat.{ℕ}
use lib.Dec.{ltb}
use Rattle.units.specs.Limits.{tag_limit, bad_length}
use Rattle.units.specs.Refusals.{first_of}
use Rattle.units.specs.declared.Tag.{Tag}
use Rattle.tags.specs.declared.Flow.{Flow}
use Rattle.tags.specs.Tags.{finish_at, finish_of}
use Rattle.tags.specs.Grounds.{offering_grounds}
use Rattle.packets.specs.declared.Queue.{Queue}
use Rattle.packets.specs.declared.Quote.{Quote}
use Rattle.packets.specs.Queue.{flow_at, waiting_of}
use Rattle.packets.specs.Quotes.{start_after, quoted, quote_of}
use Rattle.packets.specs.Calls.{put_grounds}

-- the quote of a packet that has one
abbrev pub fitting : Flow → Tag → ℕ → Quote
fitting was time length = record { start = start_after was time; finish = record { 0 = finish_at (start_after was time) length was.weight } }

module _ (was : Flow) (time : Tag) (length : ℕ) (good : bad_length length ≡ false) where
  finish : ℕ
  finish = finish_at (start_after was time) length was.weight

  asked : Bool → Bool → Option Quote
  asked n f = quoted (start_after was time) (cond n None (cond f None (Some (record { 0 = finish }))))

  unfit : is_none (quote_of was time length)
      ≡ (ltb tag_limit (finish_at (start_after was time) length was.weight) || ltb tag_limit was.next)
  unfolding quote_of finish_of finish asked
  unfit = rw good (go (ltb tag_limit was.next) (ltb tag_limit finish))
    where
      go : (n f : Bool) → is_none (asked n f) ≡ (f || n)
      go true true = refl
      go true false = refl
      go false true = refl
      go false false = refl

  pub quote_told : (x : Quote) → quote_of was time length ≡ Some x
      → (ltb tag_limit (finish_at (start_after was time) length was.weight) ≡ false)
      × (ltb tag_limit was.next ≡ false)
      × (x ≡ fitting was time length)
  unfolding quote_of finish_of finish asked
  quote_told x = rw good (go (ltb tag_limit was.next) (ltb tag_limit finish))
    where
      go : (n f : Bool) → asked n f ≡ Some x → (f ≡ false) × (n ≡ false) × (x ≡ fitting was time length)
      go true f e = absurd (none-some x e)
      go false true e = absurd (none-some x e)
      go false false e = (refl, refl, sym (same_Some _ _ e))

-- so a packet that is put with its quote is refused for what refuses an offer by its tags
pub quoted_first : (q : Queue) (flow : ℕ) (time : Tag) (length : ℕ)
    → first_of (put_grounds q flow length (quote_of (flow_at q flow) time length))
    ≡ first_of (offering_grounds flow (flow_at q flow) (waiting_of q flow) (start_after (flow_at q flow) time) length)
unfolding first_of
quoted_first q flow time length = go (bad_length length) refl
  where
    go : (b : Bool) → bad_length length ≡ b
        → first_of (put_grounds q flow length (quote_of (flow_at q flow) time length))
        ≡ first_of (offering_grounds flow (flow_at q flow) (waiting_of q flow) (start_after (flow_at q flow) time) length)
    go true b = rw b
    go false b = rw (unfit (flow_at q flow) time length b)
