-- The tags that a packet would get where it is offered.
use Rattle.std.specs.Prelude.{cond, ℕ, ltb, Option, None, Some}
use Rattle.units.specs.Limits.{tag_limit}
use Rattle.units.specs.declared.Tag.{Tag}
use Rattle.tags.specs.declared.Flow.{Flow}
use Rattle.tags.specs.Tags.{later_of, finish_of}
use Rattle.packets.specs.declared.Quote.{Quote}

-- a packet offered now starts at the time given, or where its flow's last packet finishes if that is later
abbrev pub start_after : Flow → Tag → Tag
start_after was time = later_of time was.finish

-- the quote of a packet by its start and its finish, which it may not have
abbrev pub quoted : Tag → Option Tag → Option Quote
quoted start None = None
quoted start (Some finish) = Some (record { start = start; finish = finish })

-- what a packet of this length is quoted: nothing where the flow's next number passes the largest tag
unfoldable pub quote_of : Flow → Tag → ℕ → Option Quote
quote_of was time length =
    quoted (start_after was time) (cond (ltb tag_limit was.next) None (finish_of (start_after was time) length was.weight))
