-- Each return is the case of `put_of` that its tests lead to.
use Rattle.std.proofs.Common.{◌≡◌, length, sym, ◌∙◌, arith, rules}
use Rattle.packets.proofs.Calls.{long, put_5, put_6, put_ok}
use Rattle.queue.proofs.to_put.Goals as goal

pub returns-in_default : goal.returns-in_default
returns-in_default c =
    let e = c.in_ok-f.ensures in
    let l : length c.args.queue.now.packets ≡ 256 = search rules in
    put_5 c.args.queue.now c.args.flow c.args.length c.args.quote e.1 l (rw e.0 at c.if-not-queue-f.false) (sym c.bad_length.ensures ∙ c.if-bad_length.false)
    (rw c.places.ensures.value at c.in_default.ensures)

pub returns-in_default-quote : goal.returns-in_default-quote
returns-in_default-quote c =
    let e = c.in_ok-f.ensures in
    let l : length c.args.queue.now.packets ≡ 256 = search rules in
    let free = rw c.places.ensures.value at c.in-Some.ensures in
    put_6 c.args.queue.now c.args.flow c.args.length c.args.quote e.1 l (rw e.0 at c.if-not-queue-f.false) (sym c.bad_length.ensures ∙ c.if-bad_length.false)
    (omega (arith, free.0, free.1)) c.in_default-quote.is

pub returns : goal.returns
returns c =
    let e = c.in_ok-f.ensures in
    let q = c.args.queue.now in
    let l : length q.packets ≡ 256 = search rules in
    let o = rw e.0 at c.if-not-queue-f.false in
    let good = sym c.bad_length.ensures ∙ c.if-bad_length.false in
    let free = rw c.places.ensures.value at c.in-Some.ensures in
    record {
      known = e;
      open_lem = o;
      free = rw (e.0, free.0);
      within = omega (arith, e.0, e.1, free.1, long q c.args.flow c.args.length c.args.quote e.1 l o good);
      puts = put_ok q c.args.flow c.args.length c.args.quote e.1 l o good (omega (arith, free.0, free.1)) c.in-Some-quote.tags c.in-Some-quote.is;
    }
