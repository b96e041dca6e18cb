-- Each return is the case of a begin that its tests lead to.
use Rattle.packets.specs.Queue.{by_start}
use Rattle.packets.proofs.Calls.{begin_8, begin_first}
use Rattle.service.proofs.to_begin.Goals as goal

pub returns-then-queue : goal.returns-then-queue
returns-then-queue c = begin_8 by_start c.args.queue.now c.if-queue.true

pub returns : goal.returns
returns c = rw c.ok_or.ensures.value (begin_first by_start c.args.queue.now c.if-queue.false c.first.result c.first.ensures.choice)
