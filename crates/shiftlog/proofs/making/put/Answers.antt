-- A log that was written fits its room.
use Rattle.std.proofs.Common.{arith, sym, refl, length-take-le}
use Rattle.shiftlog.proofs.Laws.{fits_room}
use Rattle.shiftlog.proofs.making.put.Goals as goal

pub slice_bounds-room-end : goal.slice_bounds-room-end
slice_bounds-room-end c = let n = fits_room c.args.recorder c.args.events.now _ c.in-Ok.n _ c.in-Ok.ensures.value refl in omega (arith, n)

pub slice_bounds-answer-end : goal.slice_bounds-answer-end
slice_bounds-answer-end c =
    let n = fits_room c.args.recorder c.args.events.now _ c.in-Ok.n _ c.in-Ok.ensures.value refl in
    sym (length-take-le c.in-Ok.n c.write-written.new.room (omega (arith, n)))
