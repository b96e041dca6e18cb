-- What a call of the class lane hands back to C.
use Rattle.classes.specs.declared.Done.{Done}
use Rattle.planting.specs.declared.Planted.{Planted}
use Rattle.class_plain.specs.Plain as plain
use Rattle.tuhkeliar_c.specs.declared.sharing.ClassCalled.{ClassCalled}

-- the lane after a call, and its answer in plain numbers
abbrev pub called_of : Done → ClassCalled
called_of done = record { lane = done.lane; answer = plain.answer_of done.answer }

-- the same of a tree that was described
abbrev pub planted_of : Planted → ClassCalled
planted_of planted = record { lane = planted.lane; answer = plain.planted_of planted.answer }
