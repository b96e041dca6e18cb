-- What a call hands back to C.
use Rattle.station.specs.declared.Called.{Called as StationCalled}
use Rattle.plain.specs.Plain.{answer_of}
use Rattle.tuhkeliar_c.specs.declared.Called.{Called}

-- the station after the call, and its reply in plain numbers
abbrev pub called_of : StationCalled → Called
called_of called = record { station = called.station; answer = answer_of called.reply }
