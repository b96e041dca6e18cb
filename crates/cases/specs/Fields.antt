-- Sessions in which each kind of reply has a line whose numbers all differ, so that no two of them could change places unseen.
use Rattle.std.specs.Prelude.{◌≡◌}
use Rattle.text.specs.Spelled.{bytes_of}
use Rattle.session.specs.Whole.{session_of}

pub record Fields : Type 0 where
  -- three flows have a cell each for slots 0 and 1: slot 0 is lost, and the turn of slot 1 sends one and misses two; of the next two
  -- cells one is sent, and the other is missed in a lost turn
  pub urgent :
      session_of (bytes_of "U 5 2\nU 6 2\nU 7 2\nu 5 2\nu 6 2\nu 7 2\nx\nt\nu 5 2\nu 5 2\nt\nx\n")
      ≡ bytes_of "ok\nok\nok\nok 0 1\nok 0 1\nok 0 1\nidle missed 0\nsent 5 0 missed 2\nok 1 3\nok 2 3\nsent 5 1 missed 0\nidle missed 1\n"
  -- flow 2, of weight 16, has its second packet begun and ended
  pub fair :
      session_of (bytes_of "F 2 16\nf 2 1\nf 2 2\nb\ne\nb\ne\nf 2 0\n")
      ≡ bytes_of "ok\nok 0 0 45045\nok 1 45045 135135\nok 2 0 0\nok 2 0\nok 2 1 45045\nok 2 1\nno 15\n"
