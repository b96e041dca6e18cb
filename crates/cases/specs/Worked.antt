-- The rules' one whole session, in its own words.
use Rattle.std.specs.Prelude.{◌≡◌}
use Rattle.text.specs.Spelled.{bytes_of}
use Rattle.session.specs.Whole.{session_of}

-- The session gives its output, byte for byte.
abbrev pub Worked : Type 0
Worked =
    session_of (bytes_of "U 0 3\nU 1 1\nu 0 3\nu 1 1\nt\nt\nF 0 1\nf 0 100\nb\ne\nu 9 1\nb\n")
    ≡ bytes_of "ok\nok\nok 0 2\nok 0 0\nsent 1 0 missed 0\nsent 0 0 missed 0\nok\nok 0 0 72072000\nok 0 0 0\nok 0 0\nno 2\nno 9\n"
