-- Commands and replies as the rules spell them: the definitions compute.
use mathlib.Core.Path.{refl}
use Rattle.text.specs.Spelled.{bytes_of}
use Rattle.promises_sharing.specs.Texts.{CommandsSpelled, RepliesSpelled}

pub commands_spelled : CommandsSpelled
unfolding bytes_of
commands_spelled =
    record {
      class = λ parent weight. refl;
      hang = λ flow class. refl;
      set_up = refl;
      opening = λ flow weight. refl;
      closing = λ flow. refl;
      offer = λ flow length. refl;
      begin = refl;
      end = refl;
    }

pub replies_spelled : RepliesSpelled
unfolding bytes_of
replies_spelled =
    record {
      noted = refl;
      opened = record { tells = refl; written = refl };
      closed = record { tells = refl; written = refl };
      taken = λ number. record { tells = refl; written = refl };
      begun = λ flow number length start. record { tells = refl; written = refl };
      ended = λ flow number length. record { tells = refl; written = refl };
      lane_refused = λ refusal. (refl, refl);
      refused = λ refusal. refl;
      bad_tree_numbered = refl;
      bad_tree = refl;
      no_command = refl;
    }
