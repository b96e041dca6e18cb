-- Commands and replies as the rules spell them: the definitions compute.
use mathlib.Core.Path.{refl}
use Rattle.text.specs.Spelled.{bytes_of}
use Rattle.promises.specs.Texts.{CommandsSpelled, RepliesSpelled}

pub commands_spelled : CommandsSpelled
unfolding bytes_of
commands_spelled =
    record {
      open_urgent = λ flow deadline. refl;
      open_fair = λ flow weight. refl;
      close_urgent = λ flow. refl;
      close_fair = λ flow. refl;
      offer_cell = λ flow deadline. refl;
      offer_packet = λ flow length. refl;
      open_turn = refl;
      lost_turn = refl;
      begin = refl;
      end = refl;
    }

pub replies_spelled : RepliesSpelled
unfolding bytes_of
replies_spelled =
    record {
      opened = record { tells = refl; written = refl };
      closed = record { tells = refl; written = refl };
      fair_opened = record { tells = refl; written = refl };
      fair_closed = record { tells = refl; written = refl };
      cell = λ number last. record { tells = refl; written = refl };
      sent = λ flow number missed. record { tells = refl; written = refl };
      idle = λ missed. record { tells = refl; written = refl };
      packet = λ number start finish. record { tells = refl; written = refl };
      begun = λ flow number length start. record { tells = refl; written = refl };
      ended = λ flow number length. record { tells = refl; written = refl };
      refused = λ refusal. record { tells = refl; written = refl };
      fair_refused = λ refusal. record { tells = refl; written = refl };
      no_command = refl;
    }
