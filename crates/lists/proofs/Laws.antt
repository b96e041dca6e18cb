-- What the lists' lines promise, proved.
use mathlib.Core.Path.{refl}
use Rattle.text.specs.Spelled.{bytes_of}
use Rattle.lists.specs.Laws.{ListPromises}
use Rattle.lists.proofs.Texts.{reads_one_list}
use Rattle.lists.proofs.Answered.{lists_spelled, lines_answered}
use Rattle.lists.proofs.Pieces.{fed_in_pieces, takes_on}

pub list_promises : ListPromises
unfolding bytes_of
list_promises =
    record {
      D1 = reads_one_list;
      D1-text = lists_spelled;
      D2 = lines_answered;
      D2-lines =
          record {
            admitted = record { tells = refl; written = refl };
            fails = λ t. record { tells = refl; written = refl };
            rate = record { tells = refl; written = refl };
            refused = λ r. record { tells = refl; written = refl };
            refused_at = λ r k. record { tells = refl; written = refl };
          };
      D3 = fed_in_pieces;
      D4 = takes_on;
    }
